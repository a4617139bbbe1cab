-- Equality of plain values in whose mappings no key stands twice: it goes both ways, and on from one to the next.
use Rattle.std.specs.Prelude.{◌≡◌, ℕ, zero, suc, ◌+◌, ◌==◌, Bool, true, false, ◌&&◌, ◌||◌, not, refl}
use Rattle.std.proofs.Common.{ap, arith, sym, ◌∙◌, true≢false}
use Rattle.std.proofs.lemmas.Bool.{and_from}
use Rattle.std.proofs.lemmas.Bool.Decides.{Decides-eqb}
use Rattle.std.specs.Cmp.{bool_eq_equiv, int_eq_equiv}
use Rattle.std.specs.Cmp.Lexicographic.{nat_list_eq_equiv}
use Rattle.yaml_tree.specs.TakeOut.{from_false, and_left, and_right}
use Rattle.yaml_value.specs.Distinct.{has_key, keys_distinct, is_distinct, are_distinct, are_pairs_distinct}
use Rattle.yaml_value.specs.Find.{without_place}
use Rattle.yaml_value.specs.PlainEqual.{plain_eq, items_eq, has_all_pairs, pair_passes}
use Rattle.yaml_value.specs.PlainValue.{PlainValue, null, boolean, integer, float, text, sequence, mapping, tagged}
use Rattle.yaml_value.specs.PlainValue.{PlainItems, no_items, item, PlainPairs, no_pairs, pair, pair_count}
use Rattle.yaml_value.proofs.Floats.{same_float-symm, same_float-trans}

-- ---- booleans
or_true : (a b : Bool) → b ≡ true → (a || b) ≡ true
or_true true b e = refl
or_true false b e = e

pub or_left : (a b : Bool) → (a || b) ≡ false → a ≡ false
or_left true b e = e
or_left false b e = refl

pub or_right : (a b : Bool) → (a || b) ≡ false → b ≡ false
or_right true b e = from_false (sym e)
or_right false b e = e

pub not_true : (b : Bool) → not b ≡ true → b ≡ false
not_true true e = from_false e
not_true false e = refl

-- ---- a pair in its place
abbrev pub HasPair : ℕ → PlainValue → PlainValue → PlainPairs → Type 0
HasPair j l w no_pairs = ⊥
HasPair zero l w (pair m u qs) = (m ≡ l) × (u ≡ w)
HasPair (suc j) l w (pair m u qs) = HasPair j l w qs

-- a pair that passes stands in some place
abbrev pub Found : (PlainValue → Bool) → (PlainValue → Bool) → PlainPairs → Type 0
Found f g qs = (j : ℕ) × (l : PlainValue) × (w : PlainValue) × HasPair j l w qs × (f l ≡ true) × (g w ≡ true)

found_at : (b : Bool) (f g : PlainValue → Bool) (m u : PlainValue) (qs : PlainPairs) → (f m && g u) ≡ b
    → (b || pair_passes f g qs) ≡ true → (pair_passes f g qs ≡ true → Found f g qs) → Found f g (pair m u qs)
found_at true f g m u qs is e rest = (0, m, u, (refl, refl), and_left _ _ is, and_right (f m) _ is)
found_at false f g m u qs is e rest = let r = rest e in (suc r.0, r.1, r.2, r.3, r.4, r.5)

pub find : (f g : PlainValue → Bool) (qs : PlainPairs) → pair_passes f g qs ≡ true → Found f g qs
find f g no_pairs e = from_false e
find f g (pair m u qs) e = found_at (f m && g u) f g m u qs refl e (find f g qs)

-- a pair that passes and has a place
there : (f g : PlainValue → Bool) (j : ℕ) (l w : PlainValue) (qs : PlainPairs) → HasPair j l w qs → f l ≡ true
    → g w ≡ true → pair_passes f g qs ≡ true
there f g j l w no_pairs h a b = absurd h
there f g zero l w (pair m u qs) h a b =
    ap (λ t. t || pair_passes f g qs) (and_from (f m) (g u) (ap f h.0 ∙ a) (ap g h.1 ∙ b))
there f g (suc j) l w (pair m u qs) h a b = or_true (f m && g u) _ (there f g j l w qs h a b)

other : (a b c : Bool) → a ≡ false → ((a && b) || c) ≡ true → c ≡ true
other true b c n e = absurd (true≢false n)
other false b c n e = e

keep : (a c d : Bool) → (a || c) ≡ true → (c ≡ true → d ≡ true) → (a || d) ≡ true
keep true c d e h = refl
keep false c d e h = h e

-- what passes is still there without a pair of another key
kept : (f g : PlainValue → Bool) (j : ℕ) (l w : PlainValue) (qs : PlainPairs) → HasPair j l w qs → f l ≡ false
    → pair_passes f g qs ≡ true → pair_passes f g (without_place j qs) ≡ true
kept f g j l w no_pairs h n e = absurd h
kept f g zero l w (pair m u qs) h n e = other (f m) (g u) (pair_passes f g qs) (ap f h.0 ∙ n) e
kept f g (suc j) l w (pair m u qs) h n e =
    keep (f m && g u) (pair_passes f g qs) (pair_passes f g (without_place j qs)) e (kept f g j l w qs h n)

-- none of these keys is equal to this one
abbrev pub NoneIs : PlainValue → PlainPairs → Type 0
NoneIs l no_pairs = Unit {0}
NoneIs l (pair k v ps) = (plain_eq k l ≡ false) × NoneIs l ps

pub all_kept : (j : ℕ) (l w : PlainValue) (qs ps : PlainPairs) → HasPair j l w qs → NoneIs l ps
    → has_all_pairs ps qs ≡ true → has_all_pairs ps (without_place j qs) ≡ true
all_kept j l w qs no_pairs h n e = refl
all_kept j l w qs (pair k v ps) h n e =
    and_from _ _ (kept (plain_eq k) (plain_eq v) j l w qs h n.0 (and_left _ _ e))
    (all_kept j l w qs ps h n.1 (and_right (pair_passes (plain_eq k) (plain_eq v) qs) _ e))

pub count_without : (j : ℕ) (l w : PlainValue) (qs : PlainPairs) → HasPair j l w qs
    → pair_count qs ≡ pair_count (without_place j qs) + 1
count_without j l w no_pairs h = absurd h
count_without zero l w (pair m u qs) h = refl
count_without (suc j) l w (pair m u qs) h = ap (λ n. n + 1) (count_without j l w qs h)

-- ---- on from one to the next
in_all : (b c : PlainPairs) (j : ℕ) (l w : PlainValue) → HasPair j l w b → has_all_pairs b c ≡ true
    → pair_passes (plain_eq l) (plain_eq w) c ≡ true
in_all no_pairs c j l w h e = absurd h
in_all (pair m u qs) c zero l w h e =
    sym (λ i. pair_passes (plain_eq (h.0 i)) (plain_eq (h.1 i)) c) ∙ and_left _ _ e
in_all (pair m u qs) c (suc j) l w h e =
    in_all qs c j l w h (and_right (pair_passes (plain_eq m) (plain_eq u) c) _ e)

same_count : (a b c : ℕ) → (a == b) ≡ true → (b == c) ≡ true → (a == c) ≡ true
same_count a b c e f = (Decides-eqb a c).1 ((Decides-eqb a b).0 e ∙ (Decides-eqb b c).0 f)

mutual
  pub plain_eq-trans : (a b c : PlainValue) → plain_eq a b ≡ true → plain_eq b c ≡ true → plain_eq a c ≡ true
  plain_eq-trans null null c e f = f
  plain_eq-trans (boolean a) (boolean b) (boolean c) e f = bool_eq_equiv.congr a b c e ∙ f
  plain_eq-trans (boolean a) (boolean b) _ e f = from_false f
  plain_eq-trans (integer a) (integer b) (integer c) e f = int_eq_equiv.congr a b c e ∙ f
  plain_eq-trans (integer a) (integer b) _ e f = from_false f
  plain_eq-trans (float a) (float b) (float c) e f = same_float-trans a b c e f
  plain_eq-trans (float a) (float b) _ e f = from_false f
  plain_eq-trans (text a) (text b) (text c) e f = nat_list_eq_equiv.congr a b c e ∙ f
  plain_eq-trans (text a) (text b) _ e f = from_false f
  plain_eq-trans (sequence a) (sequence b) (sequence c) e f = items_eq-trans a b c e f
  plain_eq-trans (sequence a) (sequence b) _ e f = from_false f
  plain_eq-trans (mapping a) (mapping b) (mapping c) e f =
      and_from _ _ (same_count (pair_count a) (pair_count b) (pair_count c) (and_left _ _ e) (and_left _ _ f))
      (all-trans a b c (and_right (pair_count a == pair_count b) _ e)
      (and_right (pair_count b == pair_count c) _ f))
  plain_eq-trans (mapping a) (mapping b) _ e f = from_false f
  plain_eq-trans (tagged s a) (tagged t b) (tagged u c) e f =
      and_from _ _ (nat_list_eq_equiv.congr s t u (and_left _ _ e) ∙ and_left _ _ f)
      (plain_eq-trans a b c (and_right _ (plain_eq a b) e) (and_right _ (plain_eq b c) f))
  plain_eq-trans (tagged s a) (tagged t b) _ e f = from_false f
  plain_eq-trans _ _ c e f = from_false e

  items_eq-trans : (a b c : PlainItems) → items_eq a b ≡ true → items_eq b c ≡ true → items_eq a c ≡ true
  items_eq-trans no_items no_items c e f = f
  items_eq-trans (item a xs) (item b ys) (item c zs) e f =
      and_from _ _ (plain_eq-trans a b c (and_left _ _ e) (and_left _ _ f))
      (items_eq-trans xs ys zs (and_right (plain_eq a b) _ e) (and_right (plain_eq b c) _ f))
  items_eq-trans (item a xs) (item b ys) no_items e f = from_false f
  items_eq-trans no_items (item b ys) c e f = from_false e
  items_eq-trans (item a xs) no_items c e f = from_false e

  all-trans : (a b c : PlainPairs) → has_all_pairs a b ≡ true → has_all_pairs b c ≡ true → has_all_pairs a c ≡ true
  all-trans no_pairs b c e f = refl
  all-trans (pair k v ps) b c e f =
      let r = find (plain_eq k) (plain_eq v) b (and_left _ _ e) in
      let q = find (plain_eq r.1) (plain_eq r.2) c (in_all b c r.0 r.1 r.2 r.3 f) in
      and_from _ _
      (there (plain_eq k) (plain_eq v) q.0 q.1 q.2 c q.3 (plain_eq-trans k r.1 q.1 r.4 q.4)
      (plain_eq-trans v r.2 q.2 r.5 q.5))
      (all-trans ps b c (and_right (pair_passes (plain_eq k) (plain_eq v) b) _ e) f)

-- ---- both ways
abbrev pub IsSymmetric : PlainValue → Type 0
IsSymmetric k = (l : PlainValue) → plain_eq k l ≡ true → plain_eq l k ≡ true

abbrev pub AreSymmetric : PlainPairs → Type 0
AreSymmetric no_pairs = Unit {0}
AreSymmetric (pair k v ps) = IsSymmetric k × IsSymmetric v × AreSymmetric ps

differs : (b : Bool) (k l m : PlainValue) → IsSymmetric m → plain_eq k l ≡ true → plain_eq k m ≡ false
    → plain_eq m l ≡ b → b ≡ false
differs true k l m s e n is = absurd (true≢false (sym (plain_eq-trans k l m e (s l is)) ∙ n))
differs false k l m s e n is = refl

-- what is equal to a key that stands in no pair is equal to the key of none
pub none_is : (k l : PlainValue) (ps : PlainPairs) → AreSymmetric ps → plain_eq k l ≡ true → has_key k ps ≡ false
    → NoneIs l ps
none_is k l no_pairs s e n = tt
none_is k l (pair m u ps) s e n = (
  differs (plain_eq m l) k l m s.0 e (or_left (plain_eq k m) (has_key k ps) n) refl,
  none_is k l ps s.2 e (or_right (plain_eq k m) (has_key k ps) n),
)

wider : (k v : PlainValue) (ps qs : PlainPairs) → has_all_pairs qs ps ≡ true → has_all_pairs qs (pair k v ps) ≡ true
wider k v ps no_pairs e = refl
wider k v ps (pair l w qs) e =
    and_from _ _ (or_true (plain_eq l k && plain_eq w v) _ (and_left _ _ e))
    (wider k v ps qs (and_right (pair_passes (plain_eq l) (plain_eq w) ps) _ e))

put_back : (j : ℕ) (l w : PlainValue) (qs c : PlainPairs) → HasPair j l w qs
    → pair_passes (plain_eq l) (plain_eq w) c ≡ true → has_all_pairs (without_place j qs) c ≡ true
    → has_all_pairs qs c ≡ true
put_back j l w no_pairs c h p e = absurd h
put_back zero l w (pair m u qs) c h p e =
    and_from _ _ ((λ i. pair_passes (plain_eq (h.0 i)) (plain_eq (h.1 i)) c) ∙ p) e
put_back (suc j) l w (pair m u qs) c h p e =
    and_from _ _ (and_left _ _ e)
    (put_back j l w qs c h p (and_right (pair_passes (plain_eq m) (plain_eq u) c) _ e))

all-back : (a b : PlainPairs) → AreSymmetric a → keys_distinct a ≡ true → pair_count a ≡ pair_count b
    → has_all_pairs a b ≡ true → has_all_pairs b a ≡ true
all-back no_pairs no_pairs s d n e = refl
all-back no_pairs (pair l w qs) s d n e = absurd (omega (arith, n))
all-back (pair k v ps) b s d n e =
    let r = find (plain_eq k) (plain_eq v) b (and_left _ _ e) in
    let none = none_is k r.1 ps s.2 r.4 (not_true (has_key k ps) (and_left _ _ d)) in
    let rest = all_kept r.0 r.1 r.2 b ps r.3 none (and_right (pair_passes (plain_eq k) (plain_eq v) b) _ e) in
    let fewer : pair_count ps ≡ pair_count (without_place r.0 b) = omega (arith, n, count_without r.0 r.1 r.2 b r.3) in
    let back = all-back ps (without_place r.0 b) s.2 (and_right (not (has_key k ps)) _ d) fewer rest in
    put_back r.0 r.1 r.2 b (pair k v ps) r.3
    (ap (λ t. t || pair_passes (plain_eq r.1) (plain_eq r.2) ps)
    (and_from (plain_eq r.1 k) (plain_eq r.2 v) (s.0 r.1 r.4) (s.1 r.2 r.5)))
    (wider k v ps (without_place r.0 b) back)

pub count_is : (a b : ℕ) → (a == b) ≡ true → a ≡ b
count_is a b e = (Decides-eqb a b).0 e

mutual
  pub plain_eq-symm : (a b : PlainValue) → is_distinct a ≡ true → plain_eq a b ≡ true → plain_eq b a ≡ true
  plain_eq-symm null null d e = refl
  plain_eq-symm (boolean a) (boolean b) d e = bool_eq_equiv.symm b a ∙ e
  plain_eq-symm (integer a) (integer b) d e = int_eq_equiv.symm b a ∙ e
  plain_eq-symm (float a) (float b) d e = same_float-symm a b e
  plain_eq-symm (text a) (text b) d e = nat_list_eq_equiv.symm b a ∙ e
  plain_eq-symm (sequence a) (sequence b) d e = items_eq-symm a b d e
  plain_eq-symm (mapping a) (mapping b) d e =
      let n = count_is (pair_count a) (pair_count b) (and_left _ _ e) in
      and_from _ _ ((Decides-eqb (pair_count b) (pair_count a)).1 (sym n))
      (all-back a b (are-symmetric a (and_right (keys_distinct a) _ d)) (and_left _ _ d) n
      (and_right (pair_count a == pair_count b) _ e))
  plain_eq-symm (tagged s a) (tagged t b) d e =
      and_from _ _ (nat_list_eq_equiv.symm t s ∙ and_left _ _ e)
      (plain_eq-symm a b d (and_right _ (plain_eq a b) e))
  plain_eq-symm _ _ d e = from_false e

  items_eq-symm : (a b : PlainItems) → are_distinct a ≡ true → items_eq a b ≡ true → items_eq b a ≡ true
  items_eq-symm no_items no_items d e = refl
  items_eq-symm (item a xs) (item b ys) d e =
      and_from _ _ (plain_eq-symm a b (and_left _ _ d) (and_left _ _ e))
      (items_eq-symm xs ys (and_right (is_distinct a) _ d) (and_right (plain_eq a b) _ e))
  items_eq-symm no_items (item b ys) d e = from_false e
  items_eq-symm (item a xs) no_items d e = from_false e

  pub are-symmetric : (ps : PlainPairs) → are_pairs_distinct ps ≡ true → AreSymmetric ps
  are-symmetric no_pairs d = tt
  are-symmetric (pair k v ps) d =
      let more = and_right (is_distinct k) (is_distinct v && are_pairs_distinct ps) d in (
        λ l e. plain_eq-symm k l (and_left _ _ d) e,
        λ w e. plain_eq-symm v w (and_left _ _ more) e,
        are-symmetric ps (and_right (is_distinct v) _ more),
      )
