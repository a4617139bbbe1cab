-- What begins with a byte, and what does not.
use Rattle.std.proofs.Common.{◌≡◌, ◌≢◌, ℕ, suc, ◌+◌, ◌-◌, ◌≤◌, ◌==◌, ◌&&◌, ◌||◌, not, Bool, true, false, List, [], ◌∷◌}
use Rattle.std.proofs.Common.{length}
use Rattle.std.proofs.Common.{Option, Some, None, refl, sym, ap, ◌∙◌, arith, drop, inl, inr, codes, ne_eqb}
use Rattle.std.specs.Prelude.{if◌then◌else◌, nat_eq, option_and_then}
use Rattle.std.proofs.lemmas.Bool.{false≢true, and_parts, or_cases, or_parts, eqb-true, false_from_ne_true, not-true}
use Rattle.std.proofs.lemmas.List.{get_or-drop, get_or_past}
use Rattle.yaml_base.specs.QuotedLines.{none}
use Rattle.yaml_base.specs.declared.event.ScalarStyle.TheVariants as style
use Rattle.yaml_grammar.specs.Bytes.{at, column, is_bracket, is_gap, is_indicator, is_mark, is_one_of, parts_documents}
use Rattle.yaml_grammar.specs.Gaps.{apart, breaks, gap, next, token}
use Rattle.yaml_grammar.specs.Folding.{Rest, nothing_passed}
use Rattle.yaml_grammar.specs.Leaves.{Leaf, alias_at, leaf_at, styled}
use Rattle.yaml_grammar.specs.Names.{Names, count_while, names_at, one_name, unnamed}
use Rattle.yaml_grammar.specs.Plain.{Context, begins_plain, in_brackets, is_flow, is_safe, plain_at, plain_rest}
use Rattle.yaml_grammar.specs.Quotes.{double_rest, single_rest}
use Rattle.yaml_reading.proofs.Options.{no_some}

-- a space, a line feed, a comment, an anchor or a tag may begin with this byte
abbrev pub wanders : ℕ → Bool
wanders c = c == 32 || (c == 10 || (c == 35 || (c == 38 || c == 33)))

-- nothing of these stands here
pub record Stays (text : List ℕ) (i : ℕ) : Type 0 where
  pub names : (flow : Bool) → names_at text flow i ≡ Some (unnamed, i)
  pub here : next text i ≡ i
  pub in_line : breaks text i ≡ false

pub at_drop : (text : List ℕ) (i : ℕ) → at (drop i text) 0 ≡ at text i
at_drop text i = get_or-drop i text 0 0 ∙ ap (at text) (omega arith)

-- behind the text
pub byte_behind : (text : List ℕ) (i : ℕ) → length text ≤ i → at text i ≡ 0
byte_behind text i le = get_or_past text i 0 le

no_gap_bytes : (b : Bool) (cs : List ℕ) → (at cs 0 == 32) ≡ false → (at cs 0 == 10) ≡ false → (at cs 0 == 35) ≡ false
    → gap (if b then apart else token) cs ≡ (0, false)
no_gap_bytes true [] s f h = refl
no_gap_bytes false [] s f h = refl
no_gap_bytes true (c ∷ cs) s f h = rw (f, s, h) refl
no_gap_bytes false (c ∷ cs) s f h = rw (f, s) refl

no_spaces : (cs : List ℕ) → nat_eq 32 (at cs 0) ≡ false → count_while (nat_eq 32) cs ≡ 0
no_spaces [] h = refl
no_spaces (c ∷ cs) h = rw h refl

swapped : (c d : ℕ) → (c == d) ≡ false → (d == c) ≡ false
swapped c d h = ne_eqb d c (λ e. false≢true (sym h ∙ rw e (eq_self c)))
  where
    eq_self : (c : ℕ) → (c == c) ≡ true
    eq_self c = grind arith

one_is : (text : List ℕ) (flow : Bool) (i : ℕ) → count_while (nat_eq 32) (drop i text) ≡ 0
    → (at text i == 38) ≡ false → (at text i == 33) ≡ false → one_name text flow (unnamed, i) ≡ Some (unnamed, i)
one_is text flow i n a t =
    let here : i + count_while (nat_eq 32) (drop i text) ≡ i = omega (arith, n) in
    let answer : Option (Names × ℕ) = Some (unnamed, i) in
    rw (here, a, t) (refl {a = answer})

pub stays : (text : List ℕ) (i : ℕ) → wanders (at text i) ≡ false → Stays text i
stays text i w =
    let space = or_parts (at text i == 32) _ w in
    let feed = or_parts (at text i == 10) _ space.1 in
    let hash = or_parts (at text i == 35) _ feed.1 in
    let names = or_parts (at text i == 38) (at text i == 33) hash.1 in
    let first = at_drop text i in
    let nothing = no_gap_bytes (i == 0 || (at text (i - 1) == 32 || at text (i - 1) == 10)) (drop i text)
    (ap (λ c. c == 32) first ∙ space.0) (ap (λ c. c == 10) first ∙ feed.0) (ap (λ c. c == 35) first ∙ hash.0) in
    let count = no_spaces (drop i text) (ap (nat_eq 32) first ∙ swapped (at text i) 32 space.0) in
    record {
      names = λ flow. ap (option_and_then (one_name text flow)) (one_is text flow i count names.0 names.1)
          ∙ one_is text flow i count names.0 names.1;
      here = ap (λ r. i + r.0) nothing ∙ zero_more i;
      in_line = ap (λ r. r.1) nothing;
    }
  where
    zero_more : (i : ℕ) → i + 0 ≡ i
    zero_more i = omega arith

-- a byte that begins no leaf
abbrev pub no_leaf_byte : ℕ → Bool
no_leaf_byte c = (is_gap c || is_indicator c) && not (c == 42 || (c == 39 || c == 34))

gap_first : (g d r : Bool) → (g || d) ≡ true → (not g && (not d && r)) ≡ false
gap_first true d r h = refl
gap_first false true r h = refl
gap_first false false r h = absurd (false≢true h)

plain_none : (text : List ℕ) (context : Context) (i : ℕ) → begins_plain text (is_flow context) i ≡ false
    → ◌≡◌ {A = Rest} (plain_at text context i) None
plain_none text context i b =
    let rest = plain_rest context (column text i) 0 nothing_passed (drop i text) in
    ap (λ x. if x then rest else None) b

fourth_way : {A : Type 0} (x y z : Bool) (a b c d : A) → x ≡ false → y ≡ false → z ≡ false
    → (if x then a else if y then b else if z then c else d) ≡ d
fourth_way true y z a b c d p q r = absurd (false≢true (sym p))
fourth_way false true z a b c d p q r = absurd (false≢true (sym q))
fourth_way false false true a b c d p q r = absurd (false≢true (sym r))
fourth_way false false false a b c d p q r = refl

none_else : (text : List ℕ) (context : Context) (i : ℕ) → (at text i == 42) ≡ false → (at text i == 39) ≡ false
    → (at text i == 34) ≡ false → begins_plain text (is_flow context) i ≡ false → leaf_at text context i ≡ None
none_else text context i a s d b =
    let flow = is_flow context in
    fourth_way (at text i == 42) (at text i == 39) (at text i == 34) (alias_at text flow (suc i))
    (styled style.SingleQuoted (suc i) (single_rest false false nothing_passed (drop (suc i) text)))
    (styled style.DoubleQuoted (suc i) (double_rest none false nothing_passed (drop (suc i) text)))
    (styled style.Plain i (plain_at text context i)) a s d
    ∙ ap (styled style.Plain i) (plain_none text context i b)

pub no_leaf : (text : List ℕ) (context : Context) (i : ℕ) → no_leaf_byte (at text i) ≡ true
    → leaf_at text context i ≡ None
no_leaf text context i h =
    let both = and_parts (is_gap (at text i) || is_indicator (at text i)) _ h in
    let alias = or_parts (at text i == 42) _ (not-true _ both.1) in
    let quotes = or_parts (at text i == 39) _ alias.1 in
    none_else text context i alias.0 quotes.0 quotes.1
    (gap_first (is_gap (at text i)) (is_indicator (at text i)) _ both.0)

pub no_leaf_at : (text : List ℕ) (context : Context) (i c : ℕ) → at text i ≡ c → no_leaf_byte c ≡ true
    → leaf_at text context i ≡ None
no_leaf_at text context i c e h = no_leaf text context i (ap no_leaf_byte e ∙ h)

-- `-`, `?` and `:` before a gap begin no leaf
abbrev pub is_dash : ℕ → Bool
is_dash c = c == 45 || (c == 63 || c == 58)

all_false : (x y z m s : Bool) → m ≡ true → s ≡ false → (x && (y && (z && (not m || s)))) ≡ false
all_false true true true m s p q = rw (p, q) refl
all_false true true false m s p q = refl
all_false true false z m s p q = refl
all_false false y z m s p q = refl

pub no_leaf_mark : (text : List ℕ) (context : Context) (i c : ℕ) → is_dash c ≡ true → is_mark text c i ≡ true
    → leaf_at text context i ≡ None
no_leaf_mark text context i c d m =
    let parts = and_parts (at text i == c) _ m in
    let byte = eqb-true (at text i) c parts.0 in
    elim (or_cases (c == 45) _ d) [
      | inl e ↦ of_byte 45 (byte ∙ eqb-true c 45 e) refl refl refl refl parts.1
      | inr h ↦ elim (or_cases (c == 63) (c == 58) h) [
        | inl e ↦ of_byte 63 (byte ∙ eqb-true c 63 e) refl refl refl refl parts.1
        | inr e ↦ of_byte 58 (byte ∙ eqb-true c 58 e) refl refl refl refl parts.1
      ]
    ]
  where
    of_byte : (b : ℕ) → at text i ≡ b → (b == 42) ≡ false → (b == 39) ≡ false → (b == 34) ≡ false
        → is_one_of (codes "-?:") b ≡ true → is_gap (at text (i + 1)) ≡ true → leaf_at text context i ≡ None
    of_byte b e alias single double other g =
        none_else text context i (ap (λ c. c == 42) e ∙ alias) (ap (λ c. c == 39) e ∙ single)
        (ap (λ c. c == 34) e ∙ double)
        (all_false (not (is_gap (at text i))) (not (is_indicator (at text i))) (not (parts_documents text i))
        (is_one_of (codes "-?:") (at text i)) (is_safe (is_flow context) (at text i) (at text (i + 1)))
        (ap (is_one_of (codes "-?:")) e ∙ other) (rw g refl))

-- nor does `:` in brackets
pub no_leaf_colon : (text : List ℕ) (i : ℕ) → at text i ≡ 58 → leaf_at text in_brackets i ≡ None
no_leaf_colon text i e =
    let second = at text (i + 1) in
    none_else text in_brackets i (ap (λ c. c == 42) e) (ap (λ c. c == 39) e) (ap (λ c. c == 34) e)
    (all_false (not (is_gap (at text i))) (not (is_indicator (at text i))) (not (parts_documents text i))
    (is_one_of (codes "-?:") (at text i)) (is_safe true (at text i) second)
    (ap (is_one_of (codes "-?:")) e)
    (ap (λ c. is_safe true c second) e ∙ unsafe (not (is_gap second)) (is_bracket second)))
  where
    unsafe : (x y : Bool) → (x && not (true && (y || true))) ≡ false
    unsafe true true = refl
    unsafe true false = refl
    unsafe false y = refl

wander_no_leaf : (c : ℕ) → wanders c ≡ true → no_leaf_byte c ≡ true
wander_no_leaf c h = elim (or_cases (c == 32) _ h) [
  | inl e ↦ rw (eqb-true c 32 e) refl
  | inr h ↦ elim (or_cases (c == 10) _ h) [
    | inl e ↦ rw (eqb-true c 10 e) refl
    | inr h ↦ elim (or_cases (c == 35) _ h) [
      | inl e ↦ rw (eqb-true c 35 e) refl
      | inr h ↦ elim (or_cases (c == 38) _ h) [
        | inl e ↦ rw (eqb-true c 38 e) refl
        | inr e ↦ rw (eqb-true c 33 e) refl
      ]
    ]
  ]
]

-- a leaf begins in its first byte
pub leaf_stays : (text : List ℕ) (context : Context) (i : ℕ) (r : Leaf × ℕ) → leaf_at text context i ≡ Some r
    → Stays text i
leaf_stays text context i r h =
    stays text i (false_from_ne_true _ (λ w. no_some r
    (sym (no_leaf text context i (wander_no_leaf (at text i) w)) ∙ h)))

pub stays_at : (text : List ℕ) (i c : ℕ) → at text i ≡ c → wanders c ≡ false → Stays text i
stays_at text i c e h = stays text i (ap wanders e ∙ h)

-- what is a leaf is nothing else
pub leaf_no : (text : List ℕ) (context : Context) (i c : ℕ) (r : Leaf × ℕ) → leaf_at text context i ≡ Some r
    → no_leaf_byte c ≡ true → at text i ≢ c
leaf_no text context i c r h n e = no_some r (sym (no_leaf_at text context i c e n) ∙ h)
