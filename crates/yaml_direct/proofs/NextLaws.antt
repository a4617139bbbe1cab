-- Where the next token stands, step by step.
use Rattle.std.proofs.Common.{ℕ, zero, suc, ◌+◌, ◌-◌, ◌≡◌, ◌≢◌, ◌<◌, ◌≤◌, ◌==◌, ◌||◌, Bool, true, false, List, [], ◌∷◌}
use Rattle.std.proofs.Common.{length, refl, sym, subst, ap, ◌∙◌, arith, inl, inr, drop}
use Rattle.std.proofs.lemmas.Bool.{cases_lt, ne_eqb}
use Rattle.std.proofs.lemmas.List.{drop_more, drop_all, get_or_past}
use Rattle.std.specs.Prelude.{if◌then◌else◌}
use Rattle.yaml_direct.specs.Gaps.{InLine, IsLineEnd}
use Rattle.yaml_grammar.specs.Bytes.{at}
use Rattle.yaml_grammar.specs.Gaps.{Before, apart, before, breaks, comment, gap, next, token}

-- what is left to be read is the same, but for whether a line ended on the way
pub record Goes (text : List ℕ) (i j : ℕ) (broken : Bool) : Type 0 where
  pub there : next text i ≡ next text j
  pub lines : breaks text i ≡ (broken || breaks text j)

-- the first of the bytes from a place on, and those behind it
pub bytes_at : (text : List ℕ) (i : ℕ) → i < length text → drop i text ≡ at text i ∷ drop (suc i) text
bytes_at text i inside =
    let one : i + 1 ≡ suc i = omega arith in
    drop_more text i 0 inside ∙ ap (λ k. at text i ∷ drop k text) one

inside_byte : (text : List ℕ) (i c : ℕ) → at text i ≡ suc c → i < length text
inside_byte text i c e =
    elim (cases_lt i (length text)) [
      | inl inside ↦ inside
      | inr behind ↦ absurd (omega (arith, e, get_or_past text i 0 behind))
    ]

pub bytes_are : (text : List ℕ) (i c : ℕ) → at text i ≡ suc c → drop i text ≡ suc c ∷ drop (suc i) text
bytes_are text i c e =
    bytes_at text i (inside_byte text i c e) ∙ ap (λ b. b ∷ drop (suc i) text) e

-- behind a space, and behind a line feed, stands what is apart
before_behind : (text : List ℕ) (i : ℕ) → (at text i == 32 || at text i == 10) ≡ true → before text (suc i) ≡ apart
before_behind text i e =
    let there : suc i - 1 ≡ i = omega arith in
    let none : (suc i == 0) ≡ false = ne_eqb (suc i) 0 (λ z. omega (arith, z)) in
    ap (λ (b : Bool). if b then apart else token)
    (subst (λ k. (suc i == 0 || (at text k == 32 || at text k == 10)) ≡ true) (sym there) (rw (none, e) refl))

space_turn : (b : Before) (cs : List ℕ) → (b ≡ comment → ⊥) → gap b (32 ∷ cs) ≡ (suc (gap apart cs).0, (gap apart cs).1)
space_turn apart cs h = refl
space_turn token cs h = refl
space_turn comment cs h = absurd (h refl)

feed_turn : (b : Before) (cs : List ℕ) → gap b (10 ∷ cs) ≡ (suc (gap apart cs).0, true)
feed_turn apart cs = refl
feed_turn token cs = refl
feed_turn comment cs = refl

no_comment : (b : Bool) → (if b then apart else token) ≡ comment → ⊥
no_comment true e = absurd cc
no_comment false e = absurd cc

moved : (i n : ℕ) → i + suc n ≡ suc i + n
moved i n = omega arith

by_gap : (text : List ℕ) (i j : ℕ) (b : Bool) (size : ℕ) → gap (before text i) (drop i text) ≡ (size, b || breaks text j)
    → i + size ≡ next text j → Goes text i j b
by_gap text i j b size g e = record { there = ap (λ r. i + r.0) g ∙ e; lines = ap (λ r. r.1) g }

pub space_goes : (text : List ℕ) (i : ℕ) → at text i ≡ 32 → Goes text i (suc i) false
space_goes text i e =
    let rest = drop (suc i) text in
    let later : gap (before text (suc i)) rest ≡ gap apart rest =
    ap (λ b. gap b rest) (before_behind text i (rw e refl)) in
    let turn = ap (gap (before text i)) (bytes_are text i 31 e)
    ∙ space_turn (before text i) rest (no_comment (i == 0 || (at text (i - 1) == 32 || at text (i - 1) == 10))) in
    by_gap text i (suc i) false (suc (gap apart rest).0)
    (turn ∙ ap (λ b. (suc (gap apart rest).0, b)) (sym (ap (λ r. r.1) later)))
    (moved i (gap apart rest).0 ∙ ap (λ r. suc i + r.0) (sym later))

pub feed_goes : (text : List ℕ) (i : ℕ) → at text i ≡ 10 → Goes text i (suc i) true
feed_goes text i e =
    let rest = drop (suc i) text in
    let later : gap (before text (suc i)) rest ≡ gap apart rest =
    ap (λ b. gap b rest) (before_behind text i (rw e refl)) in
    by_gap text i (suc i) true (suc (gap apart rest).0)
    (ap (gap (before text i)) (bytes_are text i 9 e) ∙ feed_turn (before text i) rest)
    (moved i (gap apart rest).0 ∙ ap (λ r. suc i + r.0) (sym later))

-- a comment goes on up to where its line ends
comment_turn : (c : ℕ) (cs : List ℕ) → c ≢ 10 → gap comment (c ∷ cs) ≡ (suc (gap comment cs).0, (gap comment cs).1)
comment_turn c cs h = rw (ne_eqb c 10 h) refl

comment_ends : (text : List ℕ) (j : ℕ) (b : Before) → IsLineEnd text j → gap comment (drop j text) ≡ gap b (drop j text)
comment_ends text j b (inl e) =
    ap (gap comment) (bytes_are text j 9 e)
    ∙ (feed_turn comment (drop (suc j) text) ∙ sym (feed_turn b (drop (suc j) text)))
    ∙ sym (ap (gap b) (bytes_are text j 9 e))
comment_ends text j b (inr over) =
    ap (gap comment) (drop_all j text over) ∙ none b ∙ sym (ap (gap b) (drop_all j text over))
  where
    none : (b : Before) → gap comment [] ≡ gap b []
    none apart = refl
    none token = refl
    none comment = refl

-- so many bytes before the rest
abbrev more_bytes : ℕ → ℕ × Bool → ℕ × Bool
more_bytes n r = (n + r.0, r.1)

no_bytes : (r : ℕ × Bool) → more_bytes 0 r ≡ r
no_bytes r = let same : 0 + r.0 ≡ r.0 = omega arith in ap (λ k. (k, r.1)) same

one_byte : (n : ℕ) (r : ℕ × Bool) → (suc (n + r.0), r.1) ≡ more_bytes (suc n) r
one_byte n r = let same : suc (n + r.0) ≡ suc n + r.0 = omega arith in ap (λ k. (k, r.1)) same

comment_to : (text : List ℕ) (n i : ℕ) → InLine text i (i + n) → i + n ≤ length text
    → gap comment (drop i text) ≡ more_bytes n (gap comment (drop (i + n) text))
comment_to text zero i inside within =
    let same : i + 0 ≡ i = omega arith in
    sym (ap (λ k. more_bytes 0 (gap comment (drop k text))) same ∙ no_bytes (gap comment (drop i text)))
comment_to text (suc n) i inside within =
    let there : suc i + n ≡ i + suc n = omega arith in
    let here : i < length text = omega (arith, within) in
    let later = comment_to text n (suc i) (λ k low high. inside k (omega (arith, low)) (omega (arith, high)))
    (omega (arith, within)) in
    ap (gap comment) (bytes_at text i here)
    ∙ comment_turn (at text i) (drop (suc i) text) (inside i (omega arith) (omega arith))
    ∙ ap (λ (r : ℕ × Bool). (suc r.0, r.1)) later
    ∙ one_byte n (gap comment (drop (suc i + n) text))
    ∙ ap (λ k. more_bytes (suc n) (gap comment (drop k text))) there

pub sharp_turn : (b : Before) (cs : List ℕ) → b ≡ apart → gap b (35 ∷ cs) ≡ (suc (gap comment cs).0, (gap comment cs).1)
sharp_turn b cs e = ap (λ x. gap x (35 ∷ cs)) e

pub comment_goes : (text : List ℕ) (i j : ℕ) → at text i ≡ 35 → before text i ≡ apart → suc i ≤ j → j ≤ length text
    → InLine text (suc i) j → IsLineEnd text j → Goes text i j false
comment_goes text i j e a low within inside ends =
    let n = j - suc i in
    let there : suc i + n ≡ j = omega (arith, low) in
    let to = comment_to text n (suc i) (subst (λ k. InLine text (suc i) k) (sym there) inside) (omega (arith, there, within))
    ∙ ap (λ k. more_bytes n (gap comment (drop k text))) there
    ∙ ap (more_bytes n) (comment_ends text j (before text j) ends) in
    let size = (gap (before text j) (drop j text)).0 in
    by_gap text i j false (suc (n + size))
    (ap (gap (before text i)) (bytes_are text i 34 e) ∙ sharp_turn (before text i) (drop (suc i) text) a
    ∙ ap (λ (r : ℕ × Bool). (suc r.0, r.1)) to)
    (omega (arith, there))

-- no more is to be stepped over
pub record Here (text : List ℕ) (i : ℕ) : Type 0 where
  pub there : next text i ≡ i
  pub lines : breaks text i ≡ false

here_by : (text : List ℕ) (i : ℕ) → gap (before text i) (drop i text) ≡ (0, false) → Here text i
here_by text i g =
    let none : i + 0 ≡ i = omega arith in
    record { there = ap (λ r. i + r.0) g ∙ none; lines = ap (λ r. r.1) g }

no_gap_at : (b : Bool) (c : ℕ) (cs : List ℕ) → c ≢ 10 → c ≢ 32 → c ≢ 35 → gap (if b then apart else token) (c ∷ cs) ≡ (0, false)
no_gap_at true c cs f s h = rw (ne_eqb c 10 f, ne_eqb c 32 s, ne_eqb c 35 h) refl
no_gap_at false c cs f s h = rw (ne_eqb c 10 f, ne_eqb c 32 s) refl

no_gap_over : (b : Bool) → gap (if b then apart else token) [] ≡ (0, false)
no_gap_over true = refl
no_gap_over false = refl

pub over_here : (text : List ℕ) (i : ℕ) → length text ≤ i → Here text i
over_here text i over =
    here_by text i (ap (gap (before text i)) (drop_all i text over)
    ∙ no_gap_over (i == 0 || (at text (i - 1) == 32 || at text (i - 1) == 10)))

pub token_here : (text : List ℕ) (i : ℕ) → at text i ≢ 10 → at text i ≢ 32 → at text i ≢ 35 → Here text i
token_here text i f s h =
    elim (cases_lt i (length text)) [
      | inl inside ↦ here_by text i (ap (gap (before text i)) (bytes_at text i inside)
          ∙ no_gap_at (i == 0 || (at text (i - 1) == 32 || at text (i - 1) == 10)) (at text i) (drop (suc i) text) f s h)
      | inr over ↦ over_here text i over
    ]

pub sharp_here : (text : List ℕ) (i : ℕ) → at text i ≡ 35 → before text i ≡ token → Here text i
sharp_here text i e t =
    here_by text i (ap (gap (before text i)) (bytes_are text i 34 e) ∙ ap (λ b. gap b (35 ∷ drop (suc i) text)) t)

-- what comes before a place, by the two tests
pub before_apart : (text : List ℕ) (i : ℕ) → (i == 0 || (at text (i - 1) == 32 || at text (i - 1) == 10)) ≡ true
    → before text i ≡ apart
before_apart text i e = ap (λ (b : Bool). if b then apart else token) e

pub before_token : (text : List ℕ) (i : ℕ) → (i == 0 || (at text (i - 1) == 32 || at text (i - 1) == 10)) ≡ false
    → before text i ≡ token
before_token text i e = ap (λ (b : Bool). if b then apart else token) e

pub goes_here : (text : List ℕ) (i : ℕ) → Goes text i i false
goes_here text i = record { there = refl; lines = refl }

or_assoc : (a b c : Bool) → (a || (b || c)) ≡ ((a || b) || c)
or_assoc true b c = refl
or_assoc false b c = refl

pub goes_on : (text : List ℕ) (i j k : ℕ) (a b : Bool) → Goes text i j a → Goes text j k b → Goes text i k (a || b)
goes_on text i j k a b f g = record {
  there = f.there ∙ g.there;
  lines = f.lines ∙ ap (λ x. a || x) g.lines ∙ or_assoc a b (breaks text k);
}

or_none : (a : Bool) → (a || false) ≡ a
or_none true = refl
or_none false = refl

pub goes_to : (text : List ℕ) (i j : ℕ) (b : Bool) → Goes text i j b → Here text j → (j ≡ next text i) × (b ≡ breaks text i)
goes_to text i j b f h = (sym (f.there ∙ h.there), sym (f.lines ∙ ap (λ x. b || x) h.lines ∙ or_none b))

-- over spaces
spaces_by : (text : List ℕ) (n i : ℕ) → ((k : ℕ) → i ≤ k → k < i + n → at text k ≡ 32) → Goes text i (i + n) false
spaces_by text zero i blank = let same : i ≡ i + 0 = omega arith in subst (λ k. Goes text i k false) same (goes_here text i)
spaces_by text (suc n) i blank =
    let there : suc i + n ≡ i + suc n = omega arith in
    goes_on text i (suc i) (i + suc n) false false (space_goes text i (blank i (omega arith) (omega arith)))
    (subst (λ k. Goes text (suc i) k false) there
    (spaces_by text n (suc i) (λ k low high. blank k (omega (arith, low)) (omega (arith, high)))))

pub spaces_go : (text : List ℕ) (i j : ℕ) → i ≤ j → ((k : ℕ) → i ≤ k → k < j → at text k ≡ 32) → Goes text i j false
spaces_go text i j low blank =
    let there : i + (j - i) ≡ j = omega (arith, low) in
    subst (λ k. Goes text i k false) there
    (spaces_by text (j - i) i (λ k a b. blank k a (omega (arith, b, there))))

-- `#` behind what is apart is stepped over
pub sharp_moves : (text : List ℕ) (i : ℕ) → at text i ≡ 35 → before text i ≡ apart → next text i ≡ i → ⊥
sharp_moves text i e a same =
    let size = ap (λ r. i + r.0)
    (ap (gap (before text i)) (bytes_are text i 34 e) ∙ sharp_turn (before text i) (drop (suc i) text) a) in
    let there : i + suc (gap comment (drop (suc i) text)).0 ≡ i = sym size ∙ same in
    omega (arith, there)
