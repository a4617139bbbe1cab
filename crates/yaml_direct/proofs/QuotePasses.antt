-- What is read between quotes goes on behind each byte that stands for another, so it ends where the quote closes.
use Rattle.std.proofs.Common.{ℕ, zero, suc, ◌+◌, ◌-◌, ◌*◌, ◌<◌, ◌≤◌, ◌≡◌, ◌≢◌, ◌==◌, ◌&&◌, Bool, true, false}
use Rattle.std.proofs.Common.{List, [], ◌∷◌, ◌++◌, Option, Some, None, length, refl, sym, subst, ap, ◌∙◌, arith, inl, inr}
use Rattle.std.proofs.Common.{drop}
use Rattle.std.proofs.lemmas.Bool.{and_parts, cases_Bool, cases_eq, cases_lt, eq-eqb, eqb-true, false≢true}
use Rattle.std.proofs.lemmas.Bool.{ne_eqb, not-true, or_cases, or_parts}
use Rattle.std.proofs.lemmas.List.{drop_all, get_or_past}
use Rattle.std.specs.Char.{digit_value}
use Rattle.std.specs.Prelude.{nat_lt}
use Rattle.yaml_base.specs.QuotedLines.{Escape, backslash, character_code, digits, letter_code, none}
use Rattle.yaml_direct.specs.LeftInBrackets.{Passes, other, passed}
use Rattle.yaml_direct.specs.Quoted.{EndsRun, IsRun, is_other, is_stop}
use Rattle.yaml_direct.specs.Quoted.{quoted_rest}
use Rattle.yaml_direct.specs.declared.quote.Quote.{Quote}
use Rattle.yaml_direct.specs.declared.quote.Quote.TheVariants.{Double}
use Rattle.yaml_direct.proofs.NextLaws.{bytes_at}
use Rattle.yaml_grammar.specs.Bytes.{at, is_blank, parts}
use Rattle.yaml_grammar.specs.Folding.{Passed, Rest, and_blank, nothing_passed, said_by, with_bytes}
use Rattle.yaml_grammar.specs.Quotes.{double_rest, with_character}
use Rattle.yaml_reading.proofs.Options.{map_some, no_some, pair_is}

-- where so many bytes are read from a place, the rest of them is read from another
pub record ReadsOn (text : List ℕ) (quote : Quote) (i n j : ℕ) : Type 0 where
  pub size : ℕ
  pub said : List ℕ
  pub begins : Bool
  pub before : Passed
  pub rest : ◌≡◌ {A = Rest} (quoted_rest quote begins before (drop j text)) (Some (size, said))
  pub there : i + n ≡ j + size

here : (text : List ℕ) (quote : Quote) (begins : Bool) (p : Passed) (i n : ℕ) (said : List ℕ)
    → ◌≡◌ {A = Rest} (quoted_rest quote begins p (drop i text)) (Some (n, said)) → ReadsOn text quote i n i
here text quote begins p i n said h = record {
  size = n;
  said = said;
  begins = begins;
  before = p;
  rest = h;
  there = refl;
}

-- a byte that was read
pub one_on : (text : List ℕ) (quote : Quote) (i n j : ℕ) (s said : List ℕ) (r : Rest)
    → ◌≡◌ {A = Rest} (with_bytes 1 s r) (Some (n, said))
    → ((m : ℕ) (t : List ℕ) → ◌≡◌ {A = Rest} r (Some (m, t)) → ReadsOn text quote (suc i) m j) → ReadsOn text quote i n j
one_on text quote i n j s said r h more =
    let t = map_some r _ (n, said) h in
    let size : 1 + t.0.0 ≡ n = (pair_is (1 + t.0.0) n (s ++ t.0.1) said (ap Some t.2)).0 in
    let x = more t.0.0 t.0.1 t.1 in
    let there : suc i + t.0.0 ≡ j + x.size = x.there in
    record {
      size = x.size;
      said = x.said;
      begins = x.begins;
      before = x.before;
      rest = x.rest;
      there = omega (arith, size, there);
    }

-- no byte of a digit stands where a run ends
no_digit : (text : List ℕ) (i : ℕ) → EndsRun text Double i → nat_lt (digit_value (at text i)) 16 ≡ false
no_digit text i (inr over) = ap (λ c. nat_lt (digit_value c) 16) (get_or_past text i 0 over)
no_digit text i (inl stop) = elim (or_cases (at text i == 34) _ stop) [
  | inl e ↦ ap (λ c. nat_lt (digit_value c) 16) (eqb-true (at text i) 34 e)
  | inr h ↦ elim (or_cases (at text i == 92) (at text i == 10) h) [
    | inl e ↦ ap (λ c. nat_lt (digit_value c) 16) (eqb-true (at text i) 92 e)
    | inr e ↦ ap (λ c. nat_lt (digit_value c) 16) (eqb-true (at text i) 10 e)
  ]
]

no_digit_rest : (left code c : ℕ) (begins : Bool) (p : Passed) (cs : List ℕ) → nat_lt (digit_value c) 16 ≡ false
    → ◌≡◌ {A = Rest} (double_rest (digits left code) begins p (c ∷ cs)) None
no_digit_rest left code c begins p cs e = rw e refl

-- an escape begins here
other_first : (text : List ℕ) (i : ℕ) → is_other text Double i ≡ true → (at text i ≡ 92) × (at text (suc i) ≢ 10)
other_first text i h =
    let both = and_parts (at text i == 92) _ h in
    let one : i + 1 ≡ suc i = omega arith in
    let feed = (or_parts (at text (i + 1) == 10) _ (not-true _ both.1)).0 in
    (eqb-true (at text i) 92 both.0, λ e. false≢true (sym feed ∙ eq-eqb (at text (i + 1)) 10 (ap (at text) one ∙ e)))

other_ends : (text : List ℕ) (i : ℕ) → is_other text Double i ≡ true → EndsRun text Double i
other_ends text i h = inl (let e = (other_first text i h).0 in rw e refl)

passes_end : (text : List ℕ) (i j : ℕ) → Passes text Double i j → EndsRun text Double j → EndsRun text Double i
passes_end text i j passed ends = ends
passes_end text i j (other k is low run rest) ends = other_ends text i is

-- where reading stands: behind no part of an escape, behind its backslash, or behind some digits
abbrev pub Before : List ℕ → Escape → (i first : ℕ) → Type 0
Before text none i first = (i ≤ first) × IsRun text Double i first
Before text backslash i first = (at text i ≢ 10) × ((suc i ≤ first) × IsRun text Double (suc i) first)
Before text (digits left code) i first = (i ≤ first) × IsRun text Double i first

run_on : (text : List ℕ) (quote : Quote) (i j : ℕ) → IsRun text quote i j → IsRun text quote (suc i) j
run_on text quote i j run k low high = run k (omega (arith, low)) high

over_none : (text : List ℕ) (esc : Escape) (begins : Bool) (p : Passed) (i : ℕ) → length text ≤ i
    → ◌≡◌ {A = Rest} (double_rest esc begins p (drop i text)) None
over_none text esc begins p i over = ap (double_rest esc begins p) (drop_all i text over)

-- what a byte that stands for itself is read as
self_rest : (c : ℕ) (begins : Bool) (p : Passed) (cs : List ℕ) (n : ℕ) (said : List ℕ) → is_stop Double c ≡ false
    → ◌≡◌ {A = Rest} (double_rest none begins p (c ∷ cs)) (Some (n, said))
    → (s : List ℕ) × (q : Passed) × (◌≡◌ {A = Rest} (with_bytes 1 s (double_rest none false q cs)) (Some (n, said)))
self_rest c begins p cs n said stop h =
    let quote = or_parts (c == 34) _ stop in
    let slash = or_parts (c == 92) (c == 10) quote.1 in
    elim (cases_Bool (begins && parts (c ∷ cs))) [
      | inl parted ↦ absurd (no_some (n, said) (rw parted at h))
      | inr whole ↦ elim (cases_Bool (is_blank c)) [
        | inl blank ↦ ([], and_blank p c, rw (whole, quote.0, slash.0, slash.1, blank) at h)
        | inr dark ↦ (said_by p ++ c ∷ [], nothing_passed, rw (whole, quote.0, slash.0, slash.1, dark) at h)
      ]
    ]

slash_rest : (begins : Bool) (p : Passed) (cs : List ℕ) (n : ℕ) (said : List ℕ)
    → ◌≡◌ {A = Rest} (double_rest none begins p (92 ∷ cs)) (Some (n, said))
    → ◌≡◌ {A = Rest} (with_bytes 1 [] (double_rest backslash false p cs)) (Some (n, said))
slash_rest begins p cs n said h = elim (cases_Bool (begins && parts (92 ∷ cs))) [
  | inl parted ↦ absurd (no_some (n, said) (rw parted at h))
  | inr whole ↦ rw whole at h
]

-- behind a character
letter_on : (text : List ℕ) (i n j : ℕ) (said : List ℕ) (code : Option ℕ) (p : Passed) (r : Rest)
    → ◌≡◌ {A = Rest} (with_character code p r) (Some (n, said))
    → ((m : ℕ) (t : List ℕ) → ◌≡◌ {A = Rest} r (Some (m, t)) → ReadsOn text Double (suc i) m j)
    → ReadsOn text Double i n j
letter_on text i n j said None p r h more = absurd (no_some (n, said) h)
letter_on text i n j said (Some code) p r h more = one_on text Double i n j _ said r h more

-- the same from every place that is so far from the end of the text
abbrev pub ReadsFrom : List ℕ → (j m : ℕ) → Type 0
ReadsFrom text j m =
    (esc : Escape) (begins : Bool) (p : Passed) (i first n : ℕ) (said : List ℕ) → length text ≤ m + i
    → Before text esc i first → Passes text Double first j
    → ◌≡◌ {A = Rest} (double_rest esc begins p (drop i text)) (Some (n, said)) → ReadsOn text Double i n j

none_here : (text : List ℕ) (j m : ℕ) → ReadsFrom text j m → (begins : Bool) (p : Passed) (i n : ℕ) (said : List ℕ)
    → length text ≤ suc m + i → Passes text Double i j → i < length text
    → ◌≡◌ {A = Rest} (double_rest none begins p (drop i text)) (Some (n, said)) → ReadsOn text Double i n j
none_here text j m recur begins p i n said le passed inside h = here text Double begins p i n said h
none_here text j m recur begins p i n said le (other k is low run rest) inside h =
    let first = other_first text i is in
    let cs = drop (suc i) text in
    let turn = slash_rest begins p cs n said
    (ap (λ c. double_rest none begins p (c ∷ cs)) (sym first.0)
    ∙ (ap (double_rest none begins p) (sym (bytes_at text i inside)) ∙ h)) in
    one_on text Double i n j [] said (double_rest backslash false p cs) turn
    (λ q t r. recur backslash false p (suc i) k q t (omega (arith, le))
    (first.1, (omega (arith, low), λ x a b. run x (omega (arith, a)) b)) rest r)

none_turn : (text : List ℕ) (j m : ℕ) → ReadsFrom text j m → (begins : Bool) (p : Passed) (i first n : ℕ)
    (said : List ℕ) → length text ≤ suc m + i → i ≤ first → IsRun text Double i first → Passes text Double first j
    → i < length text → ◌≡◌ {A = Rest} (double_rest none begins p (drop i text)) (Some (n, said))
    → ReadsOn text Double i n j
none_turn text j m recur begins p i first n said le low run way inside h = elim (cases_lt i first) [
  | inl less ↦
      let cs = drop (suc i) text in
      let s = self_rest (at text i) begins p cs n said (run i (omega arith) less)
      (ap (double_rest none begins p) (sym (bytes_at text i inside)) ∙ h) in
      one_on text Double i n j s.0 said (double_rest none false s.1 cs) s.2
      (λ q t r. recur none false s.1 (suc i) first q t (omega (arith, le)) (omega (arith, less), run_on text Double i first run)
      way r)
  | inr past ↦
      let same : first ≡ i = omega (arith, past, low) in
      none_here text j m recur begins p i n said le (subst (λ k. Passes text Double k j) same way) inside h
]

slash_turn : (text : List ℕ) (j m : ℕ) → ReadsFrom text j m → (begins : Bool) (p : Passed) (i first n : ℕ)
    (said : List ℕ) → length text ≤ suc m + i → at text i ≢ 10 → suc i ≤ first → IsRun text Double (suc i) first
    → Passes text Double first j
    → ◌≡◌ {A = Rest} (double_rest backslash begins p (at text i ∷ drop (suc i) text)) (Some (n, said))
    → ReadsOn text Double i n j
slash_turn text j m recur begins p i first n said le feed low run way h =
    let c = at text i in
    let cs = drop (suc i) text in
    let digits_on : (left : ℕ) → ◌≡◌ {A = Rest} (with_bytes 1 [] (double_rest (digits left 0) false p cs)) (Some (n, said))
    → ReadsOn text Double i n j = λ left e. one_on text Double i n j [] said (double_rest (digits left 0) false p cs) e
    (λ q t r. recur (digits left 0) false p (suc i) first q t (omega (arith, le)) (low, run) way r) in
    let none_feed = ne_eqb c 10 feed in
    elim (cases_eq c 120) [
      | inl e ↦ digits_on 2 (rw (none_feed, eq-eqb c 120 e) at h)
      | inr x ↦ elim (cases_eq c 117) [
        | inl e ↦ digits_on 4 (rw (none_feed, ne_eqb c 120 x, eq-eqb c 117 e) at h)
        | inr u ↦ elim (cases_eq c 85) [
          | inl e ↦ digits_on 8 (rw (none_feed, ne_eqb c 120 x, ne_eqb c 117 u, eq-eqb c 85 e) at h)
          | inr w ↦ letter_on text i n j said (letter_code c) p (double_rest none false nothing_passed cs)
              (rw (none_feed, ne_eqb c 120 x, ne_eqb c 117 u, ne_eqb c 85 w) at h)
              (λ q t r. recur none false nothing_passed (suc i) first q t (omega (arith, le)) (low, run) way r)
        ]
      ]
    ]

digit_turn : (text : List ℕ) (j m : ℕ) → ReadsFrom text j m → (left code : ℕ) (begins : Bool) (p : Passed)
    (i first n : ℕ) (said : List ℕ) → length text ≤ suc m + i → i ≤ first → IsRun text Double i first
    → Passes text Double first j → EndsRun text Double j
    → ◌≡◌ {A = Rest} (double_rest (digits left code) begins p (at text i ∷ drop (suc i) text)) (Some (n, said))
    → ReadsOn text Double i n j
digit_turn text j m recur left code begins p i first n said le low run way ends h =
    let c = at text i in
    let cs = drop (suc i) text in
    let now = 16 * code + digit_value c in
    elim (cases_Bool (nat_lt (digit_value c) 16)) [
      | inr odd ↦ absurd (no_some (n, said) (sym (no_digit_rest left code c begins p cs odd) ∙ h))
      | inl digit ↦ elim (cases_lt i first) [
        | inr past ↦
            let same : first ≡ i = omega (arith, past, low) in
            absurd (false≢true (sym (no_digit text i
            (subst (λ k. EndsRun text Double k) same (passes_end text first j way ends))) ∙ digit))
        | inl less ↦ elim (cases_Bool (left == 1)) [
          | inl last ↦ letter_on text i n j said (character_code now) p (double_rest none false nothing_passed cs)
              (rw (digit, last) at h)
              (λ q t r. recur none false nothing_passed (suc i) first q t (omega (arith, le))
              (omega (arith, less), run_on text Double i first run) way r)
          | inr more ↦ one_on text Double i n j [] said (double_rest (digits (left - 1) now) false p cs)
              (rw (digit, more) at h)
              (λ q t r. recur (digits (left - 1) now) false p (suc i) first q t (omega (arith, le))
              (omega (arith, less), run_on text Double i first run) way r)
        ]
      ]
    ]

turn : (text : List ℕ) (j m : ℕ) → EndsRun text Double j → ReadsFrom text j m → ReadsFrom text j (suc m)
turn text j m ends recur none begins p i first n said le b way h = elim (cases_lt i (length text)) [
  | inl inside ↦ none_turn text j m recur begins p i first n said le b.0 b.1 way inside h
  | inr over ↦ absurd (no_some (n, said) (sym (over_none text none begins p i over) ∙ h))
]
turn text j m ends recur backslash begins p i first n said le b way h = elim (cases_lt i (length text)) [
  | inl inside ↦ slash_turn text j m recur begins p i first n said le b.0 b.1.0 b.1.1 way
      (ap (double_rest backslash begins p) (sym (bytes_at text i inside)) ∙ h)
  | inr over ↦ absurd (no_some (n, said) (sym (over_none text backslash begins p i over) ∙ h))
]
turn text j m ends recur (digits left code) begins p i first n said le b way h = elim (cases_lt i (length text)) [
  | inl inside ↦ digit_turn text j m recur left code begins p i first n said le b.0 b.1 way ends
      (ap (double_rest (digits left code) begins p) (sym (bytes_at text i inside)) ∙ h)
  | inr over ↦ absurd (no_some (n, said) (sym (over_none text (digits left code) begins p i over) ∙ h))
]

pub double_on : (text : List ℕ) (j m : ℕ) → EndsRun text Double j → ReadsFrom text j m
double_on text j zero ends esc begins p i first n said le b way h =
    absurd (no_some (n, said) (sym (over_none text esc begins p i (omega (arith, le))) ∙ h))
double_on text j (suc m) ends esc begins p i first n said le b way h =
    turn text j m ends (double_on text j m ends) esc begins p i first n said le b way h
