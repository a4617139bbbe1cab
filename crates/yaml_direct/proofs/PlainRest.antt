-- What is left of a plain text, from a place on.
use Rattle.std.proofs.Common.{ℕ, zero, suc, ◌+◌, ◌-◌, ◌≡◌, ◌≢◌, ◌<◌, ◌≤◌, ◌==◌, ◌&&◌, ◌||◌, Bool, true, false}
use Rattle.std.proofs.Common.{List, [], ◌∷◌, ◌++◌, length, refl, sym, subst, ap, ap₂, ◌∙◌, arith, inl, inr, drop}
use Rattle.std.proofs.Common.{None, Some, append_assoc, slice_range, take}
use Rattle.std.proofs.lemmas.Bool.{cases_eq, eq-eqb}
use Rattle.std.proofs.lemmas.Bool.{false≢true, ne_eqb, or_parts}
use Rattle.std.proofs.lemmas.List.{get_or-drop}
use Rattle.yaml_direct.specs.Bytes as code
use Rattle.yaml_direct.proofs.NextLaws.{bytes_at}
use Rattle.yaml_direct.proofs.TextLaws.{bracket_same, gap_same}
use Rattle.yaml_grammar.specs.Bytes.{at, is_bracket, is_gap, is_text}
use Rattle.yaml_grammar.specs.Folding.{Passed, Rest, blanks, is_some_passed, nothing_passed}
use Rattle.yaml_grammar.specs.Folding.{said_by, with_bytes}
use Rattle.yaml_grammar.specs.Plain.{Context, column_behind, is_flow, is_refused, plain_rest, stops_plain}

-- the rest where so many bytes were passed, by its first byte
pub byte_turn : (context : Context) (col s : ℕ) (p : Passed) (c : ℕ) (cs : List ℕ) → c ≢ 32 → c ≢ 10
    → stops_plain context col p c cs ≡ false → is_refused context c cs ≡ false
    → ◌≡◌ {A = Rest} (plain_rest context col s p (c ∷ cs))
    (with_bytes (suc s) (said_by p ++ c ∷ []) (plain_rest context (column_behind col c) 0 nothing_passed cs))
byte_turn context col s p c cs space feed stops refused = rw (stops, refused, ne_eqb c 32 space, ne_eqb c 10 feed) refl

pub stop_turn : (context : Context) (col s : ℕ) (p : Passed) (c : ℕ) (cs : List ℕ) → c ≢ 32 → c ≢ 10
    → stops_plain context col p c cs ≡ true
    → ◌≡◌ {A = Rest} (plain_rest context col s p (c ∷ cs)) (Some (0, []))
stop_turn context col s p c cs space feed stops = rw (stops, ne_eqb c 32 space, ne_eqb c 10 feed) refl

pub refused_turn : (context : Context) (col s : ℕ) (p : Passed) (c : ℕ) (cs : List ℕ) → c ≢ 32 → c ≢ 10
    → stops_plain context col p c cs ≡ false → is_refused context c cs ≡ true
    → ◌≡◌ {A = Rest} (plain_rest context col s p (c ∷ cs)) None
refused_turn context col s p c cs space feed stops refused =
    rw (stops, refused, ne_eqb c 32 space, ne_eqb c 10 feed) refl

pub twice : (a b : ℕ) (x y : List ℕ) (r : Rest)
    → ◌≡◌ {A = Rest} (with_bytes a x (with_bytes b y r)) (with_bytes (a + b) (x ++ y) r)
twice a b x y None = refl
twice a b x y (Some r) =
    let sum : a + (b + r.0) ≡ a + b + r.0 = omega arith in
    ap₂ (λ n t. Some (n, t)) sum (sym (append_assoc x y r.1))

pub slice_more : (text : List ℕ) (i j : ℕ) → i < j → i < length text
    → slice_range text i j ≡ at text i ∷ slice_range text (suc i) j
slice_more text i j low inside =
    let size : j - i ≡ suc (j - suc i) = omega (arith, low) in
    ap₂ take size (bytes_at text i inside)

pub slice_none : (text : List ℕ) (i : ℕ) → slice_range text i i ≡ []
slice_none text i = let none : i - i ≡ 0 = omega arith in ap (λ n. take n (drop i text)) none

pub behind_blank : (bs : List ℕ) (c : ℕ) → is_some_passed (blanks (bs ++ c ∷ [])) ≡ true
behind_blank [] c = refl
behind_blank (b ∷ bs) c = refl

-- where a plain text goes on in a line, by both
pub record GoesOn (context : Context) (text : List ℕ) (i : ℕ) (bs : List ℕ) : Type 0 where
  pub no_feed : at text i ≢ 10
  pub no_stop : (col : ℕ) → stops_plain context col (blanks bs) (at text i) (drop (suc i) text) ≡ false
  pub taken : is_refused context (at text i) (drop (suc i) text) ≡ false

colon_parts : (x g f q b : Bool) → (x && (g || (f && (q || b)))) ≡ false
    → ((x && g) ≡ false) × ((f && (x && (b || q))) ≡ false)
colon_parts false g true q b h = (refl, refl)
colon_parts false g false q b h = (refl, refl)
colon_parts true true f q b h = absurd (false≢true (sym h))
colon_parts true false false q b h = (refl, refl)
colon_parts true false true true b h = absurd (false≢true (sym h))
colon_parts true false true false true h = absurd (false≢true (sym h))
colon_parts true false true false false h = (refl, refl)

sharp_none : (x y s : Bool) → (x && y) ≡ false → (s ≡ true → y ≡ true) → (x && s) ≡ false
sharp_none false y s h f = refl
sharp_none true y false h f = refl
sharp_none true y true h f = absurd (false≢true (sym h ∙ f refl))

pub at_first : (text : List ℕ) (i : ℕ) → at (drop (suc i) text) 0 ≡ at text (i + 1)
at_first text i =
    let there : suc i + 0 ≡ i + 1 = omega arith in
    get_or-drop (suc i) text 0 0 ∙ ap (at text) there

gap_of : (a b c d : Bool) → a ≡ false → b ≡ false → c ≡ false → d ≡ false → ((a || b) || (c || d)) ≡ false
gap_of a b c d e f g h = rw (e, f, g, h) refl

five : (a b c d : Bool) → a ≡ false → b ≡ false → c ≡ false → d ≡ false → (a || (b || (c || (d || false)))) ≡ false
five a b c d e f g h = rw (e, f, g, h) refl

pub goes_on : (context : Context) (text : List ℕ) (flow : Bool) (i : ℕ) (bs : List ℕ) → is_text text ≡ true
    → is_flow context ≡ flow → at text i ≢ 32 → (is_some_passed (blanks bs) ≡ true → at text (i - 1) ≡ 32)
    → code.stops_plain text flow i ≡ false → GoesOn context text i bs
goes_on context text flow i bs h f space behind goes =
    let c = at text i in
    let ends = or_parts (code.ends_line text i) _ goes in
    let feed = or_parts (c == 10) _ ends.0 in
    let zero = or_parts (c == 13) (c == 0) feed.1 in
    let tab = or_parts (c == 9) _ ends.1 in
    let colon = or_parts (c == 58 && code.stops_at_colon text flow i) _ tab.1 in
    let sharp = or_parts (c == 35 && at text (i - 1) == 32) (flow && code.is_bracket c) colon.1 in
    let parts = colon_parts (c == 58) (code.is_gap text (i + 1)) flow (at text (i + 1) == 63)
    (code.is_bracket (at text (i + 1))) colon.0 in
    let gap : is_gap c ≡ false = gap_of (c == 32) (c == 9) (c == 10) (c == 0) (ne_eqb c 32 space) tab.0 feed.0 zero.1 in
    let apart : (c == 58 && is_gap (at (drop (suc i) text) 0)) ≡ false =
    ap (λ x. c == 58 && is_gap x) (at_first text i) ∙ ap (λ x. c == 58 && x) (sym (gap_same text (i + 1) h)) ∙ parts.0 in
    let no_comment : (c == 35 && is_some_passed (blanks bs)) ≡ false =
    sharp_none (c == 35) (at text (i - 1) == 32) (is_some_passed (blanks bs)) sharp.0
    (λ e. eq-eqb (at text (i - 1)) 32 (behind e)) in
    let bracket : (is_flow context && is_bracket c) ≡ false =
    ap₂ (λ x y. x && y) f (sym (bracket_same c)) ∙ sharp.1 in
    record {
      no_feed = λ e. false≢true (sym feed.0 ∙ eq-eqb c 10 e);
      no_stop = λ col. five (is_gap c) _ _ _ gap apart no_comment bracket;
      taken = ap (λ x. is_flow context && (c == 58 && (is_bracket x || x == 63))) (at_first text i)
          ∙ ap₂ (λ x y. x && (c == 58 && (y || at text (i + 1) == 63))) f (sym (bracket_same (at text (i + 1))))
          ∙ parts.1;
    }

module _ (context : Context) (text : List ℕ) (flow : Bool) (h : is_text text ≡ true) (f : is_flow context ≡ flow) where
  -- the rest behind a part of a line that ends in no space
  abbrev Tail : ℕ → Rest → Type 0
  Tail j r = (col : ℕ) → ◌≡◌ {A = Rest} (plain_rest context col 0 nothing_passed (drop j text)) r

  one_byte : (i s : ℕ) (bs : List ℕ) (col : ℕ) → i < length text → at text i ≢ 32 → GoesOn context text i bs
      → ◌≡◌ {A = Rest} (plain_rest context col s (blanks bs) (drop i text)) (with_bytes (suc s) (bs ++ at text i ∷ [])
      (plain_rest context (column_behind col (at text i)) 0 nothing_passed (drop (suc i) text)))
  one_byte i s bs col inside space g =
      ap (plain_rest context col s (blanks bs)) (bytes_at text i inside)
      ∙ byte_turn context col s (blanks bs) (at text i) (drop (suc i) text) space g.no_feed (g.no_stop col) g.taken

  one_space : (i s : ℕ) (bs : List ℕ) (col : ℕ) → i < length text → at text i ≡ 32
      → ◌≡◌ {A = Rest} (plain_rest context col s (blanks bs) (drop i text))
      (plain_rest context (suc col) (suc s) (blanks (bs ++ 32 ∷ [])) (drop (suc i) text))
  one_space i s bs col inside e =
      ap (plain_rest context col s (blanks bs)) (bytes_at text i inside ∙ ap (λ c. c ∷ drop (suc i) text) e)

  -- so it is said from here on
  abbrev Said : (i j n : ℕ) → Rest → Type 0
  Said i j n r =
      (s : ℕ) (bs : List ℕ) (col : ℕ) → (is_some_passed (blanks bs) ≡ true → at text (i - 1) ≡ 32)
      → ◌≡◌ {A = Rest} (plain_rest context col s (blanks bs) (drop i text))
      (with_bytes (s + n) (bs ++ slice_range text i j) r)

  back : (i : ℕ) → suc i - 1 ≡ i
  back i = omega arith

  last_said : (i j : ℕ) (r : Rest) → Tail j r → i + 1 ≡ j → i < length text → at text i ≢ 32
      → code.stops_plain text flow i ≡ false → Said i j 1 r
  last_said i j r tail e inside other goes s bs col behind =
      let there : suc i ≡ j = omega (arith, e) in
      let one : suc s ≡ s + 1 = omega arith in
      let all : slice_range text i j ≡ at text i ∷ [] =
      slice_more text i j (omega (arith, e)) inside
      ∙ ap (λ x. at text i ∷ x) (subst (λ k. slice_range text (suc i) k ≡ []) there (slice_none text (suc i))) in
      one_byte i s bs col inside other (goes_on context text flow i bs h f other behind goes)
      ∙ ap (with_bytes (suc s) (bs ++ at text i ∷ []))
      (ap (λ k. plain_rest context (column_behind col (at text i)) 0 nothing_passed (drop k text)) there
      ∙ tail (column_behind col (at text i)))
      ∙ ap₂ (λ n x. with_bytes n x r) one (ap (λ x. bs ++ x) (sym all))

  space_said : (i j n : ℕ) (r : Rest) → i < j → i < length text → at text i ≡ 32 → Said (suc i) j n r
      → Said i j (suc n) r
  space_said i j n r low inside space later s bs col behind =
      let size : suc s + n ≡ s + suc n = omega arith in
      let all : (bs ++ 32 ∷ []) ++ slice_range text (suc i) j ≡ bs ++ slice_range text i j =
      append_assoc bs (32 ∷ []) (slice_range text (suc i) j)
      ∙ ap (λ x. bs ++ x) (sym (slice_more text i j low inside ∙ ap (λ c. c ∷ slice_range text (suc i) j) space)) in
      one_space i s bs col inside space
      ∙ later (suc s) (bs ++ 32 ∷ []) (suc col) (λ some. ap (at text) (back i) ∙ space)
      ∙ ap₂ (λ n x. with_bytes n x r) size all

  byte_said : (i j n : ℕ) (r : Rest) → i < j → i < length text → at text i ≢ 32
      → code.stops_plain text flow i ≡ false → Said (suc i) j n r → Said i j (suc n) r
  byte_said i j n r low inside other goes later s bs col behind =
      let size : suc s + (0 + n) ≡ s + suc n = omega arith in
      let all : (bs ++ at text i ∷ []) ++ slice_range text (suc i) j ≡ bs ++ slice_range text i j =
      append_assoc bs (at text i ∷ []) (slice_range text (suc i) j)
      ∙ ap (λ x. bs ++ x) (sym (slice_more text i j low inside)) in
      one_byte i s bs col inside other (goes_on context text flow i bs h f other behind goes)
      ∙ ap (with_bytes (suc s) (bs ++ at text i ∷ []))
      (later 0 [] (column_behind col (at text i)) (λ some. absurd (false≢true some)))
      ∙ twice (suc s) (0 + n) (bs ++ at text i ∷ []) (slice_range text (suc i) j) r
      ∙ ap₂ (λ n x. with_bytes n x r) size all

  pub line_said : (j : ℕ) (r : Rest) → Tail j r → at text (j - 1) ≢ 32 → j ≤ length text → (n i : ℕ) → i + suc n ≡ j
      → ((k : ℕ) → i ≤ k → k < j → code.stops_plain text flow k ≡ false) → Said i j (suc n) r
  line_said j r tail last within zero i e goes =
      let there : j - 1 ≡ i = omega (arith, e) in
      last_said i j r tail e (omega (arith, e, within)) (λ z. last (ap (at text) there ∙ z))
      (goes i (omega arith) (omega (arith, e)))
  line_said j r tail last within (suc n) i e goes =
      let inside : i < length text = omega (arith, e, within) in
      let low : i < j = omega (arith, e) in
      let later : Said (suc i) j (suc n) r =
      line_said j r tail last within n (suc i) (omega (arith, e)) (λ k a b. goes k (omega (arith, a)) b) in
      elim (cases_eq (at text i) 32) [
        | inl space ↦ space_said i j (suc n) r low inside space later
        | inr other ↦ byte_said i j (suc n) r low inside other (goes i (omega arith) low) later
      ]
