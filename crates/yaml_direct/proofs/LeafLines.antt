-- Quotes that are closed in their line, and names, stand in a line.
use Rattle.std.proofs.Common.{ℕ, zero, suc, ◌+◌, ◌-◌, ◌<◌, ◌≡◌, ◌≢◌, ◌==◌, ◌&&◌, ◌||◌, Bool, true, false}
use Rattle.std.proofs.Common.{List, [], ◌∷◌, Some, refl, sym, subst, ap, ◌∙◌, arith, inl, inr, drop}
use Rattle.std.proofs.lemmas.Bool.{and_parts, eq-eqb, eqb-true, false≢true, not-true, or_cases, or_parts}
use Rattle.std.proofs.lemmas.List.{get_or-drop}
use Rattle.std.specs.Prelude.{if◌then◌else◌, nat_lt, None}
use Rattle.yaml_direct.specs.Gaps.{InLine}
use Rattle.yaml_direct.specs.InBrackets.{quotes}
use Rattle.yaml_direct.specs.Quoted.{Closes, IsRun, closed, is_other, later, quote_of}
use Rattle.yaml_direct.specs.declared.quote.Quote.{Quote}
use Rattle.yaml_direct.specs.declared.quote.Quote.TheVariants.{Double, Single}
use Rattle.yaml_direct.proofs.LineLaws.{line_none, line_on, run_line}
use Rattle.yaml_grammar.specs.Bytes.{at, is_mark}
use Rattle.yaml_grammar.specs.Names.{count_while, ends_name, is_name_byte, name_end}
use Rattle.yaml_reading.proofs.Options.{no_some, same_some}

pub byte_line : (text : List ℕ) (i : ℕ) → at text i ≢ 10 → InLine text i (i + 1)
byte_line text i other k low high e =
    let same : k ≡ i = omega (arith, low, high) in
    other (ap (at text) (sym same) ∙ e)

pair_line : (text : List ℕ) (i : ℕ) → at text i ≢ 10 → at text (i + 1) ≢ 10 → InLine text i (i + 2)
pair_line text i f g =
    let there : i + 1 + 1 ≡ i + 2 = omega arith in
    subst (λ j. InLine text i j) there
    (line_on text i (i + 1) (i + 1 + 1) (byte_line text i f) (byte_line text (i + 1) g))

other_line : (text : List ℕ) (quote : Quote) (i : ℕ) → is_other text quote i ≡ true → InLine text i (i + 2)
other_line text Single i h =
    let both = and_parts (at text i == 39) _ h in
    let first = eqb-true (at text i) 39 both.0 in
    let second = eqb-true (at text (i + 1)) 39 both.1 in
    pair_line text i (λ e. omega (arith, e, first)) (λ e. omega (arith, e, second))
other_line text Double i h =
    let both = and_parts (at text i == 92) _ h in
    let first = eqb-true (at text i) 92 both.0 in
    let feed = (or_parts (at text (i + 1) == 10) _ (not-true _ both.1)).0 in
    pair_line text i (λ e. omega (arith, e, first)) (λ e. false≢true (sym feed ∙ eq-eqb (at text (i + 1)) 10 e))

pub closes_line : (text : List ℕ) (quote : Quote) (i j : ℕ) → Closes text quote i j → InLine text i j
closes_line text quote i j (closed byte whole) = line_none text i
closes_line text quote i j (later k other low run rest) =
    line_on text i (i + 2) j (other_line text quote i other)
    (line_on text (i + 2) k j (run_line text quote (i + 2) k run) (closes_line text quote k j rest))

quote_no_feed : (quote : Quote) → quote_of quote ≢ 10
quote_no_feed Single e = omega (arith, e)
quote_no_feed Double e = omega (arith, e)

-- from the quote that opens a scalar to behind the one that closes it
pub quotes_line : (text : List ℕ) (quote : Quote) (i first stop : ℕ) → at text i ≢ 10
    → IsRun text quote (i + 1) first → Closes text quote first stop → at text stop ≡ quote_of quote
    → InLine text i (stop + 1)
quotes_line text quote i first stop other run closes byte =
    line_on text i (i + 1) (stop + 1) (byte_line text i other)
    (line_on text (i + 1) first (stop + 1) (run_line text quote (i + 1) first run)
    (line_on text first stop (stop + 1) (closes_line text quote first stop closes)
    (byte_line text stop (λ e. quote_no_feed quote (sym byte ∙ e)))))

-- names
passed_by : (test : ℕ → Bool) (x : ℕ) (xs : List ℕ) (b : Bool) → test x ≡ b
    → ((j : ℕ) → j < count_while test xs → test (at xs j) ≡ true) → (k : ℕ)
    → k < (let more = suc (count_while test xs) in if b then more else 0) → test (at (x ∷ xs) k) ≡ true
passed_by test x xs true e rest zero less = e
passed_by test x xs true e rest (suc k) less = rest k (omega (arith, less))
passed_by test x xs false e rest k less = absurd (omega (arith, less))

pub passed : (test : ℕ → Bool) (xs : List ℕ) (k : ℕ) → k < count_while test xs → test (at xs k) ≡ true
passed test [] k less = absurd (omega (arith, less))
passed test (x ∷ xs) k less = passed_by test x xs (test x) refl (λ j l. passed test xs j l) k less

name_some : (b : Bool) (n e : ℕ) → (if b then Some n else None) ≡ Some e → n ≡ e
name_some true n e h = same_some n e h
name_some false n e h = absurd (no_some e h)

pub name_line : (text : List ℕ) (flow : Bool) (i e : ℕ) → name_end text flow i ≡ Some e → InLine text i e
name_line text flow i e h k low high feed =
    let size = count_while is_name_byte (drop i text) in
    let end = name_some (nat_lt 0 size && (ends_name flow (at text (i + size)) || is_mark text 58 (i + size)))
    (i + size) e h in
    let there : i + (k - i) ≡ k = omega (arith, low) in
    let name = passed is_name_byte (drop i text) (k - i) (omega (arith, low, high, end)) in
    let byte : at (drop i text) (k - i) ≡ 10 = get_or-drop i text (k - i) 0 ∙ ap (at text) there ∙ feed in
    false≢true (ap is_name_byte (sym byte) ∙ name)

-- neither a quote nor `*`
pub no_quotes : (c : ℕ) → (c ≡ 34 → ⊥) → (c ≡ 39 → ⊥) → (c ≡ 42 → ⊥) → quotes c ≡ true → ⊥
no_quotes c double single star h = elim (or_cases (c == 34) _ h) [
  | inl e ↦ double (eqb-true c 34 e)
  | inr h ↦ elim (or_cases (c == 39) (c == 42) h) [
    | inl e ↦ single (eqb-true c 39 e)
    | inr e ↦ star (eqb-true c 42 e)
  ]
]
