-- Where a reader stands, and in which column.
use Rattle.std.proofs.Common.{ℕ, suc, ◌+◌, ◌-◌, ◌^◌, ◌≡◌, ◌≢◌, ◌<◌, ◌≤◌, ◌⊎◌, ◌==◌, ◌||◌, not, true, false}
use Rattle.std.proofs.Common.{List, length, refl, sym, subst, ap, ◌∙◌, arith, inl, inr, nat_le}
use Rattle.std.proofs.lemmas.Bool.{cases_Bool, cases_eq, cases_lt, eq-eqb, eqb-true, false≢true, le-leb, lt-leb}
use Rattle.std.proofs.lemmas.Bool.{ne_eqb, not-false, or_left, or_right}
use Rattle.std.proofs.lemmas.List.{get_or_past}
use Rattle.yaml_direct.specs.Gaps.{is_apart}
use Rattle.yaml_direct.specs.Places.{no_place}
use Rattle.yaml_direct.specs.Tokens.{HasNoToken, IsAtNext}
use Rattle.yaml_direct.specs.declared.reader.Reader.{Reader}
use Rattle.yaml_direct.specs.Bytes.{AreBlanks}
use Rattle.yaml_direct.proofs.ColumnLaws.{feed_column, space_column, spaces_column}
use Rattle.yaml_direct.proofs.NextLaws.{Goes, Here, before_apart, before_token, feed_goes, goes_here, goes_on, goes_to}
use Rattle.yaml_direct.proofs.NextLaws.{sharp_here, sharp_moves, space_goes, spaces_go, token_here}
use Rattle.yaml_direct.proofs.TextLaws.{apart_same}
use Rattle.yaml_grammar.specs.Bytes.{at, column, is_over, is_text}
use Rattle.yaml_grammar.specs.Gaps.{breaks, ends_its_line, next}

-- a text on a tape is short
pub short_text : (r : Reader) → length r.text.now < 2 ^ 32
short_text r = subst (λ t. length t < 2 ^ 32) r.same r.tape.short

pub no_such_place : (r : Reader) (n : ℕ) → n ≤ length r.text.now → n ≡ no_place → ⊥
no_such_place r n le e = omega (arith, short_text r, le, e)

not_same : (a b : ℕ) → not (a == b) ≡ false → a ≡ b
not_same a b e = eqb-true a b (not-false (a == b) e)

not_other : (a b : ℕ) → b ≤ a → not (a == b) ≡ true → b < a
not_other a b le e = grind (arith, le, e)

-- what a reader has seen on its way to the next token
pub reaches_next : (old new : Reader) (from to : ℕ)
    → Goes old.text.now from to (not (new.line == old.line)) → Here old.text.now to → old.line ≤ new.line
    → (new.line ≡ old.line → new.line_start ≡ old.line_start)
    → (new.line ≡ old.line → to < length old.text.now
    → column old.text.now to ≡ column old.text.now from + (to - from))
    → (old.line < new.line → to < length old.text.now → column old.text.now to ≡ to - new.line_start)
    → IsAtNext old new from to
reaches_next old new from to goes here lines start same later =
    let both = goes_to old.text.now from to (not (new.line == old.line)) goes here in
    record {
      there = both.0;
      lines = both.1;
      counted = lines;
      start = λ e. start (not_same new.line old.line (both.1 ∙ e));
      in_line = λ e inside. same (not_same new.line old.line (both.1 ∙ e)) inside;
      in_later_line = λ e inside. later (not_other new.line old.line lines (both.1 ∙ e)) inside;
    }

-- `#` that is not apart is no token
pub no_token : (text : List ℕ) (i j : ℕ) → is_text text ≡ true → (j ≢ i → at text j ≡ 35 → is_apart text j ≡ true)
    → at text j ≡ 35 → is_apart text j ≡ false → HasNoToken text i
no_token text i j h apart sharp close =
    elim (cases_eq j i) [
      | inr moved ↦ absurd (false≢true (sym close ∙ apart moved sharp))
      | inl same ↦
          let there = sharp_here text j sharp (before_token text j (sym (apart_same text j h) ∙ close)) in
          record {
            sharp = subst (λ k. at text k ≡ 35) same sharp;
            here = subst (λ k. next text k ≡ k) same there.there;
            in_line = subst (λ k. breaks text k ≡ false) same there.lines;
          }
    ]

-- where a line ends behind a place, or the text
pub ends_by_line : (old new : Reader) (from to : ℕ) → IsAtNext old new from to → new.line ≢ old.line
    → ends_its_line old.text.now from ≡ true
ends_by_line old new from to n other =
    let broken : breaks old.text.now from ≡ true =
    sym n.lines ∙ ap not (ne_eqb new.line old.line other) in
    or_left (breaks old.text.now from) _ broken

pub ends_by_end : (old new : Reader) (from to : ℕ) → IsAtNext old new from to → to ≡ length old.text.now
    → ends_its_line old.text.now from ≡ true
ends_by_end old new from to n e =
    or_right (breaks old.text.now from) _
    (le-leb (length old.text.now) (next old.text.now from) (omega (arith, e, n.there)))

-- and where a token follows in the line
pub follows_here : (old new : Reader) (from to : ℕ) → IsAtNext old new from to → new.line ≡ old.line
    → to < length old.text.now → ends_its_line old.text.now from ≡ false
follows_here old new from to n same inside =
    let whole : breaks old.text.now from ≡ false = sym n.lines ∙ ap not (eq-eqb new.line old.line same) in
    let more : nat_le (length old.text.now) (next old.text.now from) ≡ false =
    lt-leb (length old.text.now) (next old.text.now from) (omega (arith, inside, n.there)) in
    rw (whole, more) refl

inside_byte : (text : List ℕ) (i c : ℕ) → at text i ≡ suc c → i < length text
inside_byte text i c e =
    elim (cases_lt i (length text)) [
      | inl inside ↦ inside
      | inr behind ↦ absurd (omega (arith, e, get_or_past text i 0 behind))
    ]

pub no_token_here : (text : List ℕ) (from : ℕ) → HasNoToken text from → ends_its_line text from ≡ false
no_token_here text from n =
    let inside = inside_byte text from 34 n.sharp in
    let more : nat_le (length text) (next text from) ≡ false =
    lt-leb (length text) (next text from) (omega (arith, inside, n.here)) in
    rw (n.in_line, more) refl

-- behind a line feed and spaces
pub behind_feed : (text : List ℕ) (from k : ℕ) → at text from ≡ 10 → from + 1 ≤ k → AreBlanks text (from + 1) k
    → Goes text from k true
behind_feed text from k feed low blank =
    let one : suc from ≡ from + 1 = omega arith in
    goes_on text from (suc from) k true false (feed_goes text from feed)
    (spaces_go text (suc from) k (omega (arith, low)) (subst (λ m. AreBlanks text m k) (sym one) blank))

pub feed_columns : (text : List ℕ) (from k : ℕ) → at text from ≡ 10 → from + 1 ≤ k → AreBlanks text (from + 1) k
    → column text k ≡ k - (from + 1)
feed_columns text from k feed low blank =
    let one : suc from ≡ from + 1 = omega arith in
    let none : column text (from + 1) ≡ 0 = ap (column text) (sym one) ∙ feed_column text from feed in
    omega (arith, none, spaces_column text (from + 1) k low blank)

pub next_behind_feed : (old new : Reader) (from k : ℕ) → at old.text.now from ≡ 10 → from + 1 ≤ k
    → AreBlanks old.text.now (from + 1) k → 32 < at old.text.now k → at old.text.now k ≢ 35
    → new.line ≡ old.line + 1 → new.line_start ≡ from + 1 → IsAtNext old new from k
next_behind_feed old new from k feed low blank token sharp line start =
    let text = old.text.now in
    let more : not (new.line == old.line) ≡ true = ap not (ne_eqb new.line old.line (λ e. omega (arith, e, line))) in
    reaches_next old new from k (subst (λ b. Goes text from k b) (sym more) (behind_feed text from k feed low blank))
    (token_here text k (λ e. omega (arith, e, token)) (λ e. omega (arith, e, token)) sharp)
    (omega (arith, line)) (λ e. absurd (omega (arith, e, line))) (λ e inside. absurd (omega (arith, e, line)))
    (λ e inside. omega (arith, start, feed_columns text from k feed low blank))

pub next_later : (old mid new : Reader) (from k to : ℕ) → mid.text.now ≡ old.text.now → at old.text.now from ≡ 10
    → from + 1 ≤ k → k ≤ to → AreBlanks old.text.now (from + 1) k → mid.line ≡ old.line + 1
    → mid.line_start ≡ from + 1 → IsAtNext mid new k to → IsAtNext old new from to
next_later old mid new from k to same feed low high blank line start n =
    let text = old.text.now in
    let goes = behind_feed text from k feed low blank in
    let more : not (new.line == old.line) ≡ true =
    ap not (ne_eqb new.line old.line (λ e. omega (arith, e, line, n.counted))) in
    let there : to ≡ next text k = subst (λ t. to ≡ next t k) same n.there in
    record {
      there = there ∙ sym goes.there;
      lines = more ∙ sym goes.lines;
      counted = omega (arith, line, n.counted);
      start = λ e. absurd (false≢true (sym e ∙ goes.lines));
      in_line = λ e inside. absurd (false≢true (sym e ∙ goes.lines));
      in_later_line = λ e inside. elim (cases_Bool (breaks text k)) [
        | inl broken ↦ subst (λ t. breaks t k ≡ true → to < length t → column t to ≡ to - new.line_start) same
            n.in_later_line broken inside
        | inr whole ↦
            let there = subst (λ t. breaks t k ≡ false → to < length t → column t to ≡ column t k + (to - k)) same
            n.in_line whole inside in
            let begun : new.line_start ≡ mid.line_start = n.start (subst (λ t. breaks t k ≡ false) (sym same) whole) in
            omega (arith, there, begun, start, feed_columns text from k feed low blank, low, high)
      ];
    }

-- `#` behind a line feed and spaces begins a comment
pub comment_here : (text : List ℕ) (from k : ℕ) → at text from ≡ 10 → from + 1 ≤ k → AreBlanks text (from + 1) k
    → HasNoToken text k → ⊥
comment_here text from k feed low blank n =
    sharp_moves text k n.sharp (before_apart text k (apart_here (cases_eq k (from + 1)))) n.here
  where
    apart_here : (k ≡ from + 1) ⊎ (k ≡ from + 1 → ⊥)
        → (k == 0 || (at text (k - 1) == 32 || at text (k - 1) == 10)) ≡ true
    apart_here (inl e) =
        let back : k - 1 ≡ from = omega (arith, e) in
        or_right (k == 0) _ (or_right (at text (k - 1) == 32) _ (eq-eqb (at text (k - 1)) 10 (ap (at text) back ∙ feed)))
    apart_here (inr other) =
        or_right (k == 0) _ (or_left (at text (k - 1) == 32) _
        (eq-eqb (at text (k - 1)) 32 (blank (k - 1) (omega (arith, low, other)) (omega (arith, low)))))

-- a token that stands here, and one behind a space
pub next_here : (r : Reader) (from : ℕ) → 32 < at r.text.now from → at r.text.now from ≢ 35 → IsAtNext r r from from
next_here r from token sharp =
    let same : not (r.line == r.line) ≡ false = ap not (eq-eqb r.line r.line refl) in
    reaches_next r r from from (subst (λ b. Goes r.text.now from from b) (sym same) (goes_here r.text.now from))
    (token_here r.text.now from (λ e. omega (arith, e, token)) (λ e. omega (arith, e, token)) sharp)
    (omega arith) (λ _. refl) (λ _ inside. omega arith) (λ later inside. absurd (omega (arith, later)))

pub next_behind_space : (r : Reader) (from : ℕ) → at r.text.now from ≡ 32 → 32 < at r.text.now (from + 1)
    → at r.text.now (from + 1) ≢ 35 → IsAtNext r r from (from + 1)
next_behind_space r from space token sharp =
    let text = r.text.now in
    let one : suc from ≡ from + 1 = omega arith in
    let same : not (r.line == r.line) ≡ false = ap not (eq-eqb r.line r.line refl) in
    let next_column : column text (from + 1) ≡ column text from + 1 = ap (column text) (sym one) ∙ space_column text from space in
    reaches_next r r from (from + 1)
    (subst (λ b. Goes text from (from + 1) b) (sym same) (subst (λ k. Goes text from k false) one (space_goes text from space)))
    (token_here text (from + 1) (λ e. omega (arith, e, token)) (λ e. omega (arith, e, token)) sharp)
    (omega arith) (λ _. refl) (λ _ inside. omega (arith, next_column)) (λ later inside. absurd (omega (arith, later)))

-- amid a line no document ends
pub amid_goes_on : (text : List ℕ) (i : ℕ) → (column text i == 0) ≡ false → i < length text → is_over text i ≡ false
amid_goes_on text i inner inside =
    let more : nat_le (length text) i ≡ false = lt-leb (length text) i inside in
    rw (more, inner) refl

pub behind_space_goes_on : (text : List ℕ) (i : ℕ) → at text i ≡ 32 → i + 1 < length text → is_over text (i + 1) ≡ false
behind_space_goes_on text i space inside =
    let one : suc i ≡ i + 1 = omega arith in
    let next_column : column text (i + 1) ≡ column text i + 1 = ap (column text) (sym one) ∙ space_column text i space in
    amid_goes_on text (i + 1) (ne_eqb (column text (i + 1)) 0 (λ e. omega (arith, e, next_column))) inside
