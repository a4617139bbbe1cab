-- Which columns are counted in bytes, and of which places it is known whether a line begins there.
use Rattle.std.proofs.Common.{ℕ, suc, ◌+◌, ◌-◌, ◌≡◌, ◌≢◌, ◌<◌, ◌≤◌, ◌==◌, true, false, length}
use Rattle.std.proofs.Common.{sym, subst, ap, ◌∙◌, arith, inl, inr}
use Rattle.std.proofs.lemmas.Bool.{cases_Bool, leb-true, ne_eqb, or_cases}
use Rattle.yaml_direct.specs.Tokens.{IsAmidLine, IsAtNext, IsCounted, IsLined}
use Rattle.yaml_direct.specs.declared.reader.Reader.{Reader}
use Rattle.yaml_direct.proofs.ColumnLaws.{column_on, feed_column}
use Rattle.yaml_grammar.specs.Bytes.{at, column}
use Rattle.yaml_grammar.specs.Gaps.{breaks, ends_its_line, next}

-- where a line begins columns are counted
pub begun_column : (r : Reader) (place : ℕ) → r.line_start ≡ place → place ≤ length r.text.now → 0 < place
    → at r.text.now (place - 1) ≡ 10 → IsCounted r place
begun_column r place begun within some feed =
    let there : suc (place - 1) ≡ place = omega (arith, some) in
    let none : column r.text.now place ≡ 0 =
    ap (column r.text.now) (sym there) ∙ feed_column r.text.now (place - 1) feed in
    record { within = within; column = λ inside. omega (arith, none, begun) }

-- whether a line begins in a place is known where columns are counted, and amid a line
pub counted_lined : (r : Reader) (place : ℕ) → r.line_start ≤ place → IsCounted r place → IsLined r place
counted_lined r place low c = record {
  within = c.within;
  first = λ inside. same_test (column r.text.now place) place r.line_start low (c.column inside);
}
  where
    same_test : (n place start : ℕ) → start ≤ place → n ≡ place - start → (n == 0) ≡ (place == start)
    same_test n place start low e = grind (arith, low, e)

pub amid_lined : (r : Reader) (place : ℕ) → place ≤ length r.text.now → IsAmidLine r place → IsLined r place
amid_lined r place within a = record {
  within = within;
  first = λ inside. a.inner ∙ sym (ne_eqb place r.line_start (λ e. omega (arith, e, a.behind)));
}

not_zero : (n : ℕ) → (n == 0) ≡ false → 0 < n
not_zero n e = grind (arith, e)

-- whether a line begins is known of the next token
pub next_lined : (old new : Reader) (from to : ℕ) → IsAtNext old new from to → IsAmidLine old from
    → new.text.now ≡ old.text.now → from ≤ to → new.line_start ≤ to → to ≤ length old.text.now → IsLined new to
next_lined old new from to n a same low start within =
    elim (cases_Bool (breaks old.text.now from)) [
      | inl broken ↦ counted_lined new to start (record {
        within = subst (λ t. to ≤ length t) (sym same) within;
        column = subst (λ t. to < length t → column t to ≡ to - new.line_start) (sym same) (n.in_later_line broken);
      })
      | inr whole ↦ record {
        within = subst (λ t. to ≤ length t) (sym same) within;
        first = subst (λ t. to < length t → (column t to == 0) ≡ (to == new.line_start)) (sym same)
            (λ inside. amid_test (column old.text.now to) (column old.text.now from) to from old.line_start
            new.line_start (n.in_line whole inside) (not_zero _ a.inner) (n.start whole) a.behind low);
      }
    ]
  where
    amid_test : (c d to from start later : ℕ) → c ≡ d + (to - from) → 0 < d → later ≡ start → start < from → from ≤ to
        → (c == 0) ≡ (to == later)
    amid_test c d to from start later e some f behind low =
        ne_eqb c 0 (λ z. omega (arith, z, e, some)) ∙ sym (ne_eqb to later (λ z. omega (arith, z, f, behind, low)))

one_more : (i : ℕ) → suc i ≡ i + 1
one_more i = omega arith

-- behind a byte of ASCII in a line
pub column_here : (r : Reader) (i : ℕ) → IsCounted r i → r.line_start ≤ i → i < length r.text.now
    → at r.text.now i < 128 → at r.text.now i ≢ 10 → at r.text.now i ≢ 13 → IsCounted r (i + 1)
column_here r i c start inside low feed return =
    let next_column : column r.text.now (i + 1) ≡ column r.text.now i + 1 =
    ap (column r.text.now) (sym (one_more i)) ∙ column_on r.text.now i low feed return in
    record {
      within = omega (arith, inside);
      column = λ more. omega (arith, next_column, c.column inside, start);
    }

pub amid_here : (r : Reader) (i : ℕ) → r.line_start ≤ i → at r.text.now i < 128 → at r.text.now i ≢ 10
    → at r.text.now i ≢ 13 → IsAmidLine r (i + 1)
amid_here r i start low feed return =
    let next_column : column r.text.now (i + 1) ≡ column r.text.now i + 1 =
    ap (column r.text.now) (sym (one_more i)) ∙ column_on r.text.now i low feed return in
    record {
      behind = omega (arith, start);
      inner = ne_eqb (column r.text.now (i + 1)) 0 (λ e. omega (arith, e, next_column));
    }

-- and at the next token
pub column_next : (old new : Reader) (from to : ℕ) → IsAtNext old new from to → new.text.now ≡ old.text.now
    → IsCounted old from → old.line_start ≤ from → from ≤ to → to ≤ length old.text.now → IsCounted new to
column_next old new from to n same c start low within = record {
  within = subst (λ t. to ≤ length t) (sym same) within;
  column = subst (λ t. to < length t → column t to ≡ to - new.line_start) (sym same)
      (λ inside. elim (cases_Bool (breaks old.text.now from)) [
        | inl broken ↦ n.in_later_line broken inside
        | inr whole ↦
            omega (arith, n.in_line whole inside, n.start whole, c.column (omega (arith, low, inside)), start, low)
      ]);
}

-- in a later line whatever comes before it
pub column_later : (old new : Reader) (from to : ℕ) → IsAtNext old new from to → new.text.now ≡ old.text.now
    → ends_its_line old.text.now from ≡ true → to ≤ length old.text.now → IsCounted new to
column_later old new from to n same ends within = record {
  within = subst (λ t. to ≤ length t) (sym same) within;
  column = subst (λ t. to < length t → column t to ≡ to - new.line_start) (sym same)
      (λ inside. elim (or_cases (breaks old.text.now from) _ ends) [
        | inl broken ↦ n.in_later_line broken inside
        | inr over ↦ absurd (omega (arith, inside, n.there, leb-true (length old.text.now) (next old.text.now from) over))
      ]);
}
