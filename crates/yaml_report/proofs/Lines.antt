-- No byte between two places of a text ends a line, where none does before a place between them and none from it on.
use Rattle.std.proofs.Common.{◌≡◌, ℕ, ◌-◌, ◌<◌, ◌≤◌, List, length, take, drop, get_or, true, inl, inr, ap, ◌∙◌}
use Rattle.std.proofs.Common.{arith, eq-eqb}
use Rattle.std.proofs.lemmas.Bool.{cases_lt, or_left, or_right}
use Rattle.std.proofs.lemmas.List.{get_or-take, get_or-drop}
use Rattle.memchr.specs.Find.{is_byte2, Nowhere, Passes}
use Rattle.yaml_report.specs.Line.{EndsLine}

passes : (byte : ℕ) → EndsLine byte → is_byte2 10 13 byte ≡ true
passes byte (inl feed) = or_left _ _ (eq-eqb byte 10 feed)
passes byte (inr returned) = or_right _ _ (eq-eqb byte 13 returned)

at_behind : (text : List ℕ) (index k : ℕ) → index ≤ k → k < length text
    → get_or (take (length text - index) (drop index text)) (k - index) 0 ≡ get_or text k 0
at_behind text index k from to =
    get_or-take (length text - index) (drop index text) (k - index) 0 (omega arith)
    ∙ (get_or-drop index text (k - index) 0 ∙ ap (λ n. get_or text n 0) (omega arith))

pub whole_line : (text : List ℕ) (start index end : ℕ) → end ≤ length text
    → Nowhere (Passes (is_byte2 10 13) (take index text)) start index
    → Nowhere (Passes (is_byte2 10 13) (take (length text - index) (drop index text))) 0 (end - index)
    → (k : ℕ) → start ≤ k → k < end → ¬ EndsLine (get_or text k 0)
whole_line text start index end within before behind k from to ended =
    elim (cases_lt k index) [
      | inl lt ↦ before k from lt (ap (is_byte2 10 13) (get_or-take index text k 0 lt) ∙ passes _ ended)
      | inr ge ↦ behind (k - index) (omega arith) (omega arith)
          (ap (is_byte2 10 13) (at_behind text index k ge (omega arith)) ∙ passes _ ended)
    ]
