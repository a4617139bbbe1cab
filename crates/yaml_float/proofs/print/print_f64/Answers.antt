-- A finite float is read back by its digits, another by its word.
use Rattle.std.proofs.Common.{sym, IsTrue, IsFalse, true≢false, ◌∙◌}
use Rattle.std.specs.Float.{binary64, float_is_finite}
use Rattle.yaml_float.proofs.Laws.{plain_read, word_read}
use Rattle.yaml_float.proofs.print.print_f64.Goals as goal

pub returns-then-is_finite : goal.returns-then-is_finite
returns-then-is_finite c =
    let finite : IsTrue (float_is_finite c.args.x) = sym c.if-is_finite.ensures.value in (
      plain_read binary64 c.format_finite.result.now c.args.x c.format_finite.ensures.plain finite
          c.format_finite.ensures.parses,
      ((λ _. c.format_finite.ensures.plain), (λ h. absurd (true≢false (sym finite ∙ h)))),
    )

pub returns-else-is_finite : goal.returns-else-is_finite
returns-else-is_finite c =
    let other : IsFalse (float_is_finite c.args.x) = sym c.if-is_finite.ensures.value in (
      rw c.word_f64.ensures (word_read binary64 c.args.x other),
      ((λ h. absurd (true≢false (sym h ∙ other))), (λ _. c.word_f64.ensures)),
    )
