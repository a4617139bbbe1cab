-- The bytes are those that the text stands for.
use Rattle.std.proofs.Common.{ap, sym, subst}
use Rattle.std.proofs.lemmas.Bool.{false≢true}
use Rattle.std.proofs.lemmas.Str.{IsUtf8-string_bytes}
use Rattle.yaml_lines.specs.Escape.{Spells}
use Rattle.yaml_lines.proofs.FaultLaws.{no_utf8}
use Rattle.yaml_lines.proofs.line.fault.problem.Goals as goal

pub returns-in-Ok : goal.returns-in-Ok
returns-in-Ok c = (
  subst (Spells c.args.text.now) (ap (λ v. v.items)
      (sym c.in-Ok.ensures.ok)) c.in_ok-bytes.ensures,
  IsUtf8-string_bytes c.in-Ok.problem,
)

pub returns : goal.returns
returns c =
    λ bad bytes b. no_utf8 _ _ c.in_ok-bytes.ensures (λ u. false≢true (c.in-Err.ensures.succeeds u)) bytes b.0 b.1
