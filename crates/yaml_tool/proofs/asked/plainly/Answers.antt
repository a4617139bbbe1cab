-- What has a name is printed by that.
use Rattle.std.proofs.Common.{[], ◌∷◌, ◌++◌, ap, string_bytes, ◌∙◌}
use Rattle.yaml_value.specs.View.{plain}
use Rattle.yaml_tool.specs.Characters.{bare}
use Rattle.yaml_tool.proofs.AskedLaws.{bare-form}
use Rattle.yaml_tool.proofs.asked.plainly.Goals as goal

pub returns-in_ok-bare_line-in-Some-clause-text : goal.returns-in_ok-bare_line-in-Some-clause-text
returns-in_ok-bare_line-in-Some-clause-text c =
    bare-form (plain c.args.part.now) (string_bytes c.in-Some.text) (string_bytes c.in_ok-bare_line-in-Some.field-0)
    (rw c.in-Some.is at c.in_ok-text.ensures)
    (c.in_ok-bare_line-in-Some.ensures ∙ ap (λ t. bare t ++ 10 ∷ []) c.as_str.ensures.value)
