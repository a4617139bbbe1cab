-- The name stands in the line of its `*`.
use Rattle.std.proofs.Common.{◌+◌, ◌∙◌, sym}
use Rattle.yaml_direct.proofs.LeafLines.{byte_line, name_line}
use Rattle.yaml_direct.proofs.LineLaws.{line_on}
use Rattle.yaml_direct.proofs.leaf.find_alias.Goals as goal

pub returns-clause-line : goal.returns-clause-line
returns-clause-line c = λ h other.
    let text = c.args.text.now in
    let from = c.args.from in
    line_on text from (from + 1) c.in_ok-end.end (byte_line text from other)
    (name_line text c.args.flow (from + 1) c.in_ok-end.end (sym (c.name_end.ensures.read h) ∙ c.in_ok-end.was))
