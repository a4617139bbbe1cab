-- The first line ends before the first line feed, or where the input ends.
use Rattle.std.proofs.Common.{ap, ◌∙◌}
use Rattle.yaml_lines.specs.InputText.{lines_of}
use Rattle.yaml_lines.proofs.InputLaws.{lines_of-cut, lines_of-whole}
use Rattle.yaml_lines.proofs.input.first_line.Goals as goal

pub returns-in-Some-clause-lines : goal.returns-in-Some-clause-lines
returns-in-Some-clause-lines c = ap lines_of c.in-Some.ensures.0 ∙ lines_of-cut _ _ c.in-Some.ensures.1

pub returns-in-None-clause-lines : goal.returns-in-None-clause-lines
returns-in-None-clause-lines c = lines_of-whole _ c.in-None.ensures c.requires
