-- By lemmas on trees, and as a text has one reading.
use Rattle.yaml_printed.proofs.Whole.{only_these, printed_stands}
use Rattle.yaml_printed.proofs.a_printed_text_stands.Goals as goal

pub returns-clause-stands : goal.returns-clause-stands
returns-clause-stands c = printed_stands

pub returns-clause-only : goal.returns-clause-only
returns-clause-only c = only_these
