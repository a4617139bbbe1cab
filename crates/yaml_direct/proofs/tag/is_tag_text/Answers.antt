-- UTF-8, or not.
use Rattle.std.proofs.Common.{ap, sym}
use Rattle.std.specs.Option.{is_some}
use Rattle.yaml_direct.proofs.TagLaws.{checked_other, checked_text}
use Rattle.yaml_direct.proofs.tag.is_tag_text.Goals as goal

pub returns-in-Ok : goal.returns-in-Ok
returns-in-Ok c = sym (ap is_some (checked_text c.args.bytes.now c.in-None.ensures c.in-Ok.ensures.cases.1))

pub returns-in-Err : goal.returns-in-Err
returns-in-Err c = checked_other c.args.bytes.now c.in-Err.ensures.cases.0
