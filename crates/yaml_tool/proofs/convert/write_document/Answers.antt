-- A refused document leaves all as it was.
use Rattle.yaml_tool.proofs.WritingLaws.{same_opened}
use Rattle.yaml_tool.proofs.convert.write_document.Goals as goal

pub returns-in_err-serialize_typed : goal.returns-in_err-serialize_typed
returns-in_err-serialize_typed c = same_opened _ _ c.in_err-serialize_typed.ensures.1 c.requires
