-- The words are those of the reason.
use Rattle.yaml_tool.specs.Complaints.{unread_line}
use Rattle.yaml_tool.proofs.ComplaintLaws.{in_words}
use Rattle.yaml_tool.proofs.complaint.tell_unread.Goals as goal

pub returns : goal.returns
returns g c =
    in_words c.write_unread.result _ _ (unread_line c.args.name.now) c.as_str.result.now c.write_unread.ensures
