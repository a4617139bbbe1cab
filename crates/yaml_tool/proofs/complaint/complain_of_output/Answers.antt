-- The words are those of the reason.
use Rattle.yaml_tool.specs.Complaints.{unwritten_line}
use Rattle.yaml_tool.proofs.ComplaintLaws.{in_words}
use Rattle.yaml_tool.proofs.complaint.complain_of_output.Goals as goal

pub returns-clause-told : goal.returns-clause-told
returns-clause-told g c = λ other.
    in_words c.write_unwritten.result _ _ unwritten_line c.as_str.result.now c.write_unwritten.ensures
