-- An owned text is UTF-8.
use Rattle.yaml_shape.proofs.HeldLaws.{is_text}
use Rattle.yaml_shape.proofs.held.text_is_held.Goals as goal

pub returns-in-Owned : goal.returns-in-Owned
returns-in-Owned c = rw c.in-Owned.is (is_text c.in-Owned.field-0)
