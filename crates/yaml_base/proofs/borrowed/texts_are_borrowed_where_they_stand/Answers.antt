use Rattle.yaml_base.proofs.BorrowableLaws.{is_borrowable-Decides}
use Rattle.yaml_base.proofs.borrowed.texts_are_borrowed_where_they_stand.Goals as goal

pub returns : goal.returns
returns c = λ text source style. is_borrowable-Decides text source style
