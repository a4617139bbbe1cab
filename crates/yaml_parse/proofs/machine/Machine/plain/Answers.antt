-- The text is what is left of the source, whose front is empty where nothing stands before it.
use Rattle.yaml_parse.proofs.PlainTexts.{says}
use Rattle.yaml_parse.proofs.machine.Machine.plain.Goals as goal

pub scalar-requires-clause-plain : goal.scalar-requires-clause-plain
scalar-requires-clause-plain c =
    says _ _ _ _ _ _ _ c.text_in.ensures c.in_ok-value.ensures c.len_before-front.ensures
