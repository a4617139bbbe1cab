use Rattle.yaml_scalar.proofs.CharacterLaws.{one-character, two-characters}
use Rattle.yaml_scalar.proofs.character.only_char.Goals as goal

pub returns-in-None : goal.returns-in-None
returns-in-None c =
    one-character _ _ _ _ c.utf8.text c.chars-characters.ensures.rest c.in_ok-character.ensures.steps.0
    c.in-None.ensures.steps.0.0

pub returns-in-Some : goal.returns-in-Some
returns-in-Some c =
    two-characters _ _ _ _ _ _ c.utf8.text c.chars-characters.ensures.rest c.in_ok-character.ensures.steps.0
    c.in-Some.ensures.steps.0
