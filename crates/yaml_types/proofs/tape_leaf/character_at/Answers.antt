use Rattle.std.proofs.Common.{◌≡◌, subst, rules}
use Rattle.std.specs.Prelude.{Some}
use Rattle.std.specs.Str.{IsUtf8, chars}
use Rattle.yaml_meaning.specs.ScalarShapes.{only_one}
use Rattle.yaml_scalar.proofs.CharacterLaws.{one-character}
use Rattle.yaml_tape.specs.OnDocs.{bare}
use Rattle.yaml_types.proofs.LeafReads.{char_gives}
use Rattle.yaml_types.proofs.tape_leaf.character_at.Goals as goal

pub returns-in-None-clause-gives : goal.returns-in-None-clause-gives
returns-in-None-clause-gives c =
    let e = c.in_ok-entry.entry in
    let text = (bare c.args.tape.now e).text in
    let utf8 : IsUtf8 text = search rules in
    let read : IsUtf8 c.in_ok-text.text.now = search rules in
    let same : c.in_ok-text.text.now ≡ text = search rules in
    char_gives c.args.tape.now c.args.place e c.in_ok-found.found c.in_ok-entry.ensures.scalar utf8
    (subst (λ l. Some c.in_ok-found.found ≡ only_one (chars l)) same
    (one-character c.in_ok-text.text.now _ _ _ read c.chars-characters.ensures.rest c.in_ok-found.ensures.steps.0
    c.in-None.ensures.steps.0.0))
