-- With each character one more stands there, and where none is left, these are those of the text.
use Rattle.std.proofs.Common.{◌++◌, ap, flat_map, map-id, string_bytes, sym, ◌∙◌}
use Rattle.std.proofs.lemmas.Iterator.{YieldsList-from_chars}
use Rattle.std.proofs.lemmas.Iterator.Consumers.{YieldsList-end}
use Rattle.yaml_tool.specs.Characters.{bare_character}
use Rattle.yaml_tool.proofs.CharacterLaws.{pushed}
use Rattle.yaml_tool.proofs.characters.push_bare.Goals as goal

pub loop-c-preserved : goal.loop-c-preserved
loop-c-preserved c =
    pushed bare_character _ _ _ c.loop-c.yielded c.in-Some.c c.loop-c.invariant c.in_ok-push_bare_character.ensures

pub returns : goal.returns
returns c =
    let letters = YieldsList-from_chars c.args.text.now c.utf8.text cc in
    let all = YieldsList-end letters c.loop-c.yielded _ c.loop-c.yielded_by _ _ c.in-None.is c.next.ensures.steps in
    c.loop-c.invariant
    ∙ ap (λ cs. string_bytes c.args.out.now ++ flat_map bare_character cs) (sym (map-id c.loop-c.yielded) ∙ all.0)
