-- With each character one more stands there, and where none is left, these are those of the text.
use Rattle.std.proofs.Common.{◌++◌, ap, flat_map, map-id, string_bytes, sym, ◌∙◌}
use Rattle.std.proofs.lemmas.Iterator.{YieldsList-from_chars}
use Rattle.std.proofs.lemmas.Iterator.Consumers.{YieldsList-end}
use Rattle.yaml_tool.specs.Characters.{json_character}
use Rattle.yaml_tool.proofs.CharacterLaws.{pushed}
use Rattle.yaml_tool.proofs.characters.push_json.Goals as goal

pub loop-c-preserved : goal.loop-c-preserved
loop-c-preserved c =
    pushed json_character _ _ _ c.loop-c.yielded c.in-Some.c c.loop-c.invariant c.in_ok-push_json_character.ensures

pub returns : goal.returns
returns c =
    let letters = YieldsList-from_chars c.args.json.now c.utf8.json cc in
    let all = YieldsList-end letters c.loop-c.yielded _ c.loop-c.yielded_by _ _ c.in-None.is c.next.ensures.steps in
    c.loop-c.invariant
    ∙ ap (λ cs. string_bytes c.args.out.now ++ flat_map json_character cs) (sym (map-id c.loop-c.yielded) ∙ all.0)
