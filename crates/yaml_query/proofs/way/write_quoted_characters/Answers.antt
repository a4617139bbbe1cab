-- Where no character is left, those so far are those of the text.
use Rattle.std.proofs.Common.{flat_map, sym, ap, ◌∙◌, map-id}
use Rattle.std.proofs.Output.{has_written_of_eq}
use Rattle.std.proofs.lemmas.Iterator.{YieldsList-from_chars}
use Rattle.std.proofs.lemmas.Iterator.Consumers.{YieldsList-end}
use Rattle.yaml_query.specs.StepsText.{quoted_character}
use Rattle.yaml_query.proofs.way.write_quoted_characters.Goals as goal

pub returns : goal.returns
returns g c =
    let letters = YieldsList-from_chars c.args.key.now c.utf8.key cc in
    let all = YieldsList-end letters c.loop-c.yielded _ c.loop-c.yielded_by _ _ c.in-None.is c.next.ensures.steps in
    λ plain ok. has_written_of_eq g.W.Write.write_str_gives _ _ _ _
    (ap (flat_map quoted_character) (sym (map-id c.loop-c.yielded) ∙ all.0)) (c.loop-c.invariant plain)
