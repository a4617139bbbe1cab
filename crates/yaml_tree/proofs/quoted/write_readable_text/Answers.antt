-- A character is written behind those so far, and where none is left, these are those of the text.
use Rattle.std.proofs.Common.{rules, flat_map, sym, ap, ◌∙◌, map-id, append-nil, ◌++◌, ◌∷◌, []}
use Rattle.std.proofs.Output.{has_written_append, has_written_of_eq}
use Rattle.std.proofs.lemmas.List.Concat.{flat_map-append}
use Rattle.std.proofs.lemmas.Iterator.{YieldsList-from_chars}
use Rattle.std.proofs.lemmas.Iterator.Consumers.{YieldsList-end}
use Rattle.yaml_tree.specs.Quoted.{readable_character}
use Rattle.yaml_tree.proofs.quoted.write_readable_text.Goals as goal

pub loop-c-preserved : goal.loop-c-preserved
loop-c-preserved g c = λ plain.
    let before = c.loop-c.invariant plain in
    let written = readable_character c.in-Some.c in
    has_written_of_eq g.W.Write.write_str_gives _ _ _ _
    (ap (λ t. flat_map readable_character c.loop-c.yielded ++ t) (sym (append-nil written))
    ∙ sym (flat_map-append readable_character c.loop-c.yielded (c.in-Some.c ∷ [])))
    (has_written_append _ _ _ _ _ _ before (search rules))

pub returns : goal.returns
returns g c =
    let letters = YieldsList-from_chars c.args.text.now c.utf8.text cc in
    let all = YieldsList-end letters c.loop-c.yielded _ c.loop-c.yielded_by _ _ c.in-None.is c.next.ensures.steps in
    λ plain ok. has_written_of_eq g.W.Write.write_str_gives _ _ _ _
    (ap (flat_map readable_character) (sym (map-id c.loop-c.yielded) ∙ all.0)) (c.loop-c.invariant plain)
