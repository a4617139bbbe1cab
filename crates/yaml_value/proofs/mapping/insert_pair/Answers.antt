-- The place of the key says what a new value there makes of the pairs.
use Rattle.std.proofs.Common.{ap, sym, ◌∙◌}
use Rattle.std.specs.Prelude.{option_and_then}
use Rattle.yaml_value.specs.Find.{value_in_place}
use Rattle.yaml_value.specs.PlainEqual.{plain_eq}
use Rattle.yaml_value.specs.View.{entry_pairs, plain}
use Rattle.yaml_value.proofs.Views.{value_where-place, with_found, with_pair-place}
use Rattle.yaml_value.proofs.mapping.insert_pair.Goals as goal

pub returns-in-Some-clause-ok : goal.returns-in-Some-clause-ok
returns-in-Some-clause-ok c =
    let ps = entry_pairs c.args.entries.now.items in
    let k = plain c.args.key in
    let v = plain c.args.value in
    c.put_in.ensures.after
    ∙ (ap (λ o. with_found o k v ps) c.in-Some.ensures.place ∙ with_pair-place k v ps)

pub returns-in-Some-clause-told : goal.returns-in-Some-clause-told
returns-in-Some-clause-told c =
    let ps = entry_pairs c.args.entries.now.items in
    sym c.put_in.ensures.answer
    ∙ (ap (option_and_then (λ i. value_in_place i ps)) c.in-Some.ensures.place
    ∙ value_where-place (plain_eq (plain c.args.key)) ps)

pub returns-in-Some-clause-sound : goal.returns-in-Some-clause-sound
returns-in-Some-clause-sound c = c.put_in.ensures.sound c.requires

pub returns-in_ok-add-in-None-clause-ok : goal.returns-in_ok-add-in-None-clause-ok
returns-in_ok-add-in-None-clause-ok c =
    let ps = entry_pairs c.args.entries.now.items in
    let k = plain c.args.key in
    let v = plain c.args.value in
    c.in_ok-add-in-None.ensures.ok
    ∙ (ap (λ o. with_found o k v ps) c.in-None.ensures.place ∙ with_pair-place k v ps)

pub returns-in_ok-add-in-None-clause-told : goal.returns-in_ok-add-in-None-clause-told
returns-in_ok-add-in-None-clause-told c =
    let ps = entry_pairs c.args.entries.now.items in
    ap (option_and_then (λ i. value_in_place i ps)) c.in-None.ensures.place
    ∙ value_where-place (plain_eq (plain c.args.key)) ps

pub returns-in_ok-add-in-None-clause-sound : goal.returns-in_ok-add-in-None-clause-sound
returns-in_ok-add-in-None-clause-sound c = c.in_ok-add-in-None.ensures.sound c.requires (sym c.in-None.ensures.place)

pub returns-in_err-add-in-None-clause-sound : goal.returns-in_err-add-in-None-clause-sound
returns-in_err-add-in-None-clause-sound c =
    c.in_err-add-in-None.ensures.sound c.requires (sym c.in-None.ensures.place)
