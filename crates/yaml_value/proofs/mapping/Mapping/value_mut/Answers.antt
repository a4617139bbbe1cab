-- Another value at a key keeps each key in its chain.
use Rattle.std.proofs.Common.{ap, arith, refl, sym, Some, ◌∙◌, ◌<◌, length}
use Rattle.yaml_value.specs.Entries.{with_value_in}
use Rattle.yaml_value.specs.Find.{value_in_place}
use Rattle.yaml_value.specs.PlainValue.{pair_count}
use Rattle.yaml_value.proofs.Indexed.{sound-put}
use Rattle.yaml_value.proofs.Views.{pair_count-entries, pairs_of-view, value_in_place-at}
use Rattle.yaml_value.proofs.mapping.Mapping.value_mut.Goals as goal

pub index_mut-requires : goal.index_mut-requires
index_mut-requires c =
    let counts = pair_count-entries c.self.inside.entries.items in
    let seen = ap pair_count (pairs_of-view c.self.inside.entries.items c.args.self.now c.self.view_is
    c.self.invariant.1) in
    omega (arith, counts, seen, c.requires)

pub invariant_of-self-lent : goal.invariant_of-self-lent
invariant_of-self-lent c w =
    let d = c.index_mut.result.now in
    sound-put c.self.inside.entries.items c.args.place (with_value_in d w) d c.index_mut.ensures.value refl refl refl
    c.self.invariant

pub returns : goal.returns
returns c =
    let es = c.self.inside.entries.items in
    let counts = pair_count-entries es in
    let seen = pairs_of-view c.self.inside.entries.items c.args.self.now c.self.view_is c.self.invariant.1 in
    let within : c.args.place < length es = omega (arith, counts, ap pair_count seen, c.requires) in
    ap (value_in_place c.args.place) (sym seen)
    ∙ (value_in_place-at es c.args.place c.index_mut.result.now within c.index_mut.ensures.value
    ∙ ap Some (sym c.lend_value.ensures.value))
