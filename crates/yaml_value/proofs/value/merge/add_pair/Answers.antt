-- A key that is there keeps its value, and a new pair stands last.
use Rattle.std.proofs.Common.{ap, if◌then◌else◌, sym, None, ◌∙◌}
use Rattle.yaml_value.specs.PlainValue.{with_last}
use Rattle.yaml_value.specs.View.{plain, plain_pairs}
use Rattle.yaml_value.proofs.Merges.{none_there}
use Rattle.yaml_value.proofs.value.merge.add_pair.Goals as goal

pub append-requires : goal.append-requires
append-requires c = none_there _ (sym c.has.ensures ∙ c.if-has.false)

pub returns-then-has : goal.returns-then-has
returns-then-has c =
    let ps = plain_pairs c.args.mapping.now in
    ap (λ b. (if b then ps else with_last ps (plain c.args.key) (plain c.args.value), None))
    (sym c.has.ensures ∙ c.if-has.true)

pub returns : goal.returns
returns c =
    let ps = plain_pairs c.args.mapping.now in
    ap (λ b. (if b then ps else with_last ps (plain c.args.key) (plain c.args.value), None))
    (sym c.has.ensures ∙ c.if-has.false)
    ∙ ap (λ qs. (qs, None)) (sym c.in_ok-append.ensures.ok)
