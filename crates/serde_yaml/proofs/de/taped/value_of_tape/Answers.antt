use Rattle.std.proofs.Common.{subst}
use Rattle.yaml_shape.specs.Validity.{IsValidSchema}
use Rattle.yaml_read.specs.QuickReads.{OptionalsEnd}
use Rattle.yaml_types.specs.NodeMeans.{NodeMeans}
use Rattle.yaml_types.specs.Start.{IsClosed}
use Rattle.serde_yaml.specs.TapeReads.{HoldsValue}
use Rattle.serde_yaml.proofs.TapeLaws.{tape_gives}
use Rattle.serde_yaml.proofs.de.taped.value_of_tape.Goals as goal

pub returns : goal.returns
returns g c =
    let closed : IsClosed g.T.Deserialize.start = (g.met.T.Deserialize c.lifetimes (assumption c)).closed in
    let valid = subst IsValidSchema c.requires.table c.is_valid.ensures in
    let ends : OptionalsEnd c.args.table.now = record {
      small = c.optionals_end.ensures.small;
      falls = c.optionals_end.ensures.falls;
    } in
    tape_gives c.args.limits g.T.Deserialize.start g.T.Deserialize.built g.T.Deserialize.refused c.args.tape.now
    c.in_ok-value.value c.reading_gives_the_meaning.ensures closed valid (subst OptionalsEnd c.requires.table ends)
    c.requires.allowed c.requires.says c.in_ok-value.ensures.stands
    (subst (λ d. HoldsValue g.T.Deserialize.start g.T.Deserialize.built c.args.tape.now d c.in_ok-value.value)
    c.nesting.ensures c.in_ok-value.ensures.value)
