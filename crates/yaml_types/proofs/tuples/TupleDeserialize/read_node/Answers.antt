use Rattle.std.proofs.Common.{◌+◌, ◌-◌, refl, arith}
use Rattle.yaml_types.specs.Rows.{BuiltElements}
use Rattle.yaml_types.proofs.RowReads.{tuple_means}
use Rattle.yaml_types.proofs.tuples.TupleDeserialize.read_node.Goals as goal

pub returns : goal.returns
returns g c = record {
  read = tuple_means g.R.ReadRow.starts (g.met.R.ReadRow c.lifetimes (assumption c)).closed g.R.ReadRow.built
      (λ d x. BuiltElements g.R.ReadRow.built d x.elements) c.args.tape.now c.args.place.now (c.args.place.now + 1)
      c.read_row.new.place (c.read_row.new.place + 1) c.args.depth (c.args.depth - 1) c.in_ok-elements.elements
      (record { elements = c.in_ok-elements.elements }) (c.if-not-begins_sequence.ensures refl)
      c.in_ok-elements.ensures.row c.in_ok-elements.ensures.ended (omega (arith, c.if-depth-eq0.false)) (λ d h. h);
}
