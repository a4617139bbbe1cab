use Rattle.std.proofs.Common.{◌+◌, ◌-◌, refl, arith, subst, sym, replicate}
use Rattle.yaml_types.specs.ArrayLaws.{copies_closed}
use Rattle.yaml_types.specs.BuiltParts.{BuiltItems}
use Rattle.yaml_types.specs.Rows.{BuiltElements}
use Rattle.yaml_types.specs.Start.{IsClosed}
use Rattle.yaml_types.proofs.RowReads.{tuple_means}
use Rattle.yaml_types.proofs.impls.array.ArrayDeserialize.read_node.Goals as goal

pub returns-in-Ok : goal.returns-in-Ok
returns-in-Ok g c =
    let closed : IsClosed g.T.Deserialize.start = (g.met.T.Deserialize c.lifetimes (assumption c)).closed in
    record {
      read = tuple_means (replicate g.row.N g.T.Deserialize.start) (copies_closed g.row.N g.T.Deserialize.start closed)
          (BuiltItems g.T.Deserialize.built) (BuiltElements (BuiltItems g.T.Deserialize.built)) c.args.tape.now
          c.args.place.now (c.args.place.now + 1) c.read_elements.new.place (c.read_elements.new.place + 1)
          c.args.depth (c.args.depth - 1) c.in_ok-values.values.items c.in-Ok.array
          (c.if-not-begins_sequence.ensures refl) c.in_ok-values.ensures (c.if-not-ends_sequence.ensures refl)
          (omega (arith, c.if-depth-eq0.false))
          (λ d h. subst (BuiltElements (BuiltItems g.T.Deserialize.built) d) (sym c.in-Ok.ensures.0) h);
    }
