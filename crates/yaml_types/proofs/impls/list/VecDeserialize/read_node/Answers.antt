use Rattle.std.proofs.Common.{◌+◌, ◌-◌, refl, arith}
use Rattle.yaml_types.specs.BuiltParts.{BuiltSeq}
use Rattle.yaml_types.specs.Start.{IsClosed}
use Rattle.yaml_types.proofs.LeafReads.{list_means}
use Rattle.yaml_types.proofs.impls.list.VecDeserialize.read_node.Goals as goal

pub returns : goal.returns
returns g c =
    let closed : IsClosed g.T.Deserialize.start = (g.met.T.Deserialize c.lifetimes (assumption c)).closed in
    record {
      read = list_means g.T.Deserialize.start closed g.T.Deserialize.built (λ d xs.
          BuiltSeq g.T.Deserialize.built d xs.items) c.args.tape.now c.args.place.now (c.args.place.now + 1)
          c.read_items.new.place (c.read_items.new.place + 1) c.args.depth (c.args.depth - 1)
          c.in_ok-items.items.items c.in_ok-items.items (c.if-not-begins_sequence.ensures refl)
          c.in_ok-items.ensures.items c.in_ok-items.ensures.ended (omega (arith, c.if-depth-eq0.false)) (λ d h. h);
    }
