use Rattle.std.proofs.Common.{◌+◌, ◌-◌, refl, arith}
use Rattle.yaml_types.specs.Sets.{BuiltSet}
use Rattle.yaml_types.specs.Start.{IsClosed}
use Rattle.yaml_types.proofs.LeafReads.{list_means}
use Rattle.yaml_types.proofs.MemberFilling.{set_built}
use Rattle.yaml_types.proofs.impls.set.BTreeSetDeserialize.read_node.Goals as goal

pub returns-in-Ok : goal.returns-in-Ok
returns-in-Ok g c =
    let closed : IsClosed g.T.Deserialize.start = (g.met.T.Deserialize c.lifetimes (assumption c)).closed in
    record {
      read = list_means g.T.Deserialize.start closed g.T.Deserialize.built
          (λ d s. BuiltSet g.T.Ord.cmp g.T.Deserialize.built d s.keys) c.args.tape.now c.args.place.now
          (c.args.place.now + 1) c.read_items.new.place (c.read_items.new.place + 1) c.args.depth (c.args.depth - 1)
          c.in_ok-members.members.items c.in-Ok.set (c.if-not-begins_sequence.ensures refl)
          c.in_ok-members.ensures.items c.in_ok-members.ensures.ended (omega (arith, c.if-depth-eq0.false))
          (set_built g.T.Ord.cmp g.T.Deserialize.built c.in_ok-members.members.items c.in-Ok.set.keys c.in-Ok.ensures);
    }
