use Rattle.std.proofs.Common.{◌+◌, refl}
use Rattle.yaml_types.specs.Start.{IsClosed}
use Rattle.yaml_types.proofs.LeafReads.{content_means, none_means}
use Rattle.yaml_types.proofs.impls.optional.OptionDeserialize.read_node.Goals as goal

pub returns-then-begins_collection : goal.returns-then-begins_collection
returns-then-begins_collection g c =
    let closed : IsClosed g.T.Deserialize.start = (g.met.T.Deserialize c.lifetimes (assumption c)).closed in
    record {
      read = content_means g.T.Deserialize.start closed g.T.Deserialize.built c.args.tape.now c.args.place.now
          c.read_node.new.place c.args.depth c.in_ok-read_node.field-0 (c.if-begins_collection.ensures refl)
          c.in_ok-read_node.ensures.read;
    }

pub returns-then-branch : goal.returns-then-branch
returns-then-branch g c =
    let closed : IsClosed g.T.Deserialize.start = (g.met.T.Deserialize c.lifetimes (assumption c)).closed in
    record {
      read = none_means g.T.Deserialize.start closed g.T.Deserialize.built c.args.tape.now c.args.place.now
          (c.args.place.now + 1) c.args.depth (c.in_ok-is_nothing.ensures.nothing c.if-branch.true) refl;
    }

pub returns : goal.returns
returns g c =
    let closed : IsClosed g.T.Deserialize.start = (g.met.T.Deserialize c.lifetimes (assumption c)).closed in
    record {
      read = content_means g.T.Deserialize.start closed g.T.Deserialize.built c.args.tape.now c.args.place.now
          c.read_node-2.new.place c.args.depth c.in_ok-read_node-2.field-0
          (c.in_ok-is_nothing.ensures.content c.if-branch.false) c.in_ok-read_node-2.ensures.read;
    }
