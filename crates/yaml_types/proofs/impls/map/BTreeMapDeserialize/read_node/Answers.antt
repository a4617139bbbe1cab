use Rattle.std.proofs.Common.{◌+◌, ◌-◌, refl, sym, subst, arith}
use Rattle.yaml_types.specs.BuiltParts.{BuiltMap}
use Rattle.yaml_types.specs.Start.{IsClosed}
use Rattle.yaml_types.proofs.LeafReads.{pairs_means}
use Rattle.yaml_types.proofs.impls.map.BTreeMapDeserialize.read_node.Goals as goal

pub returns-in-Ok : goal.returns-in-Ok
returns-in-Ok g c =
    let key : IsClosed g.K.Deserialize.start = (g.met.K.Deserialize c.lifetimes (assumption c)).closed in
    let value : IsClosed g.V.Deserialize.start = (g.met.V.Deserialize c.lifetimes (assumption c)).closed in
    record {
      read = pairs_means g.K.Deserialize.start g.V.Deserialize.start key value g.K.Deserialize.built
          g.V.Deserialize.built g.K.Ord.cmp
          (λ d m. BuiltMap g.K.Ord.cmp g.K.Deserialize.built g.V.Deserialize.built d m.entries) c.args.tape.now
          c.args.place.now (c.args.place.now + 1) c.read_pairs.new.place (c.read_pairs.new.place + 1) c.args.depth
          (c.args.depth - 1) c.in_ok-pairs.pairs.items c.in-Ok.map (c.if-not-begins_mapping.ensures refl)
          c.in_ok-pairs.ensures.pairs c.in_ok-pairs.ensures.ended (omega (arith, c.if-depth-eq0.false))
          (λ d h. subst (BuiltMap g.K.Ord.cmp g.K.Deserialize.built g.V.Deserialize.built d)
          (sym c.in-Ok.ensures) h);
    }
