-- Data of the shape is a mapping, whose keys and values are of theirs.
use Rattle.std.proofs.Common.{refl}
use Rattle.yaml_types.specs.Start.{IsClosed}
use Rattle.yaml_types.proofs.FoundLaws.{not_mapping, entries_found}
use Rattle.yaml_types.proofs.impls.map.BTreeMapDeserialize.build.Goals as goal

pub build_entries-requires : goal.build_entries-requires
build_entries-requires g c κs =
    let keys : IsClosed g.K.Deserialize.start = (g.met.K.Deserialize c.lifetimes (assumption c)).closed in
    let values : IsClosed g.V.Deserialize.start = (g.met.V.Deserialize c.lifetimes (assumption c)).closed in (
      (refl, tt),
      entries_found g.K.Deserialize.start g.V.Deserialize.start keys values c.args.found c.in-Map.entries c.in-Map.is
          c.requires,
    )

pub unreachable-requires : goal.unreachable-requires
unreachable-requires g c = not_mapping _ _ _ c.args.found c.requires c.in_default.not-Map
