-- Data of the shape is a sequence, whose elements are of theirs.
use Rattle.std.proofs.Common.{refl}
use Rattle.yaml_types.specs.Start.{IsClosed}
use Rattle.yaml_types.proofs.FoundLaws.{not_sequence, elements_found}
use Rattle.yaml_types.proofs.impls.set.BTreeSetDeserialize.build.Goals as goal

pub build_members-requires : goal.build_members-requires
build_members-requires g c κs =
    let closed : IsClosed g.T.Deserialize.start = (g.met.T.Deserialize c.lifetimes (assumption c)).closed in (
      (refl, tt),
      elements_found g.T.Deserialize.start closed c.args.found c.in-Seq.items c.in-Seq.is c.requires,
    )

pub unreachable-requires : goal.unreachable-requires
unreachable-requires g c =
    not_sequence g.T.Deserialize.start.0 g.T.Deserialize.start.1 c.args.found c.requires c.in_default.not-Seq
