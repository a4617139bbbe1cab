-- Data of the shape is absent or present, and what is present is of the shape of the content.
use Rattle.std.proofs.Common.{refl}
use Rattle.yaml_types.specs.Start.{IsClosed}
use Rattle.yaml_types.proofs.FoundLaws.{not_optional, content_found}
use Rattle.yaml_types.proofs.impls.optional.OptionDeserialize.build.Goals as goal

pub build-requires : goal.build-requires
build-requires g c κs =
    let closed : IsClosed g.T.Deserialize.start = (g.met.T.Deserialize c.lifetimes (assumption c)).closed in (
      (refl, tt),
      content_found g.T.Deserialize.start closed c.args.found c.in-Some.content c.into_inner.result
          c.in-Some.is c.into_inner.ensures c.requires,
    )

pub unreachable-requires : goal.unreachable-requires
unreachable-requires g c =
    not_optional g.T.Deserialize.start.0 g.T.Deserialize.start.1 c.args.found c.requires c.in_default.not-None
    c.in_default.not-Some
