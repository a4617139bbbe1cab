-- The joining of tables in a row.
use Rattle.std.proofs.Common.{◌≡◌, ◌<◌, [], ◌∷◌, ◌++◌, map, length, subst, ap, arith}
use Rattle.std.proofs.lemmas.List.{length-map}
use Rattle.yaml_shape.specs.ShapeView.{shape_of}
use Rattle.yaml_shape.proofs.PartLaws.{AreJoined, AreSeen, one_joined, too_large, all_joined}
use Rattle.yaml_shape.proofs.PartLaws.{next_within, empty, one_seen, all_seen}
use Rattle.yaml_shape.proofs.rows.join_row.Goals as goal

pub overflow_add-behind : goal.overflow_add-behind
overflow_add-behind c =
    let start : c.in-Some.start.0 < length c.in-Some.schema =
    next_within c.args.first c.args.parts.items c.loop-schema.all c.loop-schema.starts.items c.in-Some.schema
    c.in-Some.start
    c.next.new.self.rest.items
    (subst (AreJoined c.args.first c.args.parts.items c.loop-schema.all c.loop-schema.starts.items)
    c.in-Some.ensures.steps.0 c.loop-schema.invariant.0) in
    let size : length (map shape_of c.all.inside.shapes.items) ≡ length c.all.inside.shapes.items =
    length-map c.all.inside.shapes.items shape_of in
    omega (arith, c.all.inside.shapes.ok.0, c.len-behind.ensures, c.all.invariant.few, c.is_valid.ensures.few)

pub loop-schema-preserved : goal.loop-schema-preserved
loop-schema-preserved c =
    let seen : length (map shape_of c.all.inside.shapes.items) ≡ length c.loop-schema.all = ap length c.all.view_is in
    let size : length (map shape_of c.all.inside.shapes.items) ≡ length c.all.inside.shapes.items =
    length-map c.all.inside.shapes.items shape_of in (
      one_joined c.args.first c.args.parts.items c.loop-schema.all c.in-Ok.both c.loop-schema.starts.items
          c.push.new.self.items
          c.in-Some.schema c.in-Some.start _ c.next.new.self.rest.items
          c.in-Ok.ensures.ok c.in_ok-push.ensures.items (omega (arith, c.all.inside.shapes.ok.0))
          (subst (AreJoined c.args.first c.args.parts.items c.loop-schema.all c.loop-schema.starts.items)
          c.in-Some.ensures.steps.0
          c.loop-schema.invariant.0),
      one_seen c.args.parts.items c.loop-schema.yielded c.next.new.self.rest.items
          c.loop-schema.schema-iterator.rest.items (c.in-Some.schema, c.in-Some.start)
          c.in-Some.ensures.steps.0 c.is_valid.ensures.closed c.loop-schema.invariant.1,
    )

pub returns-in-Err-clause-refused : goal.returns-in-Err-clause-refused
returns-in-Err-clause-refused c =
    too_large c.in-Err.fault c.args.first c.args.parts.items c.loop-schema.all c.loop-schema.starts.items
    c.in-Some.schema
    c.in-Some.start c.next.new.self.rest.items
    (subst (AreJoined c.args.first c.args.parts.items c.loop-schema.all c.loop-schema.starts.items)
    c.in-Some.ensures.steps.0
    c.loop-schema.invariant.0)
    c.in-Err.ensures.refused

pub returns-clause-ok : goal.returns-clause-ok
returns-clause-ok c =
    all_joined c.args.first c.args.parts.items c.loop-schema.all c.loop-schema.starts.items
    (subst (AreJoined c.args.first c.args.parts.items c.loop-schema.all c.loop-schema.starts.items)
    (empty c.loop-schema.schema-iterator.rest.items
    (omega (arith, c.loop-schema.schema-iterator.rest.ok.0, c.in-None.ensures.steps.0)))
    c.loop-schema.invariant.0)

pub returns-clause-closed : goal.returns-clause-closed
returns-clause-closed c =
    all_seen c.args.parts.items c.loop-schema.yielded
    (subst (AreSeen c.args.parts.items c.loop-schema.yielded)
    (empty c.loop-schema.schema-iterator.rest.items
    (omega (arith, c.loop-schema.schema-iterator.rest.ok.0, c.in-None.ensures.steps.0)))
    c.loop-schema.invariant.1)
