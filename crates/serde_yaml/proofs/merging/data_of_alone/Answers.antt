-- What the first document gives, once its merge keys are treated, unless others follow.
use Rattle.std.proofs.Common.{Err, subst, sym}
use Rattle.yaml_shape.specs.DataView.{data_of}
use Rattle.serde_yaml.specs.MergedReads.{TreatedGives}
use Rattle.serde_yaml.proofs.FirstDocument.{answers_weaker}
use Rattle.serde_yaml.proofs.MergedLaws.{first_read, first_refused, first_shape, none_there}
use Rattle.serde_yaml.proofs.merging.data_of_alone.Goals as goal

pub returns-in_default-clause-given : goal.returns-in_default-clause-given
returns-in_default-clause-given c = λ s at m.
    subst (λ fault. TreatedGives c.args.limits c.args.schema.now s c.args.merge c.args.documents (Err fault))
    (sym c.new.ensures) (none_there c.args.limits c.args.schema.now s c.args.merge c.in_default.ensures.none)

pub returns-in-Ok-clause-given : goal.returns-in-Ok-clause-given
returns-in-Ok-clause-given c = λ s at.
    answers_weaker data_of _ _
    (first_read c.args.limits c.args.schema.now s c.args.merge c.in-Some.document c.in-Ok.treated
    c.next_document-2.result c.next_document-2.new.self c.in-Some.ensures.items
    c.is_there-others.ensures c.next_document-2.ensures.items c.next_document-2.ensures.none
    c.in-Ok.ensures.treated c.in-Ok.ensures.ending) c.read_first.result (c.read_first.ensures s at)

pub returns-in-Ok-clause-typed : goal.returns-in-Ok-clause-typed
returns-in-Ok-clause-typed c =
    first_shape c.a_meaning_has_its_shape.ensures c.args.limits c.args.schema.now c.args.id.0 c.in-Ok.treated
    c.is_there-others.result c.has_tree.ensures c.requires c.read_first.result c.read_first.ensures

pub returns-clause-given : goal.returns-clause-given
returns-clause-given c = λ s at m.
    first_refused c.args.limits c.args.schema.now s c.args.merge c.in-Some.document c.in-Some.ensures.items (c.in-Err.ensures.untreated m)
