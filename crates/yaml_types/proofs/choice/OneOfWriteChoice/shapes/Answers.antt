-- The first variant is put behind the others, and the rest behind it.
use Rattle.yaml_types.proofs.EnumFound.{variants_more, first_too_large, others_too_large}
use Rattle.yaml_types.proofs.choice.OneOfWriteChoice.shapes.Goals as goal

pub returns-in-Err-clause-refused : goal.returns-in-Err-clause-refused
returns-in-Err-clause-refused g c =
    first_too_large c.in-Err.fault c.args.before g.V.WriteVariant.content g.C.WriteChoice.contents
    c.in-Err.ensures.refused

pub returns-in-Ok-shapes-clause-ok : goal.returns-in-Ok-shapes-clause-ok
returns-in-Ok-shapes-clause-ok g c =
    variants_more c.args.before _ g.V.WriteVariant.content g.C.WriteChoice.contents c.args.others.items _
    c.in-Some.name c.in-Some.fields c.in-Ok.content _ _ c.in-Ok-shapes.made c.in-Some.ensures.items
    c.in-Ok.ensures.ok c.in_ok-push-in-Ok.ensures.items c.in-Ok-shapes.ensures.ok

pub returns-in-Err-shapes-clause-refused : goal.returns-in-Err-shapes-clause-refused
returns-in-Err-shapes-clause-refused g c =
    others_too_large c.in-Err-shapes.fault c.args.before _ g.V.WriteVariant.content g.C.WriteChoice.contents
    c.in-Ok.ensures.ok.0 c.in-Err-shapes.ensures.refused
