-- The text stands behind what was taken before.
use Rattle.std.proofs.Common.{arith, ◌∙◌, ◌-◌, ap}
use Rattle.yaml_c.proofs.RoomLaws.{wrote, wrote_text}
use Rattle.yaml_c.proofs.room.put_text.Goals as goal
use Rattle.yaml_c.proofs.room.put_text.Goals.{then-end-texts, else-end-texts}
use borrow.Rule.Slice.PartMut.{put_mid}

pub returns-clause-grows : goal.returns-clause-grows
returns-clause-grows c =
    let old = c.args.texts.now in
    let at = c.args.tally.now.bytes in
    let k = c.saturating_add-end.result - at in
    elim c.if-end-texts.branch [
      | then-end-texts w ↦ wrote old c.args.text.now at k
          (w.texts-is ∙ ap (put_mid at k old) w.copy_from_slice.ensures.after) (omega arith) w.if-end-texts.true
      | else-end-texts w ↦ record { room = λ h. absurd (omega arith); added = λ h. absurd (omega arith) }
    ]

pub returns-clause-put : goal.returns-clause-put
returns-clause-put c =
    let old = c.args.texts.now in
    let at = c.args.tally.now.bytes in
    let k = c.saturating_add-end.result - at in
    elim c.if-end-texts.branch [
      | then-end-texts w ↦ wrote_text old c.args.text.now at k
          (w.texts-is ∙ ap (put_mid at k old) w.copy_from_slice.ensures.after) (omega arith) w.if-end-texts.true
      | else-end-texts w ↦ λ h more. absurd (omega arith)
    ]
