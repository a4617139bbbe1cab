-- The place is counted on by each byte.
use Rattle.std.proofs.Common.{◌∙◌, arith, sym}
use Rattle.yaml_parse.proofs.PlaceLaws.{goes_to_column, goes_to_line, place_within, stays_there}
use Rattle.yaml_parse.proofs.place.mark_at.Goals as goal
use Rattle.yaml_parse.proofs.place.mark_at.Goals.{then-is_printed, else-is_printed+then-ends_line}
use Rattle.yaml_parse.proofs.place.mark_at.Goals.{else-is_printed+else-ends_line+then-begins_character}
use Rattle.yaml_parse.proofs.place.mark_at.Goals.{else-is_printed+else-ends_line+else-begins_character}

pub loop-at-preserved : goal.loop-at-preserved
loop-at-preserved c =
    let text = c.args.text.now in
    let at = c.loop-at.at in
    let line = c.loop-at.line in
    let column = c.loop-at.column in
    elim c.if-is_printed.branch [
      | then-is_printed w ↦
          goes_to_column text at line column _ _ c.loop-at.invariant (c.is_printed.ensures.goes_on w.if-is_printed.true)
          (c.is_printed.ensures.counts w.if-is_printed.true) w.line-is w.column-is
      | else-is_printed+then-ends_line w ↦
          goes_to_line text at line column _ _ c.loop-at.invariant (sym w.ends_line.ensures ∙ w.if-ends_line.true)
          w.line-is
          w.column-is
      | else-is_printed+else-ends_line+then-begins_character w ↦
          goes_to_column text at line column _ _ c.loop-at.invariant (sym w.ends_line.ensures ∙ w.if-ends_line.false)
          (sym w.begins_character.ensures ∙ w.if-begins_character.true) w.line-is w.column-is
      | else-is_printed+else-ends_line+else-begins_character w ↦
          stays_there text at line column _ _ c.loop-at.invariant (sym w.ends_line.ensures ∙ w.if-ends_line.false)
          (sym w.begins_character.ensures ∙ w.if-begins_character.false) w.line-is w.column-is
    ]

pub overflow_add-line : goal.overflow_add-line
overflow_add-line c =
    let within = place_within c.args.text.now c.loop-at.at c.loop-at.line c.loop-at.column c.loop-at.invariant in
    omega arith

pub overflow_add-column : goal.overflow_add-column
overflow_add-column c =
    let within = place_within c.args.text.now c.loop-at.at c.loop-at.line c.loop-at.column c.loop-at.invariant in
    omega arith

pub overflow_add-column-then-begins_character : goal.overflow_add-column-then-begins_character
overflow_add-column-then-begins_character c =
    let within = place_within c.args.text.now c.loop-at.at c.loop-at.line c.loop-at.column c.loop-at.invariant in
    omega arith

pub unreachable-requires : goal.unreachable-requires
unreachable-requires c =
    let within = place_within c.args.text.now c.loop-at.at c.loop-at.line c.loop-at.column c.loop-at.invariant in
    c.in-None.ensures (omega arith, omega arith)
