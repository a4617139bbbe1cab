-- With each document one more is answered, and at last all are.
use Rattle.std.proofs.Common.{rules, string_bytes}
use Rattle.yaml_tool.proofs.AskedLaws.{asking-begins, asking-ends, asking-next, fewer}
use Rattle.yaml_tool.proofs.asked.asked_in_turn.Goals as goal

pub loop-read-init : goal.loop-read-init
loop-read-init c = asking-begins c.args.question.now c.in-Ok.stream _ _ (search rules) (search rules)

pub loop-read-preserved : goal.loop-read-preserved
loop-read-preserved c =
    asking-next c.args.question.now c.in-Ok.stream c.loop-read.documents c.read_next.new.self
    (string_bytes c.loop-read.all.text) (string_bytes c.push.new.all.text) c.loop-read.all.faults.items
    c.push.new.all.faults.items c.in-Some.read c.of_document.result c.in-Some.ensures.next c.of_document.ensures
    c.in_ok-push.ensures c.loop-read.invariant

pub loop-read-smaller : goal.loop-read-smaller
loop-read-smaller c =
    fewer c.loop-read.documents c.read_next.new.self c.in-Some.ensures.next.document c.in-Some.ensures.next.first

pub returns : goal.returns
returns c = (
  c.in-Ok.stream,
  c.in-Ok.ensures.documents,
  asking-ends c.args.question.now c.in-Ok.stream c.loop-read.documents (string_bytes c.loop-read.all.text)
      c.loop-read.all.faults.items c.in_default-read_next.ensures.none.0 c.loop-read.invariant,
)
