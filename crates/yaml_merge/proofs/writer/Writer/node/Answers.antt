-- What was written is named by an alias.
use Rattle.std.proofs.Common.{◌≡◌, ap}
use Rattle.std.proofs.lemmas.Result.{IfOk-weaker}
use Rattle.yaml_base.specs.DocEventView.{marked_events_of}
use Rattle.yaml_base.specs.PlainEvent.{alias}
use Rattle.yaml_merge.specs.Writing.{target_at}
use Rattle.yaml_merge.proofs.FrameLaws.{alias_goes}
use Rattle.yaml_merge.proofs.writer.Writer.node.Goals as goal

pub returns-then-is_written-clause-begins : goal.returns-then-is_written-clause-begins
returns-then-is_written-clause-begins c =
    let old = c.args.self.now in
    let events = marked_events_of old.nodes.events.now in
    let same : c.push.new.self.frames.items ≡ old.frames.items = rw c.push.ensures.frames in
    IfOk-weaker c.push.result _ _ (λ x pushed. (
      alias c.in_ok-name.name,
      pushed.0,
      pushed.1,
      alias_goes events old.nodes.ends.now old.frames.items c.push.new.self.frames.items (alias c.in_ok-name.name)
          c.target-target.result (target_at events c.args.place) same (ap alias c.in_ok-name.ensures)
          c.target-target.ensures,
    )) c.push.ensures.pushed
