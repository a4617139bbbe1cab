-- A node between the events around a document.
use Rattle.std.proofs.Common.{◌≡◌, ◌∙◌}
use Rattle.std.proofs.lemmas.Result.{IfOk-weaker}
use Rattle.yaml_base.specs.DocEventView.{marked_events_of}
use Rattle.yaml_merge.specs.Writing.{target_at}
use Rattle.yaml_merge.proofs.WritingLaws.{stream_of_parts}
use Rattle.yaml_merge.proofs.writer.Writer.stream.Goals as goal

pub returns : goal.returns
returns c = IfOk-weaker c.push-4.result _ _ (λ x fourth. λ frames none.
    let old = c.args.self.now in
    let events = marked_events_of old.nodes.events.now in
    let ends = old.nodes.ends.now in
    let first = c.in_ok-push.ensures.pushed in
    let second = c.in_ok-push-2.ensures.pushed in
    let third = c.in_ok-push-3.ensures.pushed in
    let nodes : c.push-2.new.self.nodes ≡ old.nodes = c.push-2.ensures.nodes ∙ c.push.ensures.nodes in
    let same : c.push-2.new.self.frames.items ≡ old.frames.items = rw (c.push-2.ensures.frames, c.push.ensures.frames) in
    let writes = rw nodes at (c.in_ok-root.ensures (same ∙ frames)) in
    stream_of_parts (target_at events 0) events ends old.builder c.push.new.self.builder c.push-2.new.self.builder
    c.root.new.self.builder c.push-3.new.self.builder c.push-4.new.self.builder first.0 second.0 third.0 fourth.0 none
    first.1 second.1 writes third.1 fourth.1) c.push-4.ensures.pushed
