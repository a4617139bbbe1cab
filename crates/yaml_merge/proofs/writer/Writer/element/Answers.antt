-- An element in front of what finishes the list behind it, or the list's end.
use Rattle.std.proofs.Common.{◌≡◌, ◌∷◌, ◌++◌, []}
use Rattle.std.proofs.lemmas.Result.{IfOk-weaker}
use Rattle.yaml_base.specs.DocEventView.{marked_events_of}
use Rattle.yaml_merge.specs.declared.writer.Frame.TheVariants as frame
use Rattle.yaml_merge.proofs.FrameLaws.{element_goes_at, elements_end_at}
use Rattle.yaml_merge.proofs.writer.Writer.element.Goals as goal

pub returns-then-at-end-clause-goes_on : goal.returns-then-at-end-clause-goes_on
returns-then-at-end-clause-goes_on c =
    let old = c.args.self.now in
    let new = c.push.new.self in
    let same : new.frames.items ≡ old.frames.items = rw c.push.ensures.frames in
    IfOk-weaker c.push.result _ _ (λ x pushed.
    elements_end_at (marked_events_of old.nodes.events.now) old.nodes.ends.now old.frames.items old.frames.items
    new.frames.items old.builder new.builder pushed.0 c.args.at c.args.end same c.if-at-end.true pushed.1)
    c.push.ensures.pushed

pub returns-clause-goes_on : goal.returns-clause-goes_on
returns-clause-goes_on c =
    let old = c.args.self.now in
    let new = c.node.new.self in
    let mid : c.push-2.new.self.items ≡ old.frames.items ++ frame.Elements c.behind.result c.args.end ∷ [] =
    c.in_ok-push.ensures.items in
    IfOk-weaker c.node.result _ _ (λ x begun.
    element_goes_at (marked_events_of old.nodes.events.now) old.nodes.ends.now old.frames.items
    c.push-2.new.self.items new.frames.items old.builder new.builder c.args.at c.args.end c.behind.result
    c.if-at-end.false c.behind.ensures mid begun) c.node.ensures.begins
