-- An entry that is given in front of what finishes the mapping behind it, or the mapping's end.
use Rattle.std.proofs.Common.{◌≡◌, ◌∷◌, ◌++◌, []}
use Rattle.std.proofs.lemmas.Result.{IfOk-weaker}
use Rattle.yaml_base.specs.DocEventView.{marked_events_of}
use Rattle.yaml_merge.specs.Writing.{target_at}
use Rattle.yaml_merge.specs.declared.writer.Frame.TheVariants as frame
use Rattle.yaml_merge.proofs.FrameLaws.{given_end_at, given_goes_at}
use Rattle.yaml_merge.proofs.writer.Writer.given.Goals as goal

pub returns-in_default-clause-goes_on : goal.returns-in_default-clause-goes_on
returns-in_default-clause-goes_on c =
    let old = c.args.self.now in
    let new = c.push.new.self in
    let same : new.frames.items ≡ old.frames.items = rw c.push.ensures.frames in
    IfOk-weaker c.push.result _ _ (λ x pushed.
    given_end_at (marked_events_of old.nodes.events.now) old.nodes.ends.now old.frames.items old.frames.items
    new.frames.items old.builder new.builder pushed.0 c.args.start c.args.number same pushed.1) c.push.ensures.pushed

pub returns-clause-goes_on : goal.returns-clause-goes_on
returns-clause-goes_on c =
    let old = c.args.self.now in
    let new = c.node.new.self in
    let events = marked_events_of old.nodes.events.now in
    let entry = c.in-Some.entry in
    let mid : c.push-2.new.self.items ≡ old.frames.items ++ frame.GivenValues c.args.start c.args.number entry ∷ [] =
    c.in_ok-push.ensures.items in
    IfOk-weaker c.node.result _ _ (λ x begun.
    given_goes_at events old.nodes.ends.now old.frames.items c.push-2.new.self.items new.frames.items old.builder
    new.builder c.args.start c.args.number entry (target_at events entry.key) mid begun) c.node.ensures.begins
