-- A key in front of what finishes the mapping behind it, unless it is a merge key, or the mapping's end.
use Rattle.std.proofs.Common.{◌≡◌, ◌∷◌, ◌++◌, ◌<◌, ◌≤◌, ◌∙◌, [], ap, false, refl, subst, true}
use Rattle.std.proofs.lemmas.Result.{IfOk-weaker}
use Rattle.yaml_base.specs.DocEventView.{marked_events_of}
use Rattle.yaml_merge.specs.Writing.{behind_at, end_at, is_merge_key_at}
use Rattle.yaml_merge.specs.declared.writer.Frame.TheVariants as frame
use Rattle.yaml_merge.proofs.FrameLaws.{key_goes_at, key_passes_at, mapping_end_at}
use Rattle.yaml_merge.proofs.writer.Writer.key.Goals as goal

pub returns-then-is_merge_key-clause-goes_on : goal.returns-then-is_merge_key-clause-goes_on
returns-then-is_merge_key-clause-goes_on c =
    let old = c.args.self.now in
    let events = marked_events_of old.nodes.events.now in
    let ends = old.nodes.ends.now in
    let before : c.args.key < end_at ends c.args.start =
    subst (λ e. c.args.key < e) c.end-end.ensures c.if-key-end.false in
    let merges : is_merge_key_at events c.args.key ≡ true = cc in
    let behind : c.behind-key.result ≡ behind_at ends (behind_at ends c.args.key) =
    c.behind-key.ensures ∙ ap (behind_at ends) c.behind-value.ensures in
    let frames = c.push-then-is_merge_key.new.self.items in
    let new : frames ≡ old.frames.items ++ frame.Keys c.args.start c.behind-key.result true ∷ [] =
    c.in_ok-push.ensures.items in
    key_passes_at events ends old.frames.items frames frames old.builder old.builder c.args.start c.args.key
    c.behind-key.result c.args.merges before merges behind new refl

pub returns-then-key-end-clause-goes_on : goal.returns-then-key-end-clause-goes_on
returns-then-key-end-clause-goes_on c =
    let old = c.args.self.now in
    let new = c.push.new.self in
    let same : new.frames.items ≡ old.frames.items = rw c.push.ensures.frames in
    let behind : end_at old.nodes.ends.now c.args.start ≤ c.args.key =
    subst (λ e. e ≤ c.args.key) c.end-end.ensures c.if-key-end.true in
    IfOk-weaker c.push.result _ _ (λ x pushed.
    mapping_end_at (marked_events_of old.nodes.events.now) old.nodes.ends.now old.frames.items old.frames.items
    new.frames.items old.builder new.builder pushed.0 c.args.start c.args.key c.args.merges same behind pushed.1)
    c.push.ensures.pushed

pub returns-clause-goes_on : goal.returns-clause-goes_on
returns-clause-goes_on c =
    let old = c.args.self.now in
    let new = c.node.new.self in
    let events = marked_events_of old.nodes.events.now in
    let ends = old.nodes.ends.now in
    let before : c.args.key < end_at ends c.args.start =
    subst (λ e. c.args.key < e) c.end-end.ensures c.if-key-end.false in
    let own : is_merge_key_at events c.args.key ≡ false = cc in
    let frames = c.push-2.new.self.items in
    let mid : frames ≡ old.frames.items ++ frame.Values c.args.start c.behind-value.result c.args.merges ∷ [] =
    c.in_ok-push-2.ensures.items in
    IfOk-weaker c.node.result _ _ (λ x begun.
    key_goes_at events ends old.frames.items frames new.frames.items old.builder new.builder c.args.start c.args.key
    c.behind-value.result c.args.merges before own c.behind-value.ensures mid begun) c.node.ensures.begins
