-- Each step goes on towards a node, and where no frame is left it is written.
use Rattle.std.proofs.Common.{◌≡◌, ◌∷◌, ◌++◌, ◌∙◌, [], arith, reverse, subst, sym}
use Rattle.yaml_base.specs.DocEventView.{marked_events_of}
use Rattle.yaml_merge.specs.Writing.{GoesOn, target_at}
use Rattle.yaml_merge.specs.declared.nodes.Nodes.{Nodes}
use Rattle.yaml_merge.proofs.FrameLaws.{empty, pushed_frame}
use Rattle.yaml_merge.proofs.WritingLaws.{Towards, towards_end, towards_next}
use Rattle.yaml_merge.proofs.writer.Writer.root.Goals as goal

pub returns-in-None : goal.returns-in-None
returns-in-None c = λ first.
    let old = c.args.self.now in
    let now = c.frames.self in
    let events = marked_events_of old.nodes.events.now in
    let ends = old.nodes.ends.now in
    let place = target_at events 0 in
    let none : now.frames.items ≡ [] =
    empty now.frames.items (omega (arith, now.frames.ok, c.in-None.ensures.cases.0)) in
    towards_end events ends place old.builder now.builder
    (subst (λ f. Towards events ends (reverse f) place old.builder now.builder) none (c.frames.invariant.1 first))

pub frames-preserved : goal.frames-preserved
frames-preserved c =
    let old = c.args.self.now in
    let now = c.frames.self in
    let new = c.go_on.new.self in
    let events = marked_events_of old.nodes.events.now in
    let ends = old.nodes.ends.now in
    let place = target_at events 0 in
    let popped : now.frames.items ≡ c.pop.new.self.items ++ c.in-Some.frame ∷ [] = c.in-Some.ensures.items in
    let goes = subst (λ (n : Nodes). GoesOn (marked_events_of n.events.now) n.ends.now
    (c.in-Some.frame ∷ reverse c.pop.new.self.items) (reverse new.frames.items) now.builder new.builder)
    c.frames.invariant.0 c.in_ok-go_on-in-Some.ensures.goes_on in
    let on : GoesOn events ends (reverse now.frames.items) (reverse new.frames.items) now.builder new.builder =
    subst (λ f. GoesOn events ends f (reverse new.frames.items) now.builder new.builder)
    (sym (pushed_frame c.pop.new.self.items now.frames.items c.in-Some.frame popped)) goes in (
      c.in_ok-go_on-in-Some.ensures.nodes ∙ c.frames.invariant.0,
      λ first.
          towards_next events ends (reverse now.frames.items) (reverse new.frames.items) place old.builder now.builder
          new.builder (c.frames.invariant.1 first) on,
    )
