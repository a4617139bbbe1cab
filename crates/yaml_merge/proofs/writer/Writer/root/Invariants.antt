-- With what finishes the frames behind it, what is written is a node made of the document's.
use Rattle.std.proofs.Common.{◌≡◌, [], reverse}
use Rattle.yaml_base.specs.DocEventView.{marked_events_of}
use Rattle.yaml_merge.specs.Writing.{target_at}
use Rattle.yaml_merge.proofs.WritingLaws.{Towards}
use Rattle.yaml_merge.proofs.writer.Writer.root.Given as goal

abbrev pub invariant-frames : goal.invariant-frames
invariant-frames l =
    (l.self.nodes ≡ l.fn.self.nodes)
    × (l.fn.self.frames.items ≡ [] → Towards (marked_events_of l.fn.self.nodes.events.now) l.fn.self.nodes.ends.now
    (reverse l.self.frames.items) (target_at (marked_events_of l.fn.self.nodes.events.now) 0) l.fn.self.builder
    l.self.builder)
