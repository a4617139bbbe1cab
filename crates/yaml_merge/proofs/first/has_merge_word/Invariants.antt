-- What is left has the word of a merge key just where all has one.
use Rattle.std.proofs.Common.{◌≡◌, drop}
use Rattle.std.specs.List.{list_any}
use Rattle.yaml_base.specs.DocEventView.{doc_event_of}
use Rattle.yaml_merge.specs.MergeKeys.{is_merge_word}
use Rattle.yaml_merge.proofs.first.has_merge_word.Given as goal

abbrev pub invariant-loop-event : goal.invariant-loop-event
invariant-loop-event l =
    list_any (λ e. is_merge_word (doc_event_of e.0)) (drop l.event-index l.events)
    ≡ list_any (λ e. is_merge_word (doc_event_of e.0)) l.events
