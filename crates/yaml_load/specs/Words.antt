-- The words that contracts of this crate cite, in one place.
pub use Rattle.std.specs.Option.{option_copied, option_map}
pub use Rattle.std.specs.Prelude.{All, IfErr, IfNone, IfOk, IfSome, IsTrue, List, None, Option, Some, [], drop, false}
pub use Rattle.std.specs.Prelude.{is_some, length, map, option_to_list, slice_get, take, true, ℕ, ◌++◌, ◌+◌, ◌<◌, ◌∷◌}
pub use Rattle.std.specs.Prelude.{◌≡◌, ◌≢◌, ◌≤◌}
pub use Rattle.yaml_base.specs.Answer.{is_memory}
pub use Rattle.yaml_base.specs.DocEventView.{marked_events_of}
pub use Rattle.yaml_base.specs.PlainDocEvent.{PlainDocEvent, alias_to}
pub use Rattle.yaml_base.specs.PlainDocument.{PlainDocument}
pub use Rattle.yaml_base.specs.PlainEvent.{PlainScalar, alias, document_end, document_start, event_of, mapping_end}
pub use Rattle.yaml_base.specs.PlainEvent.{mapping_start, scalar, scalar_of, sequence_end, sequence_start, stream_end}
pub use Rattle.yaml_base.specs.PlainEvent.{stream_start}
pub use Rattle.yaml_base.specs.PlainFault.{PlainFault}
pub use Rattle.yaml_base.specs.Position.{Position}
pub use Rattle.yaml_base.specs.Stream.{IsWellFormed, stream_events}
pub use Rattle.yaml_base.specs.StreamMachine.{within}
pub use Rattle.yaml_base.specs.Tree.{Node, anchor_at}
pub use Rattle.yaml_base.specs.declared.error.Cause.TheVariants.{NotAStream}
pub use Rattle.yaml_base.specs.declared.open.Open.TheVariants.{Key, Sequence, Value}
pub use Rattle.yaml_load.specs.Documents.{Input, after_starts, anchors_in, document_of, documents_of, ending_of}
pub use Rattle.yaml_load.specs.Documents.{failed_document, find_in, last_mark, void_document}
pub use Rattle.yaml_load.specs.Ends.{ends_of, is_closing, is_opening}
pub use Rattle.yaml_load.specs.Gathering.{AreCuts, HasEnds, document_of_range, documents_in, ending_in}
pub use Rattle.yaml_load.specs.MarkedEvents.{events_in, plain_events, plain_marked}
pub use Rattle.yaml_load.specs.StreamLaw.{AreStreamDocuments, EndAtFault, HasTree, HoldFronts, IsBeforeFault}
pub use Rattle.yaml_load.specs.StreamLaw.{IsDocument, IsEnding}
pub use Rattle.yaml_load.specs.StreamPhases.{IsClean, Moves, is_done, is_open, opened_in, phase_state}
pub use Rattle.yaml_load.specs.WrongPlace.{IsWrongAt, IsWrongNext}
pub use Rattle.yaml_load.specs.inner.AnchorOrder.{AllBefore, IsInOrder, IsPlaceOf, NoneBefore}
pub use Rattle.yaml_load.specs.inner.Drafts.{IsDraft, IsDraftBetween, IsTaken, Waiting, settled}
pub use Rattle.yaml_load.specs.inner.Loading.{IsOnWay, IsReady, StepsOver}
pub use Rattle.yaml_load.specs.inner.OpenEnds.{HasNumbers, bounded_from}
