-- The words that several proofs cite, in one place.
pub use Rattle.std.proofs.Common.{All, Bool, Err, IfErr, IfSome, IsTrue, List, None, Ok, Option, Result, Some, []}
pub use Rattle.std.proofs.Common.{add-one, ap, append-nil, append_assoc, arith, cond, drop, false, get_or, inl, inr}
pub use Rattle.std.proofs.Common.{is_lt, is_some, length, length-append, length-drop, length-set, length-take, map, max}
pub use Rattle.std.proofs.Common.{min, nat_lt, of_calls, option_map, refl, reverse, rules, set, slice_range, subst, suc}
pub use Rattle.std.proofs.Common.{sym, take, take_all, true, zero, ℕ, ◌∙◌}
pub use Rattle.std.proofs.Math.Seq.{drop-append_seam, drop-cons, set-append_seam, take-add, take-append-add}
pub use Rattle.std.proofs.Math.Seq.{take-append_seam, take-length}
pub use Rattle.std.proofs.lemmas.Bool.{cases_Bool, cases_eq, cases_lt, eq-eqb, eqb-true, le-ltb, lt-ltb, ltb-false}
pub use Rattle.std.proofs.lemmas.Bool.{ltb-true, ne_eqb}
pub use Rattle.std.proofs.lemmas.List.{drop-append-le, drop-set-add, get_or-drop, get_or_default, length-map}
pub use Rattle.std.proofs.lemmas.List.{map-append, nil_from_length, reverse-append, set-append_left, take-append-drop}
pub use Rattle.std.proofs.lemmas.List.{take-append-le, take-map, take-set-le}
pub use Rattle.std.proofs.lemmas.List.Elements.{All-append, All-cons, All-map, All-nil, All-push, All-tail}
pub use Rattle.std.specs.Cmp.Lexicographic.{bytes_decides, nat_list_cmp_total, slice_cmp}
pub use Rattle.std.specs.List.Sorted.{IsPartitionPoint, IsPartitionedBy, IsPermutation}
pub use Rattle.std.specs.Prelude.{option_to_list, slice_get}
pub use Rattle.std.specs.Str.{bytes_eq}
pub use Rattle.std.specs.Vec.Iter.{into_iter_items}
pub use Rattle.yaml_base.proofs.StreamMachineLaws.{goes_on_run, run_append, whole_run}
pub use Rattle.yaml_base.specs.DocEventView.{doc_event_of}
pub use Rattle.yaml_base.specs.DocTree.{DocNode, DocNodes, DocPairs, IsTreeOf, events_of, events_of_nodes}
pub use Rattle.yaml_base.specs.DocTree.{events_of_pairs, list, mapping, node_of, nothing, numbered, numbered_nodes}
pub use Rattle.yaml_base.specs.DocTree.{numbered_pairs, reference, with_number, word}
pub use Rattle.yaml_base.specs.PlainDocEvent.{a_void, mapping_begins, mapping_ends, sequence_begins, sequence_ends}
pub use Rattle.yaml_base.specs.PlainEvent.{PlainEvent}
pub use Rattle.yaml_base.specs.Stream.{IsBeginning, IsStream, documents_events}
pub use Rattle.yaml_base.specs.StreamMachine.{State, after_stream, before_root, before_stream, begins}
pub use Rattle.yaml_base.specs.StreamMachine.{between_documents, next_state, run}
pub use Rattle.yaml_base.specs.Tree.{NodePairs, Nodes, alias_node, anchors_of, anchors_of_nodes, anchors_of_pairs}
pub use Rattle.yaml_base.specs.Tree.{greater, greatest_below, mapping_node, no_nodes, no_pairs, node, node_events}
pub use Rattle.yaml_base.specs.Tree.{nodes_events, number_below, pair, pairs_events, scalar_node, sequence_node}
pub use Rattle.yaml_base.specs.Tree.{size_of, target}
pub use Rattle.yaml_base.specs.declared.doc_event.DocEvent.{DocEvent}
pub use Rattle.yaml_base.specs.declared.doc_event.DocEvent.TheVariants.{Alias, Void}
pub use Rattle.yaml_base.specs.declared.error.Cause.{Cause}
pub use Rattle.yaml_base.specs.declared.error.Cause.TheVariants.{UnknownAnchor}
pub use Rattle.yaml_base.specs.declared.event.Event.{Event}
pub use Rattle.yaml_base.specs.declared.open.Open.{Open}
pub use Rattle.yaml_load.specs.Documents.{Find, anchor_of, becomes, behind_document, body, document_from}
pub use Rattle.yaml_load.specs.Documents.{further_document}
pub use Rattle.yaml_load.specs.Documents.{is_document_end, is_document_start, is_ended, is_open_after, known_events}
pub use Rattle.yaml_load.specs.Documents.{or_mark, then_events, unknown_mark, void_documents}
pub use Rattle.yaml_load.specs.Ends.{end_place, ends_from, inner_after}
pub use Rattle.yaml_load.specs.Gathering.{document_in, plain_doc_events}
pub use Rattle.yaml_load.specs.Resolved.{node_then_nodes, pair_then_pairs, resolved, resolved_from, resolved_nodes}
pub use Rattle.yaml_load.specs.Resolved.{resolved_pairs, without_anchor}
pub use Rattle.yaml_load.specs.StreamLaw.{AreDocumentsOfRoots, HoldsFront, IsAtFault, IsDocumentOf}
pub use Rattle.yaml_load.specs.Words.{AreCuts, AreStreamDocuments, EndAtFault, HasEnds, HasNumbers, HasTree, HoldFronts}
pub use Rattle.yaml_load.specs.Words.{Input, IsBeforeFault, IsDocument, IsDraft, IsDraftBetween, IsEnding, IsOnWay}
pub use Rattle.yaml_load.specs.Words.{IsReady}
pub use Rattle.yaml_load.specs.Words.{IsTaken, IsWellFormed, IsWrongAt, IsWrongNext, Moves, Node, NotAStream}
pub use Rattle.yaml_load.specs.Words.{PlainDocEvent, PlainDocument, PlainFault, Position, Waiting, after_starts, alias}
pub use Rattle.yaml_load.specs.Words.{alias_to, anchor_at, anchors_in, bounded_from, document_end, document_of}
pub use Rattle.yaml_load.specs.Words.{document_start, documents_in, documents_of, ending_in, ending_of, ends_of}
pub use Rattle.yaml_load.specs.Words.{event_of, events_in, failed_document, find_in, is_closing, is_done, is_open}
pub use Rattle.yaml_load.specs.Words.{is_opening, last_mark, mapping_end, mapping_start, marked_events_of, plain_events}
pub use Rattle.yaml_load.specs.Words.{phase_state, plain_marked, scalar, scalar_of, sequence_end, sequence_start}
pub use Rattle.yaml_load.specs.Words.{settled}
pub use Rattle.yaml_load.specs.Words.{stream_end, stream_events, stream_start, void_document, within}
pub use Rattle.yaml_load.specs.declared.check.Phase.{Phase}
pub use Rattle.yaml_load.specs.declared.check.Phase.TheVariants.{After, Before}
pub use Rattle.yaml_load.specs.declared.loader.draft.Cut.{Cut}
pub use Rattle.yaml_load.specs.declared.loader.draft.Draft.{Draft}
pub use Rattle.yaml_load.specs.inner.Drafts.{AreTaken, Settled, aimed, drafted, drafts_of, is_of_node, settle}
pub use Rattle.yaml_load.specs.inner.Intake.{HasTaken}
pub use Rattle.yaml_load.specs.inner.Loading.{IsClosedDraft, IsOpenDraft, TakesEvent, is_inside, open_before}
pub use Rattle.yaml_load.specs.inner.Loading.{open_behind}
pub use Rattle.yaml_load.specs.inner.OpenEnds.{EndsView, numbers_ended}

-- events of documents in memory, and plain ones, each with its mark
abbrev pub Events : Type 0
Events = List (DocEvent × Position)

abbrev pub Marked : Type 0
Marked = List (PlainDocEvent × Position)
