-- What cuts a document of a stream off is an alias or the parser.
use Rattle.std.specs.Prelude.{◌≡◌, ◌∷◌}
use Rattle.yaml_load.proofs.Words.{refl, get_or, List, [], map, cond, Bool, true, false, Option, Some, None, All}
use Rattle.yaml_load.proofs.Words.{All-append, All-cons, All-map, All-nil, Position, PlainFault, Input, find_in}
use Rattle.yaml_load.proofs.Words.{unknown_mark, body, is_ended, anchors_in, ending_of, document_from, documents_of}
use Rattle.yaml_load.proofs.Words.{after_starts, void_documents, last_mark, void_document, failed_document}
use Rattle.yaml_load.proofs.Words.{further_document, is_open_after, PlainDocument, IsEnding}

ending_is : (unknown : Option Position) (ended : Bool) (fault : Option PlainFault)
    → IsEnding (ending_of unknown ended fault)
ending_is None false (Some fault) = tt
ending_is None true fault = tt
ending_is _ _ _ = tt

module _ (P : PlainDocument → Type 0) where
  all_void : (starts : List Input) (end : Option Position) → ((mark : Position) → P (void_document mark))
      → All P (void_documents starts end)
  all_void [] (Some mark) void = All-cons P (void_document mark) [] (void mark) (All-nil P)
  all_void _ _ void = All-nil P

  pub all_failed : (fault : PlainFault) (opened : Bool) → P (failed_document fault)
      → All P (cond opened [] (failed_document fault ∷ []))
  all_failed fault true failed = All-nil P
  all_failed fault false failed = All-cons P (failed_document fault) [] failed (All-nil P)

  all_further : (input : Input) (fault : Option PlainFault) → ((mark : Position) → P (void_document mark))
      → ((f : PlainFault) → fault ≡ Some f → P (failed_document f)) → All P (further_document input fault)
  all_further input None void failed = all_void (after_starts false input) (last_mark input) void
  all_further input (Some fault) void failed = all_failed fault (is_open_after false input) (failed fault refl)

  -- what holds of each kind of document holds of all documents of an input
  pub all_kinds : (input : Input) (fault : Option PlainFault) → ((start : Input) → P (document_from fault start))
      → ((mark : Position) → P (void_document mark)) → ((f : PlainFault) → fault ≡ Some f → P (failed_document f))
      → All P (documents_of input fault)
  all_kinds input fault from void failed =
      All-append P (map (document_from fault) (after_starts false input)) (further_document input fault)
      (All-map P (document_from fault) (after_starts false input)
      (λ k d l. from (get_or (after_starts false input) k d)))
      (all_further input fault void failed)

pub all_endings : (input : Input) (fault : Option PlainFault) → All (λ d. IsEnding d.ending) (documents_of input fault)
all_endings input fault =
    all_kinds (λ (d : PlainDocument). IsEnding d.ending) input fault
    (λ s. ending_is (unknown_mark (find_in (anchors_in 0 (body s))) 0 (body s)) (is_ended s) fault) (λ mark. tt)
    (λ f is. tt)
