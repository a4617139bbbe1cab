-- What a tape holds, its text gives.
use Rattle.std.proofs.Common.{◌≡◌, ◌<◌, ◌++◌, ℕ, List, [], ◌∷◌, length, Some, None, true, false, refl, sym, ◌∙◌, ap, subst}
use Rattle.std.proofs.Common.{Result, Ok, get_or, is_some, map}
use Rattle.std.proofs.lemmas.Option.{slice_get-get_or}
use Rattle.yaml_base.specs.DocTree.{DocNode, IsTreeOf, events_of}
use Rattle.yaml_base.specs.PlainDocument.{PlainDocument}
use Rattle.yaml_base.specs.PlainFault.{PlainFault}
use Rattle.yaml_base.specs.Stream.{IsWellFormed}
use Rattle.yaml_base.specs.declared.error.Cause.{Cause}
use Rattle.yaml_shape.specs.PlainData.{PlainData}
use Rattle.yaml_shape.specs.PlainShape.{PlainShape, any_shape, shape_at}
use Rattle.yaml_shape.specs.Validity.{IsValidSchema}
use Rattle.yaml_meaning.specs.Meaning.{Means}
use Rattle.yaml_scan.specs.AllowedText.{IsAllowed}
use Rattle.yaml_checked.specs.OfText.{SaysText}
use Rattle.yaml_checked.specs.StandsInText.{StandsInText}
use Rattle.yaml_documents.proofs.ParsedDocuments.{one_document_parsed}
use Rattle.yaml_read.specs.Documents.{Input, documents_of}
use Rattle.yaml_read.specs.MarkedEvents.{events_in, plain_marked, plain_events}
use Rattle.yaml_read.specs.QuickReads.{OptionalsEnd}
use Rattle.yaml_read.specs.Reads.{DocumentGives}
use Rattle.yaml_read.specs.TreeReader.{PlainLimits}
use Rattle.yaml_read.proofs.QuickLaws.{quick_gives}
use Rattle.yaml_tape.specs.declared.tape.Tape.{Tape}
use Rattle.yaml_types.specs.Start.{Start, IsClosed}
use Rattle.yaml_types.proofs.TableLaws.{own_shape}
use Rattle.serde_yaml.specs.StreamReads.{InputGives, a_stream, unless_more, some_follow}
use Rattle.serde_yaml.specs.TapeReads.{HoldsValue}
use Rattle.serde_yaml.specs.TextReads.{IsParsed}
use Rattle.serde_yaml.specs.TypedHeadline.{GivesValue}
use Rattle.serde_yaml.specs.TypedReads as reads
use Rattle.serde_yaml.specs.TypedReads.{TypeGives}
use Rattle.serde_yaml.proofs.TypedLaws.{InputsGiveMeanings, same_events, value_given}

-- what the one document of an input gives, the input gives
only_gives : (limits : PlainLimits) (table : List PlainShape) (s : PlainShape) (input : Input) (document : PlainDocument)
    (found : PlainData) → IsWellFormed false (events_in input) → documents_of input None ≡ document ∷ []
    → DocumentGives limits table s document (Ok found) → InputGives limits table s input None (Ok found)
only_gives limits table s input document found formed only gives = a_stream formed (record {
  first = λ other others begins.
      let is : document ∷ [] ≡ other ∷ others = sym only ∙ begins.documents in
      (Ok found, alone other others is, told others (ap length is));
  iterated = λ e. absurd cc;
})
  where
    alone : (other : PlainDocument) (others : List PlainDocument) → document ∷ [] ≡ other ∷ others
        → DocumentGives limits table s other (Ok found)
    alone other others is =
        let same : document ≡ other = cc in subst (λ d. DocumentGives limits table s d (Ok found)) same gives

    told : (others : List PlainDocument) → 1 ≡ length (document ∷ others)
        → Ok found ≡ unless_more (some_follow others) (Ok found)
    told [] is = refl
    told (d ∷ ds) is = let bad : 1 ≡ length (document ∷ (d ∷ ds)) = is in absurd cc

-- a value that the tape of an allowed text holds is what the text gives
pub tape_gives : {T : Type 0} (limits : PlainLimits) (start : Start) (built : PlainData → T → Type 0)
    (refused : PlainData → List ℕ → Type 0) (t : Tape) (x : T) → InputsGiveMeanings → IsClosed start
    → IsValidSchema start.0 → OptionalsEnd start.0 → IsAllowed t.text.now → SaysText t → StandsInText t
    → HoldsValue start built t limits.nesting x
    → IsParsed t.text.now (λ events fault. GivesValue limits start built refused events fault (Ok x)
    × TypeGives limits start built refused events fault (Ok x))
tape_gives {T} limits start built refused t x law closed valid ends allowed says stands h =
    let (end, only, n) = h in
    let p = one_document_parsed t n.node stands says allowed (record {
      end = end;
      stream = only.stream_starts;
      document = only.document_starts;
      node = n.events;
      document_end = only.document_ends;
      stream_end = only.stream_ends;
      last = only.all;
    }) in
    let s : PlainShape = get_or start.0 start.1 any_shape in
    let at : shape_at start.0 start.1 ≡ Some s = slice_get-get_or start.0 start.1 any_shape closed.within in
    let (none, (document, (is, tree))) = p.holds in
    let input : Input = plain_marked p.events in
    let formed : IsWellFormed false (events_in input) =
    subst (λ f. IsWellFormed (is_some f) (events_in input)) none
    (subst (IsWellFormed (is_some p.fault)) (same_events p.events) p.parsed.taken) in
    let gives : DocumentGives limits start.0 s document (Ok n.found) =
    quick_gives limits start.0 start.1 s document n.node n.found n.nestings ends at tree
    (n.means start.0 s n.node (own_shape start s at)) n.within in
    let given : TypeGives limits start built refused input None (Ok x) =
    reads.of_shape valid at (only_gives limits start.0 s input document n.found formed is gives) n.value in
    let told : TypeGives limits start built refused input p.fault (Ok x) =
    subst (λ f. TypeGives limits start built refused input f (Ok x)) (sym none) given in
    record {
      events = p.events;
      fault = p.fault;
      parsed = p.parsed;
      holds = (value_given limits start built refused input p.fault law told, told);
    }
