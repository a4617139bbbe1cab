-- Several documents that were written come back from their text, and read back in turn.
use Rattle.std.proofs.Common.{◌≡◌, ◌≢◌, ◌<◌, ◌^◌, ℕ, zero, suc, List, [], ◌∷◌, ◌++◌, length, Option, Some, None}
use Rattle.std.proofs.Common.{Result, Ok, Bool, true, arith, refl, sym, ap, subst, ◌∙◌}
use Rattle.std.proofs.lemmas.List.{append_assoc}
use Rattle.std.specs.List.{All}
use Rattle.std.specs.Prelude.{IsTrue}
use Rattle.yaml_base.specs.DocTree.{DocNode, IsTreeOf}
use Rattle.yaml_base.specs.EmitEvents.{PlainEmit, emit_stream_start, emit_stream_end, emit_document_start}
use Rattle.yaml_base.specs.EmitEvents.{emit_document_end}
use Rattle.yaml_base.specs.EmitTree.{EmitNode, emit_node_events, emit_documents_events}
use Rattle.yaml_base.specs.MarkedEvents.{plain_marked}
use Rattle.yaml_base.specs.PlainDocument.{PlainDocument}
use Rattle.yaml_base.specs.PlainEvent.{PlainEvent, document_end}
use Rattle.yaml_base.specs.Position.{Position}
use Rattle.yaml_base.specs.Renders.{Renders}
use Rattle.yaml_base.specs.Stream.{documents_events, stream_events}
use Rattle.yaml_base.specs.Tree.{Node, node_events}
use Rattle.yaml_base.specs.declared.error.Cause.{Cause}
use Rattle.yaml_emit.specs.StreamTexts.{IsStreamText, emit_stream_events}
use Rattle.yaml_load.specs.Documents.{Input, documents_of, last_mark}
use Rattle.yaml_load.specs.Resolved.{resolved}
use Rattle.yaml_load.specs.StreamLaw.{AreDocumentsOfRoots, AreStreamDocuments, IsDocumentOf}
use Rattle.yaml_printed.specs.Nestings.{nestings}
use Rattle.yaml_printed.specs.Printable.{MayBePrinted}
use Rattle.yaml_printed.specs.WrittenRoots.{IsWrittenRoot}
use Rattle.yaml_printed.proofs.Outcomes.{same_answer}
use Rattle.yaml_printed.proofs.Whole.{printed_stands}
use Rattle.yaml_printed.proofs.WrittenStreams.{may_be_printed}
use Rattle.yaml_read.specs.MarkedEvents.{events_in}
use Rattle.yaml_read.specs.TreeReader.{PlainLimits}
use Rattle.yaml_shape.specs.EqualData.{EqualData}
use Rattle.yaml_shape.specs.Held.{IsHeld, is_table}
use Rattle.yaml_shape.specs.PlainData.{PlainData}
use Rattle.yaml_shape.specs.Validity.{IsValidSchema}
use Rattle.yaml_types.specs.Start.{Start}
use Rattle.yaml_write.specs.Written.{written}
use Rattle.serde_yaml.specs.Printed.{HasText, printed_as}
use Rattle.serde_yaml.specs.WrittenDocuments as writes
use Rattle.serde_yaml.specs.WrittenDocuments.{AreWrittenAs, TypeWritesAll}
use Rattle.yaml_round.specs.InTexts.{FitsTextWithin}
use Rattle.yaml_round.specs.InTurn.{GivesEqualInTurn, IsTextOfAll, MakeEqual, MakesEqual}
use Rattle.yaml_round.specs.SameOrder.{same_data}
use Rattle.yaml_round.proofs.DataReturn.{data_returns}
use Rattle.yaml_round.proofs.RenderedTrees.{first_of, comes, IsRendered}
use Rattle.yaml_round.proofs.StreamsReturn.{nothing_left}
use Rattle.yaml_round.proofs.TextsTaken.{parsed_takes}
use Rattle.yaml_round.proofs.TypedReturn.{returned_of}

-- ---- from events to trees
-- a node of a document is what a root that was written comes back as
abbrev pub IsBack : EmitNode → Node → Type 0
IsBack e n = (tree : DocNode) × (resolved n ≡ Some tree) × IsRendered e tree

-- each of the nodes is, in order
abbrev pub AreBack : List EmitNode → List Node → Type 0
AreBack [] [] = Unit {0}
AreBack (e ∷ es) (n ∷ ns) = IsBack e n × AreBack es ns
AreBack _ _ = ⊥

record DocumentsCome (es : List EmitNode) (events : List PlainEvent) : Type 0 where
  nodes : List Node
  stream : events ≡ documents_events nodes
  back : AreBack es nodes

-- the events of a first document, one after another
in_front : (e : EmitNode) (es : List EmitNode)
    → emit_documents_events (e ∷ es) ++ emit_stream_end ∷ []
    ≡ emit_document_start ∷ (emit_node_events e
    ++ emit_document_end ∷ (emit_documents_events es ++ emit_stream_end ∷ []))
in_front e es =
    ap (λ l. emit_document_start ∷ l)
    (append_assoc (emit_node_events e ++ emit_document_end ∷ []) (emit_documents_events es) (emit_stream_end ∷ [])
    ∙ append_assoc (emit_node_events e) (emit_document_end ∷ []) (emit_documents_events es ++ emit_stream_end ∷ []))

documents_come : (es : List EmitNode) (events : List PlainEvent)
    → Renders (emit_documents_events es ++ emit_stream_end ∷ []) events → DocumentsCome es events
documents_come [] events h =
    let f = first_of emit_stream_end [] events h in
    record {
      nodes = [];
      stream = f.split ∙ (λ i. f.is i ∷ nothing_left f.later f.renders i);
      back = tt;
    }
documents_come (e ∷ es) events h =
    let rest : List PlainEmit = emit_documents_events es ++ emit_stream_end ∷ [] in
    let a = first_of emit_document_start (emit_node_events e ++ emit_document_end ∷ rest) events
    (subst (λ l. Renders l events) (in_front e es) h) in
    let c = comes e (emit_document_end ∷ rest) a.later a.renders in
    let f = first_of emit_document_end rest c.later c.renders in
    let more = documents_come es f.later f.renders in
    let behind : c.later ≡ document_end ∷ documents_events more.nodes = f.split ∙ (λ i. f.is i ∷ more.stream i) in
    let node : a.later ≡ node_events c.root (document_end ∷ documents_events more.nodes) =
    c.split ∙ ap (node_events c.root) behind in
    record {
      nodes = c.root ∷ more.nodes;
      stream = a.split ∙ (λ i. a.is i ∷ node i);
      back = ((c.tree, c.resolves _ 0, c.rendered), more.back);
    }

-- what comes back of a stream is one with as many documents
stream_comes : (es : List EmitNode) (events : List PlainEvent) → Renders (emit_stream_events es) events
    → (nodes : List Node) × (events ≡ stream_events nodes) × AreBack es nodes
stream_comes es events h =
    let a = first_of emit_stream_start (emit_documents_events es ++ emit_stream_end ∷ []) events h in
    let d = documents_come es a.later a.renders in
    (d.nodes, a.split ∙ (λ i. a.is i ∷ d.stream i), d.back)

-- ---- what was written
-- each of a list, from the first and the others
module _ {X : Type 0} (P : X → Type 0) (x : X) (xs : List X) where
  all_of : P x → All P xs → All P (x ∷ xs)
  all_of p h zero d within = p
  all_of p h (suc k) d within = h k d (omega (arith, within))

  first_of_all : All P (x ∷ xs) → P x
  first_of_all h = h zero x (omega arith)

  others_of_all : All P (x ∷ xs) → All P xs
  others_of_all h k d within = h (suc k) d (omega (arith, within))

-- the table is a schema, and these are the roots of what is written
pub record WroteAll (start : Start) {T : Type 0} (view : T → PlainData) (xs : List T) (events : List PlainEmit)
    : Type 0 where
  pub roots : List EmitNode
  pub valid : IsValidSchema start.0
  pub all_written : AreWrittenAs start view xs roots
  pub stream : emit_stream_events roots ≡ events

pub wrote_all : {start : Start} {T : Type 0} {view : T → PlainData} {unwritten : T → List ℕ → Type 0} {xs : List T}
    {o : Result (List PlainEmit) Cause} (events : List PlainEmit) → TypeWritesAll start view unwritten xs o
    → o ≡ Ok events → WroteAll start view xs events
wrote_all events (writes.no_shape many) h = absurd cc
wrote_all events (writes.of_shape roots valid all) h =
    record { roots = roots; valid = valid; all_written = all; stream = same_answer _ _ h }
wrote_all events (writes.refused cause first) h = absurd cc

module _ {T : Type 0} (limits : PlainLimits) (start : Start) (view : T → PlainData) (named : IsTrue (is_table start.0))
  where
    -- the value fits a text, and the limits
    abbrev FitsBoth : T → Type 0
    FitsBoth x = FitsTextWithin limits start.0 start.1 (view x)

    abbrev Holds : T → Type 0
    Holds x = IsHeld (view x)

    -- all roots may be printed
    written_roots : (xs : List T) (roots : List EmitNode) → AreWrittenAs start view xs roots → All Holds xs
        → All FitsBoth xs → All IsWrittenRoot roots
    written_roots [] [] all held fits = λ k d within. absurd (omega (arith, within))
    written_roots (x ∷ xs) (root ∷ roots) all held fits =
        all_of IsWrittenRoot root roots (record {
          table = start.0;
          id = start.1;
          content = view x;
          named = named;
          held = first_of_all Holds x xs held;
          is_written = all.0;
          fits = (first_of_all FitsBoth x xs fits).text;
        }) (written_roots xs roots all.1 (others_of_all Holds x xs held) (others_of_all FitsBoth x xs fits))
    written_roots [] (root ∷ roots) all held fits = absurd all
    written_roots (x ∷ xs) [] all held fits = absurd all

    module _ (built : PlainData → T → Type 0) (refused : PlainData → List ℕ → Type 0) (eq : T → T → Bool)
        (Kept : T → Type 0) (equal_data : (a b : PlainData) → IsTrue (same_data a b) → EqualData a b)
        (returned : (x y : T) (d : PlainData) → Kept x → EqualData (view x) d → built d y → eq x y ≡ true)
        (accepted : (x : T) (d : PlainData) (message : List ℕ) → EqualData (view x) d → refused d message → ⊥) where
      -- the document of a value that comes back makes an equal one
      one_equal : IsValidSchema start.0 → (x : T) (e : EmitNode) (tree : DocNode) (document : PlainDocument)
          → written start.0 start.1 None (view x) ≡ Ok e → IsRendered e tree → IsTreeOf document tree → Kept x → Holds x
          → FitsBoth x → MakesEqual limits start built refused eq x document
      one_equal valid x e tree document is rendered of keeps holds fits = λ s read given at gives makes.
          let r = data_returns start.0 tree valid named (view x) start.1 s None e tree at fits.nestings.typed holds
          fits.nestings.returns is rendered in
          let reads = gives.only tree r.found of (record {
            nestings = nestings (view x);
            followed = 0;
            means = r.means;
            nests_within = fits.nestings.nests_within;
            follows_within = omega arith;
          }) in
          let equal : EqualData (view x) r.found = equal_data (view x) r.found r.same in
          returned_of built refused (λ y. eq x y ≡ true) r.found read given reads
          (λ y b. returned x y r.found keeps equal b) (λ message r'. accepted x r.found message equal r') makes

      all_equal : IsValidSchema start.0 → (xs : List T) (es : List EmitNode) (ns : List Node)
          (documents : List PlainDocument) → AreWrittenAs start view xs es → AreBack es ns
          → AreDocumentsOfRoots ns documents → All Kept xs → All Holds xs → All FitsBoth xs
          → MakeEqual limits start built refused eq xs documents
      all_equal valid [] [] [] [] all back are kept held fits = tt
      all_equal valid (x ∷ xs) (e ∷ es) (n ∷ ns) (document ∷ documents) all back are kept held fits = (
        one_equal valid x e back.0.0 document all.0 back.0.2 (subst (λ o. IsDocumentOf o document) back.0.1 are.0)
            (first_of_all Kept x xs kept) (first_of_all Holds x xs held) (first_of_all FitsBoth x xs fits),
        all_equal valid xs es ns documents all.1 back.1 are.1 (others_of_all Kept x xs kept)
            (others_of_all Holds x xs held) (others_of_all FitsBoth x xs fits),
      )
      all_equal valid [] (e ∷ es) ns documents all back are kept held fits = absurd all
      all_equal valid (x ∷ xs) [] ns documents all back are kept held fits = absurd all
      all_equal valid [] [] (n ∷ ns) documents all back are kept held fits = absurd back
      all_equal valid (x ∷ xs) (e ∷ es) [] documents all back are kept held fits = absurd back
      all_equal valid [] [] [] (document ∷ documents) all back are kept held fits = absurd are
      all_equal valid (x ∷ xs) (e ∷ es) (n ∷ ns) [] all back are kept held fits = absurd are

      -- of a stream with a document
      stream_equal : IsValidSchema start.0 → (xs : List T) (es : List EmitNode) (ns : List Node)
          (last : Option Position) (documents : List PlainDocument) → xs ≢ [] → AreWrittenAs start view xs es
          → AreBack es ns → AreStreamDocuments ns last documents → All Kept xs → All Holds xs → All FitsBoth xs
          → MakeEqual limits start built refused eq xs documents
      stream_equal valid [] es ns last documents some all back are kept held fits = absurd (some refl)
      stream_equal valid (x ∷ xs) [] ns last documents some all back are kept held fits = absurd all
      stream_equal valid (x ∷ xs) (e ∷ es) [] last documents some all back are kept held fits = absurd back
      stream_equal valid (x ∷ xs) (e ∷ es) (n ∷ ns) last documents some all back are kept held fits =
          all_equal valid (x ∷ xs) (e ∷ es) (n ∷ ns) documents all back are kept held fits

      module _ (cut : (roots : List Node) (input : Input) → events_in input ≡ stream_events roots
          → AreStreamDocuments roots (last_mark input) (documents_of input None)) where
        -- the documents of the text of a stream that was written
        documents_equal : (xs : List T) (text : List ℕ) (events : List PlainEmit) → WroteAll start view xs events
            → IsStreamText events text → length text < 2 ^ 32 → xs ≢ [] → All Kept xs → All Holds xs → All FitsBoth xs
            → GivesEqualInTurn limits start built refused eq xs text
        documents_equal xs text events wrote printed short some kept held fits documents parsed =
            let input : Input = plain_marked parsed.events in
            let may : MayBePrinted events = subst MayBePrinted wrote.stream
            (may_be_printed wrote.roots (written_roots xs wrote.roots wrote.all_written held fits)) in
            let stands = printed_stands events text printed may in
            let taken = (parsed_takes text parsed.events parsed.fault short parsed.parsed).taken stands.documents
            stands.stand in
            let renders : Renders (emit_stream_events wrote.roots) (events_in input) =
            subst (λ es. Renders es (events_in input)) (sym wrote.stream)
            (subst (Renders events) (sym taken.1) stands.same) in
            let back = stream_comes wrote.roots (events_in input) renders in
            let same : documents_of input None ≡ documents =
            ap (documents_of input) (sym taken.0) ∙ sym parsed.holds in
            stream_equal wrote.valid xs wrote.roots back.0 (last_mark input) documents some wrote.all_written back.2
            (subst (AreStreamDocuments back.0 (last_mark input)) same (cut back.0 input back.1)) kept held fits

        text_equal : (xs : List T) (text : List ℕ) (unwritten : T → List ℕ → Type 0)
            → HasText (TypeWritesAll start view unwritten xs) text → length text < 2 ^ 32 → xs ≢ [] → All Kept xs
            → All Holds xs → All FitsBoth xs → GivesEqualInTurn limits start built refused eq xs text
        text_equal xs text unwritten (printed_as events writes printed) =
            documents_equal xs text events (wrote_all events writes refl) printed

        -- of the text of values that fit it
        pub gives_equal : (xs : List T) (text : List ℕ) (unwritten : T → List ℕ → Type 0)
            → IsTextOfAll start view Kept unwritten xs text → length text < 2 ^ 32 → xs ≢ [] → All FitsBoth xs
            → GivesEqualInTurn limits start built refused eq xs text
        gives_equal xs text unwritten own short some fits =
            text_equal xs text unwritten own.printed short some own.kept own.held fits
