-- Values that are written one behind another are documents of a stream.
use Rattle.std.proofs.Common.{◌≡◌, ◌<◌, ◌++◌, ◌+◌, ℕ, suc, List, [], ◌∷◌, length, take, drop, Result, Ok, Err, None, false}
use Rattle.std.proofs.Common.{IsTrue, get_or, arith, refl, sym, ap, subst, ◌∙◌, append_assoc, append-nil, drop-cons}
use Rattle.std.specs.List.{All}
use Rattle.std.proofs.lemmas.List.{take-append-drop}
use Rattle.std.proofs.lemmas.List.Elements.{All-push}
use Rattle.yaml_base.specs.Answer.{is_memory}
use Rattle.yaml_base.specs.EmitEvents.{PlainEmit, emit_document_start, emit_document_end, emit_stream_start}
use Rattle.yaml_base.specs.EmitEvents.{emit_stream_end}
use Rattle.yaml_base.specs.EmitTree.{EmitNode, IsEmitStream, emit_node_events, emit_document_events}
use Rattle.yaml_base.specs.EmitTree.{emit_documents_events}
use Rattle.yaml_base.specs.declared.error.Cause.{Cause}
use Rattle.yaml_emit.specs.StreamTexts.{IsStreamText, emit_stream_events}
use Rattle.yaml_shape.specs.Join.{IsTooLarge}
use Rattle.yaml_shape.specs.declared.fault.SchemaFault.{SchemaFault}
use Rattle.yaml_shape.specs.Held.{IsHeld}
use Rattle.yaml_shape.specs.PlainData.{PlainData}
use Rattle.yaml_shape.specs.PlainShape.{PlainShape}
use Rattle.yaml_shape.specs.Validity.{IsValidSchema}
use Rattle.yaml_types.specs.NodeWrites.{written_node, IsFaultOf, IsPut}
use Rattle.yaml_types.specs.Start.{Start}
use Rattle.yaml_write.specs.Outcomes.{made}
use Rattle.yaml_write.specs.Written.{written}
use Rattle.serde_yaml.specs.Printed.{HasText, printed_as}
use Rattle.serde_yaml.specs.TypedWrites.{TypeWrites}
use Rattle.serde_yaml.specs.WrittenDocuments.{AreWrittenAs, IsFirstRefusal, TypeWritesAll, no_shape, of_shape}
use Rattle.serde_yaml.proofs.TypedLaws.{IsNoSchema, node_refused}

-- a node between the start and the end of a document
pub document_put : (given : Result EmitNode Cause) (old begun held new : List PlainEmit)
    → IsPut (λ (e : PlainEmit). e ∷ []) (Ok emit_document_start) old begun → IsPut emit_node_events given begun held
    → IsPut (λ (e : PlainEmit). e ∷ []) (Ok emit_document_end) held new → IsPut emit_document_events given old new
document_put (Err cause) old begun held new b p n = absurd (cc)
document_put (Ok root) old begun held new b p n =
    let starts : List PlainEmit = emit_document_start ∷ [] in
    let node : List PlainEmit = emit_node_events root in
    let ends : List PlainEmit = emit_document_end ∷ [] in
    let first : old ++ starts ≡ begun = cc in
    let second : begun ++ node ≡ held = cc in
    let last : held ++ ends ≡ new = cc in
    let all : ((old ++ starts) ++ node) ++ ends ≡ new =
    ap (λ es. (es ++ node) ++ ends) first ∙ (ap (λ es. es ++ ends) second ∙ last) in
    ap Ok (sym (append_assoc (old ++ starts) node ends ∙ append_assoc old starts (node ++ ends)) ∙ all)

-- one document more behind documents
more_events : (roots : List EmitNode) (root : EmitNode)
    → emit_documents_events roots ++ emit_document_events root ≡ emit_documents_events (roots ++ root ∷ [])
more_events [] root = sym (append-nil (emit_document_events root))
more_events (first ∷ roots) root =
    append_assoc (emit_document_events first) (emit_documents_events roots) (emit_document_events root)
    ∙ ap (λ es. emit_document_events first ++ es) (more_events roots root)

module _ (start : Start) {T : Type 0} (view : T → PlainData) where
  one_more_root : (xs : List T) (roots : List EmitNode) (x : T) (root : EmitNode) → AreWrittenAs start view xs roots
      → written start.0 start.1 None (view x) ≡ Ok root
      → AreWrittenAs start view (xs ++ x ∷ []) (roots ++ root ∷ [])
  one_more_root [] [] x root all is = (is, tt)
  one_more_root (y ∷ xs) (r ∷ roots) x root all is = (all.0, one_more_root xs roots x root all.1 is)
  one_more_root [] (r ∷ roots) x root all is = absurd all
  one_more_root (y ∷ xs) [] x root all is = absurd all

  -- what was taken of values, behind other events
  pub record AreTaken (Kept : T → Type 0) (old : List PlainEmit) (xs : List T) (new : List PlainEmit) : Type 0 where
    pub roots : List EmitNode
    pub all_written : AreWrittenAs start view xs roots
    pub taken : new ≡ old ++ emit_documents_events roots
    pub kept : All Kept xs
    pub held : All (λ x. IsHeld (view x)) xs

  module _ (Kept : T → Type 0) (old : List PlainEmit) where
    pub none_taken : AreTaken Kept old [] old
    none_taken = record {
      roots = [];
      all_written = tt;
      taken = sym (append-nil old);
      kept = λ k x h. absurd (omega (arith, h));
      held = λ k x h. absurd (omega (arith, h));
    }

    taken_of : (xs : List T) (mid new : List PlainEmit) (x : T) (given : Result EmitNode Cause)
        → written start.0 start.1 None (view x) ≡ given → AreTaken Kept old xs mid
        → IsPut emit_document_events given mid new → Kept x → IsHeld (view x) → AreTaken Kept old (xs ++ x ∷ []) new
    taken_of xs mid new x (Err cause) is before put keeps holds = absurd (cc)
    taken_of xs mid new x (Ok root) is before put keeps holds =
        let behind : mid ++ emit_document_events root ≡ new = cc in
        record {
          roots = before.roots ++ root ∷ [];
          all_written = one_more_root xs before.roots x root before.all_written is;
          taken =
              sym behind
              ∙ (ap (λ es. es ++ emit_document_events root) before.taken
              ∙ (append_assoc old (emit_documents_events before.roots) (emit_document_events root)
              ∙ ap (λ es. old ++ es) (more_events before.roots root)));
          kept = All-push Kept xs x before.kept keeps;
          held = All-push (λ x. IsHeld (view x)) xs x before.held holds;
        }

    -- a document was taken behind those
    pub one_taken : (table : List PlainShape) (id : ℕ) (xs : List T) (mid new : List PlainEmit) (x : T)
        → table ≡ start.0 → id ≡ start.1 → AreTaken Kept old xs mid
        → IsPut emit_document_events (written_node table id (view x)) mid new → Kept x → IsHeld (view x)
        → AreTaken Kept old (xs ++ x ∷ []) new
    one_taken table id xs mid new x p q before put keeps holds =
        taken_of xs mid new x (written_node table id (view x))
        (ap (λ t. written t start.1 None (view x)) (sym p) ∙ ap (λ i. written table i None (view x)) (sym q))
        before put keeps holds

  -- of the values this is the first that is refused
  pub first_refused : {Kept : T → Type 0} {old mid : List PlainEmit} (unwritten : T → List ℕ → Type 0)
      (table : List PlainShape) (id : ℕ) (xs : List T) (place : ℕ) (x : T) (cause : Cause)
      → table ≡ start.0 → id ≡ start.1 → IsValidSchema table → place < length xs → x ≡ get_or xs place x
      → AreTaken Kept old (take place xs) mid
      → IsFaultOf (written_node table id (view x)) (unwritten x) cause → is_memory cause ≡ false
      → IsFirstRefusal start view unwritten xs cause
  first_refused unwritten table id xs place x cause p q valid within is before fault known = record {
    before = take place xs;
    value = x;
    after = drop (suc place) xs;
    split =
        sym (take-append-drop place xs)
        ∙ ap (λ ys. take place xs ++ ys)
        (drop-cons xs place x within ∙ ap (λ y. y ∷ drop (suc place) xs) (sym is));
    roots = before.roots;
    written_before = before.all_written;
    refused = node_refused start (view x) (unwritten x) table id cause p q valid fault known;
  }

  -- a type without a schema writes nothing
  pub no_type_written_all : {unwritten : T → List ℕ → Type 0} {xs : List T} (refusal : SchemaFault) (cause : Cause)
      → IsTooLarge (length start.0) refusal → IsNoSchema refusal cause → is_memory cause ≡ false
      → TypeWritesAll start view unwritten xs (Err cause)
  no_type_written_all {unwritten} {xs} refusal cause large is known =
      let no = is (length start.0) large known in
      subst (λ e. TypeWritesAll start view unwritten xs (Err e)) (sym no.1) (no_shape no.0)

  module _ (xs : List T) {begun taken ended : List PlainEmit} (b : begun ≡ emit_stream_start ∷ [])
      (t : (roots : List EmitNode) × AreWrittenAs start view xs roots
      × (taken ≡ begun ++ emit_documents_events roots)) (e : ended ≡ taken ++ emit_stream_end ∷ []) where
    is_stream : ended ≡ emit_stream_events t.0
    is_stream =
        e ∙ ap (λ es. es ++ emit_stream_end ∷ []) (t.2 ∙ ap (λ es. es ++ emit_documents_events t.0) b)

    -- what was taken is a stream
    pub stream_taken : IsEmitStream ended
    stream_taken = (t.0, is_stream)

    -- and its text that of the values
    pub text_taken : {unwritten : T → List ℕ → Type 0} {text : List ℕ} → IsValidSchema start.0
        → IsStreamText ended text → HasText (TypeWritesAll start view unwritten xs) text
    text_taken {text = text} valid printed =
        printed_as (emit_stream_events t.0) (of_shape t.0 valid t.1)
        (subst (λ es. IsStreamText es text) is_stream printed)
