-- What a reading found is what people are shown of it, and what is shown of documents one after another is what is shown
-- of all.
use Rattle.std.proofs.Common.{◌≡◌, false, ℕ, List, [], ◌∷◌, ◌++◌, Some, Result, Ok, Err, refl, sym, ap, subst, ◌∙◌}
use Rattle.std.proofs.lemmas.List.{append-nil, append_assoc}
use Rattle.yaml_base.specs.Answer.{Answers}
use Rattle.yaml_base.specs.PlainDocument.{PlainDocument}
use Rattle.yaml_base.specs.declared.error.Cause.{Cause}
use Rattle.yaml_read.specs.Reads.{DocumentGives}
use Rattle.yaml_read.specs.TreeReader.{PlainLimits}
use Rattle.yaml_shape.specs.DataView.{data_of}
use Rattle.yaml_shape.specs.PlainShape.{PlainShape, shape_at}
use Rattle.yaml_shape.specs.declared.data.Data.{Data}
use Rattle.serde_yaml.specs.PlainStream.{PlainStream, document_alone, items_left}
use Rattle.serde_yaml.specs.TextReads.{TextGives}
use Rattle.yaml_run.proofs.StreamWalks.{Leaves, leaves-all, leaves-next, leaves-none}
use Rattle.yaml_run.specs.Shown.{AreShown, IsOneShown, IsShown, Shows}
use Rattle.yaml_run.specs.Shown.AreShown.{no_more, one_more}
use Rattle.yaml_run.specs.Shown.IsOneShown.{one_found, one_refused}
use Rattle.yaml_run.specs.Shown.IsShown.{found as text_found, refused as text_refused}

module _ (limits : PlainLimits) (table : List PlainShape) where
  -- of a text
  pub shows_text : (s : PlainShape) (bytes : List ℕ) (found : Result Data Cause) (text : List ℕ) (faults : List Cause)
      → Answers data_of found (TextGives limits table s bytes) → Shows found text faults
      → IsShown limits table s bytes text faults
  shows_text s bytes (Ok content) text faults gives t = text_found (data_of content) gives t.0 t.1
  shows_text s bytes (Err cause) text faults gives t = text_refused cause (gives t.2) t.0 t.1

  -- of a document
  pub shows_document : (s : PlainShape) (document : PlainDocument) (found : Result Data Cause) (text : List ℕ)
      (faults : List Cause) → Answers data_of found (DocumentGives limits table s document) → Shows found text faults
      → IsOneShown limits table s document text faults
  shows_document s document (Ok content) text faults gives t = one_found (data_of content) gives t.0 t.1
  shows_document s document (Err cause) text faults gives t = one_refused cause (gives t.2) t.0 t.1

  -- what was shown, with what is shown of the documents that are left, put behind it, is shown of all
  abbrev pub Follows : PlainShape → (all : List PlainDocument) → (text : List ℕ) → (faults : List Cause)
      → (left : List PlainDocument) → Type 0
  Follows s all text faults left = (others : List ℕ) (more : List Cause) → AreShown limits table s left others more
      → AreShown limits table s all (text ++ others) (faults ++ more)

  -- so it is where the documents of a stream are read in turn
  abbrev pub Showing : (id : ℕ) → (all now : PlainStream) → (text : List ℕ) → (faults : List Cause) → Type 0
  Showing id all now text faults = (s : PlainShape) → shape_at table id ≡ Some s → all.is_document ≡ false
      → Leaves (Follows s all.documents text faults) now

  -- at first
  pub showing-starts : (id : ℕ) (all : PlainStream) → Showing id all all [] []
  showing-starts id all = λ s at many.
      leaves-all (Follows s all.documents [] []) all many (λ others more h. h)

  shown_more : (s : PlainShape) (all : List PlainDocument) (text one : List ℕ) (faults ones : List Cause)
      (d : PlainDocument) (ds : List PlainDocument) → IsOneShown limits table s d one ones
      → Follows s all text faults (d ∷ ds) → Follows s all (text ++ one) (faults ++ ones) ds
  shown_more s all text one faults ones d ds shown f = λ others more h.
      subst (λ x. AreShown limits table s all ((text ++ one) ++ others) x) (sym (append_assoc faults ones more))
      (subst (λ x. AreShown limits table s all x (faults ++ (ones ++ more))) (sym (append_assoc text one others))
      (f (one ++ others) (ones ++ more) (one_more d ds one others ones more shown h)))

  -- with each of them
  pub showing-next : (id : ℕ) (all old given new : PlainStream) (text one : List ℕ) (faults ones : List Cause)
      → items_left old ≡ given ∷ items_left new
      → ((s : PlainShape) (d : PlainDocument) → shape_at table id ≡ Some s → given ≡ document_alone d
      → IsOneShown limits table s d one ones) → Showing id all old text faults
      → Showing id all new (text ++ one) (faults ++ ones)
  showing-next id all old given new text one faults ones steps shown t = λ s at many.
      leaves-next (Follows s all.documents text faults) (Follows s all.documents (text ++ one) (faults ++ ones)) given
      old new steps (λ d ds is f. shown_more s all.documents text one faults ones d ds (shown s d at is) f)
      (t s at many)

  -- and at last
  pub showing-ends : (id : ℕ) (all now : PlainStream) (text : List ℕ) (faults : List Cause) → items_left now ≡ []
      → Showing id all now text faults → (s : PlainShape) → shape_at table id ≡ Some s → all.is_document ≡ false
      → AreShown limits table s all.documents text faults
  showing-ends id all now text faults none t = λ s at many.
      let f = leaves-none (Follows s all.documents text faults) now none (t s at many) in
      subst (λ x. AreShown limits table s all.documents x faults) (append-nil text)
      (subst (λ x. AreShown limits table s all.documents (text ++ []) x) (append-nil faults) (f [] [] no_more))
