-- Documents, one after another.
use Rattle.std.proofs.Common.{ℕ, ◌+◌, ◌<◌, ◌≤◌, ◌≡◌, ◌++◌, ◌∷◌, Bool, true, false, List, [], length}
use Rattle.std.proofs.Common.{refl, sym, subst, ap, ap₂, ◌∙◌, arith, append_assoc, append-nil, not}
use Rattle.std.proofs.lemmas.Bool.{false≢true, le-leb}
use Rattle.std.proofs.lemmas.List.{length-append}
use Rattle.yaml_base.specs.PlainEvent.{PlainEvent, document_end, document_start, stream_end, stream_start}
use Rattle.yaml_base.specs.Position.{Position}
use Rattle.yaml_direct.specs.ByColumns.{Reads}
use Rattle.yaml_direct.specs.Documents.{AreBefore, EndsText, HasBegun, HasRead, ReadsDocument, SaysDocuments, told_by}
use Rattle.yaml_direct.specs.Gaps.{begins_token}
use Rattle.yaml_direct.specs.Held.{IsUnnamed}
use Rattle.yaml_direct.specs.Standing.{HasRoot, IsDocument, bare_root, document_at, earlier_of, marked_root}
use Rattle.yaml_direct.specs.Tokens.{IsCounted}
use Rattle.yaml_direct.specs.declared.document.Documents.{Documents}
use Rattle.yaml_direct.proofs.DocumentLeaves.{over_token}
use Rattle.yaml_direct.proofs.RootLaws.{before_more, end_on, further, goes_on}
use Rattle.yaml_grammar.specs.Bytes.{is_over, is_text}
use Rattle.yaml_grammar.specs.Documents as grammar
use Rattle.yaml_grammar.specs.Documents.{Earlier, Stands, a_document, an_end, end_marker, ends_document, has_document}
use Rattle.yaml_grammar.specs.Documents.{no_document, none, takes_directive}
use Rattle.yaml_grammar.specs.Gaps.{ends_its_line, next}
use Rattle.yaml_grammar.specs.Nodes.{Document, Node, documents_events, end_mark, mark, node_events}
use Rattle.yaml_reading.proofs.DocumentLaws.{one_text}

-- what came before
pub bare_none : (begun ended : Bool) → not begun ≡ true → earlier_of begun ended ≡ none
bare_none false ended e = refl
bare_none true ended e = absurd (false≢true e)

pub directed_takes : (begun ended : Bool) → ended ≡ true → takes_directive (earlier_of begun ended) ≡ true
directed_takes false ended e = refl
directed_takes true true e = refl
directed_takes true false e = absurd (false≢true e)

had_document : (begun ended : Bool) → begun ≡ true → has_document (earlier_of begun ended) ≡ true
had_document true true e = refl
had_document true false e = refl
had_document false ended e = absurd (false≢true e)

-- the first document may have no `---`, and a directive may stand before it, or behind `...`
pub none_bare : (begun ended : Bool) → earlier_of begun ended ≡ none → not begun ≡ true
none_bare false ended e = refl
none_bare true true e = absurd (false≢true (sym (ap has_document e)))
none_bare true false e = absurd (false≢true (sym (ap has_document e)))

pub takes_directed : (begun ended : Bool) → (begun ≡ false → ended ≡ true)
    → takes_directive (earlier_of begun ended) ≡ true → ended ≡ true
takes_directed false ended free e = free refl
takes_directed true true free e = refl
takes_directed true false free e = absurd (false≢true e)

-- no document was read yet
pub nothing_read : (d : Documents) → is_text d.reader.text.now ≡ true → d.begun ≡ false → d.ended ≡ true
    → d.next ≡ next d.reader.text.now 0
    → IsUnnamed d.reader → IsCounted d.reader d.next → begins_token d.reader.text.now d.next ≡ true → HasRead d []
nothing_read d h begun had there gone counted token = record {
  allowed = h;
  before = record {
    stand = λ ds rest. subst (λ i. grammar.Documents d.reader.text.now none i ds) there
        (subst (λ e. grammar.Documents d.reader.text.now e d.next ds) (ap (λ b. earlier_of b d.ended) begun) rest);
    on = λ ds all. (
      ds,
      subst (λ e. grammar.Documents d.reader.text.now e d.next ds)
          (sym (ap (λ b. earlier_of b d.ended) begun))
          (subst (λ i. grammar.Documents d.reader.text.now none i ds) (sym there) all),
    );
  };
  unnamed = gone;
  counted = counted;
  token = token;
  few = omega arith;
  free = λ _. had;
}

-- `...` was stepped over
pub end_read : (old new : Documents) (ds : List Document) → HasRead old ds → new.reader.text.now ≡ old.reader.text.now
    → old.begun ≡ true → new.begun ≡ true → new.ended ≡ true → ends_document old.reader.text.now old.next ≡ true
    → ends_its_line old.reader.text.now (old.next + 3) ≡ true → new.next ≡ next old.reader.text.now (old.next + 3)
    → IsUnnamed new.reader → IsCounted new.reader new.next → begins_token old.reader.text.now new.next ≡ true
    → old.next ≤ new.next → HasRead new ds
end_read old new ds h same begun had ended ends line there gone counted token forward =
    let text = old.reader.text.now in
    let all : AreBefore text an_end new.next ds = record {
      stand = λ es rest. h.before.stand es (end_marker (had_document old.begun old.ended begun) ends line
          (subst (λ i. grammar.Documents text an_end i es) there rest));
      on = λ es all.
          let m = h.before.on es all in
          let e = end_on text (earlier_of old.begun old.ended) old.next ends m.0 m.1 in
          (m.0, subst (λ i. grammar.Documents text an_end i m.0) (sym there) e.rest);
    } in
    let now : an_end ≡ earlier_of new.begun new.ended = sym (ap₂ earlier_of had ended) in
    record {
      allowed = ap is_text same ∙ h.allowed;
      before = subst (λ t. AreBefore t (earlier_of new.begun new.ended) new.next ds) (sym same)
          (subst (λ e. AreBefore text e new.next ds) now all);
      unnamed = gone;
      counted = counted;
      token = ap (λ t. begins_token t new.next) same ∙ token;
      few = omega (arith, h.few, forward);
      free = λ other. absurd (false≢true (sym other ∙ had));
    }

-- the document ends behind a root
root_over : (text : List ℕ) (earlier : Earlier) (i j : ℕ) (root : Node) → HasRoot text earlier i root j
    → is_over text j ≡ true
root_over text earlier i j root (bare_root first inside x over) = over
root_over text earlier i j root (marked_root m marker x over) = over

-- a document more
document_on : (ds es : List Document) (d : Document) → (ds ++ d ∷ []) ++ es ≡ ds ++ (d ∷ es)
document_on ds es d = append_assoc ds (d ∷ []) es

pub document_read : (old new : Documents) (ds : List Document) → HasRead old ds
    → new.reader.text.now ≡ old.reader.text.now → new.begun ≡ true → new.ended ≡ false
    → old.next < length old.reader.text.now → ends_document old.reader.text.now old.next ≡ false → Reads old.reader new.reader new.next
    (IsDocument old.reader.text.now (earlier_of old.begun old.ended) old.next new.next)
    → ReadsDocument old new ds
document_read old new ds h same begun ended inside content x =
    let text = old.reader.text.now in
    let w = x.has.what in
    let e = earlier_of old.begun old.ended in
    let d = document_at text old.next w.root new.next in
    let all : AreBefore text a_document new.next (ds ++ d ∷ []) = record {
      stand = λ es rest. subst (λ l. grammar.Documents text none (next text 0) l) (sym (document_on ds es d))
          (h.before.stand (d ∷ es) (before_more text e old.next new.next w.root w.stands es rest));
      on = λ es all.
          let m = h.before.on es all in
          let s = goes_on text e old.next new.next w.root w.stands inside content m.0 m.1 in
          (s.rest, s.stand);
    } in
    let now : a_document ≡ earlier_of new.begun new.ended = sym (ap₂ earlier_of begun ended) in
    record {
      document = d;
      read = record {
        allowed = ap is_text same ∙ h.allowed;
        before = subst (λ t. AreBefore t (earlier_of new.begun new.ended) new.next (ds ++ d ∷ [])) (sym same)
            (subst (λ e. AreBefore text e new.next (ds ++ d ∷ [])) now all);
        unnamed = x.has.unnamed;
        counted = x.counted;
        token = ap (λ t. begins_token t new.next) same
            ∙ over_token text new.next (root_over text e old.next new.next w.root w.stands);
        few = omega (
          arith,
          h.few,
          further text e old.next new.next w.root w.stands,
          length-append ds (d ∷ []),
        );
        free = λ other. absurd (false≢true (sym other ∙ begun));
      };
      added = x.has.added ∙ ap (λ l. told_by old ++ l) w.events;
    }

-- the end
pub text_ends : (old new : Documents) (ds : List Document) → HasRead old ds → old.next ≡ length old.reader.text.now
    → told_by new ≡ told_by old ++ (stream_end, end_mark old.reader.text.now 0 (length old.reader.text.now)) ∷ []
    → EndsText old new ds
text_ends old new ds h there added =
    let text = old.reader.text.now in
    record {
      stand = record {
        characters = h.allowed;
        from_first_token = subst (λ l. grammar.Documents text none (next text 0) l) (append-nil ds)
            (h.before.stand [] (no_document (le-leb (length text) old.next (omega (arith, there)))));
      };
      added = added;
    }

-- behind `...` that was stepped over
pub read_on : (old m new : Documents) (ds : List Document) → told_by m ≡ told_by old → ReadsDocument m new ds
    → ReadsDocument old new ds
read_on old m new ds told x = record {
  document = x.document;
  read = x.read;
  added = x.added ∙ ap (λ l. l ++ documents_events (x.document ∷ [])) told;
}

pub ends_on : (old m new : Documents) (ds : List Document) → m.reader.text.now ≡ old.reader.text.now
    → told_by m ≡ told_by old → EndsText m new ds → EndsText old new ds
ends_on old m new ds same told x = record {
  stand = subst (λ t. Stands t ds) same x.stand;
  added = x.added ∙ ap₂ (λ (t : List ℕ) (l : List (PlainEvent × Position)). l ++ (stream_end, end_mark t 0 (length t)) ∷ []) same told;
}

-- all that was read of a text so far, a document in each turn
pub record AllRead (text : List ℕ) (turns : ℕ) (d : Documents) : Type 0 where
  pub documents : List Document
  pub read : HasRead d documents
  pub told : told_by d ≡ (stream_start, mark text 0) ∷ documents_events documents
  pub each : turns ≤ length documents

pub all_first : (text : List ℕ) (d : Documents) → d.reader.text.now ≡ text → HasBegun d → AllRead text 0 d
all_first text d same h = record {
  documents = [];
  read = h.read;
  told = h.told ∙ ap (λ t. (stream_start, mark t 0) ∷ []) same;
  each = omega arith;
}

more_events : (ds : List Document) (d : Document)
    → documents_events (ds ++ d ∷ []) ≡ documents_events ds ++ documents_events (d ∷ [])
more_events [] d = refl
more_events (e ∷ ds) d =
    ap (λ l. (document_start, e.start) ∷ (node_events e.root ++ ((document_end, e.end) ∷ l))) (more_events ds d)
    ∙ ap (λ l. (document_start, e.start) ∷ l)
    (sym (append_assoc (node_events e.root) ((document_end, e.end) ∷ documents_events ds) (documents_events (d ∷ []))))

pub all_more : (text : List ℕ) (turns : ℕ) (old new : Documents) (a : AllRead text turns old)
    → ReadsDocument old new a.documents → AllRead text (turns + 1) new
all_more text turns old new a x = record {
  documents = a.documents ++ x.document ∷ [];
  read = x.read;
  told = x.added ∙ ap (λ l. l ++ documents_events (x.document ∷ [])) a.told
      ∙ ap (λ l. (stream_start, mark text 0) ∷ l) (sym (more_events a.documents x.document));
  each = omega (arith, a.each, length-append a.documents (x.document ∷ []));
}

pub all_whole : (text : List ℕ) (turns : ℕ) (old new : Documents) (a : AllRead text turns old)
    → old.reader.text.now ≡ text → EndsText old new a.documents → SaysDocuments text (told_by new)
all_whole text turns old new a same x = record {
  documents = a.documents;
  stand = subst (λ t. Stands t a.documents) same x.stand;
  only = λ others stand. one_text text others a.documents stand (subst (λ t. Stands t a.documents) same x.stand);
  all = x.added ∙ ap (λ t. told_by old ++ (stream_end, end_mark t 0 (length t)) ∷ []) same
      ∙ ap (λ l. l ++ (stream_end, end_mark text 0 (length text)) ∷ []) a.told;
}
