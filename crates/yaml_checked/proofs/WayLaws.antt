-- Events of a tape are those of the documents that stand in its text.
use Rattle.std.proofs.Common.{◌≡◌, ◌≤◌, ◌<◌, ◌+◌, ◌∷◌, ◌++◌, ◌∙◌, List, [], None, Option, Some, ap, append_assoc}
use Rattle.std.proofs.Common.{append-nil, drop, length, map, refl, subst, sym, ℕ}
use Rattle.std.proofs.Common.{get_or}
use Rattle.std.proofs.lemmas.List.{drop_all, drop_more}
use Rattle.std.proofs.lemmas.Option.{get_or_from_slice_get, slice_get_read, slice_get_within}
use Rattle.std.specs.Prelude.{slice_get}
use Rattle.yaml_base.specs.PlainEvent.{document_end, document_start, stream_end, stream_start}
use Rattle.yaml_direct.specs.Documents.{EndsText, HasBegun, HasRead, ReadsDocument, told_by}
use Rattle.yaml_direct.specs.declared.document.Documents.{Documents}
use Rattle.yaml_grammar.specs.Documents.{Stands}
use Rattle.yaml_grammar.specs.Nodes.{Document, Marked, documents_events, end_mark, events_of, mark, node_events}
use Rattle.yaml_reading.proofs.DocumentLaws.{one_text}
use Rattle.yaml_reading.specs.Refused.{NothingStands}
use Rattle.yaml_tape.specs.OnTape.{anchor_in, marked_by, names_at, tag_in}
use Rattle.yaml_tape.specs.Pushes.{marked_on}
use Rattle.yaml_tape.specs.declared.entry.Entry.{Entry}
use Rattle.yaml_tape.specs.declared.tape.Tape.{Tape}
use Rattle.yaml_checked.specs.OfText.{AreAhead, AreReadOf, begun_of}
use Rattle.yaml_checked.specs.declared.rest.Rest.{Rest}
use Rattle.yaml_checked.specs.inner.OnWay.{IsFilled, IsOnWay, marked_at, marked_from, scalar_by, scalar_on}

-- the events of documents behind others
more_events : (ds es : List Document) → documents_events (ds ++ es) ≡ documents_events ds ++ documents_events es
more_events [] es = refl
more_events (d ∷ ds) es =
    ap (λ l. (document_start, d.start) ∷ (node_events d.root ++ ((document_end, d.end) ∷ l))) (more_events ds es)
    ∙ ap (λ l. (document_start, d.start) ∷ l)
    (sym (append_assoc (node_events d.root) ((document_end, d.end) ∷ documents_events ds) (documents_events es)))

-- the end of the events of a text
abbrev end_of_events : List ℕ → List Marked
end_of_events text = (stream_end, end_mark text 0 (length text)) ∷ []

-- All of these documents stand in the text, so the others do.
stand_so : (text : List ℕ) (d : Documents) (ds es read : List Document) → d.reader.text.now ≡ text → HasRead d read
    → Stands text ds → (more : List Document) × (ds ≡ read ++ more)
stand_so text d ds es read same h stand =
    let t = d.reader.text.now in
    let there : Stands t ds = subst (λ x. Stands x ds) (sym same) stand in
    let on = h.before.on ds there.from_first_token in
    let all : Stands t (read ++ on.0) =
    record { characters = there.characters; from_first_token = h.before.stand on.0 on.1 } in
    (on.0, one_text t ds (read ++ on.0) there all)

-- what was handed out and what stands on the tape are the first of the events of the text
pub are_first : (text : List ℕ) (ds : List Document) (events : List Marked) (d : Option Documents) → Stands text ds
    → AreAhead text ds events d → (more : List Marked) × (events_of text ds ≡ events ++ more)
are_first text ds events None stand all = ([], sym all ∙ sym (append-nil events))
are_first text ds events (Some d) stand a =
    let s = stand_so text d ds ds a.documents a.of_text a.read stand in
    let end = end_of_events text in
    let rest = documents_events s.0 ++ end in (
      told_by d ++ rest,
      ap (λ l. (stream_start, mark text 0) ∷ (documents_events l ++ end)) s.1
          ∙ ap (λ l. (stream_start, mark text 0) ∷ (l ++ end)) (more_events a.documents s.0)
          ∙ ap (λ l. (stream_start, mark text 0) ∷ l) (append_assoc (documents_events a.documents) (documents_events s.0) end)
          ∙ ap (λ l. l ++ rest) (sym a.told)
          ∙ append_assoc events (told_by d) rest,
    )

-- the events of a tape from its beginning, from an entry, and from behind the last
pub from_beginning : (t : Tape) → marked_from t 0 ≡ marked_on t
from_beginning t = refl

pub from_entry : (t : Tape) (i : ℕ) (e : Entry) → slice_get t.entries.items i ≡ Some e
    → marked_from t i ≡ marked_at t e ∷ marked_from t (i + 1)
from_entry t i e is =
    let es = t.entries.items in
    let within : i < length es = slice_get_within es i e is in
    let here : get_or es i e ≡ e = get_or_from_slice_get es i e e is in
    ap (map (marked_by t.text.now t.arena.items t.names.items))
    (drop_more es i e within ∙ ap (λ x. x ∷ drop (i + 1) es) here)

pub from_last : (t : Tape) (i : ℕ) → length t.entries.items ≤ i → marked_from t i ≡ []
from_last t i over = ap (map (marked_by t.text.now t.arena.items t.names.items)) (drop_all i t.entries.items over)

-- no list with an element is empty
never_empty : {X : Type 0} (xs ys : List X) (y : X) → xs ++ y ∷ ys ≡ [] → ⊥
never_empty [] ys y is = cc
never_empty (x ∷ xs) ys y is = cc

-- the events that were handed out, where the tape has no more
out_of : (before : List Marked) (old : Rest) → length old.tape.entries.items ≤ old.next
    → before ++ marked_from old.tape old.next ≡ before
out_of before old over = ap (λ l. before ++ l) (from_last old.tape old.next over) ∙ append-nil before

-- so many documents were read, and these are the events
read_in : (ds : List Document) (before : List Marked) (old : Rest) (d : Documents) → IsOnWay ds before old
    → length old.tape.entries.items ≤ old.next → old.documents ≡ Some d → AreReadOf old.tape.text.now before d
read_in ds before old d way over is =
    subst (λ l. AreReadOf old.tape.text.now l d) (out_of before old over)
    (subst (AreAhead old.tape.text.now ds (before ++ marked_from old.tape old.next)) is way.ahead)

-- a document more was read
pub document_filled : {ds : List Document} {before : List Marked} {old r : Rest} (d n m : Documents)
    → IsOnWay ds before old → length old.tape.entries.items ≤ old.next → old.documents ≡ Some d
    → ((read : List Document) → HasRead d read → ReadsDocument d n read)
    → n.reader.text.now ≡ d.reader.text.now → m.reader.text.now ≡ n.reader.text.now
    → r.tape.text.now ≡ n.reader.text.now → marked_on r.tape ≡ told_by n → told_by m ≡ []
    → ((read : List Document) → HasRead n read → HasRead m read) → r.next ≡ 0 → r.documents ≡ Some m
    → IsFilled ds before r
document_filled {ds} {before} {old} {r} d n m way over is reads still stays of_text taken none on first then =
    let a = read_in ds before old d way over is in
    let x = reads a.documents a.read in
    let same : r.tape.text.now ≡ old.tape.text.now = of_text ∙ still ∙ a.of_text in
    let added = documents_events (x.document ∷ []) in
    let told : (before ++ marked_on r.tape) ++ told_by m ≡ begun_of r.tape.text.now (a.documents ++ x.document ∷ []) =
    ap (λ l. (before ++ marked_on r.tape) ++ l) none ∙ append-nil (before ++ marked_on r.tape)
    ∙ ap (λ l. before ++ l) (taken ∙ x.added) ∙ sym (append_assoc before (told_by d) added)
    ∙ ap (λ l. l ++ added) a.told
    ∙ ap (λ l. (stream_start, mark old.tape.text.now 0) ∷ l) (sym (more_events a.documents (x.document ∷ [])))
    ∙ ap (λ t. begun_of t (a.documents ++ x.document ∷ [])) (sym same) in
    let read : AreReadOf r.tape.text.now (before ++ marked_on r.tape) m = record {
      of_text = stays ∙ sym of_text;
      documents = a.documents ++ x.document ∷ [];
      read = on (a.documents ++ x.document ∷ []) x.read;
      told = told;
    } in
    record {
      way = record {
        stand = subst (λ t. Stands t ds) (sym same) way.stand;
        ahead = subst (AreAhead r.tape.text.now ds (before ++ marked_from r.tape r.next)) (sym then)
            (subst (λ i. AreReadOf r.tape.text.now (before ++ marked_from r.tape i) m) (sym first) read);
      };
      none = λ gone. absurd (never_empty (told_by d) (node_events x.document.root ++ (document_end, x.document.end) ∷ [])
          (document_start, x.document.start)
          (sym (taken ∙ x.added) ∙ from_last r.tape 0 (subst (λ i. length r.tape.entries.items ≤ i) first gone)));
    }

-- the end of the text was read
pub end_filled : {ds : List Document} {before : List Marked} {old r : Rest} (d n : Documents)
    → IsOnWay ds before old → length old.tape.entries.items ≤ old.next → old.documents ≡ Some d
    → ((read : List Document) → HasRead d read → EndsText d n read)
    → n.reader.text.now ≡ d.reader.text.now
    → r.tape.text.now ≡ n.reader.text.now → marked_on r.tape ≡ told_by n → r.next ≡ 0 → r.documents ≡ None
    → IsFilled ds before r
end_filled {ds} {before} {old} {r} d n way over is ends still of_text taken first then =
    let a = read_in ds before old d way over is in
    let x = ends a.documents a.read in
    let text = r.tape.text.now in
    let same : text ≡ old.tape.text.now = of_text ∙ still ∙ a.of_text in
    let there : d.reader.text.now ≡ text = sym (of_text ∙ still) in
    let stand : Stands text ds = subst (λ t. Stands t ds) (sym same) way.stand in
    let these : Stands text a.documents = subst (λ t. Stands t a.documents) there x.stand in
    let end = end_of_events text in
    let all : before ++ marked_on r.tape ≡ events_of text ds =
    ap (λ l. before ++ l) (taken ∙ x.added ∙ ap (λ t. told_by d ++ end_of_events t) there)
    ∙ sym (append_assoc before (told_by d) end) ∙ ap (λ l. l ++ end) a.told
    ∙ ap (λ t. begun_of t a.documents ++ end) (sym same)
    ∙ ap (events_of text) (one_text text a.documents ds these stand) in
    record {
      way = record {
        stand = stand;
        ahead = subst (AreAhead text ds (before ++ marked_from r.tape r.next)) (sym then)
            (subst (λ i. before ++ marked_from r.tape i ≡ events_of text ds) (sym first) all);
      };
      none = λ gone. absurd (never_empty (told_by d) [] _
          (sym (taken ∙ x.added) ∙ from_last r.tape 0 (subst (λ i. length r.tape.entries.items ≤ i) first gone)));
    }

-- the documents were left, so nothing stands
pub left_way : {ds : List Document} {before : List Marked} {old : Rest} (d : Documents)
    → IsOnWay ds before old → length old.tape.entries.items ≤ old.next → old.documents ≡ Some d
    → ((read : List Document) → HasRead d read → NothingStands d.reader.text.now) → ⊥
left_way {ds} {before} {old} d way over is left =
    let a = read_in ds before old d way over is in
    left a.documents a.read ds (subst (λ t. Stands t ds) (sym a.of_text) way.stand)

-- what stands in a place of a list
pub stands_there : {X : Type 0} {xs ys : List X} {i : ℕ} {x : X} → xs ≡ ys → i < length xs → x ≡ get_or xs i x
    → slice_get ys i ≡ Some x
stands_there {X} {xs} {ys} {i} {x} same within is =
    subst (λ l. slice_get l i ≡ Some x) same (slice_get_read xs (length xs) i x refl within is)

-- the next entry was read
pub entry_read : {ds : List Document} {before : List Marked} {old r : Rest} (e : Entry) → IsOnWay ds before old
    → slice_get old.tape.entries.items old.next ≡ Some e → r.tape ≡ old.tape → r.next ≡ old.next + 1
    → r.documents ≡ old.documents → IsOnWay ds (before ++ marked_at r.tape e ∷ []) r
entry_read {ds} {before} {old} {r} e way is same one then =
    let all : before ++ marked_from old.tape old.next
    ≡ (before ++ marked_at old.tape e ∷ []) ++ marked_from old.tape (old.next + 1) =
    ap (λ l. before ++ l) (from_entry old.tape old.next e is)
    ∙ sym (append_assoc before (marked_at old.tape e ∷ []) (marked_from old.tape (old.next + 1))) in
    let here : AreAhead old.tape.text.now ds ((before ++ marked_at old.tape e ∷ []) ++ marked_from old.tape (old.next + 1))
    old.documents =
    subst (λ l. AreAhead old.tape.text.now ds l old.documents) all way.ahead in
    let there : AreAhead old.tape.text.now ds ((before ++ marked_at old.tape e ∷ []) ++ marked_from old.tape r.next)
    r.documents =
    subst (AreAhead old.tape.text.now ds ((before ++ marked_at old.tape e ∷ []) ++ marked_from old.tape r.next)) (sym then)
    (subst (λ i. AreAhead old.tape.text.now ds ((before ++ marked_at old.tape e ∷ []) ++ marked_from old.tape i)
    old.documents) (sym one) here) in
    record {
      stand = subst (λ t. Stands t.text.now ds) (sym same) way.stand;
      ahead = subst (λ (t : Tape). AreAhead t.text.now ds ((before ++ marked_at t e ∷ []) ++ marked_from t r.next) r.documents)
          (sym same) there;
    }

-- no document was read yet
pub begun_way : {r : Rest} (ds : List Document) (d n : Documents) → Stands d.reader.text.now ds → HasBegun d
    → n.reader.text.now ≡ d.reader.text.now → r.tape.text.now ≡ d.reader.text.now → marked_on r.tape ≡ told_by d
    → told_by n ≡ [] → ((read : List Document) → HasRead d read → HasRead n read) → r.next ≡ 0 → r.documents ≡ Some n
    → IsOnWay ds [] r
begun_way {r} ds d n stand h stays of_text taken none on first then =
    let read : AreReadOf r.tape.text.now (marked_on r.tape) n = record {
      of_text = stays ∙ sym of_text;
      documents = [];
      read = on [] h.read;
      told = ap (λ l. marked_on r.tape ++ l) none ∙ append-nil (marked_on r.tape) ∙ taken ∙ h.told
          ∙ ap (λ t. begun_of t []) (sym of_text);
    } in
    record {
      stand = subst (λ t. Stands t ds) (sym of_text) stand;
      ahead = subst (AreAhead r.tape.text.now ds (marked_from r.tape r.next)) (sym then)
          (subst (λ i. AreReadOf r.tape.text.now (marked_from r.tape i) n) (sym first) read);
    }

-- the scalar of an entry without names
pub without_names : (t : Tape) (e : Entry) → e.names ≡ 0 → scalar_on t e ≡ scalar_by t None None e
without_names t e none =
    ap (λ n. scalar_by t (anchor_in (names_at t.names.items n)) (tag_in (names_at t.names.items n)) e) none
