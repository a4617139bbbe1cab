-- Where a reader stands behind a batch.
use Rattle.std.proofs.Common.{◌≡◌, List, [], ◌++◌, map, refl, sym, ◌∙◌, ap, subst, true, false, Option, Some, None}
use Rattle.std.proofs.Common.{is_some, Bool, ℕ}
use Rattle.yaml_documents.proofs.BatchLaws.{between_closed}
use Rattle.yaml_documents.proofs.EndLaws.{end_last, front_starts, last_next, some_behind}
use Rattle.yaml_documents.proofs.StartLaws.{documents_append}
use Rattle.yaml_documents.specs.TextDocuments.{AreDocumentsOf}
use Rattle.yaml_documents.specs.TextEvents.{AreParsed}
use Rattle.yaml_documents.specs.declared.batch.Stage.TheVariants.{Ended, Reading}
use Rattle.yaml_documents.specs.inner.Filling.{IsBetween, IsFull, IsLast, begun_in, front, left_documents}
use Rattle.yaml_documents.specs.inner.Pending.{ComeNext}
use Rattle.yaml_documents.specs.inner.Sources.{PlainSource}
use Rattle.yaml_documents.specs.inner.Stages.{IsAt}
use Rattle.yaml_load.proofs.Words.{Event, Input, IsWellFormed, PlainDocument, PlainFault, Position}
use Rattle.yaml_load.proofs.Words.{document_from, documents_of, plain_events}
use Rattle.yaml_load.proofs.Words.{plain_marked}

-- a full batch
pub full_at : (last : Option Position) (events : PlainSource) (mark : Position) {text : List ℕ}
    {given : List (Event × Position)} {taken taken_now : Input} {documents : List PlainDocument} → IsBetween last given
    → taken ≡ front last → IsFull text given taken events.given taken_now → events.text ≡ text
    → documents ≡ begun_in None taken_now → events.back ≡ events.given
    → IsAt text (Reading events (Some mark)) documents (begun_in None (plain_marked given))
full_at last events mark {text} {given} {taken} {taken_now} {documents} between in_front full of_text begun back =
    let before = begun_in None (plain_marked given) in
    let more = full.reads.more in
    let whole = begun_in None more in
    let is_whole : documents ≡ whole =
    begun ∙ ap (begun_in None) (full.reads.taken_more ∙ ap (λ (es : Input). es ++ more) in_front)
    ∙ ap (map (document_from None)) (front_starts last more) in
    let all : begun_in None (plain_marked events.given) ≡ before ++ whole =
    ap (begun_in None) full.reads.given_more
    ∙ documents_append None (plain_marked given) more (between_closed last given between) in
    record {
      behind = record {
        of_text = of_text;
        between = (full.between, λ none. some_behind before whole full.some (sym all ∙ none));
        back = back;
        begun = ap (λ (ds : List PlainDocument). before ++ ds) is_whole ∙ sym all;
      };
      next = subst (ComeNext text false before) (sym is_whole) full.reads.next;
      none = λ failed. absurd (cc);
    }

-- it has a document
pub full_some : (last : Option Position) {text : List ℕ} {given given_now : List (Event × Position)}
    {taken taken_now : Input} → taken ≡ front last → IsFull text given taken given_now taken_now
    → begun_in None taken_now ≡ [] → ⊥
full_some last in_front full none =
    full.some (sym (ap (begun_in None) (full.reads.taken_more
    ∙ ap (λ (es : Input). es ++ full.reads.more) in_front)
    ∙ ap (map (document_from None)) (front_starts last full.reads.more)) ∙ none)

-- the documents of a text whose events were read to their end
all_read : (text : List ℕ) (given : List (Event × Position)) (fault : Option PlainFault) → AreParsed text given fault
    → AreDocumentsOf text (documents_of (plain_marked given) fault)
all_read text given fault parsed = record { events = given; fault = fault; parsed = parsed; holds = refl }

-- the last batch
pub last_at : (last : Option Position) (fault : Option PlainFault) {text : List ℕ} {given : List (Event × Position)}
    {taken : Input} {given_now : List (Event × Position)} {taken_now : Input} {some : Bool}
    {documents : List PlainDocument} → IsBetween last given → taken ≡ front last
    → IsLast text given taken given_now taken_now some → AreParsed text given_now fault
    → documents ≡ left_documents taken_now fault (is_some last) some
    → IsAt text Ended documents (begun_in None (plain_marked given))
last_at last fault {text} {given} {taken} {given_now} {taken_now} {some} {documents} between in_front end parsed is =
    let before = begun_in None (plain_marked given) in
    let whole = begun_in None end.reads.more in
    let parts = end_last text last given taken given_now taken_now some between in_front end fault parsed.taken in
    record {
      behind = subst (AreDocumentsOf text) (parts.joined ∙ ap (λ (ds : List PlainDocument). before ++ ds) (sym is))
          (all_read text given_now fault parsed);
      next = subst (ComeNext text true before) (sym (is ∙ parts.behind))
          (last_next text before whole parts.rest end.reads.next parts.short);
      none = λ failed. absurd (cc);
    }
