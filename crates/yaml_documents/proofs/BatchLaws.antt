-- Documents that are read into a batch, one behind another.
use Rattle.std.proofs.Common.{◌≡◌, ◌≢◌, List, [], ◌∷◌, ◌++◌, refl, sym, ◌∙◌, ap, subst, false, true, Option, Some, None}
use Rattle.std.proofs.Common.{append-nil, append_assoc, IfSome, map, ℕ}
use Rattle.std.proofs.lemmas.List.{map-append}
use Rattle.yaml_base.proofs.StreamMachineLaws.{goes_on_run}
use Rattle.yaml_documents.proofs.StartLaws.{documents_append, ended_start, open_append}
use Rattle.yaml_documents.proofs.StateLaws.{before_last, behind_end, open_state}
use Rattle.yaml_documents.specs.FirstDocuments.{AreFirstDocumentsOf}
use Rattle.yaml_documents.specs.TextEvents.{AreEventsOf}
use Rattle.yaml_documents.specs.inner.Filling.{Agree, IsBetween, IsFull, IsLast, ReadsOn, ReadsWhole, begun_in}
use Rattle.yaml_documents.specs.inner.Pending.{ComeNext}
use Rattle.yaml_load.proofs.Words.{Event, Input, PlainDocument, PlainEvent, PlainFault, Position, State, before_stream}
use Rattle.yaml_load.proofs.Words.{between_documents, document_end, document_from, events_in, is_inside}
use Rattle.yaml_load.proofs.Words.{is_open_after, next_state, plain_events, plain_marked, run}
use Rattle.yaml_load.proofs.WrongPlaces.{events_of_marked}

-- a document alone
abbrev pub IsOne : List PlainDocument → Type 0
IsOne documents = (d : PlainDocument) × (documents ≡ d ∷ [])

-- one document more is never none
pub some_more : (documents : List PlainDocument) (d : PlainDocument) → documents ++ d ∷ [] ≢ []
some_more [] d none = cc
some_more (e ∷ documents) d none = cc

-- no document is open where events lead to a state that is in none
pub closed_at : (input : Input) (s : State) → run (Some before_stream) (events_in input) ≡ Some s → is_inside s ≡ false
    → is_open_after false input ≡ false
closed_at input s ran outside = open_state before_stream input s ran ∙ outside

-- the same of events of a text, behind a document
closed_behind : (given : List (Event × Position))
    → run (Some before_stream) (plain_events given) ≡ Some between_documents
    → is_open_after false (plain_marked given) ≡ false
closed_behind given ran =
    closed_at (plain_marked given) between_documents (ap (run (Some before_stream)) (events_of_marked given) ∙ ran) refl

-- between two batches no document is open
pub between_closed : (last : Option Position) (given : List (Event × Position)) → IsBetween last given
    → is_open_after false (plain_marked given) ≡ false
between_closed None given h = ap (λ (es : List (Event × Position)). is_open_after false (plain_marked es)) h
between_closed (Some mark) given h = closed_behind given h.0

-- one document more comes next
next_more : (text : List ℕ) (before documents : List PlainDocument) (d : PlainDocument)
    → ComeNext text false before documents → AreFirstDocumentsOf text (before ++ documents ++ d ∷ [])
    → ComeNext text false before (documents ++ d ∷ [])
next_more text before [] d next first =
    (λ _. subst (λ (ds : List PlainDocument). AreFirstDocumentsOf text (ds ++ d ∷ [])) (append-nil before) first, tt)
next_more text before (e ∷ documents) d next first = (
  λ _. next.0 refl,
  next_more text (before ++ e ∷ []) documents d next.1
      (subst (λ (ds : List PlainDocument). AreFirstDocumentsOf text (ds ++ d ∷ []))
      (sym (append_assoc before (e ∷ []) documents)) first),
)

-- no document was read
abbrev reads_none : (text : List ℕ) (given : List (Event × Position)) (taken : Input) → Agree given taken
    → ReadsWhole text given taken given taken
reads_none text given taken agree = record {
  more = [];
  given_more = sym (append-nil (plain_marked given));
  taken_more = sym (append-nil taken);
  agree = agree;
  closed = refl;
  next = tt;
}

-- what begins in events behind those of whole documents
pub begun_behind : (fault : Option PlainFault) (text : List ℕ) (given : List (Event × Position)) (taken : Input)
    (given_now : List (Event × Position)) (taken_now : Input) → is_open_after false (plain_marked given) ≡ false
    → (reads : ReadsWhole text given taken given_now taken_now) (more : Input)
    → begun_in fault (plain_marked given_now ++ more)
    ≡ begun_in None (plain_marked given) ++ begun_in None reads.more ++ begun_in fault more
begun_behind fault text given taken given_now taken_now closed reads more =
    ap (λ (es : Input). begun_in fault (es ++ more)) reads.given_more
    ∙ ap (begun_in fault) (append_assoc (plain_marked given) reads.more more)
    ∙ documents_append fault (plain_marked given) (reads.more ++ more) closed
    ∙ ap (λ (ds : List PlainDocument). begun_in None (plain_marked given) ++ ds)
    (documents_append fault reads.more more reads.closed)
    ∙ sym (append_assoc (begun_in None (plain_marked given)) (begun_in None reads.more) (begun_in fault more))

-- no document is open behind whole documents
pub whole_closed : (text : List ℕ) (given : List (Event × Position)) (taken : Input)
    (given_now : List (Event × Position)) (taken_now : Input) → is_open_after false (plain_marked given) ≡ false
    → ReadsWhole text given taken given_now taken_now → is_open_after false (plain_marked given_now) ≡ false
whole_closed text given taken given_now taken_now closed reads =
    ap (is_open_after false) reads.given_more ∙ open_append false (plain_marked given) reads.more
    ∙ ap (λ o. is_open_after o reads.more) closed ∙ reads.closed

-- Behind whole documents one more was read.
module _ (text : List ℕ) (given : List (Event × Position)) (taken : Input) (given_whole : List (Event × Position))
    (taken_whole : Input) (closed : is_open_after false (plain_marked given) ≡ false)
    (reads : ReadsWhole text given taken given_whole taken_whole) (mark : Position)
    (given_now : List (Event × Position)) (taken_now : Input)
    (on : ReadsOn given_whole taken_whole given_now taken_now (Some mark)) (of_text : AreEventsOf text given_now) where
  abbrev inner : Input
  inner = on.ends.0

  given_is : plain_events given_now ≡ events_in (plain_marked given_whole ++ inner) ++ document_end ∷ []
  given_is =
      sym (events_of_marked given_now)
      ∙ ap events_in (on.given_more ∙ ap (λ (es : Input). plain_marked given_whole ++ es) on.ends.2
      ∙ sym (append_assoc (plain_marked given_whole) inner ((document_end, mark) ∷ [])))
      ∙ map-append (λ (e : PlainEvent × Position). e.0) (plain_marked given_whole ++ inner) ((document_end, mark) ∷ [])

  ran_now : (s : State) × (run (Some before_stream) (plain_events given_now) ≡ Some s)
  ran_now = let led = (goes_on_run (plain_events given_now)).0 of_text.begins in (led.0, led.1)

  ran_inner : (s : State) × (run (Some before_stream) (events_in (plain_marked given_whole ++ inner)) ≡ Some s)
      × (next_state s document_end ≡ Some ran_now.0)
  ran_inner =
      before_last (events_in (plain_marked given_whole ++ inner)) document_end ran_now.0
      (run (Some before_stream) (events_in (plain_marked given_whole ++ inner))) refl
      (sym (ap (run (Some before_stream)) given_is) ∙ ran_now.1)

  ends_between : (ran_now.0 ≡ between_documents) × (is_inside ran_inner.0 ≡ true)
  ends_between = behind_end ran_inner.0 ran_now.0 ran_inner.2

  between : run (Some before_stream) (plain_events given_now) ≡ Some between_documents
  between = ran_now.1 ∙ ap Some ends_between.0

  -- the document is open in front of its end
  open_inner : is_open_after false inner ≡ true
  open_inner =
      sym (open_append false (plain_marked given_whole) inner
      ∙ ap (λ o. is_open_after o inner) (whole_closed text given taken given_whole taken_whole closed reads))
      ∙ open_state before_stream (plain_marked given_whole ++ inner) ran_inner.0 ran_inner.1 ∙ ends_between.1

  one : IsOne (begun_in None on.more)
  one =
      let start = ended_start inner (document_end, mark) on.ends.1 open_inner refl in
      (_, ap (begun_in None) on.ends.2 ∙ ap (map (document_from None)) start.1)

  begun_now : begun_in None (plain_marked given_now)
      ≡ begun_in None (plain_marked given) ++ begun_in None reads.more ++ one.0 ∷ []
  begun_now =
      ap (begun_in None) on.given_more
      ∙ begun_behind None text given taken given_whole taken_whole closed reads on.more
      ∙ ap (λ (ds : List PlainDocument). begun_in None (plain_marked given) ++ begun_in None reads.more ++ ds) one.1

  begun_more : begun_in None (reads.more ++ on.more) ≡ begun_in None reads.more ++ one.0 ∷ []
  begun_more =
      documents_append None reads.more on.more reads.closed
      ∙ ap (λ (ds : List PlainDocument). begun_in None reads.more ++ ds) one.1

  closed_more : is_open_after false (reads.more ++ on.more) ≡ false
  closed_more =
      open_append false reads.more on.more ∙ ap (λ o. is_open_after o on.more) reads.closed
      ∙ ap (is_open_after false) on.ends.2 ∙ open_append false inner ((document_end, mark) ∷ [])
      ∙ ap (λ o. is_open_after o ((document_end, mark) ∷ [])) open_inner

  first : AreFirstDocumentsOf text (begun_in None (plain_marked given) ++ begun_in None reads.more ++ one.0 ∷ [])
  first =
      record { events = given_now; of_text = of_text; closed = closed_behind given_now between; cut = sym begun_now }

  pub reads_one_more : IsFull text given taken given_now taken_now
  reads_one_more = record {
    reads = record {
      more = reads.more ++ on.more;
      given_more = on.given_more ∙ ap (λ (es : Input). es ++ on.more) reads.given_more
          ∙ append_assoc (plain_marked given) reads.more on.more;
      taken_more = on.taken_more ∙ ap (λ (es : Input). es ++ on.more) reads.taken_more
          ∙ append_assoc taken reads.more on.more;
      agree = on.agree;
      closed = closed_more;
      next = subst (ComeNext text false (begun_in None (plain_marked given))) (sym begun_more)
          (next_more text (begun_in None (plain_marked given)) (begun_in None reads.more) one.0 reads.next first);
    };
    between = between;
    some = λ none. some_more (begun_in None reads.more) one.0 (sym begun_more ∙ none);
  }

-- the first document of a batch was read
pub reads_first : {text : List ℕ} {given : List (Event × Position)} {taken : Input}
    {given_now : List (Event × Position)}
    {taken_now : Input} {end : Option Position} {mark : Position} → is_open_after false (plain_marked given) ≡ false
    → Agree given taken → end ≡ Some mark → ReadsOn given taken given_now taken_now end
    → IfSome end (λ _. AreEventsOf text given_now) → IsFull text given taken given_now taken_now
reads_first {text} {given} {taken} {given_now} {taken_now} {end} {mark} closed agree is on of_text =
    reads_one_more text given taken given taken closed (reads_none text given taken agree) mark given_now taken_now
    (subst (ReadsOn given taken given_now taken_now) is on)
    (subst (λ (o : Option Position). IfSome o (λ _. AreEventsOf text given_now)) is of_text)

-- a further one was read
pub reads_next : {text : List ℕ} {given : List (Event × Position)} {taken : Input}
    {given_whole : List (Event × Position)}
    {taken_whole : Input} {given_now : List (Event × Position)} {taken_now : Input} {end : Option Position}
    {mark : Position} → is_open_after false (plain_marked given) ≡ false
    → IsFull text given taken given_whole taken_whole → end ≡ Some mark
    → ReadsOn given_whole taken_whole given_now taken_now end → IfSome end (λ _. AreEventsOf text given_now)
    → IsFull text given taken given_now taken_now
reads_next {text} {given} {taken} {given_whole} {taken_whole} {given_now} {taken_now} {end} {mark} closed full is on
    of_text =
    reads_one_more text given taken given_whole taken_whole closed full.reads mark given_now taken_now
    (subst (ReadsOn given_whole taken_whole given_now taken_now) is on)
    (subst (λ (o : Option Position). IfSome o (λ _. AreEventsOf text given_now)) is of_text)

-- no document of the batch ended before the events did
pub last_alone : {text : List ℕ} {given : List (Event × Position)} {taken : Input} {given_now : List (Event × Position)}
    {taken_now : Input} {end : Option Position} → Agree given taken → end ≡ None
    → ReadsOn given taken given_now taken_now end → IsLast text given taken given_now taken_now false
last_alone {text} {given} {taken} {given_now} {taken_now} agree is on = record {
  given_whole = given;
  taken_whole = taken;
  reads = reads_none text given taken agree;
  are_some = refl;
  on = subst (ReadsOn given taken given_now taken_now) is on;
}

-- some ended before
pub last_behind : {text : List ℕ} {given : List (Event × Position)} {taken : Input}
    {given_whole : List (Event × Position)} {taken_whole : Input} {given_now : List (Event × Position)}
    {taken_now : Input} {end : Option Position} → IsFull text given taken given_whole taken_whole → end ≡ None
    → ReadsOn given_whole taken_whole given_now taken_now end → IsLast text given taken given_now taken_now true
last_behind {text} {given} {taken} {given_whole} {taken_whole} {given_now} {taken_now} full is on = record {
  given_whole = given_whole;
  taken_whole = taken_whole;
  reads = full.reads;
  are_some = full.some;
  on = subst (ReadsOn given_whole taken_whole given_now taken_now) is on;
}
