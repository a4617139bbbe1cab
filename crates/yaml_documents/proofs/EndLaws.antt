-- What the events up to the end of the text are cut into.
use Rattle.std.proofs.Common.{◌≡◌, ◌≢◌, List, [], ◌∷◌, ◌++◌, map, refl, sym, ◌∙◌, ap, cond, subst, Bool, true, false}
use Rattle.std.proofs.Common.{Option, Some, None, append-nil, append_assoc, inl, inr, is_some, ℕ}
use Rattle.std.proofs.lemmas.Bool.{cases_Bool}
use Rattle.std.proofs.lemmas.List.{map-append}
use Rattle.yaml_base.proofs.StreamMachineLaws.{whole_run}
use Rattle.yaml_documents.proofs.BatchLaws.{begun_behind, between_closed, closed_at, whole_closed}
use Rattle.yaml_documents.proofs.StartLaws.{documents_append, no_start, one_start, open_append}
use Rattle.yaml_documents.proofs.StateLaws.{run_on}
use Rattle.yaml_documents.specs.inner.Filling.{IsBetween, IsLast, begun_in, front, left_documents}
use Rattle.yaml_documents.specs.inner.Pending.{ComeNext}
use Rattle.yaml_load.proofs.Words.{Event, Input, IsWellFormed, PlainDocument, PlainEvent, PlainFault, Position}
use Rattle.yaml_load.proofs.Words.{after_starts, after_stream, before_stream, between_documents, document_from}
use Rattle.yaml_load.proofs.Words.{documents_of, events_in, failed_document, is_ended, is_open_after, last_mark}
use Rattle.yaml_load.proofs.Words.{plain_events, plain_marked, run, stream_end, void_documents}

-- no document or one
abbrev pub IsShort : List PlainDocument → Type 0
IsShort [] = Unit {0}
IsShort (d ∷ []) = Unit {0}
IsShort (d ∷ e ∷ documents) = ⊥

-- behind documents that come next one may be the last of all
pub last_next : (text : List ℕ) (before documents rest : List PlainDocument) → ComeNext text false before documents
    → IsShort rest → ComeNext text true before (documents ++ rest)
last_next text before [] [] next short = tt
last_next text before [] (d ∷ []) next short = (λ over. absurd (cc), tt)
last_next text before [] (d ∷ e ∷ rest) next short = absurd short
last_next text before (d ∷ documents) rest next short =
    (λ _. next.0 refl, last_next text (before ++ d ∷ []) documents rest next.1 short)

-- no document begins in what a loader takes in front, and none is open behind it
pub front_starts : (last : Option Position) (more : Input)
    → after_starts false (front last ++ more) ≡ after_starts false more
front_starts None more = refl
front_starts (Some mark) more = refl

front_open : (last : Option Position) (more : Input)
    → is_open_after false (front last ++ more) ≡ is_open_after false more
front_open None more = refl
front_open (Some mark) more = refl

-- a stream in which a document begins has no void document
no_void : (fault : Option PlainFault) (starts : List Input) (end : Option Position) (documents : List PlainDocument)
    → map (document_from fault) starts ≡ documents → documents ≢ []
    → map (document_from fault) starts ++ void_documents starts end ≡ documents
no_void fault [] end documents is some = absurd (some (sym is))
no_void fault (s ∷ starts) end documents is some = append-nil (map (document_from fault) (s ∷ starts)) ∙ is

-- the documents behind which a stream of its own ends, with an end of the stream or not
pub end_documents : (input : Input) (mark : Position)
    → run (Some before_stream) (events_in input) ≡ Some between_documents → begun_in None input ≢ []
    → documents_of (input ++ (stream_end, mark) ∷ []) None ≡ begun_in None input
end_documents input mark ran some =
    let all = input ++ (stream_end, mark) ∷ [] in
    no_void None (after_starts false all) (last_mark all) (begun_in None input)
    (documents_append None input ((stream_end, mark) ∷ []) (closed_at input between_documents ran refl)
    ∙ append-nil (begun_in None input)) some

pub end_well_formed : (input : Input) (mark : Position)
    → run (Some before_stream) (events_in input) ≡ Some between_documents
    → IsWellFormed false (events_in (input ++ (stream_end, mark) ∷ []))
end_well_formed input mark ran =
    let es : events_in (input ++ (stream_end, mark) ∷ []) ≡ events_in input ++ stream_end ∷ [] =
    map-append (λ (e : PlainEvent × Position). e.0) input ((stream_end, mark) ∷ []) in
    subst (IsWellFormed false) (sym es)
    ((whole_run (events_in input ++ stream_end ∷ [])).1 (run_on (events_in input) stream_end between_documents ran))

-- The last documents stand behind whole ones, at most one of them besides, and are with those before them all.
pub record AreLast (before whole last all : List PlainDocument) : Type 0 where
  pub rest : List PlainDocument
  pub short : IsShort rest
  pub behind : last ≡ whole ++ rest
  pub joined : all ≡ before ++ last

pub some_behind : (before documents : List PlainDocument) → documents ≢ [] → before ++ documents ≢ []
some_behind [] documents some none = some none
some_behind (d ∷ before) documents some none = cc

-- the document of a fault that lies in no other, and what a fault leaves of events in which no document ends
abbrev failed_where : PlainFault → Bool → List PlainDocument
failed_where f opened = cond opened [] (failed_document f ∷ [])

abbrev cut_off : PlainFault → Input → List PlainDocument
cut_off f rest = begun_in (Some f) rest ++ failed_where f (is_open_after false rest)

cut_off_is : (f : PlainFault) (rest : Input) (starts : List Input) (opened : Bool) → after_starts false rest ≡ starts
    → is_open_after false rest ≡ opened → cut_off f rest ≡ map (document_from (Some f)) starts ++ failed_where f opened
cut_off_is f rest starts opened is open_is =
    ap (λ (l : List Input). map (document_from (Some f)) l ++ failed_where f (is_open_after false rest)) is
    ∙ ap (λ (b : Bool). map (document_from (Some f)) starts ++ failed_where f b) open_is

cut_off_short : (f : PlainFault) (rest : Input) → is_ended rest ≡ false → IsShort (cut_off f rest)
cut_off_short f rest unended =
    elim (cases_Bool (is_open_after false rest)) [
      | inl yes_ ↦
          let one = one_start rest unended yes_ in
          subst IsShort (sym (cut_off_is f rest (one.0 ∷ []) true one.1 yes_)) tt
      | inr no_ ↦ subst IsShort (sym (cut_off_is f rest [] false (no_start rest unended no_) no_)) tt
    ]

-- the documents of an empty stream are at most one
void_short : (end : Option Position) → IsShort (void_documents [] end)
void_short None = tt
void_short (Some mark) = tt

-- Events of a batch up to the end of the text.
module _ (text : List ℕ) (last : Option Position) (given : List (Event × Position)) (taken : Input)
    (given_now : List (Event × Position)) (taken_now : Input) (some : Bool) (between : IsBetween last given)
    (in_front : taken ≡ front last) (end : IsLast text given taken given_now taken_now some) where
  abbrev read : Input
  read = end.reads.more

  abbrev rest : Input
  rest = end.on.more

  abbrev before : List PlainDocument
  before = begun_in None (plain_marked given)

  abbrev whole : List PlainDocument
  whole = begun_in None read

  closed : is_open_after false (plain_marked given) ≡ false
  closed = between_closed last given between

  given_begun : (fault : Option PlainFault)
      → begun_in fault (plain_marked given_now) ≡ before ++ whole ++ begun_in fault rest
  given_begun fault =
      ap (begun_in fault) end.on.given_more
      ∙ begun_behind fault text given taken end.given_whole end.taken_whole closed end.reads rest

  given_open : is_open_after false (plain_marked given_now) ≡ is_open_after false rest
  given_open =
      ap (is_open_after false) end.on.given_more ∙ open_append false (plain_marked end.given_whole) rest
      ∙ ap (λ o. is_open_after o rest) (whole_closed text given taken end.given_whole end.taken_whole closed end.reads)

  taken_is : taken_now ≡ front last ++ (read ++ rest)
  taken_is =
      end.on.taken_more
      ∙ ap (λ (es : Input). es ++ rest) (end.reads.taken_more ∙ ap (λ (es : Input). es ++ read) in_front)
      ∙ append_assoc (front last) read rest

  taken_starts : after_starts false taken_now ≡ after_starts false (read ++ rest)
  taken_starts = ap (after_starts false) taken_is ∙ front_starts last (read ++ rest)

  taken_begun : (fault : Option PlainFault) → begun_in fault taken_now ≡ whole ++ begun_in fault rest
  taken_begun fault = ap (map (document_from fault)) taken_starts ∙ documents_append fault read rest end.reads.closed

  taken_open : is_open_after false taken_now ≡ is_open_after false rest
  taken_open =
      ap (is_open_after false) taken_is ∙ front_open last (read ++ rest) ∙ open_append false read rest
      ∙ ap (λ o. is_open_after o rest) end.reads.closed

  -- with a fault
  faulted_left : (f : PlainFault) → documents_of taken_now (Some f) ≡ whole ++ cut_off f rest
  faulted_left f =
      ap (λ (ds : List PlainDocument). ds ++ failed_where f (is_open_after false taken_now)) (taken_begun (Some f))
      ∙ ap (λ (b : Bool). whole ++ begun_in (Some f) rest ++ failed_where f b) taken_open
      ∙ append_assoc whole (begun_in (Some f) rest) (failed_where f (is_open_after false rest))

  faulted_last : (f : PlainFault)
      → AreLast before whole (documents_of taken_now (Some f)) (documents_of (plain_marked given_now) (Some f))
  faulted_last f = record {
    rest = cut_off f rest;
    short = cut_off_short f rest end.on.ends;
    behind = faulted_left f;
    joined = ap (λ (ds : List PlainDocument). ds ++ failed_where f (is_open_after false (plain_marked given_now)))
        (given_begun (Some f))
        ∙ ap (λ (b : Bool). before ++ whole ++ begun_in (Some f) rest ++ failed_where f b) given_open
        ∙ append_assoc (before ++ whole) (begun_in (Some f) rest) (failed_where f (is_open_after false rest))
        ∙ append_assoc before whole (cut_off f rest)
        ∙ ap (λ (ds : List PlainDocument). before ++ ds) (sym (faulted_left f));
  }

  -- without, where the stream is whole
  module _ (w : IsWellFormed false (plain_events given_now)) where
    no_rest : after_starts false rest ≡ []
    no_rest =
        no_start rest end.on.ends
        (sym taken_open ∙ closed_at taken_now after_stream (end.on.agree ∙ (whole_run (plain_events given_now)).0 w)
        refl)

    taken_whole : begun_in None taken_now ≡ whole
    taken_whole =
        taken_begun None ∙ ap (λ (l : List Input). whole ++ map (document_from None) l) no_rest ∙ append-nil whole

    given_whole : begun_in None (plain_marked given_now) ≡ before ++ whole
    given_whole =
        given_begun None ∙ ap (λ (l : List Input). before ++ whole ++ map (document_from None) l) no_rest
        ∙ append-nil (before ++ whole)

    whole_left : whole ≢ [] → documents_of taken_now None ≡ whole
    whole_left there = no_void None (after_starts false taken_now) (last_mark taken_now) whole taken_whole there

    -- behind documents of the batch
    whole_last : whole ≢ []
        → AreLast before whole (documents_of taken_now None) (documents_of (plain_marked given_now) None)
    whole_last there = record {
      rest = [];
      short = tt;
      behind = whole_left there ∙ sym (append-nil whole);
      joined = no_void None (after_starts false (plain_marked given_now)) (last_mark (plain_marked given_now))
          (before ++ whole) given_whole (some_behind before whole there)
          ∙ ap (λ (ds : List PlainDocument). before ++ ds) (sym (whole_left there));
    }

    -- behind those of batches before
    before_last : read ≡ [] → before ≢ [] → AreLast before whole [] (documents_of (plain_marked given_now) None)
    before_last none there =
        let no_whole : whole ≡ [] = ap (begun_in None) none in
        record {
          rest = [];
          short = tt;
          behind = sym (append-nil whole ∙ no_whole);
          joined =
              no_void None (after_starts false (plain_marked given_now)) (last_mark (plain_marked given_now)) before
              (given_whole ∙ ap (λ (ds : List PlainDocument). before ++ ds) no_whole ∙ append-nil before) there
              ∙ sym (append-nil before);
        }

    -- behind none
    void_left : read ≡ [] → documents_of taken_now None ≡ void_documents [] (last_mark taken_now)
    void_left none =
        ap (λ (l : List Input). map (document_from None) l ++ void_documents l (last_mark taken_now))
        (taken_starts ∙ ap (λ (es : Input). after_starts false (es ++ rest)) none ∙ no_rest)

-- the documents that are left are the last, wherever the batch begins and whether or not documents ended in it
pub end_last : (text : List ℕ) (last : Option Position) (given : List (Event × Position)) (taken : Input)
    (given_now : List (Event × Position)) (taken_now : Input) (some : Bool) (between : IsBetween last given)
    (in_front : taken ≡ front last) (end : IsLast text given taken given_now taken_now some) (fault : Option PlainFault)
    → IsWellFormed (is_some fault) (plain_events given_now)
    → AreLast (begun_in None (plain_marked given)) (begun_in None end.reads.more)
    (left_documents taken_now fault (is_some last) some) (documents_of (plain_marked given_now) fault)
end_last text last given taken given_now taken_now some between in_front end (Some f) w =
    faulted_last text last given taken given_now taken_now some between in_front end f
end_last text None given taken given_now taken_now true between in_front end None w =
    whole_last text None given taken given_now taken_now true between in_front end w end.are_some
end_last text (Some mark) given taken given_now taken_now true between in_front end None w =
    whole_last text (Some mark) given taken given_now taken_now true between in_front end w end.are_some
end_last text (Some mark) given taken given_now taken_now false between in_front end None w =
    before_last text (Some mark) given taken given_now taken_now false between in_front end w end.are_some between.1
end_last text None given taken given_now taken_now false between in_front end None w =
    let no_before : begun_in None (plain_marked given) ≡ [] =
    ap (λ (es : List (Event × Position)). begun_in None (plain_marked es)) between in
    let no_whole : begun_in None end.reads.more ≡ [] = ap (begun_in None) end.are_some in
    let same : plain_marked given_now ≡ taken_now =
    end.on.given_more ∙ ap (λ (es : Input). es ++ end.on.more) (end.reads.given_more
    ∙ ap (λ (es : List (Event × Position)). plain_marked es ++ end.reads.more) between)
    ∙ sym (end.on.taken_more ∙ ap (λ (es : Input). es ++ end.on.more) (end.reads.taken_more
    ∙ ap (λ (es : Input). es ++ end.reads.more) in_front)) in
    record {
      rest = documents_of taken_now None;
      short = subst IsShort
          (sym (void_left text None given taken given_now taken_now false between in_front end w end.are_some))
          (void_short (last_mark taken_now));
      behind = ap (λ (ds : List PlainDocument). ds ++ documents_of taken_now None) (sym no_whole);
      joined = ap (λ (es : Input). documents_of es None) same
          ∙ ap (λ (ds : List PlainDocument). ds ++ documents_of taken_now None) (sym no_before);
    }
