-- An event of documents that stand in a text is not refused.
use Rattle.std.proofs.Common.{◌≡◌, ◌≢◌, ◌≤◌, ◌∷◌, ◌++◌, ◌∙◌, List, [], None, Option, Some, All, ap, arith}
use Rattle.std.proofs.Common.{Err, IfErr, Ok, Result, append_assoc, map, refl, suc, subst, sym, ℕ}
use Rattle.std.proofs.lemmas.List.{map-append}
use Rattle.std.proofs.lemmas.List.Elements.{All-cons, All-head, All-nil, All-tail}
use Rattle.std.specs.Prelude.{IfNone}
use Rattle.std.specs.List.Sorted.{IsNonDecreasingBy}
use Rattle.yaml_base.proofs.StreamMachineLaws.{run_append}
use Rattle.yaml_base.specs.MarkedEvents.{events_in, plain_events, plain_marked}
use Rattle.yaml_base.specs.PlainEvent.{PlainEvent, event_of}
use Rattle.yaml_base.specs.Position.{Position}
use Rattle.yaml_base.specs.StreamMachine.{State, after_stream, before_stream, run}
use Rattle.yaml_base.specs.declared.event.Event.{Event}
use Rattle.yaml_grammar.specs.Documents.{Stands}
use Rattle.yaml_grammar.specs.Nodes.{Document, Marked, events_of}
use Rattle.yaml_parse.specs.Places.{IsInPlace}
use Rattle.yaml_parse.specs.PlainText.{SaysSource}
use Rattle.yaml_tape.specs.OnTape.{position_at}
use Rattle.yaml_tape.specs.declared.entry.Entry.{Entry}
use Rattle.yaml_tape.specs.declared.tape.Tape.{Tape}
use Rattle.yaml_checked.proofs.StandingDocuments.{events_ascend, events_in_place, events_say}
use Rattle.yaml_checked.proofs.StandingTapes.{index_at}
use Rattle.yaml_checked.proofs.StreamEvents.{events_are_a_stream}
use Rattle.yaml_checked.proofs.WayLaws.{are_first}
use Rattle.yaml_checked.specs.OfText.{AreAhead, GoesOn, IsOfText}
use Rattle.yaml_checked.specs.PlainTape.{PlainTape}
use Rattle.yaml_checked.specs.declared.given.Given.{Given}
use Rattle.yaml_checked.specs.declared.place.Refusal.{Refusal}
use Rattle.yaml_checked.specs.declared.place.Refusal.TheVariants as refusal
use Rattle.yaml_checked.specs.declared.rest.Rest.{Rest}
use Rattle.yaml_checked.specs.inner.OnWay.{IsOnWay, event_at, marked_at, marked_from}

-- what holds of all holds of one amid them
all_amid : {X : Type 0} (P : X → Type 0) (xs ys : List X) (y : X) → All P (xs ++ y ∷ ys) → P y
all_amid P [] ys y all = All-head P y ys all
all_amid P (x ∷ xs) ys y all = all_amid P xs ys y (All-tail P x (xs ++ y ∷ ys) all)

-- none of the numbers before one is greater, where they do not fall
rise_tail : {X : Type 0} (f : X → ℕ) (x : X) (xs : List X) → IsNonDecreasingBy f (x ∷ xs) → IsNonDecreasingBy f xs
rise_tail f x xs rise i j d le lt = rise (suc i) (suc j) d (omega (arith, le)) (omega (arith, lt))

first_least : {X : Type 0} (f : X → ℕ) (x : X) (xs ys : List X) (y : X) → IsNonDecreasingBy f (x ∷ (xs ++ y ∷ ys))
    → f x ≤ f y
first_least f x [] ys y rise = rise 0 1 x (omega arith) (omega arith)
first_least f x (z ∷ xs) ys y rise =
    let next : f x ≤ f z = rise 0 1 x (omega arith) (omega arith) in
    let more : f z ≤ f y = first_least f z xs ys y (rise_tail f x (z ∷ (xs ++ y ∷ ys)) rise) in
    omega arith

none_greater : (f : Marked → ℕ) (xs : List (Event × Position)) (ys : List Marked) (y : Marked)
    → IsNonDecreasingBy f (plain_marked xs ++ y ∷ ys) → All (λ e. f (event_of e.0, e.1) ≤ f y) xs
none_greater f [] ys y rise = All-nil _
none_greater f (x ∷ xs) ys y rise =
    All-cons (λ (e : Event × Position). f (event_of e.0, e.1) ≤ f y) x xs
    (first_least f (event_of x.0, x.1) (plain_marked xs) ys y rise)
    (none_greater f xs ys y (rise_tail f (event_of x.0, x.1) (plain_marked xs ++ y ∷ ys) rise))

-- nothing may stand behind what may not stand
run_none : (events : List PlainEvent) → run None events ≡ None
run_none [] = refl
run_none (e ∷ events) = refl

led_on : (events more : List PlainEvent) (e : PlainEvent) (s : State)
    → run (Some before_stream) (events ++ e ∷ more) ≡ Some s → run (Some before_stream) (events ++ e ∷ []) ≢ None
led_on events more e s ran none =
    let parts : run (Some before_stream) (events ++ e ∷ more) ≡ None =
    ap (run (Some before_stream)) (sym (append_assoc events (e ∷ []) more))
    ∙ run_append (events ++ e ∷ []) more (Some before_stream) ∙ ap (λ o. run o more) none ∙ run_none more in
    let bad : Some s ≡ None = sym ran ∙ parts in cc

pub events_alone : (events : List (Event × Position)) → events_in (plain_marked events) ≡ plain_events events
events_alone [] = refl
events_alone (e ∷ events) = ap (λ es. event_of e.0 ∷ es) (events_alone events)

-- An event of documents that stand in a text may come next, says its source, and its mark is in place.
pub record MayCome (text : List ℕ) (given : List (Event × Position)) (m : Marked) : Type 0 where
  pub last : All (λ e. e.1.index ≤ m.1.index) given
  pub next : run (Some before_stream) (plain_events given ++ m.0 ∷ []) ≢ None
  pub says : SaysSource m.0
  pub place : IsInPlace text m.1

may_come : (text : List ℕ) (ds : List Document) (given : List (Event × Position)) (m : Marked) (more : List Marked)
    → Stands text ds → events_of text ds ≡ plain_marked given ++ m ∷ more → MayCome text given m
may_come text ds given m more stand is =
    let before = plain_marked given in
    let all : (P : Marked → Type 0) → All P (events_of text ds) → P m =
    λ P each. all_amid P before more m (subst (All P) is each) in
    let ran : run (Some before_stream) (plain_events given ++ m.0 ∷ map (λ (e : Marked). e.0) more) ≡ Some after_stream =
    ap (λ es. run (Some before_stream) (es ++ m.0 ∷ map (λ (e : Marked). e.0) more)) (sym (events_alone given))
    ∙ ap (run (Some before_stream)) (sym (map-append (λ (e : Marked). e.0) before (m ∷ more)))
    ∙ ap (λ (es : List Marked). run (Some before_stream) (map (λ (e : Marked). e.0) es)) (sym is)
    ∙ events_are_a_stream text ds in
    record {
      last = none_greater (λ (e : Marked). e.1.index) given more m
          (subst (IsNonDecreasingBy (λ (e : Marked). e.1.index)) is (events_ascend text ds stand));
      next = led_on (plain_events given) (map (λ (e : Marked). e.0) more) m.0 after_stream ran;
      says = all (λ (e : Marked). SaysSource e.0) (events_say text ds stand);
      place = all (λ (e : Marked). IsInPlace text e.1) (events_in_place text ds stand);
    }

-- An entry of a tape may come next.
pub record EntryMayCome (t : Tape) (given : List (Event × Position)) (e : Entry) : Type 0 where
  pub last : All (λ x. x.1.index ≤ e.index) given
  pub next : run (Some before_stream) (plain_events given ++ event_at t e ∷ []) ≢ None
  pub says : SaysSource (event_at t e)
  pub place : IsInPlace t.text.now (position_at t.text.now e.index e.late)

-- so may the entry of a tape that comes next
pub entry_may_come : (ds : List Document) (given : List (Event × Position)) (r : Rest) (e : Entry)
    → IsOnWay ds (plain_marked given ++ marked_at r.tape e ∷ []) r → EntryMayCome r.tape given e
entry_may_come ds given r e way =
    let text = r.tape.text.now in
    let m = marked_at r.tape e in
    let here = marked_from r.tape r.next in
    let first = are_first text ds ((plain_marked given ++ m ∷ []) ++ here) r.documents way.stand way.ahead in
    let may : MayCome text given m = may_come text ds given m (here ++ first.0) way.stand
    (first.1 ∙ append_assoc (plain_marked given ++ m ∷ []) here first.0
    ∙ append_assoc (plain_marked given) (m ∷ []) (here ++ first.0)) in
    record {
      last = subst (λ i. All (λ (x : Event × Position). x.1.index ≤ i) given) (index_at text e.index e.late) may.last;
      next = may.next;
      says = may.says;
      place = may.place;
    }

-- the entry was handed out
pub handed_out : (ds : List Document) (given after : List (Event × Position)) (r : Rest) (e : Entry)
    (item : Event × Position) → IsOnWay ds (plain_marked given ++ marked_at r.tape e ∷ []) r → after ≡ given ++ item ∷ []
    → event_of item.0 ≡ event_at r.tape e
    → (IsInPlace r.tape.text.now (position_at r.tape.text.now e.index e.late)
    → item.1 ≡ position_at r.tape.text.now e.index e.late)
    → IsOnWay ds (plain_marked after) r
handed_out ds given after r e item way grown event place =
    let text = r.tape.text.now in
    let there : item.1 ≡ position_at text e.index e.late = place (entry_may_come ds given r e way).place in
    let same : (event_of item.0, item.1) ≡ marked_at r.tape e =
    ap (λ p. (p, item.1)) event ∙ ap (λ (m : Position). (event_at r.tape e, m)) there in
    let all : plain_marked after ≡ plain_marked given ++ marked_at r.tape e ∷ [] =
    ap plain_marked grown
    ∙ map-append (λ (x : Event × Position). (event_of x.0, x.1)) given (item ∷ [])
    ∙ ap (λ x. plain_marked given ++ x ∷ []) same in
    subst (λ l. IsOnWay ds l r) (sym all) way

-- all events of a text are a whole stream
pub whole_stream : (text : List ℕ) (ds : List Document) (given : List (Event × Position))
    → plain_marked given ≡ events_of text ds → run (Some before_stream) (plain_events given) ≡ Some after_stream
whole_stream text ds given is =
    ap (run (Some before_stream)) (sym (events_alone given))
    ∙ ap (λ (es : List Marked). run (Some before_stream) (events_in es)) is ∙ events_are_a_stream text ds

-- what bounds the marks of events bounds that of the last
pub least_to : (before after : List (Event × Position)) (x : Event × Position) (n : ℕ) → after ≡ before ++ x ∷ []
    → All (λ e. e.1.index ≤ n) after → x.1.index ≤ n
least_to before after x n grown all =
    all_amid (λ (e : Event × Position). e.1.index ≤ n) before [] x
    (subst (All (λ (e : Event × Position). e.1.index ≤ n)) grown all)

-- what holds of each refusal holds of the one that was answered
pub each_untrue : {T : Type 0} (result : Result T Refusal) {P : Refusal → Type 0} → ((r : Refusal) → P r)
    → IfErr result P
each_untrue (Ok x) all = tt
each_untrue (Err r) all = all r

-- a refusal that is want of memory, unless that can't be
pub memory_of : (r : Refusal) → (r ≢ refusal.OutOfMemory → ⊥) → r ≡ refusal.OutOfMemory
memory_of refusal.OutOfMemory never = refl
memory_of refusal.Untrue never = absurd (never (λ e. cc))
memory_of refusal.Left never = absurd (never (λ e. cc))

-- where nothing was refused the events of the text are on their way, and where they are they go on
pub on_way : (p : PlainTape) (r : Rest) (ds : List Document) → r.tape.text.now ≡ p.text
    → p.ahead ≡ marked_from r.tape r.next → p.documents ≡ r.documents → p.refused ≡ None → IsOfText p
    → Stands p.text ds → IsOnWay ds (plain_marked p.given) r
on_way p r ds same ahead documents none of_text stand =
    let all : AreAhead p.text ds (plain_marked p.given ++ p.ahead) p.documents =
    subst (λ o. GoesOn p ds o) none (of_text ds stand) in
    record {
      stand = subst (λ t. Stands t ds) (sym same) stand;
      ahead = subst (λ t. AreAhead t ds (plain_marked p.given ++ marked_from r.tape r.next) r.documents) (sym same)
          (subst (AreAhead p.text ds (plain_marked p.given ++ marked_from r.tape r.next)) documents
          (subst (λ l. AreAhead p.text ds (plain_marked p.given ++ l) p.documents) ahead all));
    }

pub goes_on_way : (p : PlainTape) (r : Rest) (ds : List Document) → r.tape.text.now ≡ p.text
    → p.ahead ≡ marked_from r.tape r.next → p.documents ≡ r.documents → p.refused ≡ None
    → IsOnWay ds (plain_marked p.given) r → GoesOn p ds p.refused
goes_on_way p r ds same ahead documents none way =
    let all : AreAhead p.text ds (plain_marked p.given ++ p.ahead) p.documents =
    subst (λ l. AreAhead p.text ds (plain_marked p.given ++ l) p.documents) (sym ahead)
    (subst (AreAhead p.text ds (plain_marked p.given ++ marked_from r.tape r.next)) (sym documents)
    (subst (λ t. AreAhead t ds (plain_marked p.given ++ marked_from r.tape r.next) r.documents) same way.ahead)) in
    subst (λ o. GoesOn p ds o) (sym none) all

-- what is so where there is none, for all documents
pub none_for_all : {A : Type 0} (o : Option A) (P Q : List Document → Type 0)
    → ((ds : List Document) → P ds → IfNone o (Q ds)) → IfNone o ((ds : List Document) → P ds → Q ds)
none_for_all None P Q each = each
none_for_all (Some x) P Q each = tt

-- what is known of events that are handed out, by their parts
abbrev pub parts_view : Given → Rest → Option Refusal → PlainTape
parts_view given r refused = record {
  text = given.text.now;
  given = given.events.items;
  ahead = marked_from r.tape r.next;
  documents = r.documents;
  refused = refused;
}
