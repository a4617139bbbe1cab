-- Each event that may stand where it stands leads the draft on, and where no event is left its documents are all.
use Rattle.std.specs.Prelude.{◌≡◌, ◌+◌, ◌∷◌, ◌++◌}
use Rattle.std.specs.Bool.{beq}
use Rattle.yaml_load.proofs.Words.{ℕ, length, List, [], refl, sym, ◌∙◌, ap, subst, arith, append_assoc, append-nil}
use Rattle.yaml_load.proofs.Words.{Option, Some, None, true, false, Position, PlainEvent, stream_start, document_start}
use Rattle.yaml_load.proofs.Words.{document_end, PlainFault, anchor_at, doc_event_of, Input, anchor_of, anchors_in}
use Rattle.yaml_load.proofs.Words.{body, document_from, document_of, ending_of, find_in, is_document_end, is_ended}
use Rattle.yaml_load.proofs.Words.{unknown_mark, documents_in, PlainDocEvent, DocEvent, Draft, IsDraft, IsDraftBetween}
use Rattle.yaml_load.proofs.Words.{IsTaken, Waiting, drafted, drafts_of, is_of_node, HasNumbers, IsClosedDraft}
use Rattle.yaml_load.proofs.Words.{IsOpenDraft, IsReady, TakesEvent, open_before, open_behind, map, is_some, Bool}
use Rattle.yaml_load.proofs.Words.{option_to_list, after_starts, documents_of, last_mark, void_document, void_documents}
use Rattle.yaml_load.proofs.Words.{PlainDocument, IsOnWay}
use Rattle.yaml_load.proofs.SettledLaws.{ToNodes, nodes_left}
use Rattle.yaml_load.proofs.DraftLaws.{aliases_in_range, as_many, begins_within, draft_more, drafts_long, whole_long}

abbrev NodeFacts : PlainEvent → Type 0
NodeFacts e = (open_before e ≡ true) × (open_behind e ≡ true) × (is_document_end e ≡ false)

node_facts : (e : PlainEvent) → is_of_node e ≡ true → NodeFacts e
node_facts stream_start h = absurd cc
node_facts _ h = (cc, cc, cc)

-- events of nodes end no document
first_ends_none : (e : PlainEvent × Position) (seen : Input) → ToNodes (e ∷ seen) → is_document_end e.0 ≡ false
first_ends_none e seen nodes = (node_facts e.0 (nodes 0 e (omega arith))).2

body_of_nodes : (seen later : Input) → ToNodes seen → body (seen ++ later) ≡ seen ++ body later
body_of_nodes [] later nodes = refl
body_of_nodes (e ∷ seen) later nodes =
    rw (first_ends_none e seen nodes, body_of_nodes seen later (nodes_left e seen nodes))

ended_of_nodes : (seen later : Input) → ToNodes seen → is_ended (seen ++ later) ≡ is_ended later
ended_of_nodes [] later nodes = refl
ended_of_nodes (e ∷ seen) later nodes =
    rw (first_ends_none e seen nodes) (ended_of_nodes seen later (nodes_left e seen nodes))

-- the document of what was seen, and of what is left of it
pub from_body : (fault : Option PlainFault) (seen later : Input) → ToNodes seen → body later ≡ []
    → document_from fault (seen ++ later) ≡ document_of (anchors_in 0 seen) seen (is_ended later) fault
from_body fault seen later nodes b =
    rw (body_of_nodes seen later nodes, b, append-nil seen, ended_of_nodes seen later nodes)

-- where a document has its end, the parser's fault lies elsewhere
no_fault : (unknown : Option Position) (fault : Option PlainFault) → ending_of unknown false None
    ≡ ending_of unknown true fault
no_fault None fault = refl
no_fault (Some mark) fault = refl

module _ {fault : Option PlainFault} {all rest : Input} {mark : Position} {old new : Draft} where
  -- a document begins
  pub on_begin : IsClosedDraft fault all ((document_start, mark) ∷ rest) old
      → IsDraft old.events.items old.ends.numbers [] new → new.cuts ≡ old.cuts → IsOpenDraft fault all rest new
  on_begin h draft cuts = record {
    events = old.events.items;
    numbers = old.ends.numbers;
    seen = [];
    draft = draft;
    cuts = rw cuts h.between.cuts;
    complete = rw (cuts, h.between.shown, append_assoc) h.complete;
  }

  -- the open document goes on
  pub on_node : {e : PlainEvent} → is_of_node e ≡ true → (h : IsOpenDraft fault all ((e, mark) ∷ rest) old)
      → IsDraft h.events h.numbers (h.seen ++ (e, mark) ∷ []) new → new.cuts ≡ old.cuts → IsOpenDraft fault all rest new
  on_node {e} node h draft cuts = record {
    events = h.events;
    numbers = h.numbers;
    seen = h.seen ++ (e, mark) ∷ [];
    draft = draft;
    cuts = rw cuts h.cuts;
    complete = rw (cuts, append_assoc h.seen ((e, mark) ∷ []) rest) (rw (node_facts e node).2 at h.complete);
  }

  -- the open document ends
  pub on_end : (h : IsOpenDraft fault all ((document_end, mark) ∷ rest) old)
      → IsDraftBetween (documents_in h.events old.cuts.items
      ++ document_of (anchors_in 0 h.seen) h.seen false None ∷ []) new
      → IsClosedDraft fault all rest new
  on_end h between = record {
    documents = documents_in h.events old.cuts.items ++ document_of (anchors_in 0 h.seen) h.seen false None ∷ [];
    between = between;
    complete =
        rw (no_fault (unknown_mark (find_in (anchors_in 0 h.seen)) 0 h.seen) fault)
        (rw (from_body fault h.seen ((document_end, mark) ∷ rest) h.draft.nodes refl) at h.complete);
  }

-- an open draft is ready for more
pub ready : {fault : Option PlainFault} {all left : Input} {d : Draft} → IsOpenDraft fault all left d → IsReady d
ready h =
    record { from = begins_within h.draft; numbers = as_many h.draft; within = aliases_in_range h.draft }

-- a draft that takes an event of a node in goes over it
pub takes : (e : PlainEvent) (mark : Position) (old new : Draft) (d : DocEvent) (place : ℕ) → is_of_node e ≡ true
    → old.from + place ≡ length old.events.items → new.from ≡ old.from → new.cuts ≡ old.cuts
    → new.events.items ≡ old.events.items ++ (d, mark) ∷ []
    → new.anchors.named.items ≡ old.anchors.named.items ++ anchor_at (anchor_of e) place
    → ((seen : Input) → old.anchors.named.items ≡ anchors_in 0 seen → place ≡ length seen
    → (here : Waiting) × IsTaken (find_in (anchors_in 0 seen)) place e (doc_event_of d) here
    × (new.anchors.aliases.items ≡ old.anchors.aliases.items ++ here))
    → ((front : List ℕ) (seen : List PlainDocEvent) → HasNumbers front seen old.ends → place ≡ length seen
    → HasNumbers front (seen ++ drafted e ∷ []) new.ends)
    → TakesEvent e mark old new
takes e mark old new d place node there from cuts pushed named taken ends = λ fault all rest way.
    let facts = node_facts e node in
    let h : IsOpenDraft fault all ((e, mark) ∷ rest) old = rw facts.0 at way in
    let at : place ≡ length h.seen = omega (arith, there, whole_long h.draft) in
    let (here, taken', waits) = taken h.seen h.draft.named at in
    rw facts.1 (on_node node h
    (draft_more h.draft new e mark d here node from pushed
    (subst (λ k. IsTaken (find_in (anchors_in 0 h.seen)) k e (doc_event_of d) here) at taken')
    (named ∙ ap (λ k. old.anchors.named.items ++ anchor_at (anchor_of e) k) at) waits
    (ends h.numbers (drafts_of h.seen) h.draft.ends (at ∙ sym (drafts_long h.draft)))) cuts)

-- the documents of all events, where no event is left
pub all_open : (f : PlainFault) (all : Input) (old new : Draft) (h : IsOpenDraft (Some f) all [] old)
    → IsDraftBetween (documents_in h.events old.cuts.items
    ++ document_of (anchors_in 0 h.seen) h.seen false (Some f) ∷ [])
    new
    → IsDraftBetween (documents_of all (Some f)) new
all_open f all old new h between =
    rw (← h.complete.1, ← h.complete.0, from_body (Some f) h.seen [] h.draft.nodes refl, append-nil, append-nil) between

-- a stream without documents has that of an empty stream
no_documents : (starts : List Input) (end : Option Position) (documents : List PlainDocument)
    → documents ≡ map (document_from None) starts → documents ≡ []
    → documents ++ map void_document (option_to_list end)
    ≡ map (document_from None) starts ++ void_documents starts end
no_documents [] end documents is none = rw none
no_documents (s ∷ starts) end documents is none = absurd (let e = sym none ∙ is in cc)

module _ (all : Input) (old : Draft) (h : IsClosedDraft None all [] old) (none : old.cuts.items ≡ []) where
  -- the document of an empty stream is the only one
  alone : h.documents ++ map void_document (option_to_list (last_mark all)) ≡ documents_of all None
  alone =
      no_documents (after_starts false all) (last_mark all) h.documents (sym (append-nil _) ∙ h.complete.0)
      (sym h.between.shown ∙ ap (documents_in old.events.items) none)

  pub all_void : (new : Draft) (mark : Position) → Some mark ≡ last_mark all
      → IsDraftBetween (h.documents ++ void_document mark ∷ []) new → IsDraftBetween (documents_of all None) new
  all_void new mark end between = rw (← alone, ← end) between

-- what is shown of a fault, or of none, and of whether a document is open
pub fault_closes : {opened which : Bool} {fault f : Option PlainFault} (all : Input) (old new : Draft)
    → opened ≡ which → fault ≡ f → (IsOnWay which f all [] old → IsDraftBetween (documents_of all f) new)
    → IsOnWay opened fault all [] old → IsDraftBetween (documents_of all fault) new
fault_closes all old new o is made way = rw is (made (rw (o, is) at way))

-- without a fault no document is open
pub closed_none : (opened : Bool) (fault : Option PlainFault) → fault ≡ None → (opened ≡ true → is_some fault ≡ true)
    → opened ≡ false
closed_none true fault is known = absurd (let some = sym (ap is_some is) ∙ known refl in cc)
closed_none false fault is known = refl

-- two flags that are compared
pub flags_same : (a b : Bool) → beq a b ≡ true → a ≡ b
flags_same true true h = refl
flags_same false false h = refl
flags_same _ _ h = absurd cc

pub flags_differ : (a b : Bool) → beq a b ≡ false → a ≡ b → ⊥
flags_differ true false h e = absurd cc
flags_differ false true h e = absurd cc
flags_differ _ _ h e = absurd cc
