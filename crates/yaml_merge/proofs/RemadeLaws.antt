-- A document that is written is made of the tree of the one that it was written from.
use Rattle.std.proofs.Common.{◌≡◌, ◌∷◌, ◌-◌, ◌^◌, ◌≤◌, List, [], Option, None, Some, refl, subst, length, ℕ, arith}
use Rattle.std.proofs.lemmas.List.{length-map}
use Rattle.std.proofs.lemmas.Option.{slice_get_within}
use Rattle.std.specs.Prelude.{map, slice_get}
use Rattle.yaml_base.specs.DocTree.{DocNode, IsTreeOf, events_of}
use Rattle.yaml_base.specs.PlainDocument.{PlainDocument}
use Rattle.yaml_base.specs.MarkedEvents.{events_in}
use Rattle.yaml_base.specs.PlainDocEvent.{PlainDocEvent}
use Rattle.yaml_base.specs.PlainEvent.{PlainEvent}
use Rattle.yaml_base.specs.Position.{Position}
use Rattle.yaml_base.specs.Stream.{stream_events}
use Rattle.yaml_base.specs.Tree.{Node}
use Rattle.yaml_load.proofs.StreamTrees.{documents_of_stream}
use Rattle.yaml_load.specs.Documents.{documents_of}
use Rattle.yaml_load.specs.StreamLaw.{AreDocumentsOfRoots, IsDocumentOf}
use Rattle.yaml_load.specs.Ends.{ends_of}
use Rattle.yaml_load.specs.Resolved.{resolved}
use Rattle.yaml_read.proofs.reading.Shown.{Shows}
use Rattle.yaml_read.proofs.reading.WholeReadings.{shows_list}
use Rattle.yaml_base.specs.DocEventView.{doc_event_of, marked_events_of}
use Rattle.yaml_base.specs.declared.doc_event.DocEvent.{DocEvent}
use Rattle.yaml_merge.specs.MergeKeys.{Events}
use Rattle.yaml_merge.specs.Remade.{IsRemade, meant_number}
use Rattle.yaml_merge.specs.Writing.{Made, target_at}
use Rattle.yaml_merge.proofs.PlacesLaws.{child_shown, of_place, shown_for}

pub is_remade : (document treated : PlainDocument) (root : DocNode) → IsTreeOf document root
    → length document.events ≤ 2 ^ 64 - 1 → (n : Node) (tree : DocNode) → resolved n ≡ Some tree → IsTreeOf treated tree
    → Made document.events (ends_of (map (λ e. e.0) document.events)) n (target_at document.events 0)
    → IsRemade root treated
is_remade document treated root of room n tree resolves is made =
    let shown : Shows (slice_get document.events) 0 (events_of root) =
    subst (Shows (slice_get document.events) 0) of.events (shows_list document.events) in
    let within = slice_get_within document.events in
    let top = child_shown document.events root shown of.known within room of.events 0 root shown in
    record {
      made = n;
      tree = tree;
      top = top.0;
      resolves = resolves;
      is = is;
      means = top.1;
      of_root = of_place document.events root shown of.known within room of.events n (meant_number root 0) top.0
          (shown_for document.events root shown of.known within room of.events n (meant_number root 0) top.0 top.2)
          (subst (Made document.events (ends_of (map (λ e. e.0) document.events)) n) top.3 made);
    }

of_node : (o : Option DocNode) (document : PlainDocument) → IsDocumentOf o document → document.ending ≡ None
    → (tree : DocNode) × (o ≡ Some tree) × IsTreeOf document tree
of_node (Some tree) document is whole = (tree, refl, is)
of_node None document cut whole = let bad = cut.1 in absurd cc

-- the first document of a stream with one node, where nothing cuts it off, is that of the node
pub one_document : (input : List (PlainEvent × Position)) (n : Node) (document : PlainDocument)
    (rest : List PlainDocument) → events_in input ≡ stream_events (n ∷ [])
    → documents_of input None ≡ document ∷ rest → document.ending ≡ None
    → (tree : DocNode) × (resolved n ≡ Some tree) × IsTreeOf document tree
one_document input n document rest is documents whole =
    let are = subst (AreDocumentsOfRoots (n ∷ [])) documents (documents_of_stream (n ∷ []) input is) in
    of_node (resolved n) document are.0 whole

-- the same where the events and their ends are those of a document
pub made_same : (a b : Events) (x y : List ℕ) (n : Node) → a ≡ b → x ≡ y → Made a x n (target_at a 0)
    → Made b y n (target_at b 0)
made_same a b x y n same there h =
    subst (λ e. Made e y n (target_at e 0)) same (subst (λ z. Made a z n (target_at a 0)) there h)

pub long_of : (es : List (DocEvent × Position)) (events : Events) → marked_events_of es ≡ events
    → length es ≤ 2 ^ 64 - 1 → length events ≤ 2 ^ 64 - 1
long_of es events is h =
    subst (λ l. length l ≤ 2 ^ 64 - 1) is
    (omega (arith, h, length-map {B = PlainDocEvent × Position} es (λ (e : DocEvent × Position). (doc_event_of e.0, e.1))))
