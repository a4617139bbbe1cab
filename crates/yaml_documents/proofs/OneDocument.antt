-- The one document of a tape, and its tree.
use Rattle.std.proofs.Common.{◌≡◌, ◌+◌, ◌∷◌, ◌++◌, ◌∙◌, [], List, None, Option, Some, ap, arith, drop, false, length}
use Rattle.std.proofs.Common.{length-append, length-drop, map, refl, subst, suc, sym, take, true, true≢false, zero, ℕ}
use Rattle.std.proofs.lemmas.List.{drop_all, length-map, map-append, take-append-drop}
use Rattle.std.proofs.lemmas.Option.{none-some}
use Rattle.std.specs.Prelude.{Bool, slice_get, unwrap_or}
use Rattle.yaml_base.specs.DocTree.{DocNode, IsTreeOf, events_of}
use Rattle.yaml_base.specs.MarkedEvents.{events_in}
use Rattle.yaml_base.specs.PlainDocEvent.{PlainDocEvent, alias_to}
use Rattle.yaml_base.specs.PlainDocument.{PlainDocument}
use Rattle.yaml_base.specs.PlainEvent.{PlainEvent, alias, document_end, document_start, mapping_end, mapping_start}
use Rattle.yaml_base.specs.PlainEvent.{scalar, sequence_end, sequence_start, stream_end, stream_start}
use Rattle.yaml_base.specs.Position.{Position}
use Rattle.yaml_base.specs.Stream.{IsStream}
use Rattle.yaml_documents.proofs.NodeStreams.{AreOf, is_stream}
use Rattle.yaml_documents.specs.OnlyDocument.{IsOnlyDocument}
use Rattle.yaml_load.specs.Documents.{Find, Input, after_starts, anchors_in, becomes, body, document_from, documents_of}
use Rattle.yaml_load.specs.Documents.{find_in, is_document_end, is_ended, known_events, node_event, unknown_mark}
use Rattle.yaml_tape.specs.OnDocs.{doc_by, doc_event_by}
use Rattle.yaml_tape.specs.OnTape.{event_by, marked_by, position_at}
use Rattle.yaml_tape.specs.Pushes.{marked_on}
use Rattle.yaml_tape.specs.declared.entry.Entry.{Entry}
use Rattle.yaml_tape.specs.declared.entry.EntryKind.{EntryKind}
use Rattle.yaml_tape.specs.declared.entry.EntryKind.TheVariants as kind
use Rattle.yaml_tape.specs.declared.entry.Names.{Names}
use Rattle.yaml_tape.specs.declared.tape.Tape.{Tape}

-- an event that is part of a node, and no alias, becomes the same wherever it stands, and ends no document
becomes_same : (find : Find) (k : ℕ) (e : PlainEvent) (d : PlainDocEvent) → node_event e ≡ Some d
    → becomes find k e ≡ Some d
becomes_same find k (alias anchor) d h = absurd (none-some d h)
becomes_same find k (scalar s) d h = h
becomes_same find k (sequence_start anchor tag) d h = h
becomes_same find k sequence_end d h = h
becomes_same find k (mapping_start anchor tag) d h = h
becomes_same find k mapping_end d h = h
becomes_same find k stream_start d h = h
becomes_same find k stream_end d h = h
becomes_same find k document_start d h = h
becomes_same find k document_end d h = h

no_end : (e : PlainEvent) (d : PlainDocEvent) → node_event e ≡ Some d → is_document_end e ≡ false
no_end document_end d h = absurd (none-some d h)
no_end (alias anchor) d h = refl
no_end (scalar s) d h = refl
no_end (sequence_start anchor tag) d h = refl
no_end sequence_end d h = refl
no_end (mapping_start anchor tag) d h = refl
no_end mapping_end d h = refl
no_end stream_start d h = refl
no_end stream_end d h = refl
no_end document_start d h = refl

-- no such event is an alias
abbrev is_alias : Option PlainDocEvent → Bool
is_alias (Some (alias_to j)) = true
is_alias _ = false

no_alias : (e : PlainEvent) → is_alias (node_event e) ≡ false
no_alias (alias anchor) = refl
no_alias (scalar s) = refl
no_alias (sequence_start anchor tag) = refl
no_alias sequence_end = refl
no_alias (mapping_start anchor tag) = refl
no_alias mapping_end = refl
no_alias stream_start = refl
no_alias stream_end = refl
no_alias document_start = refl
no_alias document_end = refl

-- the events of the node, each with its mark
abbrev AreMarked : Input → List PlainDocEvent → Type 0
AreMarked es ds = AreOf (map (λ (e : PlainEvent × Position). e.0) es) ds

body_is : (es : Input) (ds : List PlainDocEvent) (c : Position) (rest : Input) → AreMarked es ds
    → body (es ++ (document_end, c) ∷ rest) ≡ es
body_is [] [] c rest h = refl
body_is [] (d ∷ ds) c rest h = absurd h
body_is (e ∷ es) [] c rest h = absurd h
body_is (e ∷ es) (d ∷ ds) c rest h = rw (no_end e.0 d h.0) (ap (λ x. e ∷ x) (body_is es ds c rest h.1))

ended : (es : Input) (ds : List PlainDocEvent) (c : Position) (rest : Input) → AreMarked es ds
    → is_ended (es ++ (document_end, c) ∷ rest) ≡ true
ended [] [] c rest h = refl
ended [] (d ∷ ds) c rest h = absurd h
ended (e ∷ es) [] c rest h = absurd h
ended (e ∷ es) (d ∷ ds) c rest h = rw (no_end e.0 d h.0) (ended es ds c rest h.1)

known_are : (find : Find) (k : ℕ) (es : Input) (ds : List PlainDocEvent) → AreMarked es ds
    → map (λ e. e.0) (known_events find k es) ≡ ds
known_are find k [] [] h = refl
known_are find k [] (d ∷ ds) h = absurd h
known_are find k (e ∷ es) [] h = absurd h
known_are find k (e ∷ es) (d ∷ ds) h =
    rw (becomes_same find k e.0 d h.0) (ap (λ x. d ∷ x) (known_are find (k + 1) es ds h.1))

none_unknown : (find : Find) (k : ℕ) (es : Input) (ds : List PlainDocEvent) → AreMarked es ds
    → unknown_mark find k es ≡ None
none_unknown find k [] [] h = refl
none_unknown find k [] (d ∷ ds) h = absurd h
none_unknown find k (e ∷ es) [] h = absurd h
none_unknown find k (e ∷ es) (d ∷ ds) h = rw (becomes_same find k e.0 d h.0) (none_unknown find (k + 1) es ds h.1)

none_alias : (find : Find) (k : ℕ) (es : Input) (ds : List PlainDocEvent) (p j : ℕ) (mark : Position)
    → AreMarked es ds → slice_get (known_events find k es) p ≡ Some (alias_to j, mark) → ⊥
none_alias find k [] [] p j mark h g = none-some _ g
none_alias find k [] (d ∷ ds) p j mark h g = absurd h
none_alias find k (e ∷ es) [] p j mark h g = absurd h
none_alias find k (e ∷ es) (d ∷ ds) zero j mark h g =
    let there = rw (becomes_same find k e.0 d h.0) at g in
    let same : d ≡ alias_to j = ap (λ o. (unwrap_or {T = PlainDocEvent × Position} o (d, mark)).0) there in
    true≢false (sym (ap is_alias (h.0 ∙ ap Some same)) ∙ no_alias e.0)
none_alias find k (e ∷ es) (d ∷ ds) (suc q) j mark h g =
    none_alias find (k + 1) es ds q j mark h.1 (rw (becomes_same find k e.0 d h.0) at g)

after_open : (es : Input) (ds : List PlainDocEvent) (c d : Position) → AreMarked es ds
    → after_starts true (es ++ (document_end, c) ∷ ((stream_end, d) ∷ [])) ≡ []
after_open [] [] c d h = refl
after_open [] (x ∷ ds) c d h = absurd h
after_open (e ∷ es) [] c d h = absurd h
after_open (e ∷ es) (x ∷ ds) c d h = rw (no_end e.0 x h.0, after_starts) (after_open es ds c d h.1)

-- the events of a stream of one document whose node has these events
abbrev pub one_document : (a b c d : Position) → Input → Input
one_document a b c d events =
    (stream_start, a) ∷ ((document_start, b) ∷ (events ++ (document_end, c) ∷ ((stream_end, d) ∷ [])))

-- the input has one document, with this tree
pub record HasOnly (root : DocNode) (input : Input) : Type 0 where
  pub document : PlainDocument
  pub only : documents_of input None ≡ document ∷ []
  pub tree : IsTreeOf document root

document_is : (es : Input) (ds : List PlainDocEvent) (c d : Position) → AreMarked es ds
    → document_from None (es ++ (document_end, c) ∷ ((stream_end, d) ∷ []))
    ≡ (record { events = known_events (find_in (anchors_in 0 es)) 0 es; ending = None })
document_is es ds c d h =
    rw (
      body_is es ds c ((stream_end, d) ∷ []) h,
      ended es ds c ((stream_end, d) ∷ []) h,
      none_unknown (find_in (anchors_in 0 es)) 0 es ds h,
    ) refl

whole_tree : (a b c d : Position) (es : Input) (root : DocNode) → AreMarked es (events_of root)
    → HasOnly root (one_document a b c d es)
whole_tree a b c d es root h =
    let find = find_in (anchors_in 0 es) in
    record {
      document = record { events = known_events find 0 es; ending = None };
      only = rw (after_open es (events_of root) c d h) (ap (λ x. x ∷ []) (document_is es (events_of root) c d h));
      tree = record {
        whole = refl;
        events = known_are find 0 es (events_of root) h;
        known = λ p j mark g. absurd (none_alias find 0 es (events_of root) p j mark h g);
      };
    }

-- the event of a document that an entry is, by that of the parser
doc_is : (k : EntryKind) (text arena : List ℕ) (names : List Names) (e : Entry)
    → node_event (event_by k text arena names e) ≡ doc_event_by k text arena names e
doc_is kind.Scalar text arena names e = refl
doc_is kind.Alias text arena names e = refl
doc_is kind.SequenceStart text arena names e = refl
doc_is kind.SequenceEnd text arena names e = refl
doc_is kind.MappingStart text arena names e = refl
doc_is kind.MappingEnd text arena names e = refl
doc_is kind.StreamStart text arena names e = refl
doc_is kind.StreamEnd text arena names e = refl
doc_is kind.DocumentStart text arena names e = refl
doc_is kind.DocumentEnd text arena names e = refl

are_of : (text arena : List ℕ) (names : List Names) (rest : List Entry) (ds : List PlainDocEvent)
    (tail : List (Option PlainDocEvent)) → map (doc_by text arena names) rest ≡ map Some ds ++ tail
    → AreMarked (map (marked_by text arena names) (take (length ds) rest)) ds
are_of text arena names [] [] tail h = tt
are_of text arena names (x ∷ rest) [] tail h = tt
are_of text arena names [] (d ∷ ds) tail h =
    let e : 0 ≡ suc (length (map Some ds ++ tail)) = ap length h in absurd (omega (arith, e))
are_of text arena names (x ∷ rest) (d ∷ ds) tail h = (
  doc_is x.kind text arena names x ∙ ap (λ l. unwrap_or {T = Option PlainDocEvent} (slice_get l 0) None) h,
  are_of text arena names rest ds tail (ap (drop 1) h),
)

-- the entry in a place is the first from there on
drop_get : (es : List Entry) (p : ℕ) (e : Entry) → slice_get es p ≡ Some e → drop p es ≡ e ∷ drop (suc p) es
drop_get [] zero e h = absurd (none-some _ h)
drop_get [] (suc p) e h = absurd (none-some _ h)
drop_get (x ∷ es) zero e h = ap (λ o. unwrap_or o x ∷ es) h
drop_get (x ∷ es) (suc p) e h = drop_get es p e h

-- the events of the tape are a stream of one document
record IsOneDocument (t : Tape) (root : DocNode) : Type 0 where
  a : Position
  b : Position
  c : Position
  d : Position
  nodes : Input
  of_root : AreMarked nodes (events_of root)
  all : marked_on t ≡ one_document a b c d nodes

one_of : (t : Tape) (root : DocNode) → IsOnlyDocument t root → IsOneDocument t root
one_of t root n =
    let text = t.text.now in
    let arena = t.arena.items in
    let names = t.names.items in
    let es = t.entries.items in
    let q = n.end in
    let (e0, h0, k0) = n.stream in
    let (e1, h1, k1) = n.document in
    let (ec, hc, kc) = n.document_end in
    let (ed, hd, kd) = n.stream_end in
    let m = marked_by text arena names in
    let f = doc_by text arena names in
    let ds = events_of root in
    let k = length ds in
    let front : es ≡ e0 ∷ (e1 ∷ drop 2 es) = drop_get es 0 e0 h0 ∙ ap (λ l. e0 ∷ l) (drop_get es 1 e1 h1) in
    let next : q + 1 ≡ suc q = omega arith in
    let there : slice_get es (suc q) ≡ Some ed = subst (λ i. slice_get es i ≡ Some ed) next hd in
    let last = n.last in
    let back : drop q es ≡ ec ∷ (ed ∷ []) =
    drop_get es q ec hc ∙ ap (λ l. ec ∷ l) (drop_get es (suc q) ed there
    ∙ ap (λ l. ed ∷ l) (drop_all (suc (suc q)) es (omega arith))) in
    let counts : length (map f (drop 2 es)) ≡ length (map Some ds ++ map f (drop q es)) = ap length n.node in
    let q_is : q ≡ suc (suc k) = place_of_end f es ds q ec ed last back counts in
    let behind : drop k (drop 2 es) ≡ ec ∷ (ed ∷ []) =
    sym (ap (drop (suc (suc k))) front) ∙ subst (λ i. drop i es ≡ ec ∷ (ed ∷ [])) q_is back in
    let whole : es ≡ e0 ∷ (e1 ∷ (take k (drop 2 es) ++ ec ∷ (ed ∷ []))) =
    front ∙ ap (λ l. e0 ∷ (e1 ∷ l)) (sym (take-append-drop k (drop 2 es))
    ∙ ap (λ l. take k (drop 2 es) ++ l) behind) in
    record {
      a = position_at text e0.index e0.late;
      b = position_at text e1.index e1.late;
      c = position_at text ec.index ec.late;
      d = position_at text ed.index ed.late;
      nodes = map m (take k (drop 2 es));
      of_root = are_of text arena names (drop 2 es) ds (map f (drop q es)) n.node;
      all = ap (map m) whole ∙ rw (map-append m (take k (drop 2 es)) (ec ∷ (ed ∷ [])), k0, k1, kc, kd) refl;
    }
  where
    place_of_end : (f : Entry → Option PlainDocEvent) (es : List Entry) (ds : List PlainDocEvent) (q : ℕ)
        (ec ed : Entry) → length es ≡ q + 2 → drop q es ≡ ec ∷ (ed ∷ [])
        → length (map f (drop 2 es)) ≡ length (map Some ds ++ map f (drop q es)) → q ≡ suc (suc (length ds))
    place_of_end f es ds q ec ed len back counts =
        let a = rw (
          length-map (drop 2 es) f,
          length-drop 2 es,
          length-append (map Some ds) (map f (drop q es)),
          length-map ds Some,
          length-map (drop q es) f,
          back,
        ) at counts in
        omega (arith, len, a)

-- so it has one document, with the tree of the node, and is a stream
pub only_tree : (t : Tape) (root : DocNode) → IsOnlyDocument t root → HasOnly root (marked_on t)
only_tree t root n =
    let o : IsOneDocument t root = one_of t root n in
    subst (HasOnly root) (sym o.all) (whole_tree o.a o.b o.c o.d o.nodes root o.of_root)

pub only_stream : (t : Tape) (root : DocNode) → IsOnlyDocument t root → IsStream (events_in (marked_on t))
only_stream t root n =
    let o : IsOneDocument t root = one_of t root n in
    let events = map (λ (e : PlainEvent × Position). e.0) o.nodes in
    let rest : Input = (document_end, o.c) ∷ ((stream_end, o.d) ∷ []) in
    let same : events_in (one_document o.a o.b o.c o.d o.nodes)
    ≡ stream_start ∷ (document_start ∷ (events ++ (document_end ∷ (stream_end ∷ [])))) =
    ap (λ l. stream_start ∷ (document_start ∷ l)) (map-append (λ (e : PlainEvent × Position). e.0) o.nodes rest) in
    subst IsStream (sym (ap events_in o.all ∙ same)) (is_stream events root o.of_root)
