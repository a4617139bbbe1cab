-- An input gives data exactly where it is one faultless document that means it.
use Rattle.std.proofs.Common.{◌≡◌, ℕ, zero, suc, ◌+◌, List, [], ◌∷◌, ◌++◌, length, take, drop, Option, Some, None}
use Rattle.std.proofs.Common.{is_some, Result, Ok, Err, true, false, refl, sym, ap, subst, ◌∙◌, inl, inr}
use Rattle.std.specs.Prelude.{slice_get, ◌⊎◌}
use Rattle.std.proofs.lemmas.List.{length-map}
use Rattle.yaml_base.specs.DocTree.{DocNode, nothing, events_of, node_of}
use Rattle.yaml_base.specs.PlainDocEvent.{PlainDocEvent, alias_to, a_void}
use Rattle.yaml_base.specs.PlainDocument.{PlainDocument}
use Rattle.yaml_base.specs.PlainEvent.{PlainEvent}
use Rattle.yaml_base.specs.PlainFault.{PlainFault}
use Rattle.yaml_base.specs.Position.{Position}
use Rattle.yaml_base.specs.Stream.{IsStream, IsWellFormed, stream_events}
use Rattle.yaml_base.specs.Tree.{Node}
use Rattle.yaml_base.specs.declared.error.Cause.{Cause}
use Rattle.yaml_base.specs.declared.error.Cause.TheVariants.{NotAStream}
use Rattle.yaml_shape.specs.PlainData.{PlainData}
use Rattle.yaml_shape.specs.PlainShape.{PlainShape}
use Rattle.yaml_read.specs.Documents.{Input, documents_of, last_mark, void_document}
use Rattle.yaml_read.specs.MarkedEvents.{events_in}
use Rattle.yaml_read.specs.Reads.{IsTreeOf, Reads, DocumentGives}
use Rattle.yaml_read.specs.Resolved.{resolved}
use Rattle.yaml_read.specs.StreamLaw.{AreStreamDocuments, IsDocumentOf, IsAtFault, EndAtFault}
use Rattle.yaml_read.specs.TreeReader.{PlainLimits}
use Rattle.yaml_read.specs.WrongPlace.{IsWrongAt}
use Rattle.serde_yaml.specs.Headline.{ReadsAs, one_document, no_document}
use Rattle.serde_yaml.specs.StreamReads.{StreamGives, InputGives, no_stream, a_stream, stream_of, some_follow}
use Rattle.serde_yaml.specs.StreamReads.{unless_more}

-- with others behind it a document gives no data, and without it gives what it gives
no_more : (found : Result PlainData Cause) (v : PlainData) → unless_more true found ≡ Ok v → ⊥
no_more (Ok w) v h = let bad = h in absurd cc
no_more (Err e) v h = let bad = h in absurd cc

alone : (found : Result PlainData Cause) → unless_more false found ≡ found
alone (Ok w) = refl
alone (Err e) = refl

-- the event that was looked up, or none of a node
abbrev event_in : Option (PlainDocEvent × Position) → PlainDocEvent
event_in None = a_void
event_in (Some e) = e.0

-- the tree of an empty stream
void_tree : (mark : Position) → IsTreeOf (void_document mark) nothing
void_tree mark = record { whole = refl; events = refl; known = known }
  where
    known : (p j : ℕ) (m : Position) → slice_get (void_document mark).events p ≡ Some (alias_to j, m)
        → (n : DocNode) × (node_of nothing j ≡ Some n)
    known zero j m h = let bad : a_void ≡ alias_to j = ap event_in h in absurd cc
    known (suc p) j m h = absurd cc

-- a tree has as many events as its document
sized : (d : PlainDocument) (tree : DocNode) → IsTreeOf d tree → length d.events ≡ length (events_of tree)
sized d tree is = sym (length-map d.events (λ (e : PlainDocEvent × Position). e.0)) ∙ ap length is.events

-- the parser's fault leaves a mark on the last document
at_fault : (fault : PlainFault) (ending : Option Cause) → IsAtFault fault ending → ending ≡ None → ⊥
at_fault fault None h e = h
at_fault fault (Some c) h e = let bad = e in absurd cc

-- a list that is a stream is wrong at no place
split : (n : ℕ) (es : List PlainEvent) → take n es ++ drop n es ≡ es
split zero [] = refl
split (suc n) [] = refl
split zero (e ∷ es) = refl
split (suc n) (e ∷ es) = ap (λ xs. e ∷ xs) (split n es)

not_wrong : (events : List PlainEvent) (place : ℕ) → IsStream events → IsWrongAt false events place → ⊥
not_wrong events place is wrong = elim wrong.1 [
  | inl w ↦ w.1 (drop (place + 1) events, subst IsStream (sym (split (place + 1) events)) is)
  | inr w ↦ w.1 is
]

-- what an input gives, by whether it is refused
abbrev pub IsRefusedOrGives : PlainLimits → List PlainShape → PlainShape → Input → Option PlainFault
    → Result PlainData Cause → Type 0
IsRefusedOrGives limits table s input fault given =
    ((place : ℕ) × (given ≡ Err (NotAStream place)) × IsWrongAt (is_some fault) (events_in input) place)
    ⊎ (IsWellFormed (is_some fault) (events_in input) × StreamGives limits table s (stream_of input fault) given)

refused_or_gives : {limits : PlainLimits} {table : List PlainShape} {s : PlainShape} {input : Input}
    {fault : Option PlainFault} {given : Result PlainData Cause}
    → InputGives limits table s input fault given → IsRefusedOrGives limits table s input fault given
refused_or_gives (no_stream place wrong) = inl (place, refl, wrong)
refused_or_gives (a_stream is g) = inr (is, g)

module _ (limits : PlainLimits) (table : List PlainShape) (s : PlainShape) (input : Input)
    (given : Result PlainData Cause) (v : PlainData) where
  -- what a first document gives
  abbrev FirstGives : PlainDocument → List PlainDocument → Type 0
  FirstGives d others = (found : Result PlainData Cause) × DocumentGives limits table s d found
      × (given ≡ unless_more (some_follow others) found)

  first : (fault : Option PlainFault) (d : PlainDocument) (others : List PlainDocument) → documents_of input fault
      ≡ d ∷ others
      → StreamGives limits table s (stream_of input fault) given → FirstGives d others
  first fault d others is g = g.first d others (record { fresh = refl; documents = is })

  data_alone : (d : PlainDocument) (f : FirstGives d []) → given ≡ Ok v → f.0 ≡ Ok v
  data_alone d f h = sym (alone f.0) ∙ (sym f.2 ∙ h)

  no_data : (d d' : PlainDocument) (ds : List PlainDocument) → FirstGives d (d' ∷ ds) → given ≡ Ok v → ⊥
  no_data d d' ds f h = no_more f.0 v (sym f.2 ∙ h)

  one_found : (r : Node) (o : Option DocNode) → resolved r ≡ o → (d : PlainDocument) → IsDocumentOf o d
      → FirstGives d []
      → given ≡ Ok v → events_in input ≡ stream_events (r ∷ []) → ReadsAs limits table s input v
  one_found r (Some tree) is d doc f h e =
      one_document r tree e is (subst (λ n. Reads limits table s tree n v) (sized d tree doc)
      (f.1.found tree v doc (data_alone d f h)))
  one_found r None is d doc f h e = let bad = sym (f.1.whole v (data_alone d f h)) ∙ doc.1 in absurd cc

  found_in : (roots : List Node) (docs : List PlainDocument) → documents_of input None ≡ docs → events_in input
      ≡ stream_events roots
      → AreStreamDocuments roots (last_mark input) docs → StreamGives limits table s (stream_of input None) given
      → given ≡ Ok v
      → ReadsAs limits table s input v
  found_in [] docs same e cut g h =
      let f = first None (void_document cut.0) [] (same ∙ cut.2) g in
      no_document e (f.1.found nothing v (void_tree cut.0) (data_alone (void_document cut.0) f h))
  found_in (r ∷ roots) [] same e cut g h = absurd cut
  found_in (r ∷ []) (d ∷ []) same e cut g h = one_found r (resolved r) refl d cut.0 (first None d [] same g) h e
  found_in (r ∷ (r' ∷ roots)) (d ∷ []) same e cut g h = absurd cut.1
  found_in (r ∷ roots) (d ∷ (d' ∷ ds)) same e cut g h = absurd (no_data d d' ds (first None d (d' ∷ ds) same g) h)

  none_found : (fault : PlainFault) (docs : List PlainDocument) → documents_of input (Some fault) ≡ docs
      → EndAtFault fault docs
      → StreamGives limits table s (stream_of input (Some fault)) given → given ≡ Ok v → ⊥
  none_found fault [] same end g h = end
  none_found fault (d ∷ []) same end g h =
      let f = first (Some fault) d [] same g in at_fault fault d.ending end (f.1.whole v (data_alone d f h))
  none_found fault (d ∷ (d' ∷ ds)) same end g h = no_data d d' ds (first (Some fault) d (d' ∷ ds) same g) h

  one_given : (r : Node) (tree : DocNode) (o : Option DocNode) → o ≡ Some tree → (d : PlainDocument) → IsDocumentOf o d
      → FirstGives d []
      → Reads limits table s tree (length (events_of tree)) v → given ≡ Ok v
  one_given r tree (Some t) is d doc f reads =
      let same : t ≡ tree = cc in
      let doc' : IsTreeOf d tree = subst (IsTreeOf d) same doc in
      f.2 ∙ (alone f.0 ∙ f.1.only tree v doc' (subst (λ n. Reads limits table s tree n v)
      (sym (sized d tree doc')) reads))
  one_given r tree None is d doc f reads = absurd cc

  given_in : (r : Node) (tree : DocNode) (docs : List PlainDocument) → documents_of input None ≡ docs → resolved r
      ≡ Some tree
      → AreStreamDocuments (r ∷ []) (last_mark input) docs → StreamGives limits table s (stream_of input None) given
      → Reads limits table s tree (length (events_of tree)) v → given ≡ Ok v
  given_in r tree [] same is cut g reads = absurd cut
  given_in r tree (d ∷ []) same is cut g reads = one_given r tree (resolved r) is d cut.0 (first None d [] same g) reads
  given_in r tree (d ∷ (d' ∷ ds)) same is cut g reads = absurd cut.1

  module _ (cuts : (roots : List Node) → events_in input ≡ stream_events roots
      → AreStreamDocuments roots (last_mark input) (documents_of input None)) where
    only_in : StreamGives limits table s (stream_of input None) given → ReadsAs limits table s input v → given ≡ Ok v
    only_in g (one_document root tree e is reads) =
        given_in root tree (documents_of input None) refl is (cuts (root ∷ []) e) g reads
    only_in g (no_document e reads) =
        let cut = cuts [] e in
        let f = first None (void_document cut.0) [] cut.2 g in
        f.2 ∙ (alone f.0 ∙ f.1.only nothing v (void_tree cut.0) reads)

    stream_in : ReadsAs limits table s input v → IsStream (events_in input)
    stream_in (one_document root tree e is reads) = (root ∷ [], e)
    stream_in (no_document e reads) = ([], e)

    means_by : (fault : Option PlainFault) → ((f : PlainFault) → EndAtFault f (documents_of input (Some f)))
        → IsRefusedOrGives limits table s input fault given
        → given ≡ Ok v → (fault ≡ None) × ReadsAs limits table s input v
    means_by fault ends (inl w) h = let bad = sym w.1 ∙ h in absurd cc
    means_by None ends (inr w) h = (refl, found_in w.0.0 (documents_of input None) refl w.0.1 (cuts w.0.0 w.0.1) w.1 h)
    means_by (Some f) ends (inr w) h = absurd (none_found f (documents_of input (Some f)) refl (ends f) w.1 h)

    gives_by : (fault : Option PlainFault) → IsRefusedOrGives limits table s input fault given → fault ≡ None
        → ReadsAs limits table s input v → given ≡ Ok v
    gives_by None (inl w) e reads = absurd (not_wrong (events_in input) w.0 (stream_in reads) w.2)
    gives_by None (inr w) e reads = only_in w.1 reads
    gives_by (Some f) w e reads = absurd cc

    pub means : (fault : Option PlainFault) → ((f : PlainFault) → EndAtFault f (documents_of input (Some f)))
        → InputGives limits table s input fault given
        → given ≡ Ok v → (fault ≡ None) × ReadsAs limits table s input v
    means fault ends is h = means_by fault ends (refused_or_gives is) h

    pub gives : (fault : Option PlainFault) → InputGives limits table s input fault given → fault ≡ None
        → ReadsAs limits table s input v → given ≡ Ok v
    gives fault is e reads = gives_by fault (refused_or_gives is) e reads
