-- What is written, step by step.
use Rattle.std.proofs.Common.{◌≡◌, ◌∷◌, ◌++◌, ◌<◌, ◌≤◌, ℕ, List, [], Option, Some, refl, sym, ap, ◌∙◌, subst}
use Rattle.std.proofs.Common.{append_assoc, append-nil, Bool, true, false, ◌||◌}
use Rattle.std.proofs.lemmas.List.{map-append}
use Rattle.yaml_base.specs.MarkedEvents.{events_in}
use Rattle.yaml_base.specs.PlainDocEvent.{a_scalar, mapping_begins, sequence_begins}
use Rattle.yaml_base.specs.PlainEvent.{PlainEvent, PlainScalar, alias, sequence_start, sequence_end}
use Rattle.yaml_base.specs.PlainEvent.{mapping_start, mapping_end, document_start, document_end, stream_start}
use Rattle.yaml_base.specs.PlainEvent.{stream_end}
use Rattle.yaml_base.specs.Stream.{stream_events}
use Rattle.yaml_base.specs.Position.{Position}
use Rattle.yaml_base.specs.Tree.{Node, alias_node, scalar_node, sequence_node, mapping_node, no_nodes, node}
use Rattle.yaml_base.specs.Tree.{no_pairs, pair, node_events}
use Rattle.yaml_load.proofs.PlainWalks.{after_node}
use Rattle.yaml_merge.specs.MergeKeys.{Events}
use Rattle.yaml_merge.specs.Names.{name_of}
use Rattle.yaml_merge.specs.Writing.{Begins, Finishes, GoesOn, IsMappingOf, IsScalarOf, IsSequenceOf, Made}
use Rattle.yaml_merge.specs.Writing.{MadePairs, Writes, are_merging_at, behind_at, end_at, event_at}
use Rattle.yaml_merge.specs.Writing.{is_merge_key_at, next_to, own_keys, target_at}
use Rattle.yaml_merge.specs.declared.plan.Entry.{Entry}
use Rattle.yaml_merge.specs.declared.writer.Frame.{Frame}
use Rattle.yaml_merge.specs.declared.writer.Frame.TheVariants as frame

abbrev Marked : Type 0
Marked = List (PlainEvent × Position)

-- an alias stands for a node
pub alias_begins : (events : Events) (ends : List ℕ) (frames : List Frame) (event : PlainEvent) (place : ℕ)
    → event ≡ alias (name_of place) → Begins events ends frames frames event place
alias_begins events ends frames event place is rest finishes =
    (alias_node (name_of place), rest, ap (λ e. e ∷ rest) is, refl, finishes)

-- a scalar is a node
pub scalar_begins : (events : Events) (ends : List ℕ) (frames : List Frame) (event : PlainEvent) (place : ℕ)
    (s : PlainScalar) → event_at events place ≡ Some (a_scalar s) → IsScalarOf s place event
    → Begins events ends frames frames event place
scalar_begins events ends frames event place s at (t, is, same, named) rest finishes =
    (scalar_node t, rest, ap (λ e. e ∷ rest) is, (at ∙ ap (λ x. Some (a_scalar x)) (sym same), named), finishes)

-- a list begins
pub sequence_begins_there : (events : Events) (ends : List ℕ) (frames : List Frame) (event : PlainEvent) (place : ℕ)
    (tag : Option (List ℕ)) → event_at events place ≡ Some (sequence_begins tag) → IsSequenceOf tag place event
    → Begins events ends frames (frame.Elements (next_to place) (end_at ends place) ∷ frames) event place
sequence_begins_there events ends frames event place tag at (anchor, is, named) rest (nodes, later, all, made, finishes) = (
  sequence_node anchor tag nodes,
  later,
  ap (λ e. e ∷ rest) is ∙ ap (λ l. sequence_start anchor tag ∷ l) all,
  (at, named, made),
  finishes,
)

-- a mapping begins
pub mapping_begins_there : (events : Events) (ends : List ℕ) (frames : List Frame) (event : PlainEvent) (place : ℕ)
    (tag : Option (List ℕ)) → event_at events place ≡ Some (mapping_begins tag) → IsMappingOf tag place event
    → Begins events ends frames (frame.Keys place (next_to place) false ∷ frames) event place
mapping_begins_there events ends frames event place tag at (anchor, is, named) rest (pairs, later, all, made, finishes) = (
  mapping_node anchor tag pairs,
  later,
  ap (λ e. e ∷ rest) is ∙ ap (λ l. mapping_start anchor tag ∷ l) all,
  (at, named, made.0, made.1, made.2),
  finishes,
)

-- an element is written
pub element_goes : (events : Events) (ends : List ℕ) (frames new : List Frame) (before after : Marked)
    (event : PlainEvent) (mark : Position) (at end : ℕ) → at < end → after ≡ before ++ (event, mark) ∷ []
    → Begins events ends (frame.Elements (behind_at ends at) end ∷ frames) new event (target_at events at)
    → GoesOn events ends (frame.Elements at end ∷ frames) new before after
element_goes events ends frames new before after event mark at end lt is begins = (
  (event, mark) ∷ [],
  is,
  λ rest finishes.
      let next : (n : Node) × (later : List PlainEvent) × (event ∷ rest ≡ node_events n later)
      × Made events ends n (target_at events at)
      × Finishes events ends (frame.Elements (behind_at ends at) end ∷ frames) later = begins rest finishes in
      let more = next.4 in
      (node next.0 more.0, more.1, next.2 ∙ ap (node_events next.0) more.2, (lt, next.3, more.3), more.4),
)

-- a list ends
pub elements_end : (events : Events) (ends : List ℕ) (frames : List Frame) (before after : Marked)
    (mark : Position) (at end : ℕ) → end ≤ at → after ≡ before ++ (sequence_end, mark) ∷ []
    → GoesOn events ends (frame.Elements at end ∷ frames) frames before after
elements_end events ends frames before after mark at end le is =
    ((sequence_end, mark) ∷ [], is, λ rest finishes. (no_nodes, rest, refl, le, finishes))

-- there is no own entry any more, and there was a merge key
pub keys_end : (events : Events) (ends : List ℕ) (frames new : List Frame) (before after : Marked)
    (start key : ℕ) → end_at ends start ≤ key → GoesOn events ends (frame.Given start 0 ∷ frames) new before after
    → GoesOn events ends (frame.Keys start key true ∷ frames) new before after
keys_end events ends frames new before after start key le (between, is, goes) = (
  between,
  is,
  λ rest finishes.
      let more = goes rest finishes in (more.0, more.1, more.2, ([], le, more.3), more.4),
)

-- nor was there a merge key
pub mapping_ends_there : (events : Events) (ends : List ℕ) (frames : List Frame) (before after : Marked)
    (mark : Position) (start key : ℕ) (merges : Bool) → end_at ends start ≤ key
    → after ≡ before ++ (mapping_end, mark) ∷ []
    → GoesOn events ends (frame.Keys start key merges ∷ frames) frames before after
mapping_ends_there events ends frames before after mark start key merges le is =
    ((mapping_end, mark) ∷ [], is, λ rest finishes. (no_pairs, rest, refl, ([], le, tt), finishes))

own_skip : (events : Events) (key : ℕ) (keys : List ℕ) → is_merge_key_at events key ≡ true
    → own_keys events (key ∷ keys) ≡ own_keys events keys
own_skip events key keys h = rw h

own_keep : (events : Events) (key : ℕ) (keys : List ℕ) → is_merge_key_at events key ≡ false
    → own_keys events (key ∷ keys) ≡ key ∷ own_keys events keys
own_keep events key keys h = rw h

-- whether there is a merge key before the rest or among it
merging_skip : (before here rest : Bool) → here ≡ true → (true || rest) ≡ (before || (here || rest))
merging_skip true here rest h = refl
merging_skip false true rest h = refl
merging_skip false false rest h = absurd cc

merging_keep : (before here rest : Bool) → here ≡ false → (before || rest) ≡ (before || (here || rest))
merging_keep before false rest h = refl
merging_keep before true rest h = absurd cc

-- a merge key is passed over
pub key_passes : (events : Events) (ends : List ℕ) (frames : List Frame) (before after : Marked)
    (start key : ℕ) (merges : Bool) → key < end_at ends start → is_merge_key_at events key ≡ true → after ≡ before
    → GoesOn events ends (frame.Keys start key merges ∷ frames)
    (frame.Keys start (behind_at ends (behind_at ends key)) true ∷ frames) before after
key_passes events ends frames before after start key merges lt here is = (
  [],
  is ∙ sym (append-nil before),
  λ rest (pairs, later, all, (keys, are, made), finishes). (
    pairs,
    later,
    all,
    (
      key ∷ keys,
      (lt, refl, are),
      subst (MadePairs events ends pairs (merges || are_merging_at events (key ∷ keys)))
          (sym (own_skip events key keys here))
          (subst (λ b. MadePairs events ends pairs b (own_keys events keys))
          (merging_skip merges (is_merge_key_at events key) (are_merging_at events keys) here) made),
    ),
    finishes,
  ),
)

-- the key of an own entry is written
pub key_goes : (events : Events) (ends : List ℕ) (frames new : List Frame) (before after : Marked)
    (event : PlainEvent) (mark : Position) (start key : ℕ) (merges : Bool) → key < end_at ends start
    → is_merge_key_at events key ≡ false → after ≡ before ++ (event, mark) ∷ []
    → Begins events ends (frame.Values start (behind_at ends key) merges ∷ frames) new event (target_at events key)
    → GoesOn events ends (frame.Keys start key merges ∷ frames) new before after
key_goes events ends frames new before after event mark start key merges lt own is begins = (
  (event, mark) ∷ [],
  is,
  λ rest finishes.
      let next : (n : Node) × (later : List PlainEvent) × (event ∷ rest ≡ node_events n later)
      × Made events ends n (target_at events key)
      × Finishes events ends (frame.Values start (behind_at ends key) merges ∷ frames) later = begins rest finishes in
      let more = next.4 in (
        pair next.0 more.0 more.1,
        more.2,
        next.2 ∙ ap (node_events next.0) more.3,
        (
          key ∷ more.5.0,
          (lt, refl, more.5.1),
          subst (MadePairs events ends (pair next.0 more.0 more.1)
              (merges || are_merging_at events (key ∷ more.5.0))) (sym (own_keep events key more.5.0 own)) (
                next.3,
                more.4,
                subst (λ b. MadePairs events ends more.1 b (own_keys events more.5.0))
                    (merging_keep merges (is_merge_key_at events key) (are_merging_at events more.5.0) own) more.5.2,
              ),
        ),
        more.6,
      ),
)

-- the value of an own entry is written
pub value_goes : (events : Events) (ends : List ℕ) (frames new : List Frame) (before after : Marked)
    (event : PlainEvent) (mark : Position) (start value : ℕ) (merges : Bool) → after ≡ before ++ (event, mark) ∷ []
    → Begins events ends (frame.Keys start (behind_at ends value) merges ∷ frames) new event (target_at events value)
    → GoesOn events ends (frame.Values start value merges ∷ frames) new before after
value_goes events ends frames new before after event mark start value merges is begins = (
  (event, mark) ∷ [],
  is,
  λ rest finishes.
      let next : (n : Node) × (later : List PlainEvent) × (event ∷ rest ≡ node_events n later)
      × Made events ends n (target_at events value)
      × Finishes events ends (frame.Keys start (behind_at ends value) merges ∷ frames) later = begins rest finishes in
      let more = next.4 in
      (next.0, more.0, more.1, next.2 ∙ ap (node_events next.0) more.2, next.3, more.3, more.4),
)

-- a mapping ends
pub given_end : (events : Events) (ends : List ℕ) (frames : List Frame) (before after : Marked)
    (mark : Position) (start number : ℕ) → after ≡ before ++ (mapping_end, mark) ∷ []
    → GoesOn events ends (frame.Given start number ∷ frames) frames before after
given_end events ends frames before after mark start number is =
    ((mapping_end, mark) ∷ [], is, λ rest finishes. (no_pairs, rest, refl, tt, finishes))

-- the key of an entry that is given is written
pub given_goes : (events : Events) (ends : List ℕ) (frames new : List Frame) (before after : Marked)
    (event : PlainEvent) (mark : Position) (start number : ℕ) (entry : Entry) (place : ℕ)
    → after ≡ before ++ (event, mark) ∷ []
    → Begins events ends (frame.GivenValues start number entry ∷ frames) new event place
    → GoesOn events ends (frame.Given start number ∷ frames) new before after
given_goes events ends frames new before after event mark start number entry place is begins = (
  (event, mark) ∷ [],
  is,
  λ rest finishes.
      let next : (n : Node) × (later : List PlainEvent) × (event ∷ rest ≡ node_events n later)
      × Made events ends n place
      × Finishes events ends (frame.GivenValues start number entry ∷ frames) later = begins rest finishes in
      let more = next.4 in (
        pair next.0 more.0 more.1,
        more.2,
        next.2 ∙ ap (node_events next.0) more.3,
        (refl, (place, next.3), more.4, more.5),
        more.6,
      ),
)

-- the value of one is written
pub given_value_goes : (events : Events) (ends : List ℕ) (frames new : List Frame) (before after : Marked)
    (event : PlainEvent) (mark : Position) (start number then : ℕ) (entry : Entry) (place : ℕ)
    → after ≡ before ++ (event, mark) ∷ []
    → Begins events ends (frame.Given start then ∷ frames) new event place
    → GoesOn events ends (frame.GivenValues start number entry ∷ frames) new before after
given_value_goes events ends frames new before after event mark start number then entry place is begins = (
  (event, mark) ∷ [],
  is,
  λ rest finishes.
      let next : (n : Node) × (later : List PlainEvent) × (event ∷ rest ≡ node_events n later)
      × Made events ends n place
      × Finishes events ends (frame.Given start then ∷ frames) later = begins rest finishes in
      let more = next.4 in
      (next.0, more.0, more.1, next.2 ∙ ap (node_events next.0) more.2, (place, next.3), more.3, more.4),
)

-- with what finishes the frames behind them, the events between two states are those of a node made of the one in a
-- place
abbrev pub Towards : Events → (ends : List ℕ) → (frames : List Frame) → (place : ℕ) → (before after : Marked) → Type 0
Towards events ends frames place before after =
    (between : Marked) × (after ≡ before ++ between)
    × ((rest : List PlainEvent) → Finishes events ends frames rest
    → (n : Node) × (events_in between ++ rest ≡ node_events n []) × Made events ends n place)

pub towards_first : (events : Events) (ends : List ℕ) (new : List Frame) (before after : Marked)
    (event : PlainEvent) (mark : Position) (place : ℕ) → after ≡ before ++ (event, mark) ∷ []
    → Begins events ends [] new event place → Towards events ends new place before after
towards_first events ends new before after event mark place is begins = (
  (event, mark) ∷ [],
  is,
  λ rest finishes.
      let next : (n : Node) × (later : List PlainEvent) × (event ∷ rest ≡ node_events n later)
      × Made events ends n place × (later ≡ []) = begins rest finishes in
      (next.0, next.2 ∙ ap (node_events next.0) next.4, next.3),
)

pub towards_next : (events : Events) (ends : List ℕ) (frames new : List Frame) (place : ℕ)
    (before mid after : Marked) → Towards events ends frames place before mid
    → GoesOn events ends frames new mid after → Towards events ends new place before after
towards_next events ends frames new place before mid after (between, is, towards) (more, is', goes) = (
  between ++ more,
  is' ∙ ap (λ l. l ++ more) is ∙ append_assoc before between more,
  λ rest finishes.
      let all = towards (events_in more ++ rest) (goes rest finishes) in (
        all.0,
        ap (λ l. l ++ rest) (map-append (λ (e : PlainEvent × Position). e.0) between more)
            ∙ append_assoc (events_in between) (events_in more) rest ∙ all.1,
        all.2,
      ),
)

pub towards_end : (events : Events) (ends : List ℕ) (place : ℕ) (before after : Marked)
    → Towards events ends [] place before after → Writes events ends place before after
towards_end events ends place before after (between, is, towards) =
    let all = towards [] refl in
    (between, all.0, is, sym (append-nil (events_in between)) ∙ all.1, all.2)

-- a node between the events around a document is a stream of one document
pub stream_of_one : (place : ℕ) (events : Events) (ends : List ℕ) (first mid last : Marked) (a b c d : Position)
    → first ≡ (stream_start, a) ∷ (document_start, b) ∷ [] → Writes events ends place first mid
    → last ≡ mid ++ ((document_end, c) ∷ (stream_end, d) ∷ [])
    → (n : Node) × (events_in last ≡ stream_events (n ∷ [])) × Made events ends n place
stream_of_one place events ends first mid last a b c d is (between, n, more, all, made) ends_so =
    let tail : List PlainEvent = document_end ∷ stream_end ∷ [] in
    let whole : last ≡ (stream_start, a) ∷ (document_start, b) ∷ (between ++ ((document_end, c) ∷ (stream_end, d) ∷ [])) =
    ends_so ∙ ap (λ l. l ++ ((document_end, c) ∷ (stream_end, d) ∷ [])) (more ∙ ap (λ l. l ++ between) is) in (
      n,
      ap events_in whole
          ∙ ap (λ l. stream_start ∷ document_start ∷ l)
          (map-append (λ (e : PlainEvent × Position). e.0) between ((document_end, c) ∷ (stream_end, d) ∷ [])
          ∙ ap (λ l. l ++ tail) all ∙ sym (after_node tail n)),
      made,
    )

-- the same, event by event
pub stream_of_parts : (place : ℕ) (events : Events) (ends : List ℕ) (old one two mid three last : Marked)
    (a b c d : Position) → old ≡ [] → one ≡ old ++ (stream_start, a) ∷ [] → two ≡ one ++ (document_start, b) ∷ []
    → Writes events ends place two mid → three ≡ mid ++ (document_end, c) ∷ []
    → last ≡ three ++ (stream_end, d) ∷ []
    → (n : Node) × (events_in last ≡ stream_events (n ∷ [])) × Made events ends n place
stream_of_parts place events ends old one two mid three last a b c d none first second writes third fourth =
    stream_of_one place events ends two mid last a b c d
    (second ∙ ap (λ l. l ++ (document_start, b) ∷ []) (first ∙ ap (λ l. l ++ (stream_start, a) ∷ []) none)) writes
    (fourth ∙ ap (λ l. l ++ (stream_end, d) ∷ []) third
    ∙ append_assoc mid ((document_end, c) ∷ []) ((stream_end, d) ∷ []))
