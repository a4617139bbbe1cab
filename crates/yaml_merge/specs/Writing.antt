-- How nodes that are written are made of the nodes of a document, by the places of their events.
use Rattle.std.specs.Prelude.{◌≡◌, ℕ, ◌+◌, ◌-◌, ◌^◌, ◌<◌, ◌≤◌, min, List, [], ◌∷◌, ◌++◌, if◌then◌else◌, Bool}
use Rattle.std.specs.Prelude.{◌||◌, Option, Some, false, true, slice_get, unwrap_or}
use Rattle.std.specs.Option.{option_map, option_map_or}
use Rattle.yaml_base.specs.MarkedEvents.{events_in}
use Rattle.yaml_base.specs.PlainDocEvent.{PlainDocEvent, alias_to, a_scalar, sequence_begins, mapping_begins}
use Rattle.yaml_base.specs.PlainEvent.{PlainEvent, PlainScalar, scalar, sequence_start, sequence_end}
use Rattle.yaml_base.specs.PlainEvent.{mapping_start, mapping_end}
use Rattle.yaml_base.specs.Position.{Position}
use Rattle.yaml_base.specs.Tree.{Node, alias_node, scalar_node, sequence_node, mapping_node, Nodes, no_nodes, node}
use Rattle.yaml_base.specs.Tree.{NodePairs, no_pairs, pair, node_events, nodes_events, pairs_events}
use Rattle.yaml_load.specs.Resolved.{without_anchor}
use Rattle.yaml_merge.specs.MergeKeys.{Events, is_merge_node}
use Rattle.yaml_merge.specs.Names.{IsNamed, name_of}
use Rattle.yaml_merge.specs.declared.writer.Frame.{Frame}
use Rattle.yaml_merge.specs.declared.writer.Frame.TheVariants as frame

-- the event in a place
abbrev pub event_at : Events → ℕ → Option PlainDocEvent
event_at events place = option_map (λ e. e.0) (slice_get events place)

-- the place of the node that the one in a place is, or that it stands for
abbrev pub target_of : Option PlainDocEvent → ℕ → ℕ
target_of (Some (alias_to target)) place = target
target_of _ place = place

abbrev pub target_at : Events → ℕ → ℕ
target_at events place = target_of (event_at events place) place

-- the place of the last event of the node that begins in a place
abbrev pub end_at : List ℕ → ℕ → ℕ
end_at ends place = unwrap_or (slice_get ends place) place

-- the place behind a place, as far as a `usize` can tell
abbrev pub next_to : ℕ → ℕ
next_to place = min (place + 1) (2 ^ 64 - 1)

-- the place behind the node that begins in a place
abbrev pub behind_at : List ℕ → ℕ → ℕ
behind_at ends place = next_to (end_at ends place)

-- the node that begins in a place is a merge key, where it is a key
abbrev pub is_merge_key_at : Events → ℕ → Bool
is_merge_key_at events place = option_map_or (is_merge_node events) (event_at events place) false

-- these are the places of the keys of a mapping, from a place on up to its end
abbrev pub AreKeys : (ends : List ℕ) (at end : ℕ) → List ℕ → Type 0
AreKeys ends at end [] = end ≤ at
AreKeys ends at end (key ∷ keys) = (at < end) × (key ≡ at) × AreKeys ends (behind_at ends (behind_at ends at)) end keys

-- those of them that are no merge keys
abbrev pub own_keys : Events → List ℕ → List ℕ
own_keys events [] = []
own_keys events (key ∷ keys) =
    if is_merge_key_at events key then own_keys events keys else key ∷ own_keys events keys

-- one of them is a merge key
abbrev pub are_merging_at : Events → List ℕ → Bool
are_merging_at events [] = false
are_merging_at events (key ∷ keys) = is_merge_key_at events key || are_merging_at events keys

abbrev mutual
  -- The node is made of the one that begins in a place, which is no alias: it stands for it, or it begins as it does. A
  -- list has the elements that stand there, in order. A mapping has the own entries that stand there, in order, and then
  -- others, if it has a merge key.
  pub Made : Events → (ends : List ℕ) → Node → (place : ℕ) → Type 0
  Made events ends (alias_node anchor) place = anchor ≡ name_of place
  Made events ends (scalar_node s) place =
      (event_at events place ≡ Some (a_scalar (without_anchor s))) × IsNamed s.anchor place
  Made events ends (sequence_node anchor tag nodes) place =
      (event_at events place ≡ Some (sequence_begins tag)) × IsNamed anchor place
      × MadeElements events ends nodes (next_to place) (end_at ends place)
  Made events ends (mapping_node anchor tag pairs) place =
      (event_at events place ≡ Some (mapping_begins tag)) × IsNamed anchor place
      × (keys : List ℕ) × AreKeys ends (next_to place) (end_at ends place) keys
      × MadePairs events ends pairs (are_merging_at events keys) (own_keys events keys)

  pub MadeElements : Events → (ends : List ℕ) → Nodes → (at end : ℕ) → Type 0
  MadeElements events ends no_nodes at end = end ≤ at
  MadeElements events ends (node n nodes) at end =
      (at < end) × Made events ends n (target_at events at)
      × MadeElements events ends nodes (behind_at ends at) end

  pub MadePairs : Events → (ends : List ℕ) → NodePairs → (merges : Bool) → (keys : List ℕ) → Type 0
  MadePairs events ends no_pairs merges [] = Unit {0}
  MadePairs events ends no_pairs merges (key ∷ keys) = ⊥
  MadePairs events ends (pair k v pairs) merges (key ∷ keys) =
      Made events ends k (target_at events key)
      × Made events ends v (target_at events (behind_at ends key))
      × MadePairs events ends pairs merges keys
  MadePairs events ends (pair k v pairs) merges [] =
      (merges ≡ true) × ((place : ℕ) × Made events ends k place) × ((place : ℕ) × Made events ends v place)
      × MadePairs events ends pairs merges []

-- the pairs are made of the own entries of a mapping from a key on, and then of others, if there was a merge key before
-- or one comes
abbrev pub MadeFromKey : Events → (ends : List ℕ) → NodePairs → (start key : ℕ) → (merges : Bool) → Type 0
MadeFromKey events ends pairs start key merges =
    (keys : List ℕ) × AreKeys ends key (end_at ends start) keys
    × MadePairs events ends pairs (merges || are_merging_at events keys) (own_keys events keys)

-- the event is that of this scalar, maybe with the anchor of the node in a place
abbrev pub IsScalarOf : PlainScalar → (place : ℕ) → PlainEvent → Type 0
IsScalarOf s place event =
    (t : PlainScalar) × (event ≡ scalar t) × (without_anchor t ≡ s) × IsNamed t.anchor place

-- so it is of the start of a list and of a mapping
abbrev pub IsSequenceOf : Option (List ℕ) → (place : ℕ) → PlainEvent → Type 0
IsSequenceOf tag place event =
    (anchor : Option (List ℕ)) × (event ≡ sequence_start anchor tag) × IsNamed anchor place

abbrev pub IsMappingOf : Option (List ℕ) → (place : ℕ) → PlainEvent → Type 0
IsMappingOf tag place event =
    (anchor : Option (List ℕ)) × (event ≡ mapping_start anchor tag) × IsNamed anchor place

-- the events finish the collections of these frames, the innermost first
abbrev pub Finishes : Events → (ends : List ℕ) → List Frame → List PlainEvent → Type 0
Finishes events ends [] rest = rest ≡ []
Finishes events ends (frame.Elements at end ∷ frames) rest =
    (nodes : Nodes) × (later : List PlainEvent) × (rest ≡ nodes_events nodes (sequence_end ∷ later))
    × MadeElements events ends nodes at end × Finishes events ends frames later
Finishes events ends (frame.Keys start key merges ∷ frames) rest =
    (pairs : NodePairs) × (later : List PlainEvent) × (rest ≡ pairs_events pairs (mapping_end ∷ later))
    × MadeFromKey events ends pairs start key merges × Finishes events ends frames later
Finishes events ends (frame.Values start value merges ∷ frames) rest =
    (v : Node) × (pairs : NodePairs) × (later : List PlainEvent)
    × (rest ≡ node_events v (pairs_events pairs (mapping_end ∷ later)))
    × Made events ends v (target_at events value) × MadeFromKey events ends pairs start (behind_at ends value) merges
    × Finishes events ends frames later
Finishes events ends (frame.Given start number ∷ frames) rest =
    (pairs : NodePairs) × (later : List PlainEvent) × (rest ≡ pairs_events pairs (mapping_end ∷ later))
    × MadePairs events ends pairs true [] × Finishes events ends frames later
Finishes events ends (frame.GivenValues start number entry ∷ frames) rest =
    (v : Node) × (pairs : NodePairs) × (later : List PlainEvent)
    × (rest ≡ node_events v (pairs_events pairs (mapping_end ∷ later)))
    × ((place : ℕ) × Made events ends v place) × MadePairs events ends pairs true []
    × Finishes events ends frames later

-- Behind the event what finishes the new frames is the rest of a node made of the one in a place, and what finishes the
-- old ones.
abbrev pub Begins : Events → (ends : List ℕ) → (old new : List Frame) → PlainEvent → (place : ℕ) → Type 0
Begins events ends old new event place =
    (rest : List PlainEvent) → Finishes events ends new rest
    → (n : Node) × (later : List PlainEvent) × (event ∷ rest ≡ node_events n later) × Made events ends n place
    × Finishes events ends old later

-- the events between two states are such that, with them in front, what finishes the new frames finishes the old ones
abbrev pub GoesOn : Events → (ends : List ℕ) → (old new : List Frame) → (before after : List (PlainEvent × Position))
    → Type 0
GoesOn events ends old new before after =
    (between : List (PlainEvent × Position)) × (after ≡ before ++ between)
    × ((rest : List PlainEvent) → Finishes events ends new rest
    → Finishes events ends old (events_in between ++ rest))

-- the events between two states are those of a node made of the one in a place
abbrev pub Writes : Events → (ends : List ℕ) → (place : ℕ) → (before after : List (PlainEvent × Position)) → Type 0
Writes events ends place before after =
    (between : List (PlainEvent × Position)) × (n : Node) × (after ≡ before ++ between)
    × (events_in between ≡ node_events n []) × Made events ends n place
