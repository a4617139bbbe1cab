-- A reader of what stands in brackets.
use Rattle.std.specs.Prelude.{ℕ, zero, suc, Bool, true, false, not, ◌==◌, ◌&&◌, List, length, Some}
use Rattle.std.specs.Prelude.{None, codes, nat_lt, option_and_then, option_map}
use Rattle.yaml_base.specs.PlainEvent.{PlainEvent, mapping_end, mapping_start, sequence_end, sequence_start}
use Rattle.yaml_grammar.specs.Brackets.{begins_collection, has_colon, nothing_here, part_after}
use Rattle.yaml_grammar.specs.Bytes.{at, is_one_of}
use Rattle.yaml_grammar.specs.Gaps.{breaks, next}
use Rattle.yaml_grammar.specs.Leaves.{leaf_at}
use Rattle.yaml_grammar.specs.Names.{Names, names_at}
use Rattle.yaml_grammar.specs.Nodes.{Marked, mark}
use Rattle.yaml_grammar.specs.Plain.{in_brackets}
use Rattle.yaml_reading.specs.Readers.{Collections, Read, Reader, alone, and_event, and_node, and_then, no_more, opens}
use Rattle.yaml_reading.specs.Readers.{with_leaf}

-- names alone, if there are some
abbrev pub names_step : List ℕ → List Marked → (i p : ℕ) → Names → (some : Bool) → Read
names_step text es i p names true = Some (and_node es (alone text i p names), p)
names_step text es i p names false = None

-- what stands behind the names: nothing in their line, a collection, nothing, or a leaf
abbrev pub flow_step : List ℕ → Collections → List Marked → (i : ℕ) → Names → (p : ℕ) → (broken opened ends : Bool)
    → Read
flow_step text brackets es i names p true opened ends = None
flow_step text brackets es i names p false true ends = brackets names i es (next text p)
flow_step text brackets es i names p false false true = names_step text es i p names (nat_lt i p)
flow_step text brackets es i names p false false false =
    with_leaf text es i names (leaf_at text in_brackets (next text p))

-- a node behind its names
unfoldable pub flow_behind : List ℕ → Collections → List Marked → (i : ℕ) → Names → (p : ℕ) → Read
flow_behind text brackets es i names p =
    flow_step text brackets es i names p (breaks text p) (opens (at text (next text p)))
    (is_one_of (codes ",]}:") (at text (next text p)))

-- a node
unfoldable pub flow_at : List ℕ → Collections → Reader
flow_at text brackets es i =
    option_and_then (λ x. flow_behind text brackets es i x.0 x.1) (names_at text true i)

-- a value, or nothing
abbrev pub value_step : List ℕ → Reader → List Marked → (i : ℕ) → (ends : Bool) → Read
value_step text flow es i true = Some (and_node es (nothing_here text i), i)
value_step text flow es i false = flow es i

unfoldable pub value_at : List ℕ → Reader → Reader
value_at text flow es i = value_step text flow es i (is_one_of (codes ",]}") (at text i))

-- the value of a key that was read, if its `:` stands there
abbrev pub pair_step : List ℕ → Reader → List Marked → (k : ℕ) → (colon : Bool) → Read
pair_step text flow es k true = value_at text flow es (next text (suc (next text k)))
pair_step text flow es k false = None

-- a key, `:` and its value
unfoldable pub pair_at : List ℕ → Reader → Reader
pair_at text flow es i = and_then (flow es i) (λ ks k. pair_step text flow ks k (has_colon text i k))

-- an entry whose key was read
abbrev pub entry_step : List ℕ → Reader → List Marked → (k : ℕ) → (colon : Bool) → Read
entry_step text flow es k true = value_at text flow es (next text (suc (next text k)))
entry_step text flow es k false = Some (and_node es (nothing_here text (next text k)), k)

-- an entry: a pair, or a key alone
unfoldable pub entry_at : List ℕ → Reader → Reader
entry_at text flow es i = and_then (flow es i) (λ ks k. entry_step text flow ks k (has_colon text i k))

-- an item that begins here and ends in a place is the key of a pair: no collection, and `:` stands behind it
abbrev pub is_pair : List ℕ → (i k : ℕ) → Bool
is_pair text i k = not (begins_collection text i) && has_colon text i k

-- an item that was read as a node, or is a pair whose key that is
abbrev pub item_step : Reader → List Marked → (i : ℕ) → List Marked → (k : ℕ) → (key : Bool) → Read
item_step pair es i ks k true = pair es i
item_step pair es i ks k false = Some (ks, k)

unfoldable pub item_at : List ℕ → (flow pair : Reader) → Reader
item_at text flow pair es i = and_then (flow es i) (λ ks k. item_step pair es i ks k (is_pair text i k))

-- a pair as a mapping of its own
abbrev pub pair_begun : List ℕ → List Marked → (i : ℕ) → List Marked
pair_begun text es i = and_event es (mapping_start None None, mark text i)

abbrev pub pair_ended : List ℕ → Read → Read
pair_ended text r = option_map (λ x. (and_event x.0 (mapping_end, mark text (next text x.1)), x.1)) r

-- the parts from one that was read on
abbrev pub parts_then : List ℕ → (close : ℕ) → Reader → Read → Read
parts_then text close more r = and_then r (λ es j. option_and_then (more es) (part_after text close (next text j)))

abbrev pub parts_step : List ℕ → (close : ℕ) → (part more : Reader) → List Marked → (i : ℕ) → (closes : Bool) → Read
parts_step text close part more es i true = Some (es, i)
parts_step text close part more es i false = parts_then text close more (part es i)

-- the parts from a token on, up to the bracket that closes
unfoldable pub parts_at : List ℕ → (close : ℕ) → (part : Reader) → (turns : ℕ) → Reader
parts_at text close part zero es i = parts_step text close part no_more es i (at text i == close)
parts_at text close part (suc n) es i = parts_step text close part (parts_at text close part n) es i
    (at text i == close)

-- the events of a collection, with the one that ends it
abbrev pub closed_by : List ℕ → PlainEvent → Read → Read
closed_by text e r = option_map (λ x. (and_event x.0 (e, mark text x.1), suc x.1)) r

-- a collection by its bracket
abbrev pub brackets_step : List ℕ → (item entry : Reader) → Names → (i : ℕ) → List Marked → (k : ℕ)
    → (square curly : Bool) → Read
brackets_step text item entry names i es k true curly =
    closed_by text sequence_end
    (parts_at text 93 item (length text) (and_event es (sequence_start names.anchor names.tag, mark text i))
    (next text (suc k)))
brackets_step text item entry names i es k false true =
    closed_by text mapping_end
    (parts_at text 125 entry (length text) (and_event es (mapping_start names.anchor names.tag, mark text i))
    (next text (suc k)))
brackets_step text item entry names i es k false false = None

unfoldable mutual
  -- the collections in brackets within so many nestings
  pub brackets_at : List ℕ → (nestings : ℕ) → Collections
  brackets_at text zero names i es k = None
  brackets_at text (suc d) names i es k =
      let flow = flow_at text (brackets_at text d) in
      brackets_step text (item_at text flow (pair_item_at text d)) (entry_at text flow) names i es k
      (at text k == 91) (at text k == 123)

  -- a pair as a mapping of its own, within so many nestings
  pub pair_item_at : List ℕ → (nestings : ℕ) → Reader
  pair_item_at text zero es i = None
  pair_item_at text (suc d) es i =
      pair_ended text (pair_at text (flow_at text (brackets_at text d)) (pair_begun text es i) i)
