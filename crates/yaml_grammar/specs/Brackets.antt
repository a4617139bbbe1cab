-- What stands in brackets. Each relation holds of a text, so many nestings that are left, the place where something
-- begins and the one behind it, and what it is.
use Rattle.std.specs.Prelude.{ℕ, suc, ◌+◌, ◌≡◌, Bool, true, false, ◌==◌, ◌&&◌, ◌||◌, if◌then◌else◌, List, [], nat_le}
use Rattle.std.specs.Prelude.{Option, Some, None, codes, nat_lt, slice_range}
use Rattle.yaml_grammar.specs.Bytes.{at, is_one_line, is_one_of}
use Rattle.yaml_grammar.specs.Gaps.{breaks, next}
use Rattle.yaml_grammar.specs.Leaves.{Leaf, leaf_at, leaf_node}
use Rattle.yaml_grammar.specs.Names.{Names, names_at, unnamed}
use Rattle.yaml_grammar.specs.Nodes.{Node, Nodes, Pairs, mapping, mark, no_content, no_nodes, no_pairs, node, pair}
use Rattle.yaml_grammar.specs.Nodes.{sequence}
use Rattle.yaml_grammar.specs.Plain.{in_brackets}

-- the place of the next part, behind `,`, or of the bracket that closes the collection
abbrev pub part_after : List ℕ → (close i : ℕ) → Option ℕ
part_after text close i =
    if at text i == close then Some i else if at text i == 44 then Some (next text (suc i)) else None

-- the `:` of a key that begins and ends in these places stands in its line, and at most 1,024 bytes behind its
-- beginning
abbrev pub has_colon : List ℕ → (i end : ℕ) → Bool
has_colon text i end =
    let colon = next text end in
    at text colon == 58 && (is_one_line text i colon && nat_le colon (i + 1024))

-- a bracket stands behind these names, if there are any, and opens a collection
abbrev pub opens_behind : List ℕ → Option (Names × ℕ) → Bool
opens_behind text None = false
opens_behind text (Some named) = let c = at text (next text named.1) in c == 91 || c == 123

-- a collection begins here, with its names or without
abbrev pub begins_collection : List ℕ → ℕ → Bool
begins_collection text i = opens_behind text (names_at text true i)

-- no content stands here
abbrev pub nothing_here : List ℕ → ℕ → Node
nothing_here text i = no_content (mark text i) unnamed []

module _ (text : List ℕ) where
  mutual
    -- a node: a leaf or a collection behind its names, or names alone
    pub data FlowNode : (nestings i j : ℕ) → Node → Type 0 where
      flow_leaf : {d i p e : ℕ} {names : Names} {x : Leaf} {n : Node} → names_at text true i ≡ Some (names, p)
          → breaks text p ≡ false → leaf_at text in_brackets (next text p) ≡ Some (x, e)
          → leaf_node text i names x e ≡ Some n → FlowNode d i e n
      flow_collection : {d i p e : ℕ} {names : Names} {n : Node} → names_at text true i ≡ Some (names, p)
          → breaks text p ≡ false → Brackets d i names (next text p) e n → FlowNode d i e n
      flow_names : {d i p : ℕ} {names : Names} → names_at text true i ≡ Some (names, p) → nat_lt i p ≡ true
          → breaks text p ≡ false → is_one_of (codes ",]}:") (at text (next text p)) ≡ true
          → FlowNode d i p (no_content (mark text i) names (slice_range text i p))

    -- a collection whose names begin in a place, and whose bracket stands in another
    pub data Brackets : (nestings i : ℕ) → Names → (k j : ℕ) → Node → Type 0 where
      square : {d i k e : ℕ} {names : Names} {ns : Nodes} → at text k ≡ 91 → FlowItems d (next text (suc k)) e ns
          → Brackets (suc d) i names k (suc e) (sequence (mark text i) names ns (mark text e))
      curly : {d i k e : ℕ} {names : Names} {ps : Pairs} → at text k ≡ 123 → FlowEntries d (next text (suc k)) e ps
          → Brackets (suc d) i names k (suc e) (mapping (mark text i) names ps (mark text e))

    -- the items from a token on, up to the bracket that closes the sequence
    pub data FlowItems : (nestings i e : ℕ) → Nodes → Type 0 where
      no_flow_item : {d i : ℕ} → at text i ≡ 93 → FlowItems d i i no_nodes
      a_flow_item : {d i j k e : ℕ} {n : Node} {ns : Nodes} → FlowItem d i j n
          → part_after text 93 (next text j) ≡ Some k → FlowItems d k e ns → FlowItems d i e (node n ns)

    -- an item: a node, or a pair whose key is no collection, which is a mapping
    pub data FlowItem : (nestings i j : ℕ) → Node → Type 0 where
      a_single : {d i j : ℕ} {n : Node} → FlowNode d i j n → FlowItem d i j n
      a_pair : {d i j : ℕ} {m n : Node} → begins_collection text i ≡ false → FlowPair d i j m n
          → FlowItem (suc d) i j (mapping (mark text i) unnamed (pair m n no_pairs) (mark text (next text j)))

    -- a key in a line, `:`, and its value
    pub data FlowPair : (nestings i j : ℕ) → (key value : Node) → Type 0 where
      key_and_value : {d i k j : ℕ} {m n : Node} → FlowNode d i k m → has_colon text i k ≡ true
          → FlowValue d (next text (suc (next text k))) j n → FlowPair d i j m n

    -- a value, which may be nothing
    pub data FlowValue : (nestings i j : ℕ) → Node → Type 0 where
      a_flow_value : {d i j : ℕ} {n : Node} → FlowNode d i j n → FlowValue d i j n
      no_flow_value : {d i : ℕ} → is_one_of (codes ",]}") (at text i) ≡ true → FlowValue d i i (nothing_here text i)

    -- the entries from a token on, up to the bracket that closes the mapping
    pub data FlowEntries : (nestings i e : ℕ) → Pairs → Type 0 where
      no_flow_entry : {d i : ℕ} → at text i ≡ 125 → FlowEntries d i i no_pairs
      a_flow_entry : {d i j k e : ℕ} {m n : Node} {ps : Pairs} → FlowEntry d i j m n
          → part_after text 125 (next text j) ≡ Some k → FlowEntries d k e ps → FlowEntries d i e (pair m n ps)

    -- an entry: a pair, or a key alone
    pub data FlowEntry : (nestings i j : ℕ) → (key value : Node) → Type 0 where
      whole_entry : {d i j : ℕ} {m n : Node} → FlowPair d i j m n → FlowEntry d i j m n
      flow_key_alone : {d i j : ℕ} {m : Node} → FlowNode d i j m → FlowEntry d i j m (nothing_here text (next text j))
