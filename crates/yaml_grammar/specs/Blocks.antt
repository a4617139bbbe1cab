-- Nodes that stand by columns. Each relation holds of a text, so many nestings that are left, the place where something
-- begins, the place of the first token behind it, and what it is.
use Rattle.std.specs.Prelude.{ℕ, suc, ◌-◌, ◌≡◌, Bool, true, false, ◌==◌, ◌&&◌, ◌||◌, if◌then◌else◌, List, []}
use Rattle.std.specs.Prelude.{Some, nat_lt, slice_range}
use Rattle.yaml_base.specs.declared.event.ScalarStyle.{ScalarStyle}
use Rattle.yaml_base.specs.declared.event.ScalarStyle.TheVariants as style
use Rattle.yaml_grammar.specs.BlockTexts.{block_at}
use Rattle.yaml_grammar.specs.Brackets.{Brackets, has_colon, nothing_here}
use Rattle.yaml_grammar.specs.Bytes.{at, column, is_mark, is_over}
use Rattle.yaml_grammar.specs.Gaps.{breaks, ends_its_line, follows, is_at, is_item, is_within, next}
use Rattle.yaml_grammar.specs.Leaves.{Leaf, leaf_at, leaf_node}
use Rattle.yaml_grammar.specs.Names.{Names, names_at, unnamed}
use Rattle.yaml_grammar.specs.Nodes.{Node, Nodes, Pairs, end_mark, mapping, mark, no_content, no_nodes, no_pairs, node}
use Rattle.yaml_grammar.specs.Nodes.{pair, scalar_at, sequence}
use Rattle.yaml_grammar.specs.Plain.{as_key, by_columns}

-- Where a node stands: at the beginning of a line or behind `-`, where it may be anything; behind `?` or such a key's
-- `:`, where it may also be a sequence in the mapping's own column; or behind the `:` of a key in a line, where it may
-- too, but where no collection by columns begins in the same line.
pub data Room : Type 0 where
  anything : Room
  part : Room
  value : Room

-- a collection by columns may begin here, in the line
abbrev pub takes_columns : Room → Bool
takes_columns anything = true
takes_columns part = true
takes_columns value = false

-- the room in a later line
abbrev pub later : Room → Room
later anything = anything
later part = part
later value = part

-- the room is in a mapping
abbrev pub is_of_mapping : Room → Bool
is_of_mapping anything = false
is_of_mapping part = true
is_of_mapping value = true

-- a sequence begins here that is a part of a mapping and stands in the column of that
abbrev pub is_own : List ℕ → Room → (least i : ℕ) → Bool
is_own text room least i = is_of_mapping room && (nat_lt 0 least && is_item text (least - 1) i)

-- the style of a block of lines
abbrev pub block_style : (byte : ℕ) → ScalarStyle
block_style c = if c == 62 then style.Folded else style.Literal

-- the `:` of a key that begins and ends in these places, as an indicator
abbrev pub ends_key : List ℕ → (i end : ℕ) → Bool
ends_key text i end = has_colon text i end && is_mark text 58 (next text end)

-- `:` stands here as an indicator in a column
abbrev pub is_value : List ℕ → (column' i : ℕ) → Bool
is_value text c i = is_mark text 58 i && is_at text c i

module _ (text : List ℕ) where
  -- a key in a line, and the place of its `:`
  pub data Key : (nestings i colon : ℕ) → Node → Type 0 where
    leaf_key : {d i p e : ℕ} {names : Names} {x : Leaf} {n : Node} → names_at text false i ≡ Some (names, p)
        → breaks text p ≡ false → leaf_at text as_key (next text p) ≡ Some (x, e)
        → leaf_node text i names x e ≡ Some n → ends_key text i e ≡ true → Key d i (next text e) n
    collection_key : {d i p e : ℕ} {names : Names} {n : Node} → names_at text false i ≡ Some (names, p)
        → breaks text p ≡ false → Brackets text d i names (next text p) e n → ends_key text i e ≡ true
        → Key d i (next text e) n
    names_key : {d i p : ℕ} {names : Names} → names_at text false i ≡ Some (names, p) → nat_lt i p ≡ true
        → breaks text p ≡ false → ends_key text i p ≡ true
        → Key d i (next text p) (no_content (mark text i) names (slice_range text i p))

  mutual
    -- a node, whose further lines stand in a column or further in
    pub data BlockNode : (nestings least : ℕ) → Room → (i j : ℕ) → Node → Type 0 where
      -- a leaf, a block of lines or a collection in brackets, behind its names
      a_leaf : {d least i p e : ℕ} {room : Room} {names : Names} {x : Leaf} {n : Node}
          → names_at text false i ≡ Some (names, p) → follows text least p ≡ true
          → leaf_at text (by_columns least) (next text p) ≡ Some (x, e) → leaf_node text i names x e ≡ Some n
          → ends_its_line text e ≡ true → BlockNode d least room i (next text e) n
      a_block : {d least i p e : ℕ} {room : Room} {names : Names} {said : List ℕ}
          → names_at text false i ≡ Some (names, p) → follows text least p ≡ true
          → block_at text least (next text p) ≡ Some (e, said) → BlockNode d least room i (next text e)
          (scalar_at text i names (block_style (at text (next text p))) said e)
      a_collection : {d least i p e : ℕ} {room : Room} {names : Names} {n : Node}
          → names_at text false i ≡ Some (names, p) → follows text least p ≡ true
          → Brackets text d i names (next text p) e n → ends_its_line text e ≡ true
          → BlockNode d least room i (next text e) n
      -- a sequence or a mapping whose first part begins here
      a_sequence : {d least i j : ℕ} {room : Room} {ns : Nodes} → takes_columns room ≡ true → is_mark text 45 i ≡ true
          → Items d (column text i) i j ns
          → BlockNode (suc d) least room i j (sequence (mark text i) unnamed ns (end_mark text (column text i) j))
      a_mapping : {d least i j : ℕ} {room : Room} {ps : Pairs} → takes_columns room ≡ true → is_over text i ≡ false
          → Entries d (column text i) i j ps
          → BlockNode (suc d) least room i j (mapping (mark text i) unnamed ps (end_mark text (column text i) j))
      -- a sequence or a mapping in a line behind that of its names
      named_sequence : {d least i p j : ℕ} {room : Room} {names : Names} {ns : Nodes}
          → names_at text false i ≡ Some (names, p) → ends_its_line text p ≡ true
          → (is_within text least (next text p) || is_own text room least (next text p)) ≡ true
          → is_mark text 45 (next text p) ≡ true → Items d (column text (next text p)) (next text p) j ns
          → BlockNode (suc d) least room i j
          (sequence (mark text i) names ns (end_mark text (column text (next text p)) j))
      named_mapping : {d least i p j : ℕ} {room : Room} {names : Names} {ps : Pairs}
          → names_at text false i ≡ Some (names, p) → ends_its_line text p ≡ true
          → is_within text least (next text p) ≡ true → Entries d (column text (next text p)) (next text p) j ps
          → BlockNode (suc d) least room i j
          (mapping (mark text i) names ps (end_mark text (column text (next text p)) j))
      -- names alone
      names_alone : {d least i p : ℕ} {room : Room} {names : Names} → names_at text false i ≡ Some (names, p)
          → nat_lt i p ≡ true → ends_its_line text p ≡ true → is_within text least (next text p) ≡ false
          → is_own text room least (next text p) ≡ false
          → BlockNode d least room i (next text p) (no_content (mark text i) names (slice_range text i p))

    -- what stands behind an indicator of a collection in a column: a node in its line, a node in a later line and
    -- further in, a sequence in the mapping's own column, or nothing
    pub data Behind : (nestings column' : ℕ) → Room → (i j : ℕ) → Node → Type 0 where
      in_its_line : {d c i j : ℕ} {room : Room} {n : Node} → ends_its_line text i ≡ false
          → BlockNode d (suc c) room (next text i) j n → Behind d c room i j n
      in_a_later_line : {d c i j : ℕ} {room : Room} {n : Node} → ends_its_line text i ≡ true
          → is_within text (suc c) (next text i) ≡ true → BlockNode d (suc c) (later room) (next text i) j n
          → Behind d c room i j n
      in_its_own_column : {d c i j : ℕ} {room : Room} {ns : Nodes} → ends_its_line text i ≡ true
          → is_own text room (suc c) (next text i) ≡ true → Items d c (next text i) j ns
          → Behind (suc d) c room i j (sequence (mark text (next text i)) unnamed ns (end_mark text c j))
      nothing : {d c i : ℕ} {room : Room} → ends_its_line text i ≡ true → is_within text (suc c) (next text i) ≡ false
          → is_own text room (suc c) (next text i) ≡ false → Behind d c room i (next text i) (nothing_here text i)

    -- the items of a sequence in a column, from a token on
    pub data Items : (nestings column' i j : ℕ) → Nodes → Type 0 where
      no_item : {d c i : ℕ} → is_item text c i ≡ false → is_within text (suc c) i ≡ false → Items d c i i no_nodes
      an_item : {d c i k j : ℕ} {n : Node} {ns : Nodes} → is_item text c i ≡ true
          → Behind d c anything (suc i) k n → Items d c k j ns → Items d c i j (node n ns)

    -- the entries of a mapping in a column, from a token on
    pub data Entries : (nestings column' i j : ℕ) → Pairs → Type 0 where
      no_entry : {d c i : ℕ} → is_at text c i ≡ false → is_within text (suc c) i ≡ false → Entries d c i i no_pairs
      an_entry : {d c i k j : ℕ} {m n : Node} {ps : Pairs} → is_at text c i ≡ true → Entry d c i k m n
          → Entries d c k j ps → Entries d c i j (pair m n ps)

    -- an entry: a key in a line and its value, or a key behind `?` and its value behind `:` or none
    pub data Entry : (nestings column' i j : ℕ) → (key value : Node) → Type 0 where
      in_line : {d c i k j : ℕ} {m n : Node} → Key d i k m → Behind d c value (suc k) j n → Entry d c i j m n
      with_marks : {d c i k j : ℕ} {m n : Node} → is_mark text 63 i ≡ true → Behind d c part (suc i) k m
          → is_value text c k ≡ true → Behind d c part (suc k) j n → Entry d c i j m n
      key_alone : {d c i k : ℕ} {m : Node} → is_mark text 63 i ≡ true → Behind d c part (suc i) k m
          → is_value text c k ≡ false → Entry d c i k m (no_content (end_mark text c k) unnamed [])
