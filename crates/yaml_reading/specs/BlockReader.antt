-- A reader of nodes that stand by columns.
use Rattle.std.specs.Prelude.{ℕ, zero, suc, Bool, true, false, not, ◌==◌, ◌&&◌, ◌||◌, List, [], length}
use Rattle.std.specs.Prelude.{Option, Some, None, is_some, nat_lt, option_and_then, option_map}
use Rattle.yaml_base.specs.PlainEvent.{PlainEvent, mapping_end, mapping_start, sequence_end, sequence_start}
use Rattle.yaml_grammar.specs.BlockTexts.{block_at}
use Rattle.yaml_grammar.specs.Blocks.{Room, anything, block_style, ends_key, is_own, is_value, later, part}
use Rattle.yaml_grammar.specs.Blocks.{takes_columns, value}
use Rattle.yaml_grammar.specs.Brackets.{nothing_here}
use Rattle.yaml_grammar.specs.Bytes.{at, column, is_mark, is_over}
use Rattle.yaml_grammar.specs.Gaps.{breaks, ends_its_line, is_at, is_item, is_within, next}
use Rattle.yaml_grammar.specs.Leaves.{leaf_at}
use Rattle.yaml_grammar.specs.Names.{Names, names_at, unnamed}
use Rattle.yaml_grammar.specs.Nodes.{Marked, end_mark, mark, no_content, scalar_at}
use Rattle.yaml_grammar.specs.Plain.{as_key, by_columns}
use Rattle.yaml_reading.specs.BracketReader.{brackets_at, names_step}
use Rattle.yaml_reading.specs.Readers.{Collections, Read, Reader, alone, and_event, and_node, and_then, no_more, opens}
use Rattle.yaml_reading.specs.Readers.{with_leaf}

-- which collection
pub data Kind : Type 0 where
  items entries : Kind

-- a reader of the collections in a column
abbrev pub Columns : Type 0
Columns = Kind → Names → (start column' : ℕ) → Reader

-- what was read as a key, and the place of its `:`, if that stands there
abbrev pub colon_step : List ℕ → List Marked → (k : ℕ) → (colon : Bool) → Read
colon_step text es k true = Some (es, next text k)
colon_step text es k false = None

abbrev pub with_colon : List ℕ → (i : ℕ) → Read → Read
with_colon text i r = and_then r (λ es k. colon_step text es k (ends_key text i k))

-- what stands behind the names of a key: nothing in their line, a collection, the key's `:`, or a leaf
abbrev pub key_step : List ℕ → Collections → List Marked → (i : ℕ) → Names → (p : ℕ) → (broken opened ends : Bool)
    → Read
key_step text brackets es i names p true opened ends = None
key_step text brackets es i names p false true ends = with_colon text i (brackets names i es (next text p))
key_step text brackets es i names p false false true = Some (and_node es (alone text i p names), next text p)
key_step text brackets es i names p false false false =
    with_colon text i (with_leaf text es i names (leaf_at text as_key (next text p)))

unfoldable pub key_behind : List ℕ → Collections → List Marked → (i : ℕ) → Names → (p : ℕ) → Read
key_behind text brackets es i names p =
    key_step text brackets es i names p (breaks text p) (opens (at text (next text p)))
    (nat_lt i p && ends_key text i p)

-- a key in a line, and the place of its `:`
unfoldable pub key_at : List ℕ → Collections → Reader
key_at text brackets es i =
    option_and_then (λ x. key_behind text brackets es i x.0 x.1) (names_at text false i)

-- an entry begins here
unfoldable pub begins_entry : List ℕ → Collections → (i : ℕ) → Bool
begins_entry text brackets i =
    not (is_over text i) && (is_mark text 63 i || is_some (key_at text brackets [] i))

-- what ends its line, and the next token
abbrev pub line_step : List ℕ → List Marked → (e : ℕ) → (ends : Bool) → Read
line_step text es e true = Some (es, next text e)
line_step text es e false = None

abbrev pub with_line_end : List ℕ → Read → Read
with_line_end text r = and_then r (λ es e. line_step text es e (ends_its_line text e))

-- a block of lines
abbrev pub with_block : List ℕ → List Marked → (i : ℕ) → Names → (q : ℕ) → Option (ℕ × List ℕ) → Read
with_block text es i names q block =
    option_map (λ b. (and_node es (scalar_at text i names (block_style (at text q)) b.1 b.0), next text b.0)) block

-- what is no collection by columns, behind names: a collection in brackets, a block of lines, or a leaf
abbrev pub content_step : List ℕ → Collections → (least : ℕ) → List Marked → (i : ℕ) → Names → (q : ℕ)
    → (opened lines : Bool) → Read
content_step text brackets least es i names q true lines = with_line_end text (brackets names i es q)
content_step text brackets least es i names q false true = with_block text es i names q (block_at text least q)
content_step text brackets least es i names q false false =
    with_line_end text (with_leaf text es i names (leaf_at text (by_columns least) q))

unfoldable pub content_at : List ℕ → Collections → (least : ℕ) → List Marked → (i : ℕ) → Names → (q : ℕ) → Read
content_at text brackets least es i names q =
    content_step text brackets least es i names q (opens (at text q)) (at text q == 124 || at text q == 62)

-- a collection by columns, where one may begin
abbrev pub in_room : (takes : Bool) → Read → Read
in_room true r = r
in_room false r = None

-- a node in the line of its names: a sequence, a mapping, or something else
abbrev pub here_step : List ℕ → Columns → Collections → (least : ℕ) → Room → List Marked → (i : ℕ) → Names → (p : ℕ)
    → (dash entry : Bool) → Read
here_step text columns brackets least room es i names p true entry =
    in_room (takes_columns room) (columns items unnamed i (column text i) es i)
here_step text columns brackets least room es i names p false true =
    in_room (takes_columns room) (columns entries unnamed i (column text i) es i)
here_step text columns brackets least room es i names p false false =
    content_at text brackets least es i names (next text p)

-- a node behind the line of its names: nothing, a sequence, a mapping, or something else
abbrev pub later_step : List ℕ → Columns → Collections → (least : ℕ) → List Marked → (i : ℕ) → Names → (p : ℕ)
    → (follows dash within entry : Bool) → Read
later_step text columns brackets least es i names p false dash within entry =
    and_then (names_step text es i p names (nat_lt i p)) (λ ks k. Some (ks, next text k))
later_step text columns brackets least es i names p true true within entry =
    columns items names i (column text (next text p)) es (next text p)
later_step text columns brackets least es i names p true false false entry = None
later_step text columns brackets least es i names p true false true true =
    columns entries names i (column text (next text p)) es (next text p)
later_step text columns brackets least es i names p true false true false =
    content_at text brackets least es i names (next text p)

abbrev pub node_step : List ℕ → Columns → Collections → (least : ℕ) → Room → List Marked → (i : ℕ) → Names → (p : ℕ)
    → (ends : Bool) → Read
node_step text columns brackets least room es i names p false =
    here_step text columns brackets least room es i names p (is_mark text 45 i) (begins_entry text brackets i)
node_step text columns brackets least room es i names p true =
    later_step text columns brackets least es i names p
    (is_within text least (next text p) || is_own text room least (next text p)) (is_mark text 45 (next text p))
    (is_within text least (next text p)) (begins_entry text brackets (next text p))

unfoldable pub node_behind : List ℕ → Columns → Collections → (least : ℕ) → Room → List Marked → (i : ℕ) → Names
    → (p : ℕ) → Read
node_behind text columns brackets least room es i names p =
    node_step text columns brackets least room es i names p (ends_its_line text p)

-- a node, whose further lines stand in a column or further in
unfoldable pub node_at : List ℕ → Columns → Collections → (least : ℕ) → Room → Reader
node_at text columns brackets least room es i =
    option_and_then (λ x. node_behind text columns brackets least room es i x.0 x.1) (names_at text false i)

-- what stands behind an indicator, before whose next token the line ends or not
abbrev pub behind_step : List ℕ → Columns → Collections → (column' : ℕ) → Room → List Marked → (i : ℕ)
    → (ends within own : Bool) → Read
behind_step text columns brackets c room es i false within own =
    node_at text columns brackets (suc c) room es (next text i)
behind_step text columns brackets c room es i true true own =
    node_at text columns brackets (suc c) (later room) es (next text i)
behind_step text columns brackets c room es i true false true = columns items unnamed (next text i) c es (next text i)
behind_step text columns brackets c room es i true false false = Some (and_node es (nothing_here text i), next text i)

unfoldable pub behind_at : List ℕ → Columns → Collections → (column' : ℕ) → Room → Reader
behind_at text columns brackets c room es i =
    behind_step text columns brackets c room es i (ends_its_line text i) (is_within text (suc c) (next text i))
    (is_own text room (suc c) (next text i))

-- the parts of a collection in a column, from a token on
abbrev pub column_step : (one more : Reader) → List Marked → (i : ℕ) → (here within : Bool) → Read
column_step one more es i true within = and_then (one es i) more
column_step one more es i false true = None
column_step one more es i false false = Some (es, i)

unfoldable pub column_at : List ℕ → (is_here : ℕ → Bool) → (one : Reader) → (column' turns : ℕ) → Reader
column_at text is_here one c zero es i = column_step one no_more es i (is_here i) (is_within text (suc c) i)
column_at text is_here one c (suc n) es i =
    column_step one (column_at text is_here one c n) es i (is_here i) (is_within text (suc c) i)

-- an item behind its `-`
abbrev pub item_behind : Reader → Reader
item_behind behind es i = behind es (suc i)

-- the value of a key behind `?`, if there is one
abbrev pub marked_step : List ℕ → Reader → (column' : ℕ) → List Marked → (k : ℕ) → (colon : Bool) → Read
marked_step text behind c es k true = behind es (suc k)
marked_step text behind c es k false = Some (and_node es (no_content (end_mark text c k) unnamed []), k)

-- an entry
abbrev pub entry_step : List ℕ → (key : Reader) → (behind : Room → Reader) → (column' : ℕ) → List Marked → (i : ℕ)
    → (marked : Bool) → Read
entry_step text key behind c es i true =
    and_then (behind part es (suc i)) (λ ks k. marked_step text (behind part) c ks k (is_value text c k))
entry_step text key behind c es i false = and_then (key es i) (λ ks k. behind value ks (suc k))

unfoldable pub entry_at : List ℕ → (key : Reader) → (behind : Room → Reader) → (column' : ℕ) → Reader
entry_at text key behind c es i = entry_step text key behind c es i (is_mark text 63 i)

-- the events of a collection in a column, with the one that ends it
abbrev pub ended_by : List ℕ → PlainEvent → (column' : ℕ) → Read → Read
ended_by text e c r = option_map (λ x. (and_event x.0 (e, end_mark text c x.1), x.1)) r

-- the collections by columns within so many nestings
unfoldable pub columns_at : List ℕ → (nestings : ℕ) → Columns
columns_at text zero kind names start c es i = None
columns_at text (suc d) items names start c es i =
    ended_by text sequence_end c
    (column_at text (is_item text c) (item_behind
    (behind_at text (columns_at text d) (brackets_at text d) c anything)) c
    (length text) (and_event es (sequence_start names.anchor names.tag, mark text start)) i)
columns_at text (suc d) entries names start c es i =
    ended_by text mapping_end c
    (column_at text (is_at text c)
    (entry_at text (key_at text (brackets_at text d)) (behind_at text (columns_at text d) (brackets_at text d) c) c) c
    (length text) (and_event es (mapping_start names.anchor names.tag, mark text start)) i)
