-- What a reader adds.
use Rattle.std.specs.Prelude.{ℕ, List, ◌≡◌, ◌++◌, ◌∷◌, [], ◌≤◌, ◌+◌, ◌-◌, false, true, Option, None, Some, slice_range}
use Rattle.std.specs.Prelude.{Bool, ◌==◌, ◌||◌}
use Rattle.yaml_base.specs.PlainEvent.{PlainEvent, mapping_start, scalar, sequence_start}
use Rattle.yaml_base.specs.declared.event.ScalarStyle.{ScalarStyle}
use Rattle.yaml_base.specs.declared.event.ScalarStyle.TheVariants as style
use Rattle.yaml_direct.specs.Bytes.{at, is_gap, AreBlanks}
use Rattle.yaml_direct.specs.Held.{IsUnnamed, names_of}
use Rattle.yaml_direct.specs.Lines.{PlainLine}
use Rattle.yaml_direct.specs.PlainTexts.{ends_plain}
use Rattle.yaml_direct.specs.Tokens.{IsBehindLine, IsCounted}
use Rattle.yaml_direct.specs.declared.reader.Reader.{Reader}
use Rattle.yaml_grammar.specs.BlockTexts.{block_at}
use Rattle.yaml_grammar.specs.Blocks.{block_style}
use Rattle.yaml_grammar.specs.Gaps.{next}
use Rattle.yaml_grammar.specs.Leaves.{Leaf, leaf_at, leaf_node}
use Rattle.yaml_grammar.specs.Names.{Names}
use Rattle.yaml_grammar.specs.Nodes.{Node, node_events}
use Rattle.yaml_grammar.specs.Plain.{Context, by_columns, in_brackets, plain_at}
use Rattle.yaml_tape.specs.Pushes.{marked_on}
use Rattle.yaml_tape.specs.OnTape.{anchor_in, position_at, tag_in}
use Rattle.yaml_tape.specs.declared.entry.EntryKind.{EntryKind}
use Rattle.yaml_tape.specs.declared.entry.EntryKind.TheVariants as kind
use Rattle.yaml_tape.specs.declared.entry.Names as tape
use Rattle.yaml_tape.specs.declared.entry.Spot.{Spot}

-- one event more, with its mark
abbrev pub Adds : (old new : Reader) → PlainEvent → Spot → Type 0
Adds old new event spot =
    marked_on new.tape ≡ marked_on old.tape ++ (event, position_at old.text.now spot.index spot.late) ∷ []

-- the event with which a collection begins that has such names
abbrev pub start_event : EntryKind → Option tape.Names → PlainEvent
start_event kind.SequenceStart n = sequence_start (anchor_in n) (tag_in n)
start_event k n = mapping_start (anchor_in n) (tag_in n)

-- a scalar with the names that were held, and with this text, whose source ends in a place
pub record AddsScalar (old new : Reader) (text : List ℕ) (style : ScalarStyle) (end : ℕ) : Type 0 where
  pub added : Adds old new (scalar (record {
    anchor = old.names.anchor;
    tag = old.names.tag;
    text = text;
    style = style;
    source = Some (slice_range old.text.now old.start.index end);
  })) old.start
  pub unnamed : IsUnnamed new

-- the events of a node, and no names are held behind it
pub record AddsNode (old new : Reader) (node : Node) : Type 0 where
  pub events : marked_on new.tape ≡ marked_on old.tape ++ node_events node
  pub unnamed : IsUnnamed new

-- a leaf that stands in a place and ends before another, behind the names that were held, was added as it is defined
pub record AddsLeaf (old new : Reader) (context : Context) (from end : ℕ) : Type 0 where
  pub leaf : Leaf
  pub node : Node
  pub read : leaf_at old.text.now context from ≡ Some (leaf, end)
  pub is : leaf_node old.text.now old.start.index (names_of old) leaf end ≡ Some node
  pub added : AddsNode old new node

-- no leaf stands in a place, or none behind such names
abbrev pub HasNoLeaf : List ℕ → Context → Names → (from : ℕ) → Type 0
HasNoLeaf text context names from =
    (leaf : Leaf) (end : ℕ) → leaf_at text context from ≡ Some (leaf, end) → (start : ℕ)
    → leaf_node text start names leaf end ≡ None

-- a key that is plain text in a line, and its `:`, at most 1,024 bytes behind its beginning
pub record AddsPlainKey (old new : Reader) (place colon : ℕ) : Type 0 where
  pub end : ℕ
  pub line : PlainLine old.text.now false place end
  pub added : AddsScalar old new (slice_range old.text.now place end) style.Plain end
  pub blanks : AreBlanks old.text.now end colon
  pub mark : at old.text.now colon ≡ 58
  pub apart : is_gap old.text.now (colon + 1) ≡ true
  pub near : colon ≤ place + 1024

-- plain text that begins in a place was added as it is defined, and the next token stands in another
pub record AddsPlain (old new : Reader) (least from to : ℕ) : Type 0 where
  pub end : ℕ
  pub said : List ℕ
  pub low : from ≤ end
  pub read : plain_at old.text.now (by_columns least) from ≡ Some (end - from, said)
  pub added : AddsScalar old new said style.Plain end
  pub behind : IsBehindLine old.text.now new end to
  pub ends : ends_plain old.text.now least end ≡ true

-- plain text over lines in brackets that begins in a place was added as it is defined, and the next token stands in
-- another
pub record AddsFlow (old new : Reader) (from to : ℕ) : Type 0 where
  pub end : ℕ
  pub said : List ℕ
  pub low : from ≤ end
  pub read : plain_at old.text.now in_brackets from ≡ Some (end - from, said)
  pub added : AddsScalar old new said style.Plain end
  pub there : to ≡ next old.text.now end

-- a block of lines begins with such a byte
abbrev pub begins_block : ℕ → Bool
begins_block c = c == 124 || c == 62

-- a block of lines that stands in a place was added as it is defined, and the next token stands in another
pub record AddsBlock (old new : Reader) (least from to : ℕ) : Type 0 where
  pub end : ℕ
  pub said : List ℕ
  pub read : block_at old.text.now least from ≡ Some (end, said)
  pub added : AddsScalar old new said (block_style (at old.text.now from)) end
  pub there : to ≡ next old.text.now end
  pub counted : IsCounted new to

-- no block of lines stands in a place, or one behind which a tab is the next token
abbrev pub LeavesBlock : List ℕ → (least from : ℕ) → Type 0
LeavesBlock text least from =
    (end : ℕ) (said : List ℕ) → block_at text least from ≡ Some (end, said) → at text (next text end) ≡ 9
