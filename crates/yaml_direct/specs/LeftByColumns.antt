-- What does not stand by columns, in the words of the grammar.
use Rattle.std.specs.Prelude.{ℕ, suc, ◌≡◌, ◌≢◌, ◌<◌, ◌≤◌, ◌⊎◌, ◌||◌, not, Bool, false, true, List, None, Some}
use Rattle.yaml_direct.specs.Added.{begins_block}
use Rattle.yaml_direct.specs.Bytes.{AreBlanks, at}
use Rattle.yaml_direct.specs.ByColumns.{BeginsColumns, Takes}
use Rattle.yaml_direct.specs.Held.{names_of}
use Rattle.yaml_direct.specs.InBrackets.{opens, quotes}
use Rattle.yaml_direct.specs.Leaves.{IsLeaf}
use Rattle.yaml_direct.specs.Tokens.{EndsKey}
use Rattle.yaml_direct.specs.declared.block.Room as code
use Rattle.yaml_direct.specs.declared.block.Room.TheVariants as rooms
use Rattle.yaml_direct.specs.declared.leaf.Leaf.{Leaf}
use Rattle.yaml_direct.specs.declared.leaf.LeafKind.TheVariants.{Plain}
use Rattle.yaml_direct.specs.declared.reader.Reader.{Reader}
use Rattle.yaml_grammar.specs.Blocks.{Room, ends_key, takes_columns, value}
use Rattle.yaml_grammar.specs.Names.{Names, names_at}
use Rattle.yaml_grammar.specs.Nodes.{Marked}
use Rattle.yaml_grammar.specs.Bytes.{column, is_mark}
use Rattle.yaml_grammar.specs.Gaps.{ends_its_line, is_within, next}
use Rattle.yaml_grammar.specs.Plain.{as_key}
use Rattle.yaml_reading.proofs.Begins.{wanders}
use Rattle.yaml_reading.proofs.BlockSteps.{behind_within, entries_within, entry_within}
use Rattle.yaml_reading.specs.BlockReader.{Kind, begins_entry, columns_at, content_at, key_at, node_at}
use Rattle.yaml_reading.specs.BracketReader.{brackets_at}
use Rattle.yaml_reading.specs.Readers.{Read, and_then}

-- no key stands here
abbrev pub LeavesKey : List ℕ → (d i : ℕ) → Type 0
LeavesKey text d i = (es : List Marked) → ◌≡◌ {A = Read} (key_at text (brackets_at text d) es i) None

-- Behind the names that are held stand spaces, and then a byte that is none. The names are no key alone.
pub record IsBehindBlanks (text : List ℕ) (r : Reader) (place : ℕ) : Type 0 where
  pub end : ℕ
  pub names : names_at text false r.start.index ≡ Some (names_of r, end)
  pub low : end ≤ place
  pub blanks : AreBlanks text end place
  pub some : at text place ≢ 32
  pub alone : r.start.index < end → ends_key text r.start.index end ≡ false

-- whatever a reader reads ends before a tab, which no parent takes
abbrev pub EndsAtTab : List ℕ → Read → Type 0
EndsAtTab text r = (xs : List Marked) (j : ℕ) → ◌≡◌ {A = Read} r (Some (xs, j)) → at text j ≡ 9

-- whatever a reader reads ends before a tab, or before a token that stands in a column or further in: its parent takes
-- neither
abbrev pub EndsAmiss : List ℕ → (least : ℕ) → Read → Type 0
EndsAmiss text least r =
    (xs : List Marked) (j : ℕ) → ◌≡◌ {A = Read} r (Some (xs, j)) → (at text j ≡ 9) ⊎ (is_within text least j ≡ true)

-- Content stands in the line of its names, or in a later one, where no collection by columns begins
pub data StandsIn (text : List ℕ) (d least i end place : ℕ) : Type 0 where
  in_line : ends_its_line text end ≡ false → is_mark text 45 i ≡ false → is_mark text 63 i ≡ false
      → StandsIn text d least i end place
  in_later_line : ends_its_line text end ≡ true → is_within text least place ≡ true → is_mark text 45 place ≡ false
      → begins_entry text (brackets_at text d) place ≡ false → StandsIn text d least i end place

-- Behind the names that are held the content of a node begins in a place. The names are no key alone. A collection by
-- columns may begin with it in a room where the code lets it, and there alone in the line of the names. No space stands
-- before it then.
pub record IsContent (text : List ℕ) (d least : ℕ) (room : code.Room) (where' : Room) (r : Reader) (place : ℕ) : Type 0
  where
    pub end : ℕ
    pub names : names_at text false r.start.index ≡ Some (names_of r, end)
    pub there : next text end ≡ place
    pub alone : r.start.index < end → ends_key text r.start.index end ≡ false
    pub stands : StandsIn text d least r.start.index end place
    pub early : r.start.late ≡ false
    pub takes : Takes room where'
    pub refuses : ends_its_line text end ≡ false → room ≡ rooms.Value → takes_columns where' ≡ false
    pub columns : room ≢ rooms.Value → wanders (at text place) ≡ false → BeginsColumns text r place
    pub lined : room ≢ rooms.Value → r.line_start ≤ r.start.index
    pub some : room ≢ rooms.Value → at text r.start.index ≢ 32

-- nothing stands here that is no collection by columns, whatever names stand before it
abbrev pub HasNoContent : List ℕ → (d i : ℕ) → Type 0
HasNoContent text d i =
    (least start : ℕ) (names : Names) (es : List Marked)
    → ◌≡◌ {A = Read} (content_at text (brackets_at text d) least es start names i) None

-- what stands where the direct parser has left a node ends before what no parent takes
abbrev pub LeavesBlockNode : List ℕ → (d least : ℕ) → Room → (i : ℕ) → Type 0
LeavesBlockNode text d least where' i =
    (es : List Marked) → EndsAmiss text least (node_at text (columns_at text d) (brackets_at text d) least where' es i)

-- plain text may begin with this byte, or nothing
abbrev pub begins_other : ℕ → Bool
begins_other c = not (opens c || (quotes c || begins_block c))

-- What stands behind an indicator of a collection in a column, where it is left
abbrev pub LeavesBehind : List ℕ → (d c : ℕ) → Room → (i : ℕ) → Type 0
LeavesBehind text d c room i = (es : List Marked) → EndsAmiss text (suc c) (behind_within text d c room es i)

-- an entry that is left
abbrev pub LeavesEntry : List ℕ → (d c i : ℕ) → Type 0
LeavesEntry text d c i = (es : List Marked) → EndsAmiss text (suc c) (entry_within text d c es i)

-- the entries from a token on, of which one is left
abbrev pub LeavesEntries : List ℕ → (d c i : ℕ) → Type 0
LeavesEntries text d c i = (n : ℕ) (es : List Marked) → EndsAtTab text (entries_within text d c n es i)

-- the value behind the `:` of a mapping's first key, and the other entries, of which one is left
abbrev pub LeavesEntriesBehind : List ℕ → (d c k : ℕ) → Type 0
LeavesEntriesBehind text d c k =
    (n : ℕ) (es : List Marked)
    → EndsAtTab text (and_then (behind_within text d c value es (suc k)) (entries_within text d c n))

-- a whole collection by columns, whose first part begins in a place
abbrev pub LeavesColumns : List ℕ → Kind → (d i : ℕ) → Type 0
LeavesColumns text kind d i =
    (names : Names) (start : ℕ) (es : List Marked)
    → EndsAtTab text (columns_at text d kind names start (column text i) es i)

-- A key in a line, behind which stands its `:`: a leaf that is the content of a node, or names alone.
pub data IsKeyed (text : List ℕ) (d least : ℕ) (room : code.Room) (where' : Room) (r : Reader) (leaf : Leaf) : Type 0
  where
    keyed_leaf : (place : ℕ) → IsContent text d least room where' r place → IsLeaf text as_key place leaf
        → EndsKey text leaf.end (next text leaf.end) → IsKeyed text d least room where' r leaf
    keyed_names : names_at text false r.start.index ≡ Some (names_of r, leaf.end) → r.start.index < leaf.end
        → is_mark text 45 r.start.index ≡ false → is_mark text 63 r.start.index ≡ false → r.start.late ≡ false
        → leaf.kind ≡ Plain → leaf.begin ≡ leaf.end → leaf.stop ≡ leaf.end
        → EndsKey text leaf.end (next text leaf.end) → Takes room where'
        → (room ≡ rooms.Value → takes_columns where' ≡ false)
        → (room ≢ rooms.Value → r.line_start ≤ r.start.index) → IsKeyed text d least room where' r leaf
