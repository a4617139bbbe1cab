-- What the reader of nodes by columns answers where the content of a node is left that may be a key.
use Rattle.std.proofs.Common.{ℕ, ◌≡◌, ◌==◌, ◌||◌, Bool, true, false, List, Some, None}
use Rattle.std.proofs.Common.{refl, sym, subst, ap, ◌∙◌, inl, inr}
use Rattle.std.proofs.lemmas.Bool.{eqb-true, or_cases, or_left}
use Rattle.yaml_direct.specs.Added.{HasNoLeaf}
use Rattle.yaml_direct.specs.Held.{names_of}
use Rattle.yaml_direct.specs.InBrackets.{quotes}
use Rattle.yaml_direct.specs.LeftByColumns.{EndsAmiss, IsContent, LeavesBlockNode, StandsIn, in_later_line, in_line}
use Rattle.yaml_direct.specs.Tokens.{EndsKey}
use Rattle.yaml_direct.specs.declared.block.Room as code
use Rattle.yaml_direct.specs.declared.block.Room.TheVariants as rooms
use Rattle.yaml_direct.specs.declared.reader.Reader.{Reader}
use Rattle.yaml_direct.proofs.ContentMisses.{key_place, leaf_in_line_content, left_content, no_leaf_content}
use Rattle.yaml_direct.proofs.KeyFails.{missed_no_key}
use Rattle.yaml_direct.proofs.KeyMisses.{NoKey}
use Rattle.yaml_direct.proofs.PartMisses.{amiss_as, amiss_none}
use Rattle.yaml_grammar.specs.Blocks.{Room, is_own, takes_columns}
use Rattle.yaml_grammar.specs.Bytes.{at, column, is_mark}
use Rattle.yaml_grammar.specs.Gaps.{ends_its_line, is_within, next}
use Rattle.yaml_grammar.specs.Leaves.{Leaf, leaf_at}
use Rattle.yaml_grammar.specs.Names.{Names, names_at, unnamed}
use Rattle.yaml_grammar.specs.Nodes.{Marked}
use Rattle.yaml_grammar.specs.Plain.{as_key, by_columns}
use Rattle.yaml_reading.specs.BlockReader.{Kind, begins_entry, columns_at, content_at, entries, here_step, in_room}
use Rattle.yaml_reading.specs.BracketReader.{brackets_at}
use Rattle.yaml_reading.specs.Readers.{Read, opens}
use Rattle.yaml_reading.proofs.BlockApart.{dash_inside, goes_on, lines_byte}
use Rattle.yaml_reading.proofs.BlockSteps.{no_columns, node_here, node_later, node_within}

-- a collection by columns that may begin here is left
pub room_left : (text : List ℕ) (least : ℕ) (takes : Bool) (r : Read) → EndsAmiss text least r
    → EndsAmiss text least (in_room takes r)
room_left text least true r left = left
room_left text least false r left = amiss_none text least None refl

pub room_refuses : (text : List ℕ) (least : ℕ) (takes : Bool) (r : Read) → takes ≡ false
    → EndsAmiss text least (in_room takes r)
room_refuses text least takes r none = amiss_none text least (in_room takes r) (ap (λ b. in_room b r) none)

-- none is read within no nestings
pub none_within : (text : List ℕ) (d : ℕ) (kind : Kind) (names : Names) (start c : ℕ) (es : List Marked) (i : ℕ)
    → d ≡ 0 → ◌≡◌ {A = Read} (columns_at text d kind names start c es i) None
none_within text d kind names start c es i none =
    ap (λ n. columns_at text n kind names start c es i) none ∙ no_columns text kind names start c es i

-- the mapping that begins in the line of its names
abbrev pub mapping_here : List ℕ → (d i : ℕ) → List Marked → Read
mapping_here text d i es = columns_at text d entries unnamed i (column text i) es i

-- a node in the line of its names, by what begins there
pub here_left : (text : List ℕ) (d least : ℕ) (room : Room) (es : List Marked) (i end : ℕ) (names : Names)
    → names_at text false i ≡ Some (names, end) → ends_its_line text end ≡ false → is_mark text 45 i ≡ false
    → EndsAmiss text least (in_room (takes_columns room) (mapping_here text d i es))
    → EndsAmiss text least (content_at text (brackets_at text d) least es i names (next text end))
    → EndsAmiss text least (node_within text d least room es i)
here_left text d least room es i end names h line dash mapping content =
    by_entry (begins_entry text (brackets_at text d) i) refl
  where
    by_step : (b : Bool) → EndsAmiss text least
        (here_step text (columns_at text d) (brackets_at text d) least room es i names end false b)
    by_step true = mapping
    by_step false = content

    by_entry : (b : Bool) → begins_entry text (brackets_at text d) i ≡ b
        → EndsAmiss text least (node_within text d least room es i)
    by_entry b e =
        amiss_as text least (node_within text d least room es i)
        (here_step text (columns_at text d) (brackets_at text d) least room es i names end false b)
        (node_here text (columns_at text d) (brackets_at text d) least room es i names end false b h line dash e)
        (by_step b)

-- the content of a node, or a mapping that begins with it
pub left_by : (text : List ℕ) (d least : ℕ) (room : code.Room) (where' : Room) (r : Reader) (place : ℕ)
    → IsContent text d least room where' r place
    → ((end : ℕ) → names_at text false r.start.index ≡ Some (names_of r, end) → ends_its_line text end ≡ false
    → (room ≡ rooms.Value → takes_columns where' ≡ false) → is_mark text 63 r.start.index ≡ false → (es : List Marked)
    → EndsAmiss text least (in_room (takes_columns where') (mapping_here text d r.start.index es)))
    → ((es : List Marked) → EndsAmiss text least
    (content_at text (brackets_at text d) least es r.start.index (names_of r) place))
    → LeavesBlockNode text d least where' r.start.index
left_by text d least room where' r place x mapping content es = by_line x.stands
  where
    i : ℕ
    i = r.start.index

    content_there : (es : List Marked) → EndsAmiss text least
        (content_at text (brackets_at text d) least es i (names_of r) (next text x.end))
    content_there es =
        subst (λ q. EndsAmiss text least (content_at text (brackets_at text d) least es i (names_of r) q))
        (sym x.there) (content es)

    by_line : StandsIn text d least i x.end place → EndsAmiss text least (node_within text d least where' es i)
    by_line (in_line line dash mark) =
        here_left text d least where' es i x.end (names_of r) x.names line dash
        (mapping x.end x.names line (x.refuses line) mark es)
        (content_there es)
    by_line (in_later_line line inner dash entry) =
        amiss_as text least (node_within text d least where' es i)
        (content_at text (brackets_at text d) least es i (names_of r) (next text x.end))
        (node_later text (columns_at text d) (brackets_at text d) least where' es i (names_of r) x.end true false true
        false x.names line
        (ap (λ q. is_within text least q || is_own text where' least q) x.there
        ∙ or_left (is_within text least place) (is_own text where' least place) inner)
        (ap (is_mark text 45) x.there ∙ dash) (ap (is_within text least) x.there ∙ inner)
        (ap (begins_entry text (brackets_at text d)) x.there ∙ entry))
        (content_there es)

-- the line goes on where the `:` of a key follows
pub colon_goes_on : (text : List ℕ) (e k : ℕ) → EndsKey text e k → ends_its_line text e ≡ false
colon_goes_on text e k colon =
    goes_on text e colon.in_line
    (λ z. dash_inside text 58 k refl colon.mark (ap (at text) colon.there ∙ z))

-- a leaf that is no plain text begins with neither a bracket nor a block's sign
pub quote_shut : (c : ℕ) → quotes c ≡ true → (opens c ≡ false) × (lines_byte c ≡ false)
quote_shut c h = elim (or_cases (c == 34) _ h) [
  | inl e ↦ (ap opens (eqb-true c 34 e), ap lines_byte (eqb-true c 34 e))
  | inr h ↦ elim (or_cases (c == 39) (c == 42) h) [
    | inl e ↦ (ap opens (eqb-true c 39 e), ap lines_byte (eqb-true c 39 e))
    | inr e ↦ (ap opens (eqb-true c 42 e), ap lines_byte (eqb-true c 42 e))
  ]
]

-- where none stands
pub unread_leaf : (text : List ℕ) (d least : ℕ) (room : code.Room) (where' : Room) (r : Reader) (place : ℕ)
    → IsContent text d least room where' r place → opens (at text place) ≡ false → lines_byte (at text place) ≡ false
    → HasNoLeaf text as_key (names_of r) place → HasNoLeaf text (by_columns least) (names_of r) place
    → LeavesBlockNode text d least where' r.start.index
unread_leaf text d least room where' r place x shut lines key none =
    left_content text d least room where' r place x
    (missed_no_key text d r place (key_place text d least room where' r place x) key shut)
    (λ es. amiss_none text least (content_at text (brackets_at text d) least es r.start.index (names_of r) place)
    (no_leaf_content text d least es r.start.index (names_of r) place shut lines none))

-- where its line goes on, and no `:` follows
pub leaf_in_line : (text : List ℕ) (d least e : ℕ) (room : code.Room) (where' : Room) (r : Reader) (place : ℕ)
    (y : Leaf) → IsContent text d least room where' r place → opens (at text place) ≡ false
    → lines_byte (at text place) ≡ false → NoKey text d r.start.index
    → leaf_at text (by_columns least) place ≡ Some (y, e) → ends_its_line text e ≡ false
    → LeavesBlockNode text d least where' r.start.index
leaf_in_line text d least e room where' r place y x shut lines none leaf line =
    left_content text d least room where' r place x none
    (λ es. amiss_none text least (content_at text (brackets_at text d) least es r.start.index (names_of r) place)
    (leaf_in_line_content text d least es r.start.index (names_of r) place y e shut lines leaf line))
