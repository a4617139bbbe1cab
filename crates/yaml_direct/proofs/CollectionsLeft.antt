-- What the reader of nodes by columns answers where a collection in brackets is left that may be a key.
use Rattle.std.proofs.Common.{ℕ, ◌≤◌, ◌≡◌, true, false, List, None}
use Rattle.std.proofs.Common.{sym, subst, ap, ◌∙◌, arith}
use Rattle.yaml_direct.specs.Held.{names_of}
use Rattle.yaml_direct.specs.LeftByColumns.{IsContent, LeavesBlockNode, LeavesColumns}
use Rattle.yaml_direct.specs.declared.block.Room as code
use Rattle.yaml_direct.specs.declared.block.Room.TheVariants as rooms
use Rattle.yaml_direct.specs.declared.reader.Reader.{Reader}
use Rattle.yaml_direct.proofs.BracketNothing.{none_brackets}
use Rattle.yaml_direct.proofs.ContentMisses.{brackets_in_line_content, left_content, no_brackets_content}
use Rattle.yaml_direct.proofs.KeyMisses.{brackets_no_key}
use Rattle.yaml_direct.proofs.NodesLeft.{left_by, mapping_here, room_left, room_refuses}
use Rattle.yaml_direct.proofs.PartMisses.{amiss_none, amiss_tab}
use Rattle.yaml_grammar.specs.Blocks.{Room, ends_key, takes_columns}
use Rattle.yaml_grammar.specs.Brackets.{Brackets}
use Rattle.yaml_grammar.specs.Bytes.{at}
use Rattle.yaml_grammar.specs.Gaps.{ends_its_line}
use Rattle.yaml_grammar.specs.Names.{Names, unnamed}
use Rattle.yaml_grammar.specs.Nodes.{Marked, Node}
use Rattle.yaml_reading.specs.BlockReader.{content_at, entries}
use Rattle.yaml_reading.specs.BracketReader.{brackets_at}
use Rattle.yaml_reading.specs.Readers.{Read, and_node, opens}
use Rattle.yaml_reading.proofs.BracketComplete.{brackets_of}
use Rattle.yaml_reading.proofs.BracketReading.{one_collection}

-- none stands there
pub unread_brackets : (text : List ℕ) (d least : ℕ) (room : code.Room) (where' : Room) (r : Reader) (place : ℕ)
    → IsContent text d least room where' r place → opens (at text place) ≡ true
    → ((names : Names) (i : ℕ) (es : List Marked) → ◌≡◌ {A = Read} (brackets_at text d names i es place) None)
    → LeavesBlockNode text d least where' r.start.index
unread_brackets text d least room where' r place x opened none =
    let i = r.start.index in
    left_content text d least room where' r place x
    (brackets_no_key text d i x.end (names_of r) x.names (ap (λ q. opens (at text q)) x.there ∙ opened)
    (λ e n b. absurd (none_brackets text d place none i e (names_of r) n
    (subst (λ q. Brackets text d i (names_of r) q e n) x.there b))))
    (λ es. amiss_none text least (content_at text (brackets_at text d) least es i (names_of r) place)
    (no_brackets_content text d least es i (names_of r) place opened (none (names_of r) i es)))

-- one stands there, and its line goes on: no content
brackets_content : (text : List ℕ) (d least e : ℕ) (es : List Marked) (i : ℕ) (names : Names) (place : ℕ) (n : Node)
    → opens (at text place) ≡ true → Brackets text d i names place e n → ends_its_line text e ≡ false
    → ◌≡◌ {A = Read} (content_at text (brackets_at text d) least es i names place) None
brackets_content text d least e es i names place n opened b line =
    let le : d ≤ d = omega arith in
    brackets_in_line_content text d least es i names place (and_node es n) e opened (brackets_of text b d le es) line

-- nor a key
pub brackets_in_line : (text : List ℕ) (d least e : ℕ) (room : code.Room) (where' : Room) (r : Reader) (place : ℕ)
    (n : Node) → IsContent text d least room where' r place → opens (at text place) ≡ true
    → Brackets text d r.start.index (names_of r) place e n → ends_key text r.start.index e ≡ false
    → ends_its_line text e ≡ false → LeavesBlockNode text d least where' r.start.index
brackets_in_line text d least e room where' r place n x opened b other line =
    let i = r.start.index in
    left_content text d least room where' r place x
    (brackets_no_key text d i x.end (names_of r) x.names (ap (λ q. opens (at text q)) x.there ∙ opened)
    (λ f m y. ap (ends_key text i) (one_collection text y
    (subst (λ q. Brackets text d i (names_of r) q e n) (sym x.there) b)).0 ∙ other))
    (λ es. amiss_none text least (content_at text (brackets_at text d) least es i (names_of r) place)
    (brackets_content text d least e es i (names_of r) place n opened b line))

-- or one where no mapping may begin
pub brackets_refused : (text : List ℕ) (d least e : ℕ) (room : code.Room) (where' : Room) (r : Reader) (place : ℕ)
    (n : Node) → IsContent text d least room where' r place → opens (at text place) ≡ true
    → Brackets text d r.start.index (names_of r) place e n → room ≡ rooms.Value → ends_its_line text e ≡ false
    → LeavesBlockNode text d least where' r.start.index
brackets_refused text d least e room where' r place n x opened b is line =
    let i = r.start.index in
    left_by text d least room where' r place x
    (λ end names goes refuses mark es. room_refuses text least (takes_columns where') (mapping_here text d i es)
    (refuses is))
    (λ es. amiss_none text least (content_at text (brackets_at text d) least es i (names_of r) place)
    (brackets_content text d least e es i (names_of r) place n opened b line))

-- or one with which a mapping begins that is left
pub brackets_mapping : (text : List ℕ) (d least e : ℕ) (room : code.Room) (where' : Room) (r : Reader) (place : ℕ)
    (n : Node) → IsContent text d least room where' r place → opens (at text place) ≡ true
    → Brackets text d r.start.index (names_of r) place e n → ends_its_line text e ≡ false
    → LeavesColumns text entries d r.start.index → LeavesBlockNode text d least where' r.start.index
brackets_mapping text d least e room where' r place n x opened b line left =
    let i = r.start.index in
    left_by text d least room where' r place x
    (λ end names goes refuses mark es. room_left text least (takes_columns where') (mapping_here text d i es)
    (amiss_tab text least (mapping_here text d i es) (left unnamed i es)))
    (λ es. amiss_none text least (content_at text (brackets_at text d) least es i (names_of r) place)
    (brackets_content text d least e es i (names_of r) place n opened b line))
