-- What the readers of nodes by columns do where tests are known.
use Rattle.yaml_grammar.specs.Blocks.{ends_key}
use Rattle.std.proofs.Common.{◌≡◌, ℕ, zero, suc, ◌==◌, ◌&&◌, ◌||◌, not, Bool, true, false, List, [], length, Option}
use Rattle.std.proofs.Common.{Some, None, refl, ap, ap₂, ◌∙◌}
use Rattle.std.specs.Prelude.{is_some, nat_lt, option_and_then}
use Rattle.yaml_base.specs.PlainEvent.{mapping_end, mapping_start, sequence_end, sequence_start}
use Rattle.yaml_grammar.specs.Blocks.{Room, anything, is_own}
use Rattle.yaml_grammar.specs.Bytes.{at, is_mark, is_over}
use Rattle.yaml_grammar.specs.Gaps.{breaks, ends_its_line, is_at, is_item, is_within, next}
use Rattle.yaml_grammar.specs.Names.{Names, names_at}
use Rattle.yaml_grammar.specs.Nodes.{Marked, mark}
use Rattle.yaml_reading.specs.BlockReader.{Columns, Kind, begins_entry, behind_at, behind_step, column_at, column_step}
use Rattle.yaml_reading.specs.BlockReader.{columns_at, content_at, content_step, ended_by, entries, entry_at}
use Rattle.yaml_reading.specs.BlockReader.{entry_step}
use Rattle.yaml_reading.specs.BlockReader.{here_step, item_behind, items, key_at, key_behind, key_step, later_step}
use Rattle.yaml_reading.specs.BlockReader.{node_at, node_behind, node_step}
use Rattle.yaml_reading.specs.BracketReader.{brackets_at}
use Rattle.yaml_reading.specs.Readers.{Collections, Read, Reader, and_event, no_more, opens}

pub key_behind_is : (text : List ℕ) (brackets : Collections) (es : List Marked) (i : ℕ) (names : Names) (p : ℕ)
    (x y z : Bool) → breaks text p ≡ x → opens (at text (next text p)) ≡ y → (nat_lt i p && ends_key text i p) ≡ z
    → key_behind text brackets es i names p ≡ key_step text brackets es i names p x y z
unfolding key_behind
key_behind_is text brackets es i names p x y z e f g =
    ap (λ b. key_step text brackets es i names p b (opens (at text (next text p))) (nat_lt i p && ends_key text i p)) e
    ∙ ap₂ (key_step text brackets es i names p x) f g

pub key_is : (text : List ℕ) (brackets : Collections) (es : List Marked) (i : ℕ) (r : Option (Names × ℕ))
    → names_at text false i ≡ r
    → key_at text brackets es i ≡ option_and_then (λ x. key_behind text brackets es i x.0 x.1) r
unfolding key_at
key_is text brackets es i r h = ap (option_and_then (λ x. key_behind text brackets es i x.0 x.1)) h

pub begins_is : (text : List ℕ) (brackets : Collections) (i : ℕ) (x y : Bool) (r : Read) → is_over text i ≡ x
    → is_mark text 63 i ≡ y → key_at text brackets [] i ≡ r
    → begins_entry text brackets i ≡ (not x && (y || is_some r))
unfolding begins_entry
begins_is text brackets i x y r e f h =
    ap (λ b. not b && (is_mark text 63 i || is_some (key_at text brackets [] i))) e
    ∙ ap₂ (λ b r. not x && (b || is_some r)) f h

pub content_is : (text : List ℕ) (brackets : Collections) (least : ℕ) (es : List Marked) (i : ℕ) (names : Names) (q : ℕ)
    (x y : Bool) → opens (at text q) ≡ x → (at text q == 124 || at text q == 62) ≡ y
    → content_at text brackets least es i names q ≡ content_step text brackets least es i names q x y
unfolding content_at
content_is text brackets least es i names q x y e f = ap₂ (content_step text brackets least es i names q) e f

pub node_is : (text : List ℕ) (columns : Columns) (brackets : Collections) (least : ℕ) (room : Room) (es : List Marked)
    (i : ℕ) (r : Option (Names × ℕ)) → names_at text false i ≡ r
    → node_at text columns brackets least room es i
    ≡ option_and_then (λ x. node_behind text columns brackets least room es i x.0 x.1) r
unfolding node_at
node_is text columns brackets least room es i r h =
    ap (option_and_then (λ x. node_behind text columns brackets least room es i x.0 x.1)) h

pub node_behind_is : (text : List ℕ) (columns : Columns) (brackets : Collections) (least : ℕ) (room : Room)
    (es : List Marked) (i : ℕ) (names : Names) (p : ℕ) (x : Bool) → ends_its_line text p ≡ x
    → node_behind text columns brackets least room es i names p ≡ node_step text columns brackets least room es i
    names p x
unfolding node_behind
node_behind_is text columns brackets least room es i names p x e =
    ap (node_step text columns brackets least room es i names p) e

-- a node in the line of its names
pub node_here : (text : List ℕ) (columns : Columns) (brackets : Collections) (least : ℕ) (room : Room)
    (es : List Marked) (i : ℕ) (names : Names) (p : ℕ) (x y : Bool) → names_at text false i ≡ Some (names, p)
    → ends_its_line text p ≡ false → is_mark text 45 i ≡ x → begins_entry text brackets i ≡ y
    → node_at text columns brackets least room es i ≡ here_step text columns brackets least room es i names p x y
node_here text columns brackets least room es i names p x y h e f g =
    node_is text columns brackets least room es i (Some (names, p)) h
    ∙ node_behind_is text columns brackets least room es i names p false e
    ∙ ap₂ (here_step text columns brackets least room es i names p) f g

-- a node behind the line of its names
pub node_later : (text : List ℕ) (columns : Columns) (brackets : Collections) (least : ℕ) (room : Room)
    (es : List Marked) (i : ℕ) (names : Names) (p : ℕ) (f x w y : Bool) → names_at text false i ≡ Some (names, p)
    → ends_its_line text p ≡ true
    → (is_within text least (next text p) || is_own text room least (next text p)) ≡ f
    → is_mark text 45 (next text p) ≡ x → is_within text least (next text p) ≡ w
    → begins_entry text brackets (next text p) ≡ y
    → node_at text columns brackets least room es i ≡ later_step text columns brackets least es i names p f x w y
node_later text columns brackets least room es i names p f x w y h e a b c g =
    let q = next text p in
    node_is text columns brackets least room es i (Some (names, p)) h
    ∙ node_behind_is text columns brackets least room es i names p true e
    ∙ ap₂ (λ f x. later_step text columns brackets least es i names p f x (is_within text least q)
    (begins_entry text brackets q)) a b
    ∙ ap₂ (later_step text columns brackets least es i names p f x) c g

pub behind_is : (text : List ℕ) (columns : Columns) (brackets : Collections) (c : ℕ) (room : Room) (es : List Marked)
    (i : ℕ) (x y z : Bool) → ends_its_line text i ≡ x → is_within text (suc c) (next text i) ≡ y
    → is_own text room (suc c) (next text i) ≡ z
    → behind_at text columns brackets c room es i ≡ behind_step text columns brackets c room es i x y z
unfolding behind_at
behind_is text columns brackets c room es i x y z e f g =
    ap (λ b. behind_step text columns brackets c room es i b (is_within text (suc c) (next text i))
    (is_own text room (suc c) (next text i))) e
    ∙ ap₂ (behind_step text columns brackets c room es i x) f g

-- the parts behind the next one
abbrev pub more_column : List ℕ → (is_here : ℕ → Bool) → (one : Reader) → (column' turns : ℕ) → Reader
more_column text is_here one c zero = no_more
more_column text is_here one c (suc n) = column_at text is_here one c n

pub column_is : (text : List ℕ) (is_here : ℕ → Bool) (one : Reader) (c n : ℕ) (es : List Marked) (i : ℕ) (x y : Bool)
    → is_here i ≡ x → is_within text (suc c) i ≡ y
    → column_at text is_here one c n es i ≡ column_step one (more_column text is_here one c n) es i x y
unfolding column_at
column_is text is_here one c zero es i x y e f = ap₂ (column_step one no_more es i) e f
column_is text is_here one c (suc n) es i x y e f = ap₂ (column_step one (column_at text is_here one c n) es i) e f

pub entry_is : (text : List ℕ) (key : Reader) (behind : Room → Reader) (c : ℕ) (es : List Marked) (i : ℕ) (x : Bool)
    → is_mark text 63 i ≡ x → entry_at text key behind c es i ≡ entry_step text key behind c es i x
unfolding entry_at
entry_is text key behind c es i x e = ap (entry_step text key behind c es i) e

-- the readers of parts within so many nestings
abbrev pub node_within : List ℕ → (nestings least : ℕ) → Room → Reader
node_within text d least room = node_at text (columns_at text d) (brackets_at text d) least room

abbrev pub behind_within : List ℕ → (nestings column' : ℕ) → Room → Reader
behind_within text d c room = behind_at text (columns_at text d) (brackets_at text d) c room

abbrev pub key_within : List ℕ → (nestings : ℕ) → Reader
key_within text d = key_at text (brackets_at text d)

abbrev pub entry_within : List ℕ → (nestings column' : ℕ) → Reader
entry_within text d c = entry_at text (key_within text d) (behind_within text d c) c

abbrev pub items_within : List ℕ → (nestings column' turns : ℕ) → Reader
items_within text d c n = column_at text (is_item text c) (item_behind (behind_within text d c anything)) c n

abbrev pub entries_within : List ℕ → (nestings column' turns : ℕ) → Reader
entries_within text d c n = column_at text (is_at text c) (entry_within text d c) c n

pub columns_items : (text : List ℕ) (d : ℕ) (names : Names) (start c : ℕ) (es : List Marked) (i : ℕ)
    → columns_at text (suc d) items names start c es i
    ≡ ended_by text sequence_end c
    (items_within text d c (length text) (and_event es (sequence_start names.anchor names.tag, mark text start)) i)
unfolding columns_at
columns_items text d names start c es i = refl

pub columns_entries : (text : List ℕ) (d : ℕ) (names : Names) (start c : ℕ) (es : List Marked) (i : ℕ)
    → columns_at text (suc d) entries names start c es i
    ≡ ended_by text mapping_end c
    (entries_within text d c (length text) (and_event es (mapping_start names.anchor names.tag, mark text start)) i)
unfolding columns_at
columns_entries text d names start c es i = refl

pub no_columns : (text : List ℕ) (kind : Kind) (names : Names) (start c : ℕ) (es : List Marked) (i : ℕ)
    → ◌≡◌ {A = Read} (columns_at text zero kind names start c es i) None
unfolding columns_at
no_columns text kind names start c es i = refl
