-- What the reader of nodes by columns answers where a mapping is left that begins with a key in its line.
use Rattle.std.proofs.Common.{ℕ, zero, suc, ◌+◌, ◌<◌, ◌≤◌, ◌≡◌, ◌⊎◌, true, false, List, Some, None}
use Rattle.std.proofs.Common.{refl, sym, ap, ◌∙◌, arith, inl, inr, slice_range}
use Rattle.std.specs.Prelude.{Option}
use Rattle.yaml_base.specs.declared.event.ScalarStyle.TheVariants as style
use Rattle.yaml_direct.specs.Added.{HasNoLeaf}
use Rattle.yaml_direct.specs.Held.{names_of}
use Rattle.yaml_direct.specs.InBrackets.{quotes}
use Rattle.yaml_direct.specs.Leaves.{IsLeaf, whole_alias, whole_plain, whole_quotes}
use Rattle.yaml_direct.specs.LeftByColumns.{EndsAtTab, IsKeyed, LeavesBlockNode, LeavesEntriesBehind}
use Rattle.yaml_direct.specs.LeftByColumns.{keyed_leaf, keyed_names}
use Rattle.yaml_direct.specs.Quoted.{quote_of}
use Rattle.yaml_direct.specs.Tokens.{EndsKey}
use Rattle.yaml_direct.specs.declared.block.Room as code
use Rattle.yaml_direct.specs.declared.block.Room.TheVariants as rooms
use Rattle.yaml_direct.specs.declared.leaf.Leaf as leaves
use Rattle.yaml_direct.specs.declared.leaf.LeafKind.TheVariants.{Plain}
use Rattle.yaml_direct.specs.declared.quote.Quote.{Quote}
use Rattle.yaml_direct.specs.declared.quote.Quote.TheVariants.{Double, Single}
use Rattle.yaml_direct.specs.declared.reader.Reader.{Reader}
use Rattle.yaml_direct.proofs.AddedLeaves.{none_leaf, plain_read}
use Rattle.yaml_direct.proofs.ColumnMisses.{mapping_left}
use Rattle.yaml_direct.proofs.ColumnReads.{mark_byte}
use Rattle.yaml_direct.proofs.ContentMisses.{key_place, leaf_in_line_content, left_content, no_leaf_content}
use Rattle.yaml_direct.proofs.KeyFails.{found_no_key, leaf_end}
use Rattle.yaml_direct.proofs.KeyMisses.{ends_far, key_none, names_no_key}
use Rattle.yaml_direct.proofs.NodesLeft.{colon_goes_on, here_left, left_by, mapping_here, none_within, quote_shut}
use Rattle.yaml_direct.proofs.NodesLeft.{room_left, room_refuses, unread_leaf}
use Rattle.yaml_direct.proofs.PartMisses.{amiss_none, amiss_tab, tab_as}
use Rattle.yaml_grammar.specs.Blocks.{Key, Room, takes_columns, value}
use Rattle.yaml_grammar.specs.Bytes.{at, column, is_mark}
use Rattle.yaml_grammar.specs.Gaps.{breaks, ends_its_line, is_at, next}
use Rattle.yaml_grammar.specs.Leaves.{Leaf, in_style, leaf_at}
use Rattle.yaml_grammar.specs.Names.{Names, unnamed}
use Rattle.yaml_grammar.specs.Nodes.{Marked, Node}
use Rattle.yaml_grammar.specs.Plain.{as_key, by_columns}
use Rattle.yaml_reading.specs.BlockReader.{content_at, entries}
use Rattle.yaml_reading.specs.BracketReader.{brackets_at}
use Rattle.yaml_reading.specs.Readers.{Read, and_node, and_then, opens}
use Rattle.yaml_reading.proofs.Begins.{no_leaf_mark}
use Rattle.yaml_reading.proofs.BlockApart.{leaf_no_lines, leaf_no_open, lines_byte}
use Rattle.yaml_reading.proofs.BlockSteps.{behind_within, column_is, entries_within, entry_is, entry_within, key_within}
use Rattle.yaml_reading.proofs.BlockSteps.{more_column, node_within}
use Rattle.yaml_reading.proofs.KeyLines.{key_as_leaf}
use Rattle.yaml_reading.proofs.KeyReading.{key_of}
use Rattle.yaml_reading.proofs.NodeAnswers.{content_read}
use Rattle.yaml_reading.proofs.Options.{no_some, pair_is, then_some}

quote_first : (quote : Quote) (c : ℕ) → c ≡ quote_of quote → quotes c ≡ true
quote_first Single c e = ap quotes e
quote_first Double c e = ap quotes e

-- the byte with which a leaf begins
pub leaf_shut : (text : List ℕ) (place : ℕ) (leaf : leaves.Leaf) → IsLeaf text as_key place leaf
    → (opens (at text place) ≡ false) × (lines_byte (at text place) ≡ false)
leaf_shut text place leaf (whole_plain kind begins stops low read) =
    let said = slice_range text place leaf.end in
    let h = plain_read text as_key place leaf.end said low read in (
      leaf_no_open text as_key place (in_style style.Plain said, leaf.end) h,
      leaf_no_lines text as_key place (in_style style.Plain said, leaf.end) h,
    )
leaf_shut text place leaf (whole_alias byte a) = quote_shut (at text place) (ap quotes byte)
leaf_shut text place leaf (whole_quotes quote byte q shut) =
    quote_shut (at text place) (quote_first quote (at text place) byte)

-- a leaf that is no plain text is the same as a key and where lines may go on
pub leaf_columns : (text : List ℕ) (least place : ℕ) (leaf : leaves.Leaf) → IsLeaf text as_key place leaf
    → (leaf.kind ≡ Plain → ⊥) → IsLeaf text (by_columns least) place leaf
leaf_columns text least place leaf (whole_plain kind begins stops low read) other = absurd (other kind)
leaf_columns text least place leaf (whole_alias byte a) other = whole_alias byte a
leaf_columns text least place leaf (whole_quotes quote byte q shut) other = whole_quotes quote byte q shut

-- where its line goes on, it ends in the same place
keyed_end : (text : List ℕ) (least place e : ℕ) (leaf : leaves.Leaf) (x : Leaf) → IsLeaf text as_key place leaf
    → leaf.begin ≤ leaf.end → breaks text leaf.end ≡ false → leaf_at text (by_columns least) place ≡ Some (x, e)
    → e ≡ leaf.end
keyed_end text least place e leaf x (whole_plain kind begins stops low read) part line h =
    let said = slice_range text place leaf.end in
    let y = in_style style.Plain said in
    sym (pair_is y x leaf.end e
    (sym (key_as_leaf text least place leaf.end y line (plain_read text as_key place leaf.end said low read)) ∙ h)).1
keyed_end text least place e leaf x (whole_alias byte a) part line h =
    leaf_end text (by_columns least) place e leaf x (whole_alias byte a) part h
keyed_end text least place e leaf x (whole_quotes quote byte q shut) part line h =
    leaf_end text (by_columns least) place e leaf x (whole_quotes quote byte q shut) part h

-- as content it does not end its line
pub keyed_content : (text : List ℕ) (d least : ℕ) (es : List Marked) (i : ℕ) (names : Names) (place : ℕ)
    (leaf : leaves.Leaf) → IsLeaf text as_key place leaf → leaf.begin ≤ leaf.end
    → EndsKey text leaf.end (next text leaf.end)
    → ◌≡◌ {A = Read} (content_at text (brackets_at text d) least es i names place) None
keyed_content text d least es i names place leaf l part k = by_leaf (leaf_at text (by_columns least) place) refl
  where
    shut : (opens (at text place) ≡ false) × (lines_byte (at text place) ≡ false)
    shut = leaf_shut text place leaf l

    by_leaf : (o : Option (Leaf × ℕ)) → leaf_at text (by_columns least) place ≡ o
        → ◌≡◌ {A = Read} (content_at text (brackets_at text d) least es i names place) None
    by_leaf None h =
        no_leaf_content text d least es i names place shut.0 shut.1 (none_leaf text (by_columns least) names place h)
    by_leaf (Some y) h =
        let same = keyed_end text least place y.1 leaf y.0 l part k.in_line h in
        leaf_in_line_content text d least es i names place y.0 y.1 shut.0 shut.1 h
        (ap (ends_its_line text) same ∙ colon_goes_on text leaf.end (next text leaf.end) k)

-- no content begins with the `:` behind names alone
colon_content : (text : List ℕ) (d least : ℕ) (es : List Marked) (i : ℕ) (names : Names) (q : ℕ)
    → is_mark text 58 q ≡ true → ◌≡◌ {A = Read} (content_at text (brackets_at text d) least es i names q) None
colon_content text d least es i names q mark =
    let byte = mark_byte text 58 q mark in
    no_leaf_content text d least es i names q (ap opens byte) (ap lines_byte byte)
    (none_leaf text (by_columns least) names q (no_leaf_mark text (by_columns least) q 58 refl mark))

-- why no mapping is begun: no nesting is left, none may begin here, or the `:` is too far
abbrev pub IsRefused : (d : ℕ) → code.Room → Reader → (colon : ℕ) → Type 0
IsRefused d room r colon = (d ≡ 0) ⊎ ((room ≡ rooms.Value) ⊎ (r.start.index + 1024 < colon))

pub keyed_refused : (text : List ℕ) (d least : ℕ) (room : code.Room) (where' : Room) (r : Reader) (leaf : leaves.Leaf)
    → IsKeyed text d least room where' r leaf → leaf.begin ≤ leaf.end → IsRefused d room r (next text leaf.end)
    → LeavesBlockNode text d least where' r.start.index
keyed_refused text d least room where' r leaf (keyed_leaf place x l k) part (inl none) =
    left_by text d least room where' r place x
    (λ end names line refuses mark es. room_left text least (takes_columns where')
    (mapping_here text d r.start.index es) (amiss_none text least (mapping_here text d r.start.index es)
    (none_within text d entries unnamed r.start.index (column text r.start.index) es r.start.index none)))
    (λ es. amiss_none text least (content_at text (brackets_at text d) least es r.start.index (names_of r) place)
    (keyed_content text d least es r.start.index (names_of r) place leaf l part k))
keyed_refused text d least room where' r leaf (keyed_leaf place x l k) part (inr (inl is)) =
    left_by text d least room where' r place x
    (λ end names line refuses mark es. room_refuses text least (takes_columns where')
    (mapping_here text d r.start.index es) (refuses is))
    (λ es. amiss_none text least (content_at text (brackets_at text d) least es r.start.index (names_of r) place)
    (keyed_content text d least es r.start.index (names_of r) place leaf l part k))
keyed_refused text d least room where' r leaf (keyed_leaf place x l k) part (inr (inr far)) =
    left_content text d least room where' r place x
    (found_no_key text d r place leaf (key_place text d least room where' r place x) l part
    (leaf_shut text place leaf l).0 (ends_far text r.start.index leaf.end (next text leaf.end) refl far))
    (λ es. amiss_none text least (content_at text (brackets_at text d) least es r.start.index (names_of r) place)
    (keyed_content text d least es r.start.index (names_of r) place leaf l part k))
keyed_refused text d least room where' r leaf
    (keyed_names names some dash mark early kind begin stop k takes refuses lined) part (inl none) = λ es.
    here_left text d least where' es r.start.index leaf.end (names_of r) names
    (colon_goes_on text leaf.end (next text leaf.end) k) dash
    (room_left text least (takes_columns where') (mapping_here text d r.start.index es)
    (amiss_none text least (mapping_here text d r.start.index es)
    (none_within text d entries unnamed r.start.index (column text r.start.index) es r.start.index none)))
    (amiss_none text least
    (content_at text (brackets_at text d) least es r.start.index (names_of r) (next text leaf.end))
    (colon_content text d least es r.start.index (names_of r) (next text leaf.end) k.mark))
keyed_refused text d least room where' r leaf
    (keyed_names names some dash mark early kind begin stop k takes refuses lined) part (inr (inl is)) = λ es.
    here_left text d least where' es r.start.index leaf.end (names_of r) names
    (colon_goes_on text leaf.end (next text leaf.end) k) dash
    (room_refuses text least (takes_columns where') (mapping_here text d r.start.index es) (refuses is))
    (amiss_none text least
    (content_at text (brackets_at text d) least es r.start.index (names_of r) (next text leaf.end))
    (colon_content text d least es r.start.index (names_of r) (next text leaf.end) k.mark))
keyed_refused text d least room where' r leaf
    (keyed_names names some dash mark early kind begin stop k takes refuses lined) part (inr (inr far)) = λ es.
    let i = r.start.index in
    amiss_none text least (node_within text d least where' es i)
    (content_read text d least where' es i leaf.end (names_of r) names
    (colon_goes_on text leaf.end (next text leaf.end) k) dash mark
    (key_none text d i (names_no_key text d i leaf.end (names_of r) names k.mark
    (ends_far text i leaf.end (next text leaf.end) refl far)) es)
    ∙ colon_content text d least es i (names_of r) (next text leaf.end) k.mark)

-- the key is none, since its text is none or it is an alias behind names
pub keyed_unread : (text : List ℕ) (d least : ℕ) (room : code.Room) (where' : Room) (r : Reader) (leaf : leaves.Leaf)
    → IsKeyed text d least room where' r leaf → (leaf.kind ≡ Plain → ⊥)
    → ((place : ℕ) → IsLeaf text as_key place leaf → HasNoLeaf text as_key (names_of r) place)
    → ((place : ℕ) → IsLeaf text (by_columns least) place leaf → HasNoLeaf text (by_columns least) (names_of r) place)
    → LeavesBlockNode text d least where' r.start.index
keyed_unread text d least room where' r leaf (keyed_leaf place x l k) other key none =
    let shut = leaf_shut text place leaf l in
    unread_leaf text d least room where' r place x shut.0 shut.1 (key place l)
    (none place (leaf_columns text least place leaf l other))
keyed_unread text d least room where' r leaf
    (keyed_names names some dash mark early kind begin stop k takes refuses lined) other key none =
    absurd (other kind)

-- the value of the first key, or an entry behind it, is left
entries_from : (text : List ℕ) (d c i k : ℕ) (x : Node) → is_at text c i ≡ true → is_mark text 63 i ≡ false
    → Key text d i k x → LeavesEntriesBehind text d c k → (n : ℕ) (es : List Marked)
    → EndsAtTab text (entries_within text d c n es i)
entries_from text d c i k x here other stands left n es =
    let le : d ≤ d = omega arith in
    let one = entry_within text d c in
    let more = more_column text (is_at text c) one c n in
    tab_as text (entries_within text d c n es i)
    (and_then (behind_within text d c value (and_node es x) (suc k)) more)
    (column_is text (is_at text c) one c n es i true _ here refl
    ∙ ap (λ r. and_then r more)
    (entry_is text (key_within text d) (behind_within text d c) c es i false other
    ∙ ap (λ r. and_then r (λ ks q. behind_within text d c value ks (suc q))) (key_of text stands d le es)))
    (by_turns n)
  where
    by_turns : (n : ℕ) → EndsAtTab text (and_then (behind_within text d c value (and_node es x) (suc k))
        (more_column text (is_at text c) (entry_within text d c) c n))
    by_turns zero = λ xs j h.
        let t = then_some (behind_within text d c value (and_node es x) (suc k)) _ (xs, j) h in
        absurd (no_some (xs, j) t.2)
    by_turns (suc n) = left n (and_node es x)

pub keyed_left : (text : List ℕ) (d e least : ℕ) (room : code.Room) (where' : Room) (r : Reader) (leaf : leaves.Leaf)
    (x : Node) → IsKeyed text e least room where' r leaf → leaf.begin ≤ leaf.end → suc d ≡ e
    → is_at text (column text r.start.index) r.start.index ≡ true → Key text d r.start.index (next text leaf.end) x
    → LeavesEntriesBehind text d (column text r.start.index) (next text leaf.end)
    → LeavesBlockNode text e least where' r.start.index
keyed_left text d e least room where' r leaf x (keyed_leaf place y l k) part more here stands left =
    left_by text e least room where' r place y
    (λ end names line refuses mark es. room_left text least (takes_columns where')
    (mapping_here text e r.start.index es) (amiss_tab text least (mapping_here text e r.start.index es)
    (mapping_left text d e (column text r.start.index) r.start.index r.start.index unnamed es more
    (entries_from text d (column text r.start.index) r.start.index (next text leaf.end) x here mark stands left))))
    (λ es. amiss_none text least (content_at text (brackets_at text e) least es r.start.index (names_of r) place)
    (keyed_content text e least es r.start.index (names_of r) place leaf l part k))
keyed_left text d e least room where' r leaf x
    (keyed_names names some dash mark early kind begin stop k takes refuses lined) part more here stands left = λ es.
    here_left text e least where' es r.start.index leaf.end (names_of r) names
    (colon_goes_on text leaf.end (next text leaf.end) k) dash
    (room_left text least (takes_columns where') (mapping_here text e r.start.index es)
    (amiss_tab text least (mapping_here text e r.start.index es)
    (mapping_left text d e (column text r.start.index) r.start.index r.start.index unnamed es more
    (entries_from text d (column text r.start.index) r.start.index (next text leaf.end) x here mark stands left))))
    (amiss_none text least
    (content_at text (brackets_at text e) least es r.start.index (names_of r) (next text leaf.end))
    (colon_content text e least es r.start.index (names_of r) (next text leaf.end) k.mark))
