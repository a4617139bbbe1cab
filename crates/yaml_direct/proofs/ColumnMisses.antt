-- What ends before a tab where a collection by columns is left.
use Rattle.std.proofs.Common.{ℕ, zero, suc, ◌≤◌, ◌≡◌, ◌≢◌, ◌⊎◌, ◌==◌, inl, inr, not, Bool, true, false, List, [], Some}
use Rattle.std.proofs.Common.{None, refl, sym, subst, ap, ◌∙◌, arith, length}
use Rattle.std.proofs.lemmas.Bool.{and_left, and_parts, and_right, leb-true, ne_eqb}
use Rattle.yaml_base.specs.PlainEvent.{mapping_end, mapping_start, sequence_end, sequence_start}
use Rattle.yaml_direct.specs.LeftByColumns.{EndsAmiss, EndsAtTab}
use Rattle.yaml_direct.proofs.PartMisses.{amiss_as, amiss_none, amiss_then, tab_as, tab_ended, tab_no_key, tab_no_mark, tab_none}
use Rattle.yaml_grammar.specs.Blocks.{Behind, Entry, Key, anything, is_value, part, value}
use Rattle.yaml_grammar.specs.Bytes.{at, column, is_mark, is_over}
use Rattle.yaml_grammar.specs.Gaps.{is_at, is_item, is_within}
use Rattle.yaml_grammar.specs.Names.{Names, unnamed}
use Rattle.yaml_grammar.specs.Nodes.{Marked, Node, end_mark, mark, no_content}
use Rattle.yaml_reading.specs.BlockReader.{column_step, columns_at, ended_by, entries, item_behind, items}
use Rattle.yaml_reading.specs.BlockReader.{marked_step}
use Rattle.yaml_reading.specs.Readers.{Read, Reader, and_event, and_node, and_then}
use Rattle.yaml_direct.proofs.PartReads.{behind_of, entry_of}
use Rattle.yaml_reading.proofs.BlockSteps.{behind_within, column_is, columns_entries, columns_items, entries_within}
use Rattle.yaml_reading.proofs.BlockSteps.{entry_is, entry_within, items_within, key_within, more_column}
use Rattle.yaml_reading.proofs.KeyReading.{key_of}
use Rattle.yaml_reading.proofs.Options.{pair_is, then_some}

-- what is read here ends here
tab_here : (text : List ℕ) (es : List Marked) (k : ℕ) → at text k ≡ 9 → EndsAtTab text (Some (es, k))
tab_here text es k tab xs j h = subst (λ q. at text q ≡ 9) (pair_is es xs k j h).1 tab

-- behind a part that ended before a tab
tab_step : (text : List ℕ) (one more : Reader) (es : List Marked) (k : ℕ) (here within : Bool) → at text k ≡ 9
    → ◌≡◌ {A = Read} (one es k) None → EndsAtTab text (column_step one more es k here within)
tab_step text one more es k true within tab none =
    tab_none text (and_then (one es k) more) (ap (λ r. and_then r more) none)
tab_step text one more es k false true tab none = tab_none text None refl
tab_step text one more es k false false tab none = tab_here text es k tab

tab_out : (text : List ℕ) (one more : Reader) (es : List Marked) (k : ℕ) (within : Bool) → at text k ≡ 9
    → EndsAtTab text (column_step one more es k false within)
tab_out text one more es k true tab = tab_none text None refl
tab_out text one more es k false tab = tab_here text es k tab

tab_items : (text : List ℕ) (d c n : ℕ) (es : List Marked) (k : ℕ) → at text k ≡ 9
    → EndsAtTab text (items_within text d c n es k)
tab_items text d c n es k tab =
    let one = item_behind (behind_within text d c anything) in
    let more = more_column text (is_item text c) one c n in
    tab_as text (items_within text d c n es k) (column_step one more es k false (is_within text (suc c) k))
    (column_is text (is_item text c) one c n es k false _
    (and_left (is_mark text 45 k) _ (tab_no_mark text 45 k tab refl)) refl)
    (tab_out text one more es k (is_within text (suc c) k) tab)

-- nor is a token that stands further in a part of the collection
further : (text : List ℕ) (c k : ℕ) → is_within text (suc c) k ≡ true → (column text k == c) ≡ false
further text c k h =
    let far = leb-true (suc c) (column text k) (and_parts (not (is_over text k)) _ h).1 in
    ne_eqb (column text k) c (λ e. omega (arith, far, e))

further_items : (text : List ℕ) (d c n : ℕ) (es : List Marked) (k : ℕ) → is_within text (suc c) k ≡ true
    → EndsAtTab text (items_within text d c n es k)
further_items text d c n es k inner =
    tab_none text (items_within text d c n es k)
    (column_is text (is_item text c) (item_behind (behind_within text d c anything)) c n es k false true
    (and_right (is_mark text 45 k) _ (further text c k inner)) inner)

further_entries : (text : List ℕ) (d c n : ℕ) (es : List Marked) (k : ℕ) → is_within text (suc c) k ≡ true
    → EndsAtTab text (entries_within text d c n es k)
further_entries text d c n es k inner =
    tab_none text (entries_within text d c n es k)
    (column_is text (is_at text c) (entry_within text d c) c n es k false true
    (and_right (not (is_over text k)) _ (further text c k inner)) inner)

tab_entry : (text : List ℕ) (d c : ℕ) (es : List Marked) (k : ℕ) → at text k ≡ 9
    → ◌≡◌ {A = Read} (entry_within text d c es k) None
tab_entry text d c es k tab =
    entry_is text (key_within text d) (behind_within text d c) c es k false (tab_no_mark text 63 k tab refl)
    ∙ ap (λ r. and_then r (λ ks q. behind_within text d c value ks (suc q))) (tab_no_key text d es k tab)

tab_entries : (text : List ℕ) (d c n : ℕ) (es : List Marked) (k : ℕ) → at text k ≡ 9
    → EndsAtTab text (entries_within text d c n es k)
tab_entries text d c n es k tab =
    let one = entry_within text d c in
    let more = more_column text (is_at text c) one c n in
    tab_as text (entries_within text d c n es k)
    (column_step one more es k (is_at text c k) (is_within text (suc c) k))
    (column_is text (is_at text c) one c n es k _ _ refl refl)
    (tab_step text one more es k (is_at text c k) (is_within text (suc c) k) tab (tab_entry text d c es k tab))

-- where one more part is left, or what is behind it
pub item_left : (text : List ℕ) (d c i : ℕ) → is_item text c i ≡ true
    → ((es : List Marked) → EndsAmiss text (suc c) (behind_within text d c anything es (suc i)))
    → (n : ℕ) (es : List Marked) → EndsAtTab text (items_within text d c n es i)
item_left text d c i item left n es =
    let one = item_behind (behind_within text d c anything) in
    tab_as text (items_within text d c n es i) (and_then (one es i) (more_column text (is_item text c) one c n))
    (column_is text (is_item text c) one c n es i true _ item refl)
    (amiss_then text (suc c) (one es i) (more_column text (is_item text c) one c n) (left es) (behind n))
  where
    behind : (n : ℕ) (es : List Marked) (k : ℕ) → (at text k ≡ 9) ⊎ (is_within text (suc c) k ≡ true)
        → EndsAtTab text (more_column text (is_item text c) (item_behind (behind_within text d c anything)) c n es k)
    behind zero es k tab = tab_none text None refl
    behind (suc n) es k (inl tab) = tab_items text d c n es k tab
    behind (suc n) es k (inr inner) = further_items text d c n es k inner

pub items_left : (text : List ℕ) (d c i k : ℕ) (x : Node) → is_item text c i ≡ true
    → Behind text d c anything (suc i) k x
    → ((n : ℕ) (es : List Marked) → EndsAtTab text (items_within text d c n es k))
    → (n : ℕ) (es : List Marked) → EndsAtTab text (items_within text d c n es i)
items_left text d c i k x item stands left n es =
    let one = item_behind (behind_within text d c anything) in
    let le : d ≤ d = omega arith in
    tab_as text (items_within text d c n es i) (more_column text (is_item text c) one c n (and_node es x) k)
    (column_is text (is_item text c) one c n es i true _ item refl
    ∙ ap (λ r. and_then r (more_column text (is_item text c) one c n)) (behind_of text stands d le es))
    (behind n)
  where
    behind : (n : ℕ) → EndsAtTab text
        (more_column text (is_item text c) (item_behind (behind_within text d c anything)) c n (and_node es x) k)
    behind zero = tab_none text None refl
    behind (suc n) = left n (and_node es x)

pub entry_left : (text : List ℕ) (d c i : ℕ) → is_at text c i ≡ true
    → ((es : List Marked) → EndsAmiss text (suc c) (entry_within text d c es i))
    → (n : ℕ) (es : List Marked) → EndsAtTab text (entries_within text d c n es i)
entry_left text d c i here left n es =
    let one = entry_within text d c in
    tab_as text (entries_within text d c n es i) (and_then (one es i) (more_column text (is_at text c) one c n))
    (column_is text (is_at text c) one c n es i true _ here refl)
    (amiss_then text (suc c) (one es i) (more_column text (is_at text c) one c n) (left es) (behind n))
  where
    behind : (n : ℕ) (es : List Marked) (k : ℕ) → (at text k ≡ 9) ⊎ (is_within text (suc c) k ≡ true)
        → EndsAtTab text (more_column text (is_at text c) (entry_within text d c) c n es k)
    behind zero es k tab = tab_none text None refl
    behind (suc n) es k (inl tab) = tab_entries text d c n es k tab
    behind (suc n) es k (inr inner) = further_entries text d c n es k inner

pub entries_left : (text : List ℕ) (d c i k : ℕ) (x y : Node) → is_at text c i ≡ true
    → Entry text d c i k x y
    → ((n : ℕ) (es : List Marked) → EndsAtTab text (entries_within text d c n es k))
    → (n : ℕ) (es : List Marked) → EndsAtTab text (entries_within text d c n es i)
entries_left text d c i k x y here stands left n es =
    let one = entry_within text d c in
    let le : d ≤ d = omega arith in
    tab_as text (entries_within text d c n es i)
    (more_column text (is_at text c) one c n (and_node (and_node es x) y) k)
    (column_is text (is_at text c) one c n es i true _ here refl
    ∙ ap (λ r. and_then r (more_column text (is_at text c) one c n)) (entry_of text stands d le es))
    (behind n)
  where
    behind : (n : ℕ) → EndsAtTab text
        (more_column text (is_at text c) (entry_within text d c) c n (and_node (and_node es x) y) k)
    behind zero = tab_none text None refl
    behind (suc n) = left n (and_node (and_node es x) y)

-- where more stands further in than a collection
pub items_out : (text : List ℕ) (d c k : ℕ) → is_item text c k ≡ false → is_within text (suc c) k ≡ true
    → (n : ℕ) (es : List Marked) → EndsAtTab text (items_within text d c n es k)
items_out text d c k item inner n es =
    tab_none text (items_within text d c n es k)
    (column_is text (is_item text c) (item_behind (behind_within text d c anything)) c n es k false true item inner)

pub entries_out : (text : List ℕ) (d c k : ℕ) → is_at text c k ≡ false → is_within text (suc c) k ≡ true
    → (n : ℕ) (es : List Marked) → EndsAtTab text (entries_within text d c n es k)
entries_out text d c k here inner n es =
    tab_none text (entries_within text d c n es k)
    (column_is text (is_at text c) (entry_within text d c) c n es k false true here inner)

-- a whole collection
pub sequence_left : (text : List ℕ) (d e c start i : ℕ) (names : Names) (es : List Marked) → suc d ≡ e
    → ((n : ℕ) (es : List Marked) → EndsAtTab text (items_within text d c n es i))
    → EndsAtTab text (columns_at text e items names start c es i)
sequence_left text d e c start i names es more left =
    subst (λ k. EndsAtTab text (columns_at text k items names start c es i)) more
    (let begin : Marked = (sequence_start names.anchor names.tag, mark text start) in
    tab_as text (columns_at text (suc d) items names start c es i)
    (ended_by text sequence_end c (items_within text d c (length text) (and_event es begin) i))
    (columns_items text d names start c es i)
    (tab_ended text sequence_end c (items_within text d c (length text) (and_event es begin) i)
    (left (length text) (and_event es begin))))

pub mapping_left : (text : List ℕ) (d e c start i : ℕ) (names : Names) (es : List Marked) → suc d ≡ e
    → ((n : ℕ) (es : List Marked) → EndsAtTab text (entries_within text d c n es i))
    → EndsAtTab text (columns_at text e entries names start c es i)
mapping_left text d e c start i names es more left =
    subst (λ k. EndsAtTab text (columns_at text k entries names start c es i)) more
    (let begin : Marked = (mapping_start names.anchor names.tag, mark text start) in
    tab_as text (columns_at text (suc d) entries names start c es i)
    (ended_by text mapping_end c (entries_within text d c (length text) (and_event es begin) i))
    (columns_entries text d names start c es i)
    (tab_ended text mapping_end c (entries_within text d c (length text) (and_event es begin) i)
    (left (length text) (and_event es begin))))

-- an entry
pub key_left : (text : List ℕ) (d c i : ℕ) (es : List Marked) → is_mark text 63 i ≡ false
    → ◌≡◌ {A = Read} (key_within text d es i) None → EndsAmiss text (suc c) (entry_within text d c es i)
key_left text d c i es other none =
    amiss_none text (suc c) (entry_within text d c es i)
    (entry_is text (key_within text d) (behind_within text d c) c es i false other
    ∙ ap (λ r. and_then r (λ ks k. behind_within text d c value ks (suc k))) none)

pub value_left : (text : List ℕ) (d c i k : ℕ) (x : Node) → is_mark text 63 i ≡ false → Key text d i k x
    → ((es : List Marked) → EndsAmiss text (suc c) (behind_within text d c value es (suc k)))
    → (es : List Marked) → EndsAmiss text (suc c) (entry_within text d c es i)
value_left text d c i k x other stands left es =
    let le : d ≤ d = omega arith in
    amiss_as text (suc c) (entry_within text d c es i) (behind_within text d c value (and_node es x) (suc k))
    (entry_is text (key_within text d) (behind_within text d c) c es i false other
    ∙ ap (λ r. and_then r (λ ks k. behind_within text d c value ks (suc k))) (key_of text stands d le es))
    (left (and_node es x))

-- behind a key that ended amiss stands no value
no_value : (text : List ℕ) (c k : ℕ) → (at text k ≡ 9) ⊎ (is_within text (suc c) k ≡ true) → is_value text c k ≡ false
no_value text c k (inl tab) = and_left (is_mark text 58 k) _ (tab_no_mark text 58 k tab refl)
no_value text c k (inr inner) =
    and_right (is_mark text 58 k) _ (and_right (not (is_over text k)) _ (further text c k inner))

pub marked_left : (text : List ℕ) (d c i : ℕ) → is_mark text 63 i ≡ true
    → ((es : List Marked) → EndsAmiss text (suc c) (behind_within text d c part es (suc i)))
    → (es : List Marked) → EndsAmiss text (suc c) (entry_within text d c es i)
marked_left text d c i mark left es xs j h =
    let x = then_some (behind_within text d c part es (suc i)) _ (xs, j)
    (sym (entry_is text (key_within text d) (behind_within text d c) c es i true mark) ∙ h) in
    let ends = left es x.0.0 x.0.1 x.1 in
    let there = ap (marked_step text (behind_within text d c part) c x.0.0 x.0.1) (no_value text c x.0.1 ends) in
    let same = pair_is (and_node x.0.0 (no_content (end_mark text c x.0.1) unnamed [])) xs x.0.1 j (sym there ∙ x.2) in
    subst (λ q. (at text q ≡ 9) ⊎ (is_within text (suc c) q ≡ true)) same.1 ends

pub marked_value_left : (text : List ℕ) (d c i k : ℕ) (x : Node) → is_mark text 63 i ≡ true
    → Behind text d c part (suc i) k x → is_value text c k ≡ true
    → ((es : List Marked) → EndsAmiss text (suc c) (behind_within text d c part es (suc k)))
    → (es : List Marked) → EndsAmiss text (suc c) (entry_within text d c es i)
marked_value_left text d c i k x mark stands colon left es =
    let le : d ≤ d = omega arith in
    amiss_as text (suc c) (entry_within text d c es i) (behind_within text d c part (and_node es x) (suc k))
    (entry_is text (key_within text d) (behind_within text d c) c es i true mark
    ∙ ap (λ r. and_then r (λ ks k. marked_step text (behind_within text d c part) c ks k (is_value text c k)))
    (behind_of text stands d le es)
    ∙ ap (marked_step text (behind_within text d c part) c (and_node es x) k) colon)
    (left (and_node es x))

-- the first key's value, and the other entries
pub first_left : (text : List ℕ) (d c i n : ℕ) (es : List Marked)
    → EndsAmiss text (suc c) (behind_within text d c value es i)
    → EndsAtTab text (and_then (behind_within text d c value es i) (entries_within text d c n))
first_left text d c i n es left =
    amiss_then text (suc c) (behind_within text d c value es i) (entries_within text d c n) left
    (λ ks k ends. elim ends [
      | inl tab ↦ tab_entries text d c n ks k tab
      | inr inner ↦ further_entries text d c n ks k inner
    ])

pub rest_left : (text : List ℕ) (d c i k n : ℕ) (x : Node) (es : List Marked) → Behind text d c value i k x
    → EndsAtTab text (entries_within text d c n (and_node es x) k)
    → EndsAtTab text (and_then (behind_within text d c value es i) (entries_within text d c n))
rest_left text d c i k n x es stands left =
    let le : d ≤ d = omega arith in
    tab_as text (and_then (behind_within text d c value es i) (entries_within text d c n))
    (entries_within text d c n (and_node es x) k)
    (ap (λ r. and_then r (entries_within text d c n)) (behind_of text stands d le es)) left

-- what is left where the items up to a token were read, if what stands from there on is
pub record ItemsLeft (text : List ℕ) (d c from i : ℕ) : Type 0 where
  pub on : ((n : ℕ) (es : List Marked) → EndsAtTab text (items_within text d c n es i))
      → (n : ℕ) (es : List Marked) → EndsAtTab text (items_within text d c n es from)

-- and the entries
pub record EntriesLeft (text : List ℕ) (d c from i : ℕ) : Type 0 where
  pub token : at text i ≢ 32
  pub on : ((n : ℕ) (es : List Marked) → EndsAtTab text (entries_within text d c n es i))
      → (n : ℕ) (es : List Marked) → EndsAtTab text (entries_within text d c n es from)
