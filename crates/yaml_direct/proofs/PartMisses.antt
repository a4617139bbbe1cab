-- What ends before a tab where a node or a part is left.
use Rattle.std.proofs.Common.{ℕ, suc, ◌+◌, ◌<◌, ◌≡◌, ◌≢◌, ◌==◌, ◌&&◌, ◌||◌, Bool, true, false, List, Some}
use Rattle.std.proofs.Common.{None, refl, sym, subst, ap, ◌∙◌, arith, drop, ◌⊎◌, inl, inr, length}
use Rattle.std.proofs.lemmas.Bool.{and_left, and_parts, and_right, eq-eqb, eqb-true, false_from_ne_true, ltb-true, ne_eqb}
use Rattle.std.proofs.lemmas.Bool.{or_cases, or_parts}
use Rattle.std.specs.Prelude.{Option, nat_eq, nat_le, nat_lt, option_and_then}
use Rattle.yaml_base.specs.PlainEvent.{PlainEvent}
use denote.Enum.Bare.{sameb}
use Rattle.yaml_direct.specs.contracts.block.Room.{the_type}
use Rattle.yaml_direct.specs.ByColumns.{room_of}
use Rattle.yaml_direct.specs.Gaps.{begins_token}
use Rattle.yaml_direct.specs.LeftByColumns.{EndsAmiss, EndsAtTab}
use Rattle.yaml_direct.specs.Tokens.{HasNoToken}
use Rattle.yaml_direct.specs.declared.block.Room as block
use Rattle.yaml_direct.specs.declared.block.Room.TheVariants as rooms
use Rattle.yaml_direct.proofs.NextLaws.{bytes_are}
use Rattle.yaml_direct.proofs.ReaderLaws.{no_token_here}
use Rattle.yaml_grammar.specs.Blocks.{Room, ends_key, is_own, later, takes_columns}
use Rattle.yaml_grammar.specs.Bytes.{at, column, is_mark, is_over, parts_documents}
use Rattle.yaml_grammar.specs.Gaps.{breaks, ends_its_line, is_within, next}
use Rattle.yaml_grammar.specs.Leaves.{leaf_at}
use Rattle.yaml_grammar.specs.Names.{Names, count_while, names_at, one_name, unnamed}
use Rattle.yaml_grammar.specs.Nodes.{Marked}
use Rattle.yaml_grammar.specs.Plain.{as_key, by_columns}
use Rattle.yaml_reading.specs.BlockReader.{columns_at, ended_by, entries, in_room, items, with_line_end}
use Rattle.yaml_reading.specs.BracketReader.{brackets_at}
use Rattle.yaml_reading.specs.Readers.{Read, Reader, and_then, opens, with_leaf}
use Rattle.yaml_reading.proofs.Begins.{no_leaf_at, stays, stays_at, wanders}
use Rattle.yaml_reading.proofs.BlockApart.{dash_inside, dash_stays, goes_on, own_no_within}
use Rattle.yaml_reading.proofs.BlockSteps.{behind_is, behind_within, content_is, key_within}
use Rattle.yaml_reading.proofs.BlockSteps.{node_within}
use Rattle.yaml_reading.proofs.KeyReading.{begins_marked}
use Rattle.yaml_reading.proofs.NodeAnswers.{content_read, mapping_read, no_leaf_key, sequence_read}
use Rattle.yaml_reading.proofs.Options.{map_some, no_some, then_some}

pub tab_none : (text : List ℕ) (r : Read) → ◌≡◌ {A = Read} r None → EndsAtTab text r
tab_none text r none xs j h = absurd (no_some (xs, j) (sym none ∙ h))

pub tab_as : (text : List ℕ) (r s : Read) → r ≡ s → EndsAtTab text s → EndsAtTab text r
tab_as text r s same left xs j h = left xs j (sym same ∙ h)

pub tab_then : (text : List ℕ) (r : Read) (more : Reader) → EndsAtTab text r
    → ((es : List Marked) (k : ℕ) → at text k ≡ 9 → EndsAtTab text (more es k)) → EndsAtTab text (and_then r more)
tab_then text r more left on xs j h =
    let x = then_some r _ (xs, j) h in
    on x.0.0 x.0.1 (left x.0.0 x.0.1 x.1) xs j x.2

pub tab_ended : (text : List ℕ) (e : PlainEvent) (c : ℕ) (r : Read) → EndsAtTab text r
    → EndsAtTab text (ended_by text e c r)
tab_ended text e c r left xs j h =
    let x = map_some r _ (xs, j) h in
    subst (λ k. at text k ≡ 9) (ap (λ p. p.1) x.2) (left x.0.0 x.0.1 x.1)

-- before a tab, or before a token that stands further in
pub amiss_tab : (text : List ℕ) (least : ℕ) (r : Read) → EndsAtTab text r → EndsAmiss text least r
amiss_tab text least r left xs j h = inl (left xs j h)

pub amiss_as : (text : List ℕ) (least : ℕ) (r s : Read) → r ≡ s → EndsAmiss text least s → EndsAmiss text least r
amiss_as text least r s same left xs j h = left xs j (sym same ∙ h)

pub amiss_none : (text : List ℕ) (least : ℕ) (r : Read) → ◌≡◌ {A = Read} r None → EndsAmiss text least r
amiss_none text least r none = amiss_tab text least r (tab_none text r none)

pub amiss_then : (text : List ℕ) (least : ℕ) (r : Read) (more : Reader) → EndsAmiss text least r
    → ((es : List Marked) (k : ℕ) → (at text k ≡ 9) ⊎ (is_within text least k ≡ true) → EndsAtTab text (more es k))
    → EndsAtTab text (and_then r more)
amiss_then text least r more left on xs j h =
    let x = then_some r _ (xs, j) h in
    on x.0.0 x.0.1 (left x.0.0 x.0.1 x.1) xs j x.2

-- behind an indicator
pub tab_in_line : (text : List ℕ) (d c : ℕ) (room : Room) (es : List Marked) (i p : ℕ)
    → ends_its_line text i ≡ false → p ≡ next text i → EndsAmiss text (suc c) (node_within text d (suc c) room es p)
    → EndsAmiss text (suc c) (behind_within text d c room es i)
tab_in_line text d c room es i p line there left =
    amiss_as text (suc c) (behind_within text d c room es i) (node_within text d (suc c) room es (next text i))
    (behind_is text (columns_at text d) (brackets_at text d) c room es i false _ _ line refl refl)
    (subst (λ q. EndsAmiss text (suc c) (node_within text d (suc c) room es q)) there left)

pub tab_later : (text : List ℕ) (d c : ℕ) (room in_later : Room) (es : List Marked) (i p : ℕ)
    → ends_its_line text i ≡ true → p ≡ next text i → is_within text (suc c) p ≡ true → in_later ≡ later room
    → EndsAmiss text (suc c) (node_within text d (suc c) in_later es p) → EndsAmiss text (suc c) (behind_within text d c room es i)
tab_later text d c room in_later es i p line there inner same left =
    amiss_as text (suc c) (behind_within text d c room es i) (node_within text d (suc c) (later room) es (next text i))
    (behind_is text (columns_at text d) (brackets_at text d) c room es i true true _ line
    (ap (is_within text (suc c)) (sym there) ∙ inner) refl)
    (subst (λ q. EndsAmiss text (suc c) (node_within text d (suc c) (later room) es q)) there
    (subst (λ w. EndsAmiss text (suc c) (node_within text d (suc c) w es p)) same left))

pub tab_own : (text : List ℕ) (d c : ℕ) (room : Room) (es : List Marked) (i p : ℕ) → ends_its_line text i ≡ true
    → p ≡ next text i → is_own text room (suc c) p ≡ true
    → EndsAtTab text (columns_at text d items unnamed p c es p) → EndsAmiss text (suc c) (behind_within text d c room es i)
tab_own text d c room es i p line there own left =
    let own' = ap (is_own text room (suc c)) (sym there) ∙ own in
    amiss_as text (suc c) (behind_within text d c room es i) (columns_at text d items unnamed (next text i) c es (next text i))
    (behind_is text (columns_at text d) (brackets_at text d) c room es i true false true line
    (own_no_within text room c (next text i) own') own')
    (amiss_tab text (suc c) (columns_at text d items unnamed (next text i) c es (next text i))
    (subst (λ q. EndsAtTab text (columns_at text d items unnamed q c es q)) there left))

-- no token stands where `#` begins no comment
less_self : (k : ℕ) (b : Bool) → (nat_lt k k && b) ≡ false
less_self k b = and_left (nat_lt k k) b (false_from_ne_true (nat_lt k k) (λ t. omega (arith, ltb-true k k t)))

sharp_name : (text : List ℕ) (k : ℕ) → at text k ≡ 35 → one_name text false (unnamed, k) ≡ Some (unnamed, k)
sharp_name text k e =
    let none : count_while (nat_eq 32) (drop k text) ≡ 0 = ap (count_while (nat_eq 32)) (bytes_are text k 34 e) in
    let here : k + count_while (nat_eq 32) (drop k text) ≡ k = omega (arith, none) in
    let answer : Option (Names × ℕ) = Some (unnamed, k) in
    rw (here, e) (refl {a = answer})

pub sharp_names : (text : List ℕ) (k : ℕ) → at text k ≡ 35 → names_at text false k ≡ Some (unnamed, k)
sharp_names text k e = ap (option_and_then (one_name text false)) (sharp_name text k e) ∙ sharp_name text k e

no_mark : (text : List ℕ) (c k : ℕ) → (at text k == c) ≡ false → is_mark text c k ≡ false
no_mark text c k h = and_left (at text k == c) _ h

pub sharp_key : (text : List ℕ) (d : ℕ) (es : List Marked) (k : ℕ) → at text k ≡ 35 → next text k ≡ k
    → breaks text k ≡ false → key_within text d es k ≡ None
sharp_key text d es k e here line =
    no_leaf_key text d es k k unnamed (sharp_names text k e) line (ap (λ q. opens (at text q)) here ∙ ap opens e)
    (less_self k (ends_key text k k)) (ap (leaf_at text as_key) here ∙ no_leaf_at text as_key k 35 e refl)

sharp_node : (text : List ℕ) (d least : ℕ) (room : Room) (es : List Marked) (k : ℕ) → HasNoToken text k
    → ◌≡◌ {A = Read} (node_within text d least room es k) None
sharp_node text d least room es k n =
    let e = n.sharp in
    content_read text d least room es k k unnamed (sharp_names text k e) (no_token_here text k n)
    (no_mark text 45 k (ap (λ c. c == 45) e)) (no_mark text 63 k (ap (λ c. c == 63) e))
    (sharp_key text d es k e n.here n.in_line)
    ∙ content_is text (brackets_at text d) least es k unnamed (next text k) false false
    (ap (λ q. opens (at text q)) n.here ∙ ap opens e)
    (ap (λ q. at text q == 124 || at text q == 62) n.here ∙ ap (λ c. c == 124 || c == 62) e)
    ∙ ap (λ o. with_line_end text (with_leaf text es k unnamed o))
    (ap (leaf_at text (by_columns least)) n.here ∙ no_leaf_at text (by_columns least) k 35 e refl)

pub tab_sharp : (text : List ℕ) (d c : ℕ) (room : Room) (es : List Marked) (i : ℕ) → HasNoToken text i
    → EndsAmiss text (suc c) (behind_within text d c room es i)
tab_sharp text d c room es i n =
    tab_in_line text d c room es i i (no_token_here text i n) (sym n.here)
    (amiss_none text (suc c) (node_within text d (suc c) room es i) (sharp_node text d (suc c) room es i n))

-- a collection by columns
in_rooms : (text : List ℕ) (b : Bool) (r : Read) → (b ≡ true → EndsAtTab text r) → EndsAtTab text (in_room b r)
in_rooms text true r left = left refl
in_rooms text false r left = tab_none text None refl

pub tab_sequence : (text : List ℕ) (d least : ℕ) (room : Room) (es : List Marked) (i : ℕ) → is_mark text 45 i ≡ true
    → (takes_columns room ≡ true → EndsAtTab text (columns_at text d items unnamed i (column text i) es i))
    → EndsAmiss text least (node_within text d least room es i)
tab_sequence text d least room es i mark left =
    amiss_as text least (node_within text d least room es i)
    (in_room (takes_columns room) (columns_at text d items unnamed i (column text i) es i))
    (sequence_read text d least room es i mark)
    (amiss_tab text least (in_room (takes_columns room) (columns_at text d items unnamed i (column text i) es i))
    (in_rooms text (takes_columns room) (columns_at text d items unnamed i (column text i) es i) left))

pub tab_mapping : (text : List ℕ) (d least : ℕ) (room : Room) (es : List Marked) (i : ℕ) → is_mark text 63 i ≡ true
    → is_over text i ≡ false
    → (takes_columns room ≡ true → EndsAtTab text (columns_at text d entries unnamed i (column text i) es i))
    → EndsAmiss text least (node_within text d least room es i)
tab_mapping text d least room es i mark inside left =
    let s = dash_stays text 63 i refl mark in
    let byte = eqb-true (at text i) 63 (and_parts (at text i == 63) _ mark).0 in
    amiss_as text least (node_within text d least room es i)
    (in_room (takes_columns room) (columns_at text d entries unnamed i (column text i) es i))
    (mapping_read text d least room es i i unnamed (s.names false)
    (goes_on text i s.in_line (λ e. dash_inside text 63 i refl mark (ap (at text) (sym s.here) ∙ e)))
    (no_mark text 45 i (ap (λ c. c == 45) byte)) (begins_marked text i d inside mark))
    (amiss_tab text least (in_room (takes_columns room) (columns_at text d entries unnamed i (column text i) es i))
    (in_rooms text (takes_columns room) (columns_at text d entries unnamed i (column text i) es i) left))

-- a tab begins no key
pub tab_no_mark : (text : List ℕ) (c k : ℕ) → at text k ≡ 9 → (9 == c) ≡ false → is_mark text c k ≡ false
tab_no_mark text c k tab other = no_mark text c k (ap (λ b. b == c) tab ∙ other)

pub tab_no_key : (text : List ℕ) (d : ℕ) (es : List Marked) (k : ℕ) → at text k ≡ 9 → key_within text d es k ≡ None
tab_no_key text d es k tab =
    let s = stays_at text k 9 tab refl in
    no_leaf_key text d es k k unnamed (s.names false) s.in_line (ap (λ q. opens (at text q)) s.here ∙ ap opens tab)
    (less_self k (ends_key text k k)) (ap (leaf_at text as_key) s.here ∙ no_leaf_at text as_key k 9 tab refl)

-- a byte that begins a token
pub high_token : (text : List ℕ) (i : ℕ) → 32 < at text i → at text i ≢ 35 → begins_token text i ≡ true
high_token text i high other =
    let space = ne_eqb (at text i) 32 (λ e. omega (arith, high, e)) in
    let feed = ne_eqb (at text i) 10 (λ e. omega (arith, high, e)) in
    let back = ne_eqb (at text i) 13 (λ e. omega (arith, high, e)) in
    let sharp = ne_eqb (at text i) 35 other in
    rw (space, feed, back, sharp) refl

pub either_byte : (c a b : ℕ) → (c == a || c == b) ≡ true → (c ≡ a) ⊎ (c ≡ b)
either_byte c a b h = elim (or_cases (c == a) (c == b) h) [
  | inl e ↦ inl (eqb-true c a e)
  | inr e ↦ inr (eqb-true c b e)
]

-- the line goes on where content stands
pub line_here : (text : List ℕ) (i : ℕ) → wanders (at text i) ≡ false → is_over text i ≡ false
    → ends_its_line text i ≡ false
line_here text i w inside =
    let s = stays text i w in
    let more : nat_le (length text) (next text i) ≡ false =
    ap (nat_le (length text)) s.here ∙ (or_parts (nat_le (length text) i) (parts_documents text i) inside).0 in
    rw (s.in_line, more) refl

-- where no gap stands behind a byte, it is no mark
pub gap_mark : (text : List ℕ) (c r i : ℕ) → at text i ≡ r → is_mark text r i ≡ false → is_mark text c i ≡ false
gap_mark text c r i e h = let same = eq-eqb (at text i) r e in and_right (at text i == c) _ (rw same at h)

-- a room that takes no collection
pub value_takes : (room : block.Room) (b : Bool) → b ≡ sameb the_type room rooms.Value → b ≡ true
    → takes_columns (room_of room) ≡ false
value_takes rooms.Item b h t = cc
value_takes rooms.Part b h t = cc
value_takes rooms.Value b h t = refl
