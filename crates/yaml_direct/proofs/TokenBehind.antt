-- Behind what stands by columns stands no space and no line feed.
use Rattle.std.proofs.Common.{ℕ, ◌≡◌, ◌≢◌, ◌==◌, ◌||◌, Bool, true, false, List, [], ◌∷◌, drop}
use Rattle.std.proofs.Common.{refl, sym, ap, ◌∙◌, arith}
use Rattle.std.proofs.lemmas.Bool.{and_parts, eq-eqb, eqb-true, false≢true}
use Rattle.std.proofs.lemmas.List.{get_or-drop}
use Rattle.yaml_grammar.specs.Blocks.{Behind, BlockNode, Entries, Entry, Items, Room, a_block, a_collection, a_leaf}
use Rattle.yaml_grammar.specs.Blocks.{a_mapping, a_sequence, an_entry, an_item, in_a_later_line, in_its_line}
use Rattle.yaml_grammar.specs.Blocks.{in_its_own_column, in_line, key_alone, named_mapping, named_sequence}
use Rattle.yaml_grammar.specs.Blocks.{names_alone, no_entry, no_item, nothing, with_marks}
use Rattle.yaml_grammar.specs.Bytes.{at, column, is_mark, is_over}
use Rattle.yaml_grammar.specs.Gaps.{Before, apart, before, comment, gap, is_at, next, token}
use Rattle.yaml_grammar.specs.Nodes.{Node, Nodes, Pairs}

-- a space or a line feed
abbrev is_spacing : ℕ → Bool
is_spacing c = c == 32 || c == 10

-- behind a byte of a comment, behind a token, and behind a space or a line feed
comment_stop : (c : ℕ) (cs : List ℕ) (x : Bool) → (c == 10) ≡ x → is_spacing (at cs (gap apart cs).0) ≡ false
    → is_spacing (at cs (gap comment cs).0) ≡ false → is_spacing (at (c ∷ cs) (gap comment (c ∷ cs)).0) ≡ false
comment_stop c cs true e line on = rw e line
comment_stop c cs false e line on = rw e on

token_stop : (c : ℕ) (cs : List ℕ) (x y : Bool) → (c == 10) ≡ x → (c == 32) ≡ y
    → is_spacing (at cs (gap apart cs).0) ≡ false → is_spacing (at (c ∷ cs) (gap token (c ∷ cs)).0) ≡ false
token_stop c cs true y e f line = rw e line
token_stop c cs false true e f line = rw (e, f) line
token_stop c cs false false e f line = rw (e, f) (rw (f, e) refl)

apart_stop : (c : ℕ) (cs : List ℕ) (x y z : Bool) → (c == 10) ≡ x → (c == 32) ≡ y → (c == 35) ≡ z
    → is_spacing (at cs (gap apart cs).0) ≡ false → is_spacing (at cs (gap comment cs).0) ≡ false
    → is_spacing (at (c ∷ cs) (gap apart (c ∷ cs)).0) ≡ false
apart_stop c cs true y z e f g line on = rw e line
apart_stop c cs false true z e f g line on = rw (e, f) line
apart_stop c cs false false true e f g line on = rw (e, f, g) on
apart_stop c cs false false false e f g line on = rw (e, f, g) (rw (f, e) refl)

gap_stop : (b : Before) (cs : List ℕ) → is_spacing (at cs (gap b cs).0) ≡ false
gap_stop token [] = refl
gap_stop apart [] = refl
gap_stop comment [] = refl
gap_stop comment (c ∷ cs) = comment_stop c cs (c == 10) refl (gap_stop apart cs) (gap_stop comment cs)
gap_stop token (c ∷ cs) = token_stop c cs (c == 10) (c == 32) refl refl (gap_stop apart cs)
gap_stop apart (c ∷ cs) =
    apart_stop c cs (c == 10) (c == 32) (c == 35) refl refl refl (gap_stop apart cs) (gap_stop comment cs)

no_space : (c : ℕ) → is_spacing c ≡ false → c ≢ 32
no_space c h e = false≢true (sym h ∙ ap is_spacing e)

pub next_stop : (text : List ℕ) (i : ℕ) → at text (next text i) ≢ 32
next_stop text i =
    let b = before text i in
    no_space (at text (next text i))
    (ap is_spacing (sym (get_or-drop i text (gap b (drop i text)).0 0)) ∙ gap_stop b (drop i text))

module _ (text : List ℕ) where
  mark_stop : (i : ℕ) → is_mark text 45 i ≡ true → at text i ≢ 32
  mark_stop i h e =
      let byte = eqb-true (at text i) 45 (and_parts (at text i == 45) _ h).0 in
      omega (arith, byte, e)

  mutual
    pub node_stop : {d least i j : ℕ} {room : Room} {n : Node} → BlockNode text d least room i j n
        → at text j ≢ 32
    node_stop (a_leaf {e = e} h goes leaf is ends) = next_stop text e
    node_stop (a_block {e = e} h goes block) = next_stop text e
    node_stop (a_collection {e = e} h goes b ends) = next_stop text e
    node_stop (a_sequence {i = i} takes mark items) = items_stop items (mark_stop i mark)
    node_stop (a_mapping {i = i} takes inside entries) = entries_begun refl inside entries
    node_stop (named_sequence {p = p} h ends inner mark items) = items_stop items (next_stop text p)
    node_stop (named_mapping {p = p} h ends inner entries) = entries_stop entries (next_stop text p)
    node_stop (names_alone {p = p} h some ends out other) = next_stop text p

    pub behind_stop : {d c i j : ℕ} {room : Room} {n : Node} → Behind text d c room i j n
        → at text j ≢ 32
    behind_stop (in_its_line ends n) = node_stop n
    behind_stop (in_a_later_line ends inner n) = node_stop n
    behind_stop (in_its_own_column {i = i} ends own items) = items_stop items (next_stop text i)
    behind_stop (nothing {i = i} ends out other) = next_stop text i

    items_stop : {d c i j : ℕ} {ns : Nodes} → Items text d c i j ns → at text i ≢ 32
        → at text j ≢ 32
    items_stop (no_item item out) here = here
    items_stop (an_item item n ns) here = items_stop ns (behind_stop n)

    entries_stop : {d c i j : ℕ} {ps : Pairs} → Entries text d c i j ps → at text i ≢ 32
        → at text j ≢ 32
    entries_stop (no_entry at_column out) here = here
    entries_stop (an_entry at_column n ps) here = entries_stop ps (entry_stop n)

    -- a mapping that begins here has an entry
    entries_begun : {d c i j : ℕ} {ps : Pairs} → c ≡ column text i → is_over text i ≡ false → Entries text d c i j ps
        → at text j ≢ 32
    entries_begun {c = c} {i = i} same inside (no_entry at_column out) =
        let here = eq-eqb (column text i) c (sym same) in
        let stands : is_at text c i ≡ true = rw (inside, here) refl in
        absurd (false≢true (sym at_column ∙ stands))
    entries_begun same inside (an_entry at_column n ps) = entries_stop ps (entry_stop n)

    pub entry_stop : {d c i j : ℕ} {m n : Node} → Entry text d c i j m n → at text j ≢ 32
    entry_stop (in_line key n) = behind_stop n
    entry_stop (with_marks mark m colon n) = behind_stop n
    entry_stop (key_alone mark m colon) = behind_stop m
