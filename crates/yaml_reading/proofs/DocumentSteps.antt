-- What the readers of documents do where tests are known, and what begins a document.
use Rattle.std.proofs.lemmas.Bool.{ltb-true}
use Rattle.yaml_grammar.specs.Blocks.{names_key}
use Rattle.std.proofs.Common.{◌≡◌, ◌≢◌, ℕ, zero, suc, ◌+◌, ◌≤◌, ◌==◌, ◌&&◌, ◌||◌, ◌⊎◌, not, Bool, true, false, List, []}
use Rattle.std.proofs.Common.{◌∷◌, ◌++◌, length, Option, Some, None, refl, sym, ap, ap₂, ◌∙◌, arith, subst, drop, inl}
use Rattle.std.proofs.Common.{inr}
use Rattle.std.proofs.Common.{codes, append_assoc}
use Rattle.std.specs.List.{starts_with}
use Rattle.std.specs.Prelude.{if◌then◌else◌, nat_eq, nat_le, option_map}
use Rattle.std.proofs.lemmas.Bool.{false≢true, and_from, and_parts, eq-eqb, eqb-true}
use Rattle.yaml_grammar.specs.Blocks.{BlockNode, Entry, Key, Room, a_block, a_collection, a_leaf, a_mapping}
use Rattle.yaml_grammar.specs.Blocks.{a_sequence, an_entry, anything, collection_key, in_line, key_alone, leaf_key}
use Rattle.yaml_grammar.specs.Blocks.{named_mapping, named_sequence, names_alone, no_entry, value, with_marks}
use Rattle.yaml_grammar.specs.Bytes.{at, column, is_mark, is_over, is_text, is_triple}
use Rattle.yaml_grammar.specs.Documents.{Earlier, begins_document, behind_directive, directive_end, ends_document}
use Rattle.yaml_grammar.specs.Documents.{has_document, marker_at, most_nestings, takes_directive}
use Rattle.yaml_grammar.specs.Gaps.{ends_its_line, next}
use Rattle.yaml_grammar.specs.Names.{Names, count_while, names_at}
use Rattle.yaml_grammar.specs.Nodes.{Marked, Node, end_mark}
use Rattle.yaml_grammar.specs.Plain.{as_key, by_columns}
use Rattle.yaml_base.specs.PlainEvent.{stream_end}
use Rattle.yaml_reading.specs.DocumentReader.{Further, documents_at, documents_step, no_further, root_at, root_node}
use Rattle.yaml_reading.specs.DocumentReader.{root_step, stream_step, text_events}
use Rattle.yaml_reading.specs.Readers.{Reader, and_event, opens}
use Rattle.yaml_reading.proofs.Begins.{at_drop, leaf_no, stays_at}
use Rattle.yaml_reading.proofs.BlockApart.{block_byte, goes_on, lines_byte, own_names}
use Rattle.yaml_reading.proofs.BlockSteps.{node_within}
use Rattle.yaml_reading.proofs.BracketComplete.{bracket_opens}
use Rattle.yaml_reading.proofs.Options.{no_some, same_some}

both : {b : Bool} → b ≡ true → b ≡ false → ⊥
both t f = false≢true (sym f ∙ t)

pub root_value : (text : List ℕ) (es : List Marked) (i : ℕ)
    → root_node text true es i ≡ node_within text most_nestings 0 value es i
unfolding root_node
root_value text es i = refl

pub root_anything : (text : List ℕ) (es : List Marked) (i : ℕ)
    → root_node text false es i ≡ node_within text most_nestings 0 anything es i
unfolding root_node
root_anything text es i = refl

pub root_is : (text : List ℕ) (node : Bool → Reader) (es : List Marked) (i : ℕ) (x y : Bool) → ends_its_line text i ≡ x
    → is_over text (next text i) ≡ y → root_at text node es i ≡ root_step text node es i x y
unfolding root_at
root_is text node es i x y e f = ap₂ (root_step text node es i) e f

-- the documents behind the next one
abbrev pub more_documents : List ℕ → (node : Bool → Reader) → (turns : ℕ) → Further
more_documents text node zero = no_further
more_documents text node (suc n) = documents_at text node n

pub documents_are : (text : List ℕ) (node : Bool → Reader) (n : ℕ) (earlier : Earlier) (es : List Marked) (i : ℕ)
    (x y : Bool) → nat_le (length text) i ≡ x → (has_document earlier && ends_document text i) ≡ y
    → documents_at text node n earlier es i ≡ documents_step text node (more_documents text node n) earlier es i x y
unfolding documents_at
documents_are text node zero earlier es i x y e f = ap₂ (documents_step text node no_further earlier es i) e f
documents_are text node (suc n) earlier es i x y e f =
    ap₂ (documents_step text node (documents_at text node n) earlier es i) e f

pub text_is : (text : List ℕ) (x : Bool) → is_text text ≡ x
    → text_events text ≡ option_map (λ es. and_event es (stream_end, end_mark text 0 (length text)))
    (stream_step text x)
unfolding text_events
text_is text x e =
    ap (λ b. option_map (λ es. and_event es (stream_end, end_mark text 0 (length text))) (stream_step text b)) e

module _ (text : List ℕ) where
  -- a triple begins with its byte
  triple_byte : (c i : ℕ) → is_triple c (drop i text) ≡ true → at text i ≡ c
  triple_byte c i h =
      sym (at_drop text i) ∙ eqb-true (at (drop i text) 0) c (and_parts (at (drop i text) 0 == c) _ h).0

  pub begins_byte : (i : ℕ) → begins_document text i ≡ true → at text i ≡ 45
  begins_byte i h = triple_byte 45 i (and_parts (column text i == 0) _ h).1

  pub ends_byte : (i : ℕ) → ends_document text i ≡ true → at text i ≡ 46
  ends_byte i h = triple_byte 46 i (and_parts (column text i == 0) _ h).1

  -- a directive begins with `%`
  percent : (xs : List ℕ) → starts_with nat_eq xs (codes "%YAML ") ≡ true → at xs 0 ≡ 37
  percent [] h = absurd (false≢true h)
  percent (x ∷ xs) h = sym (eqb-true 37 x (and_parts (nat_eq 37 x) _ h).0)

  directive_is : (i e : ℕ) → directive_end text i ≡ Some e → (at text i ≡ 37) × (i ≤ e)
  directive_is i e h =
      let number = i + 6 + count_while (nat_eq 32) (drop (i + 6) text) in
      let second = at text number == 49 && (at text (number + 1) == 46 && (at text (number + 2) == 49
      || at text (number + 2) == 50)) in
      let starts = starts_with nat_eq (drop i text) (codes "%YAML ") in
      by_test (column text i == 0) starts second number (omega arith)
      (λ s. sym (at_drop text i) ∙ percent (drop i text) s) h
    where
      by_test : (x y z : Bool) (n : ℕ) → i ≤ n + 3 → (y ≡ true → at text i ≡ 37)
          → (if x && (y && z) then Some (n + 3) else None) ≡ Some e → (at text i ≡ 37) × (i ≤ e)
      by_test false y z n le byte h = absurd (no_some e h)
      by_test true false z n le byte h = absurd (no_some e h)
      by_test true true false n le byte h = absurd (no_some e h)
      by_test true true true n le byte h = (byte refl, subst (λ e. i ≤ e) (same_some (n + 3) e h) le)

  behind_is : (i m : ℕ) (o : Option ℕ) → ((e : ℕ) → o ≡ Some e → (at text i ≡ 37) × (i ≤ e))
      → behind_directive text o ≡ Some m → (at text i ≡ 37) × (i ≤ m)
  behind_is i m None f h = absurd (no_some m h)
  behind_is i m (Some e) f h = by_test (ends_its_line text e && begins_document text (next text e)) h
    where
      by_test : (x : Bool) → (if x then Some (next text e) else None) ≡ Some m → (at text i ≡ 37) × (i ≤ m)
      by_test false h = absurd (no_some m h)
      by_test true h =
          let d = f e refl in
          (d.0, subst (λ m. i ≤ m) (same_some (next text e) m h) (omega (arith, d.1)))

  -- a document begins with `---` or a directive
  pub marker_is : (earlier : Earlier) (i m : ℕ) → marker_at text earlier i ≡ Some m
      → (begins_document text i ≡ true) × (i ≤ m) ⊎ ((at text i ≡ 37) × (i ≤ m))
  marker_is earlier i m h = by_test (begins_document text i) (takes_directive earlier) refl h
    where
      by_test : (x y : Bool) → begins_document text i ≡ x
          → (if x then Some i else if y then behind_directive text (directive_end text i) else None) ≡ Some m
          → (begins_document text i ≡ true) × (i ≤ m) ⊎ ((at text i ≡ 37) × (i ≤ m))
      by_test true y b h = inl (b, subst (λ m. i ≤ m) (same_some i m h) (omega arith))
      by_test false true b h = inr (behind_is i m (directive_end text i) (directive_is i) h)
      by_test false false b h = absurd (no_some m h)

  -- no node begins with `%`
  key_no_percent : {d i k : ℕ} {y : Node} → Key text d i k y → at text i ≢ 37
  key_no_percent (leaf_key {i = i} {p = p} {e = e} {x = x} h line leaf is ends) byte =
      let own = own_names text false (stays_at text i 37 byte refl) h in
      leaf_no text as_key (next text p) 37 (x, e) leaf refl (ap (at text) own.next_place ∙ byte)
  key_no_percent (collection_key {i = i} {p = p} h line b ends) byte =
      let own = own_names text false (stays_at text i 37 byte refl) h in
      both (bracket_opens text b) (ap opens (ap (at text) own.next_place ∙ byte))
  key_no_percent (names_key {i = i} {p = p} h some line ends) byte =
      let own = own_names text false (stays_at text i 37 byte refl) h in
      omega (arith, own.place, ltb-true i p some)

  mark_no_percent : (c i : ℕ) → (c == 37) ≡ false → is_mark text c i ≡ true → at text i ≢ 37
  mark_no_percent c i other m byte =
      both (and_parts (at text i == c) _ m).0 (ap (λ b. b == c) byte ∙ swapped c other)
    where
      swapped : (c : ℕ) → (c == 37) ≡ false → (37 == c) ≡ false
      swapped c h = grind (arith, h)

  entry_no_percent : {d c i j : ℕ} {y n : Node} → Entry text d c i j y n → at text i ≢ 37
  entry_no_percent (in_line key v) = key_no_percent key
  entry_no_percent {d} {c} {i} (with_marks dash key colon v) = mark_no_percent 63 i refl dash
  entry_no_percent {d} {c} {i} (key_alone dash key colon) = mark_no_percent 63 i refl dash

  -- names that end their line
  line_no_percent : (i : ℕ) {p : ℕ} {names : Names} → names_at text false i ≡ Some (names, p)
      → ends_its_line text p ≡ true
      → at text i ≢ 37
  line_no_percent i {p} h line byte =
      let s = stays_at text i 37 byte refl in
      let own = own_names text false s h in
      both line
      (ap (ends_its_line text) own.place ∙ goes_on text i s.in_line
      (λ e. some (sym byte ∙ ap (at text) (sym s.here) ∙ e)))
    where
      some : ◌≡◌ {A = ℕ} 37 0 → ⊥
      some e = omega (arith, e)

  pub node_no_percent : {d least i j : ℕ} {room : Room} {n : Node} → BlockNode text d least room i j n → at text i ≢ 37
  node_no_percent (a_leaf {least = least} {i = i} {p = p} {e = e} {x = x} h goes leaf is line) byte =
      let own = own_names text false (stays_at text i 37 byte refl) h in
      leaf_no text (by_columns least) (next text p) 37 (x, e) leaf refl (ap (at text) own.next_place ∙ byte)
  node_no_percent (a_block {least = least} {i = i} {p = p} {e = e} {said = said} h goes block) byte =
      let own = own_names text false (stays_at text i 37 byte refl) h in
      both (block_byte text least (next text p) (e, said) block) (ap lines_byte (ap (at text) own.next_place ∙ byte))
  node_no_percent (a_collection {i = i} h goes b line) byte =
      let own = own_names text false (stays_at text i 37 byte refl) h in
      both (bracket_opens text b) (ap opens (ap (at text) own.next_place ∙ byte))
  node_no_percent (a_sequence {i = i} takes dash ns) byte = mark_no_percent 45 i refl dash byte
  node_no_percent (a_mapping {i = i} takes inside (no_entry here out)) byte =
      both (and_from (not (is_over text i)) _ (ap not inside) (eq-eqb (column text i) (column text i) refl)) here
  node_no_percent (a_mapping takes inside (an_entry here entry ps)) byte = entry_no_percent entry byte
  node_no_percent (named_sequence {i = i} h line goes dash ns) byte = line_no_percent i h line byte
  node_no_percent (named_mapping {i = i} h line inner ps) byte = line_no_percent i h line byte
  node_no_percent (names_alone {i = i} h some line out other) byte = line_no_percent i h line byte

-- the events of one document before those of others
pub document_between : (es ns rest : List Marked) (a b : Marked)
    → (((es ++ a ∷ []) ++ ns) ++ b ∷ []) ++ rest ≡ es ++ (a ∷ (ns ++ (b ∷ rest)))
document_between es ns rest a b =
    append_assoc ((es ++ a ∷ []) ++ ns) (b ∷ []) rest ∙ append_assoc (es ++ a ∷ []) ns (b ∷ rest)
    ∙ append_assoc es (a ∷ []) (ns ++ (b ∷ rest))
