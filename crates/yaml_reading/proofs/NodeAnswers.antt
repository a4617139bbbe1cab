-- What the reader of nodes by columns answers, in the order in which a parser asks.
use Rattle.std.specs.Prelude.{nat_lt}
use Rattle.yaml_grammar.specs.Blocks.{names_key}
use Rattle.yaml_reading.specs.Readers.{alone}
use Rattle.yaml_reading.proofs.KeyReading.{leaf_no_colon}
use Rattle.std.proofs.Common.{◌≡◌, ℕ, ◌&&◌, ◌||◌, not, Bool, true, false, List, [], Some, None}
use Rattle.std.proofs.Common.{refl}
use Rattle.std.proofs.Common.{sym, ap, ◌∙◌, arith}
use Rattle.std.specs.Prelude.{is_some}
use Rattle.yaml_grammar.specs.Blocks.{Room, ends_key, takes_columns}
use Rattle.yaml_grammar.specs.Bytes.{at, column, is_mark, is_over}
use Rattle.yaml_grammar.specs.Gaps.{breaks, ends_its_line, next}
use Rattle.yaml_grammar.specs.Leaves.{Leaf, leaf_at, leaf_node}
use Rattle.yaml_grammar.specs.Names.{Names, names_at, unnamed}
use Rattle.yaml_grammar.specs.Nodes.{Marked, Node}
use Rattle.yaml_grammar.specs.Plain.{as_key}
use Rattle.yaml_reading.specs.BlockReader.{begins_entry, colon_step, columns_at, content_at, entries, in_room, items}
use Rattle.yaml_reading.specs.BlockReader.{with_colon}
use Rattle.yaml_reading.specs.BracketReader.{brackets_at}
use Rattle.yaml_reading.specs.Readers.{Read, and_node, opens, with_leaf}
use Rattle.yaml_reading.proofs.BlockApart.{dash_inside, dash_stays, goes_on}
use Rattle.yaml_reading.proofs.BlockSteps.{begins_is, key_behind_is, key_is, key_within, node_here, node_within}
use Rattle.yaml_reading.proofs.KeyReading.{key_of, key_sound, leaf_is}
use Rattle.yaml_reading.proofs.Options.{no_some}

module _ (text : List ℕ) (d : ℕ) where
  -- a leaf behind its names is a key where its `:` stands
  pub leaf_key_read : (es : List Marked) (i p e : ℕ) (names : Names) (x : Leaf) (n : Node) (colon : Bool)
      → names_at text false i ≡ Some (names, p) → breaks text p ≡ false → opens (at text (next text p)) ≡ false
      → leaf_at text as_key (next text p) ≡ Some (x, e) → leaf_node text i names x e ≡ Some n
      → ends_key text i e ≡ colon → key_within text d es i ≡ colon_step text (and_node es n) e colon
  leaf_key_read es i p e names x n colon h line none leaf is ends =
      key_is text (brackets_at text d) es i (Some (names, p)) h
      ∙ key_behind_is text (brackets_at text d) es i names p false false false line none
      (leaf_no_colon text i p (x, e) leaf)
      ∙ ap (with_colon text i) (leaf_is text es i names (leaf_at text as_key (next text p)) x e n leaf is)
      ∙ ap (colon_step text (and_node es n) e) ends

  -- names alone are a key where its `:` stands
  pub names_key_read : (es : List Marked) (i p : ℕ) (names : Names) → names_at text false i ≡ Some (names, p)
      → nat_lt i p ≡ true → breaks text p ≡ false → ends_key text i p ≡ true
      → key_within text d es i ≡ Some (and_node es (alone text i p names), next text p)
  names_key_read es i p names h some line ends = key_of text (names_key {d = d} h some line ends) d (omega arith) es

  -- where no leaf, no bracket and no `:` stands there is no key
  pub no_leaf_key : (es : List Marked) (i p : ℕ) (names : Names) → names_at text false i ≡ Some (names, p)
      → breaks text p ≡ false → opens (at text (next text p)) ≡ false → (nat_lt i p && ends_key text i p) ≡ false
      → leaf_at text as_key (next text p) ≡ None → key_within text d es i ≡ None
  no_leaf_key es i p names h line none other leaf =
      key_is text (brackets_at text d) es i (Some (names, p)) h
      ∙ key_behind_is text (brackets_at text d) es i names p false false false line none other
      ∙ ap (λ o. with_colon text i (with_leaf text es i names o)) leaf

  -- whether a key stands here does not hang on the events before it
  pub key_anyway : (es xs : List Marked) (i : ℕ) → ◌≡◌ {A = Read} (key_within text d es i) None
      → ◌≡◌ {A = Read} (key_within text d xs i) None
  key_anyway es xs i h = by_read (key_within text d xs i) refl
    where
      by_read : (r : Read) → key_within text d xs i ≡ r → r ≡ None
      by_read None e = refl
      by_read (Some r) e =
          let s = key_sound text d xs i r.0 r.1 e in
          absurd (no_some (and_node es s.n, r.1) (sym h ∙ key_of text s.stands d (omega arith) es))

  -- a sequence
  pub sequence_read : (least : ℕ) (room : Room) (es : List Marked) (i : ℕ) → is_mark text 45 i ≡ true
      → node_within text d least room es i
      ≡ in_room (takes_columns room) (columns_at text d items unnamed i (column text i) es i)
  sequence_read least room es i dash =
      let s = dash_stays text 45 i refl dash in
      node_here text (columns_at text d) (brackets_at text d) least room es i unnamed i true _ (s.names false)
      (goes_on text i s.in_line (λ e. dash_inside text 45 i refl dash (ap (at text) (sym s.here) ∙ e))) dash refl

  -- a mapping
  pub mapping_read : (least : ℕ) (room : Room) (es : List Marked) (i p : ℕ) (names : Names)
      → names_at text false i ≡ Some (names, p) → ends_its_line text p ≡ false → is_mark text 45 i ≡ false
      → begins_entry text (brackets_at text d) i ≡ true
      → node_within text d least room es i
      ≡ in_room (takes_columns room) (columns_at text d entries unnamed i (column text i) es i)
  mapping_read least room es i p names h line dash entry =
      node_here text (columns_at text d) (brackets_at text d) least room es i names p false true h line dash entry

  -- what is neither
  pub content_read : (least : ℕ) (room : Room) (es : List Marked) (i p : ℕ) (names : Names)
      → names_at text false i ≡ Some (names, p) → ends_its_line text p ≡ false → is_mark text 45 i ≡ false
      → is_mark text 63 i ≡ false → key_within text d es i ≡ None
      → node_within text d least room es i ≡ content_at text (brackets_at text d) least es i names (next text p)
  content_read least room es i p names h line dash mark key =
      node_here text (columns_at text d) (brackets_at text d) least room es i names p false false h line dash
      (begins_is text (brackets_at text d) i (is_over text i) false None refl mark (key_anyway es [] i key)
      ∙ no_entry (is_over text i))
    where
      no_entry : (b : Bool) → (not b && (false || is_some {T = List Marked × ℕ} None)) ≡ false
      no_entry true = refl
      no_entry false = refl
