-- What is read of a document, in the words of the grammar.
use Rattle.std.specs.Prelude.{ℕ, ◌+◌, ◌<◌, ◌≡◌, ◌∷◌, Bool, false, true, [], if◌then◌else◌, List, Some}
use Rattle.yaml_direct.specs.ByColumns.{IsBlockNode, Reads}
use Rattle.yaml_direct.specs.Tokens.{IsCounted}
use Rattle.yaml_direct.specs.declared.reader.Reader.{Reader}
use Rattle.yaml_grammar.specs.Blocks.{BlockNode, anything}
use Rattle.yaml_grammar.specs.Bytes.{at, is_over}
use Rattle.yaml_grammar.specs.Documents.{Earlier, Root, a_document, an_end, begins_document, directive_end, marker_at}
use Rattle.yaml_grammar.specs.Documents.{most_nestings, none}
use Rattle.yaml_grammar.specs.Gaps.{ends_its_line, next}
use Rattle.yaml_grammar.specs.Nodes.{Document, Marked, Node, documents_events, end_mark, mark, node_events}

-- what came before: whether a document did, and whether the last one ended with `...`
abbrev pub earlier_of : (begun ended : Bool) → Earlier
earlier_of begun ended = if begun then (if ended then an_end else a_document) else none

-- a document that begins in a place, and behind which the next token stands in another
abbrev pub document_at : List ℕ → (i : ℕ) → Node → (j : ℕ) → Document
document_at text i root j = record { start = mark text i; root = root; end = end_mark text 0 j }

-- A directive stands in a place, alone in its line, and the next token in another.
pub record IsDirective (old new : Reader) (place to : ℕ) : Type 0 where
  pub end : ℕ
  pub sign : at old.text.now place ≡ 37
  pub read : directive_end old.text.now place ≡ Some end
  pub ends : ends_its_line old.text.now end ≡ true
  pub there : to ≡ next old.text.now end
  pub further : place < to
  pub counted : IsCounted new to
  pub still : new.tape ≡ old.tape
  pub names : new.names ≡ old.names

-- what stands behind `---`
pub record IsRoot (text : List ℕ) (i j : ℕ) (es : List Marked) : Type 0 where
  pub root : Node
  pub stands : Root text i j root
  pub events : es ≡ node_events root

-- What a document that begins in a place holds was read, from another on: behind the `---` there, or bare in the same.
pub data IsContentAt (text : List ℕ) (bare : Bool) (place : ℕ) (old new : Reader) (i j : ℕ) : Type 0 where
  behind_dashes : begins_document text i ≡ true → Reads old new j (IsRoot text (i + 3) j)
      → IsContentAt text bare place old new i j
  without_dashes : bare ≡ true → i ≡ place → begins_document text i ≡ false
      → Reads old new j (IsBlockNode text most_nestings 0 anything i j) → IsContentAt text bare place old new i j

-- the root of a document that begins in a place, bare or by its `---`, and the end of the document before another
pub data HasRoot (text : List ℕ) (earlier : Earlier) (i : ℕ) (root : Node) (j : ℕ) : Type 0 where
  bare_root : earlier ≡ none → is_over text i ≡ false → BlockNode text most_nestings 0 anything i j root
      → is_over text j ≡ true → HasRoot text earlier i root j
  marked_root : (m : ℕ) → marker_at text earlier i ≡ Some m → Root text (m + 3) j root → is_over text j ≡ true
      → HasRoot text earlier i root j

-- what a document holds
pub record IsContent (text : List ℕ) (earlier : Earlier) (i j : ℕ) (es : List Marked) : Type 0 where
  pub root : Node
  pub stands : HasRoot text earlier i root j
  pub events : es ≡ node_events root

-- a document, with its start and its end
pub record IsDocument (text : List ℕ) (earlier : Earlier) (i j : ℕ) (es : List Marked) : Type 0 where
  pub root : Node
  pub stands : HasRoot text earlier i root j
  pub events : es ≡ documents_events (document_at text i root j ∷ [])
