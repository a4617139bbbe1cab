-- A reader of the documents of a text.
use Rattle.std.specs.Prelude.{ℕ, zero, suc, ◌+◌, Bool, true, false, ◌&&◌, List, [], ◌∷◌, length}
use Rattle.std.specs.Prelude.{Option, Some, None, nat_le, option_and_then, option_map}
use Rattle.yaml_base.specs.PlainEvent.{document_end, document_start, stream_end, stream_start}
use Rattle.yaml_grammar.specs.Blocks.{anything, value}
use Rattle.yaml_grammar.specs.Bytes.{is_over, is_text}
use Rattle.yaml_grammar.specs.Documents.{Earlier, a_document, an_end, ends_document, has_document, marker_at}
use Rattle.yaml_grammar.specs.Documents.{most_nestings, none}
use Rattle.yaml_grammar.specs.Gaps.{ends_its_line, next}
use Rattle.yaml_grammar.specs.Names.{unnamed}
use Rattle.yaml_grammar.specs.Nodes.{Marked, end_mark, mark, no_content}
use Rattle.yaml_reading.specs.BlockReader.{columns_at, node_at}
use Rattle.yaml_reading.specs.BracketReader.{brackets_at}
use Rattle.yaml_reading.specs.Readers.{Read, Reader, and_event, and_node}

-- the events of documents, from those so far and a place on
abbrev pub Further : Type 0
Further = Earlier → List Marked → (place : ℕ) → Option (List Marked)

-- no document more
abbrev pub no_further : Further
no_further earlier es i = None

-- what stands behind `---`: a node in its line, a node in a later line, or nothing
abbrev pub root_step : List ℕ → (node : (value : Bool) → Reader) → List Marked → (i : ℕ) → (ends over : Bool) → Read
root_step text node es i false over = node true es (next text i)
root_step text node es i true false = node false es (next text i)
root_step text node es i true true =
    Some (and_node es (no_content (end_mark text 0 (next text i)) unnamed []), next text i)

unfoldable pub root_at : List ℕ → (node : (value : Bool) → Reader) → Reader
root_at text node es i = root_step text node es i (ends_its_line text i) (is_over text (next text i))

-- a document whose root was read, and those behind it, if nothing else stands there
abbrev pub over_step : List ℕ → Further → List Marked → (j : ℕ) → (over : Bool) → Option (List Marked)
over_step text more es j true = more a_document (and_event es (document_end, end_mark text 0 j)) j
over_step text more es j false = None

abbrev pub document_then : List ℕ → Further → Read → Option (List Marked)
document_then text more r = option_and_then (λ x. over_step text more x.0 x.1 (is_over text x.1)) r

-- the document begins
abbrev pub document_begun : List ℕ → List Marked → (i : ℕ) → List Marked
document_begun text es i = and_event es (document_start, mark text i)

-- a document that no `---` begins, which is the first
abbrev pub bare_step : List ℕ → (node : (value : Bool) → Reader) → Further → Earlier → List Marked → (i : ℕ)
    → (over : Bool) → Option (List Marked)
bare_step text node more none es i true = None
bare_step text node more none es i false = document_then text more (node false (document_begun text es i) i)
bare_step text node more a_document es i over = None
bare_step text node more an_end es i over = None

-- a document by its `---`, if there is one
abbrev pub marked_step : List ℕ → (node : (value : Bool) → Reader) → Further → Earlier → List Marked → (i : ℕ)
    → (marker : Option ℕ) → Option (List Marked)
marked_step text node more earlier es i (Some m) =
    document_then text more (root_at text node (document_begun text es i) (m + 3))
marked_step text node more earlier es i None = bare_step text node more earlier es i (is_over text i)

-- what stands behind `...`
abbrev pub end_step : List ℕ → Further → List Marked → (i : ℕ) → (ends : Bool) → Option (List Marked)
end_step text more es i true = more an_end es (next text (i + 3))
end_step text more es i false = None

-- the text's end, `...`, or a document
abbrev pub documents_step : List ℕ → (node : (value : Bool) → Reader) → Further → Earlier → List Marked → (i : ℕ)
    → (past end : Bool) → Option (List Marked)
documents_step text node more earlier es i true end = Some es
documents_step text node more earlier es i false true = end_step text more es i (ends_its_line text (i + 3))
documents_step text node more earlier es i false false =
    marked_step text node more earlier es i (marker_at text earlier i)

unfoldable pub documents_at : List ℕ → (node : (value : Bool) → Reader) → (turns : ℕ) → Further
documents_at text node zero earlier es i =
    documents_step text node no_further earlier es i (nat_le (length text) i)
    (has_document earlier && ends_document text i)
documents_at text node (suc n) earlier es i =
    documents_step text node (documents_at text node n) earlier es i (nat_le (length text) i)
    (has_document earlier && ends_document text i)

-- a root, behind `---` in its line or not
unfoldable pub root_node : List ℕ → (value : Bool) → Reader
root_node text true es i = node_at text (columns_at text most_nestings) (brackets_at text most_nestings) 0 value es i
root_node text false es i =
    node_at text (columns_at text most_nestings) (brackets_at text most_nestings) 0 anything es i

-- the events of the documents, if their characters are allowed
abbrev pub stream_step : List ℕ → (allowed : Bool) → Option (List Marked)
stream_step text true =
    documents_at text (root_node text) (length text) none ((stream_start, mark text 0) ∷ []) (next text 0)
stream_step text false = None

-- the events of a text
unfoldable pub text_events : List ℕ → Option (List Marked)
text_events text =
    option_map (λ es. and_event es (stream_end, end_mark text 0 (length text))) (stream_step text (is_text text))
