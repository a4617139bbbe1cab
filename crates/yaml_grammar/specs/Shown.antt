-- Events in words, as testers of YAML write them.
use Rattle.std.specs.Prelude.{ℕ, ◌≡◌, ◌==◌, if◌then◌else◌, List, [], ◌∷◌, ◌++◌, Option, Some, None, codes, map}
use Rattle.std.specs.List.{flat_map}
use Rattle.yaml_base.specs.PlainEvent.{PlainEvent, alias, scalar, stream_start, stream_end}
use Rattle.yaml_base.specs.PlainEvent.{document_start, document_end, sequence_start, sequence_end, mapping_start}
use Rattle.yaml_base.specs.PlainEvent.{mapping_end}
use Rattle.yaml_base.specs.declared.event.ScalarStyle.{ScalarStyle}
use Rattle.yaml_base.specs.declared.event.ScalarStyle.TheVariants as style
use Rattle.yaml_grammar.specs.Documents.{Stands}
use Rattle.yaml_grammar.specs.Nodes.{Document, Marked, events_of}

-- a byte: a line feed is `\n`, a tab `\t`, and a backslash two
abbrev pub shown_byte : ℕ → List ℕ
shown_byte c =
    if c == 10 then codes "\\n" else if c == 9 then codes "\\t" else if c == 92 then codes "\\\\" else c ∷ []

-- a text that may be missing, between two others
abbrev pub shown_between : (opening closing : List ℕ) → Option (List ℕ) → List ℕ
shown_between opening closing None = []
shown_between opening closing (Some text) = opening ++ (text ++ closing)

-- an anchor and a tag
abbrev pub shown_names : (anchor tag : Option (List ℕ)) → List ℕ
shown_names anchor tag = shown_between (codes " &") [] anchor ++ shown_between (codes " <") (codes ">") tag

-- the sign of a style
abbrev pub shown_style : ScalarStyle → List ℕ
shown_style style.Plain = codes " :"
shown_style style.SingleQuoted = codes " '"
shown_style style.DoubleQuoted = codes " \""
shown_style style.Literal = codes " |"
shown_style style.Folded = codes " >"

-- an event
abbrev pub shown : PlainEvent → List ℕ
shown stream_start = codes "+STR"
shown stream_end = codes "-STR"
shown document_start = codes "+DOC"
shown document_end = codes "-DOC"
shown (alias anchor) = codes "=ALI *" ++ anchor
shown (scalar s) =
    codes "=VAL" ++ (shown_names s.anchor s.tag ++ (shown_style s.style ++ flat_map shown_byte s.text))
shown (sequence_start anchor tag) = codes "+SEQ" ++ shown_names anchor tag
shown sequence_end = codes "-SEQ"
shown (mapping_start anchor tag) = codes "+MAP" ++ shown_names anchor tag
shown mapping_end = codes "-MAP"

-- events without their marks, each behind a space
abbrev pub shown_events : List Marked → List ℕ
shown_events = flat_map (λ e. 32 ∷ shown e.0)

-- the text has documents with events of these words
pub record HasEvents (text words : List ℕ) : Type 0 where
  pub documents : List Document
  pub stand : Stands text documents
  pub said : shown_events (events_of text documents) ≡ words

-- an index, a line and a column
abbrev pub numbers_of : Marked → ℕ × (ℕ × ℕ)
numbers_of e = (e.1.index, (e.1.line, e.1.column))

-- the text has documents with events at these marks
pub record HasMarks (text : List ℕ) (marks : List (ℕ × (ℕ × ℕ))) : Type 0 where
  pub documents : List Document
  pub stand : Stands text documents
  pub there : map numbers_of (events_of text documents) ≡ marks

-- the words of a list of plain texts
abbrev pub item_words : List (List ℕ) → List ℕ
item_words [] = []
item_words (text ∷ texts) = codes " =VAL :" ++ (flat_map shown_byte text ++ item_words texts)

-- the words of a document that is such a list
abbrev pub list_words : List (List ℕ) → List ℕ
list_words texts = codes " +STR +DOC +SEQ" ++ (item_words texts ++ codes " -SEQ -DOC -STR")
