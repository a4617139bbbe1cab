-- How a line writes an event, behind its mark.
use Rattle.std.specs.Prelude.{ℕ, ◌≡◌, ◌≢◌, ◌<◌, List, [], ◌∷◌, ◌++◌, length, codes, Option, None, Some}
use Rattle.yaml_base.specs.PlainEvent.{PlainScalar, PlainEvent, stream_start, stream_end, document_start, document_end}
use Rattle.yaml_base.specs.PlainEvent.{alias, scalar, sequence_start, sequence_end, mapping_start, mapping_end}
use Rattle.yaml_base.specs.declared.event.ScalarStyle.{ScalarStyle}
use Rattle.yaml_base.specs.declared.event.ScalarStyle.TheVariants.{Plain, SingleQuoted, DoubleQuoted, Literal, Folded}
use Rattle.yaml_lines.specs.Escape.{Lacks, Spells}

-- the name of an anchor isn't empty and has no bare space (32)
pub record IsAnchorName (name anchor : List ℕ) : Type 0 where
  pub present : 0 < length name
  pub unspaced : Lacks name 32
  pub spelled : Spells name anchor

-- the name of a tag has no bare `>` (62)
pub record IsTagName (name tag : List ℕ) : Type 0 where
  pub closed : Lacks name 62
  pub spelled : Spells name tag

-- the text is empty or begins with a space (32)
abbrev pub IsBreak : List ℕ → Type 0
IsBreak [] = Unit {0}
IsBreak (byte ∷ rest) = byte ≡ 32

-- the text doesn't begin with these bytes
abbrev pub IsWithout : List ℕ → List ℕ → Type 0
IsWithout start text = (rest : List ℕ) → text ≢ start ++ rest

-- the text begins with this anchor, or with none, and then comes the rest
abbrev pub HasAnchor : List ℕ → Option (List ℕ) → List ℕ → Type 0
HasAnchor text None rest = (text ≡ rest) × IsWithout (codes " &") text
HasAnchor text (Some anchor) rest =
    (name : List ℕ) × (text ≡ codes " &" ++ (name ++ rest)) × IsAnchorName name anchor × IsBreak rest

-- the text begins with this tag, or with none, and then comes the rest
abbrev pub HasTag : List ℕ → Option (List ℕ) → List ℕ → Type 0
HasTag text None rest = (text ≡ rest) × IsWithout (codes " <") text
HasTag text (Some tag) rest =
    (name : List ℕ) × (text ≡ codes " <" ++ (name ++ (codes ">" ++ rest))) × IsTagName name tag

-- the text begins with these two, and then comes the rest
pub record HasProperties (text : List ℕ) (anchor tag : Option (List ℕ)) (rest : List ℕ) : Type 0 where
  pub behind_anchor : List ℕ
  pub has_anchor : HasAnchor text anchor behind_anchor
  pub has_tag : HasTag behind_anchor tag rest

-- the byte that stands for a style: `:`, `'`, `"`, `|` or `>`
abbrev pub style_byte : ScalarStyle → ℕ
style_byte Plain = 58
style_byte SingleQuoted = 39
style_byte DoubleQuoted = 34
style_byte Literal = 124
style_byte Folded = 62

-- a scalar's style and its text
abbrev pub IsStyledText : List ℕ → ScalarStyle → List ℕ → Type 0
IsStyledText text style value = (rest : List ℕ) × (text ≡ 32 ∷ style_byte style ∷ rest) × Spells rest value

-- a scalar, behind the word for one; the source of it is not known
pub record IsScalarText (text : List ℕ) (found : PlainScalar) : Type 0 where
  pub behind_tag : List ℕ
  pub has_properties : HasProperties text found.anchor found.tag behind_tag
  pub is_content : IsStyledText behind_tag found.style found.text
  pub no_source : found.source ≡ None

-- an event
abbrev pub IsEventText : List ℕ → PlainEvent → Type 0
IsEventText text stream_start = text ≡ codes "+STR"
IsEventText text stream_end = text ≡ codes "-STR"
IsEventText text document_start = text ≡ codes "+DOC"
IsEventText text document_end = text ≡ codes "-DOC"
IsEventText text (alias anchor) = (name : List ℕ) × (text ≡ codes "=ALI *" ++ name) × IsAnchorName name anchor
IsEventText text (scalar found) = (rest : List ℕ) × (text ≡ codes "=VAL" ++ rest) × IsScalarText rest found
IsEventText text (sequence_start anchor tag) =
    (rest : List ℕ) × (text ≡ codes "+SEQ" ++ rest) × HasProperties rest anchor tag []
IsEventText text sequence_end = text ≡ codes "-SEQ"
IsEventText text (mapping_start anchor tag) =
    (rest : List ℕ) × (text ≡ codes "+MAP" ++ rest) × HasProperties rest anchor tag []
IsEventText text mapping_end = text ≡ codes "-MAP"

-- the text is no word that stands for an event alone
pub record IsNoWord (text : List ℕ) : Type 0 where
  pub no_stream_start : text ≢ codes "+STR"
  pub no_stream_end : text ≢ codes "-STR"
  pub no_document_start : text ≢ codes "+DOC"
  pub no_document_end : text ≢ codes "-DOC"
  pub no_sequence_end : text ≢ codes "-SEQ"
  pub no_mapping_end : text ≢ codes "-MAP"
