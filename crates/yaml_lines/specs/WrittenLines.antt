-- The lines that events and the parser's fault are written as.
use Rattle.std.specs.Prelude.{ℕ, ◌==◌, ◌||◌, nat_lt, List, [], ◌∷◌, ◌++◌, codes, decimal, if◌then◌else◌, Option}
use Rattle.std.specs.Prelude.{None, Some}
use Rattle.std.specs.List.{flat_map}
use Rattle.yaml_base.specs.PlainEvent.{PlainScalar, PlainEvent, stream_start, stream_end, document_start, document_end}
use Rattle.yaml_base.specs.PlainEvent.{alias, scalar, sequence_start, sequence_end, mapping_start, mapping_end}
use Rattle.yaml_base.specs.PlainFault.{PlainFault}
use Rattle.yaml_base.specs.Position.{Position}
use Rattle.yaml_base.specs.Quoted.{hex_escape}
use Rattle.yaml_lines.specs.EventText.{style_byte}
use Rattle.yaml_lines.specs.SpelledFault.{kind_name}

-- a byte: printable ASCII as itself, but for a backslash (92) and one byte more, and each other byte as an escape
abbrev pub spelling : (numbered byte : ℕ) → List ℕ
spelling numbered byte = if byte == 92 then codes "\\\\" else (if byte == 10 then codes "\\n"
    else (if byte == 9 then codes "\\t"
    else (if nat_lt byte 32 || (nat_lt 126 byte || (byte == numbered)) then hex_escape byte else byte ∷ [])))

-- bytes, one behind the other
abbrev pub spelled : (numbered : ℕ) → List ℕ → List ℕ
spelled numbered bytes = flat_map (spelling numbered) bytes

-- no byte more than the backslash: 0 is not printable
abbrev pub no_byte : ℕ
no_byte = 0

-- a mark
abbrev pub mark_words : Position → List ℕ
mark_words mark = decimal mark.index ++ (codes ":" ++ (decimal mark.line ++ (codes ":" ++ decimal mark.column)))

-- an anchor, where there is one, without a bare space (32)
abbrev pub anchor_words : Option (List ℕ) → List ℕ
anchor_words None = []
anchor_words (Some anchor) = codes " &" ++ spelled 32 anchor

-- a tag, where there is one, without a bare `>` (62)
abbrev pub tag_words : Option (List ℕ) → List ℕ
tag_words None = []
tag_words (Some tag) = codes " <" ++ (spelled 62 tag ++ codes ">")

-- a scalar; the slice of its source is not told
abbrev pub scalar_words : PlainScalar → List ℕ
scalar_words s = (codes "=VAL" ++ (anchor_words s.anchor ++ tag_words s.tag))
    ++ (codes " " ++ (style_byte s.style ∷ spelled no_byte s.text))

-- an event
abbrev pub event_words : PlainEvent → List ℕ
event_words stream_start = codes "+STR"
event_words stream_end = codes "-STR"
event_words document_start = codes "+DOC"
event_words document_end = codes "-DOC"
event_words (alias anchor) = codes "=ALI *" ++ spelled 32 anchor
event_words (scalar s) = scalar_words s
event_words (sequence_start anchor tag) = codes "+SEQ" ++ (anchor_words anchor ++ tag_words tag)
event_words sequence_end = codes "-SEQ"
event_words (mapping_start anchor tag) = codes "+MAP" ++ (anchor_words anchor ++ tag_words tag)
event_words mapping_end = codes "-MAP"

-- the line of an event with its mark
abbrev pub event_line : PlainEvent → Position → List ℕ
event_line event mark = mark_words mark ++ (codes " " ++ event_words event)

-- the line of the parser's fault; its context is not told
abbrev pub fault_line : PlainFault → List ℕ
fault_line fault = mark_words fault.mark ++ (codes " !ERR " ++ (kind_name fault.kind ++ (codes " "
    ++ (decimal fault.offset ++ (codes " " ++ spelled no_byte fault.problem)))))
