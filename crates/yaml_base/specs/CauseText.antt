-- What a fault says, without where it is.
use Rattle.std.specs.Prelude.{ℕ, List, [], ◌∷◌, ◌++◌, codes, decimal}
use Rattle.std.specs.Fmt.{signed_decimal}
use Rattle.std.specs.List.{flat_map}
use Rattle.yaml_base.specs.ParserFaultText.{parser_fault_text}
use Rattle.yaml_base.specs.FoundText.{bool_text, found_text}
use Rattle.yaml_base.specs.Quoted.{quoted_text}
use Rattle.yaml_base.specs.declared.entry_key.EntryKey.{EntryKey}
use Rattle.yaml_base.specs.declared.entry_key.EntryKey.TheVariants as key
use Rattle.yaml_base.specs.declared.error.Cause.{Cause}
use Rattle.yaml_base.specs.declared.error.Cause.TheVariants as cause
use Rattle.yaml_tree.specs.Number.{number_of}

-- a name between backquotes
abbrev pub ticked : List ℕ → List ℕ
ticked name = codes "`" ++ (name ++ codes "`")

-- the names to choose from, which are variants or fields
abbrev pub known_text : List ℕ → List (List ℕ) → List ℕ
known_text kinds [] = codes "there are no " ++ kinds
known_text kinds (one ∷ []) = codes "expected " ++ ticked one
known_text kinds (one ∷ other ∷ []) = codes "expected " ++ (ticked one ++ (codes " or " ++ ticked other))
known_text kinds (one ∷ other ∷ third ∷ more) = codes "expected one of "
    ++ (ticked one ++ flat_map (λ name. codes ", " ++ ticked name) (other ∷ third ∷ more))

-- which key stands twice
abbrev pub key_text : EntryKey → List ℕ
key_text key.Null = codes "with null key"
key_text (key.Bool b) = codes "with key " ++ ticked (bool_text b)
key_text (key.Number n) = codes "with key " ++ signed_decimal (number_of n)
key_text (key.String text) = codes "with key " ++ quoted_text text
key_text key.Other = codes "in YAML map"

-- what the fault says; a text of its own is said as it is
abbrev pub message_text : Cause → List ℕ
message_text cause.Memory = codes "out of memory"
message_text (cause.NotAStream n) = codes "event list is not a stream at event " ++ decimal n
message_text cause.EndOfStream = codes "EOF while parsing a value"
message_text cause.MoreThanOneDocument =
    codes "deserializing from YAML containing more than one document is not supported"
message_text (cause.RecursionLimitExceeded mark) = codes "recursion limit exceeded"
message_text cause.RepetitionLimitExceeded = codes "repetition limit exceeded"
message_text cause.BytesUnsupported = codes "serialization and deserialization of bytes in YAML is not implemented"
message_text (cause.UnknownAnchor mark) = codes "unknown anchor"
message_text cause.SerializeNestedEnum = codes "serializing nested enums in YAML is not supported yet"
message_text (cause.Parser fault) = parser_fault_text fault
message_text (cause.InvalidType found expected place) =
    codes "invalid type: " ++ (found_text found ++ (codes ", expected " ++ expected))
message_text (cause.InvalidValue found expected place) =
    codes "invalid value: " ++ (found_text found ++ (codes ", expected " ++ expected))
message_text (cause.InvalidLength n expected place) =
    codes "invalid length " ++ (decimal n ++ (codes ", expected " ++ expected))
message_text (cause.UnknownVariant variant known place) =
    codes "unknown variant " ++ (ticked variant ++ (codes ", " ++ known_text (codes "variants") known))
message_text (cause.UnknownField name known place) =
    codes "unknown field " ++ (ticked name ++ (codes ", " ++ known_text (codes "fields") known))
message_text (cause.MissingField name place) = codes "missing field " ++ ticked name
message_text (cause.DuplicateField name place) = codes "duplicate field " ++ ticked name
message_text (cause.DuplicateEntry key place) = codes "duplicate entry " ++ key_text key
message_text (cause.NestedEnum name tag place) = codes "deserializing nested enum in "
    ++ (name ++ (codes "::" ++ (tag ++ codes " from YAML is not supported yet")))
message_text (cause.FloatUnsupported text place) = codes "floating point `" ++ (text ++ codes "` is not supported")
message_text (cause.Custom text place) = text
message_text cause.ScalarInMerge = codes "expected a mapping or list of mappings for merging, but found scalar"
message_text cause.TaggedInMerge = codes "unexpected tagged value in merge"
message_text cause.ScalarInMergeElement = codes "expected a mapping for merging, but found scalar"
message_text cause.SequenceInMergeElement = codes "expected a mapping for merging, but found sequence"
message_text cause.EmptyTag = codes "empty YAML tag is not allowed"
message_text cause.FailedToParseNumber = codes "failed to parse YAML number"
