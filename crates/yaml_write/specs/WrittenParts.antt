-- What parts of data are written as.
use Rattle.std.specs.Prelude.{ℕ, List, Option, None, Result}
use Rattle.yaml_base.specs.EmitTree.{EmitNode}
use Rattle.yaml_base.specs.declared.error.Cause.{Cause}
use Rattle.yaml_shape.specs.DataView.{data_of}
use Rattle.yaml_shape.specs.PlainData.{PlainData}
use Rattle.yaml_shape.specs.PlainShape.{PlainShape, PlainVariant}
use Rattle.yaml_shape.specs.declared.data.Entry.{Entry, out-Entry}
use Rattle.yaml_write.specs.Outcomes.{Outcome, joined}
use Rattle.yaml_write.specs.Written.{written, written_tuple, written_struct, content_by, variant_by}
use Rattle.yaml_write.specs.WrittenValue.{pair_node}

-- the content of a variant, under its tag
abbrev pub written_content : List PlainShape → PlainData → PlainVariant → (own : Option (List ℕ)) → Outcome
written_content t d variant own =
    content_by own (λ inner. written t inner own d) (λ ids. written_tuple t ids own d)
    (λ fields. written_struct t fields own d) variant

-- a variant with its name
abbrev pub written_variant : List PlainShape → PlainData → Option (List ℕ × PlainVariant) → (tag : Option (List ℕ))
    → Outcome
written_variant t d variant tag = variant_by variant tag (written_content t d)

-- a key with its value
abbrev pub written_entry : List PlainShape → (key : ℕ) → (value : ℕ) → Entry → Result (EmitNode × EmitNode) Cause
written_entry t key value e =
    joined pair_node (written t key None (data_of (out-Entry e).key))
    (written t value None (data_of (out-Entry e).value))
