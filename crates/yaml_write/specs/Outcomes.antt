-- What is written, or why it is refused.
use Rattle.std.specs.Prelude.{ℕ, List, Option, None, Some, Result, Ok, Err, Bool, true, false, if◌then◌else◌}
use Rattle.yaml_base.specs.EmitTree.{EmitNode, emit_scalar_node}
use Rattle.yaml_base.specs.AskedStyles.{asked_style}
use Rattle.yaml_base.specs.declared.emitter.AskedStyle.TheVariants.{Plain}
use Rattle.yaml_base.specs.Kinds.{kind_of}
use Rattle.yaml_base.specs.declared.error.Cause.{Cause}
use Rattle.yaml_base.specs.declared.error.Cause.TheVariants.{SerializeNestedEnum}
use Rattle.yaml_base.specs.declared.resolver.kind.Kind.{Kind}
use Rattle.yaml_base.specs.declared.resolver.kind.Kind.TheVariants as kind
use Rattle.std.specs.Prelude.{codes}

-- a node, or why nothing is written
abbrev pub Outcome : Type 0
Outcome = Result EmitNode Cause

-- what is made of a part, unless the part is refused
abbrev pub made : {A B : Type 0} → (A → B) → Result A Cause → Result B Cause
made f (Ok a) = Ok (f a)
made f (Err cause) = Err cause

-- What is made of two parts, one written after the other. The first refusal counts.
abbrev pub joined : {A B C : Type 0} → (A → B → C) → Result A Cause → Result B Cause → Result C Cause
joined f (Ok a) second = made (f a) second
joined f (Err cause) second = Err cause

-- a scalar that is asked plain
abbrev pub plain_node : Option (List ℕ) → List ℕ → EmitNode
plain_node tag text = emit_scalar_node tag text Plain

-- null, as it is written
abbrev pub null_node : Option (List ℕ) → EmitNode
null_node tag = plain_node tag (codes "null")

-- a string, in the style that it has to be asked in
abbrev pub string_node : Option (List ℕ) → List ℕ → EmitNode
string_node tag text = emit_scalar_node tag text (asked_style text)

-- an integer or a float
abbrev pub is_number_kind : Kind → Bool
is_number_kind (kind.Unsigned n) = true
is_number_kind (kind.Signed z) = true
is_number_kind kind.Float = true
is_number_kind _ = false

-- the text is an integer's or a float's
abbrev pub is_number_text : List ℕ → Bool
is_number_text text = is_number_kind (kind_of text)

-- the text of a number, plain; and a text that is none, as a string
abbrev pub number_node : Option (List ℕ) → List ℕ → EmitNode
number_node tag text = if is_number_text text then plain_node tag text else string_node tag text

-- what is written under a tag of its own: a tag directly upon a tag is refused
abbrev pub under : (outer : Option (List ℕ)) → (own : List ℕ) → (Option (List ℕ) → Outcome) → Outcome
under None own write = write (Some own)
under (Some outer) own write = Err SerializeNestedEnum
