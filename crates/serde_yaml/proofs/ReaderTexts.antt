-- What is said of a text is said of what a reader gives, where that is known to be the text.
use Rattle.std.specs.Prelude.{IfSome, false}
use Rattle.std.proofs.Common.{◌≡◌, List, Option, None, Some, ℕ, subst}
use Rattle.yaml_base.specs.Answer.{is_memory}
use Rattle.yaml_base.specs.PlainFault.{PlainFault}
use Rattle.yaml_base.specs.declared.error.Cause.{Cause}
use Rattle.yaml_read.specs.Documents.{Input}
use Rattle.serde_yaml.specs.TextReads.{IsParsed}
use Rattle.serde_yaml.proofs.TextLaws.{parsed_as}

pub refused_of : (remaining : Option (List ℕ)) (text : List ℕ) (cause : Cause)
    (A B : Input → Option PlainFault → Type 0) → IfSome remaining (λ given. text ≡ given)
    → (is_memory cause ≡ false → IsParsed text (λ events fault. A events fault × B events fault))
    → is_memory cause ≡ false → IfSome remaining (λ given. IsParsed given B)
refused_of None text cause A B same all other = tt
refused_of (Some given) text cause A B same all other =
    let p = all other in
    subst (λ given. IsParsed given B) same (parsed_as B p p.holds.1)

pub of_reader : (remaining : Option (List ℕ)) (text : List ℕ) (P : List ℕ → Type 0)
    → IfSome remaining (λ given. text ≡ given) → P text → IfSome remaining P
of_reader None text P same holds = tt
of_reader (Some given) text P same holds = subst P same holds
