-- By which messages data is refused.
use Rattle.std.specs.Prelude.{ℕ, ◌≡◌, List, false, codes, string_bytes}
use Rattle.yaml_shape.specs.PlainData.{PlainData, text_data}
use Rattle.yaml_types.specs.declared.fault.BuildFault.{BuildFault}
use Rattle.yaml_types.specs.declared.fault.BuildFault.TheVariants.{Memory, Message}

-- the fault is one of these messages, or running out of memory
abbrev pub IsBuildRefusal : (List ℕ → Type 0) → BuildFault → Type 0
IsBuildRefusal refused Memory = Unit {0}
IsBuildRefusal refused (Message text) = refused (string_bytes text)

-- no data is refused by a message
abbrev pub NeverRefused : PlainData → List ℕ → Type 0
NeverRefused d message = ⊥

-- a text is refused that is not borrowed
abbrev pub RefusedStr : PlainData → List ℕ → Type 0
RefusedStr (text_data false a) message = message ≡ codes "expected a borrowed string"
RefusedStr _ message = ⊥
