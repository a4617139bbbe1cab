-- How a value is written as a node behind events that are there.
use Rattle.std.specs.Prelude.{◌≡◌, ◌⊎◌, ◌++◌, false, ℕ, List, None, Result, Ok, Err}
use Rattle.yaml_base.specs.Answer.{is_memory}
use Rattle.yaml_base.specs.EmitEvents.{PlainEmit}
use Rattle.yaml_base.specs.declared.error.Cause.{Cause}
use Rattle.yaml_shape.specs.PlainData.{PlainData}
use Rattle.yaml_shape.specs.PlainShape.{PlainShape}
use Rattle.yaml_write.specs.Outcomes.{Outcome, made}
use Rattle.yaml_write.specs.Written.{written}
use Rattle.yaml_types.specs.WriteRefusal.{IsWriteRefusal}

-- the node that data is written as by the shape with this number, with no tag from above
abbrev pub written_node : List PlainShape → (id : ℕ) → PlainData → Outcome
written_node table id d = written table id None d

-- the events of what is given were put behind those that were there
abbrev pub IsPut : {B : Type 0} → (B → List PlainEmit) → Result B Cause → (old new : List PlainEmit) → Type 0
IsPut view given old new = made (λ part. old ++ view part) given ≡ Ok new

-- the fault is the one that is given, one of some messages, or want of memory
abbrev pub IsFaultOf : {B : Type 0} → Result B Cause → (unwritten : List ℕ → Type 0) → Cause → Type 0
IsFaultOf given unwritten cause = is_memory cause ≡ false → (given ≡ Err cause) ⊎ IsWriteRefusal unwritten cause
