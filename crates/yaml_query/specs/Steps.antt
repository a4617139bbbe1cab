-- The steps of a path.
use Rattle.std.specs.Prelude.{ℕ, ◌<◌, ◌^◌, IsUtf8, List, [], ◌∷◌, string_bytes}
use Rattle.yaml_query.specs.declared.step.Step.{Step}
use Rattle.yaml_query.specs.declared.step.Step.TheVariants as step

-- a step: to the value at a key that is this text, or to what stands in a place
pub data PlainStep : Type 0 where
  key : List ℕ → PlainStep
  index : ℕ → PlainStep

abbrev pub plain_step : Step → PlainStep
plain_step (step.Key text) = key (string_bytes text)
plain_step (step.Index place) = index place

abbrev pub plain_steps : List Step → List PlainStep
plain_steps [] = []
plain_steps (s ∷ ss) = plain_step s ∷ plain_steps ss

-- a step to a key that is a text, or to a place that has 64 bits: each `Step` is one
abbrev pub IsStep : PlainStep → Type 0
IsStep (key name) = IsUtf8 name
IsStep (index place) = place < 2 ^ 64
