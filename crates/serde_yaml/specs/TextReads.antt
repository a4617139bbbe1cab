-- What a text gives: what the events give that a parser makes of it.
use Rattle.std.specs.Prelude.{ℕ, List, Result, IfErr}
use Rattle.yaml_base.specs.declared.error.Cause.{Cause}
use Rattle.yaml_base.specs.declared.error.Cause.TheVariants.{NotAStream}
use Rattle.yaml_read.specs.TreeReader.{PlainLimits}
use Rattle.yaml_shape.specs.PlainData.{PlainData}
use Rattle.yaml_shape.specs.PlainShape.{PlainShape}
use Rattle.serde_yaml.specs.Headline.{GivesMeaning}
use Rattle.serde_yaml.specs.StreamReads.{InputGives}
pub use Rattle.yaml_documents.specs.TextDocuments.{IsParsed}

-- What a text gives, read under a shape of the table within limits: what the events give that it was parsed to, with
-- their faults, and so what they mean.
abbrev pub TextGives : PlainLimits → List PlainShape → PlainShape → List ℕ → Result PlainData Cause → Type 0
TextGives limits table s text given = IsParsed text (λ events fault.
    GivesMeaning limits table s events fault given × InputGives limits table s events fault given)

-- the fault says that events are no stream
abbrev pub SaysNoStream : Cause → Type 0
SaysNoStream (NotAStream place) = Unit {0}
SaysNoStream _ = ⊥

-- the answer is no such fault
abbrev pub IsOfAStream : {T : Type 0} → Result T Cause → Type 0
IsOfAStream result = IfErr result (λ cause. SaysNoStream cause → ⊥)
