-- What holds of what a text was parsed to.
use Rattle.std.proofs.Common.{◌≡◌, false, ℕ, List, [], ◌++◌, Option, subst, ap, ◌∙◌}
use Rattle.yaml_base.specs.MarkedEvents.{plain_marked}
use Rattle.yaml_base.specs.PlainFault.{PlainFault}
use Rattle.yaml_base.specs.declared.error.Cause.{Cause}
use Rattle.yaml_read.specs.Documents.{Input, documents_of}
use Rattle.yaml_read.specs.TreeReader.{PlainLimits}
use Rattle.yaml_shape.specs.PlainShape.{PlainShape}
use Rattle.serde_yaml.specs.PlainStream.{PlainStream}
use Rattle.serde_yaml.specs.StreamReads.{stream_of}
use Rattle.serde_yaml.specs.TextReads.{IsParsed}
use Rattle.yaml_run.specs.Shown.{AreShown}

-- what follows from what holds of it holds of it too
pub parsed-weaker : (text : List ℕ) (P Q : Input → Option PlainFault → Type 0)
    → ((events : Input) (fault : Option PlainFault) → P events fault → Q events fault) → IsParsed text P
    → IsParsed text Q
parsed-weaker text P Q f p = record {
  events = p.events;
  fault = p.fault;
  parsed = p.parsed;
  holds = f (plain_marked p.events) p.fault p.holds;
}

-- the stream is that of what a text was parsed to
abbrev pub IsOfText : List ℕ → PlainStream → Type 0
IsOfText text stream = IsParsed text (λ events fault. stream ≡ stream_of events fault)

-- so it is no document alone
pub many-documents : (text : List ℕ) (stream : PlainStream) → IsOfText text stream → stream.is_document ≡ false
many-documents text stream p = ap (λ x. x.is_document) p.holds

-- what is shown of its documents is shown of the text's
pub shown-parsed : (bytes : List ℕ) (limits : PlainLimits) (table named : List PlainShape) (s : PlainShape)
    (stream : PlainStream) (text : List ℕ) (faults : List Cause) → table ≡ named → IsOfText bytes stream
    → AreShown limits table s stream.documents text faults
    → IsParsed bytes (λ events fault. AreShown limits named s (documents_of events fault) text faults)
shown-parsed bytes limits table named s stream text faults same p shown =
    parsed-weaker bytes (λ events fault. stream ≡ stream_of events fault)
    (λ events fault. AreShown limits named s (documents_of events fault) text faults)
    (λ events fault is. subst (λ x. AreShown limits named s x.documents text faults) is
    (subst (λ t. AreShown limits t s stream.documents text faults) same shown)) p
