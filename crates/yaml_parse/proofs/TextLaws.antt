-- What the reader refuses is not allowed, and how that is told.
use Rattle.std.proofs.Common.{◌≡◌, ℕ, List, None, Option, Some, IfSome, IsSomeAnd, arith, is_some, length, subst, sym}
use Rattle.std.proofs.Common.{true}
use Rattle.std.proofs.lemmas.List.{take_all}
use Rattle.yaml_base.specs.PlainFault.{PlainFault}
use Rattle.yaml_base.specs.declared.fault.FaultKind.{FaultKind}
use Rattle.yaml_parse.specs.Faults.{IsToldBy}
use Rattle.yaml_scan.specs.AllowedText.{IsAllowed, IsOfReader}
use Rattle.yaml_scan.specs.declared.fault.Fault.{Fault}

pub not_allowed : (text : List ℕ) (kind : FaultKind) (offset : ℕ) → IsOfReader text kind offset → IsAllowed text → ⊥
not_allowed text kind offset found all =
    let up_to = found.1.1 in
    up_to.longest (length text) up_to.short (subst IsAllowed (sym (take_all (length text) text (omega arith))) all)

pub told_reader : (text : List ℕ) (parts : Fault) (fault : Option PlainFault) → is_some fault ≡ true
    → IfSome fault (IsToldBy parts) → IsOfReader text parts.kind parts.offset
    → IsSomeAnd fault (λ f. IsOfReader text f.kind f.offset)
told_reader text parts None some told found = absurd (cc)
told_reader text parts (Some f) some told found =
    subst (λ k. IsOfReader text k f.offset) (sym told.0) (subst (IsOfReader text parts.kind) (sym told.1) found)
