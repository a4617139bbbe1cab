-- How a fault with its texts follows from the fault in parts.
use Rattle.std.specs.Prelude.{◌≡◌, ◌≢◌, IfSome, Option}
use Rattle.yaml_base.specs.PlainFault.{PlainFault}
use Rattle.yaml_base.specs.declared.fault.FaultKind.TheVariants as kind
use Rattle.yaml_scan.specs.declared.fault.Fault.{Fault}

-- the fault has the kind, the offset and the marks of the one in parts
abbrev pub IsToldBy : Fault → PlainFault → Type 0
IsToldBy parts fault =
    (fault.kind ≡ parts.kind) × (fault.offset ≡ parts.offset)
    × (fault.mark ≡ parts.mark) × (fault.context_mark ≡ parts.context_mark)

-- a fault, where there is one, is not the reader's
abbrev pub IsNotReaders : Option PlainFault → Type 0
IsNotReaders fault = IfSome fault (λ f. f.kind ≢ kind.Reader)
