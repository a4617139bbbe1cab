-- What a call answers that reads a line or a part of one.
use Rattle.std.specs.Prelude.{◌≡◌, Result, MatchResult}
use Rattle.yaml_lines.specs.declared.fault.LineFault.{LineFault}
use Rattle.yaml_lines.specs.declared.fault.LineFault.TheVariants.{Bad}

-- What was read, seen by a view, is what the text says; a bad text says nothing of the kind; and where memory ran out,
-- nothing is known.
abbrev pub Parses : {X Y : Type 0} → (X → Y) → (Y → Type 0) → Result X LineFault → Type 0
Parses {X} {Y} view says result = MatchResult result (λ x. says (view x)) (λ fault. fault ≡ Bad → (y : Y) → ¬ (says y))
