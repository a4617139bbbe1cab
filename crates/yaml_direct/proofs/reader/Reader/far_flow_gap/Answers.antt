use Rattle.std.proofs.Common.{refl}
use Rattle.yaml_direct.proofs.reader.Reader.far_flow_gap.Goals as goal

pub returns-then-place-clause-there : goal.returns-then-place-clause-there
returns-then-place-clause-there c = λ h amid some. absurd (some refl)

pub returns-then-is_over-clause-there : goal.returns-then-is_over-clause-there
returns-then-is_over-clause-there c = λ h amid some. absurd (some refl)
