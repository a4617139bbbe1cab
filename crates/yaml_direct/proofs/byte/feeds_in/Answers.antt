-- Each byte against a line feed.
use Rattle.std.proofs.Common.{arith, eqb}
use Rattle.std.proofs.lemmas.Simd.{bitmask_splat}
use Rattle.yaml_direct.proofs.byte.feeds_in.Goals as goal
use mir.Syntax.{w8}

pub returns : goal.returns
returns c = bitmask_splat w8 eqb c.args.part 32 10 c.fits-part.0 (omega arith)
