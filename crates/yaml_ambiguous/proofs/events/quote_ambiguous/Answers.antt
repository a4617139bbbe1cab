-- A stream stays one.
use Rattle.std.proofs.Common.{subst, sym}
use Rattle.yaml_base.specs.EmitTree.{IsEmitStream}
use Rattle.yaml_ambiguous.proofs.Streams.{stays_stream}
use Rattle.yaml_ambiguous.proofs.events.quote_ambiguous.Goals as goal

pub returns-clause-stream : goal.returns-clause-stream
returns-clause-stream c = λ h. subst IsEmitStream (sym c.quote_each.ensures) (stays_stream _ h)
