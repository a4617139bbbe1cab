-- The text is that of the events that were written, with their quotes, and a refusal is the writer's.
use Rattle.std.proofs.Common.{map, string_bytes}
use Rattle.yaml_base.specs.EmitEvents.{emit_of}
use Rattle.yaml_ambiguous.specs.Quoting.{unambiguous}
use Rattle.serde_yaml.specs.Printed.{printed_as}
use Rattle.serde_yaml.specs.Quotes.{quoted}
use Rattle.serde_yaml.proofs.PrintedLaws.{type_stream}
use Rattle.serde_yaml.proofs.unambiguous.to_string_unambiguous.Goals as goal

pub returns-in-Ok-quoted-clause-text : goal.returns-in-Ok-quoted-clause-text
returns-in-Ok-quoted-clause-text g c =
    printed_as (map unambiguous (map emit_of c.in-Ok.events.items)) (quoted _ c.in-Ok.ensures.written)
    c.in-Ok-quoted.ensures.text

pub returns-in-Err-clause-unwritten : goal.returns-in-Err-clause-unwritten
returns-in-Err-clause-unwritten g c = λ known. c.in-Err.ensures.written known

pub returns-in-Err-quoted-clause-unwritten : goal.returns-in-Err-quoted-clause-unwritten
returns-in-Err-quoted-clause-unwritten g c = λ known.
    absurd (c.in-Err-quoted.ensures.no_stream known (type_stream _ _ _ _ c.in-Ok.ensures.written))
