-- No line is counted past the bytes.
use Rattle.std.proofs.Common.{arith}
use Rattle.yaml_parse.proofs.PlaceLaws.{place_within}
use Rattle.yaml_checked.proofs.place.begun.Goals as goal

pub unreachable-requires : goal.unreachable-requires
unreachable-requires c =
    let within = place_within c.args.text.now c.args.here.index c.args.here.line c.args.here.column c.requires.place in
    c.in-None.ensures (omega arith, omega arith)
