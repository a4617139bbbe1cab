-- A place in a text has no more lines and columns before it than bytes.
use Rattle.yaml_parse.proofs.PlaceLaws.{place_within}
use Rattle.yaml_parse.proofs.events.Events.behind.Goals as goal

pub scan_behind-requires-clause-counted : goal.scan_behind-requires-clause-counted
scan_behind-requires-clause-counted c =
    place_within c.args.text.now c.args.here.index c.args.here.line c.args.here.column c.requires.here
