-- The begin was added, the events, and what comes behind them.
use Rattle.yaml_c.proofs.DocumentLaws.{ends_length}
use Rattle.yaml_c.proofs.ShowingLaws.{adds_begun, adds_on}
use Rattle.yaml_c.proofs.document.put_document.Goals as goal

pub put_events-requires : goal.put_events-requires
put_events-requires c = ends_length c.args.parts.ends.now c.args.parts.events.now c.requires

pub returns : goal.returns
returns c =
    let source = c.args.source.now in
    adds_begun source c.args.tally.now.rows c.args.parts.events.now _ _ _ (c.put_begin.ensures source c.args.texts.now)
    (adds_on source _ _ _ _ _ c.put_events.ensures (c.in_ok-put_last.ensures source))
