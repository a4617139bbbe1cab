-- Blanks before a line feed, or none.
use Rattle.std.proofs.Common.{sym, ◌∙◌}
use Rattle.yaml_direct.proofs.FeedEnds.{run_trimmed}
use Rattle.yaml_direct.proofs.QuotePlaces.{run_at}
use Rattle.yaml_direct.proofs.quote.run_text_end.Goals as goal

pub returns-then-at-eq10-clause-says : goal.returns-then-at-eq10-clause-says
returns-then-at-eq10-clause-says c =
    let blanks = c.blanks_at_end.ensures in
    λ h quote run ends. run_trimmed c.args.text.now quote c.args.from c.args.stop c.blanks_at_end.result h c.requires.0
    c.requires.1 run (sym c.at.ensures.value ∙ c.if-at-eq10.true) blanks.within blanks.blanks blanks.dark

pub returns-else-at-eq10-clause-says : goal.returns-else-at-eq10-clause-says
returns-else-at-eq10-clause-says c =
    λ h quote run ends. run_at c.args.text.now quote c.args.from c.args.stop c.requires.0 c.requires.1 run ends
    (λ feed. c.if-at-eq10.false (c.at.ensures.value ∙ feed))
