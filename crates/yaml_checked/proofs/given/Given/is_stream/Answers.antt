-- Events behind which nothing comes are a stream.
use Rattle.std.proofs.Common.{◌≡◌, ◌∙◌, Some, ap, sym}
use Rattle.yaml_base.proofs.StreamMachineLaws.{whole_run}
use Rattle.yaml_base.specs.MarkedEvents.{plain_events}
use Rattle.yaml_base.specs.StreamMachine.{after_stream}
use Rattle.yaml_checked.proofs.given.Given.is_stream.Goals as goal

pub returns-clause-stream : goal.returns-clause-stream
returns-clause-stream c = λ done.
    (whole_run (plain_events c.args.self.now.events.items)).1
    (c.args.self.now.ran c.requires ∙ ap Some (c.is_done.ensures.done done))

pub returns-clause-only : goal.returns-clause-only
returns-clause-only c = λ more over.
    let same : Some c.args.self.now.part ≡ Some after_stream = sym (c.args.self.now.ran c.requires) ∙ over in
    c.is_done.ensures.only more (cc)
