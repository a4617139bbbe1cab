-- The open document ends.
use Rattle.yaml_load.proofs.LoadingLaws.{on_end}
use Rattle.yaml_load.proofs.loader.draft.Draft.end_document.Goals as goal

pub returns : goal.returns
returns c = λ outer mark clean. (
  c.in-Some.ensures.moves outer clean,
  λ fault all rest way.
      on_end way (c.in_ok-finish.ensures way.events way.numbers way.seen way.draft way.cuts),
)
