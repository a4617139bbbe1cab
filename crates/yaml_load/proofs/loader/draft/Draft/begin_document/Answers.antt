-- A document begins.
use Rattle.yaml_load.proofs.LoadingLaws.{on_begin}
use Rattle.yaml_load.proofs.loader.draft.Draft.begin_document.Goals as goal

pub returns : goal.returns
returns c = λ outer mark clean. (
  c.in-Some.ensures outer clean,
  λ fault all rest way. on_begin way (c.begin.ensures.draft way.documents way.between) c.begin.ensures.cuts,
)
