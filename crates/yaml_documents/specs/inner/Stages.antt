-- Where a reader stands between two calls: what was handed out, what is loaded, and what comes behind it.
use Rattle.std.specs.Prelude.{◌≡◌, ◌++◌, Bool, List, None, Option, [], false, true, ℕ}
use Rattle.yaml_base.specs.MarkedEvents.{plain_marked}
use Rattle.yaml_base.specs.PlainDocument.{PlainDocument}
use Rattle.yaml_base.specs.Position.{Position}
use Rattle.yaml_documents.specs.TextDocuments.{AreDocumentsOf}
use Rattle.yaml_documents.specs.declared.batch.Stage.{Stage}
use Rattle.yaml_documents.specs.declared.batch.Stage.TheVariants.{Ended, Failed, Reading}
use Rattle.yaml_documents.specs.inner.Filling.{IsBetween, begun_in}
use Rattle.yaml_documents.specs.inner.Pending.{ComeNext}
use Rattle.yaml_documents.specs.inner.Sources.{PlainSource}

-- the text was read to its end
abbrev pub has_ended : Stage → Bool
has_ended Ended = true
has_ended _ = false

-- memory was wanting
abbrev pub has_failed : Stage → Bool
has_failed Failed = true
has_failed _ = false

-- the events of the text that were given end behind the documents, and these begin in them; their end is the place to
-- go back to
pub record AreLoaded (text : List ℕ) (events : PlainSource) (last : Option Position) (documents : List PlainDocument)
    : Type 0 where
  pub of_text : events.text ≡ text
  pub between : IsBetween last events.given
  pub back : events.back ≡ events.given
  pub begun : documents ≡ begun_in None (plain_marked events.given)

-- the documents of the text that were loaded where the reader stands
abbrev pub IsBehind : List ℕ → Stage → List PlainDocument → Type 0
IsBehind text (Reading events last) documents = AreLoaded text events last documents
IsBehind text Ended documents = AreDocumentsOf text documents
IsBehind text Failed documents = Unit {0}

-- Those that were handed out and those that are pending are all that were loaded, and each pending one comes next to
-- the first of the text. Where memory was wanting none is pending.
pub record IsAt (text : List ℕ) (stage : Stage) (pending handed : List PlainDocument) : Type 0 where
  pub behind : IsBehind text stage (handed ++ pending)
  pub next : ComeNext text (has_ended stage) handed pending
  pub none : has_failed stage ≡ true → pending ≡ []
