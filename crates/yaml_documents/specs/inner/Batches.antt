-- What became of a batch of documents.
use Rattle.std.specs.Prelude.{◌≡◌, [], None, false, true}
use Rattle.yaml_base.specs.MarkedEvents.{plain_marked}
use Rattle.yaml_documents.specs.declared.batch.Loaded.{Loaded}
use Rattle.yaml_documents.specs.declared.batch.Loaded.TheVariants.{Batch, Left}
use Rattle.yaml_documents.specs.inner.Filling.{begun_in}
use Rattle.yaml_documents.specs.inner.Sources.{PlainSource}
use Rattle.yaml_documents.specs.inner.Stages.{IsAt, has_ended, has_failed}

-- The documents behind those of the events that were given, with what comes behind them; or the same events again, this
-- time by tokens, which the direct parser alone may ask for.
abbrev pub IsBatchOf : PlainSource → Loaded → Type 0
IsBatchOf events (Batch pending stage) =
    IsAt events.text stage pending (begun_in None (plain_marked events.given))
    × (pending ≡ [] → has_ended stage ≡ true) × (has_failed stage ≡ false)
IsBatchOf events (Left again) =
    (events.by_tape ≡ true) × (again.by_tape ≡ false) × (again.text ≡ events.text) × (again.given ≡ events.given)
    × (again.back ≡ again.given)
