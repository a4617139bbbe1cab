-- The value is that of what the reader gives, where it is known what it gives.
use Rattle.std.specs.Prelude.{false}
use Rattle.std.proofs.Common.{◌≡◌, Ok}
use Rattle.yaml_base.specs.Answer.{is_memory}
use Rattle.yaml_read.specs.TreeReader.{default_limits}
use Rattle.serde_yaml.specs.MergedReads.{GivesMergedOwn, RefusesMergedOwn}
use Rattle.serde_yaml.proofs.ReaderTexts.{of_reader}
use Rattle.serde_yaml.proofs.merging.from_reader_merging.Goals as goal

pub returns-in-Ok-from_slice_owned_merging-clause-found : goal.returns-in-Ok-from_slice_owned_merging-clause-found
returns-in-Ok-from_slice_owned_merging-clause-found g c =
    let start = g.T.Deserialize.start in
    let built = g.T.Deserialize.built in
    let refused = g.T.Deserialize.refused in
    let value = c.in-Ok-from_slice_owned_merging.value in
    let found : GivesMergedOwn default_limits start built refused c.args.merge c.in-Ok.text.items (Ok value) =
    rw c.as_slice.ensures.value at c.in-Ok-from_slice_owned_merging.ensures.given in
    of_reader (g.R.Read.remaining c.args.reader.now) c.in-Ok.text.items
    (λ text. GivesMergedOwn default_limits start built refused c.args.merge text (Ok value)) c.in-Ok.ensures.bytes found

pub returns-clause-refused : goal.returns-clause-refused
returns-clause-refused g c = λ m.
    let start = g.T.Deserialize.start in
    let built = g.T.Deserialize.built in
    let refused = g.T.Deserialize.refused in
    let fault = c.in-Err-from_slice_owned_merging.fault in
    let given : is_memory fault ≡ false
    → RefusesMergedOwn default_limits start built refused c.args.merge c.in-Ok.text.items fault =
    rw c.as_slice.ensures.value at c.in-Err-from_slice_owned_merging.ensures.refused in
    of_reader (g.R.Read.remaining c.args.reader.now) c.in-Ok.text.items
    (λ text. RefusesMergedOwn default_limits start built refused c.args.merge text fault) c.in-Ok.ensures.bytes
    (given m)
