-- The fault of a text is that of what the reader gives, where it is known what it gives.
use Rattle.std.specs.Prelude.{false}
use Rattle.std.proofs.Common.{◌≡◌, Err}
use Rattle.yaml_base.specs.Answer.{is_memory}
use Rattle.yaml_read.specs.TreeReader.{default_limits}
use Rattle.serde_yaml.specs.OwnEvents.{events_alone}
use Rattle.serde_yaml.specs.TextReads.{IsParsed}
use Rattle.serde_yaml.specs.TypedHeadline.{GivesValue}
use Rattle.serde_yaml.specs.TypedReads.{TypeGives}
use Rattle.serde_yaml.proofs.ReaderTexts.{refused_of}
use Rattle.serde_yaml.proofs.input.from_reader.Goals as goal

pub returns-clause-refused : goal.returns-clause-refused
returns-clause-refused g c =
    let start = g.T.Deserialize.start in
    let built = g.T.Deserialize.built in
    let refused = g.T.Deserialize.refused in
    let fault = c.in-Err-from_slice_owned.fault in
    let given : is_memory fault ≡ false → IsParsed c.in-Ok.text.items (λ events f.
    GivesValue default_limits start built refused (events_alone events) f (Err fault)
    × TypeGives default_limits start built refused (events_alone events) f (Err fault)) =
    rw c.as_slice.ensures.value at c.in-Err-from_slice_owned.ensures.given in
    refused_of (g.R.Read.remaining c.args.reader.now) c.in-Ok.text.items fault
    (λ events f. GivesValue default_limits start built refused (events_alone events) f (Err fault))
    (λ events f. TypeGives default_limits start built refused (events_alone events) f (Err fault))
    c.in-Ok.ensures.bytes given
