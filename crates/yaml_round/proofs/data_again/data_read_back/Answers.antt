-- The law says what is read of the data's own text.
use Rattle.std.proofs.Common.{Ok, Err}
use Rattle.yaml_shape.specs.DataView.{data_of}
use Rattle.yaml_shape.specs.TypedView.{content_in, id_in, schema_in}
use Rattle.yaml_round.proofs.TextsTaken.{read_under, text_under}
use Rattle.yaml_round.proofs.data_again.data_read_back.Goals as goal

pub returns-in-Ok-clause-same : goal.returns-in-Ok-clause-same
returns-in-Ok-clause-same c = λ own short fits.
    let value = c.args.value.now in
    let known = c.typed_is_held.ensures in
    c.a_written_text_of_data_reads_back.ensures c.args.limits (schema_in value) (id_in value).0 known.shape.0
    (data_of (content_in value)) c.args.text.now known.valid known.table known.shape.1 known.content own short fits
    (Ok (data_of c.in-Ok.found))
    (read_under c.schema.ensures c.id.ensures c.as_bytes.ensures.value known.shape.1
    (λ s is. c.in-Ok.ensures.given s is))

pub returns-in-Err-clause-same : goal.returns-in-Err-clause-same
returns-in-Err-clause-same c = λ own short fits m.
    let value = c.args.value.now in
    let known = c.typed_is_held.ensures in
    c.a_written_text_of_data_reads_back.ensures c.args.limits (schema_in value) (id_in value).0 known.shape.0
    (data_of (content_in value)) c.args.text.now known.valid known.table known.shape.1 known.content own short fits
    (Err c.in-Err.fault)
    (read_under c.schema.ensures c.id.ensures c.as_bytes.ensures.value known.shape.1
    (λ s is. c.in-Err.ensures.given s is m))

pub returns-in-Ok-clause-given : goal.returns-in-Ok-clause-given
returns-in-Ok-clause-given c = λ s at.
    text_under c.schema.ensures c.id.ensures c.as_bytes.ensures.value at (λ s is. c.in-Ok.ensures.given s is)

pub returns-in-Err-clause-given : goal.returns-in-Err-clause-given
returns-in-Err-clause-given c = λ s at m.
    text_under c.schema.ensures c.id.ensures c.as_bytes.ensures.value at (λ s is. c.in-Err.ensures.given s is m)
