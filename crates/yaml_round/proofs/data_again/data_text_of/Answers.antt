-- What `data_to_string` promises is what the law asks for; data that fits is written.
use Rattle.std.proofs.Common.{subst}
use Rattle.yaml_shape.specs.DataView.{data_of}
use Rattle.yaml_shape.specs.TypedView.{content_in, id_in, schema_in}
use Rattle.yaml_shape.specs.Validity.{IsValidSchema}
use Rattle.yaml_round.proofs.ShapesOfData.{shape_there}
use Rattle.yaml_round.proofs.data_again.data_text_of.Goals as goal

pub returns-in-Ok-clause-returns : goal.returns-in-Ok-clause-returns
returns-in-Ok-clause-returns c = λ short limits fits.
    let value = c.args.value.now in
    let s = shape_there (schema_in value) (id_in value).0 (data_of (content_in value)) fits.nestings.typed in (
      s.0,
      s.1,
      c.a_written_text_of_data_reads_back.ensures limits (schema_in value) (id_in value).0 s.0
          (data_of (content_in value)) _ (subst IsValidSchema c.schema.ensures c.is_valid.ensures) c.in-Ok.ensures.table s.1
          c.in-Ok.ensures.held c.in-Ok.ensures.text short fits,
    )
