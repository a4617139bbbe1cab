-- What data with its shape is written as.
use Rattle.std.specs.Prelude.{ℕ, List, Option}
use Rattle.yaml_shape.specs.DataView.{data_of}
use Rattle.yaml_shape.specs.TypedView.{schema_in, id_in, content_in}
use Rattle.yaml_shape.specs.declared.typed.Typed.{Typed}
use Rattle.yaml_write.specs.Outcomes.{Outcome}
use Rattle.yaml_write.specs.Written.{written}

-- data with its shape, under a tag from above, if there is one
abbrev pub typed_written : (tag : Option (List ℕ)) → Typed → Outcome
typed_written tag t = written (schema_in t) (id_in t).0 tag (data_of (content_in t))
