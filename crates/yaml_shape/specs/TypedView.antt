-- The parts of data with its shape.
use Rattle.std.specs.Prelude.{◌≡◌, List}
use Rattle.yaml_shape.specs.PlainShape.{PlainShape}
use Rattle.yaml_shape.specs.declared.data.Data.{Data}
use Rattle.yaml_shape.specs.declared.shape.ShapeId.{ShapeId}
use Rattle.yaml_shape.specs.declared.typed.Typed.{Typed}

-- the schema
abbrev pub schema_in : Typed → List PlainShape
schema_in t = t.schema.now

-- the number of the shape
abbrev pub id_in : Typed → ShapeId
id_in t = t.id

-- the data
abbrev pub content_in : Typed → Data
content_in t = t.content.now

-- the three parts are these
pub record IsOf (schema : List PlainShape) (id : ShapeId) (content : Data) (t : Typed) : Type 0 where
  pub schema_is : schema_in t ≡ schema
  pub id_is : id_in t ≡ id
  pub content_is : content_in t ≡ content
