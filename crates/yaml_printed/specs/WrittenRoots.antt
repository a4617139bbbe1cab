-- Which data stands in the grammar as it is printed: what else the grammar asks of it than that it is written.
use Rattle.std.specs.Prelude.{◌≡◌, ℕ, ◌≤◌, IsTrue, List, None, Ok}
use Rattle.yaml_base.specs.EmitTree.{EmitNode, emit_node_events}
use Rattle.yaml_grammar.specs.Documents.{most_nestings}
use Rattle.yaml_shape.specs.Held.{IsHeld, is_table}
use Rattle.yaml_shape.specs.PlainData.{PlainData}
use Rattle.yaml_shape.specs.PlainShape.{PlainShape}
use Rattle.yaml_write.specs.Written.{written}
use Rattle.yaml_printed.specs.Nestings.{nestings}
use Rattle.yaml_printed.specs.WholeTags.{have_whole_tags}

-- Data of a shape fits a text: it has at most 128 nestings, and no tag has a character 0 that it is written with.
pub record FitsText (table : List PlainShape) (id : ℕ) (d : PlainData) : Type 0 where
  pub nests_within : nestings d ≤ most_nestings
  pub whole_tags : (root : EmitNode) → written table id None d ≡ Ok root
      → IsTrue (have_whole_tags (emit_node_events root))

-- The node is what data of a shape is written as that fits a text. As for all that is in memory, its texts and the
-- names of its shapes are UTF-8.
pub record IsWrittenRoot (root : EmitNode) : Type 0 where
  pub table : List PlainShape
  pub id : ℕ
  pub content : PlainData
  pub named : IsTrue (is_table table)
  pub held : IsHeld content
  pub is_written : written table id None content ≡ Ok root
  pub fits : FitsText table id content
