-- What the single calls of a serializer write.
use Rattle.std.specs.Prelude.{None, Some, Ok, decimal, string_bytes}
use Rattle.std.specs.Char.{encode_utf8}
use Rattle.std.specs.Fmt.{signed_decimal}
use Rattle.yaml_base.specs.EmitEvents.{tag_bytes}
use Rattle.yaml_base.specs.EmitTree.{emit_scalar_node}
use Rattle.yaml_base.specs.declared.emitter.AskedStyle.TheVariants.{SingleQuoted}
use Rattle.yaml_shape.specs.DataView.{data_of}
use Rattle.yaml_tree.specs.View.{tree_of}
use Rattle.yaml_write.specs.Outcomes.{Outcome, plain_node, null_node, number_node, string_node}
use Rattle.yaml_write.specs.Written.{written}
use Rattle.yaml_write.specs.WrittenValue.{written_value, truth_text}
use Rattle.yaml_write.specs.declared.node_content.Content.{Content}
use Rattle.yaml_write.specs.declared.node_content.Content.TheVariants as content

-- what it is written as
abbrev pub content_written : Content → Outcome
content_written content.Null = Ok (null_node None)
content_written (content.Bool b) = Ok (plain_node None (truth_text b))
content_written (content.Signed z) = Ok (plain_node None (signed_decimal z))
content_written (content.Unsigned n) = Ok (plain_node None (decimal n))
content_written (content.Char c) = Ok (emit_scalar_node None (encode_utf8 c) SingleQuoted)
content_written (content.Str text) = Ok (string_node None text.now)
content_written (content.Number tag text) = Ok (number_node (tag_bytes tag) text.now)
content_written (content.Tagged tag value) = written_value (Some (string_bytes tag)) (tree_of value.now)
content_written (content.Data tag schema id d) = written schema.now id.0 (tag_bytes tag) (data_of d.now)
