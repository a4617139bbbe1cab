-- The text of a stream: of each document the text of its root, as blocks.
use Rattle.std.specs.Prelude.{◌≡◌, ℕ, ◌+◌, max, Bool, true, false, not, ◌&&◌, nat_le, if◌then◌else◌, List, [], ◌∷◌}
use Rattle.std.specs.Prelude.{◌++◌, codes, length, Option, None, Some}
use Rattle.std.specs.List.{flat_map}
use Rattle.yaml_base.specs.EmitEvents.{PlainEmit, emit_stream_start, emit_stream_end}
use Rattle.yaml_base.specs.EmitTree.{EmitNode, emit_scalar_node, emit_sequence_node, emit_mapping_node}
use Rattle.yaml_base.specs.EmitTree.{EmitNodes, no_emit_nodes, emit_node, EmitPairs, no_emit_pairs, emit_pair}
use Rattle.yaml_base.specs.EmitTree.{emit_documents_events}
use Rattle.yaml_base.specs.declared.emitter.AskedStyle.{AskedStyle}
use Rattle.yaml_emit.specs.Places.{root_place, item_place, far_place, key_place, value_place, in_line, tag_in_line}
use Rattle.yaml_emit.specs.Places.{behind_tag, margin}
use Rattle.yaml_emit.specs.Scalars.{styled_scalar}
use Rattle.yaml_emit.specs.Styles.{chosen_style, has_break}
use Rattle.yaml_emit.specs.Tags.{tag_len}
use Rattle.yaml_emit.specs.declared.open.Lead.{Lead}
use Rattle.yaml_emit.specs.declared.open.Lead.TheVariants.{Fresh, Indicator, Text}
use Rattle.yaml_emit.specs.declared.open.Place.{Place}
use Rattle.yaml_emit.specs.declared.style.Style.{Style}
use Rattle.yaml_emit.specs.declared.style.Style.TheVariants.{Literal}

-- the bytes of a tag, none where there is no tag
abbrev pub tag_or_empty : Option (List ℕ) → List ℕ
tag_or_empty None = []
tag_or_empty (Some tag) = tag

-- a tag and a text of so many bytes are short enough for a key in a line with its value
abbrev pub is_short : (tag : List ℕ) → ℕ → Bool
is_short tag count = nat_le (tag_len tag + count) 128

-- the node may be a key in a line with its value: an empty collection, or a scalar in which no line ends, that is short
abbrev pub is_simple_key : EmitNode → Bool
is_simple_key (emit_scalar_node tag text style) = not (has_break text) && is_short (tag_or_empty tag) (length text)
is_simple_key (emit_sequence_node tag no_emit_nodes) = is_short (tag_or_empty tag) 0
is_simple_key (emit_sequence_node tag (emit_node n nodes)) = false
is_simple_key (emit_mapping_node tag no_emit_pairs) = is_short (tag_or_empty tag) 0
is_simple_key (emit_mapping_node tag (emit_pair key value pairs)) = false

-- what ends a scalar or an empty collection: `:` behind a key in a line, else the line's end, which a literal block has
abbrev pub leaf_end : (key : Bool) → (literal : Bool) → List ℕ
leaf_end true _ = 58 ∷ []
leaf_end false true = []
leaf_end false false = 10 ∷ []

-- a scalar or an empty collection behind its tag, whose content is this, a literal block or not
abbrev pub leaf_text : Place → (tag : List ℕ) → (content : List ℕ) → (literal : Bool) → List ℕ
leaf_text place tag content literal =
    tag_in_line place.lead tag ++ (in_line (behind_tag place.lead tag) content ++ leaf_end place.key literal)

-- the style is the literal block's
abbrev pub is_literal : Style → Bool
is_literal Literal = true
is_literal _ = false

-- a scalar, whose further lines stand in by two blanks at least
abbrev pub placed_scalar : Place → (tag : List ℕ) → (text : List ℕ) → AskedStyle → List ℕ
placed_scalar place tag text style =
    leaf_text place tag (styled_scalar (max place.column 2) style place.key text)
    (is_literal (chosen_style text style place.key))

-- the column of the items of a sequence: only in the line of an indicator do they stand in by two in a mapping
abbrev pub items_column : Place → Lead → ℕ
items_column place Indicator = place.column
items_column place Fresh = place.level
items_column place Text = place.level

-- The text of a node in its place: a scalar or an empty collection in a line, and else its parts, from a column on.
-- A key that is no simple one stands behind `?`, and its value behind `:`.
abbrev mutual
  pub node_text : Place → EmitNode → List ℕ
  node_text place (emit_scalar_node tag text style) = placed_scalar place (tag_or_empty tag) text style
  node_text place (emit_sequence_node tag no_emit_nodes) = leaf_text place (tag_or_empty tag) (codes "[]") false
  node_text place (emit_sequence_node tag (emit_node n nodes)) =
      tag_in_line place.lead (tag_or_empty tag)
      ++ items_text (behind_tag place.lead (tag_or_empty tag))
      (items_column place (behind_tag place.lead (tag_or_empty tag)))
      (emit_node n nodes)
  node_text place (emit_mapping_node tag no_emit_pairs) = leaf_text place (tag_or_empty tag) (codes "{}") false
  node_text place (emit_mapping_node tag (emit_pair key value pairs)) =
      tag_in_line place.lead (tag_or_empty tag)
      ++ pairs_text (behind_tag place.lead (tag_or_empty tag)) place.column (emit_pair key value pairs)

  pub items_text : Lead → (column : ℕ) → EmitNodes → List ℕ
  items_text lead column no_emit_nodes = []
  items_text lead column (emit_node n nodes) =
      margin lead column ++ (codes "-" ++ (node_text (item_place column) n ++ items_text Fresh column nodes))

  pub pairs_text : Lead → (column : ℕ) → EmitPairs → List ℕ
  pairs_text lead column no_emit_pairs = []
  pairs_text lead column (emit_pair key value pairs) =
      margin lead column
      ++ ((if is_simple_key key then node_text (key_place column) key ++ node_text (value_place column) value
      else codes "?" ++ (node_text (far_place column) key
      ++ (margin Fresh column ++ (codes ":" ++ node_text (far_place column) value))))
      ++ pairs_text Fresh column pairs)

-- a document behind another one
abbrev pub later_document : EmitNode → List ℕ
later_document root = codes "---" ++ node_text (root_place Text) root

-- the text of documents with these roots
abbrev pub stream_text : List EmitNode → List ℕ
stream_text [] = []
stream_text (root ∷ roots) = node_text (root_place Fresh) root ++ flat_map later_document roots

-- the events of a stream of documents with these roots
abbrev pub emit_stream_events : List EmitNode → List PlainEmit
emit_stream_events roots = emit_stream_start ∷ (emit_documents_events roots ++ emit_stream_end ∷ [])

-- the events are a stream of documents with some roots, and this is the text of these
pub record IsStreamText (events : List PlainEmit) (text : List ℕ) : Type 0 where
  pub roots : List EmitNode
  pub stream : events ≡ emit_stream_events roots
  pub printed : text ≡ stream_text roots
