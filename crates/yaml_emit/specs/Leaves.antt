-- Nodes without parts as nodes of a tree.
use Rattle.std.specs.Prelude.{ℕ, Bool, true, false, List, [], ◌∷◌, Option}
use Rattle.std.specs.Option.{option_map}
use Rattle.yaml_base.specs.EmitTree.{EmitNode, emit_scalar_node, emit_sequence_node, emit_mapping_node}
use Rattle.yaml_base.specs.EmitTree.{no_emit_nodes, no_emit_pairs}
use Rattle.yaml_emit.specs.Places.{blank}
use Rattle.yaml_emit.specs.declared.leaf.Content.{Content}
use Rattle.yaml_emit.specs.declared.leaf.Content.TheVariants.{Scalar, NoItems, NoPairs}
use Rattle.yaml_emit.specs.declared.leaf.Leaf.{Leaf}
use Rattle.yaml_emit.specs.declared.open.Lead.{Lead}
use Rattle.yaml_emit.specs.declared.style.Style.{Style}
use Rattle.yaml_emit.specs.declared.style.Style.TheVariants.{Plain, SingleQuoted, DoubleQuoted, Literal}

-- the node with this tag and content
abbrev pub content_node : Option (List ℕ) → Content → EmitNode
content_node tag (Scalar text style) = emit_scalar_node tag text.now style
content_node tag NoItems = emit_sequence_node tag no_emit_nodes
content_node tag NoPairs = emit_mapping_node tag no_emit_pairs

-- the node of a leaf
abbrev pub leaf_node : Leaf → EmitNode
leaf_node leaf = content_node (option_map (λ t. t.now) leaf.tag) leaf.content

-- nothing is printed of a text in this style
abbrev pub is_nothing : Style → List ℕ → Bool
is_nothing Plain [] = true
is_nothing Plain (c ∷ cs) = false
is_nothing SingleQuoted text = false
is_nothing DoubleQuoted text = false
is_nothing Literal text = false

-- what stands before a text in the line
abbrev pub gap : Lead → (nothing : Bool) → List ℕ
gap lead true = []
gap lead false = blank lead
