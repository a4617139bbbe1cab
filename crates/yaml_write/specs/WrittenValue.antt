-- What a value is written as.
use Rattle.std.specs.Prelude.{ℕ, List, Bool, true, false, Option, None, Result, Ok, codes}
use Rattle.std.specs.Fmt.{signed_decimal}
use Rattle.yaml_tree.specs.Tree.{Tree, null, boolean, number, string, sequence, mapping, tagged}
use Rattle.yaml_tree.specs.Tree.{Trees, no_trees, tree, Pairs, no_pairs, pair}
use Rattle.yaml_base.specs.EmitTree.{EmitNode, EmitNodes, EmitPairs, emit_sequence_node, emit_mapping_node}
use Rattle.yaml_base.specs.EmitTree.{no_emit_nodes, emit_node, no_emit_pairs, emit_pair}
use Rattle.yaml_base.specs.declared.error.Cause.{Cause}
use Rattle.yaml_write.specs.LocalTags.{value_tag}
use Rattle.yaml_write.specs.Outcomes.{Outcome, made, joined, plain_node, null_node, string_node, under}

-- the text of a boolean
abbrev pub truth_text : Bool → List ℕ
truth_text true = codes "true"
truth_text false = codes "false"

-- a key beside its value
abbrev pub pair_node : EmitNode → EmitNode → EmitNode × EmitNode
pair_node key value = (key, value)

-- a key with its value before other pairs
abbrev pub pair_before : EmitNode × EmitNode → EmitPairs → EmitPairs
pair_before p pairs = emit_pair p.0 p.1 pairs

-- what a value is written as under a tag from above, if there is one; its parts have none from above
abbrev mutual
  pub written_value : (tag : Option (List ℕ)) → Tree → Outcome
  written_value tag null = Ok (null_node tag)
  written_value tag (boolean b) = Ok (plain_node tag (truth_text b))
  written_value tag (number z) = Ok (plain_node tag (signed_decimal z))
  written_value tag (string text) = Ok (string_node tag text)
  written_value tag (sequence ts) = made (emit_sequence_node tag) (written_values ts)
  written_value tag (mapping ps) = made (emit_mapping_node tag) (written_pairs ps)
  written_value tag (tagged own t) = under tag (value_tag own) (λ new. written_value new t)

  pub written_values : Trees → Result EmitNodes Cause
  written_values no_trees = Ok no_emit_nodes
  written_values (tree t ts) = joined emit_node (written_value None t) (written_values ts)

  pub written_pairs : Pairs → Result EmitPairs Cause
  written_pairs no_pairs = Ok no_emit_pairs
  written_pairs (pair k v ps) =
      joined pair_before (joined pair_node (written_value None k) (written_value None v)) (written_pairs ps)
