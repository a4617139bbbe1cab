-- What was written, where something was.
use Rattle.std.proofs.Common.{◌≡◌, List, ℕ, Option, ap, ◌∙◌}
use Rattle.yaml_base.specs.DocTree.{DocNode, first_event}
use Rattle.yaml_base.specs.EmitTree.{EmitNode, emit_scalar_node, emit_sequence_node, emit_mapping_node}
use Rattle.yaml_meaning.specs.NodeTags.{tag_in}
use Rattle.yaml_round.proofs.RenderedTrees.{IsRendered}
pub use Rattle.yaml_printed.proofs.Outcomes.{same_answer, made_ok, joined_ok}

-- the tag of a node
abbrev pub tag_of : EmitNode → Option (List ℕ)
tag_of (emit_scalar_node tag text style) = tag
tag_of (emit_sequence_node tag es) = tag
tag_of (emit_mapping_node tag es) = tag

-- it comes back
pub rendered_tag : (e : EmitNode) (n : DocNode) → IsRendered e n → tag_in (first_event n) ≡ tag_of e
rendered_tag (emit_scalar_node tag text style) n r = ap (λ n. tag_in (first_event n)) r.1 ∙ r.2.same_tag
rendered_tag (emit_sequence_node tag es) n r = ap (λ n. tag_in (first_event n)) r.1
rendered_tag (emit_mapping_node tag es) n r = ap (λ n. tag_in (first_event n)) r.1
