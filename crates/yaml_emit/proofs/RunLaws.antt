-- One turn of printing: an empty collection at once, and any other event by itself.
use Rattle.std.proofs.Common.{◌≡◌, ℕ, List, [], ◌∷◌, Option, Some, None, refl, ap, ◌∙◌}
use Rattle.yaml_base.specs.EmitEvents.{PlainEmit, emit_sequence_start, emit_sequence_end}
use Rattle.yaml_base.specs.EmitEvents.{emit_mapping_start, emit_mapping_end}
use Rattle.yaml_base.specs.EmitTree.{EmitNode}
use Rattle.yaml_emit.specs.LayoutMachine.{Laid, hollow, printed_from, step, with_node_text}

abbrev run_by : Laid → PlainEmit → List PlainEmit → Option (EmitNode × List PlainEmit) → Option (List ℕ)
run_by s e es None = printed_from (step s e) es
run_by s e es (Some found) = printed_from (with_node_text s found.0) found.1

run_is : (s : Laid) (e : PlainEmit) (es : List PlainEmit) → printed_from (Some s) (e ∷ es) ≡ run_by s e es (hollow e es)
run_is s (emit_sequence_start tag) (emit_sequence_end ∷ es) = refl
run_is s (emit_mapping_start tag) (emit_mapping_end ∷ es) = refl
run_is s (emit_sequence_start tag) [] = refl
run_is s (emit_mapping_start tag) [] = refl
run_is s e [] = refl
run_is s e (next ∷ es) = refl

-- an empty collection is printed at once
pub run_hollow : (s : Laid) (e : PlainEmit) (es left : List PlainEmit) (n : EmitNode)
    → hollow e es ≡ Some (n, left) → printed_from (Some s) (e ∷ es) ≡ printed_from (with_node_text s n) left
run_hollow s e es left n is = run_is s e es ∙ ap (run_by s e es) is

-- any other event is printed by itself
pub run_step : (s : Laid) (e : PlainEmit) (es : List PlainEmit)
    → hollow e es ≡ None → printed_from (Some s) (e ∷ es) ≡ printed_from (step s e) es
run_step s e es is = run_is s e es ∙ ap (run_by s e es) is
