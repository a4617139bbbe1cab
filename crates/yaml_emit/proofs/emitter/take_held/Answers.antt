-- An empty collection is printed at once, and the start of any other by itself.
use Rattle.std.proofs.Common.{ap, ◌∙◌, ◌∷◌, ◌++◌, List, Some}
use Rattle.yaml_base.specs.EmitEvents.{PlainEmit, emit_of}
use Rattle.yaml_emit.specs.Emitting.{left_unless}
use Rattle.yaml_emit.specs.LayoutMachine.{laid, printed_from, step, with_node_text}
use Rattle.yaml_emit.specs.Leaves.{leaf_node}
use Rattle.yaml_emit.proofs.EmitterLaws.{run_begun, run_empty, stopped_there}
use Rattle.yaml_emit.proofs.emitter.take_held.Goals as goal

pub returns-in_err-push_leaf : goal.returns-in_err-push_leaf
returns-in_err-push_leaf c =
    stopped_there
    (λ rest. printed_from (Some (laid c.args.layout.now)) (emit_of c.args.start.now ∷ emit_of c.args.event.now ∷ rest))
    (λ ends. left_unless ends (emit_of c.args.event.now))
    (with_node_text (laid c.args.layout.now) (leaf_node c.in-Some.leaf)) (laid c.push_leaf.new.self) (λ rest. rest)
    c.in_err-push_leaf.field-0.0 c.from_residual.result
    (run_empty (laid c.args.layout.now) (emit_of c.args.start.now) (emit_of c.args.event.now) c.is_sequence_end.result
    c.is_mapping_end.result (leaf_node c.in-Some.leaf) c.is_sequence_end.ensures c.is_mapping_end.ensures
    c.in-Some.ensures) c.in_err-push_leaf.ensures c.from_residual.ensures.1

pub returns-in-Some : goal.returns-in-Some
returns-in-Some c = λ rest.
    run_empty (laid c.args.layout.now) (emit_of c.args.start.now) (emit_of c.args.event.now) c.is_sequence_end.result
    c.is_mapping_end.result (leaf_node c.in-Some.leaf) c.is_sequence_end.ensures c.is_mapping_end.ensures
    c.in-Some.ensures rest
    ∙ ap (λ o. printed_from o rest) c.in_ok-push_leaf.ensures

pub returns : goal.returns
returns c = λ rest.
    run_begun (laid c.args.layout.now) (emit_of c.args.start.now) (emit_of c.args.event.now) c.is_sequence_end.result
    c.is_mapping_end.result c.is_sequence_end.ensures c.is_mapping_end.ensures c.in_default.ensures rest
    ∙ ap (λ o. printed_from o (emit_of c.args.event.now ∷ rest)) c.in_ok-take_one.ensures
