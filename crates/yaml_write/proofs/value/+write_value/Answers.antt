-- Values are written part by part.
use Rattle.std.proofs.Common.{◌≡◌, ◌++◌, ◌+◌, drop, None, arith, rules, ap, sym, ◌∙◌, refl}
use Rattle.std.proofs.lemmas.List.{drop_all}
use Rattle.yaml_base.specs.Answer.{Fails}
use Rattle.yaml_base.specs.EmitEvents.{tag_bytes, emit_sequence_start, emit_sequence_end, emit_mapping_start}
use Rattle.yaml_base.specs.EmitEvents.{emit_mapping_end}
use Rattle.yaml_base.specs.EmitTree.{emit_node_events, emit_nodes_events, emit_pairs_events, emit_sequence_node}
use Rattle.yaml_base.specs.EmitTree.{emit_mapping_node, emit_node, no_emit_nodes, no_emit_pairs}
use Rattle.yaml_tree.specs.Valid.{pairs_of, values_of}
use Rattle.yaml_tree.specs.Tree.{pair_list, pair_list_size}
use Rattle.yaml_tree.specs.View.{tree_of, trees_of}
use Rattle.yaml_write.specs.Adds.{KeepsEvents}
use Rattle.yaml_write.specs.Outcomes.{made, joined}
use Rattle.yaml_tree.proofs.Callers.{tree_size-item, pair_list_size-pair_list}
use Rattle.yaml_write.specs.WrittenValue.{written_value, written_values, written_pairs, pair_node, pair_before}
use Rattle.yaml_write.specs.WrittenEvents.{pair_events}
use Rattle.yaml_write.proofs.AddLaws.{adds-joined, adds-between, left-joined, fails-left, kept-then, keeps-all}
use Rattle.yaml_write.proofs.AddLaws.{keeps-through}
use Rattle.yaml_write.proofs.ValueLaws.{pair-row, pairs-row, node-row, values-left, written_list, written_pairs-list}
use Rattle.yaml_write.proofs.ValueLaws.{none-left}
use Rattle.yaml_write.proofs.value.+write_value.Goals as goal

pub write_sequence-returns : goal.write_sequence-returns
write_sequence-returns g t c =
    adds-between (emit_sequence_node (tag_bytes c.args.tag)) emit_nodes_events emit_node_events
    (emit_sequence_start (tag_bytes c.args.tag)) emit_sequence_end (λ ns. refl)
    (written_values (values_of c.args.values.now)) c.args.out.now c.start_sequence.new.self c.write_values.new.out
    c.end_sequence.new.self c.end_sequence.result
    c.in_ok-start_sequence.ensures.added c.in_ok-write_values.ensures c.end_sequence.ensures.added

pub write_mapping-returns : goal.write_mapping-returns
write_mapping-returns g t c =
    adds-between (emit_mapping_node (tag_bytes c.args.tag)) emit_pairs_events emit_node_events
    (emit_mapping_start (tag_bytes c.args.tag)) emit_mapping_end (λ ns. refl)
    (written_pairs (pairs_of c.args.pairs.now)) c.args.out.now c.start_mapping.new.self c.write_pairs.new.out
    c.end_mapping.new.self c.end_mapping.result
    c.in_ok-start_mapping.ensures.added c.in_ok-write_pairs.ensures c.end_mapping.ensures.added

pub write_pair-returns : goal.write_pair-returns
write_pair-returns g t c =
    adds-joined pair_node emit_node_events emit_node_events pair_events pair-row
    (written_value None (tree_of c.args.key.now)) (written_value None (tree_of c.args.value.now))
    c.args.out.now c.write_value.new.out c.write_value-2.new.out c.write_value-2.result c.in_ok-write_value.ensures
    c.write_value-2.ensures

pub write_values-write_value-requires : goal.write_values-write_value-requires
write_values-write_value-requires g t c =
    let smaller = tree_size-item _ _ _ _ c.as_slice-value-items.ensures c.loop-value-test.true c.value-item.is in
    λ lives within. (omega (arith, smaller, c.decreases), within)

pub write_values-loop-value-preserved : goal.write_values-loop-value-preserved
write_values-loop-value-preserved g t c = (
  c.loop-value.invariant.0
      ∙ (ap (made (λ part. c.loop-value.out ++ emit_nodes_events part))
      (values-left c.as_slice-value-items.result.now c.loop-value.value-index c.value-item.result c.loop-value-test.true
      c.value-item.is)
      ∙ left-joined emit_node emit_node_events emit_nodes_events emit_nodes_events node-row
      (written_value None (tree_of c.value-item.result))
      (written_values (trees_of (drop (c.loop-value.value-index + 1) c.as_slice-value-items.result.now)))
      c.loop-value.out c.write_value.new.out c.in_ok-write_value.ensures),
  kept-then emit_node_events _ c.args.out.now c.loop-value.out c.write_value.new.out c.loop-value.invariant.1
      c.in_ok-write_value.ensures,
)

pub write_values-returns-in_err-write_value : goal.write_values-returns-in_err-write_value
write_values-returns-in_err-write_value g t c =
    let rest = written_values (trees_of (drop (c.loop-value.value-index + 1) c.as_slice-value-items.result.now)) in
    let refused : Fails c.in_err-write_value.field-0.0 (written_values (values_of c.args.values.now)) =
    fails-left emit_node (λ part. c.args.out.now ++ emit_nodes_events part)
    (λ part. c.loop-value.out ++ emit_nodes_events part) _ (written_value None (tree_of c.value-item.result)) rest _
    (ap (λ ts. made (λ part. c.args.out.now ++ emit_nodes_events part) (written_values ts))
    (sym c.as_slice-value-items.ensures) ∙ (c.loop-value.invariant.0
    ∙ ap (made (λ part. c.loop-value.out ++ emit_nodes_events part))
    (values-left c.as_slice-value-items.result.now c.loop-value.value-index c.value-item.result c.loop-value-test.true
    c.value-item.is)))
    c.in_err-write_value.ensures.0 in
    let kept : KeepsEvents c.args.out.now c.write_value.new.out =
    keeps-through c.args.out.now c.loop-value.out c.write_value.new.out c.loop-value.invariant.1
    c.in_err-write_value.ensures.1 in
    search rules

pub write_pairs-loop-key-init : goal.write_pairs-loop-key-init
write_pairs-loop-key-init g t c =
    let pairs : c.into_iter-key-iterator.result ≡ pair_list (pairs_of c.args.pairs.now) = cc in (
      refl,
      omega (arith, ap pair_list_size pairs, pair_list_size-pair_list (pairs_of c.args.pairs.now)),
      keeps-all c.args.out.now,
    )

pub write_pairs-loop-key-preserved : goal.write_pairs-loop-key-preserved
write_pairs-loop-key-preserved g t c =
    let left = c.in-Some.ensures.steps in (
      c.loop-key.invariant.0 ∙ (ap (λ ps. made (λ part. c.loop-key.out ++ emit_pairs_events part) (written_list ps))
          left
          ∙ left-joined pair_before pair_events emit_pairs_events emit_pairs_events pairs-row
          (joined pair_node (written_value None (tree_of c.in-Some.key.now))
          (written_value None (tree_of c.in-Some.value.now))) (written_list c.next.new.self)
          c.loop-key.out c.write_pair.new.out c.in_ok-write_pair.ensures),
      omega (arith, ap pair_list_size left, c.loop-key.invariant.1),
      kept-then pair_events _ c.args.out.now c.loop-key.out c.write_pair.new.out c.loop-key.invariant.2
          c.in_ok-write_pair.ensures,
    )

pub write_pairs-returns-in_err-write_pair : goal.write_pairs-returns-in_err-write_pair
write_pairs-returns-in_err-write_pair g t c =
    let pairs : c.into_iter-key-iterator.result ≡ pair_list (pairs_of c.args.pairs.now) = cc in
    let refused : Fails c.in_err-write_pair.field-0.0 (written_pairs (pairs_of c.args.pairs.now)) =
    fails-left pair_before (λ part. c.args.out.now ++ emit_pairs_events part)
    (λ part. c.loop-key.out ++ emit_pairs_events part) _
    (joined pair_node (written_value None (tree_of c.in-Some.key.now))
    (written_value None (tree_of c.in-Some.value.now))) (written_list c.next.new.self) _
    (ap (made (λ part. c.args.out.now ++ emit_pairs_events part))
    (written_pairs-list (pairs_of c.args.pairs.now) ∙ sym (ap written_list pairs))
    ∙ (c.loop-key.invariant.0 ∙ ap (λ ps. made (λ part. c.loop-key.out ++ emit_pairs_events part) (written_list ps))
    c.in-Some.ensures.steps))
    c.in_err-write_pair.ensures.0 in
    let kept : KeepsEvents c.args.out.now c.write_pair.new.out =
    keeps-through c.args.out.now c.loop-key.out c.write_pair.new.out c.loop-key.invariant.2
    c.in_err-write_pair.ensures.1 in
    search rules

pub write_pairs-returns : goal.write_pairs-returns
write_pairs-returns g t c =
    let pairs : c.into_iter-key-iterator.result ≡ pair_list (pairs_of c.args.pairs.now) = cc in
    ap (made (λ part. c.args.out.now ++ emit_pairs_events part))
    (written_pairs-list (pairs_of c.args.pairs.now) ∙ sym (ap written_list pairs))
    ∙ (c.loop-key.invariant.0 ∙ (ap (λ ps. made (λ part. c.loop-key.out ++ emit_pairs_events part) (written_list ps))
    c.in-None.ensures.steps.0
    ∙ none-left emit_pairs_events no_emit_pairs c.loop-key.out refl))

pub write_values-returns : goal.write_values-returns
write_values-returns g t c =
    ap (λ ts. made (λ part. c.args.out.now ++ emit_nodes_events part) (written_values ts))
    (sym c.as_slice-value-items.ensures)
    ∙ (c.loop-value.invariant.0
    ∙ (ap (λ vs. made (λ part. c.loop-value.out ++ emit_nodes_events part) (written_values (trees_of vs)))
    (drop_all c.loop-value.value-index c.as_slice-value-items.result.now (omega (arith, c.loop-value-test.false)))
    ∙ none-left emit_nodes_events no_emit_nodes c.loop-value.out refl))
