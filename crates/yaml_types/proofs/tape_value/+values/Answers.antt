use Rattle.std.proofs.Common.{◌+◌, ◌-◌, refl, arith}
use Rattle.yaml_types.proofs.AnyReads.{any_list_means, any_mapping_means}
use Rattle.yaml_types.proofs.tape_value.+values.Goals as goal

pub value_at-returns-then-begins_sequence : goal.value_at-returns-then-begins_sequence
value_at-returns-then-begins_sequence t c =
    record {
      read = any_list_means c.args.tape.now c.args.place.now (c.args.place.now + 1) c.values_at.new.place
          (c.values_at.new.place + 1) c.args.depth (c.args.depth - 1) c.in_ok-items.items.items c.from.result
          (c.if-begins_sequence.ensures refl) c.in_ok-items.ensures.items c.in_ok-items.ensures.ended
          (omega (arith, c.if-depth-eq0.false)) c.from.ensures;
    }

pub value_at-returns-then-begins_mapping : goal.value_at-returns-then-begins_mapping
value_at-returns-then-begins_mapping t c =
    record {
      read = any_mapping_means c.args.tape.now c.args.place.now (c.args.place.now + 1) c.pairs_at.new.place
          (c.pairs_at.new.place + 1) c.args.depth (c.args.depth - 1) c.in_ok-pairs.pairs
          (c.if-begins_mapping.ensures refl) c.in_ok-pairs.ensures.pairs c.in_ok-pairs.ensures.ended
          (omega (arith, c.if-depth-eq0.false));
    }
