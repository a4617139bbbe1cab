-- Each turn writes or adds one more. What is gone over are the values and pairs that are seen.
use Rattle.std.proofs.Common.{◌∙◌}
use Rattle.std.specs.Hash.FoldHasher.{write}
use Rattle.yaml_value.proofs.Hashes.{sum-step, writes-step}
use Rattle.yaml_value.proofs.value.hash.+hash.Goals as goal

pub hash_items-loop-item-preserved : goal.hash_items-loop-item-preserved
hash_items-loop-item-preserved t c =
    writes-step write _ _ _ _ c.item-item.result c.hash_value-hash.result c.loop-item-test.true c.item-item.is
    c.hash_value-hash.ensures c.write_u64.ensures ∙ c.loop-item.invariant

pub hash_mapping-loop-entry-preserved : goal.hash_mapping-loop-entry-preserved
hash_mapping-loop-entry-preserved t c =
    sum-step _ _ c.hash_entry-hash.result _ _ c.entry-item.result c.loop-entry-test.true c.entry-item.is
    c.hash_entry-hash.ensures c.plus-more.ensures ∙ c.loop-entry.invariant
