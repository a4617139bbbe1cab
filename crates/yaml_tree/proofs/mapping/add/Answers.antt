-- The entries before the last one are in their chains.
use Rattle.yaml_tree.proofs.Indexed.{indexed-pushed}
use Rattle.yaml_tree.proofs.mapping.add.Goals as goal

pub index_last-requires-clause-others : goal.index_last-requires-clause-others
index_last-requires-clause-others c n =
    indexed-pushed n c.args.entries.now.items c.push.new.self.items _ c.in-Ok.ensures.items c.requires
