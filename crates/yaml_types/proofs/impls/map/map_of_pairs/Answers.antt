-- The last pair is put before the others as long as its key is below theirs; else those in front come first.
use Rattle.std.proofs.Common.{◌∙◌, rules}
use Rattle.yaml_types.proofs.PairFilling.{front_falls, put_between, none_in_front}
use Rattle.yaml_types.proofs.impls.map.map_of_pairs.Goals as goal

pub returns-then-not-comes_first : goal.returns-then-not-comes_first
returns-then-not-comes_first g c =
    put_between g.K.Ord.cmp c.args.pairs.items c.loop-key.front.items c.loop-key.later.entries
    _ _ c.pop.new.self.items c.in_ok-map.map.entries
    (c.in-Some.key, c.in-Some.value) c.in-Some.ensures.items c.in_ok-map.ensures c.in_ok-insert.ensures.entries
    c.in_ok-insert_all.ensures c.loop-key.invariant.1

pub loop-key-preserved : goal.loop-key-preserved
loop-key-preserved g c = (
  c.in_ok-insert-2.ensures.ordered,
  front_falls g.K.Ord.cmp c.args.pairs.items c.loop-key.front.items c.loop-key.later.entries
      _ c.pop.new.self.items (c.in-Some.key, c.in-Some.value) c.in-Some.ensures.items
      (c.in_ok-insert-2.ensures.entries ∙ c.comes_first.ensures c.if-not-comes_first.false c.in-Some.value)
      c.loop-key.invariant.1,
)

pub returns : goal.returns
returns g c =
    none_in_front g.K.Ord.cmp c.args.pairs.items c.loop-key.front.items c.loop-key.later.entries g.met.K.Ord.total
    c.loop-key.invariant.0 (search rules) c.loop-key.invariant.1
