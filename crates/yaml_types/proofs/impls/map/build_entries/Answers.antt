-- The last entry is built and put before the others as long as its key is below theirs; else those in front come first.
use Rattle.std.proofs.Common.{◌∙◌, refl, rules}
use Rattle.yaml_types.proofs.MapFilling.{last_shaped, front_shaped, refused_in_front, refused_behind}
use Rattle.yaml_types.proofs.MapFilling.{front_next, put_behind, all_behind}
use Rattle.yaml_types.proofs.impls.map.build_entries.Goals as goal

pub build_both-requires : goal.build_both-requires
build_both-requires g c κs = (
  (refl, tt),
  last_shaped c.pop.new.self.items c.in-Some.pair c.in-Some.ensures.items c.loop-pair.invariant.1,
)

pub build_in_turn-requires : goal.build_in_turn-requires
build_in_turn-requires g c κs = (
  (refl, tt),
  front_shaped c.pop.new.self.items c.in-Some.pair c.in-Some.ensures.items c.loop-pair.invariant.1,
)

pub returns-in_err-build_in_turn-in-Err-clause-refused :
    goal.returns-in_err-build_in_turn-in-Err-clause-refused
returns-in_err-build_in_turn-in-Err-clause-refused g c =
    let told = refused_in_front c.pop.new.self.items c.in-Some.pair c.in_err-build_in_turn-in-Err.field-0.0
    c.in-Some.ensures.items c.loop-pair.invariant.1 c.in_err-build_in_turn-in-Err.ensures.refused in
    search (rules, told)

pub returns-in-Err-clause-refused : goal.returns-in-Err-clause-refused
returns-in-Err-clause-refused g c =
    refused_behind c.pop.new.self.items c.in-Some.pair c.in_ok-build_in_turn-in-Err.field-0.entries c.in-Err.fault
    c.in-Some.ensures.items c.loop-pair.invariant.1 c.in_ok-build_in_turn-in-Err.ensures.ok c.in-Err.ensures.refused

pub build_in_turn-requires-then-not-comes_first : goal.build_in_turn-requires-then-not-comes_first
build_in_turn-requires-then-not-comes_first g c κs = (
  (refl, tt),
  front_shaped c.pop.new.self.items c.in-Some.pair c.in-Some.ensures.items c.loop-pair.invariant.1,
)

pub returns-in_err-map-clause-refused : goal.returns-in_err-map-clause-refused
returns-in_err-map-clause-refused g c =
    let told = refused_in_front c.pop.new.self.items c.in-Some.pair c.in_err-map.field-0.0 c.in-Some.ensures.items
    c.loop-pair.invariant.1 c.in_err-map.ensures.refused in
    search (rules, told)

pub returns-then-not-comes_first-clause-ok : goal.returns-then-not-comes_first-clause-ok
returns-then-not-comes_first-clause-ok g c =
    put_behind c.pop.new.self.items c.in-Some.pair c.in-Ok.built c.in_ok-map.map.entries c.in-Some.ensures.items
    c.in-Ok.ensures.ok c.in_ok-map.ensures.ok c.in_ok-insert.ensures.entries
    c.in_ok-insert_all.ensures c.loop-pair.invariant.1

pub loop-pair-preserved : goal.loop-pair-preserved
loop-pair-preserved g c = (
  c.in_ok-insert-2.ensures.ordered,
  front_next c.pop.new.self.items c.in-Some.pair c.in-Ok.built c.in-Some.ensures.items
      (c.in_ok-insert-2.ensures.entries ∙ c.comes_first.ensures c.if-not-comes_first.false c.in-Ok.built.1)
      c.in-Ok.ensures.ok c.loop-pair.invariant.1,
)

pub returns-clause-ok : goal.returns-clause-ok
returns-clause-ok g c =
    all_behind g.met.K.Ord.total c.loop-pair.invariant.0 (search rules) c.loop-pair.invariant.1
