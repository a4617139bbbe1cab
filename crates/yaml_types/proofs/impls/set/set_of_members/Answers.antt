-- The last member is put before the others as long as it is below them; else those in front come first.
use Rattle.std.proofs.Common.{◌∙◌, rules}
use Rattle.yaml_types.proofs.MemberFilling.{front_falls, put_between, none_in_front}
use Rattle.yaml_types.proofs.impls.set.set_of_members.Goals as goal

pub returns-then-not-comes_first : goal.returns-then-not-comes_first
returns-then-not-comes_first g c =
    put_between g.T.Ord.cmp c.args.members.items c.loop-member.front.items c.loop-member.later.keys
    _ _ c.pop.new.self.items c.in_ok-set.set.keys
    c.in-Some.member c.in-Some.ensures.items c.in_ok-set.ensures c.in_ok-insert.ensures.keys
    c.in_ok-insert_all.ensures c.loop-member.invariant.1

pub loop-member-preserved : goal.loop-member-preserved
loop-member-preserved g c = (
  c.in_ok-insert-2.ensures.ordered,
  front_falls g.T.Ord.cmp c.args.members.items c.loop-member.front.items c.loop-member.later.keys
      _ c.pop.new.self.items c.in-Some.member c.in-Some.ensures.items
      (c.in_ok-insert-2.ensures.keys ∙ c.comes_first.ensures c.if-not-comes_first.false)
      c.loop-member.invariant.1,
)

pub returns : goal.returns
returns g c =
    none_in_front g.T.Ord.cmp c.args.members.items c.loop-member.front.items c.loop-member.later.keys
    g.met.T.Ord.total c.loop-member.invariant.0 (search rules) c.loop-member.invariant.1
