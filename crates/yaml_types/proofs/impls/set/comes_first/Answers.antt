-- An element below the first one is put in before all.
use Rattle.std.proofs.Common.{sym}
use Rattle.yaml_types.proofs.SortedLaws.{member_before}
use Rattle.yaml_types.proofs.impls.set.comes_first.Goals as goal

pub returns-in-Less : goal.returns-in-Less
returns-in-Less g c below =
    member_before g.T.Ord.cmp c.args.set.now.keys c.in-Some.first.now c.args.member.now c.in-Some.ensures.first
    (sym c.in-Less.ensures)
