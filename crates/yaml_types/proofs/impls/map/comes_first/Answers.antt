-- A key below the first one is put in before all.
use Rattle.std.proofs.Common.{sym}
use Rattle.yaml_types.proofs.SortedLaws.{put_before}
use Rattle.yaml_types.proofs.impls.map.comes_first.Goals as goal

pub returns-in-Less : goal.returns-in-Less
returns-in-Less g c below =
    put_before g.K.Ord.cmp c.args.map.now.entries (c.in-Some.first.now, c.in-Some.field-0-1.now) c.args.key.now
    c.in-Some.ensures.first (sym c.in-Less.ensures)
