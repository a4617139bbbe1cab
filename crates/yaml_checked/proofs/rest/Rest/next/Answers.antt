-- The next entry, or none.
use Rattle.std.proofs.Common.{length, refl, subst, ◌≤◌}
use Rattle.yaml_checked.proofs.NameLaws.{come_behind}
use Rattle.yaml_checked.proofs.WayLaws.{entry_read, stands_there}
use Rattle.yaml_checked.proofs.rest.Rest.next.Goals as goal

pub returns-in-Some-clause-way : goal.returns-in-Some-clause-way
returns-in-Some-clause-way c = λ ds before way.
    let there = c.in-Some.ensures.lookup in
    entry_read c.in-Some.entry.now (c.in_ok-fill.ensures.way ds before way).way
    (stands_there c.deref.ensures.value there.3.0 there.1) refl refl refl

pub returns-in-None-clause-way : goal.returns-in-None-clause-way
returns-in-None-clause-way c = λ ds before way.
    let filled = c.in_ok-fill.ensures.way ds before way in
    let over = c.in-None.ensures.lookup.3 in
    (filled.way, filled.none (subst (λ l. length l ≤ c.fill.new.self.next) c.deref.ensures.value over))

pub returns-in-Some-clause-behind : goal.returns-in-Some-clause-behind
returns-in-Some-clause-behind c = λ goes.
    let there = c.in-Some.ensures.lookup in
    let r = c.fill.new.self in
    come_behind r.tape.entries.items r.next c.in-Some.entry.now (r.rise goes)
    (stands_there c.deref.ensures.value there.3.0 there.1)
