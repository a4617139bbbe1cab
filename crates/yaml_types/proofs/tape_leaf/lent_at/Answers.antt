use Rattle.std.proofs.Common.{◌≡◌, rules, true}
use Rattle.std.specs.Str.{IsUtf8}
use Rattle.yaml_base.specs.Borrowable.{is_borrowable}
use Rattle.yaml_tape.specs.OnDocs.{bare}
use Rattle.yaml_types.proofs.LeafReads.{lent_gives}
use Rattle.yaml_types.proofs.tape_leaf.lent_at.Goals as goal

pub returns-clause-gives : goal.returns-clause-gives
returns-clause-gives c =
    let e = c.in_ok-entry.entry in
    let scalar = bare c.args.tape.now e in
    let utf8 : IsUtf8 c.in_ok-found.found.now = search rules in
    let lent : is_borrowable scalar.text scalar.source e.style ≡ true = search rules in
    let same : c.in_ok-found.found.now ≡ scalar.text = search rules in
    lent_gives c.args.tape.now c.args.place e c.in_ok-found.found.now c.in_ok-entry.ensures.scalar utf8 lent same
