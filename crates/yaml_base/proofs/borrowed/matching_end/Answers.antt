use Rattle.std.proofs.Common.{◌≡◌, true, rules}
use Rattle.std.specs.Prelude.{nat_eq}
use Rattle.std.specs.List.{ends_with}
use Rattle.yaml_base.proofs.BorrowableLaws.{part-text}
use Rattle.yaml_base.proofs.borrowed.matching_end.Goals as goal

pub returns-then-ends_with-clause-equal : goal.returns-then-ends_with-clause-equal
returns-then-ends_with-clause-equal c =
    let s : ends_with nat_eq c.args.source.now c.args.bytes.now ≡ true = search rules in
    part-text _ _ s
