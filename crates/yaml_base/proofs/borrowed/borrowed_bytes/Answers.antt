use Rattle.std.proofs.Common.{◌≡◌, is_some, rules, arith}
use Rattle.std.proofs.lemmas.Grind.{common_steps}
use Rattle.std.specs.Option.{option_copied}
use Rattle.yaml_base.specs.Borrowable.{is_borrowable}
use Rattle.yaml_base.proofs.BorrowableLaws.{borrowed-exact}
use Rattle.yaml_base.proofs.borrowed.borrowed_bytes.Goals as goal

pub returns-in-Plain-clause-exact : goal.returns-in-Plain-clause-exact
returns-in-Plain-clause-exact c =
    let e : is_some c.matching_end.result ≡ is_borrowable c.args.bytes.now
    (option_copied c.args.repr) c.args.style = search rules in
    borrowed-exact _ _ _ _ e

pub returns-in_ok-_closing-in-SingleQuoted-clause-exact : goal.returns-in_ok-_closing-in-SingleQuoted-clause-exact
returns-in_ok-_closing-in-SingleQuoted-clause-exact c =
    let e : is_some c.matching_end-in-SingleQuoted.result ≡ is_borrowable c.args.bytes.now
    (option_copied c.args.repr) c.args.style = grind (arith, common_steps) in
    borrowed-exact _ _ _ _ e
