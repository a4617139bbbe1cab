-- An entry without names is that of a scalar without names.
use Rattle.std.proofs.Common.{subst}
use Rattle.std.proofs.lemmas.Result.{err_from_is_err_and}
use Rattle.yaml_parse.specs.PlainText.{SaysItsSource}
use Rattle.yaml_checked.proofs.WayLaws.{without_names}
use Rattle.yaml_checked.proofs.rest.Rest.scalar.Goals as goal

pub returns-in_err-found-clause-untrue : goal.returns-in_err-found-clause-untrue
returns-in_err-found-clause-untrue c =
    let p = err_from_is_err_and c.from_residual.result c.from_residual.ensures.1 in
    rw (p.1, p.2) (λ other allowed says.
    c.in_err-found.ensures.untrue other allowed
    (subst SaysItsSource (without_names c.args.self.now.tape c.args.entry c.if-entry-eq0.true) says))
