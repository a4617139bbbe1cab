-- The names are those of the entry.
use Rattle.std.proofs.Common.{subst, sym}
use Rattle.std.proofs.lemmas.Result.{err_from_is_err_and}
use Rattle.yaml_parse.specs.PlainText.{SaysItsSource}
use Rattle.yaml_tape.specs.OnTape.{anchor_in, names_at}
use Rattle.yaml_checked.proofs.rest.Rest.copied_scalar.Goals as goal
use Rattle.yaml_checked.specs.inner.OnWay.{scalar_by}

pub returns-in_err-found-clause-untrue : goal.returns-in_err-found-clause-untrue
returns-in_err-found-clause-untrue c =
    let p = err_from_is_err_and c.from_residual-in_err-found.result c.from_residual-in_err-found.ensures.1 in
    rw (p.1, p.2) (λ other allowed says.
    let t = c.args.self.now.tape in
    let e = c.args.entry in
    let names = c.in_ok-names.names in
    c.in_err-found.ensures.untrue other allowed
    (subst (λ a. SaysItsSource (scalar_by t a names.tag e)) (sym c.in_ok-names.ensures.anchor)
    (subst (λ g. SaysItsSource (scalar_by t (anchor_in (names_at t.names.items e.names)) g e))
    (sym c.in_ok-names.ensures.tag) says)))
