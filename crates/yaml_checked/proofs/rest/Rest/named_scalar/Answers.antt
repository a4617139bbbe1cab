-- The names are those of the entry, and the others stay.
use Rattle.std.proofs.Common.{◌≡◌, refl, subst, sym, true}
use Rattle.std.proofs.lemmas.Result.{err_from_is_err_and}
use Rattle.yaml_grammar.specs.Bytes.{is_text}
use Rattle.yaml_parse.specs.PlainText.{SaysItsSource}
use Rattle.yaml_tape.specs.OnTape.{anchor_in, names_at}
use Rattle.yaml_checked.proofs.NameLaws.{scalar_as_far, taken_as_far}
use Rattle.yaml_checked.proofs.rest.Rest.named_scalar.Goals as goal
use Rattle.yaml_checked.specs.inner.OnWay.{scalar_by}

pub returns-in_err-found-clause-untrue : goal.returns-in_err-found-clause-untrue
returns-in_err-found-clause-untrue c =
    let p = err_from_is_err_and c.from_residual.result c.from_residual.ensures.1 in
    rw (p.1, p.2) (λ other allowed says.
    let t = c.args.self.now.tape in
    let u = c.take_names-names.new.tape in
    let e = c.args.entry in
    let names = c.take_names-names.result in
    c.in_err-found.ensures.untrue other
    (subst (λ x. is_text x ≡ true) (sym c.take_names-names.ensures.text) allowed)
    (subst SaysItsSource
    (sym (scalar_as_far t u names.anchor names.tag e c.take_names-names.ensures.text c.take_names-names.ensures.arena))
    (subst (λ a. SaysItsSource (scalar_by t a names.tag e)) (sym c.take_names-names.ensures.anchor)
    (subst (λ g. SaysItsSource (scalar_by t (anchor_in (names_at t.names.items e.names)) g e))
    (sym c.take_names-names.ensures.tag) says))))

pub returns-in_err-found-clause-stays : goal.returns-in_err-found-clause-stays
returns-in_err-found-clause-stays c =
    let taken = c.take_names-names.ensures in
    taken_as_far c.args.self.now _ c.args.entry.names c.requires.some c.requires.behind taken.text taken.entries taken.arena
    taken.names refl refl

pub returns-clause-stays : goal.returns-clause-stays
returns-clause-stays c =
    let taken = c.take_names-names.ensures in
    taken_as_far c.args.self.now _ c.args.entry.names c.requires.some c.requires.behind taken.text taken.entries taken.arena
    taken.names refl refl
