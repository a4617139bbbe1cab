-- What stands before the first slash leads first.
use Rattle.std.proofs.Common.{◌≡◌, ◌∙◌, None, Some, ap, arith, option_map, subst, sym}
use Rattle.std.proofs.lemmas.Str.Pattern.{split_parts}
use Rattle.yaml_value.specs.Path.{LeadsAlong, parts_of}
use Rattle.yaml_value.specs.View.{plain}
use Rattle.yaml_value.proofs.Paths.{parts-cut, parts-one, same-end}
use Rattle.yaml_value.proofs.value.path.+along.Goals as goal

pub returns-in_err-step-in-Some : goal.returns-in_err-step-in-Some
returns-in_err-step-in-Some t c =
    let cut = split_parts 47 c.args.path.now (Some (c.in-Some.part, c.in-Some.behind)) c.in-Some.ensures.cases (omega
    arith) in
    let parts = ap parts_of cut.0 ∙ parts-cut c.in-Some.part.now c.in-Some.behind.now cut.1 in
    let found = option_map (λ v. plain v.now) c.from_residual.result in
    let none : found ≡ None = search in
    subst (λ ps. LeadsAlong ps (plain c.args.from.now) found) (sym parts)
    (None, c.in_err-step-in-Some.ensures, none)

pub returns-in_ok-step-in-Some : goal.returns-in_ok-step-in-Some
returns-in_ok-step-in-Some t c =
    let cut = split_parts 47 c.args.path.now (Some (c.in-Some.part, c.in-Some.behind)) c.in-Some.ensures.cases (omega
    arith) in
    let parts = ap parts_of cut.0 ∙ parts-cut c.in-Some.part.now c.in-Some.behind.now cut.1 in
    let v = plain c.args.from.now in
    let w = plain c.in_ok-step-in-Some.field-0.now in
    let leads = c.in_ok-step-in-Some.ensures in
    subst (λ ps. LeadsAlong ps v (option_map (λ y. plain y.now) c.along.result)) (sym parts)
    (Some w, leads, c.along.ensures)

pub returns-in-None : goal.returns-in-None
returns-in-None t c =
    let free = split_parts 47 c.args.path.now None c.in-None.ensures.cases (omega arith) in
    let found = option_map (λ v. plain v.now) c.step-in-None.result in
    subst (λ ps. LeadsAlong ps (plain c.args.from.now) found) (sym (parts-one c.args.path.now free))
    (found, c.step-in-None.ensures, same-end found)
