-- What the scalar was found to be tells the value.
use Rattle.std.proofs.Common.{sym, ap, ◌∙◌, subst}
use Rattle.yaml_base.specs.DocEventView.{doc_scalar_of}
use Rattle.yaml_tree.specs.View.{tree_of}
use Rattle.yaml_meaning.specs.ReadingGives.{Yields, lift}
use Rattle.yaml_meaning.specs.ScalarAny.{any_found}
use Rattle.yaml_meaning.specs.ScalarSorts.{sort_of}
use Rattle.yaml_meaning.specs.Steps.{◌>>=◌}
use Rattle.yaml_scalar.proofs.FoundLaws.{any_found_in}
use Rattle.yaml_scalar.proofs.LiftLaws.{lifted, lifted_fails}
use Rattle.yaml_scalar.proofs.any_value.any_scalar.Goals as goal

pub returns-in-Ok : goal.returns-in-Ok
returns-in-Ok c =
    let sort = sort_of c.args.taken (doc_scalar_of c.args.scalar.now) in
    subst (Yields tree_of c.any_found.result)
    (sym (any_found_in sort c.args.scalar.now.value.items ∙ ap (λ r. r >>= any_found) (lifted _ c.in-Ok.ensures)))
    c.any_found.ensures

pub returns-in-Err : goal.returns-in-Err
returns-in-Err c = λ m.
    let sort = sort_of c.args.taken (doc_scalar_of c.args.scalar.now) in
    ap lift (any_found_in sort c.args.scalar.now.value.items) ∙ lifted_fails _ any_found _ (c.in-Err.ensures m)
