-- What the scalar was found to be tells the fault.
use Rattle.std.proofs.Common.{sym, ap, ◌∙◌}
use Rattle.yaml_base.specs.DocEventView.{doc_scalar_of}
use Rattle.yaml_meaning.specs.ReadFault.{refused}
use Rattle.yaml_meaning.specs.ScalarSorts.{sort_of}
use Rattle.yaml_scalar.specs.Expectations.{expected_of, fault_by}
use Rattle.yaml_scalar.proofs.FoundLaws.{fault_found}
use Rattle.yaml_scalar.proofs.LiftLaws.{lifted, lifted_fault}
use Rattle.yaml_scalar.proofs.mismatch.found_scalar_for.Goals as goal

pub returns-in-Ok : goal.returns-in-Ok
returns-in-Ok c = λ m.
    let expected = expected_of c.args.expected.now in
    let sort = sort_of c.args.taken (doc_scalar_of c.args.scalar.now) in
    c.found_other.ensures m
    ∙ ap refused (sym (fault_found sort c.args.scalar.now.value.items expected
    ∙ ap (fault_by expected) (lifted _ c.in-Ok.ensures)))

pub returns-in-Err : goal.returns-in-Err
returns-in-Err c = λ m.
    let expected = expected_of c.args.expected.now in
    let sort = sort_of c.args.taken (doc_scalar_of c.args.scalar.now) in
    let found = lifted_fault _ _ (c.in-Err.ensures m) in
    sym found.2
    ∙ ap refused (sym (fault_found sort c.args.scalar.now.value.items expected ∙ ap (fault_by expected) found.1))
