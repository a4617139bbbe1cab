-- What is known of the events of a text is known of the list.
use Rattle.std.proofs.Common.{IsSomeAnd, subst, sym}
use Rattle.yaml_parse.proofs.list.parse.Goals as goal
use Rattle.yaml_scan.specs.AllowedText.{IsAllowed, IsOfReader}

pub returns-clause-allowed : goal.returns-clause-allowed
returns-clause-allowed c = λ allowed.
    c.in_ok-events.ensures.allowed (subst IsAllowed (sym c.in_ok-new.ensures.text) allowed)

pub returns-clause-refused : goal.returns-clause-refused
returns-clause-refused c = λ against.
    let text = c.in_ok-new.ensures.text in
    let told =
    c.in_ok-events.ensures.refused
    (λ (allowed : IsAllowed c.in_ok-new.field-0.text). against (subst IsAllowed text allowed)) in (
      told.0,
      subst (λ (t : _). IsSomeAnd c.in_ok-events.field-0-1.fault (λ f. IsOfReader t f.kind f.offset)) text told.1,
    )
