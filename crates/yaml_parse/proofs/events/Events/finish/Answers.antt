-- A text that the reader refuses is not allowed.
use Rattle.std.proofs.Common.{Result, Ok, Err, IfOk, subst, sym}
use Rattle.yaml_parse.proofs.TextLaws.{not_allowed}
use Rattle.yaml_parse.proofs.events.Events.finish.Goals as goal
use Rattle.yaml_parse.specs.PlainReading.{PlainReading}
use Rattle.yaml_parse.specs.Sources.{IsSourceOf}
use Rattle.yaml_scan.specs.AllowedText.{IsAllowed}

never : {T E : Type 0} (P : T → Type 0) (Q : Type 0) (r : Result T E) → (Q → ⊥) → Q → IfOk r P
never P Q (Ok x) against q = absurd (against q)
never P Q (Err e) against q = tt

pub returns-in-Unread-clause-allowed : goal.returns-in-Unread-clause-allowed
returns-in-Unread-clause-allowed c =
    let text = c.self.inside.text.now in
    let fault = c.in-Unread.fault in
    let found = subst (IsSourceOf text) c.in-Unread.is c.self.invariant.0 in
    never _ (IsAllowed c.args.self.text) c.unread.result
    (λ all. not_allowed text fault.kind fault.offset found
    (subst (λ (v : PlainReading). IsAllowed v.text) (sym c.self.view_is) all))
