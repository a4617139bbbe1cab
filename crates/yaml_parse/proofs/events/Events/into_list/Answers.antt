-- All events that were made wait, where none was handed out.
use Rattle.std.proofs.Common.{rules, ◌≡◌, IfSome, IsSomeAnd, subst, sym}
use Rattle.yaml_parse.proofs.TextLaws.{not_allowed, told_reader}
use Rattle.yaml_parse.proofs.events.Events.into_list.Goals as goal
use Rattle.yaml_parse.specs.Faults.{IsToldBy}
use Rattle.yaml_parse.specs.Handed.{made_so_far}
use Rattle.yaml_parse.specs.Marks.{MarksAscend}
use Rattle.yaml_parse.specs.PlainReading.{PlainReading}
use Rattle.yaml_parse.specs.Sources.{IsSourceOf}
use Rattle.yaml_scan.specs.AllowedText.{IsAllowed, IsOfReader}

pub returns-in_ok-ending-in-Text-clause-marks : goal.returns-in_ok-ending-in-Text-clause-marks
returns-in_ok-ending-in-Text-clause-marks c = λ none.
    let parser = c.into_parts-fault.result.1 in
    let all : made_so_far parser ≡ c.into_waiting.result.items = Prim.search rules in
    let text : parser.text.now ≡ c.args.self.text = Prim.search rules in
    subst (MarksAscend c.args.self.text) all
    (subst (λ (t : _). MarksAscend t (made_so_far parser)) text c.into_waiting.ensures.marks)

pub returns-in_ok-unread-in-Unread-clause-allowed : goal.returns-in_ok-unread-in-Unread-clause-allowed
returns-in_ok-unread-in-Unread-clause-allowed c = λ allowed.
    let text = c.self.inside.text.now in
    let fault = c.in-Unread.fault in
    let found = subst (IsSourceOf text) c.in-Unread.is c.self.invariant.0 in
    absurd (not_allowed text fault.kind fault.offset found
    (subst (λ (v : PlainReading). IsAllowed v.text) (sym c.self.view_is) allowed))

pub returns-in_ok-unread-in-Unread-clause-refused : goal.returns-in_ok-unread-in-Unread-clause-refused
returns-in_ok-unread-in-Unread-clause-refused c = λ against.
    let text = c.self.inside.text.now in
    let told = c.in_ok-unread-in-Unread.ensures in
    let fault = c.in_ok-unread-in-Unread.field-0.fault in
    let found = subst (IsSourceOf text) c.in-Unread.is c.self.invariant.0 in (
      c.new.ensures.items,
      subst (λ (v : PlainReading). IsSomeAnd fault (λ f. IsOfReader v.text f.kind f.offset)) c.self.view_is
          (told_reader text c.in-Unread.fault fault told.faulted
          (subst (λ (f : _). IfSome fault (IsToldBy f)) c.in-Unread.fault-is told.told) found),
    )
