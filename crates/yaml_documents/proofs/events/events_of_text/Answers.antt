-- The events that were handed out are all of the text, and where documents stand in it, theirs.
use Rattle.std.proofs.Common.{◌≡◌, false, subst, sym, true}
use Rattle.std.proofs.Common.{rules}
use Rattle.yaml_documents.proofs.TextLaws.{parsed_so, read_of}
use Rattle.yaml_documents.proofs.events.events_of_text.Goals as goal
use Rattle.yaml_documents.specs.TextEvents.{AreParsed, AreTheirs}

pub returns-clause-parsed : goal.returns-clause-parsed
returns-clause-parsed c =
    let events = c.all_events.new.events in
    let fault = c.in_ok-fault.fault in
    let same : events.text ≡ c.args.text.now = Prim.search rules in
    let over : events.over ≡ true = Prim.search rules in
    let here : events.left ≡ false = Prim.search rules in
    let all : c.in_ok-all.all.items ≡ events.given = Prim.search rules in
    let known = c.has_events.ensures in
    let ended = c.in_ok-fault.ensures in
    subst (λ es. AreParsed c.args.text.now es fault) (sym all)
    (parsed_so
    (read_of same (ended.taken over here) known.sources known.plain known.marks known.places ended.allowed ended.none
    ended.refused)
    (subst (λ t. AreTheirs t events.given fault) same (ended.theirs over here)))
