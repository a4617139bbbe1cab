-- Plain text, or another key.
use Rattle.std.proofs.Common.{◌≡◌, ◌∙◌, ap, false, sym, true}
use Rattle.yaml_direct.proofs.BracketReads.{of_allowed}
use Rattle.yaml_direct.proofs.KeyReads.{over_parts}
use Rattle.yaml_direct.proofs.reader.Reader.key.Goals as goal
use Rattle.yaml_grammar.specs.Bytes.{parts_documents}
use Rattle.yaml_grammar.specs.Plain.{begins_plain}

pub returns-then-begins_plain-clause-found : goal.returns-then-begins_plain-clause-found
returns-then-begins_plain-clause-found c = λ text of none early here some.
    let old = c.args.self.now in
    let place = c.args.place in
    let whole = ap (λ t. parts_documents t place) of.same ∙ over_parts text place here in
    let begins : begins_plain text false place ≡ true = ap (λ t. begins_plain t false place) (sym of.same)
    ∙ (sym (c.begins_plain.ensures.same (of_allowed text old of) whole) ∙ c.if-begins_plain.true) in
    c.plain_key.ensures.found text c.args.depth of none early begins some

pub returns-then-begins_plain-clause-missed : goal.returns-then-begins_plain-clause-missed
returns-then-begins_plain-clause-missed c = λ text of none early here space failed fed.
    let old = c.args.self.now in
    let place = c.args.place in
    let whole = ap (λ t. parts_documents t place) of.same ∙ over_parts text place here in
    let begins : begins_plain text false place ≡ true = ap (λ t. begins_plain t false place) (sym of.same)
    ∙ (sym (c.begins_plain.ensures.same (of_allowed text old of) whole) ∙ c.if-begins_plain.true) in
    c.plain_key.ensures.missed text c.args.depth of none early begins failed fed
