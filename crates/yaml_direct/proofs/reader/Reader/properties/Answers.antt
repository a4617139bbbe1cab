-- One, and another.
use Rattle.std.proofs.Common.{◌≡◌, None, Some, subst, sym, true}
use Rattle.yaml_direct.specs.Held.{names_of}
use Rattle.yaml_direct.proofs.NameLaws.{both_names, no_first_name}
use Rattle.yaml_direct.proofs.reader.Reader.properties.Goals as goal
use Rattle.yaml_grammar.specs.Bytes.{is_text}
use Rattle.yaml_grammar.specs.Names.{one_name}

pub returns-then-place-clause-missed : goal.returns-then-place-clause-missed
returns-then-place-clause-missed c =
    λ h unnamed none fed. no_first_name c.args.self.now.text.now c.args.flow c.args.from (names_of c.args.self.now) unnamed
    (c.property-place.ensures.missed h c.if-place.true fed)

pub returns-clause-found : goal.returns-clause-found
returns-clause-found c =
    let text = c.args.self.now.text.now in
    let first = c.property-place.ensures in
    let mid = names_of c.property-place.new.self in
    let end = c.property-place.result in
    let same = first.kept.0 in
    λ h unnamed some.
    let h' = subst (λ t. is_text t ≡ true) (sym same) h in
    both_names text c.args.flow c.args.from end (names_of c.args.self.now) mid
    (Some (names_of c.property.new.self, c.property.result)) unnamed
    (first.found h c.if-place.false)
    (subst (λ t. one_name t c.args.flow (mid, end) ≡ Some (names_of c.property.new.self, c.property.result)) same (c.property.ensures.found h' some))

pub returns-clause-missed : goal.returns-clause-missed
returns-clause-missed c =
    let text = c.args.self.now.text.now in
    let first = c.property-place.ensures in
    let mid = names_of c.property-place.new.self in
    let end = c.property-place.result in
    let same = first.kept.0 in
    λ h unnamed none fed.
    let h' = subst (λ t. is_text t ≡ true) (sym same) h in
    both_names text c.args.flow c.args.from end (names_of c.args.self.now) mid None unnamed
    (first.found h c.if-place.false)
    (subst (λ t. one_name t c.args.flow (mid, end) ≡ None) same (c.property.ensures.missed h' none fed))
