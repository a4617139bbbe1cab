-- A collection or a leaf is a key.
use Rattle.std.proofs.Common.{◌≡◌, ◌&&◌, ◌∙◌, ap, arith, false, inl, inr, not, refl, subst, sym, true}
use Rattle.std.proofs.lemmas.Bool.{cases_Bool}
use Rattle.std.specs.Prelude.{None, ◌+◌}
use Rattle.yaml_direct.specs.Added.{HasNoLeaf}
use Rattle.yaml_direct.specs.Held.{names_of}
use Rattle.yaml_direct.specs.InBrackets.{opens}
use Rattle.yaml_direct.specs.Keys.{begins_content}
use Rattle.yaml_direct.specs.Leaves.{IsFound, IsLeaf, is_open}
use Rattle.yaml_direct.specs.LeftInBrackets.{IsLeftOpen}
use Rattle.yaml_direct.proofs.AddedLeaves.{none_leaf}
use Rattle.yaml_direct.proofs.BracketBytes.{none_else}
use Rattle.yaml_direct.proofs.BracketReads.{of_allowed}
use Rattle.yaml_direct.proofs.BracketSteps.{not_open}
use Rattle.yaml_direct.proofs.KeyFails.{behind_content, blanks_no_key, content_place}
use Rattle.yaml_direct.proofs.KeyMisses.{ends_far, ends_no_colon}
use Rattle.yaml_direct.proofs.KeyFails.{found_no_key, leaves_key, missed_no_key, no_bracket, open_no_key}
use Rattle.yaml_direct.proofs.KeyReads.{ends_key_in, found_content, found_key, found_in_line, key_at, leaf_key_read}
use Rattle.yaml_direct.proofs.KeyReads.{opens_content}
use Rattle.yaml_direct.proofs.ReaderLaws.{short_text}
use Rattle.yaml_direct.proofs.reader.Reader.content_key.Goals as goal
use Rattle.yaml_grammar.specs.Bytes.{at, is_mark, parts_documents}
use Rattle.yaml_grammar.specs.Gaps.{breaks, next}
use Rattle.yaml_grammar.specs.Leaves.{leaf_at}
use Rattle.yaml_grammar.specs.Plain.{as_key}

pub returns-then-matches-clause-found : goal.returns-then-matches-clause-found
returns-then-matches-clause-found c = λ text of begins b whole some.
    let place = c.args.place in
    let opened : opens (at text place) ≡ true = ap (λ t. opens (at t place)) (sym of.same)
    ∙ grind (arith, c.if-matches.true, c.at.ensures.value) in
    c.brackets_key.ensures.found text of begins (b (opens_content text place opened)) opened some

pub returns-clause-found : goal.returns-clause-found
returns-clause-found c = λ text of begins b whole some.
    let old = c.args.self.now in
    let new = c.push_leaf-place.new.self in
    let place = c.args.place in
    let leaf = c.in-Some.leaf in
    let part = c.in-Some.ensures.part in
    let colon = c.colon_behind-place.result in
    let h = of_allowed text old of in
    let found = subst (λ t. IsFound t false place leaf) of.same
    (c.in-Some.ensures.found h (ap (λ t. parts_documents t place) of.same ∙ whole)) in
    let closed = not_open leaf.kind (λ q e. c.in_default-kind.not-Open q e) in
    let l = found_key text place leaf part.1.0 part.1.1.0 found closed in
    let behind = b (found_content text false place leaf found) in
    let a = c.push_leaf-place.ensures.found as_key place (subst (λ t. IsLeaf t as_key place leaf) (sym of.same) l)
    behind.early c.if-place-2.false in
    let ends = ends_key_in text old leaf.end colon of.same (c.colon_behind-place.ensures.found h c.if-place.false) in
    key_at text old new c.args.depth c.args.from colon colon begins refl
    (leaf_key_read text old new c.args.depth place leaf.end colon of behind a ends
    (omega (arith, part.0, part.1.0, part.1.1.0)) (omega (arith, begins, c.requires.part.0))
    (found_in_line text old place leaf of found closed (λ q. c.in-Some.ensures.line h q closed))
    (omega (arith, begins, c.if-colon-from.false)))

pub returns-then-matches-clause-missed : goal.returns-then-matches-clause-missed
returns-then-matches-clause-missed c = λ text of begins early b whole failed fed.
    let old = c.args.self.now in
    let place = c.args.place in
    let opened : opens (at text place) ≡ true = ap (λ t. opens (at t place)) (sym of.same)
    ∙ grind (arith, c.if-matches.true, c.at.ensures.value) in
    c.brackets_key.ensures.missed text of begins
    (behind_content text old place b early (opens_content text place opened)) opened failed fed

pub returns-in_default-find_leaf-clause-missed : goal.returns-in_default-find_leaf-clause-missed
returns-in_default-find_leaf-clause-missed c = λ text of begins early b whole failed fed.
    let old = c.args.self.now in
    let place = c.args.place in
    let square : c.at.result ≡ 91 → ⊥ = grind (arith, c.if-matches.false) in
    let curly : c.at.result ≡ 123 → ⊥ = grind (arith, c.if-matches.false) in
    let shut = ap (λ t. opens (at t place)) (sym of.same)
    ∙ (ap opens (sym c.at.ensures.value) ∙ no_bracket c.at.result square curly) in
    let d = c.args.depth in
    let none = subst (λ t. leaf_at t as_key place ≡ None) of.same
    (c.find_leaf.ensures.missed (of_allowed text old of) (ap (λ t. parts_documents t place) of.same ∙ whole)
    (none_else c.find_leaf.result (λ leaf is. c.in_default-find_leaf.not-Some leaf is)) as_key refl) in
    leaves_key text d old c.args.from begins (elim (cases_Bool (begins_content (at text place))) [
      | inr other ↦ blanks_no_key text d old place b other
      | inl some ↦ missed_no_key text d old place (content_place text old place b some)
          (none_leaf text as_key (names_of old) place none) shut
    ])

pub returns-in-Open-clause-missed : goal.returns-in-Open-clause-missed
returns-in-Open-clause-missed c = λ text of begins early b whole failed fed.
    let old = c.args.self.now in
    let place = c.args.place in
    let square : c.at.result ≡ 91 → ⊥ = grind (arith, c.if-matches.false) in
    let curly : c.at.result ≡ 123 → ⊥ = grind (arith, c.if-matches.false) in
    let shut = ap (λ t. opens (at t place)) (sym of.same)
    ∙ (ap opens (sym c.at.ensures.value) ∙ no_bracket c.at.result square curly) in
    let leaf = c.in-Some.leaf in
    let d = c.args.depth in
    let h = of_allowed text old of in
    let found = subst (λ t. IsFound t false place leaf) of.same
    (c.in-Some.ensures.found h (ap (λ t. parts_documents t place) of.same ∙ whole)) in
    leaves_key text d old c.args.from begins
    (open_no_key text d old place leaf (content_place text old place b (found_content text false place leaf found))
    (omega (arith, begins, c.requires.part.0)) found
    (λ quote byte. subst (λ t. IsLeftOpen t quote (place + 1) leaf.stop) of.same
    (c.in-Some.ensures.opened quote (ap (λ t. at t place) of.same ∙ byte) (ap is_open c.in-Open.is)))
    (ap is_open c.in-Open.is) shut)

pub returns-then-place-clause-missed : goal.returns-then-place-clause-missed
returns-then-place-clause-missed c = λ text of begins early b whole failed fed.
    let old = c.args.self.now in
    let place = c.args.place in
    let square : c.at.result ≡ 91 → ⊥ = grind (arith, c.if-matches.false) in
    let curly : c.at.result ≡ 123 → ⊥ = grind (arith, c.if-matches.false) in
    let shut = ap (λ t. opens (at t place)) (sym of.same)
    ∙ (ap opens (sym c.at.ensures.value) ∙ no_bracket c.at.result square curly) in
    let leaf = c.in-Some.leaf in
    let part = c.in-Some.ensures.part in
    let d = c.args.depth in
    let h = of_allowed text old of in
    let found = subst (λ t. IsFound t false place leaf) of.same
    (c.in-Some.ensures.found h (ap (λ t. parts_documents t place) of.same ∙ whole)) in
    let closed = not_open leaf.kind (λ q e. c.in_default-kind.not-Open q e) in
    let l = found_key text place leaf part.1.0 part.1.1.0 found closed in
    let colon = subst (λ t. (not (breaks t leaf.end) && is_mark t 58 (next t leaf.end)) ≡ false) of.same
    (c.colon_behind-place.ensures.missed h (short_text old) c.if-place.true) in
    leaves_key text d old c.args.from begins
    (found_no_key text d old place leaf (content_place text old place b (found_content text false place leaf found)) l
    (omega (arith, part.1.0, part.1.1.0)) shut
    (ends_no_colon text old.start.index leaf.end (omega (arith, begins, c.requires.part.0, part.0, part.1.0, part.1.1.0))
    colon))

pub returns-then-colon-from-clause-missed : goal.returns-then-colon-from-clause-missed
returns-then-colon-from-clause-missed c = λ text of begins early b whole failed fed.
    let old = c.args.self.now in
    let place = c.args.place in
    let square : c.at.result ≡ 91 → ⊥ = grind (arith, c.if-matches.false) in
    let curly : c.at.result ≡ 123 → ⊥ = grind (arith, c.if-matches.false) in
    let shut = ap (λ t. opens (at t place)) (sym of.same)
    ∙ (ap opens (sym c.at.ensures.value) ∙ no_bracket c.at.result square curly) in
    let leaf = c.in-Some.leaf in
    let part = c.in-Some.ensures.part in
    let d = c.args.depth in
    let colon = c.colon_behind-place.result in
    let h = of_allowed text old of in
    let found = subst (λ t. IsFound t false place leaf) of.same
    (c.in-Some.ensures.found h (ap (λ t. parts_documents t place) of.same ∙ whole)) in
    let closed = not_open leaf.kind (λ q e. c.in_default-kind.not-Open q e) in
    let l = found_key text place leaf part.1.0 part.1.1.0 found closed in
    let ends = ends_key_in text old leaf.end colon of.same (c.colon_behind-place.ensures.found h c.if-place.false) in
    leaves_key text d old c.args.from begins
    (found_no_key text d old place leaf (content_place text old place b (found_content text false place leaf found)) l
    (omega (arith, part.1.0, part.1.1.0)) shut
    (ends_far text old.start.index leaf.end colon ends.there (omega (arith, begins, c.if-colon-from.true))))

pub returns-then-place-2-clause-missed : goal.returns-then-place-2-clause-missed
returns-then-place-2-clause-missed c = λ text of begins early b whole failed fed.
    let old = c.args.self.now in
    let place = c.args.place in
    let square : c.at.result ≡ 91 → ⊥ = grind (arith, c.if-matches.false) in
    let curly : c.at.result ≡ 123 → ⊥ = grind (arith, c.if-matches.false) in
    let shut = ap (λ t. opens (at t place)) (sym of.same)
    ∙ (ap opens (sym c.at.ensures.value) ∙ no_bracket c.at.result square curly) in
    let leaf = c.in-Some.leaf in
    let part = c.in-Some.ensures.part in
    let d = c.args.depth in
    let h = of_allowed text old of in
    let found = subst (λ t. IsFound t false place leaf) of.same
    (c.in-Some.ensures.found h (ap (λ t. parts_documents t place) of.same ∙ whole)) in
    let closed = not_open leaf.kind (λ q e. c.in_default-kind.not-Open q e) in
    let l = found_key text place leaf part.1.0 part.1.1.0 found closed in
    leaves_key text d old c.args.from begins
    (missed_no_key text d old place (content_place text old place b (found_content text false place leaf found))
    (subst (λ t. HasNoLeaf t as_key (names_of old) place) of.same
    (c.push_leaf-place.ensures.missed as_key place (subst (λ t. IsLeaf t as_key place leaf) (sym of.same) l)
    c.if-place-2.true fed)) shut)
