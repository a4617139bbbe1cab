-- Where an entry begins, and where no content stands.
use Rattle.std.proofs.Common.{ap, arith, false, not, refl, subst, sym, ◌&&◌, ◌+◌, ◌==◌, ◌∙◌, ◌≡◌, ◌≢◌}
use Rattle.std.proofs.lemmas.Bool.{eq-eqb, eqb-true, false≢true, not-false}
use Rattle.std.specs.Prelude.{None}
use Rattle.yaml_direct.specs.Leaves.{IsFound, is_open}
use Rattle.yaml_direct.specs.LeftInBrackets.{IsLeftOpen}
use Rattle.yaml_direct.specs.Places.{no_place}
use Rattle.yaml_direct.proofs.BracketReads.{of_allowed}
use Rattle.yaml_direct.proofs.BracketSteps.{not_open}
use Rattle.yaml_direct.proofs.ColumnSteps.{over_parts, test_here}
use Rattle.yaml_direct.proofs.EntryBegins.{keyed_no_content, loose_leaf, mark_no_content, names_no_content}
use Rattle.yaml_direct.proofs.EntryBegins.{no_entry, no_leaf_here, open_leaf, token_stays}
use Rattle.yaml_direct.proofs.KeyReads.{ends_key_in, found_key}
use Rattle.yaml_direct.proofs.NameLines.{begins_names, first_byte}
use Rattle.yaml_direct.proofs.ReaderLaws.{short_text}
use Rattle.yaml_direct.proofs.reader.Reader.begins_entry.Goals as goal
use Rattle.yaml_direct.proofs.reader.Reader.begins_entry.Goals.{then-is_mark-via-else-is_mark+then-matches}
use Rattle.yaml_direct.proofs.reader.Reader.begins_entry.Goals.{then-is_mark-via-then-is_mark}
use Rattle.yaml_grammar.specs.Bytes.{at, is_mark, parts_documents}
use Rattle.yaml_grammar.specs.Gaps.{breaks, next}
use Rattle.yaml_grammar.specs.Leaves.{leaf_at}
use Rattle.yaml_grammar.specs.Plain.{as_key}

pub returns-then-is_mark-clause-content : goal.returns-then-is_mark-clause-content
returns-then-is_mark-clause-content c = λ text d of over yes.
    let r = c.args.self.now in
    let i = c.args.place in
    elim c.then-is_mark.branch [
      | then-is_mark-via-then-is_mark w ↦
          mark_no_content text d i (test_here (λ t. is_mark t 63 i) text r c.is_mark.result of.same
          (c.is_mark.ensures.same (of_allowed text r of) (omega arith)) w.if-is_mark.true)
      | then-is_mark-via-else-is_mark+then-matches w ↦
          names_no_content text d i (first_byte (at text i) (ap (λ t. begins_names (at t i)) (sym of.same)
          ∙ grind (arith, w.if-matches.true, w.at.ensures.value)))
    ]

pub returns-in_default-find_leaf-clause-entry : goal.returns-in_default-find_leaf-clause-entry
returns-in_default-find_leaf-clause-entry c = λ text d of over token shut no.
    let r = c.args.self.now in
    let i = c.args.place in
    let h = of_allowed text r of in
    let parts = ap (λ t. parts_documents t i) of.same ∙ over_parts text i over in
    let mark : is_mark text 63 i ≡ false = test_here (λ t. is_mark t 63 i) text r c.is_mark.result of.same
    (c.is_mark.ensures.same h (omega arith)) c.if-is_mark.false in
    let anchor : c.at.result ≡ 38 → ⊥ = grind (arith, c.if-matches.false) in
    let tag : c.at.result ≡ 33 → ⊥ = grind (arith, c.if-matches.false) in
    let byte : c.at.result ≡ at text i = c.at.ensures.value ∙ ap (λ t. at t i) of.same in
    let s = token_stays text i token (λ e. anchor (byte ∙ e)) (λ e. tag (byte ∙ e)) in
    let none = subst (λ t. leaf_at t as_key i ≡ None) of.same
    (c.find_leaf.ensures.missed h parts c.in_default-find_leaf.is as_key refl) in
    no_entry text d i mark (no_leaf_here text d i s shut none)

pub returns-in-Open-clause-entry : goal.returns-in-Open-clause-entry
returns-in-Open-clause-entry c = λ text d of over token shut no.
    let r = c.args.self.now in
    let i = c.args.place in
    let leaf = c.in-Some.leaf in
    let h = of_allowed text r of in
    let parts = ap (λ t. parts_documents t i) of.same ∙ over_parts text i over in
    let mark : is_mark text 63 i ≡ false = test_here (λ t. is_mark t 63 i) text r c.is_mark.result of.same
    (c.is_mark.ensures.same h (omega arith)) c.if-is_mark.false in
    let anchor : c.at.result ≡ 38 → ⊥ = grind (arith, c.if-matches.false) in
    let tag : c.at.result ≡ 33 → ⊥ = grind (arith, c.if-matches.false) in
    let byte : c.at.result ≡ at text i = c.at.ensures.value ∙ ap (λ t. at t i) of.same in
    let s = token_stays text i token (λ e. anchor (byte ∙ e)) (λ e. tag (byte ∙ e)) in
    let found = subst (λ t. IsFound t false i leaf) of.same (c.in-Some.ensures.found h parts) in
    no_entry text d i mark (open_leaf text d i leaf s shut found
    (λ quote e. subst (λ t. IsLeftOpen t quote (i + 1) leaf.stop) of.same
    (c.in-Some.ensures.opened quote (ap (λ t. at t i) of.same ∙ e) (ap is_open c.in-Open.is)))
    (ap is_open c.in-Open.is))

pub returns : goal.returns
returns c =
    let r = c.args.self.now in
    let i = c.args.place in
    let leaf = c.in-Some.leaf in
    let part = c.in-Some.ensures.part in
    let closed = not_open leaf.kind (λ q e. c.in_default-kind.not-Open q e) in
    let colon = c.colon_behind.result in
    record {
      content = λ text d of over yes.
          let h = of_allowed text r of in
          let parts = ap (λ t. parts_documents t i) of.same ∙ over_parts text i over in
          let found = subst (λ t. IsFound t false i leaf) of.same (c.in-Some.ensures.found h parts) in
          let l = found_key text i leaf part.1.0 part.1.1.0 found closed in
          let there : colon ≢ no_place = λ e. false≢true (sym (ap not (eq-eqb colon no_place e)) ∙ yes) in
          keyed_no_content text d i colon leaf l (omega (arith, part.1.0, part.1.1.0))
          (ends_key_in text r leaf.end colon of.same (c.colon_behind.ensures.found h there));
      entry = λ text d of over token shut no.
          let h = of_allowed text r of in
          let parts = ap (λ t. parts_documents t i) of.same ∙ over_parts text i over in
          let mark : is_mark text 63 i ≡ false = test_here (λ t. is_mark t 63 i) text r c.is_mark.result of.same
          (c.is_mark.ensures.same h (omega arith)) c.if-is_mark.false in
          let anchor : c.at.result ≡ 38 → ⊥ = grind (arith, c.if-matches.false) in
          let tag : c.at.result ≡ 33 → ⊥ = grind (arith, c.if-matches.false) in
          let byte : c.at.result ≡ at text i = c.at.ensures.value ∙ ap (λ t. at t i) of.same in
          let s = token_stays text i token (λ e. anchor (byte ∙ e)) (λ e. tag (byte ∙ e)) in
          let found = subst (λ t. IsFound t false i leaf) of.same (c.in-Some.ensures.found h parts) in
          let l = found_key text i leaf part.1.0 part.1.1.0 found closed in
          let none : colon ≡ no_place = eqb-true colon no_place (not-false (colon == no_place) no) in
          let loose = subst (λ t. (not (breaks t leaf.end) && is_mark t 58 (next t leaf.end)) ≡ false) of.same
          (c.colon_behind.ensures.missed h (short_text r) none) in
          no_entry text d i mark (loose_leaf text d i leaf s shut l (omega (arith, part.0, part.1.0, part.1.1.0))
          (omega (arith, part.1.0, part.1.1.0)) loose);
    }
