-- Behind `---`, or bare.
use Rattle.std.proofs.Common.{ap, drop, false, length, refl, subst, sym, ◌+◌, ◌<◌, ◌≡◌, ◌≤◌, ◌∙◌}
use Rattle.yaml_direct.specs.Standing.{behind_dashes, without_dashes}
use Rattle.yaml_direct.proofs.BracketReads.{of_allowed}
use Rattle.yaml_direct.proofs.DocumentLeaves.{both, gap_behind, no_bare_root}
use Rattle.yaml_direct.proofs.RootLaws.{begins_over}
use Rattle.yaml_direct.proofs.StandSteps.{amid_dashes, goes_on_here, no_triple_here, triple_here}
use Rattle.yaml_direct.proofs.reader.Reader.content_at.Goals as goal
use Rattle.yaml_direct.proofs.reader.Reader.content_at.Goals.{
  else-start-self-via-then-start-self+else-begins_document,
  else-start-self-via-else-start-self,
  else-bare-via-then-bare+else-start-place,
  else-bare-via-else-bare,
}
use Rattle.yaml_grammar.specs.Bytes.{is_triple}
use Rattle.yaml_grammar.specs.Documents.{begins_document, ends_document}

pub returns-then-begins_document-clause-found : goal.returns-then-begins_document-clause-found
returns-then-begins_document-clause-found c = λ text of none counted inside content some.
    let old = c.args.self.now in
    let i = c.args.start in
    let b = c.begins_document.result in
    let e = c.begins_document.ensures in
    let same = e.same (of_allowed text old of) in
    behind_dashes
    (triple_here text 45 old i b of.same counted c.if-start-self.true
    (λ is. subst (λ t. i + 3 ≤ length t) of.same (c.if-begins_document.ensures.within refl))
    (subst (λ t. b ≡ is_triple 45 (drop i t)) of.same same) c.if-begins_document.true)
    (c.marked_content.ensures.found text of none
    (amid_dashes old i c.requires.0 (sym same ∙ c.if-begins_document.true)) some)

pub returns-then-start-place-clause-found : goal.returns-then-start-place-clause-found
returns-then-start-place-clause-found c = λ text of none counted inside content some.
    let old = c.args.self.now in
    let i = c.args.start in
    let here : i ≡ c.args.place = c.if-start-place.true in
    let begins : begins_document text i ≡ false =
    no_triple_here text 45 old i (is_triple 45 (drop i text)) refl of.same counted c.requires.0 refl
    (λ there. elim c.else-start-self.branch [
      | else-start-self-via-then-start-self+else-begins_document w ↦ ap (λ t. is_triple 45 (drop i t)) (sym of.same)
          ∙ (sym (w.begins_document.ensures.same (of_allowed text old of)) ∙ w.if-begins_document.false)
      | else-start-self-via-else-start-self w ↦ absurd (w.if-start-self.false there)
    ]) in
    without_dashes c.if-bare.true here begins
    (c.node.ensures.found text of none
    (goes_on_here text i (subst (λ k. k < length text) (sym here) inside) begins (ap (ends_document text) here ∙ content)) (λ _. counted) some)

-- no root behind `---`
pub returns-then-begins_document-clause-missed : goal.returns-then-begins_document-clause-missed
returns-then-begins_document-clause-missed c = λ text of none counted token lost fed.
    let old = c.args.self.now in
    let i = c.args.start in
    let b = c.begins_document.result in
    let same = c.begins_document.ensures.same (of_allowed text old of) in
    let dashes = sym same ∙ c.if-begins_document.true in
    let begins = triple_here text 45 old i b of.same counted c.if-start-self.true
    (λ is. subst (λ t. i + 3 ≤ length t) of.same (c.if-begins_document.ensures.within refl))
    (subst (λ t. b ≡ is_triple 45 (drop i t)) of.same same) c.if-begins_document.true in
    record {
      behind_dashes = λ _. c.marked_content.ensures.missed text of none (amid_dashes old i c.requires.0 dashes)
          (gap_behind text i (ap (λ t. is_triple 45 (drop i t)) (sym of.same) ∙ dashes)) lost fed;
      without_dashes = λ is here inside. absurd (both (begins_over text i begins) inside);
    }

-- no node in place of `---`
pub returns-then-start-place-clause-missed : goal.returns-then-start-place-clause-missed
returns-then-start-place-clause-missed c = λ text of none counted token lost fed.
    let old = c.args.self.now in
    let i = c.args.start in
    let here : i ≡ c.args.place = c.if-start-place.true in
    let begins : begins_document text i ≡ false =
    no_triple_here text 45 old i (is_triple 45 (drop i text)) refl of.same counted c.requires.0 refl
    (λ there. elim c.else-start-self.branch [
      | else-start-self-via-then-start-self+else-begins_document w ↦ ap (λ t. is_triple 45 (drop i t)) (sym of.same)
          ∙ (sym (w.begins_document.ensures.same (of_allowed text old of)) ∙ w.if-begins_document.false)
      | else-start-self-via-else-start-self w ↦ absurd (w.if-start-self.false there)
    ]) in
    record {
      behind_dashes = λ is. absurd (both is begins);
      without_dashes = λ _ _ inside. no_bare_root text i
          (c.node.ensures.missed text of none inside (token here) (λ _. counted) lost fed);
    }

-- neither `---` stands here, nor may it be wanting
pub returns-clause-missed : goal.returns-clause-missed
returns-clause-missed c = λ text of none counted token lost fed.
    let old = c.args.self.now in
    let i = c.args.start in
    let begins : begins_document text i ≡ false =
    no_triple_here text 45 old i (is_triple 45 (drop i text)) refl of.same counted c.requires.0 refl
    (λ there. elim c.else-start-self.branch [
      | else-start-self-via-then-start-self+else-begins_document w ↦ ap (λ t. is_triple 45 (drop i t)) (sym of.same)
          ∙ (sym (w.begins_document.ensures.same (of_allowed text old of)) ∙ w.if-begins_document.false)
      | else-start-self-via-else-start-self w ↦ absurd (w.if-start-self.false there)
    ]) in
    record {
      behind_dashes = λ is. absurd (both is begins);
      without_dashes = λ is here inside. elim c.else-bare.branch [
        | else-bare-via-then-bare+else-start-place w ↦ absurd (w.if-start-place.false here)
        | else-bare-via-else-bare w ↦ absurd (both is w.if-bare.false)
      ];
    }
