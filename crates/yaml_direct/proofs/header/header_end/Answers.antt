-- A line ends there, or not.
use Rattle.std.proofs.Common.{◌≡◌, ◌⊎◌, ◌∙◌, arith, inl, inr, subst}
use Rattle.std.proofs.lemmas.Bool.{cases_eq}
use Rattle.yaml_direct.proofs.HeaderLaws.{remark_found, remark_missed}
use Rattle.yaml_direct.proofs.header.header_end.Goals as goal

pub returns-in-10-clause-found : goal.returns-in-10-clause-found
returns-in-10-clause-found c =
    let byte = c.at.result in
    let end = c.remark_end-place.ensures in
    let ends : (byte ≡ 10) ⊎ (byte ≡ 0) = elim (cases_eq byte 10) [
      | inl feed ↦ inl feed
      | inr line ↦ elim (cases_eq byte 0) [
        | inl nothing ↦ inr nothing
        | inr some ↦ absurd (grind (arith, c.in-10.is, line, some))
      ]
    ] in
    λ h some. remark_found c.args.text.now c.args.from c.remark_end-place.result c.feed_at-feed.result h end.forward
    end.within end.read c.feed_at-feed.ensures.here (subst (λ x. (x ≡ 10) ⊎ (x ≡ 0)) c.at.ensures.value ends)

pub returns-in_default-clause-missed : goal.returns-in_default-clause-missed
returns-in_default-clause-missed c =
    let end = c.remark_end-place.ensures in
    let line : c.at.result ≡ 10 → ⊥ = grind (arith, c.in_default) in
    let some : c.at.result ≡ 0 → ⊥ = grind (arith, c.in_default) in
    λ h short none. remark_missed c.args.text.now c.args.from c.remark_end-place.result c.feed_at-feed.result h
    end.forward end.within end.read c.feed_at-feed.ensures.here (λ e. line (c.at.ensures.value ∙ e))
    (λ e. some (c.at.ensures.value ∙ e))
