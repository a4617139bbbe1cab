-- By how many bytes the character has.
use Rattle.std.proofs.Common.{◌≡◌, ◌++◌, ◌∷◌, [], ℕ, List, refl, ap, ap₂, ◌∙◌, append_assoc, arith}
use Rattle.yaml_direct.proofs.CodeLaws.{four_bytes, three_bytes, two_bytes}
use Rattle.yaml_direct.proofs.escape.push_code.Goals as goal
use Rattle.yaml_direct.proofs.escape.push_code.Goals.{then-code-le2047, else-code-le2047+then-code-le65535}
use Rattle.yaml_direct.proofs.escape.push_code.Goals.{else-code-le2047+else-code-le65535}

-- one byte behind others
behind : (old front new : List ℕ) (b c : ℕ) → front ≡ old → new ≡ front ++ b ∷ [] → b ≡ c → new ≡ old ++ c ∷ []
behind old front new b c f h e = h ∙ ap₂ (λ xs x. xs ++ x ∷ []) f e

joined : (old front new more : List ℕ) (b c : ℕ) → front ≡ old ++ more → new ≡ front ++ b ∷ [] → b ≡ c
    → new ≡ old ++ (more ++ c ∷ [])
joined old front new more b c f h e = h ∙ ap₂ (λ xs x. xs ++ x ∷ []) f e ∙ append_assoc old more (c ∷ [])

pub returns : goal.returns
returns c =
    λ le.
    let old = c.args.out.now.items in
    let some = c.reserve-2.ensures.items in
    let last = c.push_reserved-2.ensures.items in
    let six = c.continuation-2.ensures in
    elim c.if-code-le2047.branch [
      | then-code-le2047 w ↦ joined old _ _ _ _ _
          (ap (λ v. v.items) w.out-is
          ∙ behind old _ _ _ _ some w.push_reserved-then-code-le2047.ensures.items refl) last six
          ∙ ap (λ x. old ++ x) (two_bytes c.args.code (omega arith) (omega arith))
      | else-code-le2047+then-code-le65535 w ↦ joined old _ _ _ _ _
          (ap (λ v. v.items) w.out-is ∙ joined old _ _ _ _ _
          (behind old _ _ _ _ some w.push_reserved-then-code-le65535.ensures.items refl)
          w.push_reserved-then-code-le65535-2.ensures.items w.continuation.ensures) last six
          ∙ ap (λ x. old ++ x) (three_bytes c.args.code (omega arith) (omega arith))
      | else-code-le2047+else-code-le65535 w ↦ joined old _ _ _ _ _
          (ap (λ v. v.items) w.out-is ∙ joined old _ _ _ _ _
          (joined old _ _ _ _ _
          (behind old _ _ _ _ some w.push_reserved-else-code-le65535.ensures.items refl)
          w.push_reserved-else-code-le65535-2.ensures.items w.continuation-else-code-le65535.ensures)
          w.push_reserved-else-code-le65535-3.ensures.items w.continuation-else-code-le65535-2.ensures) last six
          ∙ ap (λ x. old ++ x) (four_bytes c.args.code (omega arith) le)
    ]
