-- A step more.
use Rattle.std.proofs.Common.{◌≡◌, ℕ, zero, suc, ◌+◌, ◌==◌, ◌<◌, List, [], ◌∷◌, ◌++◌, false, true, length, take, get_or}
use Rattle.std.proofs.Common.{refl, sym, ap, ◌∙◌, append_assoc, arith, length-take}
use Rattle.std.proofs.lemmas.Bool.{ne_eqb}
use Rattle.std.proofs.lemmas.List.{append-nil, take_more}
use Rattle.yaml_query.specs.Steps.{PlainStep, plain_step, plain_steps}
use Rattle.yaml_query.specs.StepsText.{step_text, steps_from, steps_text}
use Rattle.yaml_query.specs.declared.step.Step.{Step}

pub plain_steps_push : (ss : List Step) (s : Step) → plain_steps (ss ++ s ∷ []) ≡ plain_steps ss ++ plain_step s ∷ []
plain_steps_push [] s = refl
plain_steps_push (t ∷ ss) s = ap (λ xs. plain_step t ∷ xs) (plain_steps_push ss s)

behind_push : (ss : List PlainStep) (s : PlainStep)
    → steps_from false (ss ++ s ∷ []) ≡ steps_from false ss ++ step_text false s
behind_push [] s = append-nil (step_text false s)
behind_push (t ∷ ss) s =
    ap (λ text. step_text false t ++ text) (behind_push ss s)
    ∙ sym (append_assoc (step_text false t) (steps_from false ss) (step_text false s))

first_push : (ss : List Step) (s : Step) (n : ℕ) → length ss ≡ n
    → steps_from true (plain_steps (ss ++ s ∷ []))
    ≡ steps_from true (plain_steps ss) ++ step_text (n == 0) (plain_step s)
first_push [] s zero e = append-nil (step_text true (plain_step s))
first_push [] s (suc n) e = absurd (omega (arith, e))
first_push (t ∷ ss) s zero e = absurd (omega (arith, e))
first_push (t ∷ ss) s (suc n) e =
    rw (ne_eqb (suc n) 0 (omega arith))
    (ap (λ qs. step_text true (plain_step t) ++ steps_from false qs) (plain_steps_push ss s)
    ∙ (ap (λ text. step_text true (plain_step t) ++ text) (behind_push (plain_steps ss) (plain_step s))
    ∙ sym (append_assoc (step_text true (plain_step t)) (steps_from false (plain_steps ss))
    (step_text false (plain_step s)))))

-- the text of the first steps, and of one more
pub steps_more : (ss : List Step) (i : ℕ) (s : Step) → i < length ss → s ≡ get_or ss i s
    → steps_from true (plain_steps (take (i + 1) ss))
    ≡ steps_from true (plain_steps (take i ss)) ++ step_text (i == 0) (plain_step s)
steps_more ss i s lt is =
    ap (λ qs. steps_from true (plain_steps qs)) (take_more ss i s lt ∙ ap (λ q. take i ss ++ q ∷ []) (sym is))
    ∙ first_push (take i ss) s i (omega (arith, length-take i ss))

pub some_steps : (ss : List Step) → (length ss == 0) ≡ false
    → steps_from true (plain_steps ss) ≡ steps_text (plain_steps ss)
some_steps [] e = absurd (cc)
some_steps (s ∷ ss) e = refl
