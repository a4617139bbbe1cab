-- The most events that a reading goes over.
use Rattle.std.proofs.Common.{◌≡◌, ◌≤◌, ℕ, ◌*◌, ◌+◌, length, refl, subst}
use Rattle.serde_yaml.proofs.laws.a_reading_goes_over_so_many_events.Goals as goal

pub returns-clause-most : goal.returns-clause-most
returns-clause-most c = λ limits document new answered leaves. leaves.most refl

pub returns-clause-ten : goal.returns-clause-ten
returns-clause-ten c = λ document new answered ten leaves.
    subst (λ (n : ℕ). new.steps ≤ 2 * n * (100 * n + 1)) ten (leaves.most refl)
