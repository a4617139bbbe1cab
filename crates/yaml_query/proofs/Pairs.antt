-- The value at a key, pair by pair.
use Rattle.std.proofs.Common.{◌≡◌, true, false, ap, ◌∙◌, if◌then◌else◌, None, Some}
use Rattle.yaml_value.specs.Find.{value_at}
use Rattle.yaml_value.specs.PlainEqual.{plain_eq, value_where}
use Rattle.yaml_value.specs.PlainValue.{PlainValue, PlainPairs, no_pairs, pair}

pub at_found : (k a v : PlainValue) (ps qs rest : PlainPairs) → value_at k ps ≡ value_at k qs → qs ≡ pair a v rest
    → plain_eq k a ≡ true → value_at k ps ≡ Some v
at_found k a v ps qs rest e f g =
    e ∙ (ap (value_where (plain_eq k)) f ∙ ap (λ b. if b then Some v else value_where (plain_eq k) rest) g)

pub at_passed : (k a v : PlainValue) (ps qs rest : PlainPairs) → value_at k ps ≡ value_at k qs → qs ≡ pair a v rest
    → plain_eq k a ≡ false → value_at k ps ≡ value_at k rest
at_passed k a v ps qs rest e f g =
    e ∙ (ap (value_where (plain_eq k)) f ∙ ap (λ b. if b then Some v else value_where (plain_eq k) rest) g)

pub at_none : (k : PlainValue) (ps qs : PlainPairs) → value_at k ps ≡ value_at k qs → qs ≡ no_pairs
    → value_at k ps ≡ None
at_none k ps qs e f = e ∙ ap (value_where (plain_eq k)) f
