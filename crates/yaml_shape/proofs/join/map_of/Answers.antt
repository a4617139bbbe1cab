-- Both schemas keep their data.
use Rattle.std.proofs.Common.{◌+◌, [], ◌∷◌, ◌++◌, length, sym, subst}
use Rattle.yaml_shape.specs.Kept.{KeepsShapes}
use Rattle.yaml_shape.specs.PlainShape.{map_shape}
use Rattle.yaml_shape.specs.Validity.{IsValidSchema}
use Rattle.yaml_shape.proofs.JoinCode.{answered}
use Rattle.yaml_shape.proofs.Stands.{keeps_left, keeps_right}
use Rattle.yaml_shape.proofs.join.map_of.Goals as goal

pub returns-clause-keys_kept : goal.returns-clause-keys_kept
returns-clause-keys_kept c =
    answered c.add.result c.in_ok-both.both (map_shape c.args.key.0 (c.len-behind.result + c.args.value.0))
    (KeepsShapes 0 c.args.keys)
    (subst (λ t. KeepsShapes 0 c.args.keys (t ++ map_shape c.args.key.0 (c.len-behind.result + c.args.value.0) ∷ []))
    (sym c.in_ok-both.ensures.ok)
    (keeps_left c.args.keys c.args.values _ (subst IsValidSchema c.keys.view_is c.keys.invariant)))
    c.add.ensures.ok

pub returns-clause-values_kept : goal.returns-clause-values_kept
returns-clause-values_kept c =
    answered c.add.result c.in_ok-both.both (map_shape c.args.key.0 (c.len-behind.result + c.args.value.0))
    (KeepsShapes (length c.args.keys) c.args.values)
    (subst (λ t. KeepsShapes (length c.args.keys) c.args.values
    (t ++ map_shape c.args.key.0 (c.len-behind.result + c.args.value.0) ∷ [])) (sym c.in_ok-both.ensures.ok)
    (keeps_right c.args.keys c.args.values _ c.is_valid.ensures))
    c.add.ensures.ok
