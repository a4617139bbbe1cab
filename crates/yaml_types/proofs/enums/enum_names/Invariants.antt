-- What the copying of names keeps.
use Rattle.std.specs.Prelude.{◌≡◌, map, take}
use Rattle.yaml_types.specs.Choices.{variant_names}
use Rattle.yaml_types.proofs.enums.enum_names.Given as goal

-- the variants so far
abbrev pub invariant-loop-i : goal.invariant-loop-i
invariant-loop-i l =
    variant_names l.names.items ≡ map (λ v. (v.0.now, map (λ text. text.now) v.1.now)) (take l.i l.variants)
