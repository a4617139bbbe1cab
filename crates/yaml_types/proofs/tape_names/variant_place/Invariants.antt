-- No variant so far has the name.
use Rattle.std.specs.Prelude.{◌≡◌, drop, map, string_bytes}
use Rattle.yaml_types.specs.TapeNames.{place_in}
use Rattle.yaml_types.proofs.NameReads.{place_behind}
use Rattle.yaml_types.proofs.tape_names.variant_place.Given as goal

abbrev pub invariant-loop-place : goal.invariant-loop-place
invariant-loop-place l =
    place_in (map (λ n. string_bytes n.0) l.names) l.text
    ≡ place_behind l.place (place_in (map (λ n. string_bytes n.0) (drop l.place l.names)) l.text)
