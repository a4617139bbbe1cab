-- What the copying of names keeps.
use Rattle.std.specs.Prelude.{◌≡◌, map, take, string_bytes}
use Rattle.yaml_types.proofs.structs.struct_names.Given as goal

-- the names so far
abbrev pub invariant-loop-i : goal.invariant-loop-i
invariant-loop-i l = map string_bytes l.names.items ≡ map (λ text. text.now) (take l.i l.fields)
