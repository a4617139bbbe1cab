-- The characters so far stand there.
use Rattle.std.proofs.Common.{◌≡◌, ◌++◌, flat_map, string_bytes}
use Rattle.yaml_tool.specs.Characters.{bare_character}
use Rattle.yaml_tool.proofs.characters.push_bare.Given as goal

abbrev pub invariant-loop-c : goal.invariant-loop-c
invariant-loop-c l = string_bytes l.out ≡ string_bytes l.fn.out ++ flat_map bare_character l.yielded
