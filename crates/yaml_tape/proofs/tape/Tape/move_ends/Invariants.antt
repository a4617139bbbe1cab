use Rattle.std.proofs.Common.{◌≡◌, length}
use Rattle.yaml_tape.specs.Pushes.{Stays}
use Rattle.yaml_tape.proofs.tape.Tape.move_ends.Given as goal

abbrev pub invariant-entries : goal.invariant-entries
invariant-entries l =
    (Stays l.fn.self l.self) × (length l.self.entries.items ≡ length l.fn.self.entries.items)
