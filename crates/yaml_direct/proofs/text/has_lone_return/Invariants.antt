-- A carriage return stands in each place that is left.
use Rattle.std.proofs.Common.{◌<◌, All, length}
use Rattle.memchr.specs.Find.{Passes, is_byte}
use Rattle.yaml_direct.proofs.text.has_lone_return.Given as goal

abbrev pub invariant-returns : goal.invariant-returns
invariant-returns l =
    (goal.iterator-returns).can_next l.place-iterator × (goal.iterator-returns).is_finite l.place-iterator
    × All (λ k. (k < length l.text) × Passes (is_byte 13) l.text k) l.place-iterator
