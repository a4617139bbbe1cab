-- There are so many elements so far, and what is read from here on goes on them.
use Rattle.std.specs.Prelude.{◌≡◌, length}
use Rattle.yaml_types.specs.RowMeans.{ElementsFront}
use Rattle.yaml_types.proofs.impls.array.read_elements.Given as goal

abbrev pub invariant-loop : goal.invariant-loop
invariant-loop g l =
    (length l.items.items ≡ l.counter)
    × ElementsFront g.T.Deserialize.start g.T.Deserialize.built l.tape l.fn.place l.place l.depth l.items.items
