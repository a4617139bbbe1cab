use Rattle.std.proofs.Common.{◌≡◌, rules}
use Rattle.yaml_base.specs.declared.event.ScalarStyle.TheVariants as style
use Rattle.yaml_shape.specs.IntegerView.{integer_type_of}
use Rattle.yaml_types.proofs.LeafReads.{unsigned_gives}
use Rattle.yaml_types.proofs.tape_leaf.unsigned_at.Goals as goal

pub returns-clause-gives : goal.returns-clause-gives
returns-clause-gives c =
    let plain : c.in_ok-entry.entry.style ≡ style.Plain = search rules in
    unsigned_gives c.args.tape.now c.args.place c.in_ok-entry.entry (integer_type_of c.args.integer) c.in_ok-found.found
    c.in_ok-entry.ensures.scalar plain (rw c.text_of.ensures at c.in_ok-found.ensures.value)
