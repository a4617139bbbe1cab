use Rattle.std.proofs.Common.{◌≡◌, rules}
use Rattle.yaml_base.specs.declared.event.ScalarStyle.TheVariants as style
use Rattle.yaml_shape.specs.IntegerView.{integer_type_of}
use Rattle.yaml_types.proofs.LeafReads.{signed_gives}
use Rattle.yaml_types.proofs.tape_leaf.signed_at.Goals as goal

pub returns-clause-gives : goal.returns-clause-gives
returns-clause-gives c =
    let plain : c.in_ok-entry.entry.style ≡ style.Plain = search rules in
    signed_gives c.args.tape.now c.args.place c.in_ok-entry.entry (integer_type_of c.args.integer)
    c.small_signed_of.result c.in_ok-entry.ensures.scalar plain (rw c.text_of.ensures at c.small_signed_of.ensures.value)
