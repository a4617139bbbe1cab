-- The place of the key says what a new value there makes of the pairs.
use Rattle.std.proofs.Common.{ap, sym, ◌∙◌, subst, refl, Some, None}
use Rattle.yaml_tree.specs.Entries.{new_entry}
use Rattle.yaml_tree.specs.View.{tree_of, entry_pairs}
use Rattle.yaml_tree.specs.Index.{IsIndexed}
use Rattle.yaml_tree.proofs.Indexed.{indexed-with_value}
use Rattle.yaml_tree.proofs.Lookups.{HoldsAt, holds_at_found}
use Rattle.yaml_tree.proofs.mapping.put.Goals as goal

held : (c : goal.After-replace_value) → HoldsAt (tree_of c.args.key) c.args.entries.now.items c.in-Some.i
held c = holds_at_found _ _ _ (Some c.in-Some.i) c.as_slice.ensures.value c.in-Some.ensures.place

pub returns-in-Some-clause-ok : goal.returns-in-Some-clause-ok
returns-in-Some-clause-ok c =
    let d = new_entry c.args.key c.args.value in
    ap entry_pairs (c.replace_value.ensures.after d) ∙ sym ((held c d).1 c.args.value)

pub returns-in-Some-clause-replaced : goal.returns-in-Some-clause-replaced
returns-in-Some-clause-replaced c =
    let d = new_entry c.args.key c.args.value in
    ap (λ v. Some (tree_of v)) (c.replace_value.ensures.answer d) ∙ sym (held c d).0

pub returns-in-Some-clause-still_indexed : goal.returns-in-Some-clause-still_indexed
returns-in-Some-clause-still_indexed c =
    let d = new_entry c.args.key c.args.value in
    subst IsIndexed (sym (c.replace_value.ensures.after d))
    (indexed-with_value c.args.entries.now.items c.in-Some.i d c.args.value c.requires.indexed)

pub returns-in-Ok-clause-ok : goal.returns-in-Ok-clause-ok
returns-in-Ok-clause-ok c =
    let held_not = holds_at_found _ _ _ None c.as_slice.ensures.value c.in-None.ensures.place in
    c.in-Ok.ensures.ok ∙ sym (held_not.1 c.args.key c.args.value refl)

pub returns-in-Ok-clause-replaced : goal.returns-in-Ok-clause-replaced
returns-in-Ok-clause-replaced c =
    sym (holds_at_found _ _ _ None c.as_slice.ensures.value c.in-None.ensures.place).0

pub returns-in-Err-clause-only_new : goal.returns-in-Err-clause-only_new
returns-in-Err-clause-only_new c =
    (holds_at_found _ _ _ None c.as_slice.ensures.value c.in-None.ensures.place).0
