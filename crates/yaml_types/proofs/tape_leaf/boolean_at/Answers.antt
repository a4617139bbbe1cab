use Rattle.std.proofs.Common.{◌≡◌, rules}
use Rattle.std.specs.Str.{IsUtf8}
use Rattle.std.specs.Prelude.{Some}
use Rattle.yaml_base.specs.PlainWords.{boolean_of}
use Rattle.yaml_base.specs.declared.event.ScalarStyle.TheVariants as style
use Rattle.yaml_tape.specs.OnDocs.{bare}
use Rattle.yaml_types.proofs.LeafReads.{bool_gives}
use Rattle.yaml_types.proofs.tape_leaf.boolean_at.Goals as goal

pub returns-clause-gives : goal.returns-clause-gives
returns-clause-gives c =
    let plain : c.in_ok-entry.entry.style ≡ style.Plain = search rules in
    let text = (bare c.args.tape.now c.in_ok-entry.entry).text in
    let utf8 : IsUtf8 text = search rules in
    let says : boolean_of text ≡ Some c.in_ok-found.found = search rules in
    bool_gives c.args.tape.now c.args.place c.in_ok-entry.entry c.in_ok-found.found c.in_ok-entry.ensures.scalar plain
    utf8 says
