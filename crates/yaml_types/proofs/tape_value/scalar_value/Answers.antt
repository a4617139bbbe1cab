use Rattle.std.proofs.Common.{◌≡◌, rules, true}
use Rattle.std.specs.Str.{IsUtf8}
use Rattle.yaml_base.specs.declared.event.ScalarStyle.TheVariants as style
use Rattle.yaml_meaning.specs.ScalarSorts.{is_plain}
use Rattle.yaml_tape.specs.OnDocs.{bare}
use Rattle.yaml_types.proofs.AnyReads.{plain_means, quoted_means}
use Rattle.yaml_types.proofs.tape_value.scalar_value.Goals as goal

pub returns-then-eq-clause-gives : goal.returns-then-eq-clause-gives
returns-then-eq-clause-gives c =
    let e = c.in_ok-entry.entry in
    let scalar = bare c.args.tape.now e in
    let plain : is_plain e.style ≡ true = search rules in
    let utf8 : IsUtf8 scalar.text = search rules in
    let same : c.in_ok-text.text.now ≡ scalar.text = search rules in
    plain_means c.args.tape.now c.args.place e c.in_ok-text.text.now c.plain_value.result
    c.in_ok-entry.ensures.scalar plain utf8 same c.plain_value.ensures

pub returns-else-eq-clause-gives : goal.returns-else-eq-clause-gives
returns-else-eq-clause-gives c =
    let e = c.in_ok-entry.entry in
    let scalar = bare c.args.tape.now e in
    let quoted : e.style ≡ style.Plain → ⊥ = search rules in
    let utf8 : IsUtf8 scalar.text = search rules in
    let same : c.in_ok-text.text.now ≡ scalar.text = search rules in
    quoted_means c.args.tape.now c.args.place e c.in_ok-text.text.now c.string_value.result
    c.in_ok-entry.ensures.scalar quoted utf8 same c.string_value.ensures
