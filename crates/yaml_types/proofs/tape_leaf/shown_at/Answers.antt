use Rattle.std.proofs.Common.{◌≡◌, refl, rules, string_bytes, true, false}
use Rattle.std.specs.Str.{IsUtf8}
use Rattle.yaml_base.specs.Borrowable.{is_borrowable}
use Rattle.yaml_shape.specs.PlainData.{text_data}
use Rattle.yaml_tape.specs.OnDocs.{bare}
use Rattle.yaml_types.proofs.LeafReads.{lent_gives, owned_gives}
use Rattle.yaml_types.proofs.tape_leaf.shown_at.Goals as goal

pub returns-in_ok-shown-in-Some-clause-gives : goal.returns-in_ok-shown-in-Some-clause-gives
returns-in_ok-shown-in-Some-clause-gives c =
    let e = c.in_ok-entry.entry in
    let scalar = bare c.args.tape.now e in
    let text = c.in_ok-shown-in-Some.shown.now in
    let utf8 : IsUtf8 text = search rules in
    let lent : is_borrowable scalar.text scalar.source e.style ≡ true = search rules in
    let same : text ≡ scalar.text = search rules in (
      text_data true text,
      lent_gives c.args.tape.now c.args.place e text c.in_ok-entry.ensures.scalar utf8 lent same,
      refl,
    )

pub returns-in_ok-owned-in-None-clause-gives : goal.returns-in_ok-owned-in-None-clause-gives
returns-in_ok-owned-in-None-clause-gives c =
    let e = c.in_ok-entry.entry in
    let scalar = bare c.args.tape.now e in
    let text = string_bytes c.in_ok-owned-in-None.owned in
    let utf8 : IsUtf8 scalar.text = search rules in
    let owned : is_borrowable scalar.text scalar.source e.style ≡ false = search rules in
    let same : text ≡ scalar.text = search rules in (
      text_data false text,
      owned_gives c.args.tape.now c.args.place e text c.in_ok-entry.ensures.scalar utf8 owned same,
      refl,
    )
