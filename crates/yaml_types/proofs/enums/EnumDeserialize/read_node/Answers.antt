use Rattle.std.proofs.Common.{◌≡◌, ◌+◌, refl, string_bytes}
use Rattle.yaml_types.specs.Choices.{BuiltVariant, variant_names}
use Rattle.yaml_types.proofs.NameReads.{bare_means, ok_there}
use Rattle.yaml_types.proofs.enums.EnumDeserialize.read_node.Goals as goal

pub returns : goal.returns
returns g c =
    let declared = ok_there c.names.result
    (λ made. (string_bytes made.0 ≡ g.F.Variants.name) × (variant_names made.1.items ≡ g.F.Variants.names))
    (c.in_ok-names.field-0-0, c.in_ok-names.names) c.names.ensures c.in_ok-names.ensures.value in
    record {
      read = bare_means g.F.Variants.name g.F.Variants.names g.F.Choice.ReadChoice.contents g.F.Choice.ReadChoice.built
          (λ d x. BuiltVariant g.F.Choice.ReadChoice.built d x.choice) c.args.tape.now c.args.place.now
          (c.args.place.now + 1) c.args._depth c.in_ok-number.number c.in_ok-text.text.now c.in_ok-names.names.items
          c.in_ok-choice.choice (record { choice = c.in_ok-choice.choice }) c.in_ok-text.ensures.word
          declared.1 (rw c.deref.ensures.value at c.in_ok-number.ensures) c.in_ok-choice.ensures refl (λ b. b);
    }
