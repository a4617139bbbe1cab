use Rattle.std.proofs.Common.{◌≡◌, ◌+◌, ◌==◌, ◌||◌, ◌&&◌, ap, arith, sym, true, ◌∙◌}
use Rattle.yaml_direct.specs.Bytes as code
use Rattle.yaml_direct.proofs.BeginsLaws.{dash_open, dash_shut, marks_open, no_indicator, no_mark, other_begins}
use Rattle.yaml_direct.proofs.plain.begins_plain.Goals as goal
use Rattle.yaml_direct.proofs.plain.begins_plain.Goals.{then-flow, else-flow}
use Rattle.yaml_grammar.specs.Bytes.{at}

pub returns-after-flow-clause-same : goal.returns-after-flow-clause-same
returns-after-flow-clause-same c =
    let text = c.args.text.now in
    let bracket : c.if-flow.result ≡ (c.args.flow && code.is_bracket (at text (c.args.place + 1)))
    = elim c.if-flow.branch [
      | then-flow w ↦ w.result-is ∙ w.is_bracket.ensures ∙ ap code.is_bracket w.at-then-flow.ensures.value
          ∙ sym (ap (λ x. x && code.is_bracket (at text (c.args.place + 1))) w.if-flow.true)
      | else-flow w ↦
          let none = ap (λ x. x && code.is_bracket (at text (c.args.place + 1))) w.if-flow.false in
          grind (arith, w.result-is, w.if-flow, none)
    ] in
    λ h parts. dash_open text c.args.flow c.args.place c.if-flow.result h
    (sym c.at.ensures.value ∙ c.in-45.is) parts (sym c.is_gap.ensures ∙ c.if-not-is_gap.true) bracket

pub returns-else-not-is_gap-clause-same : goal.returns-else-not-is_gap-clause-same
returns-else-not-is_gap-clause-same c =
    λ h parts. dash_shut c.args.text.now c.args.flow c.args.place c.is_gap.result h
    (sym c.at.ensures.value ∙ c.in-45.is) parts c.is_gap.ensures c.if-not-is_gap.false

pub returns-then-not-flow-clause-same : goal.returns-then-not-flow-clause-same
returns-then-not-flow-clause-same c =
    let mark : (at c.args.text.now c.args.place == 63 || at c.args.text.now c.args.place == 58) ≡ true =
    grind (arith, c.in-63.is, c.at.ensures.value) in
    λ h parts. marks_open c.args.text.now c.args.flow c.args.place c.is_gap-then-not-flow.result h mark
    c.if-not-flow.true parts c.is_gap-then-not-flow.ensures

pub returns-in_default-clause-same : goal.returns-in_default-clause-same
returns-in_default-clause-same c =
    let byte = c.at.result in
    let n44 : byte ≡ 44 → ⊥ = grind (arith, c.in_default-2) in
    let n91 : byte ≡ 91 → ⊥ = grind (arith, c.in_default-2) in
    let n93 : byte ≡ 93 → ⊥ = grind (arith, c.in_default-2) in
    let n123 : byte ≡ 123 → ⊥ = grind (arith, c.in_default-2) in
    let n125 : byte ≡ 125 → ⊥ = grind (arith, c.in_default-2) in
    let n35 : byte ≡ 35 → ⊥ = grind (arith, c.in_default-2) in
    let n38 : byte ≡ 38 → ⊥ = grind (arith, c.in_default-2) in
    let n42 : byte ≡ 42 → ⊥ = grind (arith, c.in_default-2) in
    let n33 : byte ≡ 33 → ⊥ = grind (arith, c.in_default-2) in
    let n124 : byte ≡ 124 → ⊥ = grind (arith, c.in_default-2) in
    let n62 : byte ≡ 62 → ⊥ = grind (arith, c.in_default-2) in
    let n39 : byte ≡ 39 → ⊥ = grind (arith, c.in_default-2) in
    let n34 : byte ≡ 34 → ⊥ = grind (arith, c.in_default-2) in
    let n37 : byte ≡ 37 → ⊥ = grind (arith, c.in_default-2) in
    let n64 : byte ≡ 64 → ⊥ = grind (arith, c.in_default-2) in
    let n96 : byte ≡ 96 → ⊥ = grind (arith, c.in_default-2) in
    let n45 : byte ≡ 45 → ⊥ = grind (arith, c.in_default-2) in
    let n63 : byte ≡ 63 → ⊥ = grind (arith, c.in_default-2) in
    let n58 : byte ≡ 58 → ⊥ = grind (arith, c.in_default-2) in
    λ h parts. other_begins c.args.text.now c.args.flow c.args.place byte h c.at.ensures.value parts
    (no_indicator byte n44 n91 n93 n123 n125 n35 n38 n42 n33 n124 n62 n39 n34 n37 n64 n96)
    (no_mark byte n45 n63 n58)
