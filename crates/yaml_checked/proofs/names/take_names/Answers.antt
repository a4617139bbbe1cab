-- The names that stood there, and none since.
use Rattle.std.proofs.Common.{◌∙◌, ◌-◌, ap, ap₂, set, sym}
use Rattle.yaml_checked.proofs.NameLaws.{names_there}
use Rattle.yaml_checked.proofs.names.take_names.Goals as goal
use Rattle.yaml_tape.specs.OnTape.{anchor_in, tag_in}
use Rattle.yaml_tape.specs.declared.entry.Names.{Names}

pub returns-clause-names : goal.returns-clause-names
returns-clause-names c =
    ap₂ (λ a g. set c.args.tape.now.names.items (c.args.number - 1) (record { anchor = a; tag = g }))
    c.take-anchor.ensures.after c.take-tag.ensures.after

pub returns-clause-anchor : goal.returns-clause-anchor
returns-clause-anchor c =
    c.take-anchor.ensures.value ∙ ap (λ (n : Names). n.anchor) c.index_mut-kept.ensures.value
    ∙ sym (ap anchor_in (names_there c.args.tape.now.names.items c.args.number c.index_mut-kept.result.now
    c.requires.some c.requires.named))

pub returns-clause-tag : goal.returns-clause-tag
returns-clause-tag c =
    c.take-tag.ensures.value ∙ ap (λ (n : Names). n.tag) c.index_mut-kept.ensures.value
    ∙ sym (ap tag_in (names_there c.args.tape.now.names.items c.args.number c.index_mut-kept.result.now
    c.requires.some c.requires.named))
