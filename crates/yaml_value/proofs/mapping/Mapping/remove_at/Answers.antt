-- The entries are the pairs, before and after.
use Rattle.std.proofs.Common.{ap, subst, sym, ◌∙◌}
use Rattle.std.specs.Prelude.{option_map}
use Rattle.yaml_value.specs.Find.{IsTakenOut, value_at, without_key}
use Rattle.yaml_value.specs.View.{plain, plain_pairs}
use Rattle.yaml_value.proofs.Views.{pairs_of-view, taken_out, view-entries}
use Rattle.yaml_value.proofs.mapping.Mapping.remove_at.Goals as goal

pub invariant_of-self : goal.invariant_of-self
invariant_of-self c = c.remove_key.ensures.sound

pub returns-clause-after : goal.returns-clause-after
returns-clause-after c =
    let k = plain c.args.key.now in
    view-entries c.remove_key.new.entries.items c.remove_key.ensures.sound.1
    ∙ (c.remove_key.ensures.after
    ∙ ap (without_key k) (pairs_of-view c.self.inside.entries.items c.args.self.now c.self.view_is c.self.invariant.1))

pub returns-clause-answer : goal.returns-clause-answer
returns-clause-answer c =
    c.remove_key.ensures.answer
    ∙ ap (value_at (plain c.args.key.now)) (pairs_of-view c.self.inside.entries.items c.args.self.now c.self.view_is
    c.self.invariant.1)

pub returns-clause-taken : goal.returns-clause-taken
returns-clause-taken c =
    let k = plain c.args.key.now in
    let old = plain_pairs c.args.self.now in
    let seen = pairs_of-view c.self.inside.entries.items c.args.self.now c.self.view_is c.self.invariant.1 in
    let after = view-entries c.remove_key.new.entries.items c.remove_key.ensures.sound.1
    ∙ (c.remove_key.ensures.after
    ∙ ap (without_key k) seen) in
    subst (λ qs. IsTakenOut k old qs (option_map plain c.remove_key.result)) (sym after)
    (taken_out k old (option_map plain c.remove_key.result) (c.remove_key.ensures.answer ∙ ap (value_at k) seen))
