-- What is added first, and what is left to add.
use Rattle.std.proofs.Common.{ap, refl, rules, None, ◌∙◌}
use Rattle.yaml_value.specs.Merge.{with_missing}
use Rattle.yaml_value.specs.View.{entry_pairs, plain_pairs}
use Rattle.yaml_value.proofs.Merges.{memory_alone}
use Rattle.yaml_value.proofs.value.merge.add_missing.Goals as goal

pub loop-entry-preserved : goal.loop-entry-preserved
loop-entry-preserved c =
    let now = plain_pairs c.loop-entry.mapping in
    c.loop-entry.invariant
    ∙ (ap (λ es. with_missing now (entry_pairs es)) c.in-Some.ensures.steps.0
    ∙ ap (λ left. with_missing left.0 (entry_pairs c.next.new.self.rest.items)) c.in_ok-add_entry.ensures)

pub returns-in_err-add_entry : goal.returns-in_err-add_entry
returns-in_err-add_entry c =
    let told = memory_alone _ (with_missing (plain_pairs c.args.mapping.now) (entry_pairs c.args.more.items), None)
    (plain_pairs c.add_entry.new.mapping) c.in_err-add_entry.field-0.0 refl c.in_err-add_entry.ensures in
    search (rules, told)
