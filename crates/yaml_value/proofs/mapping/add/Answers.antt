-- The index changes no pair, and has all of them.
use Rattle.std.proofs.Common.{◌≡◌, ap, subst, sym, ◌∙◌}
use Rattle.yaml_value.specs.Distinct.{keys_distinct}
use Rattle.yaml_value.specs.Index.{IsSound}
use Rattle.yaml_value.specs.PlainValue.{with_last}
use Rattle.yaml_value.specs.View.{are_pairs_distinct-entry_pairs, entry_pairs, plain}
use Rattle.yaml_value.proofs.Indexed.{distinct-with_last, indexed-pushed}
use Rattle.yaml_value.proofs.mapping.add.Goals as goal

added : (c : goal.After-index_last)
    → entry_pairs c.index_last.new.entries.items
    ≡ with_last (entry_pairs c.args.entries.now.items) (plain c.args.key) (plain c.args.value)
added c =
    c.index_last.ensures.pairs
    ∙ (c.in_ok-push_entry.ensures.ok
    ∙ ap (λ p. with_last (entry_pairs c.args.entries.now.items) p.0 p.1) c.new_entry.ensures)

pub returns-clause-ok : goal.returns-clause-ok
returns-clause-ok c = added c

pub returns-clause-sound : goal.returns-clause-sound
returns-clause-sound c = λ sound new.
    let es = c.args.entries.now.items in (
      c.index_last.ensures.indexed (λ n len.
          indexed-pushed n es c.push_entry.new.entries.items c.new_entry.result
          c.in_ok-push_entry.ensures.last sound.0 len),
      ap keys_distinct (added c)
          ∙ distinct-with_last (plain c.args.key) (plain c.args.value) (entry_pairs es) sound.1
          (are_pairs_distinct-entry_pairs es) new,
    )

pub returns-in_err-push_entry-clause-sound : goal.returns-in_err-push_entry-clause-sound
returns-in_err-push_entry-clause-sound c = λ sound new. subst IsSound (sym c.in_err-push_entry.ensures.same) sound
