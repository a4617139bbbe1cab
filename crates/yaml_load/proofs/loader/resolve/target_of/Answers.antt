-- The alias belongs right behind the last anchor in front of it.
use Rattle.yaml_load.proofs.Words.{◌∙◌, sym, arith}
use Rattle.yaml_load.proofs.AnchorSearch.{found_in_front, none_in_front, other_in_front}
use Rattle.yaml_load.proofs.loader.resolve.target_of.Goals as goal

pub returns-in_err-checked_sub : goal.returns-in_err-checked_sub
returns-in_err-checked_sub c =
    c.from_residual.ensures
    ∙ sym (none_in_front c.args.alias.now c.args.named.now c.requires.order c.args.at c.requires.at
    c.in_err-checked_sub.ensures)

pub returns-then-eq : goal.returns-then-eq
returns-then-eq c =
    let lookup = c.in_ok-anchor.ensures.lookup in
    sym (found_in_front c.args.alias.now c.args.named.now c.requires.order c.args.at c.requires.at _ _
    (omega (arith, c.in_ok-checked_sub.ensures)) lookup.0 lookup.1 (sym c.eq.ensures ∙ c.if-eq.true))

pub returns-else-eq : goal.returns-else-eq
returns-else-eq c =
    let lookup = c.in_ok-anchor.ensures.lookup in
    sym (other_in_front c.args.alias.now c.args.named.now c.requires.order c.args.at c.requires.at _ _
    (omega (arith, c.in_ok-checked_sub.ensures)) lookup.0 lookup.1 (sym c.eq.ensures ∙ c.if-eq.false))
