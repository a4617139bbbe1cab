-- In a list in order, what is in front of one that is in front is so too, and what is behind one that is not is not.
use Rattle.yaml_load.proofs.Words.{◌∙◌, ap, is_lt, sym}
use Rattle.yaml_load.proofs.AnchorOrders.{all_before, none_before}
use Rattle.yaml_load.proofs.loader.resolve.is_before.Goals as goal

pub returns-in-Some-clause-before : goal.returns-in-Some-clause-before
returns-in-Some-clause-before c = λ yes.
    all_before c.args.named.now c.args.alias.now c.requires c.args.at _ c.in-Some.ensures.lookup.0
    c.in-Some.ensures.lookup.1 (sym (c.is_lt.ensures ∙ ap is_lt c.cmp.ensures) ∙ yes)

pub returns-in-Some-clause-behind : goal.returns-in-Some-clause-behind
returns-in-Some-clause-behind c = λ no.
    none_before c.args.named.now c.args.alias.now c.requires c.args.at _ c.in-Some.ensures.lookup.0
    c.in-Some.ensures.lookup.1 (sym (c.is_lt.ensures ∙ ap is_lt c.cmp.ensures) ∙ no)
