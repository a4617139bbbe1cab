-- The anchor named last is the one in front of the alias.
use Rattle.yaml_load.proofs.Words.{◌∙◌, [], ap, append-nil, inr, option_map, refl, sym, alias_to}
use Rattle.yaml_load.proofs.AnchorSearch.{last_found}
use Rattle.yaml_load.proofs.loader.anchors.Anchors.refer.Goals as goal

pub returns-then-eq-clause-taken : goal.returns-then-eq-clause-taken
returns-then-eq-clause-taken c = λ seen named at. (
  [],
  inr (
    ap (option_map alias_to) (last_found seen c.args.self.now.named.items (c.args.anchor, c.args.place)
        c.in-Some.field-0.now named at (rw c.deref.ensures.value at c.in-Some.ensures.item.0)
        (rw c.deref.ensures.value at c.in-Some.ensures.item.1)
        (sym c.eq.ensures ∙ c.if-eq.true)),
    refl,
  ),
  sym (append-nil c.args.self.now.aliases.items),
)
