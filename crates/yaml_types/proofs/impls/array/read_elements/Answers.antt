use Rattle.std.proofs.Common.{◌≡◌, ◌+◌, ◌∷◌, ◌++◌, [], ◌∙◌, ap, sym, subst, length, length-append, arith, rules}
use Rattle.yaml_types.specs.RowMeans.{ElementsFront}
use Rattle.yaml_types.proofs.RowReads.{elements_next, elements_all}
use Rattle.yaml_types.proofs.impls.array.read_elements.Goals as goal

pub loop-preserved : goal.loop-preserved
loop-preserved g c =
    let put : c.push.new.self.items ≡ c.loop.items.items ++ c.in_ok-item.item ∷ [] = search rules in (
      ap length put
          ∙ (length-append c.loop.items.items (c.in_ok-item.item ∷ []) ∙ ap (λ n. n + 1) c.loop.invariant.0),
      subst (λ l. ElementsFront g.T.Deserialize.start g.T.Deserialize.built c.args.tape.now c.args.place.now
          c.read_node.new.place c.args.depth l) (sym put)
          (elements_next g.T.Deserialize.start g.T.Deserialize.built c.args.tape.now c.args.place.now c.loop.place
          c.read_node.new.place c.args.depth c.in_ok-item.item c.loop.items.items c.loop.invariant.1
          c.in_ok-item.ensures.read),
    )

pub returns : goal.returns
returns g c =
    let all : c.loop.counter ≡ c.args.count = omega (arith, c.loop-test.false, c.loop.auto.counter-end) in
    elements_all g.T.Deserialize.start g.T.Deserialize.built c.args.tape.now c.args.place.now c.loop.place c.args.depth
    c.args.count c.loop.items.items (c.loop.invariant.0 ∙ all) c.loop.invariant.1
