-- The number of the collection is filled in where it ends.
use Rattle.std.specs.Prelude.{◌≡◌, ◌++◌, ◌∷◌}
use Rattle.yaml_load.proofs.Words.{arith, length, ap, [], ◌∙◌, sym, subst, HasNumbers}
use Rattle.yaml_load.proofs.OpenEndsLaws.{begins}
use Rattle.yaml_load.proofs.loader.ends.Ends.begin.Goals as goal

pub returns : goal.returns
returns c =
    let i = c.self.inside in
    let counted : c.len-start.result ≡ length i.numbers.items = omega (arith, i.numbers.ok, c.len-start.ensures) in
    record {
      numbers = λ front seen e h p o.
          begins (subst (HasNumbers front seen) (sym c.self.view_is) h) e _ c.args.place p o c.self.invariant
          c.in_ok-push.ensures.items
          (c.in_ok-push-2.ensures.items ∙ ap (λ n. i.unended.items ++ n ∷ []) counted);
    }
