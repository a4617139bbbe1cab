-- The collection that ends is the one begun last, and its number is filled in.
use Rattle.yaml_load.proofs.Words.{rules, ap, ◌∙◌, sym, subst, HasNumbers}
use Rattle.yaml_load.specs.declared.loader.ends.Ends.TheInside.{Inside}
use Rattle.yaml_load.proofs.OpenEndsLaws.{ends, stray_ends}
use Rattle.yaml_load.proofs.loader.ends.Ends.end.Goals.{in-Some, in_default}
use Rattle.yaml_load.proofs.loader.ends.Ends.end.Goals as goal

pub returns : goal.returns
returns c =
    record {
      numbers = λ front seen e h p o q.
          let held = subst (HasNumbers front seen) (sym c.self.view_is) h in
          elim c.match-pop.branch [
            | in-Some w ↦
                ends held e _ c.args.place w.in-Some.start c.pop.new.self.items p o q c.self.invariant
                w.in-Some.ensures.items (rw w.self-inside-is at c.in_ok-push.ensures.items)
                (ap (λ (j : Inside). j.unended.items) w.self-inside-is)
            | in_default w ↦
                stray_ends held e _ c.args.place p o (search rules)
                (rw w.self-inside-is at c.in_ok-push.ensures.items)
                (ap (λ (j : Inside). j.unended.items) w.self-inside-is ∙ search rules)
          ];
    }
