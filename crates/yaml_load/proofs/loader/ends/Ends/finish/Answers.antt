-- Each open collection ends where the document does.
use Rattle.std.specs.Prelude.{◌∷◌}
use Rattle.yaml_load.proofs.Words.{refl, ap, arith, length, set, reverse, [], ◌∙◌, length-append, length-set, rules}
use Rattle.yaml_load.proofs.Words.{EndsView, numbers_ended}
use Rattle.yaml_load.proofs.OpenEndsLaws.{finish_more, finished, in_set, last_in}
use Rattle.yaml_load.proofs.loader.ends.Ends.finish.Goals as goal

pub unended-init : goal.unended-init
unended-init c = record {
  within = c.self.invariant;
  count = ap (λ (v : EndsView). length v.numbers) c.self.view_is;
  all = ap (λ (v : EndsView). numbers_ended (reverse v.unended) 0 c.args.size [] v.numbers) c.self.view_is;
}

pub index_mut-requires : goal.index_mut-requires
index_mut-requires c =
    let l = c.unended.self-inside in
    let w = last_in l.numbers.items c.pop.new.self.items l.unended.items c.in-Some.start c.in-Some.ensures.items
    c.unended.invariant.within in
    omega (arith, l.numbers.ok, w.1)

pub unended-smaller : goal.unended-smaller
unended-smaller c = let w = c.in-Some.ensures.items in
    omega (arith, ap length w, length-append c.pop.new.self.items (c.in-Some.start ∷ []))

pub unended-preserved : goal.unended-preserved
unended-preserved c =
    let l = c.unended.self-inside in
    record {
      within =
          in_set l.numbers.items c.pop.new.self.items c.in-Some.start c.args.size
          (last_in l.numbers.items c.pop.new.self.items l.unended.items c.in-Some.start c.in-Some.ensures.items
          c.unended.invariant.within).0;
      count = length-set l.numbers.items c.in-Some.start c.args.size ∙ c.unended.invariant.count;
      all =
          finish_more l.unended.items c.pop.new.self.items c.pop.new.self.items c.in-Some.start c.args.size
          l.numbers.items
          (set l.numbers.items c.in-Some.start c.args.size) _ c.in-Some.ensures.items refl refl c.unended.invariant.all;
    }

pub returns-clause-numbers : goal.returns-clause-numbers
returns-clause-numbers c = λ front seen h p.
    let l = c.unended.self-inside in
    finished front seen c.args.self.now c.args.size l.unended.items l.numbers.items h p
    (search rules) c.unended.invariant.all
