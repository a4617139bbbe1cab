use Rattle.std.proofs.Common.{ap, arith, inl, inr, length}
use Rattle.std.proofs.lemmas.Bool.{cases_eq}
use Rattle.yaml_direct.specs.Places.{no_place}
use Rattle.yaml_direct.proofs.ReaderLaws.{follows_here, no_token_here}
use Rattle.yaml_direct.proofs.reader.Reader.far_margin.Goals as goal

pub returns-then-next-self-clause-missed : goal.returns-then-next-self-clause-missed
returns-then-next-self-clause-missed c =
    let e = c.gap-next.ensures in
    let size = ap length e.reached.0 in
    λ h none. elim (cases_eq c.gap-next.result no_place) [
      | inl nowhere ↦ no_token_here c.args.self.now.text.now c.args.from (e.missed h nowhere)
      | inr there ↦ follows_here c.args.self.now c.gap-next.new.self c.args.from c.gap-next.result (e.found h there)
          c.if-self-line.true
          (omega (arith, c.if-next-self.true, size, (e.reached.1.1 there).1.1))
    ]
