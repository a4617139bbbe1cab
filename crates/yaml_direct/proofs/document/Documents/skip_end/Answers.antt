-- What stands behind `...`.
use Rattle.std.proofs.Common.{arith, refl, sym, ◌∙◌}
use Rattle.std.proofs.lemmas.Bool.{false≢true}
use Rattle.yaml_direct.proofs.BracketReads.{unnamed_kept}
use Rattle.yaml_direct.proofs.CountedLaws.{column_later}
use Rattle.yaml_direct.proofs.DocumentMisses.{end_left}
use Rattle.yaml_direct.proofs.DocumentReads.{end_read}
use Rattle.yaml_direct.proofs.document.Documents.skip_end.Goals as goal

pub returns-then-self-clause-read : goal.returns-then-self-clause-read
returns-then-self-clause-read c = λ ds h here some.
    let old = c.args.self.now in
    let r = c.margin-self.new.self in
    let m = c.margin-self.ensures in
    let n = m.found h.allowed some in
    let ends = m.ended h.allowed some in
    end_read old _ ds h m.reached.0 c.if-self.true c.if-self.true refl here ends n.there
    (unnamed_kept old.reader r m.names h.unnamed)
    (column_later old.reader r _ c.margin-self.result n m.reached.0 ends (m.reached.1.1 some).1.1) (m.token some)
    (omega (arith, (m.reached.1.1 some).0))

pub returns-then-self-clause-left : goal.returns-then-self-clause-left
returns-then-self-clause-left c = λ ds h here none.
    end_left c.args.self.now ds h here (λ _. c.margin-self.ensures.missed h.allowed none)

pub returns-clause-left : goal.returns-clause-left
returns-clause-left c = λ ds h here none.
    end_left c.args.self.now ds h here (λ begun. absurd (false≢true (sym c.if-self.false ∙ begun)))
