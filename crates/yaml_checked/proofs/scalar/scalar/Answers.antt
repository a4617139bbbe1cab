-- A source in one line says its text.
use Rattle.yaml_checked.proofs.GivenLaws.{each_untrue}
use Rattle.yaml_checked.proofs.LineFeeds.{piece_is_one_line}
use Rattle.std.proofs.Common.{refl}
use Rattle.yaml_checked.proofs.scalar.scalar.Goals as goal
use Rattle.yaml_checked.specs.inner.EntryStands.{source_on}

pub returns-in_err-value-clause-untrue : goal.returns-in_err-value-clause-untrue
returns-in_err-value-clause-untrue c = each_untrue c.from_residual.result (λ r other allowed says.
    let t = c.args.tape.now in
    let e = c.args.entry in
    let (plain, apart) = c.in_err-value.ensures.untrue in
    let rest = says plain (piece_is_one_line t.text.now (source_on t e) e.index e.end allowed apart.line refl) in
    apart.apart rest.0 (λ none.
    let gone = c.has_names.ensures.none none in
    rest.1 gone.0 gone.1))
