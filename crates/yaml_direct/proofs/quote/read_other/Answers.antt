-- A doubled quote.
use Rattle.std.proofs.Common.{sym, ◌∙◌, arith, ap, ◌++◌, ◌∷◌, []}
use Rattle.yaml_direct.proofs.QuotePlaces.{run_doubled, unquotes_doubled}
use Rattle.yaml_direct.proofs.quote.read_other.Goals as goal

pub returns-in_ok-reserve-in-Single-clause-read : goal.returns-in_ok-reserve-in-Single-clause-read
returns-in_ok-reserve-in-Single-clause-read c =
    λ other. (
      λ some. unquotes_doubled c.args.text.now c.args.quote c.args.place c.min.result c.args.out.now.items
          c.push_reserved.new.self.items (sym c.in-Single.is) other c.min.ensures
          (c.push_reserved.ensures.items ∙ ap (λ xs. xs ++ 39 ∷ []) c.reserve.ensures.items),
      λ none. absurd (omega arith),
    )

pub returns-in_ok-reserve-in-Single-clause-run : goal.returns-in_ok-reserve-in-Single-clause-run
returns-in_ok-reserve-in-Single-clause-run c =
    λ other some. run_doubled c.args.text.now c.args.quote c.args.place c.min.result
    (sym c.in-Single.is) other c.min.ensures
