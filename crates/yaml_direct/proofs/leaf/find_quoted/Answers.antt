-- One run, or more.
use Rattle.std.proofs.Common.{◌+◌, refl, ◌∙◌}
use Rattle.yaml_direct.proofs.LeafLines.{quotes_line}
use Rattle.yaml_direct.proofs.Unquoting.{found_escaped, found_whole}
use Rattle.yaml_direct.proofs.leaf.find_quoted.Goals as goal
use Rattle.yaml_direct.proofs.leaf.find_quoted.Goals.{then-stop-first, else-stop-first}

pub returns-clause-quoted : goal.returns-clause-quoted
returns-clause-quoted c =
    let text = c.args.text.now in
    let quote = c.args.quote in
    let begin = c.args.from + 1 in
    let run = c.run_end-first.ensures in
    let first = c.run_end-first.result in
    let stop = c.closing-stop.result in
    let closes = c.closing-stop.ensures.closes (c.if-text-stop.false ∙ c.byte.ensures.quote) in
    record {
      begins = refl;
      kind = elim c.if-stop-first.branch [
        | then-stop-first w ↦ found_whole text quote begin first stop (stop + 1) c.if-stop-first.kind w.kind-is refl
            w.if-stop-first.true run.forward run.within run.run run.ends closes
        | else-stop-first w ↦ found_escaped text quote begin first stop (stop + 1) c.if-stop-first.kind w.kind-is refl
            run.forward run.run closes
      ];
    }

pub returns-clause-line : goal.returns-clause-line
returns-clause-line c =
    let byte = c.if-text-stop.false ∙ c.byte.ensures.quote in
    λ other closed. quotes_line c.args.text.now c.args.quote c.args.from c.run_end-first.result c.closing-stop.result other
    c.run_end-first.ensures.run (c.closing-stop.ensures.closes byte) byte
