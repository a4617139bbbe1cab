-- No byte of the line ends one: none does behind the last that ends one before the index, and none from it on.
use Rattle.std.proofs.Common.{◌-◌, arith, drop, length, length-take, length-drop}
use Rattle.yaml_report.proofs.Lines.{whole_line}
use Rattle.yaml_report.proofs.line.line_around.Goals as goal
use Rattle.yaml_report.proofs.line.line_around.Goals.{in-Some, in-None}

pub returns-in-Some-memchr2-clause-whole : goal.returns-in-Some-memchr2-clause-whole
returns-in-Some-memchr2-clause-whole c =
    let before = length-take c.args.index c.args.text.now in
    let behind = length-take (length c.args.text.now - c.args.index) (drop c.args.index c.args.text.now) in
    let rest = length-drop c.args.index c.args.text.now in
    let found = c.in-Some-memchr2.ensures.0 in
    elim c.match-memrchr2.branch [
      | in-Some w ↦ whole_line _ _ c.args.index _ (omega arith)
          (λ k from to. w.in-Some.ensures.0.after k (omega arith) (omega arith))
          (λ k from to. found.before k from (omega arith))
      | in-None w ↦ whole_line _ _ c.args.index _ (omega arith)
          (λ k from to. w.in-None.ensures k (omega arith) (omega arith))
          (λ k from to. found.before k from (omega arith))
    ]

pub returns-in-None-memchr2-clause-whole : goal.returns-in-None-memchr2-clause-whole
returns-in-None-memchr2-clause-whole c =
    let before = length-take c.args.index c.args.text.now in
    let behind = length-take (length c.args.text.now - c.args.index) (drop c.args.index c.args.text.now) in
    let rest = length-drop c.args.index c.args.text.now in
    elim c.match-memrchr2.branch [
      | in-Some w ↦ whole_line _ _ c.args.index _ (omega arith)
          (λ k from to. w.in-Some.ensures.0.after k (omega arith) (omega arith))
          (λ k from to. c.in-None-memchr2.ensures k from (omega arith))
      | in-None w ↦ whole_line _ _ c.args.index _ (omega arith)
          (λ k from to. w.in-None.ensures k (omega arith) (omega arith))
          (λ k from to. c.in-None-memchr2.ensures k from (omega arith))
    ]
