-- The end of the stream begins no document.
use Rattle.std.proofs.Common.{ap}
use Rattle.std.proofs.lemmas.Result.{IfOk-weaker}
use Rattle.yaml.proofs.DocumentCounts.{ended_count}
use Rattle.yaml.proofs.printer.Printer.finish.Goals as goal

pub returns : goal.returns
returns c =
    IfOk-weaker c.finish.result _ _
    (λ text printed. (
      c.push.new.self.taken,
      ended_count c.args.self.begun c.args.self.out c.into_sink-emitter.result.taken c.push.new.self.taken c.args.self.counted
          c.into_sink-emitter.ensures (ap (λ e. e.taken) c.in_ok-push.ensures.taken),
      printed,
    )) c.finish.ensures.printed
