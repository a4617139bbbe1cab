-- What a run prints is what the reply says, and nothing is written where there is none.
use Rattle.yaml_case.specs.Replies.{IsAnswerByName}
use Rattle.yaml_case.proofs.RunLaws.{concluded, concluded-unread, answer-read}
use Rattle.yaml_case.proofs.run.run_limited.Goals as goal

pub returns-clause-prints : goal.returns-clause-prints
returns-clause-prints g c =
    concluded _ (g.R.Read.remaining c.args.reader.now) (g.W.Write.contents c.args.writer.now)
    (g.W.Write.contents c.conclude.new.writer) (IsAnswerByName c.args.name.now c.args.limits) c.reply.result
    c.conclude.result
    c.reply.ensures.answers c.conclude.ensures.printed c.conclude.ensures.unread

pub returns-clause-unwritten : goal.returns-clause-unwritten
returns-clause-unwritten g c =
    concluded-unread (g.R.Read.remaining c.args.reader.now) (g.W.Write.contents c.args.writer.now)
    (g.W.Write.contents c.conclude.new.writer) (IsAnswerByName c.args.name.now c.args.limits) c.reply.result
    c.conclude.result
    (answer-read _ _) c.reply.ensures.answers c.conclude.ensures.printed c.conclude.ensures.unread
