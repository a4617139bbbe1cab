-- What a run prints is what the reply says, and nothing is written where there is none.
use Rattle.std.proofs.Common.{map, string_bytes}
use Rattle.yaml_case.specs.Replies.{IsAnswerTo}
use Rattle.yaml_case.proofs.RunLaws.{concluded, concluded-unread, answer_to-read}
use Rattle.yaml_case.proofs.run.start.Goals as goal

pub returns-clause-prints : goal.returns-clause-prints
returns-clause-prints g c =
    concluded _ (g.R.Read.remaining c.args.reader.now) (g.W.Write.contents c.args.writer.now)
    (g.W.Write.contents c.conclude.new.writer) (IsAnswerTo (map string_bytes c.args.arguments.now)) c.reply_to.result
    c.conclude.result c.reply_to.ensures.answers c.conclude.ensures.printed c.conclude.ensures.unread

pub returns-clause-unwritten : goal.returns-clause-unwritten
returns-clause-unwritten g c =
    concluded-unread (g.R.Read.remaining c.args.reader.now) (g.W.Write.contents c.args.writer.now)
    (g.W.Write.contents c.conclude.new.writer) (IsAnswerTo (map string_bytes c.args.arguments.now)) c.reply_to.result
    c.conclude.result (answer_to-read _) c.reply_to.ensures.answers c.conclude.ensures.printed c.conclude.ensures.unread
