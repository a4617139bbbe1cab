-- The text is added to what the writer holds, and flushing keeps that.
use Rattle.std.proofs.Common.{string_bytes, subst}
use Rattle.std.proofs.KnownBytes.{Appends-kept}
use Rattle.std.specs.Io.KnownBytes.{Appends}
use Rattle.serde_yaml.specs.Printed.{added}
use Rattle.serde_yaml.proofs.printed.to_writer.Goals as goal

pub returns-in-Ok-flush-clause-text : goal.returns-in-Ok-flush-clause-text
returns-in-Ok-flush-clause-text g c =
    added (string_bytes c.in-Ok.text) c.in-Ok.ensures.text
    (subst (λ bs. Appends (g.W.Write.contents c.args.writer.now) (g.W.Write.contents c.flush.new.self) bs)
    c.as_bytes.ensures.value
    (Appends-kept (g.W.Write.contents c.args.writer.now) (g.W.Write.contents c.write_all.new.self)
    (g.W.Write.contents c.flush.new.self) c.as_bytes.result.now c.in_default.ensures.bytes c.flush.ensures.bytes))
