-- Where one document begins in a stream, it is of one.
use Rattle.std.proofs.Common.{map, sym, ◌∙◌}
use Rattle.std.proofs.lemmas.Bool.Decides.{Decides-eqb}
use Rattle.yaml_base.specs.EmitEvents.{emit_of}
use Rattle.yaml.proofs.DocumentCounts.{one_document}
use Rattle.yaml.proofs.written.is_one_document.Goals as goal

pub returns : goal.returns
returns c = λ one.
    one_document (map emit_of c.args.events.now) c.requires
    (sym c.documents_begun.ensures ∙ (Decides-eqb c.documents_begun.result 1).0 one)
