-- What `documents_to_string` promises is what the law asks for.
use Rattle.yaml_round.proofs.in_turn.text_of.Goals as goal

pub returns-in-Ok-clause-returns : goal.returns-in-Ok-clause-returns
returns-in-Ok-clause-returns g c = λ short some limits fits.
    c.a_text_of_documents_reads_back.ensures limits c.args.values.now _ (record {
      printed = c.in-Ok.ensures.text;
      kept = c.in-Ok.ensures.kept;
      table = c.in-Ok.ensures.table;
      held = c.in-Ok.ensures.held;
    }) short some fits
