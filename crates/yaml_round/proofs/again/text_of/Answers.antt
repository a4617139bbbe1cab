-- What `to_string` promises is what the law asks for.
use Rattle.yaml_round.proofs.again.text_of.Goals as goal

pub returns-in-Ok-clause-stands : goal.returns-in-Ok-clause-stands
returns-in-Ok-clause-stands g c = λ fits.
    c.a_printed_value_reads_back.ensures.stands c.args.value.now _ c.in-Ok.ensures.table c.in-Ok.ensures.held fits
    c.in-Ok.ensures.text

pub returns-in-Ok-clause-reads : goal.returns-in-Ok-clause-reads
returns-in-Ok-clause-reads g c = λ text_fits limits fits.
    c.a_printed_value_reads_back.ensures.reads limits c.args.value.now _ c.in-Ok.ensures.table c.in-Ok.ensures.kept
    c.in-Ok.ensures.held text_fits fits c.in-Ok.ensures.text

pub returns-in-Ok-clause-returns : goal.returns-in-Ok-clause-returns
returns-in-Ok-clause-returns g c = λ short limits fits.
    c.a_written_text_reads_back.ensures limits c.args.value.now _ (record {
      printed = c.in-Ok.ensures.text;
      kept = c.in-Ok.ensures.kept;
      table = c.in-Ok.ensures.table;
      held = c.in-Ok.ensures.held;
    }) short fits
