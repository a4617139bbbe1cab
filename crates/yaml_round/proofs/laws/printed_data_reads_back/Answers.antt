-- The events of any documents that stand in the text are what was written, as it may come back.
use Rattle.yaml_round.proofs.TextsReturn.{data_comes, data_stands_printed}
use Rattle.yaml_round.proofs.laws.printed_data_reads_back.Goals as goal

pub returns-clause-stands : goal.returns-clause-stands
returns-clause-stands c = λ table id d text named held fits printed. data_stands_printed named held fits text printed

pub returns-clause-reads : goal.returns-clause-reads
returns-clause-reads c = λ limits table id s d text input valid named is held text_fits fits printed found.
    c.written_data_reads_back.ensures.reads limits table id s d input valid named is held fits
    (data_comes named held text_fits text input printed found)
