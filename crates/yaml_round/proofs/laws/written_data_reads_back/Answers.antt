-- What is written reads back, and so reading gives it.
use Rattle.std.proofs.Common.{refl}
use Rattle.yaml_round.proofs.StreamsReturn.{reads_back}
use Rattle.yaml_round.proofs.laws.written_data_reads_back.Goals as goal

pub returns-clause-reads : goal.returns-clause-reads
returns-clause-reads c = λ limits table id s d input valid named is held fits back.
    reads_back limits table id s d input valid named is held fits back

pub returns-clause-given : goal.returns-clause-given
returns-clause-given c = λ limits table id s d input given valid named is held fits back gives.
    let r = reads_back limits table id s d input valid named is held fits back in (
      r.found,
      (c.reading_gives_the_meaning.ensures limits table s input _ given gives).only r.found refl r.reads,
      r.same,
    )
