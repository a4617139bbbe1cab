-- The text is taken as it stands, and so the same data is read.
use Rattle.std.proofs.Common.{refl, sym, subst, None}
use Rattle.yaml_base.specs.MarkedEvents.{plain_marked}
use Rattle.serde_yaml.specs.StreamReads.{InputGives}
use Rattle.yaml_round.proofs.TextsReturn.{data_taken}
use Rattle.yaml_round.proofs.TextsTaken.{parsed_takes}
use Rattle.yaml_round.proofs.laws.a_written_text_of_data_reads_back.Goals as goal

pub returns : goal.returns
returns c = λ limits table id s d text valid named is held printed short fits given parsed.
    let input = plain_marked parsed.events in
    let back = data_taken named held fits.text text input parsed.fault printed
    (parsed_takes text parsed.events parsed.fault short parsed.parsed) in
    c.written_data_reads_back.ensures.given limits table id s d input given valid named is held fits.nestings back.1
    (subst (λ f. InputGives limits table s input f given) back.0 parsed.holds)
