-- The text is taken as it stands, and so an equal value is read.
use Rattle.std.proofs.Common.{refl}
use Rattle.yaml_base.specs.MarkedEvents.{plain_marked}
use Rattle.yaml_round.proofs.TextsTaken.{parsed_takes}
use Rattle.yaml_round.proofs.laws.a_written_text_reads_back.Goals as goal

pub returns : goal.returns
returns g c = λ limits x text own short fits given parsed.
    c.a_printed_value_reads_back.ensures.taken limits x text (plain_marked parsed.events) parsed.fault given own.table
    own.kept own.held fits.text fits.nestings own.printed
    (parsed_takes text parsed.events parsed.fault short parsed.parsed) parsed.holds
