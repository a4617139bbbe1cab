-- The name that is found is the text that was read.
use Rattle.yaml.proofs.NameLaws.{named}
use Rattle.yaml.proofs.reader.Reader.name.Goals as goal

pub returns-in-Str : goal.returns-in-Str
returns-in-Str c =
    named _ _ _ _ _ _ _ _ c.in_ok-text.ensures c.in-Str.is c.as_str.ensures c.find_among.ensures.stays
    c.find_among.ensures.finds
