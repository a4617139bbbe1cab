-- It is written without tags.
use Rattle.yaml_round.proofs.SimpleTexts.{simple_whole}
use Rattle.yaml_round.proofs.laws.simple_data_fits_a_text.Goals as goal

pub returns : goal.returns
returns c = λ table id d simple deep.
    record { nests_within = deep; whole_tags = λ root is. simple_whole table d id root simple is }
