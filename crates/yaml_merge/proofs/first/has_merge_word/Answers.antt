-- Where no event is the word of a merge key, there is no merge key.
use Rattle.std.proofs.Common.{◌≡◌, arith, false}
use Rattle.std.proofs.lemmas.Grind.{common_steps}
use Rattle.std.specs.List.{list_any}
use Rattle.yaml_merge.proofs.FirstLaws.{has_word, no_word}
use Rattle.yaml_merge.proofs.first.has_merge_word.Goals as goal

pub returns-clause-none : goal.returns-clause-none
returns-clause-none c = λ h.
    let any : list_any has_word c.args.events.now ≡ false = grind (arith, common_steps) in
    no_word c.args.events.now any
