-- The character that is found is the first that is not allowed.
use Rattle.std.proofs.Common.{rules}
use Rattle.std.proofs.lemmas.List.Sorted.{answers_always}
use Rattle.yaml_scan.proofs.Characters.{finds}
use Rattle.yaml_scan.proofs.reader.first_forbidden.Goals as goal

pub returns : goal.returns
returns c =
    finds c.args.text.now _ c.utf8.text c.find.result c.find.ensures.cases
    (answers_always _ _ _ (λ f a r f' k. search rules))
