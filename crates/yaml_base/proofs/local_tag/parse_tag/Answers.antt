use Rattle.std.proofs.Common.{◌≡◌, rules, arith}
use Rattle.std.proofs.lemmas.Grind.{common_steps}
use Rattle.std.specs.Option.{option_copied, option_and_then}
use Rattle.yaml_base.specs.LocalName.{local_name}
use Rattle.yaml_base.proofs.LocalNameLaws.{local_name-exact}
use Rattle.yaml_base.proofs.local_tag.parse_tag.Goals as goal

pub returns-clause-exact : goal.returns-clause-exact
returns-clause-exact c =
    let e : option_copied c.local_name.result ≡ option_and_then local_name (option_copied c.args.tag) =
    first_of (search rules, grind (arith, common_steps)) in
    local_name-exact _ _ e
