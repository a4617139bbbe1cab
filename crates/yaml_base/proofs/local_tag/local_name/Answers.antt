use Rattle.std.proofs.Common.{◌≡◌, ◌≢◌, ◌∷◌, ◌++◌, ◌∙◌, ap, length, Some, arith}
use Rattle.std.proofs.lemmas.Bool.Decides.{Decides-eqb}
use Rattle.std.proofs.lemmas.Slice.Eq.{strip_prefix_is}
use Rattle.yaml_base.proofs.LocalNameLaws.{local_name-read}
use Rattle.yaml_base.proofs.local_tag.local_name.Goals as goal

pub returns : goal.returns
returns c =
    let e : c.args.tag.now ≡ 33 ∷ c.in_ok-rest.rest.now =
    strip_prefix_is Decides-eqb c.args.tag.now c.as_slice.result.now
    (Some c.in_ok-rest.rest) c.in_ok-rest.ensures.cases
    ∙ ap (λ l. l ++ c.in_ok-rest.rest.now) c.as_slice.ensures in
    let long : length c.in_ok-rest.rest.now ≢ 0 = grind (arith, c.if-is_empty.false, c.is_empty.ensures) in
    local_name-read _ _ _ _ _ e long c.from_utf8.ensures.cases c.ok.ensures.value
