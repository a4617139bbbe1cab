-- The tokens are those of the JSON, and the text is theirs.
use Rattle.std.proofs.Common.{◌≡◌, ◌∙◌, sym, subst, rules, Err, IfErr}
use Rattle.yaml_query.proofs.JsonLaws.{has_none}
use Rattle.yaml_query.proofs.Texts.{text_of_json}
use Rattle.yaml_query.specs.NoJson.{HasNone}
use Rattle.yaml_query.specs.Out.{frame_in, tokens_in}
use Rattle.yaml_value.specs.View.{plain}
use Rattle.yaml_query.proofs.encode.json_text.Goals as goal

pub returns-clause-text : goal.returns-clause-text
returns-clause-text c =
    text_of_json c.args.layout (plain c.args.value.now) _ (tokens_in c.new-out.result) (tokens_in c.write_value.new.out)
    (frame_in c.write_value.new.out) c.new-out.ensures.tokens
    (c.in_ok-write_value.ensures.frame ∙ c.new-out.ensures.frame) c.in_ok-write_value.ensures.json
    c.finish.ensures.text c.finish.ensures.read

pub returns-in_err-write_value-clause-none : goal.returns-in_err-write_value-clause-none
returns-in_err-write_value-clause-none c =
    let v = plain c.args.value.now in
    let e : c.from_residual.result ≡ Err c.in_err-write_value.field-0.0 = search rules in
    subst (λ r. IfErr r (HasNone v)) (sym e) (has_none v c.in_err-write_value.field-0.0
    c.in_err-write_value.ensures.fault)
