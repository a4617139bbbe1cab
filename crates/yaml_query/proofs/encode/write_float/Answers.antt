-- The text of the float is its token.
use Rattle.std.proofs.Common.{◌≡◌, true, rules}
use Rattle.std.specs.Float.{float_is_finite}
use Rattle.json.proofs.Printed.Floats.{IsNumber-plus}
use Rattle.yaml_query.proofs.Written.{writes_float}
use Rattle.yaml_query.proofs.encode.write_float.Goals as goal

pub token-requires : goal.token-requires
token-requires c = IsNumber-plus 16 4 c.format_finite_with_plus.result.now c.format_finite_with_plus.ensures.layout

pub returns-clause-json : goal.returns-clause-json
returns-clause-json c =
    let s = c.format_finite_with_plus.result.now in
    let finite : float_is_finite c.args.x ≡ true = search rules in
    writes_float c.args.x s _ _ (
      finite,
      c.format_finite_with_plus.ensures.layout,
      c.format_finite_with_plus.ensures.parses,
    )
    (IsNumber-plus 16 4 s c.format_finite_with_plus.ensures.layout) c.in_ok-token.ensures.tokens
