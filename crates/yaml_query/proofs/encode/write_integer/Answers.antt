-- The text of the integer is its token.
use Rattle.std.proofs.Common.{◌≡◌, sym, subst, rules}
use Rattle.std.specs.Fmt.{signed_decimal}
use Rattle.json.specs.Print.{IsNumber}
use Rattle.yaml_query.proofs.Decimals.{IsNumber-integer}
use Rattle.yaml_query.proofs.Written.{on_ok, writes_integer}
use Rattle.yaml_query.proofs.encode.write_integer.Goals as goal

pub token-requires : goal.token-requires
token-requires c =
    let e : c.as_str.result.now ≡ signed_decimal c.args.n = search rules in
    subst IsNumber (sym e) (IsNumber-integer c.args.n c.ranges.n.sfits)

pub returns-clause-json : goal.returns-clause-json
returns-clause-json c =
    let e : c.as_str.result.now ≡ signed_decimal c.args.n = search rules in
    let is : IsNumber c.as_str.result.now = subst IsNumber (sym e) (IsNumber-integer c.args.n c.ranges.n.sfits) in
    on_ok c.token.result (λ f. writes_integer (c.args.n) c.as_str.result.now _ _ e is f) c.token.ensures.tokens
