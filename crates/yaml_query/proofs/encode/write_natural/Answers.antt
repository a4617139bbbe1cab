-- The text of the integer is its token.
use Rattle.std.proofs.Common.{◌≡◌, sym, subst, rules, decimal, pos}
use Rattle.json.specs.Print.{IsNumber}
use Rattle.yaml_query.proofs.Decimals.{IsNumber-natural}
use Rattle.yaml_query.proofs.Written.{on_ok, writes_integer}
use Rattle.yaml_query.proofs.encode.write_natural.Goals as goal

pub token-requires : goal.token-requires
token-requires c =
    let e : c.as_str.result.now ≡ decimal c.args.n = search rules in
    subst IsNumber (sym e) (IsNumber-natural c.args.n c.ranges.n.fits)

pub returns-clause-json : goal.returns-clause-json
returns-clause-json c =
    let e : c.as_str.result.now ≡ decimal c.args.n = search rules in
    let is : IsNumber c.as_str.result.now = subst IsNumber (sym e) (IsNumber-natural c.args.n c.ranges.n.fits) in
    on_ok c.token.result (λ f. writes_integer (pos c.args.n) c.as_str.result.now _ _ e is f) c.token.ensures.tokens
