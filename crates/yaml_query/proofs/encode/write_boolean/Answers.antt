-- It is one token.
use Rattle.yaml_query.proofs.Written.{on_ok, writes_boolean}
use Rattle.yaml_query.proofs.encode.write_boolean.Goals as goal

pub returns-clause-json : goal.returns-clause-json
returns-clause-json c = on_ok c.token.result (λ f. writes_boolean c.args.truth _ _ f) c.token.ensures.tokens
