-- It is one token.
use Rattle.yaml_query.proofs.Written.{on_ok, writes_null}
use Rattle.yaml_query.proofs.encode.write_null.Goals as goal

pub returns-clause-json : goal.returns-clause-json
returns-clause-json c = on_ok c.token.result (λ f. writes_null _ _ f) c.token.ensures.tokens
