-- It is one token.
use Rattle.yaml_query.proofs.Written.{on_ok, writes_text}
use Rattle.yaml_query.proofs.encode.write_text.Goals as goal

pub returns-clause-json : goal.returns-clause-json
returns-clause-json c = on_ok c.token.result (λ f. writes_text c.args.text.now _ _ f) c.token.ensures.tokens
