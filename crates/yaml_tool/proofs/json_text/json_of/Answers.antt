-- The JSON is printed as it is asked for.
use Rattle.yaml_tool.proofs.AskedLaws.{weaker}
use Rattle.yaml_tool.proofs.json_text.json_of.Goals as goal

pub returns-then-in_lines-clause-text : goal.returns-then-in_lines-clause-text
returns-then-in_lines-clause-text c = rw c.if-in_lines.true
    (weaker c.to_json_pretty.result c.to_json_pretty.ensures.text
    (λ s t. record { json = t.json; of_value = t.of_value; prints = t.prints }))

pub returns-else-in_lines-clause-text : goal.returns-else-in_lines-clause-text
returns-else-in_lines-clause-text c = rw c.if-in_lines.false
    (weaker c.to_json.result c.to_json.ensures.text
    (λ s t. record { json = t.json; of_value = t.of_value; prints = t.prints }))
