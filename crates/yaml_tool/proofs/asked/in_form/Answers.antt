-- The part is printed as it is asked for.
use Rattle.yaml_tool.proofs.asked.in_form.Goals as goal

pub returns-in-Plain : goal.returns-in-Plain
returns-in-Plain c =
    rw c.in-Plain.is (record { text = c.plainly.ensures.text; without = c.plainly.ensures.fault })

pub returns-in-Json : goal.returns-in-Json
returns-in-Json c = rw c.in-Json.is (record { text = c.as_json.ensures.text; without = c.as_json.ensures.none })

pub returns-in-PrettyJson : goal.returns-in-PrettyJson
returns-in-PrettyJson c = rw c.in-PrettyJson.is (record {
  text = c.as_json-in-PrettyJson.ensures.text;
  without = c.as_json-in-PrettyJson.ensures.none;
})
