-- The documents are those of the text's events without what they show of it.
use Rattle.std.specs.Prelude.{◌≡◌, false}
use Rattle.yaml_base.specs.Answer.{is_memory}
use Rattle.yaml_read.specs.TreeReader.{default_limits}
use Rattle.serde_yaml.specs.MergedReads.{RefusesMergedOwn}
use Rattle.serde_yaml.proofs.MergedLaws.{own_given, own_refused, own_wrong, passed_on}
use Rattle.serde_yaml.proofs.merging.from_slice_owned_merging.Goals as goal

pub returns-clause-given : goal.returns-clause-given
returns-clause-given g c =
    own_given default_limits g.T.Deserialize.start g.T.Deserialize.built g.T.Deserialize.refused c.args.merge
    c.value_of_alone.result
    (record {
      events = c.in_ok-shown.shown.items;
      fault = c.in_ok-shown.fault;
      parsed = c.in_ok-shown.ensures.parsed;
      holds = rw c.in_ok-events.ensures.alone at c.in_ok-documents.ensures.documents;
    }) c.value_of_alone.ensures

pub returns-clause-refused : goal.returns-clause-refused
returns-clause-refused g c =
    own_refused default_limits g.T.Deserialize.start g.T.Deserialize.built g.T.Deserialize.refused c.args.merge
    c.value_of_alone.result
    (record {
      events = c.in_ok-shown.shown.items;
      fault = c.in_ok-shown.fault;
      parsed = c.in_ok-shown.ensures.parsed;
      holds = rw c.in_ok-events.ensures.alone at c.in_ok-documents.ensures.documents;
    }) c.value_of_alone.ensures

pub returns-in_err-documents-clause-refused : goal.returns-in_err-documents-clause-refused
returns-in_err-documents-clause-refused g c =
    passed_on c.from_residual-in_err-documents.result
    (λ cause. is_memory cause ≡ false → RefusesMergedOwn default_limits g.T.Deserialize.start g.T.Deserialize.built
    g.T.Deserialize.refused c.args.merge c.args.text.now cause)
    c.in_err-documents.field-0.0 c.from_residual-in_err-documents.ensures.1
    (own_wrong default_limits g.T.Deserialize.start g.T.Deserialize.built g.T.Deserialize.refused c.args.merge
    (record {
      events = c.in_ok-shown.shown.items;
      fault = c.in_ok-shown.fault;
      parsed = c.in_ok-shown.ensures.parsed;
      holds = tt;
    }) c.in_ok-events.events.items c.in_err-documents.field-0.0 c.in_ok-events.ensures.alone
    c.in_err-documents.ensures.wrong)
