-- The documents are the text's.
use Rattle.yaml_read.specs.Documents.{documents_of}
use Rattle.serde_yaml.specs.MergedReads.{TreatedMakes}
use Rattle.serde_yaml.proofs.MergedLaws.{of_parsed}
use Rattle.serde_yaml.proofs.merging.from_slice_merging_limited.Goals as goal

pub returns : goal.returns
returns g c =
    of_parsed (λ value. value) c.value_of_alone.result
    (TreatedMakes c.args.limits g.T.Deserialize.start g.T.Deserialize.built g.T.Deserialize.refused c.args.merge)
    documents_of c.in_ok-documents.ensures.documents c.value_of_alone.ensures
