-- The documents are the text's.
use Rattle.yaml_read.specs.Documents.{documents_of}
use Rattle.yaml_shape.specs.DataView.{data_of}
use Rattle.serde_yaml.specs.MergedReads.{TreatedGives}
use Rattle.serde_yaml.proofs.MergedLaws.{of_parsed}
use Rattle.serde_yaml.proofs.merging.data_from_slice_merging_limited.Goals as goal

pub returns-clause-given : goal.returns-clause-given
returns-clause-given c = λ s at.
    of_parsed data_of c.data_of_alone.result (TreatedGives c.args.limits c.args.schema.now s c.args.merge) documents_of
    c.in_ok-documents.ensures.documents (c.data_of_alone.ensures.given s at)
