-- What is written of a document is made of its tree.
use Rattle.std.proofs.lemmas.Result.{IfOk-weaker}
use Rattle.std.specs.Prelude.{map}
use Rattle.yaml_base.specs.DocEventView.{marked_events_of}
use Rattle.yaml_load.specs.Ends.{ends_of}
use Rattle.yaml_merge.proofs.RemadeLaws.{is_remade, long_of, made_same}
use Rattle.yaml_merge.proofs.merge.merge_all.Goals as goal

pub returns-clause-made : goal.returns-clause-made
returns-clause-made c =
    let document = c.args.document.now in
    let nodes = c.nodes_of-nodes.result in
    let same = c.nodes_of-nodes.ensures in
    IfOk-weaker c.written.result _ _ (λ all made root is.
    is_remade document all root is (long_of nodes.events.now document.events same.events made.0) made.1 made.2 made.3
    made.4 (made_same (marked_events_of nodes.events.now) document.events nodes.ends.now
    (ends_of (map (λ e. e.0) document.events)) made.1 same.events same.ends made.5)) c.written.ensures.made
