use Rattle.std.proofs.Common.{◌≡◌, refl, subst}
use Rattle.yaml_types.specs.NodeMeans.{NodeMeans}
use Rattle.yaml_types.specs.Tables.{IsShapeIn}
use Rattle.serde_yaml.proofs.NodeEnds.{same_end}
use Rattle.serde_yaml.proofs.de.taped.read_tape.Goals as goal

pub returns-clause-value : goal.returns-clause-value
returns-clause-value g c =
    let t = c.args.tape.now in
    let end = c.in_ok-end.end in
    let only = c.if-not-is_document.ensures refl in
    let n = c.in_ok-value.ensures.read in
    let same : c.read_node.new.place ≡ end =
    same_end t n.node c.read_node.new.place end n.events c.in_ok-end.ensures only.all in (
      end,
      only,
      subst (λ p. NodeMeans (IsShapeIn g.T.Deserialize.start) g.T.Deserialize.built t 2 p c.args.depth
          c.in_ok-value.value) same n,
    )
