-- What is read from here on goes on what was read.
use Rattle.yaml_types.specs.NodeMeans.{ItemsFront}
use Rattle.yaml_types.specs.Tables.{IsShapeIn}
use Rattle.yaml_types.proofs.impls.list.read_items.Given as goal

abbrev pub invariant-items : goal.invariant-items
invariant-items g l =
    ItemsFront (IsShapeIn g.T.Deserialize.start) g.T.Deserialize.built l.tape l.fn.place l.place l.depth l.items.items
