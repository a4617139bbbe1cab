-- What is read from here on goes on what was read.
use Rattle.yaml_types.specs.NodeMeans.{PairsFront}
use Rattle.yaml_types.specs.Tables.{IsShapeIn}
use Rattle.yaml_types.proofs.impls.map.read_pairs.Given as goal

abbrev pub invariant-pairs : goal.invariant-pairs
invariant-pairs g l =
    PairsFront (IsShapeIn g.K.Deserialize.start) (IsShapeIn g.V.Deserialize.start) g.K.Deserialize.built
    g.V.Deserialize.built l.tape l.fn.place l.place l.depth l.pairs.items
