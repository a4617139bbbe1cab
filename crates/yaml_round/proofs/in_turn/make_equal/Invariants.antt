-- The documents that are left make values equal to those that are left, where all do; and what comes of comparing these
-- comes of all.
use Rattle.std.proofs.Common.{Bool, Result, drop}
use Rattle.yaml_base.specs.declared.error.Cause.{Cause}
use Rattle.yaml_round.specs.Compared.{ComparesEach}
use Rattle.yaml_round.specs.InTurn.{MakeEqual}
use Rattle.yaml_round.proofs.in_turn.make_equal.Given as goal

abbrev pub invariant-loop-value : goal.invariant-loop-value
invariant-loop-value g l =
    (MakeEqual l.limits g.T.Deserialize.start g.T.Deserialize.built g.T.Deserialize.refused g.T.PartialEq.eq l.values
    l.fn.documents
    → MakeEqual l.limits g.T.Deserialize.start g.T.Deserialize.built g.T.Deserialize.refused g.T.PartialEq.eq
    (drop l.value-index l.values) l.left)
    × ((given : Result Bool Cause) → ComparesEach l.limits g.T.Deserialize.start g.T.Deserialize.built
    g.T.Deserialize.refused g.T.PartialEq.eq (drop l.value-index l.values) l.left given
    → ComparesEach l.limits g.T.Deserialize.start g.T.Deserialize.built g.T.Deserialize.refused g.T.PartialEq.eq
    l.values l.fn.documents given)
