-- The events of values, part by part.
use Rattle.std.proofs.Common.{◌≡◌, ℕ, ◌+◌, ◌<◌, ◌++◌, ◌∷◌, [], List, length, get_or, drop, Result, Ok, None, refl, sym}
use Rattle.std.proofs.Common.{ap, ◌∙◌, add-one, drop-cons, append_assoc}
use Rattle.std.proofs.lemmas.List.{append-nil}
use Rattle.yaml_base.specs.EmitEvents.{PlainEmit}
use Rattle.yaml_base.specs.EmitTree.{EmitPairs, emit_node_events, emit_nodes_events, emit_pairs_events, emit_node}
use Rattle.yaml_base.specs.EmitTree.{no_emit_pairs}
use Rattle.yaml_base.specs.declared.error.Cause.{Cause}
use Rattle.yaml_tree.specs.Tree.{Tree, Pairs, no_pairs, pair, pair_list}
use Rattle.yaml_tree.specs.View.{tree_of, trees_of}
use Rattle.yaml_tree.specs.declared.value.Value.{Value}
use Rattle.yaml_write.specs.Outcomes.{made, joined}
use Rattle.yaml_write.specs.WrittenValue.{written_value, written_values, written_pairs, pair_node, pair_before}
use Rattle.yaml_write.specs.WrittenEvents.{pair_events}
use Rattle.yaml_write.proofs.AddLaws.{InRow}

-- a node before others
pub node-row : InRow emit_node emit_node_events emit_nodes_events emit_nodes_events
node-row n nodes = refl

-- a key before its value
pub pair-row : InRow pair_node emit_node_events emit_node_events pair_events
pair-row k v = refl

-- a pair before others
pub pairs-row : InRow pair_before pair_events emit_pairs_events emit_pairs_events
pairs-row p pairs = sym (append_assoc (emit_node_events p.0) (emit_node_events p.1) (emit_pairs_events pairs))

-- what is made of parts that are left, once none is
pub none-left : {B : Type 0} (view : B → List PlainEmit) (nothing : B) (now : List PlainEmit) → view nothing ≡ []
    → made (λ part. now ++ view part) (Ok nothing) ≡ Ok now
none-left view nothing now e = ap Ok (ap (λ es. now ++ es) e ∙ append-nil now)

-- the values that are left, by the next one
pub values-left : (vs : List Value) (i : ℕ) (v : Value) → i < length vs → v ≡ get_or vs i v
    → written_values (trees_of (drop i vs)) ≡ joined emit_node (written_value None (tree_of v))
    (written_values (trees_of (drop (i + 1) vs)))
values-left vs i v h is =
    let d : drop i vs ≡ v ∷ drop (i + 1) vs = rw (add-one, drop-cons vs i v, ← is) in
    ap (λ ws. written_values (trees_of ws)) d

-- what pairs in a row are written as
abbrev pub written_list : List (Tree × Tree) → Result EmitPairs Cause
written_list [] = Ok no_emit_pairs
written_list (p ∷ ps) = joined pair_before (joined pair_node (written_value None p.0) (written_value None p.1))
    (written_list ps)

-- the same as what a mapping's are
pub written_pairs-list : (ps : Pairs) → written_pairs ps ≡ written_list (pair_list ps)
written_pairs-list no_pairs = refl
written_pairs-list (pair k v ps) =
    ap (joined pair_before (joined pair_node (written_value None k) (written_value None v))) (written_pairs-list ps)
