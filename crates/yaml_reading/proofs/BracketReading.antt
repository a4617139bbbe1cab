-- One reading of what stands in brackets.
use Rattle.std.proofs.Common.{◌≡◌, ℕ, ◌+◌, ◌++◌, List, [], Some, sym, ap, ◌∙◌, arith}
use Rattle.yaml_grammar.specs.Brackets.{Brackets, FlowNode}
use Rattle.yaml_grammar.specs.Names.{Names}
use Rattle.yaml_grammar.specs.Nodes.{Marked, Node, node_events}
use Rattle.yaml_reading.specs.BracketReader.{brackets_at, flow_at}
use Rattle.yaml_reading.proofs.BracketComplete.{brackets_of, flow_of}
use Rattle.yaml_reading.proofs.BracketSound.{brackets_sound, flow_sound}
use Rattle.yaml_reading.proofs.Options.{pair_is}
use Rattle.yaml_reading.proofs.SameNodes.{same_node}

-- nodes that are read with the same events are the same
pub one_of_events : (m n : Node) → node_events m ≡ node_events n → m ≡ n
one_of_events m n h = (same_node m n [] [] (ap (λ l. l ++ []) h)).0

pub one_node : (text : List ℕ) (d e i j k : ℕ) (m n : Node) → FlowNode text d i j m → FlowNode text e i k n
    → (j ≡ k) × (m ≡ n)
one_node text d e i j k m n x y =
    let q = pair_is (node_events m) (node_events n) j k
    (sym (flow_of text x (d + e) (omega arith) []) ∙ flow_of text y (d + e) (omega arith) []) in
    (q.1, one_of_events m n q.0)

pub one_collection : (text : List ℕ) {d e i p j k : ℕ} {names : Names} {m n : Node} → Brackets text d i names p j m
    → Brackets text e i names p k n → (j ≡ k) × (m ≡ n)
one_collection text {d} {e} {i} {p} {j} {k} {names} {m} {n} x y =
    let q = pair_is (node_events m) (node_events n) j k
    (sym (brackets_of text x (d + e) (omega arith) []) ∙ brackets_of text y (d + e) (omega arith) []) in
    (q.1, one_of_events m n q.0)

pub flow_read : (text : List ℕ) (d i j : ℕ) (n : Node) (es : List Marked) → FlowNode text d i j n
    → flow_at text (brackets_at text d) es i ≡ Some (es ++ node_events n, j)
flow_read text d i j n es x = flow_of text x d (omega arith) es

pub flow_stands : (text : List ℕ) (d i j : ℕ) (es xs : List Marked)
    → flow_at text (brackets_at text d) es i ≡ Some (xs, j)
    → (n : Node) × FlowNode text d i j n × (xs ≡ es ++ node_events n)
flow_stands text d i j es xs h =
    let s = flow_sound text d (brackets_sound text d) es i xs j h in
    (s.n, s.stands, s.said)
