-- One reading of what stands by columns.
use Rattle.std.proofs.Common.{◌≡◌, ℕ, ◌+◌, ◌++◌, List, [], Some, sym, ◌∙◌, arith}
use Rattle.yaml_grammar.specs.Blocks.{BlockNode, Key, Room}
use Rattle.yaml_grammar.specs.Nodes.{Marked, Node, node_events}
use Rattle.yaml_reading.specs.BlockReader.{columns_at, key_at, node_at}
use Rattle.yaml_reading.specs.BracketReader.{brackets_at}
use Rattle.yaml_reading.proofs.BlockComplete.{node_of}
use Rattle.yaml_reading.proofs.BlockSound.{columns_sound, node_sound}
use Rattle.yaml_reading.proofs.BracketReading.{one_of_events}
use Rattle.yaml_reading.proofs.KeyReading.{key_of, key_sound}
use Rattle.yaml_reading.proofs.Options.{pair_is}

pub one_block_node : (text : List ℕ) (d e least : ℕ) (room : Room) (i j k : ℕ) (m n : Node)
    → BlockNode text d least room i j m → BlockNode text e least room i k n → (j ≡ k) × (m ≡ n)
one_block_node text d e least room i j k m n x y =
    let q = pair_is (node_events m) (node_events n) j k
    (sym (node_of text x (d + e) (omega arith) []) ∙ node_of text y (d + e) (omega arith) []) in
    (q.1, one_of_events m n q.0)

pub block_read : (text : List ℕ) (d least : ℕ) (room : Room) (i j : ℕ) (n : Node) (es : List Marked)
    → BlockNode text d least room i j n
    → node_at text (columns_at text d) (brackets_at text d) least room es i ≡ Some (es ++ node_events n, j)
block_read text d least room i j n es x = node_of text x d (omega arith) es

pub block_stands : (text : List ℕ) (d least : ℕ) (room : Room) (i j : ℕ) (es xs : List Marked)
    → node_at text (columns_at text d) (brackets_at text d) least room es i ≡ Some (xs, j)
    → (n : Node) × BlockNode text d least room i j n × (xs ≡ es ++ node_events n)
block_stands text d least room i j es xs h =
    let s = node_sound text d (columns_sound text d) least room es i xs j h in
    (s.n, s.stands, s.said)

pub one_key : (text : List ℕ) (d e i j k : ℕ) (m n : Node) → Key text d i j m → Key text e i k n → (j ≡ k) × (m ≡ n)
one_key text d e i j k m n x y =
    let q = pair_is (node_events m) (node_events n) j k
    (sym (key_of text x (d + e) (omega arith) []) ∙ key_of text y (d + e) (omega arith) []) in
    (q.1, one_of_events m n q.0)

pub key_read : (text : List ℕ) (d i k : ℕ) (n : Node) (es : List Marked) → Key text d i k n
    → key_at text (brackets_at text d) es i ≡ Some (es ++ node_events n, k)
key_read text d i k n es x = key_of text x d (omega arith) es

pub key_stands : (text : List ℕ) (d i k : ℕ) (es xs : List Marked)
    → key_at text (brackets_at text d) es i ≡ Some (xs, k) → (n : Node) × Key text d i k n × (xs ≡ es ++ node_events n)
key_stands text d i k es xs h =
    let s = key_sound text d es i xs k h in
    (s.n, s.stands, s.said)
