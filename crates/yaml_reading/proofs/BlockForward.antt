-- What stands by columns ends further on.
use Rattle.yaml_grammar.specs.Blocks.{names_key}
use Rattle.std.proofs.Common.{ℕ, ◌<◌, ◌≤◌, false, List, arith}
use Rattle.yaml_grammar.specs.Blocks.{Behind, BlockNode, Entries, Entry, Items, Key, Room, a_block, a_collection}
use Rattle.yaml_grammar.specs.Blocks.{a_leaf}
use Rattle.yaml_grammar.specs.Blocks.{a_mapping, a_sequence, an_entry, an_item, collection_key, in_a_later_line}
use Rattle.yaml_grammar.specs.Blocks.{in_its_line, in_its_own_column, in_line, key_alone, leaf_key, named_mapping}
use Rattle.yaml_grammar.specs.Blocks.{named_sequence, names_alone, no_entry, no_item, nothing, with_marks}
use Rattle.yaml_grammar.specs.Gaps.{next}
use Rattle.yaml_grammar.specs.Nodes.{Node, Nodes, Pairs}
use Rattle.yaml_grammar.specs.Plain.{as_key, by_columns}
use Rattle.yaml_reading.proofs.BracketForward.{brackets_forward, names_forward, next_ahead}
use Rattle.yaml_reading.proofs.Forward.{block_ahead, leaf_ahead}

module _ (text : List ℕ) where
  pub key_forward : {d i k : ℕ} {m : Node} → Key text d i k m → i ≤ k
  key_forward (leaf_key {p = p} {e = e} {x = x} h line leaf is ends) =
      omega (
        arith,
        names_forward text false h,
        next_ahead text p,
        leaf_ahead text as_key (next text p) (x, e) leaf,
        next_ahead text e,
      )
  key_forward (collection_key {p = p} {e = e} h line b ends) =
      omega (arith, names_forward text false h, next_ahead text p, brackets_forward text b, next_ahead text e)
  key_forward (names_key {p = p} h some line ends) = omega (arith, names_forward text false h, next_ahead text p)

  mutual
    pub node_forward : {d least i j : ℕ} {room : Room} {n : Node} → BlockNode text d least room i j n → i ≤ j
    node_forward (a_leaf {least = least} {p = p} {e = e} {x = x} h goes leaf is ends) =
        omega (
          arith,
          names_forward text false h,
          next_ahead text p,
          leaf_ahead text (by_columns least) (next text p) (x, e) leaf,
          next_ahead text e,
        )
    node_forward (a_block {least = least} {p = p} {e = e} {said = said} h goes block) =
        omega (
          arith,
          names_forward text false h,
          next_ahead text p,
          block_ahead text least (next text p) (e, said) block,
          next_ahead text e,
        )
    node_forward (a_collection {p = p} {e = e} h goes b ends) =
        omega (arith, names_forward text false h, next_ahead text p, brackets_forward text b, next_ahead text e)
    node_forward (a_sequence takes mark items) = items_forward items
    node_forward (a_mapping takes inside entries) = entries_forward entries
    node_forward (named_sequence {p = p} h ends inner mark items) =
        omega (arith, names_forward text false h, next_ahead text p, items_forward items)
    node_forward (named_mapping {p = p} h ends inner entries) =
        omega (arith, names_forward text false h, next_ahead text p, entries_forward entries)
    node_forward (names_alone {p = p} h some ends out other) =
        omega (arith, names_forward text false h, next_ahead text p)

    pub behind_forward : {d c i j : ℕ} {room : Room} {n : Node} → Behind text d c room i j n → i ≤ j
    behind_forward (in_its_line {i = i} ends n) = omega (arith, next_ahead text i, node_forward n)
    behind_forward (in_a_later_line {i = i} ends inner n) = omega (arith, next_ahead text i, node_forward n)
    behind_forward (in_its_own_column {i = i} ends own items) = omega (arith, next_ahead text i, items_forward items)
    behind_forward (nothing {i = i} ends out other) = next_ahead text i

    items_forward : {d c i j : ℕ} {ns : Nodes} → Items text d c i j ns → i ≤ j
    items_forward (no_item item out) = omega arith
    items_forward (an_item item n ns) = omega (arith, behind_forward n, items_forward ns)

    entries_forward : {d c i j : ℕ} {ps : Pairs} → Entries text d c i j ps → i ≤ j
    entries_forward (no_entry here out) = omega arith
    entries_forward (an_entry here n ps) = omega (arith, entry_forward n, entries_forward ps)

    pub entry_forward : {d c i j : ℕ} {m n : Node} → Entry text d c i j m n → i < j
    entry_forward (in_line key n) = omega (arith, key_forward key, behind_forward n)
    entry_forward (with_marks mark m colon n) = omega (arith, behind_forward m, behind_forward n)
    entry_forward (key_alone mark m colon) = omega (arith, behind_forward m)
