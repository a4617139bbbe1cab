-- What a value is written as may be printed.
use Rattle.std.proofs.Common.{◌≡◌, ℕ, ◌≤◌, ◌&&◌, true, false, sym, ap, ◌∙◌, subst, arith, List, ◌++◌, Option, None, Ok}
use Rattle.std.proofs.lemmas.Bool.{and_parts}
use Rattle.std.proofs.lemmas.Str.{IsUtf8-from_is_utf8}
use Rattle.std.specs.Fmt.{signed_decimal}
use Rattle.yaml_base.specs.EmitTree.{EmitNode, emit_sequence_node, emit_mapping_node}
use Rattle.yaml_base.specs.EmitTree.{EmitNodes, emit_node, EmitPairs, emit_pair, emit_node_events, emit_nodes_events}
use Rattle.yaml_base.specs.EmitTree.{emit_pairs_events}
use Rattle.yaml_emit.specs.StreamTexts.{is_simple_key}
use Rattle.yaml_tree.specs.Mapping.{keys_distinct}
use Rattle.yaml_tree.specs.Tag.{is_tag}
use Rattle.yaml_tree.specs.Tree.{Tree, null, boolean, number, string, sequence, mapping, tagged, Trees, no_trees, tree}
use Rattle.yaml_tree.specs.Tree.{Pairs, no_pairs as no_pairs_here, pair}
use Rattle.yaml_tree.specs.Valid.{is_value, are_values, are_pairs}
use Rattle.yaml_write.specs.Outcomes.{joined, null_node, plain_node, string_node}
use Rattle.yaml_write.specs.WrittenValue.{written_value, written_values, written_pairs, pair_before, pair_node}
use Rattle.yaml_write.specs.WrittenValue.{truth_text}
use Rattle.yaml_printed.specs.Nestings.{tree_nestings, trees_nestings, pairs_nestings}
use Rattle.yaml_printed.specs.Printable.{ArePrintable, PairsPrintable, no_items, an_item, no_pairs, a_pair}
use Rattle.yaml_printed.proofs.Digits.{signed_simple}
use Rattle.yaml_printed.proofs.Outcomes.{same_answer, made_ok, joined_ok}
use Rattle.yaml_printed.proofs.WrittenLeaves.{Shown, Whole, WholeItems, WholePairs, whole_parts, leaf_shown, word_shown}
use Rattle.yaml_printed.proofs.WrittenLeaves.{null_word, truth_word, string_shown, sequence_shown, mapping_shown}
use Rattle.yaml_printed.proofs.WrittenTags.{IsText, no_text, a_text, value_is_text}

mutual
  pub value_shown : (v : Tree) (n : ℕ) {tag : Option (List ℕ)} (e : EmitNode) → IsText tag → is_value v ≡ true
      → tree_nestings v ≤ n → written_value tag v ≡ Ok e → Whole e → Shown n e
  value_shown null n {tag} e f held deep h w = leaf_shown (null_node tag) (word_shown n f null_word) h w
  value_shown (boolean b) n {tag} e f held deep h w =
      leaf_shown (plain_node tag (truth_text b)) (word_shown n f (truth_word b)) h w
  value_shown (number z) n {tag} e f held deep h w =
      leaf_shown (plain_node tag (signed_decimal z)) (word_shown n f (signed_simple z)) h w
  value_shown (string s) n {tag} e f held deep h w =
      leaf_shown (string_node tag s) (string_shown n f s (IsUtf8-from_is_utf8 s held)) h w
  value_shown (sequence ts) n {tag} e f held deep h w =
      let m = made_ok (emit_sequence_node tag) (written_values ts) e h in
      sequence_shown n (trees_nestings ts) f m.0 e m.2 w deep (λ k d v. values_shown ts k m.0 held d m.1 v)
  value_shown (mapping ps) n {tag} e f held deep h w =
      let m = made_ok (emit_mapping_node tag) (written_pairs ps) e h in
      let held = (and_parts (keys_distinct ps) (are_pairs ps) held).1 in
      mapping_shown n (pairs_nestings ps) f m.0 e m.2 w deep (λ k d v. pairs_shown ps k m.0 held d m.1 v)
  value_shown (tagged s t) n e no_text held deep h w =
      let p = and_parts (is_tag s) (is_value t) held in
      value_shown t n e (value_is_text s p.0) p.1 deep h w
  value_shown (tagged s t) n e (a_text u) held deep h w = absurd cc

  pub values_shown : (ts : Trees) (n : ℕ) (es : EmitNodes) → are_values ts ≡ true → trees_nestings ts ≤ n
      → written_values ts ≡ Ok es → WholeItems es → ArePrintable n es
  values_shown no_trees n es held deep h w = subst (ArePrintable n) (same_answer _ es h) no_items
  values_shown (tree t ts) n es held deep h w =
      let j = joined_ok emit_node (written_value None t) (written_values ts) es h in
      let p = whole_parts (emit_node_events j.0) (emit_nodes_events j.1) (subst WholeItems j.4 w) in
      let held = and_parts (is_value t) (are_values ts) held in
      let one = value_shown t n j.0 no_text held.0 (omega (arith, deep)) j.2 p.0 in
      subst (ArePrintable n) (sym j.4)
      (an_item (one.prints false) (values_shown ts n j.1 held.1 (omega (arith, deep)) j.3 p.1))

  pub pairs_shown : (ps : Pairs) (n : ℕ) (es : EmitPairs) → are_pairs ps ≡ true → pairs_nestings ps ≤ n
      → written_pairs ps ≡ Ok es → WholePairs es → PairsPrintable n es
  pairs_shown no_pairs_here n es held deep h w = subst (PairsPrintable n) (same_answer _ es h) no_pairs
  pairs_shown (pair k v ps) n es held deep h w =
      let both = joined pair_node (written_value None k) (written_value None v) in
      let j = joined_ok pair_before both (written_pairs ps) es h in
      let i = joined_ok pair_node (written_value None k) (written_value None v) j.0 j.2 in
      let is : es ≡ emit_pair i.0 i.1 j.1 = j.4 ∙ ap (λ p. pair_before p j.1) i.4 in
      let p = whole_parts (emit_node_events i.0) (emit_node_events i.1 ++ emit_pairs_events j.1)
      (subst WholePairs is w) in
      let q = whole_parts (emit_node_events i.1) (emit_pairs_events j.1) p.1 in
      let held = and_parts (is_value k) (is_value v && are_pairs ps) held in
      let more = and_parts (is_value v) (are_pairs ps) held.1 in
      let key = value_shown k n i.0 no_text held.0 (omega (arith, deep)) i.2 p.0 in
      let value = value_shown v n i.1 no_text more.0 (omega (arith, deep)) i.3 q.0 in
      subst (PairsPrintable n) (sym is)
      (a_pair (key.prints (is_simple_key i.0)) (value.prints false)
      (pairs_shown ps n j.1 more.1 (omega (arith, deep)) j.3 q.1))
