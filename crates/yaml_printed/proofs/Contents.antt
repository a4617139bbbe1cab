-- A leaf of a kind, an empty collection or a block stands behind whatever names stand before it.
use Rattle.std.proofs.Common.{◌≡◌, ℕ, suc, true, false, refl, sym, subst, ap, ◌∙◌, List, ◌∷◌}
use Rattle.std.proofs.Common.{Option, Some}
use Rattle.std.specs.Prelude.{IsTrue}
use Rattle.yaml_base.specs.EmitTree.{emit_scalar_node, emit_sequence_node, emit_mapping_node, no_emit_nodes}
use Rattle.yaml_base.specs.EmitTree.{no_emit_pairs}
use Rattle.yaml_base.specs.Renders.{permits}
use Rattle.yaml_base.specs.declared.emitter.AskedStyle.{AskedStyle}
use Rattle.yaml_base.specs.declared.event.ScalarStyle.{ScalarStyle}
use Rattle.yaml_base.specs.declared.event.ScalarStyle.TheVariants as style
use Rattle.yaml_grammar.specs.Blocks.{BlockNode, a_leaf, a_block, a_collection, block_style}
use Rattle.yaml_grammar.specs.BlockTexts.{block_at}
use Rattle.yaml_grammar.specs.Brackets.{Brackets, FlowEntries, FlowItems, curly, no_flow_entry, no_flow_item, square}
use Rattle.yaml_grammar.specs.Bytes.{at}
use Rattle.yaml_grammar.specs.Gaps.{next}
use Rattle.yaml_grammar.specs.Leaves.{in_style, leaf_at}
use Rattle.yaml_grammar.specs.Nodes.{mapping, mark, no_nodes, no_pairs, scalar_at, sequence}
use Rattle.yaml_grammar.specs.Plain.{by_columns}
use Rattle.yaml_printed.proofs.Aheads.{Ahead, next_ahead}
use Rattle.yaml_printed.proofs.Collections.{names_of}
use Rattle.yaml_printed.proofs.Inline.{Completes}
use Rattle.yaml_printed.proofs.Rests.{Rest, rest_at, rest_on, rest_place, next_token, line_ends, Next}

module _ {text : List ℕ} {least e j : ℕ} {after : List ℕ} (a : Ahead text least e j after) where
  end_of_line : {m : ℕ} → Rest text m (10 ∷ after) → Next text m j true
  end_of_line r = next_ahead after r (rest_place (rest_on r) a.rest) a

  -- a leaf, and the end of its line behind it
  pub leaf_completes : {d k m : ℕ} {tag : Option (List ℕ)} {said : List ℕ} {ask : AskedStyle} (how : ScalarStyle)
      → leaf_at text (by_columns least) k ≡ Some (in_style how said, m) → Rest text m (10 ∷ after)
      → IsTrue (permits ask how) → Completes text d least j tag k (emit_scalar_node tag said ask)
  leaf_completes {d = d} {m = m} {tag = tag} {said = said} how leaf r allowed room i p named there goes =
      let s = end_of_line r in
      let n = scalar_at text i (names_of tag) how said m in
      record {
        node = n;
        stands = subst (λ q. BlockNode text d least room i q n) s.there
            (a_leaf named goes (ap (leaf_at text (by_columns least)) there ∙ leaf) refl (line_ends s));
        same = ((_, refl, record { unanchored = refl; same_tag = refl; same_text = refl; permitted = allowed }), tt);
      }

  -- an empty sequence
  pub items_complete : {d k : ℕ} {tag : Option (List ℕ)} → Rest text k (91 ∷ 93 ∷ 10 ∷ after)
      → Completes text (suc d) least j tag k (emit_sequence_node tag no_emit_nodes)
  items_complete {d = d} {k = k} {tag = tag} r room i p named there goes =
      let inner : Next text (suc k) (suc k) false = next_token (rest_on r) refl in
      let s = end_of_line (rest_on (rest_on r)) in
      let n = sequence (mark text i) (names_of tag) no_nodes (mark text (suc k)) in
      let square' : Brackets text (suc d) i (names_of tag) k (suc (suc k)) n
      = square (rest_at r) (subst (λ q. FlowItems text d q (suc k) no_nodes) (sym inner.there)
      (no_flow_item (rest_at (rest_on r)))) in
      record {
        node = n;
        stands = subst (λ q. BlockNode text (suc d) least room i q n) s.there
            (a_collection named goes (subst (λ q. Brackets text (suc d) i (names_of tag) q (suc (suc k)) n)
            (sym there) square')
            (line_ends s));
        same = (refl, (refl, tt));
      }

  -- an empty mapping
  pub pairs_complete : {d k : ℕ} {tag : Option (List ℕ)} → Rest text k (123 ∷ 125 ∷ 10 ∷ after)
      → Completes text (suc d) least j tag k (emit_mapping_node tag no_emit_pairs)
  pairs_complete {d = d} {k = k} {tag = tag} r room i p named there goes =
      let inner : Next text (suc k) (suc k) false = next_token (rest_on r) refl in
      let s = end_of_line (rest_on (rest_on r)) in
      let n = mapping (mark text i) (names_of tag) no_pairs (mark text (suc k)) in
      let curly' : Brackets text (suc d) i (names_of tag) k (suc (suc k)) n
      = curly (rest_at r) (subst (λ q. FlowEntries text d q (suc k) no_pairs) (sym inner.there)
      (no_flow_entry (rest_at (rest_on r)))) in
      record {
        node = n;
        stands = subst (λ q. BlockNode text (suc d) least room i q n) s.there
            (a_collection named goes (subst (λ q. Brackets text (suc d) i (names_of tag) q (suc (suc k)) n)
            (sym there) curly')
            (line_ends s));
        same = (refl, (refl, tt));
      }

-- a literal block, up to where the next token stands
pub block_completes : {text : List ℕ} {d least k m j : ℕ} {tag : Option (List ℕ)} {said : List ℕ} {ask : AskedStyle}
    → at text k ≡ 124 → block_at text least k ≡ Some (m, said) → next text m ≡ j → IsTrue (permits ask style.Literal)
    → Completes text d least j tag k (emit_scalar_node tag said ask)
block_completes {text = text} {d = d} {least = least} {m = m} {tag = tag} {said = said} {ask = ask} bar block behind
    allowed room i p named there goes =
    let n = scalar_at text i (names_of tag) (block_style (at text (next text p))) said m in
    let literal : block_style (at text (next text p)) ≡ style.Literal
    = ap block_style (ap (at text) there ∙ bar) in
    record {
      node = n;
      stands =
          subst (λ q. BlockNode text d least room i q n) behind (a_block named goes
          (ap (block_at text least) there ∙ block));
      same = (
        (
          _,
          refl,
          record {
            unanchored = refl;
            same_tag = refl;
            same_text = refl;
            permitted = subst
                (λ s. IsTrue (permits ask s)) (sym literal) allowed;
          },
        ),
        tt,
      );
    }
