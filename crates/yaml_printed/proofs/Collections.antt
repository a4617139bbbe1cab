-- Collections by columns where they are printed.
use Rattle.std.proofs.Common.{◌≡◌, ℕ, suc, true, false, ◌||◌, refl, sym}
use Rattle.std.proofs.Common.{subst, ap, ◌∙◌, List, [], ◌∷◌, ◌++◌, length, nat_le}
use Rattle.std.proofs.Common.{Option, None, Some}
use Rattle.yaml_base.specs.EmitEvents.{emit_sequence_start, emit_sequence_end, emit_mapping_start, emit_mapping_end}
use Rattle.yaml_base.specs.EmitTree.{EmitNode, emit_sequence_node, emit_mapping_node}
use Rattle.yaml_base.specs.EmitTree.{EmitNodes, EmitPairs, emit_nodes_events, emit_pairs_events}
use Rattle.yaml_base.specs.MarkedEvents.{events_in}
use Rattle.yaml_base.specs.PlainEvent.{sequence_start, sequence_end, mapping_start, mapping_end}
use Rattle.yaml_base.specs.Renders.{Renders}
use Rattle.yaml_grammar.specs.Blocks.{Room, takes_columns, is_own, later, BlockNode}
use Rattle.yaml_grammar.specs.Blocks.{in_its_line, in_a_later_line, in_its_own_column, a_sequence, a_mapping}
use Rattle.yaml_grammar.specs.Blocks.{named_sequence, named_mapping, Items, Entries}
use Rattle.yaml_grammar.specs.Bytes.{column, is_mark, is_over}
use Rattle.yaml_grammar.specs.Gaps.{is_within, next}
use Rattle.yaml_grammar.specs.Names.{Names, names_at, unnamed}
use Rattle.yaml_grammar.specs.Nodes.{mapping, mark, sequence, end_mark, nodes_events, pairs_events}
use Rattle.yaml_printed.proofs.Finds.{Found, Here, ItemsFound, PairsFound}
use Rattle.yaml_printed.proofs.Finds.{renders_append}
use Rattle.yaml_printed.proofs.Rests.{Rest, begins_token, line_ends}
use Rattle.yaml_printed.proofs.Rests.{line_goes_on, next_space, Next}

-- the names of a node: its tag
abbrev pub names_of : Option (List ℕ) → Names
names_of tag = record { anchor = None; tag = tag }

renders_sequence : (text : List ℕ) (tag : Option (List ℕ)) (i j d c k l : ℕ) (ns : EmitNodes)
    (x : ItemsFound text d c k j ns)
    → Renders (emit_sequence_start tag ∷ (emit_nodes_events ns ++ emit_sequence_end ∷ []))
    (events_in ((sequence_start None tag, mark text i) ∷ (nodes_events x.nodes ++ (sequence_end, end_mark text l j)
    ∷ [])))
renders_sequence text tag i j d c k l ns x = (
  refl,
  renders_append (emit_nodes_events ns) (emit_sequence_end ∷ []) (nodes_events x.nodes)
      ((sequence_end, end_mark text l j) ∷ []) x.same (refl, tt),
)

renders_mapping : (text : List ℕ) (tag : Option (List ℕ)) (i j d c k l : ℕ) (ps : EmitPairs)
    (x : PairsFound text d c k j ps)
    → Renders (emit_mapping_start tag ∷ (emit_pairs_events ps ++ emit_mapping_end ∷ []))
    (events_in ((mapping_start None tag, mark text i) ∷ (pairs_events x.pairs ++ (mapping_end, end_mark text l j)
    ∷ [])))
renders_mapping text tag i j d c k l ps x = (
  refl,
  renders_append (emit_pairs_events ps) (emit_mapping_end ∷ []) (pairs_events x.pairs)
      ((mapping_end, end_mark text l j) ∷ []) x.same (refl, tt),
)

module _ (text : List ℕ) (d c i j : ℕ) where
  -- a collection whose first part stands here
  pub sequence_here : (least : ℕ) (room : Room) (ns : EmitNodes) → takes_columns room ≡ true → is_mark text 45 i ≡ true
      → column text i ≡ c → ItemsFound text d c i j ns → Here text (suc d) least room i j (emit_sequence_node None ns)
  sequence_here least room ns takes dash col x = record {
    node = sequence (mark text i) unnamed x.nodes (end_mark text (column text i) j);
    stands = a_sequence takes dash (subst (λ q. Items text d q i j x.nodes) (sym col) x.items);
    same = renders_sequence text None i j d c i (column text i) ns x;
  }

  pub mapping_here : (least : ℕ) (room : Room) (ps : EmitPairs) → takes_columns room ≡ true → is_over text i ≡ false
      → column text i ≡ c → PairsFound text d c i j ps → Here text (suc d) least room i j (emit_mapping_node None ps)
  mapping_here least room ps takes over col x = record {
    node = mapping (mark text i) unnamed x.pairs (end_mark text (column text i) j);
    stands = a_mapping takes over (subst (λ q. Entries text d q i j x.pairs) (sym col) x.entries);
    same = renders_mapping text None i j d c i (column text i) ps x;
  }

  -- a collection in a line behind its names
  pub named_sequence_here : (least : ℕ) (room : Room) (tag : Option (List ℕ)) (p k : ℕ) (ns : EmitNodes)
      → names_at text false i ≡ Some (names_of tag, p) → Next text p k true
      → (is_within text least k || is_own text room least k) ≡ true → is_mark text 45 k ≡ true → column text k ≡ c
      → ItemsFound text d c k j ns → Here text (suc d) least room i j (emit_sequence_node tag ns)
  named_sequence_here least room tag p k ns named n within dash col x = record {
    node = sequence (mark text i) (names_of tag) x.nodes (end_mark text (column text (next text p)) j);
    stands = named_sequence named (line_ends n)
        (ap (λ q. is_within text least q || is_own text room least q) n.there ∙ within)
        (ap (is_mark text 45) n.there ∙ dash)
        (subst (λ q. Items text d (column text q) q j x.nodes) (sym n.there)
        (subst (λ q. Items text d q k j x.nodes) (sym col) x.items));
    same = renders_sequence text tag i j d c k (column text (next text p)) ns x;
  }

  pub named_mapping_here : (least : ℕ) (room : Room) (tag : Option (List ℕ)) (p k : ℕ) (ps : EmitPairs)
      → names_at text false i ≡ Some (names_of tag, p) → Next text p k true → is_within text least k ≡ true
      → column text k ≡ c → PairsFound text d c k j ps → Here text (suc d) least room i j (emit_mapping_node tag ps)
  named_mapping_here least room tag p k ps named n within col x = record {
    node = mapping (mark text i) (names_of tag) x.pairs (end_mark text (column text (next text p)) j);
    stands = named_mapping named (line_ends n) (ap (is_within text least) n.there ∙ within)
        (subst (λ q. Entries text d (column text q) q j x.pairs) (sym n.there)
        (subst (λ q. Entries text d q k j x.pairs) (sym col) x.entries));
    same = renders_mapping text tag i j d c k (column text (next text p)) ps x;
  }

-- ---- behind an indicator

pub behind_space : (text : List ℕ) (d c : ℕ) (room : Room) (i j : ℕ) (n : EmitNode) (xs : List ℕ)
    → Rest text i (32 ∷ xs)
    → begins_token xs ≡ true → nat_le (length text) (suc i) ≡ false → Here text d (suc c) room (suc i) j n
    → Found text d c room i j n
behind_space text d c room i j n xs r token inside x =
    let s = next_space r token in
    record {
      node = x.node;
      behind = in_its_line (line_goes_on s inside)
          (subst (λ k. BlockNode text d (suc c) room k j x.node) (sym s.there) x.stands);
      same = x.same;
    }

pub in_later_line : (text : List ℕ) (d c : ℕ) (room : Room) (i j k : ℕ) (n : EmitNode) → Next text i k true
    → is_within text (suc c) k ≡ true → Here text d (suc c) (later room) k j n → Found text d c room i j n
in_later_line text d c room i j k n s within x = record {
  node = x.node;
  behind = in_a_later_line (line_ends s) (ap (is_within text (suc c)) s.there ∙ within)
      (subst (λ q. BlockNode text d (suc c) (later room) q j x.node) (sym s.there) x.stands);
  same = x.same;
}

pub in_own_column : (text : List ℕ) (d c : ℕ) (room : Room) (i j k : ℕ) (ns : EmitNodes) → Next text i k true
    → is_own text room (suc c) k ≡ true → ItemsFound text d c k j ns
    → Found text (suc d) c room i j (emit_sequence_node None ns)
in_own_column text d c room i j k ns s own x = record {
  node = sequence (mark text (next text i)) unnamed x.nodes (end_mark text c j);
  behind = in_its_own_column (line_ends s) (ap (is_own text room (suc c)) s.there ∙ own)
      (subst (λ q. Items text d c q j x.nodes) (sym s.there) x.items);
  same = renders_sequence text None (next text i) j d c k c ns x;
}
