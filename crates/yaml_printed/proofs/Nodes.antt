-- A printed tree stands where it is printed: by induction over the tree.
use Rattle.std.proofs.Common.{◌≡◌, ℕ, Bool, false, refl, sym}
use Rattle.std.proofs.Common.{ap, ◌∙◌, List}
use Rattle.yaml_base.specs.EmitTree.{EmitNode}
use Rattle.yaml_base.specs.EmitTree.{EmitNodes, EmitPairs}
use Rattle.yaml_emit.specs.StreamTexts.{is_simple_key}
use Rattle.yaml_grammar.specs.Blocks.{Room, anything, part}
use Rattle.yaml_printed.specs.Printable.{IsPrintable, ArePrintable, PairsPrintable, may_ask}
use Rattle.yaml_printed.specs.Printable.{a_scalar, a_sequence, a_mapping, no_items, an_item, no_pairs, a_pair}
use Rattle.yaml_printed.proofs.Finds.{BehindIs, ItemsAre, PairsAre}
use Rattle.yaml_printed.proofs.Finds.{no_items_stand, no_pairs_stand}
use Rattle.yaml_printed.proofs.Keys.{key_is}
use Rattle.yaml_printed.proofs.ScalarNodes.{scalar_found, no_items_found, no_pairs_found}
use Rattle.yaml_printed.proofs.ColumnNodes.{items_found, pairs_found, items_more, pairs_more, entry_by}

module _ (text : List ℕ) where
  mutual
    pub node_behind : {d : ℕ} {key : Bool} {n : EmitNode} → IsPrintable d key n → key ≡ false → (room : Room) (c : ℕ)
        → BehindIs text d c room n
    node_behind (a_scalar {d = d} {key = key} {tag = tag} {text = t} {style = ask} f u may) no_key room c i e j after
        r col a own =
        scalar_found text d c room tag f t u ask (ap (λ b. may_ask ask b t) (sym no_key) ∙ may) i e j after r col a own
    node_behind (a_sequence {d = d} {tag = tag} f no_items) no_key room c i e j after r col a own =
        no_items_found text d c room tag f i e j after r col a own
    node_behind (a_sequence {d = d} {tag = tag} f (an_item {n = n} {ns = ns} g gs)) no_key room c i e j after r col a
        own =
        items_found text d c room tag f n ns (λ q. node_behind g refl anything q) (λ q. items_behind gs q) i e j
        after r col a own
    node_behind (a_mapping {d = d} {tag = tag} f no_pairs) no_key room c i e j after r col a own =
        no_pairs_found text d c room tag f i e j after r col a own
    node_behind (a_mapping {d = d} {tag = tag} f (a_pair {k = k} {v = v} {ps = ps} g h hs)) no_key room c i e j after
        r col a own =
        pairs_found text d c room tag f k v ps
        (λ q. entry_by text d q k v (is_simple_key k) (λ s. key_is text d q k g s) (λ s. node_behind g s part q)
        (λ room'. node_behind h refl room' q)) (λ q. pairs_behind hs q) i e j after r col a own

    pub items_behind : {d : ℕ} {ns : EmitNodes} → ArePrintable d ns → (c : ℕ) → ItemsAre text d c ns
    items_behind (no_items {d = d}) c i e j after r l a end = no_items_stand text d c i e j after r a end
    items_behind (an_item {d = d} {n = n} {ns = ns} g gs) c i e j after r l a end =
        items_more text d c n ns (node_behind g refl anything c) (items_behind gs c) i e j after r l a end

    pub pairs_behind : {d : ℕ} {ps : EmitPairs} → PairsPrintable d ps → (c : ℕ) → PairsAre text d c ps
    pairs_behind (no_pairs {d = d}) c i e j after r l a un no_dash = no_pairs_stand text d c i e j after r a un no_dash
    pairs_behind (a_pair {d = d} {k = k} {v = v} {ps = ps} g h hs) c i e j after r l a un no_dash =
        pairs_more text d c k v ps (entry_by text d c k v (is_simple_key k) (λ s. key_is text d c k g s)
        (λ s. node_behind g s part c)
        (λ room'. node_behind h refl room' c)) (pairs_behind hs c) i e j after r l a un no_dash
