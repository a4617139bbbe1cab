-- The texts of values and entries in a row are those of their trees and pairs.
use Rattle.std.specs.Prelude.{codes}
use Rattle.std.specs.List.{flat_map}
use Rattle.std.proofs.Common.{◌≡◌, List, [], ◌∷◌, ◌++◌, refl, ap}
use Rattle.yaml_tree.specs.EntryText.{entries_text, entry_text, later_entry, later_value, values_text}
use Rattle.yaml_tree.specs.Listed.{listed}
use Rattle.yaml_tree.specs.TreeText.{tree_text, tree_texts, pair_texts}
use Rattle.yaml_tree.specs.View.{tree_of, trees_of, entry_pairs}
use Rattle.yaml_tree.specs.declared.mapping.Entry.{Entry}
use Rattle.yaml_tree.specs.declared.value.Value.{Value}

later-values : (vs : List Value)
    → flat_map later_value vs ≡ flat_map (λ text. codes ", " ++ text) (tree_texts (trees_of vs))
later-values [] = refl
later-values (v ∷ vs) = ap (λ text. later_value v ++ text) (later-values vs)

-- values in a row
pub values-listed : (vs : List Value) → values_text vs ≡ listed (tree_texts (trees_of vs))
values-listed [] = refl
values-listed (v ∷ vs) = ap (λ text. tree_text (tree_of v) ++ text) (later-values vs)

later-entries : (es : List Entry)
    → flat_map later_entry es ≡ flat_map (λ text. codes ", " ++ text) (pair_texts (entry_pairs es))
later-entries [] = refl
later-entries (e ∷ es) = ap (λ text. later_entry e ++ text) (later-entries es)

-- entries in a row
pub entries-listed : (es : List Entry) → entries_text es ≡ listed (pair_texts (entry_pairs es))
entries-listed [] = refl
entries-listed (e ∷ es) = ap (λ text. entry_text e ++ text) (later-entries es)
