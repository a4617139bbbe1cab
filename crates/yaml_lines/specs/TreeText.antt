-- The text of a value, as it prints.
pub use Rattle.yaml_tree.specs.TreeText.{tree_text, tree_texts, pair_texts}
