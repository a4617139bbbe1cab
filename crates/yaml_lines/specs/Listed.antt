-- Texts in a row, as values print them.
pub use Rattle.yaml_tree.specs.Listed.{before_part, listed}
