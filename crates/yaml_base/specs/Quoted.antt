-- Text and bytes between double quotes, as faults and values print them.
pub use Rattle.yaml_tree.specs.Quoted.{hex_escape, escaped, quoted, quoted_text, visible}
