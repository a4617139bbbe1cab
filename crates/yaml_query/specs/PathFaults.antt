-- What is answered to the text of a path.
use Rattle.std.specs.Prelude.{ℕ, ◌≡◌, List, Err}
use Rattle.yaml_query.specs.PathText.{path_steps}
use Rattle.yaml_query.specs.declared.parse.PathFault.{PathFault}
use Rattle.yaml_query.specs.declared.parse.PathFault.TheVariants as fault

-- the text is no path, from this column on; or memory is wanting
abbrev pub IsFaultOf : (text : List ℕ) → PathFault → Type 0
IsFaultOf text fault.Memory = Unit {0}
IsFaultOf text (fault.At column) = path_steps text ≡ Err column
