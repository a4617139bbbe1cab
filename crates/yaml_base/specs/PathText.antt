-- The printed text of a path.
use Rattle.std.specs.Prelude.{ℕ, Bool, true, false, List, ◌++◌, if◌then◌else◌, codes, decimal}
use Rattle.yaml_base.specs.declared.path.Path.{Path, Root, Seq', Map', Alias', Unknown'}

-- the way to the node that is reached when aliases are left out is empty
abbrev pub is_root : Path → Bool
is_root Root = true
is_root (Seq' p parent index) = false
is_root (Map' p parent key) = false
is_root (Alias' p parent) = is_root parent
is_root (Unknown' p parent) = false

-- a name under a parent: alone under the root, and else behind the parent's text and a dot
abbrev pub name_under : Bool → List ℕ → List ℕ → List ℕ
name_under root parent name = if root then name else parent ++ (codes "." ++ name)

-- a dot for the root; an index stands in brackets, an unknown key is a question mark, and an alias adds nothing
abbrev pub path_text : Path → List ℕ
path_text Root = codes "."
path_text (Seq' p parent index) = path_text parent ++ (codes "[" ++ (decimal index ++ codes "]"))
path_text (Map' p parent key) = name_under (is_root parent) (path_text parent) key.now
path_text (Alias' p parent) = path_text parent
path_text (Unknown' p parent) = name_under (is_root parent) (path_text parent) (codes "?")
