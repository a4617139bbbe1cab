-- The texts of values and entries as the code has them, with a comma before each but the first.
use Rattle.std.specs.Prelude.{ℕ, List, [], ◌∷◌, ◌++◌, codes}
use Rattle.std.specs.List.{flat_map}
use Rattle.yaml_tree.specs.TreeText.{tree_text}
use Rattle.yaml_tree.specs.View.{tree_of}
use Rattle.yaml_tree.specs.declared.mapping.Entry.{Entry}
use Rattle.yaml_tree.specs.declared.value.Value.{Value}

-- a value behind a comma
abbrev pub later_value : Value → List ℕ
later_value v = codes ", " ++ tree_text (tree_of v)

-- values in a row
abbrev pub values_text : List Value → List ℕ
values_text [] = []
values_text (v ∷ vs) = tree_text (tree_of v) ++ flat_map later_value vs

-- an entry: its key, a colon and its value
abbrev pub entry_text : Entry → List ℕ
entry_text e = tree_text (tree_of e.key) ++ (codes ": " ++ tree_text (tree_of e.value))

-- an entry behind a comma
abbrev pub later_entry : Entry → List ℕ
later_entry e = codes ", " ++ entry_text e

-- entries in a row
abbrev pub entries_text : List Entry → List ℕ
entries_text [] = []
entries_text (e ∷ es) = entry_text e ++ flat_map later_entry es
