-- The texts of data of the program.
use Rattle.std.specs.Prelude.{ℕ, List, ◌++◌, codes}
use Rattle.yaml_shape.specs.DataView.{data_of}
use Rattle.yaml_shape.specs.declared.data.Data.{Data}
use Rattle.yaml_shape.specs.declared.data.Entry.{Entry, out-Entry}
use Rattle.yaml_lines.specs.DataText.{data_text}

-- the text of an item
abbrev pub item_text : Data → List ℕ
item_text d = data_text (data_of d)

-- the text of an entry
abbrev pub data_entry_text : Entry → List ℕ
data_entry_text e = data_text (data_of (out-Entry e).key) ++ (codes ": " ++ data_text (data_of (out-Entry e).value))
