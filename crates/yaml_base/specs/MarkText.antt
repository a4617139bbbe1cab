-- The printed text of a mark.
use Rattle.std.specs.Prelude.{ℕ, ◌+◌, Bool, ◌==◌, ◌&&◌, List, ◌++◌, if◌then◌else◌, codes, decimal}
use Rattle.yaml_base.specs.Position.{Position}

-- line and column are both 0, as where no place is known
abbrev pub is_start : Position → Bool
is_start m = m.line == 0 && m.column == 0

-- both are in the same line and column
abbrev pub is_beside : Position → Position → Bool
is_beside m n = m.line == n.line && m.column == n.column

-- the line and the column, counted from 1, or the index where both are 0
abbrev pub mark_text : Position → List ℕ
mark_text m = if is_start m then codes "position " ++ decimal m.index
    else codes "line " ++ (decimal (m.line + 1) ++ (codes " column " ++ decimal (m.column + 1)))

-- the same in debug
abbrev pub mark_debug_text : Position → List ℕ
mark_debug_text m = if is_start m then codes "Mark { index: " ++ (decimal m.index ++ codes " }")
    else codes "Mark { line: " ++ (decimal (m.line + 1)
    ++ (codes ", column: " ++ (decimal (m.column + 1) ++ codes " }")))
