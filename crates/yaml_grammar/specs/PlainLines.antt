-- Which texts stand without quotes in one line, and what may stand behind the line so that they end there.
use Rattle.std.specs.Prelude.{ℕ, suc, Bool, true, false, not, ◌==◌, ◌&&◌, ◌||◌, if◌then◌else◌, nat_lt, List, [], ◌∷◌}
use Rattle.std.specs.Prelude.{◌++◌, codes}
use Rattle.yaml_grammar.specs.Bytes.{at, is_gap, is_indicator, is_one_of}

-- the rest of such a text, behind a space or not: no tab and no end of a line, no `:` before a gap or as the last byte,
-- no `#` behind a space, and no space as the last byte
abbrev pub fits_line : (behind_space : Bool) → List ℕ → Bool
fits_line behind_space [] = not behind_space
fits_line behind_space (c ∷ cs) =
    (c == 32 || (not (is_gap c) && (not (c == 58 && is_gap (at cs 0)) && not (c == 35 && behind_space))))
    && fits_line (c == 32) cs

-- these bytes, which begin in a column, have no text in a column or further in before a line with text
abbrev pub is_less_in : (least column' : ℕ) → List ℕ → Bool
is_less_in least column' [] = true
is_less_in least column' (c ∷ cs) =
    let behind_space = is_less_in least (suc column') cs in
    let in_later_line = is_less_in least 0 cs in
    if c == 32 then behind_space else if c == 10 then in_later_line else nat_lt column' least

-- such a text begins so: with no indicator, and with `-`, `?` or `:` only before a byte that is no gap
abbrev pub begins_line : List ℕ → Bool
begins_line [] = false
begins_line (c ∷ cs) =
    not (is_gap c) && (not (is_indicator c) && (not (is_one_of (codes "-?:") c) || not (is_gap (at cs 0))))

-- the text may stand in a line without quotes
abbrev pub is_plain_line : List ℕ → Bool
is_plain_line text = begins_line text && fits_line false text

-- each of these as an item of a sequence, in a line of its own
abbrev pub item_lines : List (List ℕ) → List ℕ
item_lines [] = []
item_lines (text ∷ texts) = 45 ∷ 32 ∷ (text ++ 10 ∷ item_lines texts)
