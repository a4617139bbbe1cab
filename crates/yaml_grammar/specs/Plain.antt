-- Plain text: without quotes, in one line or over lines.
use Rattle.std.specs.Prelude.{ℕ, suc, ◌+◌, Bool, true, false, not, ◌==◌, ◌&&◌, ◌||◌, if◌then◌else◌, nat_le}
use Rattle.std.specs.Prelude.{List, [], ◌∷◌, ◌++◌, Some, None, codes, drop}
use Rattle.std.specs.Int.{is_in_range}
use Rattle.yaml_grammar.specs.Bytes.{at, column, is_bracket, is_gap, is_indicator, is_one_of, parts, parts_documents}
use Rattle.yaml_grammar.specs.Folding.{Passed, Rest, and_blank, and_feed, has_feed, is_some_passed, nothing_passed}
use Rattle.yaml_grammar.specs.Folding.{said_by, with_bytes}

-- where a scalar stands: as a key in a line, in brackets, or where lines go on in a column or further in
pub data Context : Type 0 where
  as_key : Context
  in_brackets : Context
  by_columns : (least : ℕ) → Context

-- in brackets
abbrev pub is_flow : Context → Bool
is_flow as_key = false
is_flow in_brackets = true
is_flow (by_columns least) = false

-- a further line may begin in this column
abbrev pub goes_on_in : Context → (column' : ℕ) → Bool
goes_on_in as_key c = false
goes_on_in in_brackets c = true
goes_on_in (by_columns least) c = nat_le least c

-- `-`, `?` or `:` begins plain text before a byte that is no gap; in brackets `-` alone does, and before no bracket
abbrev pub is_safe : (flow : Bool) → (first second : ℕ) → Bool
is_safe flow c d = not (is_gap d) && not (flow && (is_bracket d || (c == 63 || c == 58)))

-- plain text begins here
abbrev pub begins_plain : List ℕ → (flow : Bool) → ℕ → Bool
begins_plain text flow i =
    let c = at text i in
    not (is_gap c) && (not (is_indicator c) && (not (parts_documents text i)
    && (not (is_one_of (codes "-?:") c) || is_safe flow c (at text (i + 1)))))

-- Plain text stops before these bytes: a tab or an end, `:` before a gap, `#` behind a blank or a line feed, a bracket
-- in brackets, and behind a line feed a column not far enough in, or `---` or `...`.
abbrev pub stops_plain : Context → (column' : ℕ) → Passed → (c : ℕ) → (cs : List ℕ) → Bool
stops_plain context column' passed c cs =
    is_gap c || ((c == 58 && is_gap (at cs 0)) || ((c == 35 && is_some_passed passed)
    || ((is_flow context && is_bracket c)
    || (has_feed passed && (not (goes_on_in context column') || (column' == 0 && parts (c ∷ cs)))))))

-- a `:` in brackets, before a bracket or `?`, which stands in no text
abbrev pub is_refused : Context → (c : ℕ) → (cs : List ℕ) → Bool
is_refused context c cs = is_flow context && (c == 58 && (is_bracket (at cs 0) || at cs 0 == 63))

-- the column behind a byte
abbrev pub column_behind : (column' c : ℕ) → ℕ
column_behind column' c = if is_in_range 0x80 0xBF c then column' else suc column'

-- the rest of a plain text, from a column on, behind so many bytes that were passed
abbrev pub plain_rest : Context → (column' skipped : ℕ) → Passed → List ℕ → Rest
plain_rest context column' skipped passed [] = Some (0, [])
plain_rest context column' skipped passed (c ∷ cs) =
    let behind_space = plain_rest context (suc column') (suc skipped) (and_blank passed c) cs in
    let in_later_line = plain_rest context 0 (suc skipped) (and_feed passed) cs in
    let rest = plain_rest context (column_behind column' c) 0 nothing_passed cs in
    let with_byte = with_bytes (suc skipped) (said_by passed ++ c ∷ []) rest in
    if c == 32 then behind_space else if c == 10 then in_later_line
    else if stops_plain context column' passed c cs then Some (0, [])
    else if is_refused context c cs then None else with_byte

-- the plain text that begins here
abbrev pub plain_at : List ℕ → Context → ℕ → Rest
plain_at text context i =
    let rest = plain_rest context (column text i) 0 nothing_passed (drop i text) in
    if begins_plain text (is_flow context) i then rest else None
