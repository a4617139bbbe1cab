-- Blocks of lines end within the text.
use Rattle.std.proofs.Common.{◌≡◌, ℕ, suc, ◌+◌, ◌≤◌, ◌==◌, ◌&&◌, ◌||◌, Bool, true, false, List, [], ◌∷◌, ◌++◌, Option}
use Rattle.std.proofs.Common.{Some, None, arith, subst, drop, length, length-drop, inl, inr, option_map, ◌⊎◌}
use Rattle.std.specs.Prelude.{if◌then◌else◌, nat_le, nat_lt}
use Rattle.std.proofs.lemmas.Bool.{and_parts, false≢true, or_cases}
use Rattle.yaml_grammar.specs.BlockTexts.{Chomping, Header, Row, behind, block_at, block_lines, chomped, chomping_of}
use Rattle.yaml_grammar.specs.BlockTexts.{clip, header_of, indent_of, into_first, is_remark, is_sign, is_spaces}
use Rattle.yaml_grammar.specs.BlockTexts.{is_step, joined, lines_of, no_row, row_of, rows, spaces, step_of, with_line}
use Rattle.yaml_grammar.specs.Bytes.{at}
use Rattle.yaml_reading.proofs.Options.{either, map_some, no_some, same_some}
use Rattle.yaml_checked.proofs.WithinText.{by_test, is_inside}

-- how many bytes lines have, each with a line feed
abbrev size_of : List (List ℕ) → ℕ
size_of [] = 0
size_of (line ∷ lines) = suc (length line) + size_of lines

first_size : (c n : ℕ) (lines : List (List ℕ)) → size_of lines ≡ suc n → size_of (into_first c lines) ≡ suc (suc n)
first_size c n [] h = absurd (omega (arith, h))
first_size c n (line ∷ lines) h = omega (arith, h)

lines_size : (cs : List ℕ) → size_of (lines_of cs) ≡ suc (length cs)
lines_size [] = omega arith
lines_size (c ∷ cs) =
    let lines = lines_of cs in
    either (λ (x : List (List ℕ)). size_of x ≡ suc (length (c ∷ cs))) (c == 10) ([] ∷ lines) (into_first c lines)
    (omega (arith, lines_size cs)) (first_size c (length cs) lines (lines_size cs))

rows_short : (folds : Bool) (chomping : Chomping) (indent : ℕ) (last : Row) (empty : ℕ) (line : List ℕ)
    (lines : List (List ℕ))
    → suc (rows folds chomping indent last empty (line ∷ lines)).0 ≤ size_of (line ∷ lines)
rows_short folds chomping indent last empty line [] =
    let content = drop indent line in
    let now = row_of (at content 0) in
    let text = joined folds last now empty ++ content in
    let one_empty = with_line line [] (rows folds chomping indent last (suc empty) []) in
    let stopped : ℕ × List ℕ = (0, chomped chomping last empty) in
    let whole : ℕ × List ℕ = (length line, text) in
    let fits : ℕ × List ℕ → Type 0 = λ r. suc r.0 ≤ size_of (line ∷ []) in
    by_test fits (is_spaces line && (nat_le (length line) indent && false)) one_empty
    (if nat_lt (spaces line) indent || nat_le (length line) indent then stopped else whole)
    (λ e. absurd (false≢true (and_parts (nat_le (length line) indent) false (and_parts (is_spaces line) _ e).1).1))
    (λ _. either fits (nat_lt (spaces line) indent || nat_le (length line) indent) stopped whole (omega arith)
    (omega arith))
rows_short folds chomping indent last empty line (next ∷ lines) =
    let content = drop indent line in
    let now = row_of (at content 0) in
    let text = joined folds last now empty ++ content in
    let one_empty = with_line line [] (rows folds chomping indent last (suc empty) (next ∷ lines)) in
    let stopped : ℕ × List ℕ = (0, chomped chomping last empty) in
    let one_row = with_line line text (rows folds chomping indent now 0 (next ∷ lines)) in
    let fits : ℕ × List ℕ → Type 0 = λ r. suc r.0 ≤ size_of (line ∷ (next ∷ lines)) in
    either fits (is_spaces line && (nat_le (length line) indent && true)) one_empty
    (if nat_lt (spaces line) indent || nat_le (length line) indent then stopped else one_row)
    (omega (arith, rows_short folds chomping indent last (suc empty) next lines))
    (either fits (nat_lt (spaces line) indent || nat_le (length line) indent) stopped one_row (omega arith)
    (omega (arith, rows_short folds chomping indent now 0 next lines)))

-- a block ends in a place or before it
abbrev EndsBy : (n : ℕ) → Option (ℕ × List ℕ) → Type 0
EndsBy n o = (r : ℕ × List ℕ) → o ≡ Some r → r.0 ≤ n

ends_none : (n : ℕ) → EndsBy n None
ends_none n r h = absurd (no_some r h)

lines_within : (folds : Bool) (header : Header) (least place n : ℕ) (lines : List (List ℕ)) → size_of lines ≤ suc n
    → EndsBy (place + n) (block_lines folds header least place lines)
lines_within folds header least place n [] le = ends_none (place + n)
lines_within folds header least place n (line ∷ []) le =
    either (EndsBy (place + n)) (is_remark line) (Some (place + length line, [])) None
    (λ r h.
    subst (λ (x : ℕ × List ℕ). x.0 ≤ place + n) (same_some (place + length line, []) r h) (omega arith))
    (ends_none (place + n))
lines_within folds header least place n (line ∷ (first ∷ lines)) le =
    either (EndsBy (place + n)) (is_remark line)
    (option_map
    (λ indent. behind (place + length line + 1) (rows folds header.chomping indent no_row 0 (first ∷ lines)))
    (indent_of header least (first ∷ lines))) None
    (λ r h.
    let m = map_some (indent_of header least (first ∷ lines)) _ r h in
    let short = rows_short folds header.chomping m.0 no_row 0 first lines in
    subst (λ (x : ℕ × List ℕ). x.0 ≤ place + n) m.2 (omega (arith, short, le)))
    (ends_none (place + n))

header_short : (cs : List ℕ) → (header_of cs).size ≤ length cs
header_short [] = omega arith
header_short (c ∷ []) =
    let signed : Header = record { chomping = chomping_of c; step = step_of 0; size = 1 } in
    let stepped : Header = record { chomping = chomping_of 0; step = step_of c; size = 1 } in
    let bare : Header = record { chomping = clip; step = 0; size = 0 } in
    let fits : Header → Type 0 = λ h. h.size ≤ 1 in
    either fits (is_sign c) signed (if is_step c then stepped else bare) (omega arith)
    (either fits (is_step c) stepped bare (omega arith) (omega arith))
header_short (c ∷ (d ∷ cs)) =
    let two : (b : Bool) → (if b then 2 else 1) ≤ length (c ∷ (d ∷ cs)) =
    λ b. either (λ n. n ≤ length (c ∷ (d ∷ cs))) b 2 1 (omega arith) (omega arith) in
    let signed : Header = record { chomping = chomping_of c; step = step_of d; size = if is_step d then 2 else 1 } in
    let stepped : Header = record { chomping = chomping_of d; step = step_of c; size = if is_sign d then 2 else 1 } in
    let bare : Header = record { chomping = clip; step = 0; size = 0 } in
    let fits : Header → Type 0 = λ h. h.size ≤ length (c ∷ (d ∷ cs)) in
    either fits (is_sign c) signed (if is_step c then stepped else bare) (two (is_step d))
    (either fits (is_step c) stepped bare (two (is_sign d)) (omega arith))

pub block_within : (text : List ℕ) (least i : ℕ) → EndsBy (length text) (block_at text least i)
block_within text least i =
    let header = header_of (drop (suc i) text) in
    let place = suc i + header.size in
    let lines = lines_of (drop place text) in
    by_test (EndsBy (length text)) (at text i == 124 || at text i == 62)
    (block_lines (at text i == 62) header least place lines) None
    (λ e r h.
    let less = marked (or_cases (at text i == 124) (at text i == 62) e) in
    let short = header_short (drop (suc i) text) in
    let size = lines_size (drop place text) in
    let left = length (drop place text) in
    let le = lines_within (at text i == 62) header least place left lines (omega (arith, size)) r h in
    omega (arith, le, short, less, length-drop (suc i) text, length-drop place text))
    (λ _. ends_none (length text))
  where
    marked : ((at text i == 124) ≡ true) ⊎ ((at text i == 62) ≡ true) → suc i ≤ length text
    marked (inl e) = omega (arith, is_inside text i 123 e)
    marked (inr e) = omega (arith, is_inside text i 61 e)
