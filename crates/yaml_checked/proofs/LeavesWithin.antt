-- Leaves and blocks of lines end within the text.
use Rattle.std.proofs.Common.{◌≡◌, ℕ, suc, ◌+◌, ◌-◌, ◌≤◌, ◌==◌, ◌&&◌, not, Bool, true, false, List, [], ◌∷◌, ◌++◌}
use Rattle.std.proofs.Common.{Option, Some, None, arith, subst, drop, length, length-drop, encode_utf8}
use Rattle.std.specs.Prelude.{◌*◌, if◌then◌else◌, nat_lt}
use Rattle.std.specs.Char.{digit_value}
use Rattle.yaml_base.specs.QuotedLines.{Escape, backslash, character_code, digits, letter_code, none}
use Rattle.yaml_base.specs.declared.event.ScalarStyle.{ScalarStyle}
use Rattle.yaml_base.specs.declared.event.ScalarStyle.TheVariants as style
use Rattle.yaml_grammar.specs.Bytes.{at, column, is_blank, parts}
use Rattle.yaml_grammar.specs.Folding.{Passed, Rest, and_blank, and_feed, escaped, nothing_passed, said_by}
use Rattle.yaml_grammar.specs.Folding.{with_bytes}
use Rattle.yaml_grammar.specs.Leaves.{Leaf, alias_at, leaf_at, styled}
use Rattle.yaml_grammar.specs.Names.{name_end}
use Rattle.yaml_grammar.specs.Plain.{Context, begins_plain, column_behind, is_flow, is_refused, plain_at, plain_rest}
use Rattle.yaml_grammar.specs.Plain.{stops_plain}
use Rattle.yaml_grammar.specs.Quotes.{double_rest, single_rest, with_character}
use Rattle.yaml_reading.proofs.Options.{either, map_some, no_some, same_some}
use Rattle.yaml_checked.proofs.WithinText.{Inside, by_test, is_inside, name_within}

-- the rest of a scalar has so many bytes at most
abbrev Short : ℕ → Rest → Type 0
Short n rest = (r : ℕ × List ℕ) → rest ≡ Some r → r.0 ≤ n

short_some : (n size : ℕ) (said : List ℕ) → size ≤ n → Short n (Some (size, said))
short_some n size said le r h = subst (λ (x : ℕ × List ℕ). x.0 ≤ n) (same_some {A = ℕ × List ℕ} (size, said) r h) le

short_none : (n : ℕ) → Short n None
short_none n r h = absurd (no_some r h)

short_with : (n m count : ℕ) (said : List ℕ) (rest : Rest) → Short m rest → count + m ≤ n
    → Short n (with_bytes count said rest)
short_with n m count said rest short le r h =
    let t = map_some rest (λ (x : ℕ × List ℕ). (count + x.0, said ++ x.1)) r h in
    let less = short t.0 t.1 in
    subst (λ (x : ℕ × List ℕ). x.0 ≤ n) t.2 (omega arith)

-- one byte more
short_more : (cs said : List ℕ) (c : ℕ) (rest : Rest) → Short (length cs) rest
    → Short (length (c ∷ cs)) (with_bytes 1 said rest)
short_more cs said c rest short = short_with (length (c ∷ cs)) (length cs) 1 said rest short (omega arith)

single_short : (quote begins : Bool) (passed : Passed) (cs : List ℕ)
    → Short (length cs) (single_rest quote begins passed cs)
single_short true begins passed [] = short_some 0 0 (said_by passed) (omega arith)
single_short false begins passed [] = short_none 0
single_short true begins passed (c ∷ cs) =
    either (Short (length (c ∷ cs))) (c == 39)
    (with_bytes 1 (said_by passed ++ 39 ∷ []) (single_rest false false nothing_passed cs)) (Some (0, said_by passed))
    (short_more cs (said_by passed ++ 39 ∷ []) c (single_rest false false nothing_passed cs)
    (single_short false false nothing_passed cs))
    (short_some (length (c ∷ cs)) 0 (said_by passed) (omega arith))
single_short false begins passed (c ∷ cs) =
    let n = length (c ∷ cs) in
    let quote = single_rest true false passed cs in
    let later = single_rest false true (and_feed passed) cs in
    let blank = single_rest false false (and_blank passed c) cs in
    let byte = single_rest false false nothing_passed cs in
    let said = said_by passed ++ c ∷ [] in
    either (Short n) (begins && parts (c ∷ cs)) None
    (if c == 39 then with_bytes 1 [] quote else if c == 10 then with_bytes 1 [] later
    else if is_blank c then with_bytes 1 [] blank else with_bytes 1 said byte)
    (short_none n)
    (either (Short n) (c == 39) (with_bytes 1 [] quote)
    (if c == 10 then with_bytes 1 [] later else if is_blank c then with_bytes 1 [] blank else with_bytes 1 said byte)
    (short_more cs [] c quote (single_short true false passed cs))
    (either (Short n) (c == 10) (with_bytes 1 [] later)
    (if is_blank c then with_bytes 1 [] blank else with_bytes 1 said byte)
    (short_more cs [] c later (single_short false true (and_feed passed) cs))
    (either (Short n) (is_blank c) (with_bytes 1 [] blank) (with_bytes 1 said byte)
    (short_more cs [] c blank (single_short false false (and_blank passed c) cs))
    (short_more cs said c byte (single_short false false nothing_passed cs)))))

character_short : (code : Option ℕ) (passed : Passed) (cs : List ℕ) (c : ℕ) (rest : Rest) → Short (length cs) rest
    → Short (length (c ∷ cs)) (with_character code passed rest)
character_short None passed cs c rest short = short_none (length (c ∷ cs))
character_short (Some code) passed cs c rest short =
    short_more cs (said_by passed ++ encode_utf8 code) c rest short

double_short : (escape : Escape) (begins : Bool) (passed : Passed) (cs : List ℕ)
    → Short (length cs) (double_rest escape begins passed cs)
double_short none begins passed [] = short_none 0
double_short backslash begins passed [] = short_none 0
double_short (digits left code) begins passed [] = short_none 0
double_short none begins passed (c ∷ cs) =
    let n = length (c ∷ cs) in
    let escape = double_rest backslash false passed cs in
    let later = double_rest none true (and_feed passed) cs in
    let blank = double_rest none false (and_blank passed c) cs in
    let byte = double_rest none false nothing_passed cs in
    let said = said_by passed ++ c ∷ [] in
    either (Short n) (begins && parts (c ∷ cs)) None
    (if c == 34 then Some (1, said_by passed) else if c == 92 then with_bytes 1 [] escape
    else if c == 10 then with_bytes 1 [] later else if is_blank c then with_bytes 1 [] blank
    else with_bytes 1 said byte)
    (short_none n)
    (either (Short n) (c == 34) (Some (1, said_by passed))
    (if c == 92 then with_bytes 1 [] escape
    else if c == 10 then with_bytes 1 [] later else if is_blank c then with_bytes 1 [] blank
    else with_bytes 1 said byte)
    (short_some n 1 (said_by passed) (omega arith))
    (either (Short n) (c == 92) (with_bytes 1 [] escape)
    (if c == 10 then with_bytes 1 [] later else if is_blank c then with_bytes 1 [] blank else with_bytes 1 said byte)
    (short_more cs [] c escape (double_short backslash false passed cs))
    (either (Short n) (c == 10) (with_bytes 1 [] later)
    (if is_blank c then with_bytes 1 [] blank else with_bytes 1 said byte)
    (short_more cs [] c later (double_short none true (and_feed passed) cs))
    (either (Short n) (is_blank c) (with_bytes 1 [] blank) (with_bytes 1 said byte)
    (short_more cs [] c blank (double_short none false (and_blank passed c) cs))
    (short_more cs said c byte (double_short none false nothing_passed cs))))))
double_short backslash begins passed (c ∷ cs) =
    let n = length (c ∷ cs) in
    let later = double_rest none true (escaped 0) cs in
    let two = double_rest (digits 2 0) false passed cs in
    let four = double_rest (digits 4 0) false passed cs in
    let eight = double_rest (digits 8 0) false passed cs in
    let byte = double_rest none false nothing_passed cs in
    let letter = with_character (letter_code c) passed byte in
    either (Short n) (c == 10) (with_bytes 1 (said_by passed) later)
    (if c == 120 then with_bytes 1 [] two else if c == 117 then with_bytes 1 [] four
    else if c == 85 then with_bytes 1 [] eight else letter)
    (short_more cs (said_by passed) c later (double_short none true (escaped 0) cs))
    (either (Short n) (c == 120) (with_bytes 1 [] two)
    (if c == 117 then with_bytes 1 [] four else if c == 85 then with_bytes 1 [] eight else letter)
    (short_more cs [] c two (double_short (digits 2 0) false passed cs))
    (either (Short n) (c == 117) (with_bytes 1 [] four) (if c == 85 then with_bytes 1 [] eight else letter)
    (short_more cs [] c four (double_short (digits 4 0) false passed cs))
    (either (Short n) (c == 85) (with_bytes 1 [] eight) letter
    (short_more cs [] c eight (double_short (digits 8 0) false passed cs))
    (character_short (letter_code c) passed cs c byte (double_short none false nothing_passed cs)))))
double_short (digits left code) begins passed (c ∷ cs) =
    let n = length (c ∷ cs) in
    let now = 16 * code + digit_value c in
    let byte = double_rest none false nothing_passed cs in
    let last = with_character (character_code now) passed byte in
    let more = double_rest (digits (left - 1) now) false passed cs in
    either (Short n) (not (nat_lt (digit_value c) 16)) None (if left == 1 then last else with_bytes 1 [] more)
    (short_none n)
    (either (Short n) (left == 1) last (with_bytes 1 [] more)
    (character_short (character_code now) passed cs c byte (double_short none false nothing_passed cs))
    (short_more cs [] c more (double_short (digits (left - 1) now) false passed cs)))

plain_short : (context : Context) (col skipped : ℕ) (passed : Passed) (cs : List ℕ)
    → Short (skipped + length cs) (plain_rest context col skipped passed cs)
plain_short context col skipped passed [] = short_some (skipped + 0) 0 [] (omega arith)
plain_short context col skipped passed (c ∷ cs) =
    let n = skipped + length (c ∷ cs) in
    let space = plain_rest context (suc col) (suc skipped) (and_blank passed c) cs in
    let later = plain_rest context 0 (suc skipped) (and_feed passed) cs in
    let rest = plain_rest context (column_behind col c) 0 nothing_passed cs in
    let said = said_by passed ++ c ∷ [] in
    let byte = with_bytes (suc skipped) said rest in
    either (Short n) (c == 32) space
    (if c == 10 then later else if stops_plain context col passed c cs then Some (0, [])
    else if is_refused context c cs then None else byte)
    (λ r h. omega (arith, plain_short context (suc col) (suc skipped) (and_blank passed c) cs r h))
    (either (Short n) (c == 10) later
    (if stops_plain context col passed c cs then Some (0, [])
    else if is_refused context c cs then None else byte)
    (λ r h. omega (arith, plain_short context 0 (suc skipped) (and_feed passed) cs r h))
    (either (Short n) (stops_plain context col passed c cs) (Some (0, []))
    (if is_refused context c cs then None else byte)
    (short_some n 0 [] (omega arith))
    (either (Short n) (is_refused context c cs) None byte
    (short_none n)
    (short_with n (0 + length cs) (suc skipped) said rest
    (plain_short context (column_behind col c) 0 nothing_passed cs) (omega arith)))))

styled_within : (text : List ℕ) (how : ScalarStyle) (i : ℕ) (rest : Rest) → i ≤ length text
    → Short (length (drop i text)) rest → Inside text (styled how i rest)
styled_within text how i rest within short r h =
    let m = map_some rest _ r h in
    let less = short m.0 m.1 in
    subst (λ (x : Leaf × ℕ). x.1 ≤ length text) m.2 (omega (arith, less, length-drop i text))

pub leaf_within : (text : List ℕ) (context : Context) (i : ℕ) → i ≤ length text → Inside text (leaf_at text context i)
leaf_within text context i within =
    let flow = is_flow context in
    let single = single_rest false false nothing_passed (drop (suc i) text) in
    let double = double_rest none false nothing_passed (drop (suc i) text) in
    let plain = plain_rest context (column text i) 0 nothing_passed (drop i text) in
    let first = alias_at text flow (suc i) in
    let second = styled style.SingleQuoted (suc i) single in
    let third = styled style.DoubleQuoted (suc i) double in
    let fourth = styled style.Plain i (plain_at text context i) in
    by_test (Inside text) (at text i == 42) first
    (if at text i == 39 then second else if at text i == 34 then third else fourth)
    (λ e r h.
    let m = map_some (name_end text flow (suc i)) _ r h in
    let less = is_inside text i 41 e in
    subst (λ (x : Leaf × ℕ). x.1 ≤ length text) m.2 (name_within text flow (suc i) m.0 (omega (arith, less)) m.1))
    (λ _. by_test (Inside text) (at text i == 39) second (if at text i == 34 then third else fourth)
    (λ e. styled_within text style.SingleQuoted (suc i) single (omega (arith, is_inside text i 38 e))
    (single_short false false nothing_passed (drop (suc i) text)))
    (λ _. by_test (Inside text) (at text i == 34) third fourth
    (λ e. styled_within text style.DoubleQuoted (suc i) double (omega (arith, is_inside text i 33 e))
    (double_short none false nothing_passed (drop (suc i) text)))
    (λ _. styled_within text style.Plain i (plain_at text context i) within
    (either (Short (length (drop i text))) (begins_plain text flow i) plain None
    (λ r h. omega (arith, plain_short context (column text i) 0 nothing_passed (drop i text) r h))
    (short_none (length (drop i text)))))))
