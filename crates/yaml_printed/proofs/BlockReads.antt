-- The first line of a literal block, and where the block ends.
use Rattle.std.proofs.Common.{◌≡◌, ℕ, zero, suc, ◌+◌, ◌-◌, ◌<◌, Bool, true, false, not, ◌==◌, ◌&&◌, ◌||◌, refl, sym}
use Rattle.std.proofs.Common.{subst, ap, ap₂, ◌∙◌, arith, List, [], ◌∷◌, ◌++◌, length, replicate, Option, None, Some}
use Rattle.std.proofs.Common.{max, drop, take}
use Rattle.std.proofs.lemmas.Bool.{and_parts, or_parts, false≢true, ne_eqb}
use Rattle.std.proofs.lemmas.List.{length-append, length-replicate}
use Rattle.std.specs.List.{list_all}
use Rattle.std.specs.Prelude.{if◌then◌else◌, option_map}
use Rattle.std.specs.Str.{IsUtf8, chars}
use Rattle.yaml_emit.specs.Characters.{is_line_text}
use Rattle.yaml_emit.specs.PrintedTexts.{block_rest, literal}
use Rattle.yaml_emit.specs.Styles.{ends_with_byte, fits_block, stand_side_by_side}
use Rattle.yaml_grammar.specs.BlockTexts.{Header, behind, block_at, block_lines, found_indent}
use Rattle.yaml_grammar.specs.BlockTexts.{header_of, indent_of, is_last, is_spaces, lines_of, no_row, rows}
use Rattle.yaml_grammar.specs.BlockTexts.{spaces}
use Rattle.yaml_grammar.specs.Bytes.{at}
use Rattle.yaml_grammar.specs.Gaps.{next}
use Rattle.yaml_grammar.proofs.PlainLaws.{not_true}
use Rattle.yaml_printed.proofs.Aheads.{Ahead, Stops, at_end, further_out, next_here}
use Rattle.yaml_printed.proofs.BlockLines.{block_of, block_text, blocks, indented, into_some}
use Rattle.yaml_printed.proofs.BlockRows.{Stop, blocks_some}
use Rattle.yaml_printed.proofs.BlockLines.{is_in_line, join, join_lines, lined, lines_are, lines_block, lines_front}
use Rattle.yaml_printed.proofs.BlockRows.{rows_are, spaces_of}
use Rattle.yaml_printed.proofs.ByteLaws.{text_all}
use Rattle.yaml_printed.proofs.Rests.{Rest, begins_token, feed_no, rest_at, rest_is, rest_on, rest_place, rest_skip}
use Rattle.yaml_printed.proofs.Rests.{space_no}
use Rattle.yaml_printed.proofs.BlockEnds.{chomping_by, fine_all}
use Rattle.yaml_printed.proofs.Words.{and_no}

abbrev step_by : Bool → ℕ
step_by true = 2
step_by false = 0

abbrev size_by : (hint feed more : Bool) → ℕ
size_by true false more = 2
size_by true true true = 2
size_by true true false = 1
size_by false false more = 1
size_by false true true = 1
size_by false true false = 0

abbrev hints : (hint feed more : Bool) → List ℕ → List ℕ
hints hint feed more rest =
    (if hint then 50 ∷ [] else [])
    ++ ((if not feed then 45 ∷ [] else if more then 43 ∷ [] else []) ++ (10 ∷ rest))

header_is : (hint feed more : Bool) (rest : List ℕ)
    → header_of (hints hint feed more rest)
    ≡ record { chomping = chomping_by feed more; step = step_by hint; size = size_by hint feed more }
header_is true false more rest = refl
header_is true true true rest = refl
header_is true true false rest = refl
header_is false false more rest = refl
header_is false true true rest = refl
header_is false true false rest = refl

hints_skip : {text : List ℕ} {i : ℕ} (hint feed more : Bool) (rest : List ℕ) → Rest text i (hints hint feed more rest)
    → Rest text (i + size_by hint feed more) (10 ∷ rest)
hints_skip true false more rest r = rest_skip (50 ∷ 45 ∷ []) r
hints_skip true true true rest r = rest_skip (50 ∷ 43 ∷ []) r
hints_skip true true false rest r = rest_skip (50 ∷ []) r
hints_skip false false more rest r = rest_skip (45 ∷ []) r
hints_skip false true true rest r = rest_skip (43 ∷ []) r
hints_skip false true false rest r = rest_skip [] r

-- ---- the line behind the block

record Behind (n : ℕ) (after : List ℕ) : Type 0 where
  line : List ℕ
  lines : List (List ℕ)
  is : lines_of after ≡ line ∷ lines
  stop : Stop n line lines

spaces_are_line : (m : ℕ) → list_all is_in_line (replicate m 32) ≡ true
spaces_are_line zero = refl
spaces_are_line (suc m) = spaces_are_line m

not_spaces : (m c : ℕ) (cs : List ℕ) → (c == 32) ≡ false → spaces (replicate m 32 ++ (c ∷ cs)) ≡ m
not_spaces m c cs h = spaces_of m (c ∷ cs) ∙ rw h (omega arith)

not_all_spaces : (m c : ℕ) (cs : List ℕ) → (c == 32) ≡ false → is_spaces (replicate m 32 ++ (c ∷ cs)) ≡ false
not_all_spaces m c cs h =
    let size : length (replicate m 32 ++ (c ∷ cs)) ≡ m + suc (length cs)
    = length-append (replicate m 32) (c ∷ cs) ∙ ap (λ k. k + suc (length cs)) (length-replicate {A = ℕ} m 32) in
    ne_eqb (spaces (replicate m 32 ++ (c ∷ cs))) (length (replicate m 32 ++ (c ∷ cs)))
    (λ e. absurd (omega (arith, e, size, not_spaces m c cs h)))

behind_is : (n m : ℕ) (token : List ℕ) → begins_token token ≡ true → m < n → Behind n (replicate m 32 ++ token)
behind_is n m [] h lt = record {
  line = replicate m 32 ++ [];
  lines = [];
  is = lines_front (replicate m 32) [] [] [] (spaces_are_line m) refl;
  stop = record {
    out = omega (arith, spaces_of m []);
    full = and_no (is_spaces (replicate m 32 ++ []));
  };
}
behind_is n m (c ∷ cs) h lt =
    let l = lined cs in
    let own : lines_of (c ∷ cs) ≡ (c ∷ l.first) ∷ l.more
    = rw (feed_no c cs h) (into_some c (lines_of cs) l.first l.more l.is) in
    let space = space_no c cs h in
    record {
      line = replicate m 32 ++ (c ∷ l.first);
      lines = l.more;
      is = lines_front (replicate m 32) (c ∷ cs) (c ∷ l.first) l.more (spaces_are_line m) own;
      stop = record {
        out = omega (arith, not_spaces m c l.first space);
        full = ap (λ b. b && not (is_last l.more)) (not_all_spaces m c l.first space);
      };
    }

stop_below : (least n blanks : ℕ) (token : List ℕ) → n ≡ least - 1 + 2 → Stops least blanks token → blanks < n
stop_below least n blanks token e (further_out lt) = omega (arith, e, lt)
stop_below least n blanks token e (at_end flush ends) = omega (arith, e, flush)

-- ---- how far in its lines stand

at_line : (n x : ℕ) (xs : List ℕ) → at (replicate n 32 ++ (x ∷ xs)) n ≡ x
at_line zero x xs = refl
at_line (suc n) x xs = at_line n x xs

max_is : (least n : ℕ) → n ≡ least - 1 + 2 → max (max least 1) n ≡ n
max_is least n e = omega (arith, e)

found_is : (least n x : ℕ) (xs : List ℕ) (more : List (List ℕ)) → n ≡ least - 1 + 2 → (x == 32) ≡ false
    → (x == 9) ≡ false
    → found_indent (max least 1) (indented n (x ∷ xs) ∷ more) ≡ Some n
found_is least n x xs more e space tab =
    let own = replicate n 32 ++ (x ∷ xs) in
    let count : spaces own ≡ n = not_spaces n x xs space in
    let full : (is_spaces own && not (is_last more)) ≡ false
    = ap (λ b. b && not (is_last more)) (not_all_spaces n x xs space) in
    let here : (at own (spaces own) == 9) ≡ false
    = ap (λ k. at own k == 9) count ∙ (ap (λ b. b == 9) (at_line n x xs) ∙ tab) in
    rw (full, here, count) (ap Some (max_is least n e))

-- ---- the block

abbrev block_by : List ℕ → (least i : ℕ) → Header → Option (ℕ × List ℕ)
block_by text least i header =
    let place = suc i + header.size in
    if at text i == 124 || at text i == 62 then
    block_lines (at text i == 62) header least place (lines_of (drop place text))
    else None

block_lines_is : (header : Header) (least place n : ℕ) (lines first : List ℕ) (more : List (List ℕ))
    → lines_of lines ≡ [] ∷ (first ∷ more)
    → indent_of header least (first ∷ more) ≡ Some n
    → block_lines false header least place (lines_of lines)
    ≡ Some (behind (place + 0 + 1) (rows false header.chomping n no_row 0 (first ∷ more)))
block_lines_is header least place n lines first more e f =
    ap (block_lines false header least place) e
    ∙ ap (option_map (λ indent. behind (place + 0 + 1) (rows false header.chomping indent no_row 0 (first ∷ more)))) f

hints_append : (hint feed more : Bool) (rest after : List ℕ)
    → hints hint feed more rest ++ after ≡ hints hint feed more (rest ++ after)
hints_append true false more rest after = refl
hints_append true true true rest after = refl
hints_append true true false rest after = refl
hints_append false false more rest after = refl
hints_append false true true rest after = refl
hints_append false true false rest after = refl

no_tab : (x : ℕ) (xs : List ℕ) → IsUtf8 (x ∷ xs) → list_all is_line_text (chars (x ∷ xs)) ≡ true → (x == 9) ≡ false
no_tab x xs u h =
    not_true (x == 9) (and_parts (not (x == 9)) (list_all (λ b. not (b == 9)) xs)
    (text_all (λ b. not (b == 9)) (λ b high top. rw (ne_eqb b 9 (λ e. absurd (omega (arith, e, high)))) refl)
    is_line_text
    (λ c l low. rw (ne_eqb c 9 (λ e. absurd (false≢true (ap is_line_text (sym e) ∙ l)))) refl) (x ∷ xs) u h)).0

-- the lines behind the first one, and how far in they stand
record Placed (n least : ℕ) (header : Header) (ls : List (List ℕ)) (line : List ℕ) (lines : List (List ℕ)) : Type 0
  where
    first : List ℕ
    more : List (List ℕ)
    is : blocks n ls ++ (line ∷ lines) ≡ first ∷ more
    found : indent_of header least (first ∷ more) ≡ Some n

first_text : (n x : ℕ) (f : List ℕ) (ms : List (List ℕ)) (line : List ℕ) (lines : List (List ℕ))
    → (more : List (List ℕ)) × (blocks n ((x ∷ f) ∷ ms) ++ (line ∷ lines) ≡ indented n (x ∷ f) ∷ more)
first_text n x f [] line lines = (line ∷ lines, refl)
first_text n x f (m ∷ ms) line lines = (blocks n (m ∷ ms) ++ (line ∷ lines), refl)

placed : (n least x : ℕ) (xs : List ℕ) (line : List ℕ) (lines : List (List ℕ)) (hint feed more : Bool)
    → n ≡ least - 1 + 2
    → (x == 9) ≡ false → (x == 32 || x == 10) ≡ hint
    → Placed n least (record { chomping = chomping_by feed more; step = step_by hint; size = size_by hint feed more })
    (lines_of (x ∷ xs)) line lines
placed n least x xs line lines true feed more e tab f =
    let b = blocks_some n (lines_of (x ∷ xs)) line lines in
    record { first = b.first; more = b.more; is = b.is; found = ap Some (sym e) }
placed n least x xs line lines false feed more e tab f =
    let p = or_parts (x == 32) (x == 10) f in
    let l = lined xs in
    let own : lines_of (x ∷ xs) ≡ (x ∷ l.first) ∷ l.more = rw p.1 (into_some x (lines_of xs) l.first l.more l.is) in
    let b = first_text n x l.first l.more line lines in
    record {
      first = indented n (x ∷ l.first);
      more = b.0;
      is = ap (λ ls. blocks n ls ++ (line ∷ lines)) own ∙ b.1;
      found = found_is least n x l.first b.0 e p.0 tab;
    }

some_lines : (t : List ℕ) → lines_of t ≡ [] → ⊥
some_lines t e = let l = lined t in absurd (cc (l.is))

block_of_text : {text : List ℕ} {least e j : ℕ} {after : List ℕ} (n x : ℕ) (xs : List ℕ) (k : ℕ) → IsUtf8 (x ∷ xs)
    → list_all is_line_text (chars (x ∷ xs)) ≡ true → n ≡ least - 1 + 2 → (hint feed more : Bool)
    → (x == 32 || x == 10) ≡ hint → ends_with_byte 10 (x ∷ xs) ≡ feed
    → (length (x ∷ xs) == 1 || ends_with_byte 10 (take (length (x ∷ xs) - 1) (x ∷ xs))) ≡ more
    → Rest text k (124 ∷ (hints hint feed more (block_rest n true (chars (x ∷ xs))) ++ after))
    → Ahead text least e j after
    → block_at text least k ≡ Some (e, x ∷ xs)
block_of_text {text = text} {least = least} {e = e} {after = after} n x xs k u h far hint feed more f g m r a =
    let t = x ∷ xs in
    let ls = lines_of t in
    let own = block_rest n true (chars t) in
    let header : Header = record {
      chomping = chomping_by feed more;
      step = step_by hint;
      size = size_by hint feed
          more;
    } in
    let r1 : Rest text k (124 ∷ hints hint feed more (own ++ after))
    = rest_is (ap (λ l. 124 ∷ l) (hints_append hint feed more own after)) r in
    let r2 : Rest text (suc k + size_by hint feed more) (10 ∷ (own ++ after))
    = hints_skip hint feed more (own ++ after) (rest_on r1) in
    let place = suc k + size_by hint feed more in
    let printed : own ≡ block_of n ls = block_text n t u in
    let end : suc place + length own ≡ e = rest_place (rest_skip own (rest_on r2)) a.rest in
    let b : Behind n after
    = subst (Behind n) (sym a.is) (behind_is n a.blanks a.token a.begins
    (stop_below least n a.blanks a.token far a.stops)) in
    let y = placed n least x xs b.line b.lines hint feed more far (no_tab x xs u h) f in
    let all : lines_of (10 ∷ (own ++ after)) ≡ [] ∷ (y.first ∷ y.more)
    = ap (λ l. [] ∷ l) (ap (λ l. lines_of (l ++ after)) printed
    ∙ (lines_block n ls after (lines_are t) ∙ (ap (λ l. blocks n ls ++ l) b.is ∙ y.is))) in
    let read : ◌≡◌ {A = ℕ × List ℕ} (rows false header.chomping n no_row 0 (y.first ∷ y.more))
    (length (block_of n ls), join ls)
    = ap (rows false header.chomping n no_row 0) (sym y.is)
    ∙ rows_are header.chomping n b.line b.lines b.stop ls no_row 0 (some_lines t) (fine_all x xs feed more g m) in
    ap (block_by text least k) (ap header_of (rest_on r1).same ∙ header_is hint feed more (own ++ after))
    ∙ rw (rest_at r1, r2.same) (block_lines_is header least place n (10 ∷ (own ++ after)) y.first y.more all y.found
    ∙ ap (λ p. Some (behind (place + 0 + 1) p)) read
    ∙ ap₂ (λ q s. Some (q, s)) (omega (arith, ap length printed, end)) (join_lines t))

pub block_reads : {text : List ℕ} {least e j : ℕ} {after : List ℕ} (n : ℕ) (t : List ℕ) (k : ℕ) → IsUtf8 t
    → fits_block t ≡ true
    → n ≡ least - 1 + 2 → Rest text k (literal n t ++ after) → Ahead text least e j after
    → block_at text least k ≡ Some (e, t)
block_reads n [] k u fits far r a = absurd (false≢true fits)
block_reads n (x ∷ xs) k u fits far r a =
    let t = x ∷ xs in
    let p = and_parts (not (length t == 0) && not (ends_with_byte 32 t) && not (stand_side_by_side 32 10 t))
    (list_all is_line_text (chars t)) fits in
    block_of_text n x xs k u p.1 far (x == 32 || x == 10) (ends_with_byte 10 t)
    (length t == 1 || ends_with_byte 10 (take (length t - 1) t)) refl refl refl r a

pub block_next : {text : List ℕ} {least e j : ℕ} {after : List ℕ} → Ahead text least e j after → next text e ≡ j
block_next {text = text} {least = least} {e = e} {j = j} {after = after} a =
    let l = a.start in
    let b = subst (λ q. Ahead text least q j after) (sym l.same) a in
    ap (next text) (sym l.same) ∙ (next_here after l.feed b).there
