-- A block of lines: its first line, and the lines behind it.
use Rattle.std.proofs.Common.{ℕ, suc, ◌+◌, ◌-◌, ◌<◌, ◌≤◌, ◌≡◌, ◌==◌, inl, inr, Bool, true, false, List, [], ◌∷◌}
use Rattle.std.proofs.Common.{◌++◌, Option, Some, None, refl, sym, subst, ap, ◌∙◌, arith, drop, length, slice_range}
use Rattle.std.proofs.Common.{append-nil, take, replicate}
use Rattle.std.proofs.lemmas.Bool.{cases_lt, false≢true, le-leb, lt-leb}
use Rattle.std.proofs.lemmas.List.{append_assoc, drop_at, length-append, take_all}
use Rattle.std.specs.Option.{option_map}
use Rattle.std.specs.Prelude.{if◌then◌else◌}
use Rattle.yaml_direct.specs.Added.{LeavesBlock, begins_block}
use Rattle.yaml_direct.specs.BlockHeads.{HasNoRemark, IsRemark}
use Rattle.yaml_direct.specs.BlockRows.{EndsAtTab, HasNoBlock, ReadsBlock, ReadsRows, block_behind, kept_feeds, rows_from}
use Rattle.yaml_direct.specs.Bytes.{at}
use Rattle.yaml_direct.specs.Gaps.{InLine, IsLineEnd}
use Rattle.yaml_direct.specs.declared.block_scalar.Block.{Block}
use Rattle.yaml_direct.proofs.BlockLines.{first_line, last_line, line_length, line_of, lines_some}
use Rattle.yaml_direct.proofs.DetectLaws.{lines_at}
use Rattle.yaml_direct.proofs.RowsRead.{none_kept}
use Rattle.yaml_grammar.specs.BlockTexts.{Header, behind, block_at, block_lines, chomping_of, clip}
use Rattle.yaml_grammar.specs.BlockTexts.{header_of, indent_of, is_last}
use Rattle.yaml_grammar.specs.BlockTexts.{is_remark, is_sign, is_step, lines_of, no_row, rows, step_of}
use Rattle.yaml_grammar.specs.Gaps.{next}

abbrev Found : Type 0
Found = Option (ℕ × List ℕ)

-- the first line alone
one_line : (folds : Bool) (h : Header) (least place : ℕ) (line : List ℕ) → is_remark line ≡ true
    → block_lines folds h least place (line ∷ []) ≡ Some (place + length line, [])
one_line folds h least place line r = rw r refl

-- and with others
more_lines : (folds : Bool) (h : Header) (least place : ℕ) (line : List ℕ) (ls : List (List ℕ)) → is_last ls ≡ false
    → is_remark line ≡ true
    → block_lines folds h least place (line ∷ ls)
    ≡ option_map (λ indent. behind (place + length line + 1) (rows folds h.chomping indent no_row 0 ls))
    (indent_of h least ls)
more_lines folds h least place line [] more r = absurd (false≢true (sym more))
more_lines folds h least place line (l ∷ ls) more r = rw r refl

no_remark : (folds : Bool) (h : Header) (least place : ℕ) (line : List ℕ) (ls : List (List ℕ))
    → is_remark line ≡ false → ◌≡◌ {A = Found} (block_lines folds h least place (line ∷ ls)) None
no_remark folds h least place line [] r = rw r refl
no_remark folds h least place line (l ∷ ls) r = rw r refl

behind_end : (text : List ℕ) (folds : Bool) (h : Header) (least end : ℕ) → length text ≤ end
    → block_behind text folds h least end ≡ Some (end, [])
behind_end text folds h least end over = rw (le-leb (length text) end over) refl

behind_line : (text : List ℕ) (folds : Bool) (h : Header) (least end : ℕ) → end < length text
    → block_behind text folds h least end
    ≡ option_map (λ indent. behind (end + 1) (rows_from text folds h.chomping indent no_row 0 (end + 1)))
    (indent_of h least (lines_of (drop (end + 1) text)))
behind_line text folds h least end inside = rw (lt-leb (length text) end inside) refl

lines_are : (text : List ℕ) (folds : Bool) (h : Header) (least place end : ℕ) → place ≤ end → end ≤ length text
    → InLine text place end → IsLineEnd text end → is_remark (slice_range text place end) ≡ true
    → block_lines folds h least place (lines_of (drop place text)) ≡ block_behind text folds h least end
lines_are text folds h least place end low within line ends r =
    let part = slice_range text place end in
    let size = line_length text place end low within in
    elim (cases_lt end (length text)) [
      | inr over ↦
          let same : end ≡ length text = omega (arith, over, within) in
          let there : place + length part ≡ end = omega (arith, size, low) in
          ap (block_lines folds h least place) (last_line text place end low same line)
          ∙ one_line folds h least place part r
          ∙ ap (λ n. Some (n, [])) there
          ∙ sym (behind_end text folds h least end over)
      | inl inside ↦
          let feed : at text end ≡ 10 = elim ends [
            | inl is ↦ is
            | inr past ↦ absurd (omega (arith, past, inside))
          ] in
          let there : place + length part + 1 ≡ end + 1 = omega (arith, size, low) in
          let one : suc end ≡ end + 1 = omega arith in
          let rest = lines_of (drop (suc end) text) in
          ap (block_lines folds h least place) (first_line text place end low within line feed)
          ∙ more_lines folds h least place part rest (lines_some (drop (suc end) text)) r
          ∙ ap (λ n. option_map (λ indent. behind n (rows folds h.chomping indent no_row 0 rest))
          (indent_of h least rest)) there
          ∙ ap (λ k. option_map (λ indent. behind (end + 1) (rows_from text folds h.chomping indent no_row 0 k))
          (indent_of h least (lines_of (drop k text)))) one
          ∙ sym (behind_line text folds h least end inside)
    ]

begun_at : (text : List ℕ) (least i : ℕ) → begins_block (at text i) ≡ true
    → block_at text least i
    ≡ block_lines (at text i == 62) (header_of (drop (suc i) text)) least (suc i + (header_of (drop (suc i) text)).size)
    (lines_of (drop (suc i + (header_of (drop (suc i) text)).size) text))
begun_at text least i b = rw b refl

behind_sign : (text : List ℕ) (least i j : ℕ) → suc i ≡ j → begins_block (at text i) ≡ true
    → block_at text least i
    ≡ block_lines (at text i == 62) (header_of (drop j text)) least (j + (header_of (drop j text)).size)
    (lines_of (drop (j + (header_of (drop j text)).size) text))
behind_sign text least i j one b =
    begun_at text least i b
    ∙ ap (λ k. block_lines (at text i == 62) (header_of (drop k text)) least (k + (header_of (drop k text)).size)
    (lines_of (drop (k + (header_of (drop k text)).size) text))) one

-- a block behind its first line
pub block_is : (text : List ℕ) (least i j end : ℕ) → suc i ≡ j → begins_block (at text i) ≡ true → end ≤ length text
    → IsRemark text (j + (header_of (drop j text)).size) end
    → block_at text least i ≡ block_behind text (at text i == 62) (header_of (drop j text)) least end
block_is text least i j end one b within r =
    behind_sign text least i j one b
    ∙ lines_are text (at text i == 62) (header_of (drop j text)) least (j + (header_of (drop j text)).size) end
    r.forward within r.line r.ends r.remark

-- none where that is in no due form
pub no_block : (text : List ℕ) (least i j : ℕ) → suc i ≡ j → begins_block (at text i) ≡ true
    → j + (header_of (drop j text)).size ≤ length text → HasNoRemark text (j + (header_of (drop j text)).size)
    → LeavesBlock text least i
no_block text least i j one b within none =
    let place = j + (header_of (drop j text)).size in
    let l = line_of text place within in
    let n = lines_at text place l in
    let is : ◌≡◌ {A = Found} (block_at text least i) None =
    behind_sign text least i j one b
    ∙ ap (block_lines (at text i == 62) (header_of (drop j text)) least place) n.are
    ∙ no_remark (at text i == 62) (header_of (drop j text)) least place (slice_range text place l.end) n.rest
    (none l.end l.low l.within l.line l.ends) in
    λ end said e. absurd (no_some (end, said) (sym is ∙ e))
  where
    no_some : (x : ℕ × List ℕ) → ◌≡◌ {A = Found} None (Some x) → ⊥
    no_some x e = cc

-- what a sign and a digit say, by which of them stands first
abbrev header_by : (sign digit : Bool) → (c d : ℕ) → Header
header_by true b c d =
    record { chomping = chomping_of c; step = step_of d; size = if is_step d then 2 else 1 }
header_by false true c d =
    record { chomping = chomping_of d; step = step_of c; size = if is_sign d then 2 else 1 }
header_by false false c d = record { chomping = clip; step = 0; size = 0 }

header_is : (bytes : List ℕ) (a b : Bool) → is_sign (at bytes 0) ≡ a → is_step (at bytes 0) ≡ b
    → header_of bytes ≡ header_by a b (at bytes 0) (at bytes 1)
header_is bytes true b e f = rw e refl
header_is bytes false true e f = rw (e, f) refl
header_is bytes false false e f = rw (e, f) refl

-- they stand in the text
pub size_within : (bytes : List ℕ) → (header_of bytes).size ≤ length bytes
size_within [] = omega arith
size_within (c ∷ []) = subst (λ h. h.size ≤ 1) (sym (header_is (c ∷ []) (is_sign c) (is_step c) refl refl))
    (one (is_sign c) (is_step c))
  where
    one : (a b : Bool) → (header_by a b c 0).size ≤ 1
    one true b = omega arith
    one false true = omega arith
    one false false = omega arith
size_within (c ∷ d ∷ rest) =
    let few : (header_of (c ∷ d ∷ rest)).size ≤ 2 =
    subst (λ h. h.size ≤ 2) (sym (header_is (c ∷ d ∷ rest) (is_sign c) (is_step c) refl refl))
    (two (is_sign c) (is_step c) (is_step d) (is_sign d)) in
    omega (arith, few)
  where
    two : (a b x y : Bool) → (header_by a b c d).size ≤ 2
    two true b x y = at_most (is_step d)
      where
        at_most : (z : Bool) → (if z then 2 else 1) ≤ 2
        at_most true = omega arith
        at_most false = omega arith
    two false true x y = at_most (is_sign d)
      where
        at_most : (z : Bool) → (if z then 2 else 1) ≤ 2
        at_most true = omega arith
        at_most false = omega arith
    two false false x y = omega arith

-- a step is a digit
pub small_step : (bytes : List ℕ) → (header_of bytes).step ≤ 9
small_step bytes =
    subst (λ h. h.step ≤ 9) (sym (header_is bytes (is_sign (at bytes 0)) (is_step (at bytes 0)) refl refl))
    (by_sign (is_sign (at bytes 0)) (is_step (at bytes 0)))
  where
    small : (c : ℕ) → step_of c ≤ 9
    small c = grind arith

    by_sign : (a b : Bool) → (header_by a b (at bytes 0) (at bytes 1)).step ≤ 9
    by_sign true b = small (at bytes 1)
    by_sign false true = small (at bytes 0)
    by_sign false false = omega arith

-- a block of its first line alone
pub whole_line : (text : List ℕ) (folds : Bool) (step least end : ℕ) (old new : List ℕ) (block : Block)
    → length text ≤ end → new ≡ old → block.feeds ≡ 0 → ReadsBlock text folds step least end end old new block
whole_line text folds step least end old new block over same none = record {
  said = [];
  added = same ∙ sym (append-nil old);
  read = λ h _. behind_end text folds h least end over
      ∙ ap (λ n. Some (end, replicate n 10)) (sym (none_kept h.chomping block none));
}

-- and with the lines behind it
pub rows_behind_line : (text : List ℕ) (folds : Bool) (step least end indent to : ℕ) (old new : List ℕ)
    (block : Block) → end < length text → end + 1 ≤ to
    → ((h : Header) → h.step ≡ step → indent_of h least (lines_of (drop (end + 1) text)) ≡ Some indent)
    → ReadsRows text folds indent (end + 1) to old new block → ReadsBlock text folds step least end to old new block
rows_behind_line text folds step least end indent to old new block inside low indents r = record {
  said = r.said;
  added = r.added;
  read = λ h is.
      let there : end + 1 + (to - (end + 1)) ≡ to = omega (arith, low) in
      behind_line text folds h least end inside
      ∙ ap (option_map (λ n. behind (end + 1) (rows_from text folds h.chomping n no_row 0 (end + 1)))) (indents h is)
      ∙ ap (λ x. Some (behind (end + 1) x)) (r.read h.chomping)
      ∙ ap (λ n. Some (n, r.said ++ replicate (kept_feeds h.chomping block) 10)) there;
}

-- no block whose lines stand nowhere
pub no_indent : (text : List ℕ) (folds : Bool) (step least end : ℕ) → end < length text
    → ((h : Header) → h.step ≡ step → ◌≡◌ {A = Option ℕ} (indent_of h least (lines_of (drop (end + 1) text))) None)
    → HasNoBlock text folds step least end
no_indent text folds step least end inside none h is to said e =
    absurd (no_some (to, said) (sym (behind_line text folds h least end inside
    ∙ ap (option_map (λ n. behind (end + 1) (rows_from text folds h.chomping n no_row 0 (end + 1)))) (none h is)) ∙ e))
  where
    no_some : (x : ℕ × List ℕ) → ◌≡◌ {A = Found} None (Some x) → ⊥
    no_some x e = cc

-- a tab behind it
pub tab_behind : (text : List ℕ) (folds : Bool) (step least end indent : ℕ) → end < length text
    → ((h : Header) → h.step ≡ step → indent_of h least (lines_of (drop (end + 1) text)) ≡ Some indent)
    → EndsAtTab text folds indent (end + 1) → HasNoBlock text folds step least end
tab_behind text folds step least end indent inside indents t h is to said e =
    let block = rows_from text folds h.chomping indent no_row 0 (end + 1) in
    let there : end + 1 + (t.end - (end + 1)) ≡ t.end = omega (arith, t.low) in
    let found : ◌≡◌ {A = Found} (block_behind text folds h least end) (Some (behind (end + 1) block)) =
    behind_line text folds h least end inside
    ∙ ap (option_map (λ n. behind (end + 1) (rows_from text folds h.chomping n no_row 0 (end + 1)))) (indents h is) in
    let same : end + 1 + block.0 ≡ to = ap end_of (sym found ∙ e) in
    ap (λ n. at text (next text n)) (sym same ∙ (ap (λ n. end + 1 + n) (t.read h.chomping) ∙ there)) ∙ t.tab
  where
    end_of : Found → ℕ
    end_of None = 0
    end_of (Some f) = f.0

-- what was put behind others
pub put_behind : (old said last now : List ℕ) (start : ℕ) → start ≡ length old → now ≡ (old ++ said) ++ last
    → slice_range now start (length now) ≡ said ++ last
put_behind old said last now start from is = part old (said ++ last) now start from (is ∙ append_assoc old said last)
  where
    part : (xs ys zs : List ℕ) (n : ℕ) → n ≡ length xs → zs ≡ xs ++ ys → slice_range zs n (length zs) ≡ ys
    part xs ys zs n e f =
        let size = length-append xs ys in
        let all : drop n zs ≡ ys = ap (drop n) f ∙ drop_at xs ys n (sym e) in
        ap (take (length zs - n)) all ∙ take_all (length zs - n) ys (omega (arith, ap length f, size, e))
