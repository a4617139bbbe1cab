-- The lines of a block, as a reader puts them behind a text.
use Rattle.std.proofs.Common.{ℕ, zero, suc, ◌+◌, ◌-◌, ◌<◌, ◌≤◌, ◌≡◌, ◌≢◌, ◌⊎◌, ◌&&◌, not, min, Bool}
use Rattle.std.proofs.Common.{true, false, inl, inr}
use Rattle.std.proofs.Common.{List, [], ◌++◌, refl, sym, ap, ap₂, ◌∙◌, append-nil, append_assoc, arith}
use Rattle.std.proofs.Common.{length}
use Rattle.std.proofs.Common.{replicate, slice_range}
use Rattle.std.specs.Prelude.{if◌then◌else◌}
use Rattle.std.proofs.lemmas.Bool.{cases_lt}
use Rattle.yaml_direct.specs.BlockRows.{AreEmpty, EndsAtTab, IsIndented, ReadsRows, kept_feeds, row_as, rows_behind}
use Rattle.yaml_direct.specs.BlockRows.{rows_from}
use Rattle.yaml_direct.specs.Blocks.{begins_blank, joins, joint}
use Rattle.yaml_direct.specs.Bytes.{at}
use Rattle.yaml_direct.specs.Gaps.{InLine, IsLineEnd}
use Rattle.yaml_direct.specs.declared.block_scalar.Block.{Block}
use Rattle.yaml_direct.proofs.NextLaws.{spaces_go, token_here}
use Rattle.yaml_direct.proofs.RowLaws.{rows_twice}
use Rattle.yaml_direct.proofs.TextRows.{end_row, last_row, said_row, text_row}
use Rattle.yaml_grammar.specs.BlockTexts.{Chomping, Row, chomped, clip, deep, flat, joined, keep, no_row, row_of, strip}
use Rattle.yaml_grammar.specs.Folding.{folded}

joint_folded : (n : ℕ) → joint true n ≡ folded n
joint_folded zero = refl
joint_folded (suc zero) = refl
joint_folded (suc (suc n)) = refl

abbrev row : (begun blank : Bool) → Row
row begun blank = if begun then (if blank then deep else flat) else no_row

abbrev feeds_by : (begun : Bool) → ℕ → ℕ
feeds_by begun empty = if begun then empty + 1 else empty

one_more : (n : ℕ) → n + 1 ≡ suc n
one_more n = omega arith

joint_by : (folds begun blank now : Bool) (feeds empty : ℕ) → feeds ≡ feeds_by begun empty
    → joint (folds && (begun && (not blank && not now))) feeds
    ≡ joined folds (row begun blank) (if now then deep else flat) empty
joint_by true false blank now feeds empty e = ap (λ n. replicate n 10) e
joint_by false false blank now feeds empty e = ap (λ n. replicate n 10) e
joint_by true true true now feeds empty e = ap (λ n. replicate n 10) (e ∙ one_more empty)
joint_by false true true now feeds empty e = ap (λ n. replicate n 10) (e ∙ one_more empty)
joint_by true true false true feeds empty e = ap (λ n. replicate n 10) (e ∙ one_more empty)
joint_by false true false true feeds empty e = ap (λ n. replicate n 10) (e ∙ one_more empty)
joint_by true true false false feeds empty e = ap (joint true) (e ∙ one_more empty) ∙ joint_folded (suc empty)
joint_by false true false false feeds empty e = ap (λ n. replicate n 10) (e ∙ one_more empty)

-- what the line feeds before a line stand for
joint_row : (block : Block) (line : List ℕ) (empty : ℕ) → block.feeds ≡ feeds_by block.begun empty
    → joint (joins block line) block.feeds ≡ joined block.folds (row_as block) (row_of (at line 0)) empty
joint_row block line empty e = joint_by block.folds block.begun block.blank (begins_blank line) block.feeds empty e

abbrev kept : Chomping → (begun : Bool) → (feeds : ℕ) → ℕ
kept strip begun feeds = 0
kept clip begun feeds = min feeds (if begun then 1 else 0)
kept keep begun feeds = feeds

chomped_by : (ch : Chomping) (begun blank : Bool) (feeds empty : ℕ) → feeds ≡ feeds_by begun empty
    → chomped ch (row begun blank) empty ≡ replicate (kept ch begun feeds) 10
chomped_by strip begun blank feeds empty e = refl
chomped_by clip false blank feeds empty e = let none : 0 ≡ min feeds 0 = omega arith in ap (λ n. replicate n 10) none
chomped_by clip true true feeds empty e = let one : 1 ≡ min feeds 1 = omega (arith, e) in ap (λ n. replicate n 10) one
chomped_by clip true false feeds empty e = let one : 1 ≡ min feeds 1 = omega (arith, e) in ap (λ n. replicate n 10) one
chomped_by keep false blank feeds empty e = ap (λ n. replicate n 10) (sym e)
chomped_by keep true true feeds empty e = ap (λ n. replicate n 10) (sym (e ∙ one_more empty))
chomped_by keep true false feeds empty e = ap (λ n. replicate n 10) (sym (e ∙ one_more empty))

kept_is : (ch : Chomping) (block : Block) → kept ch block.begun block.feeds ≡ kept_feeds ch block
kept_is strip block = refl
kept_is clip block = refl
kept_is keep block = refl

pub none_kept : (ch : Chomping) (block : Block) → block.feeds ≡ 0 → kept_feeds ch block ≡ 0
none_kept strip block e = refl
none_kept clip block e = omega (arith, e)
none_kept keep block e = e

-- The lines of a block from a place up to a line were put behind a text, and so many empty ones came last.
pub record RowsSoFar (text : List ℕ) (folds : Bool) (indent from line count : ℕ) (old now : List ℕ)
    (block : Block) : Type 0 where
  pub folded : block.folds ≡ folds
  pub feeds : block.feeds ≡ (if block.begun then count + 1 else count)
  pub forward : from ≤ line
  pub said : List ℕ
  pub added : now ≡ old ++ said
  pub read : (ch : Chomping) → rows_from text folds ch indent no_row 0 from
      ≡ rows_behind (line - from) said (rows_from text folds ch indent (row_as block) count line)

row_is : (block : Block) → block.begun ≡ false → row_as block ≡ no_row
row_is block e = ap (λ b. row b block.blank) e

pub rows_begin : (text : List ℕ) (folds : Bool) (indent from line count : ℕ) (old now : List ℕ) (block : Block)
    → block.folds ≡ folds → block.begun ≡ false → block.feeds ≡ count → now ≡ old → AreEmpty text indent count from line
    → RowsSoFar text folds indent from line count old now block
rows_begin text folds indent from line count old now block same begun feeds still e = record {
  folded = same;
  feeds = feeds ∙ sym (ap (λ b. feeds_by b count) begun);
  forward = e.forward;
  said = [];
  added = still ∙ sym (append-nil old);
  read = λ ch.
      let none : 0 + count ≡ count = omega arith in
      e.rows folds ch no_row 0
      ∙ ap₂ (λ r n. rows_behind (line - from) [] (rows_from text folds ch indent r n line)) (sym
      (row_is block begun)) none;
}

-- what a line with text adds
added_row : (old now more said content : List ℕ) (block : Block) (count : ℕ)
    → block.feeds ≡ (if block.begun then count + 1 else count) → now ≡ old ++ said
    → more ≡ (now ++ joint (joins block content) block.feeds) ++ content
    → more ≡ old ++ (said ++ said_row block.folds (row_as block) count content)
added_row old now more said content block count feeds first second =
    let join = joint (joins block content) block.feeds in
    second ∙ append_assoc now join content ∙ ap (λ x. x ++ (join ++ content)) first
    ∙ append_assoc old said (join ++ content)
    ∙ ap (λ x. old ++ (said ++ (x ++ content))) (joint_row block content count feeds)

pub rows_next : (text : List ℕ) (folds : Bool) (indent from line count place e line' count' : ℕ)
    (old now more : List ℕ) (block after : Block) → RowsSoFar text folds indent from line count old now block
    → IsIndented text indent line place → place - line ≡ indent → place < e → e ≤ length text → InLine text place e
    → at text e ≡ 10 → more ≡ (now ++ joint (joins block
    (slice_range text place e)) block.feeds) ++ slice_range text place e
    → after.folds ≡ block.folds → after.begun ≡ true → after.blank ≡ begins_blank (slice_range text place e)
    → after.feeds ≡ count' + 1 → AreEmpty text indent count' (e + 1) line'
    → RowsSoFar text folds indent from line' count' old more after
rows_next text folds indent from line count place e line' count' old now more block after s d far some within inline
    feed
    added same begun blank feeds empty =
    let content = slice_range text place e in
    let says = said_row block.folds (row_as block) count content in
    record {
      folded = same ∙ s.folded;
      feeds = feeds ∙ sym (ap (λ b. feeds_by b count') begun);
      forward = omega (arith, s.forward, d.forward, some, empty.forward);
      said = s.said ++ says;
      added = added_row old now more s.said content block count s.feeds s.added added;
      read = λ ch.
          let now_row = row_of (at content 0) in
          let rest = rows_from text folds ch indent now_row (0 + count') line' in
          let size : line - from + (e + 1 - line + (line' - (e + 1))) ≡ line' - from =
          omega (arith, s.forward, d.forward, some, empty.forward) in
          let none : 0 + count' ≡ count' = omega arith in
          let is : now_row ≡ row_as after =
          ap (λ b. if b then deep else flat) (sym blank) ∙ sym (ap (λ b. row b after.blank) begun) in
          s.read ch
          ∙ ap (rows_behind (line - from) s.said)
          (text_row text indent line place e folds ch (row_as block) count d far some within inline feed
          ∙ ap (λ f. rows_behind (e + 1 - line) (said_row f (row_as block) count content)
          (rows_from text folds ch indent now_row 0 (e + 1))) (sym s.folded)
          ∙ ap (rows_behind (e + 1 - line) says) (empty.rows folds ch now_row 0)
          ∙ rows_twice (e + 1 - line) (line' - (e + 1)) says [] rest)
          ∙ rows_twice (line - from) (e + 1 - line + (line' - (e + 1))) s.said (says ++ []) rest
          ∙ ap₂ (λ n x. rows_behind n (s.said ++ x) rest) size (append-nil says)
          ∙ ap₂ (λ r n. rows_behind (line' - from) (s.said ++ says) (rows_from text folds ch indent r n line')) is none;
    }

pub rows_last : (text : List ℕ) (folds : Bool) (indent from line count place e : ℕ) (old now more : List ℕ)
    (block after : Block) → RowsSoFar text folds indent from line count old now block
    → IsIndented text indent line place → place - line ≡ indent → place < e → e ≡ length text → InLine text place e
    → more ≡ (now ++ joint (joins block (slice_range text place e)) block.feeds) ++ slice_range text place e
    → after.feeds ≡ 0 → ReadsRows text folds indent from e old more after
rows_last text folds indent from line count place e old now more block after s d far some over inline added feeds =
    let content = slice_range text place e in
    let says = said_row block.folds (row_as block) count content in
    record {
      said = s.said ++ says;
      added = added_row old now more s.said content block count s.feeds s.added added;
      read = λ ch.
          let size : line - from + (e - line) ≡ e - from = omega (arith, s.forward, d.forward, some) in
          s.read ch
          ∙ ap (rows_behind (line - from) s.said)
          (last_row text indent line place e folds ch (row_as block) count d far some over inline
          ∙ ap (λ f. (e - line, said_row f (row_as block) count content)) (sym s.folded))
          ∙ ap₂ (λ n x. (n, x)) size (sym (append-nil (s.said ++ says)))
          ∙ ap (λ n. (e - from, (s.said ++ says) ++ replicate n 10)) (sym (none_kept ch after feeds));
    }

pub rows_over : (text : List ℕ) (folds : Bool) (indent from line count place : ℕ) (old now : List ℕ) (block : Block)
    → RowsSoFar text folds indent from line count old now block → IsIndented text indent line place
    → place ≤ length text → at text place ≢ 10 → (length text ≤ place) ⊎ (place - line ≢ indent)
    → ReadsRows text folds indent from line old now block
rows_over text folds indent from line count place old now block s d within some why = record {
  said = s.said;
  added = s.added;
  read = λ ch.
      let none : line - from + 0 ≡ line - from = omega arith in
      s.read ch
      ∙ ap (rows_behind (line - from) s.said)
      (end_row text indent line place folds ch (row_as block) count d within some why)
      ∙ ap₂ (λ n x. (n, s.said ++ x)) none
      (chomped_by ch block.begun block.blank block.feeds count s.feeds ∙ ap (λ n. replicate n 10) (kept_is ch block));
}

-- a tab is the next token
pub rows_tab : (text : List ℕ) (folds : Bool) (indent from line count place : ℕ) (old now : List ℕ) (block : Block)
    → RowsSoFar text folds indent from line count old now block → IsIndented text indent line place
    → place ≤ length text → at text place ≡ 9 → (length text ≤ place) ⊎ (place - line ≢ indent)
    → EndsAtTab text folds indent from
rows_tab text folds indent from line count place old now block s d within tab why =
    let goes = spaces_go text line place d.forward d.blanks in
    let here = token_here text place (λ e. omega (arith, e, tab)) (λ e. omega (arith, e, tab)) (λ e. omega
    (arith, e, tab)) in
    record {
      end = line;
      low = s.forward;
      read = λ ch.
          let none : line - from + 0 ≡ line - from = omega arith in
          ap (λ r. r.0) (s.read ch
          ∙ ap (rows_behind (line - from) s.said)
          (end_row text indent line place folds ch (row_as block) count d within (λ e. omega (arith, e, tab)) why))
          ∙ none;
      tab = ap (at text) (goes.there ∙ here.there) ∙ tab;
    }

-- a line goes on where no line feed stands
pub row_some : (text : List ℕ) (place e : ℕ) → at text place ≢ 10 → place < length text → place ≤ e → IsLineEnd text e
    → place < e
row_some text place e some inside forward ends =
    elim (cases_lt place e) [
      | inl less ↦ less
      | inr over ↦
          let same : e ≡ place = omega (arith, forward, over) in
          elim ends [
            | inl feed ↦ absurd (some (ap (at text) (sym same) ∙ feed))
            | inr past ↦ absurd (omega (arith, past, same, inside))
          ]
    ]
