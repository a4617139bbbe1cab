-- A block of lines that was added.
use Rattle.std.proofs.Common.{ℕ, zero, suc, ◌+◌, ◌-◌, ◌<◌, ◌≤◌, ◌≡◌, ◌==◌, inl, inr, Bool, true, List, ◌++◌}
use Rattle.std.proofs.Common.{Some, refl, sym, subst, ap, ◌∙◌, arith, drop, length, replicate}
use Rattle.std.proofs.lemmas.Bool.{cases_Bool, eq-eqb, or_right}
use Rattle.std.proofs.lemmas.List.{get_or_past}
use Rattle.yaml_base.specs.declared.event.ScalarStyle.{ScalarStyle}
use Rattle.yaml_direct.specs.Added.{AddsBlock, AddsScalar, LeavesBlock, begins_block}
use Rattle.yaml_direct.specs.BlockHeads.{IsRemark}
use Rattle.yaml_direct.specs.BlockRows.{HasNoBlock, ReadsBlock, kept_feeds}
use Rattle.yaml_direct.specs.Tokens.{HasNoToken, IsAtNext, IsCounted, IsLineBegin}
use Rattle.yaml_direct.specs.declared.block_scalar.Block.{Block}
use Rattle.yaml_direct.specs.declared.reader.Reader.{Reader}
use Rattle.yaml_direct.proofs.BlockWhole.{block_is}
use Rattle.yaml_direct.proofs.ColumnLaws.{feed_column, first_column}
use Rattle.yaml_direct.proofs.NextLaws.{before_apart, sharp_moves}
use Rattle.yaml_direct.proofs.PlainLeaves.{adds_scalar_marked, adds_scalar_on}
use Rattle.yaml_grammar.specs.BlockTexts.{header_of}
use Rattle.yaml_grammar.specs.Blocks.{block_style}
use Rattle.yaml_grammar.specs.Bytes.{at, column}
use Rattle.yaml_grammar.specs.Gaps.{breaks, next}
use Rattle.yaml_tape.specs.Pushes.{marked_on}

-- where a line begins the column is 0
line_column : (text : List ℕ) (end : ℕ) → at text (end - 1) ≡ 10 → column text end ≡ 0
line_column text zero feed = first_column text
line_column text (suc n) feed =
    let back : suc n - 1 ≡ n = omega arith in feed_column text n (ap (at text) (sym back) ∙ feed)

-- columns are counted behind a line's beginning
pub counted_behind : (mid new : Reader) (end to : ℕ) → IsLineBegin mid end → IsAtNext mid new end to
    → new.text.now ≡ mid.text.now → end ≤ to → to ≤ length mid.text.now → IsCounted new to
counted_behind mid new end to begun n same low within = record {
  within = subst (λ t. to ≤ length t) (sym same) within;
  column = subst (λ t. to < length t → column t to ≡ to - new.line_start) (sym same) counted;
}
  where
    counted : to < length mid.text.now → column mid.text.now to ≡ to - new.line_start
    counted inside = elim (cases_Bool (breaks mid.text.now end)) [
      | inl broken ↦ n.in_later_line broken inside
      | inr whole ↦ elim begun [
        | inl b ↦
            let none = line_column mid.text.now end b.1 in
            let start = n.start whole in
            omega (arith, n.in_line whole inside, none, start, b.0)
        | inr over ↦ absurd (omega (arith, over, low, inside))
      ]
    ]

-- and a comment may begin there
pub no_sharp_there : (r : Reader) (end : ℕ) → IsLineBegin r end → HasNoToken r.text.now end → ⊥
no_sharp_there r end (inl b) n =
    sharp_moves r.text.now end n.sharp (before_apart r.text.now end
    (or_right (end == 0) _ (or_right (at r.text.now (end - 1) == 32) _ (eq-eqb (at r.text.now (end - 1)) 10 b.1)))) n.here
no_sharp_there r end (inr over) n =
    absurd (omega (arith, n.sharp, get_or_past r.text.now end 0 (omega (arith, over))))

-- all of a block
pub block_added : (old mid pushed new : Reader) (least from j first end to : ℕ) (arena now : List ℕ) (block : Block)
    (text : List ℕ) (how : ScalarStyle) → suc from ≡ j → begins_block (at old.text.now from) ≡ true
    → first ≤ length old.text.now
    → IsRemark old.text.now (j + (header_of (drop j old.text.now)).size) first
    → (r : ReadsBlock old.text.now (at old.text.now from == 62) (header_of (drop j old.text.now)).step least first end
    arena now block)
    → text ≡ r.said ++ replicate (kept_feeds (header_of (drop j old.text.now)).chomping block) 10
    → how ≡ block_style (at old.text.now from)
    → marked_on mid.tape ≡ marked_on old.tape → mid.text.now ≡ old.text.now → mid.start ≡ old.start
    → mid.names ≡ old.names → AddsScalar mid pushed text how end → new.tape ≡ pushed.tape → new.names ≡ pushed.names
    → to ≡ next old.text.now end → IsCounted new to → AddsBlock old new least from to
block_added old mid pushed new least from j first end to arena now block text how one begins within remark r said style
    marked same start names added tape names' there counted =
    record {
      end = end;
      said = text;
      read = block_is old.text.now least from j first one begins within remark
          ∙ r.read (header_of (drop j old.text.now)) refl
          ∙ ap (λ x. Some (end, x)) (sym said);
      added = subst (λ s. AddsScalar old new text s end) style
          (adds_scalar_on old pushed new text how end tape names'
          (adds_scalar_marked old mid pushed text how end marked same start names added));
      there = there;
      counted = counted;
    }

-- or it was left
pub block_left : (text : List ℕ) (least from j first : ℕ) → suc from ≡ j → begins_block (at text from) ≡ true
    → first ≤ length text → IsRemark text (j + (header_of (drop j text)).size) first
    → HasNoBlock text (at text from == 62) (header_of (drop j text)).step least first → LeavesBlock text least from
block_left text least from j first one begins within remark none end said e =
    none (header_of (drop j text)) refl end said
    (sym (block_is text least from j first one begins within remark) ∙ e)

pub line_begin_kept : (a b : Reader) (end : ℕ) → b.text.now ≡ a.text.now → b.line_start ≡ a.line_start
    → IsLineBegin a end → IsLineBegin b end
line_begin_kept a b end text line (inl h) = inl (h.0 ∙ sym line, ap (λ t. at t (end - 1)) text ∙ h.1)
line_begin_kept a b end text line (inr h) = inr (h ∙ ap length (sym text))

-- what was read of its lines, with the step and the chomping that its first line says
pub step_is : (text : List ℕ) (folds : Bool) (step step' least first end : ℕ) (arena now : List ℕ) (block : Block)
    → step ≡ step' → ReadsBlock text folds step least first end arena now block
    → ReadsBlock text folds step' least first end arena now block
step_is text folds step step' least first end arena now block e r =
    subst (λ s. ReadsBlock text folds s least first end arena now block) e r
