-- A byte more, one that is none, and the end.
use Rattle.std.proofs.Common.{◌≡◌, ◌+◌, ◌<◌, ◌∙◌, ap, arith, inl, inr, length, sym}
use Rattle.std.proofs.lemmas.Bool.{cases_lt}
use Rattle.yaml_direct.proofs.GapLaws.{length_of_part}
use Rattle.yaml_direct.proofs.NameLaws.{count_here, item_at}
use Rattle.yaml_direct.proofs.tag.tag_text_end.Goals as goal
use Rattle.yaml_grammar.specs.Bytes.{at}
use Rattle.yaml_grammar.specs.Names.{is_tag_byte}

pub loop-count-preserved : goal.loop-count-preserved
loop-count-preserved c =
    let text = c.args.text.now in
    let from = c.args.from in
    let n = c.loop-count.count in
    let size = length_of_part text from c.requires in
    let inside : from + n < length text = omega (arith, size, c.loop-count-test.true, c.requires) in
    λ k low high. elim (cases_lt k (from + n)) [
      | inl less ↦ c.loop-count.invariant k low less
      | inr over ↦ (let same : k ≡ from + n = omega (arith, over, high) in
          ap (λ j. (is_tag_byte c.args.wide) (at text j)) same
          ∙ (ap (is_tag_byte c.args.wide) (sym (item_at text from n inside)) ∙ (sym c.is_tag_byte.ensures ∙ c.if-not-is_tag_byte.false)))
    ]

pub returns-then-not-is_tag_byte-clause-read : goal.returns-then-not-is_tag_byte-clause-read
returns-then-not-is_tag_byte-clause-read c =
    let text = c.args.text.now in
    let from = c.args.from in
    let n = c.loop-count.count in
    let size = length_of_part text from c.requires in
    let inside : from + n < length text = omega (arith, size, c.loop-count-test.true, c.requires) in
    count_here (is_tag_byte c.args.wide) text from n (omega (arith, inside)) c.loop-count.invariant
    (λ _. ap (is_tag_byte c.args.wide) (sym (item_at text from n inside)) ∙ (sym c.is_tag_byte.ensures ∙ c.if-not-is_tag_byte.true))

pub returns-clause-read : goal.returns-clause-read
returns-clause-read c =
    let text = c.args.text.now in
    let from = c.args.from in
    let n = c.loop-count.count in
    let size = length_of_part text from c.requires in
    let all : from + n ≡ length text
    = omega (arith, size, c.loop-count-test.false, c.loop-count.auto.count-end, c.requires) in
    sym all
    ∙ count_here (is_tag_byte c.args.wide) text from n (omega (arith, all)) c.loop-count.invariant (λ less. absurd (omega (arith, less, all)))
