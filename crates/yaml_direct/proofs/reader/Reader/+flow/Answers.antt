-- What was read in brackets is what the grammar reads.
use Rattle.std.proofs.Common.{ap, arith, codes, false, length, refl, subst, sym, true, ◌+◌, ◌-◌, ◌<◌}
use Rattle.std.proofs.Common.{inl, inr, Some, ◌∙◌, ◌≡◌, ◌≢◌, ◌≤◌, ◌⊎◌}
use Rattle.std.proofs.lemmas.Bool.{false≢true}
use Rattle.yaml_direct.specs.Gaps.{InLine}
use Rattle.yaml_direct.specs.Held.{names_of}
use Rattle.yaml_direct.specs.InBrackets.{Has, IsAlone, IsBrackets, IsFlowItem, IsFlowNode, IsFlowPart, IsFlowValue}
use Rattle.yaml_direct.specs.InBrackets.{behind_names, closing_of, opens, quotes}
use Rattle.yaml_direct.specs.Leaves.{IsFound}
use Rattle.yaml_direct.proofs.BracketLeaves.{begins_first, behind_none, first_stays, found_leaf, is_plain_first}
use Rattle.yaml_direct.proofs.BracketLeaves.{leaf_kept, open_quote, quoted_read}
use Rattle.yaml_direct.proofs.BracketReads.{NodeRead, added_at, behind_kept, behind_read, brackets_read, broken_of}
use Rattle.yaml_direct.proofs.BracketReads.{curly_read, element_value, entry_no_value, has_alone, has_from}
use Rattle.yaml_direct.proofs.BracketReads.{item_no_value, key_has, leaf_line, leaf_read, line_of, next_of}
use Rattle.yaml_direct.proofs.BracketReads.{node_has, nothing_is, of_allowed, of_kept, opened_curly, pair_has}
use Rattle.yaml_direct.proofs.BracketReads.{parts_first, parts_turn, parts_whole, read_kept, square_read}
use Rattle.yaml_direct.proofs.BracketReads.{turns_fall, unnamed_kept, value_none, value_some}
use Rattle.yaml_direct.proofs.BracketSteps.{alone_none, bracket_stays, element_has, ends_here, eq_item, first_line}
use Rattle.yaml_direct.proofs.BracketSteps.{is_entry, item_no_entry, key_colon, leaf_early, line_to, named_behind}
use Rattle.yaml_direct.proofs.BracketSteps.{names_behind, names_only, ne_entry, next_low, no_entry, no_item}
use Rattle.yaml_direct.proofs.BracketSteps.{no_value, not_open, part_begun, plain_behind, plain_whole, quote_by}
use Rattle.yaml_direct.proofs.BracketSteps.{quote_parts, quote_stays, value_no_entry}
use Rattle.yaml_grammar.specs.Brackets.{part_after}
use Rattle.yaml_grammar.specs.Bytes.{at, is_one_of, is_over, parts_documents}
use Rattle.yaml_grammar.specs.Gaps.{breaks, next}
use Rattle.yaml_direct.proofs.Growing.{grows_on}
use Rattle.yaml_direct.specs.PlainTexts.{is_tight}
use Rattle.yaml_direct.proofs.FlowSays.{flow_line_by}
use Rattle.yaml_direct.proofs.LineLaws.{line_on, plain_line}
use Rattle.std.specs.Prelude.{None}
use Rattle.yaml_base.specs.PlainEvent.{mapping_start}
use Rattle.yaml_direct.specs.Gaps.{begins_token}
use Rattle.yaml_direct.proofs.NamesEnds.{names_over}
use Rattle.yaml_grammar.specs.Bytes.{column}
use Rattle.yaml_direct.proofs.BracketAmid.{byte_amid, closing_byte, colon_amid, parts_begin, parts_next}
use Rattle.yaml_direct.proofs.BracketMisses.{leaf_begins}
use Rattle.yaml_direct.proofs.BracketOnly.{colon_byte}
use Rattle.yaml_direct.proofs.NamesLines.{names_line}
use Rattle.yaml_grammar.specs.Names.{names_at}
use Rattle.yaml_direct.specs.Added.{HasNoLeaf}
use Rattle.yaml_direct.specs.Leaves.{IsLeaf, is_open}
use Rattle.yaml_direct.specs.LeftInBrackets.{HasNothing, IsLeftOpen, LeavesNode, LeavesPart, LeavesValue, ends_part}
use Rattle.yaml_direct.specs.Quoted.{quoted_from}
use Rattle.yaml_direct.specs.Tokens.{HasNoToken}
use Rattle.yaml_direct.specs.declared.flow.Slot.TheVariants.{Item}
use Rattle.yaml_direct.proofs.AddedLeaves.{none_leaf, quoted_none}
use Rattle.yaml_direct.proofs.BracketBytes.{no_part_byte, none_else}
use Rattle.yaml_direct.proofs.BracketBytes.{colon_cut, eq_value, first_some, is_sign, key_left, leaf_some, no_end_byte}
use Rattle.yaml_direct.proofs.BracketBytes.{no_open_byte, no_other, no_quote_byte, open_forward, open_no_key, quote_apart}
use Rattle.yaml_direct.proofs.BracketBytes.{read_end, sign_byte, sign_none, tight_none, token_stays, value_of_pair}
use Rattle.yaml_direct.proofs.BracketFails.{behind_low, first_left, leaf_missed, no_key_far, no_key_lines, no_leaf_node}
use Rattle.yaml_direct.proofs.BracketFails.{no_plain_node}
use Rattle.yaml_direct.proofs.BracketLeft.{collection_left, cut_left, no_collection_left, no_value_left, none_left}
use Rattle.yaml_direct.proofs.BracketLeft.{nothing_parts, nothing_value, pair_left, part_left, parts_left, parts_on, value_left}
use Rattle.yaml_direct.proofs.BracketMisses.{NoNode, bracket_begins, broken_node, nameless, no_collection, no_node, node_end}
use Rattle.yaml_direct.proofs.BracketNothing.{brackets_none, cut_by, gap_end, gap_nothing, gap_shut, no_curly, no_square}
use Rattle.yaml_direct.proofs.BracketNothing.{none_brackets}
use Rattle.yaml_direct.proofs.BracketSteps.{no_parts}
use Rattle.yaml_direct.proofs.FeedPlaces.{broken_lines}
use Rattle.yaml_direct.proofs.ReaderLaws.{no_such_place}
use Rattle.yaml_grammar.specs.Bytes.{is_one_line}
use Rattle.yaml_grammar.specs.Folding.{Rest}
use Rattle.yaml_grammar.specs.Leaves.{leaf_at}
use Rattle.yaml_grammar.specs.Plain.{begins_plain, in_brackets}
use Rattle.yaml_reading.specs.BracketReader.{brackets_at}
use Rattle.yaml_reading.proofs.BracketSteps.{no_brackets}
use Rattle.yaml_direct.proofs.reader.Reader.+flow.Goals as goal

-- flow
pub flow-returns-else-place-2-clause-found : goal.flow-returns-else-place-2-clause-found
flow-returns-else-place-2-clause-found t c = λ text of early opened some.
    let old = c.args.self.now in
    let place = c.args.place in
    let a = c.push_collection-place.new.self in
    let b = c.flow_parts-place.new.self in
    let push = c.push_collection-place.ensures in
    let parts = c.flow_parts-place.ensures in
    let end = c.push_end.ensures in
    let byte : at text place ≡ 91 = ap (λ t. at t place) (sym of.same) ∙ (sym c.at.ensures.value ∙ c.if-at-eq91.true) in
    let of_a = of_kept text old a of push.kept.0 in
    let amid = byte_amid a place 91 (omega (arith, push.kept.1.0, c.requires.here.0))
    (ap (λ t. at t place) of_a.same ∙ byte) (omega arith) (λ f. omega (arith, f)) (λ f. omega (arith, f)) in
    let read = parts.found text of_a (push.unnamed c.if-place.false) amid refl item_no_value c.if-place-2.false in
    subst (λ k. Has old c.push_end.new.self (IsBrackets text c.args.depth old.start.index (names_of old) place k))
    (sym (end.there some))
    (square_read text old a b c.push_end.new.self c.args.depth place c.flow_parts-place.result c.spot.result of early
    c.if-depth-eq0.false byte (push.added c.if-place.false) (parts.reached.0 ∙ (push.kept.0 ∙ of.same)) read
    c.spot.ensures.0 c.spot.ensures.1 (end.added some) (unnamed_kept b c.push_end.new.self end.names read.unnamed))

pub flow-returns-else-place-4-clause-found : goal.flow-returns-else-place-4-clause-found
flow-returns-else-place-4-clause-found t c = λ text of early opened some.
    let old = c.args.self.now in
    let place = c.args.place in
    let a = c.push_collection-place-else-at-eq91.new.self in
    let b = c.flow_parts-place-else-at-eq91.new.self in
    let push = c.push_collection-place-else-at-eq91.ensures in
    let parts = c.flow_parts-place-else-at-eq91.ensures in
    let end = c.push_end-else-at-eq91.ensures in
    let new = c.push_end-else-at-eq91.new.self in
    let byte : at text place ≡ 123 = opened_curly text place opened
    (λ e. c.if-at-eq91.false (c.at.ensures.value ∙ ap (λ t. at t place) of.same ∙ e)) in
    let of_a = of_kept text old a of push.kept.0 in
    let amid = byte_amid a place 123 (omega (arith, push.kept.1.0, c.requires.here.0))
    (ap (λ t. at t place) of_a.same ∙ byte) (omega arith) (λ f. omega (arith, f)) (λ f. omega (arith, f)) in
    let read = parts.found text of_a (push.unnamed c.if-place-3.false) amid refl entry_no_value c.if-place-4.false in
    subst (λ k. Has old new (IsBrackets text c.args.depth old.start.index (names_of old) place k)) (sym (end.there some))
    (curly_read text old a b new c.args.depth place c.flow_parts-place-else-at-eq91.result
    c.spot-else-at-eq91.result of early c.if-depth-eq0.false byte (push.added c.if-place-3.false)
    (parts.reached.0 ∙ (push.kept.0 ∙ of.same)) read c.spot-else-at-eq91.ensures.0 c.spot-else-at-eq91.ensures.1
    (end.added some) (unnamed_kept b new end.names read.unnamed))

-- flow parts
pub flow_parts-parts-init : goal.flow_parts-parts-init
flow_parts-parts-init t c =
    let old = c.args.self.now in
    let gap = c.flow_gap-place.ensures in
    let new = c.flow_gap-place.new.self in
    let r = gap.reached.1.1 c.if-place.false in
    record {
      grows = gap.reached.1.0;
      forward = r.0;
      here = r.1.0;
      within = subst (λ t. c.flow_gap-place.result < length t) (sym gap.reached.0) (gap.inside c.if-place.false);
      same = gap.reached.0;
      stands = λ text of none amid closing some. parts_begin text c.args.slot c.args.depth (next text c.args.from)
          c.flow_gap-place.result
          (next_of text old new c.args.from c.flow_gap-place.result of (gap.found (of_allowed text old of) c.if-place.false))
          (ap (λ t. begins_token t c.flow_gap-place.result) (sym of.same) ∙ gap.token c.if-place.false)
          (ap (λ t. is_over t c.flow_gap-place.result) (sym of.same)
          ∙ gap.there (of_allowed text old of) (λ _. amid) c.if-place.false);
      read = λ text of none amid closing some. parts_first text c.args.slot c.args.depth (next text c.args.from)
          c.flow_gap-place.result old new
          (next_of text old new c.args.from c.flow_gap-place.result of (gap.found (of_allowed text old of) c.if-place.false))
          gap.still gap.names none;
    }

pub flow_parts-parts-preserved : goal.flow_parts-parts-preserved
flow_parts-parts-preserved t c =
    let old = c.args.self.now in
    let i = c.parts.invariant in
    let part = c.flow_element-place.ensures in
    let step = c.flow_next-place.ensures in
    let b = c.flow_element-place.new.self in
    let new = c.flow_next-place.new.self in
    let p = part.reached.1.1 c.if-place-2.false in
    let s = step.reached.1.1 c.if-place-3.false in
    record {
      grows = grows_on old c.parts.self new i.grows (grows_on c.parts.self b new part.reached.1.0 step.reached.1.0);
      forward = omega (arith, i.forward, p.0, s.0);
      here = s.1.0;
      within = subst (λ t. c.flow_next-place.result < length t) (sym step.reached.0) (step.inside c.if-place-3.false);
      same = step.reached.0 ∙ (part.reached.0 ∙ i.same);
      stands = λ text of none amid closing some.
          let x = i.read text of none amid closing some in
          let z = i.stands text of none amid closing some in
          let of_a = of_kept text old c.parts.self of i.same in
          let of_b = of_kept text c.parts.self b of_a part.reached.0 in
          let y = part.found text of_a x.unnamed z.over some c.if-place-2.false in
          let ends = closing_byte c.args.slot c.args.closing some closing in
          parts_next text c.args.slot c.args.depth (next text c.args.from) c.parts.next c.flow_element-place.result
          c.flow_next-place.result y.events
          (λ e. c.parts-test.true (c.at.ensures.value ∙ ap (λ t. at t c.parts.next) of_a.same ∙ e ∙ sym closing)) y.what z
          (ap (λ t. part_after t (closing_of c.args.slot) c.flow_element-place.result) (sym of_b.same)
          ∙ ap (λ k. part_after b.text.now k c.flow_element-place.result) (sym closing)
          ∙ step.found (of_allowed text b of_b) c.if-place-3.false)
          (ap (λ t. begins_token t c.flow_next-place.result) (sym of_b.same) ∙ step.token c.if-place-3.false ends)
          (ap (λ t. is_over t c.flow_next-place.result) (sym of_b.same)
          ∙ step.there (of_allowed text b of_b) ends c.if-place-3.false);
      read = λ text of none amid closing some.
          let x = i.read text of none amid closing some in
          let z = i.stands text of none amid closing some in
          let of_a = of_kept text old c.parts.self of i.same in
          let of_b = of_kept text c.parts.self b of_a part.reached.0 in
          let y = part.found text of_a x.unnamed z.over some c.if-place-2.false in
          parts_turn text c.args.slot c.args.depth (next text c.args.from) c.parts.next c.flow_element-place.result
          c.flow_next-place.result old c.parts.self b new x y
          (ap (λ t. part_after t (closing_of c.args.slot) c.flow_element-place.result) (sym of_b.same)
          ∙ ap (λ k. part_after b.text.now k c.flow_element-place.result) (sym closing)
          ∙ step.found (of_allowed text b of_b) c.if-place-3.false)
          step.still step.names;
    }

pub flow_parts-parts-smaller : goal.flow_parts-parts-smaller
flow_parts-parts-smaller t c =
    let i = c.parts.invariant in
    let part = c.flow_element-place.ensures in
    let step = c.flow_next-place.ensures in
    let k = c.flow_element-place.result in
    let j = c.flow_next-place.result in
    let p = part.reached.1.1 c.if-place-2.false in
    let first = c.flow_gap-place.new.self.text.now in
    let same : c.parts.self.text.now ≡ first = i.same ∙ sym c.flow_gap-place.ensures.reached.0 in
    turns_fall first c.args.closing c.parts.next k j
    (λ e. c.parts-test.true (c.at.ensures.value ∙ ap (λ t. at t c.parts.next) same ∙ e)) p.0
    (subst (λ t. c.parts.next < length t) same i.within)
    (subst (λ t. ((j ≡ k) × (at t j ≡ c.args.closing)) ⊎ (k < j)) (part.reached.0 ∙ same)
    (step.further c.if-place-3.false))

pub flow_parts-returns-clause-found : goal.flow_parts-returns-clause-found
flow_parts-returns-clause-found t c = λ text of none amid closing some reached.
    let i = c.parts.invariant in
    let of_a = of_kept text c.args.self.now c.parts.self of i.same in
    parts_whole text c.args.slot c.args.depth (next text c.args.from) c.parts.next c.args.self.now c.parts.self some
    (i.read text of none amid closing some)
    (ap (λ t. at t c.parts.next) (sym of_a.same) ∙ (sym c.at.ensures.value ∙ (c.parts-test.false ∙ closing)))

-- flow element
pub flow_element-returns-then-ne-clause-found : goal.flow_element-returns-then-ne-clause-found
flow_element-returns-then-ne-clause-found t c = λ text of none over some reached.
    element_has text c.args.slot c.args.self.now c.flow_part-place.new.self c.args.depth c.args.place
    c.flow_part-place.result some (λ e colon. ne_entry c.args.slot c.ne.result c.ne.ensures c.if-ne.true e)
    (c.flow_part-place.ensures.found text of none over c.if-place.false)

pub flow_element-returns-then-at-ne58-clause-found : goal.flow_element-returns-then-at-ne58-clause-found
flow_element-returns-then-at-ne58-clause-found t c = λ text of none over some reached.
    let old = c.args.self.now in
    let mid = c.flow_part-place.new.self in
    let k = c.flow_part-place.result in
    let of_m = of_kept text old mid of c.flow_part-place.ensures.reached.0 in
    element_has text c.args.slot old mid c.args.depth c.args.place k some
    (λ e colon. c.if-at-ne58.true (c.at.ensures.value ∙ ap (λ t. at t k) of_m.same ∙ colon))
    (c.flow_part-place.ensures.found text of none over c.if-place.false)

pub flow_element-returns-clause-found : goal.flow_element-returns-clause-found
flow_element-returns-clause-found t c = λ text of none over some reached.
    let old = c.args.self.now in
    let mid = c.flow_part-place.new.self in
    let k = c.flow_part-place.result in
    let part = c.flow_part-place.ensures in
    let of_m = of_kept text old mid of part.reached.0 in
    let x = part.found text of none over c.if-place.false in
    element_value text c.args.slot old mid c.flow_value.new.self c.args.depth c.args.place k c.flow_value.result
    (is_entry c.args.slot c.ne.result c.ne.ensures c.if-ne.false) (ap (λ t. at t k) (sym of_m.same) ∙ (sym c.at.ensures.value ∙ c.if-at-ne58.false)) x
    (c.flow_value.ensures.found text of_m x.unnamed
    (colon_amid mid k (part.reached.1.1 c.if-place.false).1.0 (sym c.at.ensures.value ∙ c.if-at-ne58.false)) reached)

-- flow part
pub flow_part-returns-in-91-clause-found : goal.flow_part-returns-in-91-clause-found
flow_part-returns-in-91-clause-found t c = λ text of none over some.
    let old = c.args.self.now in
    let place = c.args.place in
    let m = c.begin.new.self in
    let b = c.begin.ensures in
    let of_m = of_kept text old m of b.text in
    let opened : opens (at text place) ≡ true = ap (λ t. opens (at t place)) (sym of_m.same)
    ∙ grind (arith, c.in-91.is, c.at.ensures.value) in
    part_begun text c.args.slot old m c.flow_collection.new.self c.args.depth place c.flow_collection.result b.still
    b.start
    (c.flow_collection.ensures.found text of_m
    (behind_none text true m place b.start b.early (unnamed_kept old m b.names none) (bracket_stays text place opened))
    opened some)

pub flow_part-returns-in-34-clause-found : goal.flow_part-returns-in-34-clause-found
flow_part-returns-in-34-clause-found t c = λ text of none over some.
    let old = c.args.self.now in
    let place = c.args.place in
    let m = c.begin.new.self in
    let b = c.begin.ensures in
    let of_m = of_kept text old m of b.text in
    let quoted : quotes (at text place) ≡ true = ap (λ t. quotes (at t place)) (sym of_m.same)
    ∙ grind (arith, c.in-34.is, c.at.ensures.value) in
    part_begun text c.args.slot old m c.flow_leaf.new.self c.args.depth place c.flow_leaf.result b.still b.start
    (c.flow_leaf.ensures.found text of_m
    (behind_none text true m place b.start b.early (unnamed_kept old m b.names none) (quote_stays text place quoted))
    quoted some)

pub flow_part-returns-in_default-clause-found : goal.flow_part-returns-in_default-clause-found
flow_part-returns-in_default-clause-found t c = λ text of none over some.
    let old = c.args.self.now in
    let place = c.args.place in
    let m = c.begin.new.self in
    let b = c.begin.ensures in
    let of_m = of_kept text old m of b.text in
    part_begun text c.args.slot old m c.flow_plain.new.self c.args.depth place c.flow_plain.result b.still b.start
    (c.flow_plain.ensures.found text of_m over
    (λ begins. behind_none text true m place b.start b.early (unnamed_kept old m b.names none)
    (first_stays text place (begins_first text true place begins))) some)

pub flow_part-returns-in-38-clause-found : goal.flow_part-returns-in-38-clause-found
flow_part-returns-in-38-clause-found t c = λ text of none over some.
    let old = c.args.self.now in
    let place = c.args.place in
    let m = c.begin.new.self in
    let b = c.begin.ensures in
    let of_m = of_kept text old m of b.text in
    has_from old m c.named_flow_part.new.self
    (IsFlowPart text c.args.slot c.args.depth place c.named_flow_part.result) b.still
    (c.named_flow_part.ensures.found text of_m (unnamed_kept old m b.names none) b.early b.start some)

-- named flow part
pub named_flow_part-returns-in_default-clause-found : goal.named_flow_part-returns-in_default-clause-found
named_flow_part-returns-in_default-clause-found t c = λ text of none early there some.
    let old = c.args.self.now in
    let place = c.args.place in
    let p = c.properties-place.new.self in
    let g = c.flow_gap-place.new.self in
    let names = c.properties-place.ensures in
    let gap = c.flow_gap-place.ensures in
    let of_p = of_kept text old p of names.kept.0 in
    let of_g = of_kept text p g of_p gap.reached.0 in
    let k = c.flow_gap-place.result in
    let e = c.properties-place.result in
    let n = gap.found (of_allowed text p of_p) c.if-place-2.false in
    let line = names_line text true place e (names_of p) (ap (λ t. names_at t true place) (sym of.same)
    ∙ names.found (of_allowed text old of) none c.if-place.false) in
    let b = named_behind text old p g place e k of names.kept.0
    (names.found (of_allowed text old of) none c.if-place.false) names.kept.1.1.0 gap.start gap.names there early n
    c.if-self-line.false line in
    let inside = gap.inside c.if-place-2.false in
    let whole = line_of text p g e k of_p n c.if-self-line.false in
    let over = names_over text place e k (names_of p)
    (ap (λ t. names_at t true place) (sym of.same) ∙ names.found (of_allowed text old of) none c.if-place.false)
    c.if-end-place.false (next_of text p g e k of_p n) (subst (λ t. k < length t) of_p.same inside)
    (subst (λ t. column t k ≡ column t e + (k - e)) of_p.same
    (n.in_line (ap (λ t. breaks t e) of_p.same ∙ whole) inside)) in
    part_begun text c.args.slot old g c.flow_plain.new.self c.args.depth place c.flow_plain.result
    (gap.still ∙ names.still) (ap (λ s. s.index) (gap.start ∙ names.kept.1.1.0) ∙ there)
    (c.flow_plain.ensures.found text of_g over (λ begins. b) some)

pub named_flow_part-returns-in-91-clause-found : goal.named_flow_part-returns-in-91-clause-found
named_flow_part-returns-in-91-clause-found t c = λ text of none early there some.
    let old = c.args.self.now in
    let place = c.args.place in
    let p = c.properties-place.new.self in
    let g = c.flow_gap-place.new.self in
    let names = c.properties-place.ensures in
    let gap = c.flow_gap-place.ensures in
    let of_p = of_kept text old p of names.kept.0 in
    let of_g = of_kept text p g of_p gap.reached.0 in
    let k = c.flow_gap-place.result in
    let e = c.properties-place.result in
    let n = gap.found (of_allowed text p of_p) c.if-place-2.false in
    let line = names_line text true place e (names_of p) (ap (λ t. names_at t true place) (sym of.same)
    ∙ names.found (of_allowed text old of) none c.if-place.false) in
    let b = named_behind text old p g place e k of names.kept.0
    (names.found (of_allowed text old of) none c.if-place.false) names.kept.1.1.0 gap.start gap.names there early n
    c.if-self-line.false line in
    let opened : opens (at text k) ≡ true = ap (λ t. opens (at t k)) (sym of_g.same)
    ∙ grind (arith, c.in-91.is, c.at.ensures.value) in
    part_begun text c.args.slot old g c.flow_collection.new.self c.args.depth place c.flow_collection.result
    (gap.still ∙ names.still) (ap (λ s. s.index) (gap.start ∙ names.kept.1.1.0) ∙ there)
    (c.flow_collection.ensures.found text of_g b opened some)

pub named_flow_part-returns-in-34-clause-found : goal.named_flow_part-returns-in-34-clause-found
named_flow_part-returns-in-34-clause-found t c = λ text of none early there some.
    let old = c.args.self.now in
    let place = c.args.place in
    let p = c.properties-place.new.self in
    let g = c.flow_gap-place.new.self in
    let names = c.properties-place.ensures in
    let gap = c.flow_gap-place.ensures in
    let of_p = of_kept text old p of names.kept.0 in
    let of_g = of_kept text p g of_p gap.reached.0 in
    let k = c.flow_gap-place.result in
    let e = c.properties-place.result in
    let n = gap.found (of_allowed text p of_p) c.if-place-2.false in
    let line = names_line text true place e (names_of p) (ap (λ t. names_at t true place) (sym of.same)
    ∙ names.found (of_allowed text old of) none c.if-place.false) in
    let b = named_behind text old p g place e k of names.kept.0
    (names.found (of_allowed text old of) none c.if-place.false) names.kept.1.1.0 gap.start gap.names there early n
    c.if-self-line.false line in
    let quoted : quotes (at text k) ≡ true = ap (λ t. quotes (at t k)) (sym of_g.same)
    ∙ grind (arith, c.in-34.is, c.at.ensures.value) in
    part_begun text c.args.slot old g c.flow_leaf.new.self c.args.depth place c.flow_leaf.result
    (gap.still ∙ names.still) (ap (λ s. s.index) (gap.start ∙ names.kept.1.1.0) ∙ there)
    (c.flow_leaf.ensures.found text of_g b quoted some)

pub named_flow_part-returns-in-44-clause-found : goal.named_flow_part-returns-in-44-clause-found
named_flow_part-returns-in-44-clause-found t c = λ text of none early there some.
    let old = c.args.self.now in
    let place = c.args.place in
    let p = c.properties-place.new.self in
    let g = c.flow_gap-place.new.self in
    let names = c.properties-place.ensures in
    let gap = c.flow_gap-place.ensures in
    let of_p = of_kept text old p of names.kept.0 in
    let of_g = of_kept text p g of_p gap.reached.0 in
    let k = c.flow_gap-place.result in
    let e = c.properties-place.result in
    let n = gap.found (of_allowed text p of_p) c.if-place-2.false in
    let line = names_line text true place e (names_of p) (ap (λ t. names_at t true place) (sym of.same)
    ∙ names.found (of_allowed text old of) none c.if-place.false) in
    let b = named_behind text old p g place e k of names.kept.0
    (names.found (of_allowed text old of) none c.if-place.false) names.kept.1.1.0 gap.start gap.names there early n
    c.if-self-line.false line in
    let ends : is_one_of (codes ",]}:") (at text k) ≡ true = ap (λ t. is_one_of (codes ",]}:") (at t k)) (sym of_g.same)
    ∙ grind (arith, c.in-44.is, c.at.ensures.value) in
    let index : g.start.index ≡ place = ap (λ s. s.index) (gap.start ∙ names.kept.1.1.0) ∙ there in
    let l = c.plain.ensures in
    let there_k = next_of text p g e k of_p n in
    let forward = (names.forward c.if-place.false).0 in
    let leaf = names_only text g c.plain.result e k
    (names_behind text old p g place e of (names.found (of_allowed text old of) none c.if-place.false) names.kept.1.1.0
    gap.start gap.names there)
    (subst (λ i. i < e) (sym index) (omega (arith, forward, c.if-end-place.false)))
    (ap (λ s. s.late) (gap.start ∙ names.kept.1.1.0) ∙ early) l.3 l.0 l.1 l.2 there_k ends
    (subst (λ i. InLine text i e) (sym index) line) in
    part_begun text c.args.slot old g c.flow_entry.new.self c.args.depth place c.flow_entry.result
    (gap.still ∙ names.still) index
    (c.flow_entry.ensures.found text of_g leaf (there_k ∙ ap (next text) (sym l.2))
    (ap (breaks text) l.2 ∙ line_of text p g e k of_p n c.if-self-line.false) some)

-- flow collection
pub flow_collection-returns-then-at-ne58-clause-found : goal.flow_collection-returns-then-at-ne58-clause-found
flow_collection-returns-then-at-ne58-clause-found t c = λ text of b opened some.
    let old = c.args.self.now in
    let m = c.flow-place.new.self in
    let g = c.flow_gap-place.new.self in
    let flow = c.flow-place.ensures in
    let gap = c.flow_gap-place.ensures in
    let k = c.flow_gap-place.result in
    let i = old.start.index in
    let of_m = of_kept text old m of flow.reached.0 in
    let of_g = of_kept text m g of_m gap.reached.0 in
    let x = brackets_read text old m c.args.depth c.args.place c.flow-place.result b
    (flow.found text of b.early opened c.if-place.false) in
    let y = read_kept text old m g c.args.depth i c.flow-place.result x gap.still gap.names in
    let there = next_of text m g c.flow-place.result k of_m (gap.found (of_allowed text m of_m) c.if-place-2.false) in
    let a = c.flow_alone.ensures.found text of_g y.unnamed some in
    has_alone text c.args.slot old g c.flow_alone.new.self c.args.depth i k c.flow_alone.result
    (node_has text old g c.args.depth i c.flow-place.result k y there)
    (record {
      other = λ e. c.if-at-ne58.true (c.at.ensures.value ∙ ap (λ t. at t k) of_g.same ∙ e);
      there = c.flow_alone.ensures.there some;
      added = a.0;
      unnamed = a.1;
    })

pub flow_collection-returns-then-is_one_line-clause-found : goal.flow_collection-returns-then-is_one_line-clause-found
flow_collection-returns-then-is_one_line-clause-found t c = λ text of b opened some.
    let old = c.args.self.now in
    let m = c.flow-place.new.self in
    let g = c.flow_gap-place.new.self in
    let flow = c.flow-place.ensures in
    let gap = c.flow_gap-place.ensures in
    let k = c.flow_gap-place.result in
    let e = c.flow-place.result in
    let i = old.start.index in
    let of_m = of_kept text old m of flow.reached.0 in
    let of_g = of_kept text m g of_m gap.reached.0 in
    let x = brackets_read text old m c.args.depth c.args.place e b
    (flow.found text of b.early opened c.if-place.false) in
    let y = read_kept text old m g c.args.depth i e x gap.still gap.names in
    let there = next_of text m g e k of_m (gap.found (of_allowed text m of_m) c.if-place-2.false) in
    let byte = ap (λ t. at t k) (sym of_g.same) ∙ (sym c.at.ensures.value ∙ c.if-at-ne58.false) in
    let line = subst (λ t. InLine t i k) of_g.same (c.is_one_line.ensures.line c.if-is_one_line.true) in
    key_has text c.args.slot old g c.args.depth i e k y there
    (key_colon text i e k there byte
    (omega (arith, c.requires.begun, (flow.reached.1.1 c.if-place.false).0, (gap.reached.1.1 c.if-place-2.false).0))
    c.if-next-start.false line)
    (λ e. item_no_entry (sym e ∙ is_entry c.args.slot c.ne.result c.ne.ensures c.if-ne.false))
    (λ e. value_no_entry (sym e ∙ is_entry c.args.slot c.ne.result c.ne.ensures c.if-ne.false))

-- flow value
pub flow_value-returns-then-matches-clause-found : goal.flow_value-returns-then-matches-clause-found
flow_value-returns-then-matches-clause-found t c = λ text of none amid some.
    let old = c.args.self.now in
    let g = c.flow_gap-place.new.self in
    let m = c.begin.new.self in
    let new = c.push_nothing.new.self in
    let gap = c.flow_gap-place.ensures in
    let k = c.flow_gap-place.result in
    let of_g = of_kept text old g of gap.reached.0 in
    let of_m = of_kept text g m of_g c.begin.ensures.text in
    let none_m = unnamed_kept g m c.begin.ensures.names (unnamed_kept old g gap.names none) in
    let there = next_of text old g c.args.from k of (gap.found (of_allowed text old of) c.if-place.false) in
    let ends : is_one_of (codes ",]}") (at text k) ≡ true =
    ap (λ t. is_one_of (codes ",]}") (at t k)) (sym of_g.same) ∙ grind (arith, c.if-matches.true, c.at.ensures.value) in
    let a = c.push_nothing.ensures.added some in
    let x = value_none text m new c.args.depth k ends (ends_here text k ends).0
    (nothing_is text m new k of_m c.begin.ensures.early c.begin.ensures.start none_m a) a.unnamed in
    let y = has_from g m new (IsFlowValue text c.args.depth k k) c.begin.ensures.still x in
    let z = has_from old g new (IsFlowValue text c.args.depth k k) gap.still y in
    subst (λ i. Has old new (IsFlowValue text c.args.depth i c.push_nothing.result)) there
    (subst (λ j. Has old new (IsFlowValue text c.args.depth k j)) (sym (c.push_nothing.ensures.there some)) z)

pub flow_value-returns-clause-found : goal.flow_value-returns-clause-found
flow_value-returns-clause-found t c = λ text of none amid some.
    let old = c.args.self.now in
    let g = c.flow_gap-place.new.self in
    let new = c.flow_part.new.self in
    let gap = c.flow_gap-place.ensures in
    let k = c.flow_gap-place.result in
    let of_g = of_kept text old g of gap.reached.0 in
    let there = next_of text old g c.args.from k of (gap.found (of_allowed text old of) c.if-place.false) in
    let over = ap (λ t. is_over t k) (sym of.same) ∙ gap.there (of_allowed text old of) (λ _. amid) c.if-place.false in
    let x = c.flow_part.ensures.found text of_g (unnamed_kept old g gap.names none) over some in
    let y = has_from old g new (IsFlowNode text c.args.depth k c.flow_part.result) gap.still x in
    subst (λ i. Has old new (IsFlowValue text c.args.depth i c.flow_part.result)) there
    (value_some text old new c.args.depth k c.flow_part.result y)

-- flow plain
pub flow_plain-returns-clause-found : goal.flow_plain-returns-clause-found
flow_plain-returns-clause-found t c = λ text of over b some.
    let old = c.args.self.now in
    let place = c.args.place in
    let first = first_line text old place c.plain_end-end.result of c.begins_plain.result
    c.begins_plain.ensures.goes c.begins_plain.ensures.some c.begins_plain.ensures.same over
    c.if-not-begins_plain.false c.plain_end-end.ensures.line in
    c.far_flow_plain-2.ensures.found text of (b first.begins) first some

pub flow_plain-returns-then-eq-clause-found : goal.flow_plain-returns-then-eq-clause-found
flow_plain-returns-then-eq-clause-found t c = λ text of over b some.
    let old = c.args.self.now in
    let place = c.args.place in
    let first = first_line text old place c.plain_end-end.result of c.begins_plain.result
    c.begins_plain.ensures.goes c.begins_plain.ensures.some c.begins_plain.ensures.same over
    c.if-not-begins_plain.false c.plain_end-end.ensures.line in
    c.far_flow_plain.ensures.found text of (b first.begins) first some

pub flow_plain-returns-then-matches-clause-found : goal.flow_plain-returns-then-matches-clause-found
flow_plain-returns-then-matches-clause-found t c = λ text of over b some.
    let old = c.args.self.now in
    let place = c.args.place in
    let e = c.plain_end-end.result in
    let end = c.plain_end-end.ensures in
    let first = first_line text old place e of c.begins_plain.result
    c.begins_plain.ensures.goes c.begins_plain.ensures.some c.begins_plain.ensures.same over
    c.if-not-begins_plain.false end.line in
    let ends : is_one_of (codes ",]}") (at text e) ≡ true =
    ap (λ t. is_one_of (codes ",]}") (at t e)) (sym of.same)
    ∙ grind (arith, c.if-matches.true, c.at.ensures.value) in
    let here = ends_here text e ends in
    let line = flow_line_by text true place e of.allowed first.line end.forward
    (subst (λ t. e ≤ length t) of.same end.within) first.goes first.some refl first.begins here.1.0 in
    let l = c.plain.ensures in
    let leaf = plain_behind text old c.plain.result place e (b first.begins) l.3 l.0 l.1 l.2 end.forward
    (plain_whole text place e line (ap (is_tight text) here.0 ∙ here.1.1)) (plain_line text true place e first.line) in
    let push = c.push_leaf.ensures in
    let x = leaf_read text old c.push_leaf.new.self c.args.depth c.plain.result of leaf
    (ap (breaks text) l.2 ∙ here.1.0) (λ context q l early. push.found context q l early some)
    (λ kind. push.plain kind some) in
    let k = c.plain.result.end in
    let kept : c.push_leaf.result ≡ e = push.there some ∙ l.2 in
    let there : e ≡ next text k = sym (ap (next text) l.2 ∙ here.0) in
    let a : IsAlone text c.args.slot c.push_leaf.new.self c.push_leaf.new.self e c.push_leaf.result = record {
      other = λ colon. false≢true (ap (is_one_of (codes ",]}")) (sym colon) ∙ ends);
      there = kept;
      added = alone_none text c.args.slot c.push_leaf.new.self e
          (no_entry c.args.slot c.eq.result c.eq.ensures c.if-eq.false);
      unnamed = x.unnamed;
    } in
    has_alone text c.args.slot old c.push_leaf.new.self c.push_leaf.new.self c.args.depth old.start.index e
    c.push_leaf.result (node_has text old c.push_leaf.new.self c.args.depth old.start.index k e x there) a

-- far flow plain
pub far_flow_plain-returns-then-self-line-clause-found : goal.far_flow_plain-returns-then-self-line-clause-found
far_flow_plain-returns-then-self-line-clause-found t c = λ text of b first some.
    let old = c.args.self.now in
    let g = c.flow_gap-place.new.self in
    let gap = c.flow_gap-place.ensures in
    let k = c.flow_gap-place.result in
    let e = c.args.end in
    let of_g = of_kept text old g of gap.reached.0 in
    let n = gap.found (of_allowed text old of) c.if-place.false in
    let broken = broken_of text old g e k of n c.if-self-line.true in
    let over = ap (λ t. is_over t k) (sym of.same) ∙ gap.there (of_allowed text old of)
    (λ whole. absurd (false≢true (sym whole ∙ ap (λ t. breaks t e) of.same ∙ broken))) c.if-place.false in
    part_begun text c.args.slot old g c.flow_plain_lines.new.self c.args.depth old.start.index c.flow_plain_lines.result
    gap.still (ap (λ s. s.index) gap.start)
    (c.flow_plain_lines.ensures.found text c.args.depth of_g
    (behind_kept text true old g c.args.place gap.start gap.names b)
    (record { first = first; broken = broken; there = next_of text old g e k of n; here = over }) some)

pub far_flow_plain-returns-clause-found : goal.far_flow_plain-returns-clause-found
far_flow_plain-returns-clause-found t c = λ text of b first some.
    let old = c.args.self.now in
    let g = c.flow_gap-place.new.self in
    let gap = c.flow_gap-place.ensures in
    let k = c.flow_gap-place.result in
    let e = c.args.end in
    let place = c.args.place in
    let of_g = of_kept text old g of gap.reached.0 in
    let n = gap.found (of_allowed text old of) c.if-place.false in
    let whole = line_of text old g e k of n c.if-self-line.false in
    let there = next_of text old g e k of n in
    let loose : is_tight text k ≡ false = ap (λ t. is_tight t k) (sym of.same)
    ∙ sym (c.is_tight.ensures (of_allowed text old of)) ∙ c.if-is_tight.false in
    let line = flow_line_by text true place e of.allowed first.line c.requires.part
    (subst (λ t. e ≤ length t) of.same c.requires.here.1) first.goes first.some refl first.begins whole in
    let l = c.plain.ensures in
    let leaf = plain_behind text g c.plain.result place e (behind_kept text true old g place gap.start gap.names b) l.3
    l.0 l.1 l.2 c.requires.part (plain_whole text place e line (ap (is_tight text) (sym there) ∙ loose))
    (plain_line text true place e first.line) in
    part_begun text c.args.slot old g c.flow_entry.new.self c.args.depth old.start.index c.flow_entry.result
    gap.still (ap (λ s. s.index) gap.start)
    (c.flow_entry.ensures.found text of_g leaf (there ∙ ap (next text) (sym l.2))
    (ap (breaks text) l.2 ∙ whole) some)

-- flow leaf
pub flow_leaf-returns-in-Open-clause-found : goal.flow_leaf-returns-in-Open-clause-found
flow_leaf-returns-in-Open-clause-found t c = λ text of b quoted some.
    let old = c.args.self.now in
    let place = c.args.place in
    let leaf = c.in-Some.leaf in
    let m = c.quoted_lines-place.new.self in
    let g = c.flow_gap-place.new.self in
    let lines = c.quoted_lines-place.ensures in
    let gap = c.flow_gap-place.ensures in
    let e = c.quoted_lines-place.result in
    let k = c.flow_gap-place.result in
    let i = old.start.index in
    let of_m = of_kept text old m of lines.reached.0 in
    let of_g = of_kept text m g of_m gap.reached.0 in
    let parts = ap (λ t. parts_documents t place) of.same ∙ quote_parts text place quoted in
    let found = subst (λ t. IsFound t true place leaf) of.same (c.in-Some.ensures.found (of_allowed text old of) parts) in
    let byte = open_quote text place leaf c.in-Open.quote found c.in-Open.is in
    let x = quoted_read text old m c.args.depth place e c.in-Open.quote of b byte (lines.behind c.if-place.false)
    (lines.found (of_allowed text old of) c.if-place.false) in
    let y = read_kept text old m g c.args.depth i e x gap.still gap.names in
    let there = next_of text m g e k of_m (gap.found (of_allowed text m of_m) c.if-place-2.false) in
    has_alone text c.args.slot old g c.flow_no_key.new.self c.args.depth i k c.flow_no_key.result
    (node_has text old g c.args.depth i e k y there) (c.flow_no_key.ensures.found text of_g y.unnamed some)

pub flow_leaf-returns-then-self-line-clause-found : goal.flow_leaf-returns-then-self-line-clause-found
flow_leaf-returns-then-self-line-clause-found t c = λ text of b quoted some.
    let old = c.args.self.now in
    let place = c.args.place in
    let leaf = c.in-Some.leaf in
    let g = c.flow_gap-place-2.new.self in
    let gap = c.flow_gap-place-2.ensures in
    let k = c.flow_gap-place-2.result in
    let i = old.start.index in
    let e = leaf.end in
    let of_g = of_kept text old g of gap.reached.0 in
    let n = gap.found (of_allowed text old of) c.if-place-3.false in
    let parts = ap (λ t. parts_documents t place) of.same ∙ quote_parts text place quoted in
    let found = subst (λ t. IsFound t true place leaf) of.same (c.in-Some.ensures.found (of_allowed text old of) parts) in
    let closed = not_open leaf.kind (λ q e. c.in_default-kind.not-Open q e) in
    let first = quote_by is_plain_first refl refl refl (at text place) quoted in
    let line = subst (λ t. InLine t place e) of.same (c.in-Some.ensures.line (of_allowed text old of)
    (ap (λ t. quotes (at t place)) of.same ∙ quoted) closed) in
    let index = ap (λ s. s.index) gap.start in
    let fl = behind_names place (behind_kept text true old g place gap.start gap.names b)
    (found_leaf text place leaf found first closed)
    (subst (λ q. InLine text q e) (sym index) (line_on text i place e b.line line)) in
    part_begun text c.args.slot old g c.flow_entry.new.self c.args.depth i c.flow_entry.result gap.still index
    (c.flow_entry.ensures.found text of_g fl (next_of text old g e k of n)
    (line_of text old g e k of n c.if-self-line.true) some)

pub flow_leaf-returns-clause-found : goal.flow_leaf-returns-clause-found
flow_leaf-returns-clause-found t c = λ text of b quoted some.
    let old = c.args.self.now in
    let place = c.args.place in
    let leaf = c.in-Some.leaf in
    let g = c.flow_gap-place-2.new.self in
    let gap = c.flow_gap-place-2.ensures in
    let m = c.push_leaf-place.new.self in
    let push = c.push_leaf-place.ensures in
    let k = c.flow_gap-place-2.result in
    let i = old.start.index in
    let e = leaf.end in
    let of_g = of_kept text old g of gap.reached.0 in
    let of_m = of_kept text g m of_g push.kept.0 in
    let n = gap.found (of_allowed text old of) c.if-place-3.false in
    let parts = ap (λ t. parts_documents t place) of.same ∙ quote_parts text place quoted in
    let found = subst (λ t. IsFound t true place leaf) of.same (c.in-Some.ensures.found (of_allowed text old of) parts) in
    let closed = not_open leaf.kind (λ q e. c.in_default-kind.not-Open q e) in
    let first = quote_by is_plain_first refl refl refl (at text place) quoted in
    let index = ap (λ s. s.index) gap.start in
    let x = behind_read text g m c.args.depth place leaf of_g (behind_kept text true old g place gap.start gap.names b)
    (found_leaf text place leaf found first closed) (λ context q l early. push.found context q l early c.if-place-4.false) in
    part_begun text c.args.slot old g c.flow_no_key-2.new.self c.args.depth i c.flow_no_key-2.result gap.still index
    (has_alone text c.args.slot g m c.flow_no_key-2.new.self c.args.depth g.start.index k c.flow_no_key-2.result
    (node_has text g m c.args.depth g.start.index e k x (next_of text old g e k of n))
    (c.flow_no_key-2.ensures.found text of_m x.unnamed some))

-- flow entry
pub flow_entry-returns-clause-found : goal.flow_entry-returns-clause-found
flow_entry-returns-clause-found t c = λ text of leaf there whole some.
    let old = c.args.self.now in
    let m = c.push_leaf-place-2.new.self in
    let push = c.push_leaf-place-2.ensures in
    let k = c.args.next in
    let i = old.start.index in
    let e = c.args.leaf.end in
    let x = leaf_read text old m c.args.depth c.args.leaf of leaf whole
    (λ context q l early. push.found context q l early c.if-place-2.false) (λ kind. push.plain kind c.if-place-2.false) in
    let byte = ap (λ t. at t k) (sym of.same) ∙ (sym c.at.ensures.value ∙ c.if-at-ne58.false) in
    key_has text c.args.slot old m c.args.depth i e k x there
    (key_colon text i e k there byte (omega (arith, c.requires.begun, next_low text e k there)) c.if-next-self.false
    (line_to text i e k (leaf_line text old c.args.leaf leaf) whole there))
    (no_item c.args.slot c.eq-2.result c.eq-2.ensures c.if-eq-2.false)
    (no_value c.args.slot c.eq.result c.eq.ensures c.if-eq.false)

pub flow_entry-returns-then-eq-2-clause-found : goal.flow_entry-returns-then-eq-2-clause-found
flow_entry-returns-then-eq-2-clause-found t c = λ text of leaf there whole some.
    let old = c.args.self.now in
    let k = c.args.next in
    let i = old.start.index in
    let e = c.args.leaf.end in
    let byte = ap (λ t. at t k) (sym of.same) ∙ (sym c.at.ensures.value ∙ c.if-at-ne58.false) in
    let colon = key_colon text i e k there byte (omega (arith, c.requires.begun, next_low text e k there)) c.if-next-self.false
    (line_to text i e k (leaf_line text old c.args.leaf leaf) whole there) in
    subst (λ s. Has old c.flow_pair.new.self (IsFlowPart text s c.args.depth i c.flow_pair.result))
    (sym (eq_item c.args.slot c.eq-2.result c.eq-2.ensures c.if-eq-2.true)) (c.flow_pair.ensures.found text of leaf colon there whole some)

pub flow_entry-returns-then-at-ne58-clause-found : goal.flow_entry-returns-then-at-ne58-clause-found
flow_entry-returns-then-at-ne58-clause-found t c = λ text of leaf there whole some.
    let old = c.args.self.now in
    let m = c.push_leaf-place.new.self in
    let push = c.push_leaf-place.ensures in
    let k = c.args.next in
    let x = leaf_read text old m c.args.depth c.args.leaf of leaf whole
    (λ context q l early. push.found context q l early c.if-place.false) (λ kind. push.plain kind c.if-place.false) in
    let a = c.flow_alone.ensures.found text (of_kept text old m of push.kept.0) x.unnamed some in
    has_alone text c.args.slot old m c.flow_alone.new.self c.args.depth old.start.index k c.flow_alone.result
    (node_has text old m c.args.depth old.start.index c.args.leaf.end k x there)
    (record {
      other = λ e. c.if-at-ne58.true (c.at.ensures.value ∙ ap (λ t. at t k) of.same ∙ e);
      there = c.flow_alone.ensures.there some;
      added = a.0;
      unnamed = a.1;
    })

-- flow pair
pub flow_pair-returns-clause-found : goal.flow_pair-returns-clause-found
flow_pair-returns-clause-found t c = λ text of leaf colon there whole some.
    let old = c.args.self.now in
    let i = old.start.index in
    let a = c.push_mapping_before-place.new.self in
    let b = c.push_leaf-place.new.self in
    let v = c.flow_value-place.new.self in
    let new = c.push_end.new.self in
    let first = c.push_mapping_before-place.ensures in
    let push = c.push_leaf-place.ensures in
    let value = c.flow_value-place.ensures in
    let end = c.push_end.ensures in
    let of_a = of_kept text old a of first.kept.0 in
    let of_b = of_kept text a b of_a push.kept.0 in
    let start : a.start ≡ old.start = first.kept.1.1.0 in
    let x = leaf_read text a b (c.args.depth - 1) c.args.leaf of_a (leaf_kept text old a c.args.leaf start first.names leaf)
    whole (λ context q l early. push.found context q l early c.if-place-2.false)
    (λ kind. push.plain kind c.if-place-2.false) in
    let x' = subst (λ s. NodeRead text a b (c.args.depth - 1) s.index c.args.leaf.end) start x in
    let amid = colon_amid b c.args.colon (omega (arith, push.kept.1.0, first.kept.1.0, c.requires.here.0))
    (ap (λ t. at t c.args.colon) of_b.same ∙ (ap (at text) there ∙ colon_byte text i c.args.leaf.end colon)) in
    let y = value.found text of_b x.unnamed amid c.if-place-3.false in
    let j = c.flow_value-place.result in
    subst (λ q. Has old new (IsFlowItem text c.args.depth i q)) (sym (end.there some))
    (pair_has text old a b v new c.args.depth i c.args.leaf.end c.args.colon j c.spot.result c.if-depth-eq0.false
    (added_at text old a (mapping_start None None) old.start i of.same refl (leaf_early text old c.args.leaf leaf) (first.added c.if-place.false))
    (leaf_begins text old c.args.leaf leaf) x' colon there y (value.reached.0 ∙ of_b.same) c.spot.ensures.0 c.spot.ensures.1 (end.added some)
    (unnamed_kept v new end.names y.unnamed))

-- what is left: flow
pub flow-returns-then-depth-eq0-clause-missed : goal.flow-returns-then-depth-eq0-clause-missed
flow-returns-then-depth-eq0-clause-missed t c = λ text of opened none fed names i es.
    ap (λ d. brackets_at text d names i es c.args.place) c.if-depth-eq0.true ∙ no_brackets text names i es c.args.place

pub flow-returns-then-place-clause-missed : goal.flow-returns-then-place-clause-missed
flow-returns-then-place-clause-missed t c = λ text of opened none fed.
    absurd (false≢true (sym fed ∙ c.push_collection-place.ensures.starved c.if-place.true
    (λ z. no_such_place c.args.self.now c.args.place (omega (arith, c.requires.within)) z)))

pub flow-returns-then-place-3-clause-missed : goal.flow-returns-then-place-3-clause-missed
flow-returns-then-place-3-clause-missed t c = λ text of opened none fed.
    absurd (false≢true (sym fed ∙ c.push_collection-place-else-at-eq91.ensures.starved c.if-place-3.true
    (λ z. no_such_place c.args.self.now c.args.place (omega (arith, c.requires.within)) z)))

pub flow-returns-then-place-2-clause-missed : goal.flow-returns-then-place-2-clause-missed
flow-returns-then-place-2-clause-missed t c = λ text of opened none fed.
    let old = c.args.self.now in
    let place = c.args.place in
    let a = c.push_collection-place.new.self in
    let push = c.push_collection-place.ensures in
    let byte : at text place ≡ 91 = ap (λ t. at t place) (sym of.same) ∙ (sym c.at.ensures.value ∙ c.if-at-eq91.true) in
    let of_a = of_kept text old a of push.kept.0 in
    let amid = byte_amid a place 91 (omega (arith, push.kept.1.0, c.requires.here.0))
    (ap (λ t. at t place) of_a.same ∙ byte) (omega arith) (λ f. omega (arith, f)) (λ f. omega (arith, f)) in
    let left = c.flow_parts-place.ensures.missed text of_a (push.unnamed c.if-place.false) amid refl item_no_value
    c.if-place-2.true fed in
    brackets_none text c.args.depth place
    (λ i j names n b. no_square text c.args.depth place i j names n byte left b)

pub flow-returns-then-place-4-clause-missed : goal.flow-returns-then-place-4-clause-missed
flow-returns-then-place-4-clause-missed t c = λ text of opened none fed.
    let old = c.args.self.now in
    let place = c.args.place in
    let a = c.push_collection-place-else-at-eq91.new.self in
    let push = c.push_collection-place-else-at-eq91.ensures in
    let byte : at text place ≡ 123 = opened_curly text place opened
    (λ e. c.if-at-eq91.false (c.at.ensures.value ∙ ap (λ t. at t place) of.same ∙ e)) in
    let of_a = of_kept text old a of push.kept.0 in
    let amid = byte_amid a place 123 (omega (arith, push.kept.1.0, c.requires.here.0))
    (ap (λ t. at t place) of_a.same ∙ byte) (omega arith) (λ f. omega (arith, f)) (λ f. omega (arith, f)) in
    let left = c.flow_parts-place-else-at-eq91.ensures.missed text of_a (push.unnamed c.if-place-3.false) amid refl
    entry_no_value c.if-place-4.true fed in
    brackets_none text c.args.depth place
    (λ i j names n b. no_curly text c.args.depth place i j names n byte left b)

pub flow-returns-else-place-2-clause-missed : goal.flow-returns-else-place-2-clause-missed
flow-returns-else-place-2-clause-missed t c = λ text of opened none fed.
    let parts = c.flow_parts-place.ensures in
    let b = c.flow_parts-place.new.self in
    let k = c.flow_parts-place.result in
    absurd (false≢true (sym fed ∙ c.push_end.ensures.starved none
    (λ z. no_such_place b (k + 1) (subst (λ t. k + 1 ≤ length t) (sym parts.reached.0)
    (omega (arith, parts.inside c.if-place-2.false))) z)))

pub flow-returns-else-place-4-clause-missed : goal.flow-returns-else-place-4-clause-missed
flow-returns-else-place-4-clause-missed t c = λ text of opened none fed.
    let parts = c.flow_parts-place-else-at-eq91.ensures in
    let a = c.push_collection-place-else-at-eq91.ensures in
    let b = c.flow_parts-place-else-at-eq91.new.self in
    let k = c.flow_parts-place-else-at-eq91.result in
    absurd (false≢true (sym fed ∙ c.push_end-else-at-eq91.ensures.starved none
    (λ z. no_such_place b (k + 1) (subst (λ t. k + 1 ≤ length t) (sym parts.reached.0)
    (omega (arith, parts.inside c.if-place-4.false))) z)))

-- flow parts
pub flow_parts-returns-then-place-clause-missed : goal.flow_parts-returns-then-place-clause-missed
flow_parts-returns-then-place-clause-missed t c = λ text of none amid closing some failed fed.
    let old = c.args.self.now in
    let from = c.args.from in
    nothing_parts text c.args.slot c.args.depth (next text from) some
    (gap_nothing text from (subst (λ t. HasNoToken t from ⊎ (is_over t (next t from) ≡ true)) of.same
    (c.flow_gap-place.ensures.missed (of_allowed text old of) (λ _. amid.behind) c.if-place.true)))

pub flow_parts-returns-then-place-2-clause-missed : goal.flow_parts-returns-then-place-2-clause-missed
flow_parts-returns-then-place-2-clause-missed t c = λ text of none amid closing some failed fed.
    let old = c.args.self.now in
    let i = c.parts.invariant in
    let x = i.read text of none amid closing some in
    let z = i.stands text of none amid closing some in
    let of_a = of_kept text old c.parts.self of i.same in
    z.left (parts_left text c.args.slot c.args.depth c.parts.next some
    (λ e. c.parts-test.true (c.at.ensures.value ∙ ap (λ t. at t c.parts.next) of_a.same ∙ e ∙ sym closing))
    (c.flow_element-place.ensures.missed text of_a x.unnamed z.over z.token c.if-place-2.true fed))

pub flow_parts-returns-then-place-3-clause-missed : goal.flow_parts-returns-then-place-3-clause-missed
flow_parts-returns-then-place-3-clause-missed t c = λ text of none amid closing some failed fed.
    let old = c.args.self.now in
    let i = c.parts.invariant in
    let part = c.flow_element-place.ensures in
    let b = c.flow_element-place.new.self in
    let k = c.flow_element-place.result in
    let x = i.read text of none amid closing some in
    let z = i.stands text of none amid closing some in
    let of_a = of_kept text old c.parts.self of i.same in
    let of_b = of_kept text c.parts.self b of_a part.reached.0 in
    let y = part.found text of_a x.unnamed z.over some c.if-place-2.false in
    z.left (parts_on text c.args.slot c.args.depth c.parts.next k y.events
    (λ e. c.parts-test.true (c.at.ensures.value ∙ ap (λ t. at t c.parts.next) of_a.same ∙ e ∙ sym closing)) y.what
    (λ q after. nothing_parts text c.args.slot c.args.depth q some
    (subst (λ t. HasNothing t q) of_b.same
    (c.flow_next-place.ensures.missed (of_allowed text b of_b) c.if-place-3.true q
    (ap (λ t. part_after t c.args.closing k) of_b.same ∙ ap (λ p. part_after text p k) closing ∙ after)))))

pub flow_parts-returns-clause-missed : goal.flow_parts-returns-clause-missed
flow_parts-returns-clause-missed t c = λ text of none amid closing some failed.
    absurd (no_such_place c.parts.self c.parts.next (omega (arith, c.parts.invariant.within)) failed)

-- flow element
pub flow_element-returns-then-place-clause-missed : goal.flow_element-returns-then-place-clause-missed
flow_element-returns-then-place-clause-missed t c = λ text of none over token failed fed.
    c.flow_part-place.ensures.missed text of none over token c.if-place.true fed

pub flow_element-returns-then-ne-clause-missed : goal.flow_element-returns-then-ne-clause-missed
flow_element-returns-then-ne-clause-missed t c = λ text of none over token failed. absurd (c.if-place.false failed)

pub flow_element-returns-then-at-ne58-clause-missed : goal.flow_element-returns-then-at-ne58-clause-missed
flow_element-returns-then-at-ne58-clause-missed t c = λ text of none over token failed. absurd (c.if-place.false failed)

pub flow_element-returns-clause-missed : goal.flow_element-returns-clause-missed
flow_element-returns-clause-missed t c = λ text of none over token failed fed.
    let old = c.args.self.now in
    let mid = c.flow_part-place.new.self in
    let k = c.flow_part-place.result in
    let part = c.flow_part-place.ensures in
    let of_m = of_kept text old mid of part.reached.0 in
    let x = part.found text of none over c.if-place.false in
    let entry = is_entry c.args.slot c.ne.result c.ne.ensures c.if-ne.false in
    let byte = sym c.at.ensures.value ∙ c.if-at-ne58.false in
    let left = c.flow_value.ensures.missed text of_m x.unnamed
    (colon_amid mid k (part.reached.1.1 c.if-place.false).1.0 byte) failed fed in
    subst (λ s. LeavesPart text s c.args.depth c.args.place) (sym entry)
    (key_left text c.args.depth c.args.place k x.events (ap (λ t. at t k) (sym of_m.same) ∙ byte)
    (subst (λ s. IsFlowPart text s c.args.depth c.args.place k x.events) entry x.what) left)

-- flow part
pub flow_part-returns-in-91-clause-missed : goal.flow_part-returns-in-91-clause-missed
flow_part-returns-in-91-clause-missed t c = λ text of none over token failed fed.
    let old = c.args.self.now in
    let place = c.args.place in
    let m = c.begin.new.self in
    let b = c.begin.ensures in
    let of_m = of_kept text old m of b.text in
    let opened : opens (at text place) ≡ true = ap (λ t. opens (at t place)) (sym of_m.same)
    ∙ grind (arith, c.in-91.is, c.at.ensures.value) in
    subst (λ i. LeavesPart text c.args.slot c.args.depth i) b.start
    (c.flow_collection.ensures.missed text of_m
    (behind_none text true m place b.start b.early (unnamed_kept old m b.names none) (bracket_stays text place opened))
    opened failed fed)

pub flow_part-returns-in-34-clause-missed : goal.flow_part-returns-in-34-clause-missed
flow_part-returns-in-34-clause-missed t c = λ text of none over token failed fed.
    let old = c.args.self.now in
    let place = c.args.place in
    let m = c.begin.new.self in
    let b = c.begin.ensures in
    let of_m = of_kept text old m of b.text in
    let quoted : quotes (at text place) ≡ true = ap (λ t. quotes (at t place)) (sym of_m.same)
    ∙ grind (arith, c.in-34.is, c.at.ensures.value) in
    subst (λ i. LeavesPart text c.args.slot c.args.depth i) b.start
    (c.flow_leaf.ensures.missed text of_m
    (behind_none text true m place b.start b.early (unnamed_kept old m b.names none) (quote_stays text place quoted))
    quoted failed fed)

pub flow_part-returns-in_default-clause-missed : goal.flow_part-returns-in_default-clause-missed
flow_part-returns-in_default-clause-missed t c = λ text of none over token failed fed.
    let old = c.args.self.now in
    let place = c.args.place in
    let m = c.begin.new.self in
    let b = c.begin.ensures in
    let of_m = of_kept text old m of b.text in
    let byte : c.at.result ≡ at text place = c.at.ensures.value ∙ ap (λ t. at t place) of_m.same in
    let not38 : at text place ≢ 38 = λ f. (let z : c.at.result ≡ 38 → ⊥ = grind (arith, c.in_default) in z) (byte ∙ f) in
    let not33 : at text place ≢ 33 = λ f. (let z : c.at.result ≡ 33 → ⊥ = grind (arith, c.in_default) in z) (byte ∙ f) in
    let not91 : at text place ≢ 91 = λ f. (let z : c.at.result ≡ 91 → ⊥ = grind (arith, c.in_default) in z) (byte ∙ f) in
    let not123 : at text place ≢ 123 = λ f. (let z : c.at.result ≡ 123 → ⊥ = grind (arith, c.in_default) in z) (byte ∙ f) in
    let not34 : at text place ≢ 34 = λ f. (let z : c.at.result ≡ 34 → ⊥ = grind (arith, c.in_default) in z) (byte ∙ f) in
    let not39 : at text place ≢ 39 = λ f. (let z : c.at.result ≡ 39 → ⊥ = grind (arith, c.in_default) in z) (byte ∙ f) in
    let not42 : at text place ≢ 42 = λ f. (let z : c.at.result ≡ 42 → ⊥ = grind (arith, c.in_default) in z) (byte ∙ f) in
    subst (λ i. LeavesPart text c.args.slot c.args.depth i) b.start
    (c.flow_plain.ensures.missed text of_m over
    (behind_none text true m place b.start b.early (unnamed_kept old m b.names none)
    (token_stays text place token not38 not33))
    (record {
      bracket = no_open_byte (at text place) not91 not123;
      quote = no_quote_byte (at text place) not34 not39 not42;
      alone = inr b.start;
    }) failed fed)

pub flow_part-returns-in-38-clause-missed : goal.flow_part-returns-in-38-clause-missed
flow_part-returns-in-38-clause-missed t c = λ text of none over token failed fed.
    let old = c.args.self.now in
    let place = c.args.place in
    let m = c.begin.new.self in
    let b = c.begin.ensures in
    let of_m = of_kept text old m of b.text in
    let sign : is_sign (at text place) ≡ true = ap (λ t. is_sign (at t place)) (sym of_m.same)
    ∙ grind (arith, c.in-38.is, c.at.ensures.value) in
    c.named_flow_part.ensures.missed text of_m (unnamed_kept old m b.names none) b.early b.start
    (sign_byte (at text place) sign) failed fed

-- named flow part
pub named_flow_part-returns-then-place-clause-missed : goal.named_flow_part-returns-then-place-clause-missed
named_flow_part-returns-then-place-clause-missed t c = λ text of none early there sign failed fed.
    let old = c.args.self.now in
    let place = c.args.place in
    part_left text c.args.slot c.args.depth place
    (none_left text place (nameless text place
    (ap (λ t. names_at t true place) (sym of.same)
    ∙ c.properties-place.ensures.missed (of_allowed text old of) none c.if-place.true fed)))

pub named_flow_part-returns-then-end-place-clause-missed : goal.named_flow_part-returns-then-end-place-clause-missed
named_flow_part-returns-then-end-place-clause-missed t c = λ text of none early there sign failed fed.
    let old = c.args.self.now in
    let place = c.args.place in
    let p = c.properties-place.new.self in
    let found = ap (λ t. names_at t true place) (sym of.same)
    ∙ c.properties-place.ensures.found (of_allowed text old of) none c.if-place.false in
    part_left text c.args.slot c.args.depth place
    (none_left text place (sign_none text place (names_of p) sign
    (found ∙ ap (λ k. Some (names_of p, k)) c.if-end-place.true)))

pub named_flow_part-returns-then-place-2-clause-missed : goal.named_flow_part-returns-then-place-2-clause-missed
named_flow_part-returns-then-place-2-clause-missed t c = λ text of none early there sign failed fed.
    let old = c.args.self.now in
    let place = c.args.place in
    let p = c.properties-place.new.self in
    let names = c.properties-place.ensures in
    let of_p = of_kept text old p of names.kept.0 in
    let e = c.properties-place.result in
    let found = ap (λ t. names_at t true place) (sym of.same) ∙ names.found (of_allowed text old of) none c.if-place.false in
    let forward = (names.forward c.if-place.false).0 in
    let left = subst (λ t. HasNoToken t e ⊎ (is_over t (next t e) ≡ true)) of_p.same
    (c.flow_gap-place.ensures.missed (of_allowed text p of_p)
    (λ _. omega (arith, names.kept.1.0, c.requires.here.0, forward, c.if-end-place.false)) c.if-place-2.true) in
    let shut = gap_shut text e left in
    part_left text c.args.slot c.args.depth place
    (none_left text place (no_node text place e (names_of p) found
    (none_leaf text in_brackets (names_of p) (next text e) shut.0) shut.1.0 (inl shut.1.1)))

pub named_flow_part-returns-then-self-line-clause-missed : goal.named_flow_part-returns-then-self-line-clause-missed
named_flow_part-returns-then-self-line-clause-missed t c = λ text of none early there sign failed fed.
    let old = c.args.self.now in
    let place = c.args.place in
    let p = c.properties-place.new.self in
    let g = c.flow_gap-place.new.self in
    let names = c.properties-place.ensures in
    let gap = c.flow_gap-place.ensures in
    let of_p = of_kept text old p of names.kept.0 in
    let e = c.properties-place.result in
    let k = c.flow_gap-place.result in
    let found = ap (λ t. names_at t true place) (sym of.same) ∙ names.found (of_allowed text old of) none c.if-place.false in
    let n = gap.found (of_allowed text p of_p) c.if-place-2.false in
    part_left text c.args.slot c.args.depth place
    (none_left text place (broken_node text place e (names_of p) found
    (broken_of text p g e k of_p n c.if-self-line.true)))

pub named_flow_part-returns-in_default-clause-missed : goal.named_flow_part-returns-in_default-clause-missed
named_flow_part-returns-in_default-clause-missed t c = λ text of none early there sign failed fed.
    let old = c.args.self.now in
    let place = c.args.place in
    let p = c.properties-place.new.self in
    let g = c.flow_gap-place.new.self in
    let names = c.properties-place.ensures in
    let gap = c.flow_gap-place.ensures in
    let of_p = of_kept text old p of names.kept.0 in
    let of_g = of_kept text p g of_p gap.reached.0 in
    let k = c.flow_gap-place.result in
    let e = c.properties-place.result in
    let n = gap.found (of_allowed text p of_p) c.if-place-2.false in
    let found = ap (λ t. names_at t true place) (sym of.same) ∙ names.found (of_allowed text old of) none c.if-place.false in
    let line = names_line text true place e (names_of p) found in
    let b = named_behind text old p g place e k of names.kept.0
    (names.found (of_allowed text old of) none c.if-place.false) names.kept.1.1.0 gap.start gap.names there early n
    c.if-self-line.false line in
    let inside = gap.inside c.if-place-2.false in
    let whole = line_of text p g e k of_p n c.if-self-line.false in
    let over = names_over text place e k (names_of p) found
    c.if-end-place.false (next_of text p g e k of_p n) (subst (λ t. k < length t) of_p.same inside)
    (subst (λ t. column t k ≡ column t e + (k - e)) of_p.same
    (n.in_line (ap (λ t. breaks t e) of_p.same ∙ whole) inside)) in
    let byte : c.at.result ≡ at text k = c.at.ensures.value ∙ ap (λ t. at t k) of_g.same in
    let not91 : at text k ≢ 91 = λ f. (let z : c.at.result ≡ 91 → ⊥ = grind (arith, c.in_default) in z) (byte ∙ f) in
    let not123 : at text k ≢ 123 = λ f. (let z : c.at.result ≡ 123 → ⊥ = grind (arith, c.in_default) in z) (byte ∙ f) in
    let not34 : at text k ≢ 34 = λ f. (let z : c.at.result ≡ 34 → ⊥ = grind (arith, c.in_default) in z) (byte ∙ f) in
    let not39 : at text k ≢ 39 = λ f. (let z : c.at.result ≡ 39 → ⊥ = grind (arith, c.in_default) in z) (byte ∙ f) in
    let not42 : at text k ≢ 42 = λ f. (let z : c.at.result ≡ 42 → ⊥ = grind (arith, c.in_default) in z) (byte ∙ f) in
    let not44 : at text k ≢ 44 = λ f. (let z : c.at.result ≡ 44 → ⊥ = grind (arith, c.in_default) in z) (byte ∙ f) in
    let not93 : at text k ≢ 93 = λ f. (let z : c.at.result ≡ 93 → ⊥ = grind (arith, c.in_default) in z) (byte ∙ f) in
    let not125 : at text k ≢ 125 = λ f. (let z : c.at.result ≡ 125 → ⊥ = grind (arith, c.in_default) in z) (byte ∙ f) in
    let not58 : at text k ≢ 58 = λ f. (let z : c.at.result ≡ 58 → ⊥ = grind (arith, c.in_default) in z) (byte ∙ f) in
    subst (λ i. LeavesPart text c.args.slot c.args.depth i) (ap (λ s. s.index) (gap.start ∙ names.kept.1.1.0) ∙ there)
    (c.flow_plain.ensures.missed text of_g over b
    (record {
      bracket = no_open_byte (at text k) not91 not123;
      quote = no_quote_byte (at text k) not34 not39 not42;
      alone = inl (no_end_byte (at text k) not44 not93 not125 not58);
    }) failed fed)

pub named_flow_part-returns-in-91-clause-missed : goal.named_flow_part-returns-in-91-clause-missed
named_flow_part-returns-in-91-clause-missed t c = λ text of none early there sign failed fed.
    let old = c.args.self.now in
    let place = c.args.place in
    let p = c.properties-place.new.self in
    let g = c.flow_gap-place.new.self in
    let names = c.properties-place.ensures in
    let gap = c.flow_gap-place.ensures in
    let of_p = of_kept text old p of names.kept.0 in
    let of_g = of_kept text p g of_p gap.reached.0 in
    let k = c.flow_gap-place.result in
    let e = c.properties-place.result in
    let n = gap.found (of_allowed text p of_p) c.if-place-2.false in
    let line = names_line text true place e (names_of p) (ap (λ t. names_at t true place) (sym of.same)
    ∙ names.found (of_allowed text old of) none c.if-place.false) in
    let b = named_behind text old p g place e k of names.kept.0
    (names.found (of_allowed text old of) none c.if-place.false) names.kept.1.1.0 gap.start gap.names there early n
    c.if-self-line.false line in
    let opened : opens (at text k) ≡ true = ap (λ t. opens (at t k)) (sym of_g.same)
    ∙ grind (arith, c.in-91.is, c.at.ensures.value) in
    subst (λ i. LeavesPart text c.args.slot c.args.depth i) (ap (λ s. s.index) (gap.start ∙ names.kept.1.1.0) ∙ there)
    (c.flow_collection.ensures.missed text of_g b opened failed fed)

pub named_flow_part-returns-in-34-clause-missed : goal.named_flow_part-returns-in-34-clause-missed
named_flow_part-returns-in-34-clause-missed t c = λ text of none early there sign failed fed.
    let old = c.args.self.now in
    let place = c.args.place in
    let p = c.properties-place.new.self in
    let g = c.flow_gap-place.new.self in
    let names = c.properties-place.ensures in
    let gap = c.flow_gap-place.ensures in
    let of_p = of_kept text old p of names.kept.0 in
    let of_g = of_kept text p g of_p gap.reached.0 in
    let k = c.flow_gap-place.result in
    let e = c.properties-place.result in
    let n = gap.found (of_allowed text p of_p) c.if-place-2.false in
    let line = names_line text true place e (names_of p) (ap (λ t. names_at t true place) (sym of.same)
    ∙ names.found (of_allowed text old of) none c.if-place.false) in
    let b = named_behind text old p g place e k of names.kept.0
    (names.found (of_allowed text old of) none c.if-place.false) names.kept.1.1.0 gap.start gap.names there early n
    c.if-self-line.false line in
    let quoted : quotes (at text k) ≡ true = ap (λ t. quotes (at t k)) (sym of_g.same)
    ∙ grind (arith, c.in-34.is, c.at.ensures.value) in
    subst (λ i. LeavesPart text c.args.slot c.args.depth i) (ap (λ s. s.index) (gap.start ∙ names.kept.1.1.0) ∙ there)
    (c.flow_leaf.ensures.missed text of_g b quoted failed fed)

pub named_flow_part-returns-in-44-clause-missed : goal.named_flow_part-returns-in-44-clause-missed
named_flow_part-returns-in-44-clause-missed t c = λ text of none early there sign failed fed.
    let old = c.args.self.now in
    let place = c.args.place in
    let p = c.properties-place.new.self in
    let g = c.flow_gap-place.new.self in
    let names = c.properties-place.ensures in
    let gap = c.flow_gap-place.ensures in
    let of_p = of_kept text old p of names.kept.0 in
    let of_g = of_kept text p g of_p gap.reached.0 in
    let k = c.flow_gap-place.result in
    let e = c.properties-place.result in
    let n = gap.found (of_allowed text p of_p) c.if-place-2.false in
    let line = names_line text true place e (names_of p) (ap (λ t. names_at t true place) (sym of.same)
    ∙ names.found (of_allowed text old of) none c.if-place.false) in
    let ends : is_one_of (codes ",]}:") (at text k) ≡ true = ap (λ t. is_one_of (codes ",]}:") (at t k)) (sym of_g.same)
    ∙ grind (arith, c.in-44.is, c.at.ensures.value) in
    let index : g.start.index ≡ place = ap (λ s. s.index) (gap.start ∙ names.kept.1.1.0) ∙ there in
    let l = c.plain.ensures in
    let there_k = next_of text p g e k of_p n in
    let forward = (names.forward c.if-place.false).0 in
    let leaf = names_only text g c.plain.result e k
    (names_behind text old p g place e of (names.found (of_allowed text old of) none c.if-place.false) names.kept.1.1.0
    gap.start gap.names there)
    (subst (λ i. i < e) (sym index) (omega (arith, forward, c.if-end-place.false)))
    (ap (λ s. s.late) (gap.start ∙ names.kept.1.1.0) ∙ early) l.3 l.0 l.1 l.2 there_k ends
    (subst (λ i. InLine text i e) (sym index) line) in
    subst (λ i. LeavesPart text c.args.slot c.args.depth i) index
    (c.flow_entry.ensures.missed text of_g leaf (there_k ∙ ap (next text) (sym l.2))
    (ap (breaks text) l.2 ∙ line_of text p g e k of_p n c.if-self-line.false) failed fed)

-- flow collection
pub flow_collection-returns-then-place-clause-missed : goal.flow_collection-returns-then-place-clause-missed
flow_collection-returns-then-place-clause-missed t c = λ text of b opened failed fed.
    let old = c.args.self.now in
    let d = c.args.depth in
    no_collection_left text c.args.slot d old.start.index (bracket_begins text old c.args.place b opened)
    (no_collection text old d c.args.place b opened
    (none_brackets text d c.args.place (c.flow-place.ensures.missed text of opened c.if-place.true fed)))

pub flow_collection-returns-then-place-2-clause-missed : goal.flow_collection-returns-then-place-2-clause-missed
flow_collection-returns-then-place-2-clause-missed t c = λ text of b opened failed fed.
    let old = c.args.self.now in
    let m = c.flow-place.new.self in
    let flow = c.flow-place.ensures in
    let e = c.flow-place.result in
    let i = old.start.index in
    let of_m = of_kept text old m of flow.reached.0 in
    let x = brackets_read text old m c.args.depth c.args.place e b (flow.found text of b.early opened c.if-place.false) in
    let left = subst (λ t. HasNoToken t e ⊎ (is_over t (next t e) ≡ true)) of_m.same
    (c.flow_gap-place.ensures.missed (of_allowed text m of_m) (λ _. flow.behind c.if-place.false) c.if-place-2.true) in
    part_left text c.args.slot c.args.depth i
    (cut_left text i e (read_end text old m c.args.depth i e x) (cut_by text i e (gap_end text e left)))

pub flow_collection-returns-then-at-ne58-clause-missed : goal.flow_collection-returns-then-at-ne58-clause-missed
flow_collection-returns-then-at-ne58-clause-missed t c = λ text of b opened failed fed.
    absurd (false≢true (sym fed ∙ c.flow_alone.ensures.starved failed))

pub flow_collection-returns-then-ne-clause-missed : goal.flow_collection-returns-then-ne-clause-missed
flow_collection-returns-then-ne-clause-missed t c = λ text of b opened failed fed.
    let old = c.args.self.now in
    let m = c.flow-place.new.self in
    let g = c.flow_gap-place.new.self in
    let flow = c.flow-place.ensures in
    let gap = c.flow_gap-place.ensures in
    let k = c.flow_gap-place.result in
    let e = c.flow-place.result in
    let i = old.start.index in
    let of_m = of_kept text old m of flow.reached.0 in
    let of_g = of_kept text m g of_m gap.reached.0 in
    let x = brackets_read text old m c.args.depth c.args.place e b (flow.found text of b.early opened c.if-place.false) in
    let there = next_of text m g e k of_m (gap.found (of_allowed text m of_m) c.if-place-2.false) in
    let byte = ap (λ t. at t k) (sym of_g.same) ∙ (sym c.at.ensures.value ∙ c.if-at-ne58.false) in
    collection_left text c.args.slot c.args.depth i (ne_entry c.args.slot c.ne.result c.ne.ensures c.if-ne.true)
    (bracket_begins text old c.args.place b opened)
    (λ j n y. ap (λ q. ends_part (at text (next text q))) (read_end text old m c.args.depth i e x c.args.depth j n y)
    ∙ ap ends_part (ap (at text) (sym there) ∙ byte))

pub flow_collection-returns-then-next-start-clause-missed : goal.flow_collection-returns-then-next-start-clause-missed
flow_collection-returns-then-next-start-clause-missed t c = λ text of b opened failed fed.
    let old = c.args.self.now in
    let m = c.flow-place.new.self in
    let g = c.flow_gap-place.new.self in
    let flow = c.flow-place.ensures in
    let gap = c.flow_gap-place.ensures in
    let k = c.flow_gap-place.result in
    let e = c.flow-place.result in
    let i = old.start.index in
    let of_m = of_kept text old m of flow.reached.0 in
    let of_g = of_kept text m g of_m gap.reached.0 in
    let x = brackets_read text old m c.args.depth c.args.place e b (flow.found text of b.early opened c.if-place.false) in
    let there = next_of text m g e k of_m (gap.found (of_allowed text m of_m) c.if-place-2.false) in
    let byte = ap (λ t. at t k) (sym of_g.same) ∙ (sym c.at.ensures.value ∙ c.if-at-ne58.false) in
    part_left text c.args.slot c.args.depth i
    (cut_left text i e (read_end text old m c.args.depth i e x)
    (colon_cut text i e k there byte (no_key_far text i e k there c.if-next-start.true)))

pub flow_collection-returns-then-is_one_line-clause-missed : goal.flow_collection-returns-then-is_one_line-clause-missed
flow_collection-returns-then-is_one_line-clause-missed t c = λ text of b opened failed.
    absurd (c.if-place-2.false failed)

pub flow_collection-returns-else-is_one_line-clause-missed : goal.flow_collection-returns-else-is_one_line-clause-missed
flow_collection-returns-else-is_one_line-clause-missed t c = λ text of b opened failed fed.
    let old = c.args.self.now in
    let m = c.flow-place.new.self in
    let g = c.flow_gap-place.new.self in
    let flow = c.flow-place.ensures in
    let gap = c.flow_gap-place.ensures in
    let k = c.flow_gap-place.result in
    let e = c.flow-place.result in
    let i = old.start.index in
    let of_m = of_kept text old m of flow.reached.0 in
    let of_g = of_kept text m g of_m gap.reached.0 in
    let x = brackets_read text old m c.args.depth c.args.place e b (flow.found text of b.early opened c.if-place.false) in
    let there = next_of text m g e k of_m (gap.found (of_allowed text m of_m) c.if-place-2.false) in
    let byte = ap (λ t. at t k) (sym of_g.same) ∙ (sym c.at.ensures.value ∙ c.if-at-ne58.false) in
    part_left text c.args.slot c.args.depth i
    (cut_left text i e (read_end text old m c.args.depth i e x)
    (colon_cut text i e k there byte (no_key_lines text i e
    (ap (is_one_line text i) (sym there) ∙ ap (λ t. is_one_line t i k) (sym of_g.same)
    ∙ c.is_one_line.ensures.lines c.if-is_one_line.false))))

-- flow value
pub flow_value-returns-then-place-clause-missed : goal.flow_value-returns-then-place-clause-missed
flow_value-returns-then-place-clause-missed t c = λ text of none amid failed fed.
    let old = c.args.self.now in
    let from = c.args.from in
    nothing_value text c.args.depth (next text from)
    (gap_nothing text from (subst (λ t. HasNoToken t from ⊎ (is_over t (next t from) ≡ true)) of.same
    (c.flow_gap-place.ensures.missed (of_allowed text old of) (λ _. amid.behind) c.if-place.true)))

pub flow_value-returns-then-matches-clause-missed : goal.flow_value-returns-then-matches-clause-missed
flow_value-returns-then-matches-clause-missed t c = λ text of none amid failed fed.
    absurd (false≢true (sym fed ∙ c.push_nothing.ensures.starved failed c.if-place.false))

pub flow_value-returns-clause-missed : goal.flow_value-returns-clause-missed
flow_value-returns-clause-missed t c = λ text of none amid failed fed.
    let old = c.args.self.now in
    let g = c.flow_gap-place.new.self in
    let gap = c.flow_gap-place.ensures in
    let k = c.flow_gap-place.result in
    let of_g = of_kept text old g of gap.reached.0 in
    let there = next_of text old g c.args.from k of (gap.found (of_allowed text old of) c.if-place.false) in
    let over = ap (λ t. is_over t k) (sym of.same) ∙ gap.there (of_allowed text old of) (λ _. amid) c.if-place.false in
    let token = ap (λ t. begins_token t k) (sym of.same) ∙ gap.token c.if-place.false in
    let not44 : c.at.result ≡ 44 → ⊥ = grind (arith, c.if-matches.false) in
    let not93 : c.at.result ≡ 93 → ⊥ = grind (arith, c.if-matches.false) in
    let not125 : c.at.result ≡ 125 → ⊥ = grind (arith, c.if-matches.false) in
    let apart : ends_part (at text k) ≡ false =
    ap ends_part (ap (λ t. at t k) (sym of_g.same) ∙ sym c.at.ensures.value)
    ∙ no_part_byte c.at.result (λ e. not44 e) (λ e. not93 e) (λ e. not125 e) in
    subst (λ i. LeavesValue text c.args.depth i) there
    (no_value_left text c.args.depth k
    (c.flow_part.ensures.missed text of_g (unnamed_kept old g gap.names none) over token failed fed) apart)

-- flow plain
pub flow_plain-returns-then-not-begins_plain-clause-missed : goal.flow_plain-returns-then-not-begins_plain-clause-missed
flow_plain-returns-then-not-begins_plain-clause-missed t c = λ text of over b o failed fed.
    let old = c.args.self.now in
    let place = c.args.place in
    let apart = ap (λ t. parts_documents t place) of.same ∙ no_parts text place over in
    let none : begins_plain text true place ≡ false = ap (λ t. begins_plain t true place) (sym of.same)
    ∙ (sym (c.begins_plain.ensures.same (of_allowed text old of) apart) ∙ c.if-not-begins_plain.true) in
    part_left text c.args.slot c.args.depth old.start.index
    (none_left text old.start.index (no_other text old place b o none))

pub flow_plain-returns-then-matches-clause-missed : goal.flow_plain-returns-then-matches-clause-missed
flow_plain-returns-then-matches-clause-missed t c = λ text of over b o failed fed.
    let old = c.args.self.now in
    let l = c.plain.ensures in
    absurd (false≢true (sym fed ∙ c.push_leaf.ensures.starved l.3 failed))

pub flow_plain-returns-then-eq-clause-missed : goal.flow_plain-returns-then-eq-clause-missed
flow_plain-returns-then-eq-clause-missed t c = λ text of over b o failed fed.
    let old = c.args.self.now in
    let place = c.args.place in
    let first = first_line text old place c.plain_end-end.result of c.begins_plain.result
    c.begins_plain.ensures.goes c.begins_plain.ensures.some c.begins_plain.ensures.same over
    c.if-not-begins_plain.false c.plain_end-end.ensures.line in
    c.far_flow_plain.ensures.missed text of b first c.requires.here.0 failed fed

pub flow_plain-returns-clause-missed : goal.flow_plain-returns-clause-missed
flow_plain-returns-clause-missed t c = λ text of over b o failed fed.
    let old = c.args.self.now in
    let place = c.args.place in
    let first = first_line text old place c.plain_end-end.result of c.begins_plain.result
    c.begins_plain.ensures.goes c.begins_plain.ensures.some c.begins_plain.ensures.same over
    c.if-not-begins_plain.false c.plain_end-end.ensures.line in
    c.far_flow_plain-2.ensures.missed text of b first c.requires.here.0 failed fed

-- far flow plain
pub far_flow_plain-returns-then-place-clause-missed : goal.far_flow_plain-returns-then-place-clause-missed
far_flow_plain-returns-then-place-clause-missed t c = λ text of b first begun failed fed.
    let old = c.args.self.now in
    let place = c.args.place in
    let e = c.args.end in
    let within = subst (λ t. e ≤ length t) of.same c.requires.here.1 in
    let some = first_some text place e first c.requires.part within in
    let left = subst (λ t. HasNoToken t e ⊎ (is_over t (next t e) ≡ true)) of.same
    (c.flow_gap-place.ensures.missed (of_allowed text old of) (λ _. omega (arith, begun, some)) c.if-place.true) in
    part_left text c.args.slot c.args.depth old.start.index
    (first_left text old place e of.allowed b first c.requires.part within left)

pub far_flow_plain-returns-then-self-line-clause-missed : goal.far_flow_plain-returns-then-self-line-clause-missed
far_flow_plain-returns-then-self-line-clause-missed t c = λ text of b first begun failed fed.
    let old = c.args.self.now in
    let g = c.flow_gap-place.new.self in
    let gap = c.flow_gap-place.ensures in
    let k = c.flow_gap-place.result in
    let e = c.args.end in
    let of_g = of_kept text old g of gap.reached.0 in
    let n = gap.found (of_allowed text old of) c.if-place.false in
    let broken = broken_of text old g e k of n c.if-self-line.true in
    let over = ap (λ t. is_over t k) (sym of.same) ∙ gap.there (of_allowed text old of)
    (λ whole. absurd (false≢true (sym whole ∙ ap (λ t. breaks t e) of.same ∙ broken))) c.if-place.false in
    part_left text c.args.slot c.args.depth old.start.index
    (subst (λ i. LeavesNode text i) (ap (λ s. s.index) gap.start)
    (c.flow_plain_lines.ensures.missed text of_g
    (behind_kept text true old g c.args.place gap.start gap.names b)
    (record { first = first; broken = broken; there = next_of text old g e k of n; here = over }) failed fed))

pub far_flow_plain-returns-then-is_tight-clause-missed : goal.far_flow_plain-returns-then-is_tight-clause-missed
far_flow_plain-returns-then-is_tight-clause-missed t c = λ text of b first begun failed fed.
    let old = c.args.self.now in
    let g = c.flow_gap-place.new.self in
    let gap = c.flow_gap-place.ensures in
    let k = c.flow_gap-place.result in
    let e = c.args.end in
    let place = c.args.place in
    let n = gap.found (of_allowed text old of) c.if-place.false in
    let whole = line_of text old g e k of n c.if-self-line.false in
    let there = next_of text old g e k of n in
    let tight : is_tight text k ≡ true = ap (λ t. is_tight t k) (sym of.same)
    ∙ sym (c.is_tight.ensures (of_allowed text old of)) ∙ c.if-is_tight.true in
    let line = flow_line_by text true place e of.allowed first.line c.requires.part
    (subst (λ t. e ≤ length t) of.same c.requires.here.1) first.goes first.some refl first.begins whole in
    part_left text c.args.slot c.args.depth old.start.index
    (none_left text old.start.index (no_plain_node text old place b first.begins
    (line ∙ tight_none text place e (ap (is_tight text) (sym there) ∙ tight))))

pub far_flow_plain-returns-clause-missed : goal.far_flow_plain-returns-clause-missed
far_flow_plain-returns-clause-missed t c = λ text of b first begun failed fed.
    let old = c.args.self.now in
    let g = c.flow_gap-place.new.self in
    let gap = c.flow_gap-place.ensures in
    let k = c.flow_gap-place.result in
    let e = c.args.end in
    let place = c.args.place in
    let of_g = of_kept text old g of gap.reached.0 in
    let n = gap.found (of_allowed text old of) c.if-place.false in
    let whole = line_of text old g e k of n c.if-self-line.false in
    let there = next_of text old g e k of n in
    let loose : is_tight text k ≡ false = ap (λ t. is_tight t k) (sym of.same)
    ∙ sym (c.is_tight.ensures (of_allowed text old of)) ∙ c.if-is_tight.false in
    let line = flow_line_by text true place e of.allowed first.line c.requires.part
    (subst (λ t. e ≤ length t) of.same c.requires.here.1) first.goes first.some refl first.begins whole in
    let l = c.plain.ensures in
    let leaf = plain_behind text g c.plain.result place e (behind_kept text true old g place gap.start gap.names b) l.3
    l.0 l.1 l.2 c.requires.part (plain_whole text place e line (ap (is_tight text) (sym there) ∙ loose))
    (plain_line text true place e first.line) in
    subst (λ i. LeavesPart text c.args.slot c.args.depth i) (ap (λ s. s.index) gap.start)
    (c.flow_entry.ensures.missed text of_g leaf (there ∙ ap (next text) (sym l.2))
    (ap (breaks text) l.2 ∙ whole) failed fed)

-- flow leaf
pub flow_leaf-returns-in_default-clause-missed : goal.flow_leaf-returns-in_default-clause-missed
flow_leaf-returns-in_default-clause-missed t c = λ text of b quoted failed fed.
    let old = c.args.self.now in
    let place = c.args.place in
    let parts = ap (λ t. parts_documents t place) of.same ∙ quote_parts text place quoted in
    let none = subst (λ t. leaf_at t in_brackets place ≡ None) of.same
    (c.find_leaf.ensures.missed (of_allowed text old of) parts
    (none_else c.find_leaf.result (λ leaf is. c.in_default.not-Some leaf is)) in_brackets refl) in
    part_left text c.args.slot c.args.depth old.start.index
    (none_left text old.start.index (no_leaf_node text old place b
    (none_leaf text in_brackets (names_of old) place none) (quote_apart text place quoted)))

pub flow_leaf-returns-then-place-clause-missed : goal.flow_leaf-returns-then-place-clause-missed
flow_leaf-returns-then-place-clause-missed t c = λ text of b quoted failed fed.
    let old = c.args.self.now in
    let place = c.args.place in
    let leaf = c.in-Some.leaf in
    let parts = ap (λ t. parts_documents t place) of.same ∙ quote_parts text place quoted in
    let found = subst (λ t. IsFound t true place leaf) of.same (c.in-Some.ensures.found (of_allowed text old of) parts) in
    let q = c.in-Open.quote in
    let byte = open_quote text place leaf q found c.in-Open.is in
    let none = subst (λ t. quoted_from t q (place + 1) ≡ None) of.same
    (c.quoted_lines-place.ensures.missed (of_allowed text old of) c.if-place.true fed) in
    part_left text c.args.slot c.args.depth old.start.index
    (none_left text old.start.index (no_leaf_node text old place b
    (none_leaf text in_brackets (names_of old) place (quoted_none text in_brackets q place byte none))
    (quote_apart text place quoted)))

pub flow_leaf-returns-then-place-2-clause-missed : goal.flow_leaf-returns-then-place-2-clause-missed
flow_leaf-returns-then-place-2-clause-missed t c = λ text of b quoted failed fed.
    let old = c.args.self.now in
    let place = c.args.place in
    let leaf = c.in-Some.leaf in
    let m = c.quoted_lines-place.new.self in
    let lines = c.quoted_lines-place.ensures in
    let e = c.quoted_lines-place.result in
    let i = old.start.index in
    let of_m = of_kept text old m of lines.reached.0 in
    let parts = ap (λ t. parts_documents t place) of.same ∙ quote_parts text place quoted in
    let found = subst (λ t. IsFound t true place leaf) of.same (c.in-Some.ensures.found (of_allowed text old of) parts) in
    let byte = open_quote text place leaf c.in-Open.quote found c.in-Open.is in
    let x = quoted_read text old m c.args.depth place e c.in-Open.quote of b byte (lines.behind c.if-place.false)
    (lines.found (of_allowed text old of) c.if-place.false) in
    let left = subst (λ t. HasNoToken t e ⊎ (is_over t (next t e) ≡ true)) of_m.same
    (c.flow_gap-place.ensures.missed (of_allowed text m of_m) (λ _. lines.begun c.if-place.false) c.if-place-2.true) in
    part_left text c.args.slot c.args.depth i
    (cut_left text i e (read_end text old m c.args.depth i e x) (cut_by text i e (gap_end text e left)))

pub flow_leaf-returns-in-Open-clause-missed : goal.flow_leaf-returns-in-Open-clause-missed
flow_leaf-returns-in-Open-clause-missed t c = λ text of b quoted failed fed.
    let old = c.args.self.now in
    let place = c.args.place in
    let leaf = c.in-Some.leaf in
    let m = c.quoted_lines-place.new.self in
    let g = c.flow_gap-place.new.self in
    let lines = c.quoted_lines-place.ensures in
    let gap = c.flow_gap-place.ensures in
    let e = c.quoted_lines-place.result in
    let k = c.flow_gap-place.result in
    let i = old.start.index in
    let q = c.in-Open.quote in
    let of_m = of_kept text old m of lines.reached.0 in
    let of_g = of_kept text m g of_m gap.reached.0 in
    let parts = ap (λ t. parts_documents t place) of.same ∙ quote_parts text place quoted in
    let found = subst (λ t. IsFound t true place leaf) of.same (c.in-Some.ensures.found (of_allowed text old of) parts) in
    let byte = open_quote text place leaf q found c.in-Open.is in
    let a = lines.found (of_allowed text old of) c.if-place.false in
    let x = quoted_read text old m c.args.depth place e q of b byte (lines.behind c.if-place.false) a in
    let there = next_of text m g e k of_m (gap.found (of_allowed text m of_m) c.if-place-2.false) in
    let opened = subst (λ t. IsLeftOpen t q (place + 1) leaf.stop) of.same
    (c.in-Some.ensures.opened q (ap (λ t. at t place) of.same ∙ byte) (ap is_open c.in-Open.is)) in
    let colon = ap (λ t. at t k) (sym of_g.same) ∙ (c.flow_no_key.ensures.missed failed fed).0 in
    let read = subst (λ t. ◌≡◌ {A = Rest} (quoted_from t q (place + 1)) (Some (e - (place + 1), a.said))) of.same a.read in
    part_left text c.args.slot c.args.depth i
    (cut_left text i e (read_end text old m c.args.depth i e x)
    (colon_cut text i e k there colon
    (open_no_key text q i place leaf.stop e a.said (behind_low text old place b) opened
    (open_forward text q (place + 1) leaf.stop opened) (lines.behind c.if-place.false) read)))

pub flow_leaf-returns-then-place-3-clause-missed : goal.flow_leaf-returns-then-place-3-clause-missed
flow_leaf-returns-then-place-3-clause-missed t c = λ text of b quoted failed fed.
    let old = c.args.self.now in
    let place = c.args.place in
    let leaf = c.in-Some.leaf in
    let i = old.start.index in
    let e = leaf.end in
    let parts = ap (λ t. parts_documents t place) of.same ∙ quote_parts text place quoted in
    let found = subst (λ t. IsFound t true place leaf) of.same (c.in-Some.ensures.found (of_allowed text old of) parts) in
    let closed = not_open leaf.kind (λ q h. c.in_default-kind.not-Open q h) in
    let first = quote_by is_plain_first refl refl refl (at text place) quoted in
    let l = found_leaf text place leaf found first closed in
    let part = c.in-Some.ensures.part in
    let line = subst (λ t. InLine t place e) of.same (c.in-Some.ensures.line (of_allowed text old of)
    (ap (λ t. quotes (at t place)) of.same ∙ quoted) closed) in
    let fl = behind_names place b l (line_on text i place e b.line line) in
    let left = subst (λ t. HasNoToken t e ⊎ (is_over t (next t e) ≡ true)) of.same
    (c.flow_gap-place-2.ensures.missed (of_allowed text old of)
    (λ _. omega (arith, c.requires.here.0, leaf_some text place leaf found first (omega (arith, part.1.0, part.1.1.0)))) c.if-place-3.true) in
    part_left text c.args.slot c.args.depth i
    (cut_left text i e (node_end text old leaf fl (omega (arith, part.1.0, part.1.1.0))) (cut_by text i e (gap_end text e left)))

pub flow_leaf-returns-then-self-line-clause-missed : goal.flow_leaf-returns-then-self-line-clause-missed
flow_leaf-returns-then-self-line-clause-missed t c = λ text of b quoted failed fed.
    let old = c.args.self.now in
    let place = c.args.place in
    let leaf = c.in-Some.leaf in
    let g = c.flow_gap-place-2.new.self in
    let gap = c.flow_gap-place-2.ensures in
    let k = c.flow_gap-place-2.result in
    let i = old.start.index in
    let e = leaf.end in
    let of_g = of_kept text old g of gap.reached.0 in
    let n = gap.found (of_allowed text old of) c.if-place-3.false in
    let parts = ap (λ t. parts_documents t place) of.same ∙ quote_parts text place quoted in
    let found = subst (λ t. IsFound t true place leaf) of.same (c.in-Some.ensures.found (of_allowed text old of) parts) in
    let closed = not_open leaf.kind (λ q h. c.in_default-kind.not-Open q h) in
    let first = quote_by is_plain_first refl refl refl (at text place) quoted in
    let line = subst (λ t. InLine t place e) of.same (c.in-Some.ensures.line (of_allowed text old of)
    (ap (λ t. quotes (at t place)) of.same ∙ quoted) closed) in
    let index = ap (λ s. s.index) gap.start in
    let fl = behind_names place (behind_kept text true old g place gap.start gap.names b)
    (found_leaf text place leaf found first closed)
    (subst (λ q. InLine text q e) (sym index) (line_on text i place e b.line line)) in
    subst (λ q. LeavesPart text c.args.slot c.args.depth q) index
    (c.flow_entry.ensures.missed text of_g fl (next_of text old g e k of n)
    (line_of text old g e k of n c.if-self-line.true) failed fed)

pub flow_leaf-returns-then-place-4-clause-missed : goal.flow_leaf-returns-then-place-4-clause-missed
flow_leaf-returns-then-place-4-clause-missed t c = λ text of b quoted failed fed.
    let old = c.args.self.now in
    let place = c.args.place in
    let leaf = c.in-Some.leaf in
    let g = c.flow_gap-place-2.new.self in
    let gap = c.flow_gap-place-2.ensures in
    let i = old.start.index in
    let of_g = of_kept text old g of gap.reached.0 in
    let parts = ap (λ t. parts_documents t place) of.same ∙ quote_parts text place quoted in
    let found = subst (λ t. IsFound t true place leaf) of.same (c.in-Some.ensures.found (of_allowed text old of) parts) in
    let closed = not_open leaf.kind (λ q h. c.in_default-kind.not-Open q h) in
    let first = quote_by is_plain_first refl refl refl (at text place) quoted in
    let l = found_leaf text place leaf found first closed in
    let none = subst (λ t. HasNoLeaf t in_brackets (names_of g) place) of_g.same
    (c.push_leaf-place.ensures.missed in_brackets place (subst (λ t. IsLeaf t in_brackets place leaf) (sym of_g.same) l)
    c.if-place-4.true fed) in
    part_left text c.args.slot c.args.depth i
    (none_left text i (subst (λ q. NoNode text q) (ap (λ s. s.index) gap.start)
    (no_leaf_node text g place (behind_kept text true old g place gap.start gap.names b) none
    (quote_apart text place quoted))))

pub flow_leaf-returns-clause-missed : goal.flow_leaf-returns-clause-missed
flow_leaf-returns-clause-missed t c = λ text of b quoted failed fed.
    let old = c.args.self.now in
    let place = c.args.place in
    let leaf = c.in-Some.leaf in
    let g = c.flow_gap-place-2.new.self in
    let gap = c.flow_gap-place-2.ensures in
    let m = c.push_leaf-place.new.self in
    let push = c.push_leaf-place.ensures in
    let k = c.flow_gap-place-2.result in
    let i = old.start.index in
    let e = leaf.end in
    let of_g = of_kept text old g of gap.reached.0 in
    let of_m = of_kept text g m of_g push.kept.0 in
    let n = gap.found (of_allowed text old of) c.if-place-3.false in
    let parts = ap (λ t. parts_documents t place) of.same ∙ quote_parts text place quoted in
    let found = subst (λ t. IsFound t true place leaf) of.same (c.in-Some.ensures.found (of_allowed text old of) parts) in
    let closed = not_open leaf.kind (λ q h. c.in_default-kind.not-Open q h) in
    let first = quote_by is_plain_first refl refl refl (at text place) quoted in
    let l = found_leaf text place leaf found first closed in
    let part = c.in-Some.ensures.part in
    let line = subst (λ t. InLine t place e) of.same (c.in-Some.ensures.line (of_allowed text old of)
    (ap (λ t. quotes (at t place)) of.same ∙ quoted) closed) in
    let fl = behind_names place b l (line_on text i place e b.line line) in
    let broken = broken_of text old g e k of n c.if-self-line.false in
    let there = next_of text old g e k of n in
    let colon = ap (λ t. at t k) (sym of_m.same) ∙ (c.flow_no_key-2.ensures.missed failed fed).0 in
    part_left text c.args.slot c.args.depth i
    (cut_left text i e (node_end text old leaf fl (omega (arith, part.1.0, part.1.1.0)))
    (colon_cut text i e k there colon (no_key_lines text i e
    (broken_lines text i e (next text e)
    (omega (arith, behind_low text old place b, leaf_some text place leaf found first (omega (arith, part.1.0, part.1.1.0)))) broken (omega arith)))))

-- flow entry
pub flow_entry-returns-then-place-clause-missed : goal.flow_entry-returns-then-place-clause-missed
flow_entry-returns-then-place-clause-missed t c = λ text of leaf there whole failed fed.
    let old = c.args.self.now in
    let push = c.push_leaf-place.ensures in
    part_left text c.args.slot c.args.depth old.start.index
    (none_left text old.start.index (leaf_missed text old c.args.leaf of leaf
    (λ i l. push.missed in_brackets i l c.if-place.true fed)
    (λ kind. false≢true (sym fed ∙ push.starved kind c.if-place.true))))

pub flow_entry-returns-then-at-ne58-clause-missed : goal.flow_entry-returns-then-at-ne58-clause-missed
flow_entry-returns-then-at-ne58-clause-missed t c = λ text of leaf there whole failed fed.
    absurd (false≢true (sym fed ∙ c.flow_alone.ensures.starved failed))

pub flow_entry-returns-then-eq-clause-missed : goal.flow_entry-returns-then-eq-clause-missed
flow_entry-returns-then-eq-clause-missed t c = λ text of leaf there whole failed fed.
    let old = c.args.self.now in
    let k = c.args.next in
    let i = old.start.index in
    let e = c.args.leaf.end in
    let part = c.requires.part in
    let byte = ap (λ t. at t k) (sym of.same) ∙ (sym c.at.ensures.value ∙ c.if-at-ne58.false) in
    subst (λ s. LeavesPart text s c.args.depth i) (sym (eq_value c.args.slot c.eq.result c.eq.ensures c.if-eq.true))
    (value_left text c.args.depth i e (node_end text old c.args.leaf leaf (omega (arith, part.1.0, part.1.1.0)))
    (ap ends_part (ap (at text) (sym there) ∙ byte)))

pub flow_entry-returns-then-next-self-clause-missed : goal.flow_entry-returns-then-next-self-clause-missed
flow_entry-returns-then-next-self-clause-missed t c = λ text of leaf there whole failed fed.
    let old = c.args.self.now in
    let k = c.args.next in
    let i = old.start.index in
    let e = c.args.leaf.end in
    let part = c.requires.part in
    let byte = ap (λ t. at t k) (sym of.same) ∙ (sym c.at.ensures.value ∙ c.if-at-ne58.false) in
    part_left text c.args.slot c.args.depth i
    (cut_left text i e (node_end text old c.args.leaf leaf (omega (arith, part.1.0, part.1.1.0)))
    (colon_cut text i e k there byte (no_key_far text i e k there c.if-next-self.true)))

pub flow_entry-returns-then-eq-2-clause-missed : goal.flow_entry-returns-then-eq-2-clause-missed
flow_entry-returns-then-eq-2-clause-missed t c = λ text of leaf there whole failed fed.
    let old = c.args.self.now in
    let k = c.args.next in
    let i = old.start.index in
    let e = c.args.leaf.end in
    let byte = ap (λ t. at t k) (sym of.same) ∙ (sym c.at.ensures.value ∙ c.if-at-ne58.false) in
    let colon = key_colon text i e k there byte (omega (arith, c.requires.begun, next_low text e k there)) c.if-next-self.false
    (line_to text i e k (leaf_line text old c.args.leaf leaf) whole there) in
    subst (λ s. LeavesPart text s c.args.depth i) (sym (eq_item c.args.slot c.eq-2.result c.eq-2.ensures c.if-eq-2.true))
    (c.flow_pair.ensures.missed text of leaf colon there whole failed fed)

pub flow_entry-returns-then-place-2-clause-missed : goal.flow_entry-returns-then-place-2-clause-missed
flow_entry-returns-then-place-2-clause-missed t c = λ text of leaf there whole failed fed.
    let old = c.args.self.now in
    let push = c.push_leaf-place-2.ensures in
    part_left text c.args.slot c.args.depth old.start.index
    (none_left text old.start.index (leaf_missed text old c.args.leaf of leaf
    (λ i l. push.missed in_brackets i l c.if-place-2.true fed)
    (λ kind. false≢true (sym fed ∙ push.starved kind c.if-place-2.true))))

pub flow_entry-returns-clause-missed : goal.flow_entry-returns-clause-missed
flow_entry-returns-clause-missed t c = λ text of leaf there whole failed fed.
    absurd (no_such_place c.args.self.now c.args.next (omega (arith, c.requires.within)) failed)

-- flow pair
pub flow_pair-returns-then-depth-eq0-clause-missed : goal.flow_pair-returns-then-depth-eq0-clause-missed
flow_pair-returns-then-depth-eq0-clause-missed t c = λ text of leaf colon there whole failed fed.
    let old = c.args.self.now in
    let i = old.start.index in
    let e = c.args.leaf.end in
    let part = c.requires.part in
    pair_left text c.args.depth i e (node_end text old c.args.leaf leaf (omega (arith, part.1.0, part.1.1.0)))
    (ap ends_part (colon_byte text i e colon)) (λ d same. absurd (omega (arith, same, c.if-depth-eq0.true)))

pub flow_pair-returns-then-place-clause-missed : goal.flow_pair-returns-then-place-clause-missed
flow_pair-returns-then-place-clause-missed t c = λ text of leaf colon there whole failed fed.
    absurd (false≢true (sym fed ∙ c.push_mapping_before-place.ensures.starved c.if-place.true
    (λ z. no_such_place c.args.self.now c.args.leaf.end c.requires.part.1.1.1 z)))

pub flow_pair-returns-then-place-2-clause-missed : goal.flow_pair-returns-then-place-2-clause-missed
flow_pair-returns-then-place-2-clause-missed t c = λ text of leaf colon there whole failed fed.
    let old = c.args.self.now in
    let i = old.start.index in
    let a = c.push_mapping_before-place.new.self in
    let first = c.push_mapping_before-place.ensures in
    let push = c.push_leaf-place.ensures in
    let of_a = of_kept text old a of first.kept.0 in
    let start : a.start ≡ old.start = first.kept.1.1.0 in
    part_left text Item c.args.depth i
    (none_left text i (subst (λ s. NoNode text s.index) start
    (leaf_missed text a c.args.leaf of_a (leaf_kept text old a c.args.leaf start first.names leaf)
    (λ k l. push.missed in_brackets k l c.if-place-2.true fed)
    (λ kind. false≢true (sym fed ∙ push.starved kind c.if-place-2.true)))))

pub flow_pair-returns-then-place-3-clause-missed : goal.flow_pair-returns-then-place-3-clause-missed
flow_pair-returns-then-place-3-clause-missed t c = λ text of leaf colon there whole failed fed.
    let old = c.args.self.now in
    let i = old.start.index in
    let e = c.args.leaf.end in
    let part = c.requires.part in
    let a = c.push_mapping_before-place.new.self in
    let b = c.push_leaf-place.new.self in
    let first = c.push_mapping_before-place.ensures in
    let push = c.push_leaf-place.ensures in
    let of_a = of_kept text old a of first.kept.0 in
    let of_b = of_kept text a b of_a push.kept.0 in
    let start : a.start ≡ old.start = first.kept.1.1.0 in
    let x = leaf_read text a b (c.args.depth - 1) c.args.leaf of_a (leaf_kept text old a c.args.leaf start first.names leaf)
    whole (λ context q l early. push.found context q l early c.if-place-2.false)
    (λ kind. push.plain kind c.if-place-2.false) in
    let amid = colon_amid b c.args.colon (omega (arith, push.kept.1.0, first.kept.1.0, c.requires.here.0))
    (ap (λ t. at t c.args.colon) of_b.same ∙ (ap (at text) there ∙ colon_byte text i e colon)) in
    let left = c.flow_value-place.ensures.missed text of_b x.unnamed amid c.if-place-3.true fed in
    pair_left text c.args.depth i e (node_end text old c.args.leaf leaf (omega (arith, part.1.0, part.1.1.0)))
    (ap ends_part (colon_byte text i e colon))
    (λ d same. value_of_pair text c.args.depth d c.args.colon e same there left)

pub flow_pair-returns-clause-missed : goal.flow_pair-returns-clause-missed
flow_pair-returns-clause-missed t c = λ text of leaf colon there whole failed fed.
    absurd (false≢true (sym fed ∙ c.push_end.ensures.starved failed c.if-place-3.false))
