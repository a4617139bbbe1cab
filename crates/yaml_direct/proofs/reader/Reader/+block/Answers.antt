-- What was read by columns is what the grammar reads.
use Rattle.std.proofs.Common.{ap, arith, false, length, refl, subst, suc, sym, true, ◌+◌, ◌-◌, ◌<◌, ◌==◌, ◌∙◌, ◌≡◌, []}
use Rattle.std.proofs.Common.{◌&&◌, ◌++◌, ◌≢◌, Some, not, take}
use Rattle.std.proofs.lemmas.Bool.{and_from, and_left, and_right, false≢true, or_left, or_right}
use Rattle.std.specs.Prelude.{None, slice_range}
use Rattle.yaml_base.specs.PlainEvent.{mapping_start, sequence_start}
use Rattle.yaml_direct.specs.Added.{begins_block}
use Rattle.yaml_direct.specs.ByColumns.{AreEntriesBehind, AreLastEntries, IsBehind, IsBlockNode, IsEntry, IsMapping}
use Rattle.yaml_direct.specs.ByColumns.{IsSequence, Reads, room_of}
use Rattle.yaml_direct.specs.Held.{names_of}
use Rattle.yaml_direct.specs.InBrackets.{opens, quotes}
use Rattle.yaml_direct.specs.Gaps.{InLine}
use Rattle.yaml_direct.specs.Leaves.{IsFound, IsLeaf}
use Rattle.yaml_direct.specs.Lines.{PlainLine}
use Rattle.yaml_direct.specs.Places.{no_place}
use Rattle.yaml_direct.specs.Tokens.{EndsKey, IsCounted}
use Rattle.yaml_direct.specs.declared.block.Room.TheVariants as rooms
use Rattle.yaml_direct.proofs.BracketLeaves.{begins_first, first_stays, is_plain_first}
use Rattle.yaml_direct.proofs.BracketReads.{added_at, line_of, next_of, nothing_is, of_allowed, of_kept, unnamed_kept}
use Rattle.yaml_direct.proofs.BracketSteps.{bracket_stays, not_open, quote_by, quote_parts, quote_stays}
use Rattle.yaml_direct.proofs.ColumnReads.{behind_first, behind_in_line, behind_later, behind_nothing, behind_own}
use Rattle.yaml_direct.proofs.ColumnReads.{KeyRead, block_reads, collection_reads, counted_on, end_nothing, ends_by}
use Rattle.yaml_direct.proofs.ColumnReads.{entries_first, entries_turn, entries_whole, items_first, items_turn}
use Rattle.yaml_direct.proofs.ColumnReads.{items_whole, key_alone_reads, key_byte, key_early, key_kept, key_line}
use Rattle.yaml_direct.proofs.ColumnReads.{key_reads, keyed_reads, leaf_reads, line_entry, mapping_node, mapping_reads}
use Rattle.yaml_direct.proofs.ColumnReads.{marked_entry_reads, named_mapping_node, mark_byte, named_sequence_node}
use Rattle.yaml_direct.proofs.ColumnReads.{names_node, reads_from, reads_marked, sequence_node}
use Rattle.yaml_direct.proofs.ColumnSteps.{amid_behind, amid_over, at_here, at_over, behind_names_over, below_named}
use Rattle.yaml_direct.proofs.ColumnSteps.{block_stays, below_over, broken_ends, counted_behind, found_whole, goes_on}
use Rattle.yaml_direct.proofs.ColumnSteps.{item_here, item_is, named_none, named_some, names_key_here, not_value}
use Rattle.yaml_direct.proofs.ColumnSteps.{open_quote_by, over_ends, over_inside, over_parts, own_is, own_mark}
use Rattle.yaml_direct.proofs.ColumnSteps.{plain_added, plain_key, quoted_added, quoted_key, room_takes, test_here}
use Rattle.yaml_direct.proofs.ColumnSteps.{within_over}
use Rattle.yaml_direct.proofs.CountedLaws.{column_later, column_next}
use Rattle.yaml_direct.proofs.Growing.{given_up, grows_on, grows_same}
use Rattle.yaml_direct.proofs.LineLaws.{plain_line}
use Rattle.yaml_direct.proofs.ReaderLaws.{behind_space_goes_on, next_behind_space, short_text}
use Rattle.yaml_direct.proofs.TextLaws.{mark_is}
use Rattle.yaml_grammar.specs.Blocks.{anything, ends_key, is_own, is_value}
use Rattle.yaml_grammar.specs.Bytes.{at, column, is_mark, is_one_line, is_over, parts_documents}
use Rattle.yaml_grammar.specs.Gaps.{breaks, ends_its_line, is_at, is_item, is_within, next}
use Rattle.yaml_grammar.specs.Names.{Names, names_at, unnamed}
use Rattle.yaml_grammar.specs.Nodes.{end_mark, mark, no_content, node_events}
use Rattle.yaml_grammar.specs.Plain.{as_key, begins_plain, by_columns, plain_at}
use Rattle.yaml_reading.proofs.Begins.{wanders}
use Rattle.yaml_reading.proofs.Options.{no_some, pair_is}
use Rattle.yaml_tape.specs.OnTape.{position_at}
use Rattle.yaml_tape.specs.Pushes.{marked_on}
use Rattle.yaml_direct.specs.Gaps.{begins_token}
use Rattle.yaml_direct.specs.LeftByColumns.{EndsAtTab, LeavesBehind, LeavesBlockNode}
use Rattle.yaml_direct.specs.Tokens.{HasNoToken}
use Rattle.yaml_direct.proofs.ColumnMisses.{entries_left, entries_out, entry_left, first_left}
use Rattle.yaml_direct.proofs.ColumnMisses.{item_left, items_left, items_out, key_left, mapping_left, marked_left}
use Rattle.yaml_direct.proofs.ColumnMisses.{marked_value_left, rest_left, sequence_left, value_left}
use Rattle.yaml_direct.proofs.ColumnReads.{less_one}
use Rattle.yaml_direct.proofs.BracketBytes.{is_sign}
use Rattle.yaml_direct.proofs.ColumnsLeft.{BeginsNothing, begins_nothing, behind_one, behind_suc, content_here}
use Rattle.yaml_direct.proofs.ColumnsLeft.{gap_nothing, no_columns_left, no_room, second_byte}
use Rattle.yaml_direct.proofs.PartMisses.{either_byte, high_token, tab_in_line, tab_later, tab_mapping, tab_own}
use Rattle.yaml_direct.proofs.PartMisses.{tab_sequence, tab_sharp, value_takes}
use Rattle.yaml_direct.proofs.ReaderLaws.{no_such_place}
use Rattle.yaml_direct.proofs.TokenBehind.{behind_stop, entry_stop}
use Rattle.yaml_grammar.specs.Blocks.{Behind, part, value}
use Rattle.yaml_reading.specs.BlockReader.{columns_at, entries, items}
use Rattle.yaml_reading.specs.Readers.{and_node}
use Rattle.yaml_direct.specs.Added.{HasNoLeaf, LeavesBlock}
use Rattle.yaml_direct.specs.LeftByColumns.{LeavesEntriesBehind, begins_other, keyed_leaf}
use Rattle.yaml_direct.specs.LeftInBrackets.{IsLeftOpen}
use Rattle.yaml_direct.specs.Leaves.{is_open}
use Rattle.yaml_direct.specs.PlainTexts.{LeavesPlain}
use Rattle.yaml_direct.specs.Quoted.{quoted_from}
use Rattle.yaml_direct.proofs.AddedLeaves.{none_leaf, quoted_none}
use Rattle.yaml_direct.proofs.BracketBytes.{none_else}
use Rattle.yaml_direct.proofs.CollectionsLeft.{brackets_in_line, brackets_mapping, brackets_refused, unread_brackets}
use Rattle.yaml_direct.proofs.ContentMisses.{block_left, key_place, no_plain_left, other_by, plain_left}
use Rattle.yaml_direct.proofs.KeyFails.{found_no_key, open_no_key}
use Rattle.yaml_direct.proofs.KeyMisses.{ends_far, ends_lines, ends_no_colon}
use Rattle.yaml_direct.proofs.KeyReads.{ends_key_in}
use Rattle.yaml_direct.proofs.KeyedLeft.{keyed_left, keyed_refused, keyed_unread}
use Rattle.yaml_direct.proofs.NodesLeft.{colon_goes_on, leaf_in_line, quote_shut, unread_leaf}
use Rattle.yaml_grammar.specs.Folding.{Rest}
use Rattle.yaml_grammar.specs.Leaves.{leaf_at}
use Rattle.yaml_grammar.specs.Plain.{Context, is_flow}
use Rattle.std.proofs.Common.{inl, inr, ◌≤◌, ℕ}
use Rattle.yaml_direct.proofs.KeyedSteps.{colon_next, content_key, gone_back, is_value_room, keyed_lined, keyed_there}
use Rattle.yaml_direct.proofs.KeyedSteps.{no_leaf_kept, plain_whole}
use Rattle.yaml_direct.proofs.NamedLeft.{below_content, below_mapping_left, below_nothing_left, below_sequence_left}
use Rattle.yaml_direct.proofs.NamedLeft.{bracket_no_mark, bracket_no_space, later_sequence_left, line_content}
use Rattle.yaml_direct.proofs.NamedLeft.{nameless_left, names_keyed, part_no_value, read_no_content, read_no_entry}
use Rattle.yaml_direct.proofs.NamedLeft.{sharp_left, unread_no_content, unread_no_entry}
use Rattle.yaml_direct.proofs.EntryBegins.{token_no_space}
use Rattle.yaml_direct.proofs.KeyFails.{no_bracket}
use Rattle.yaml_direct.proofs.NameLines.{names_some}
use Rattle.yaml_direct.proofs.reader.Reader.+block.Goals as goal
use Rattle.yaml_direct.proofs.reader.Reader.+block.Goals.{node-in_default-via-in-45+else-is_gap}
use Rattle.yaml_direct.proofs.reader.Reader.+block.Goals.{node-in_default-via-in_default-1}
use Rattle.yaml_direct.proofs.reader.Reader.+block.Goals.{far_part-else-self-line-via-then-self-line+else-next-self}
use Rattle.yaml_direct.proofs.reader.Reader.+block.Goals.{far_part-else-self-line-via-else-self-line}
use Rattle.yaml_direct.proofs.reader.Reader.+block.Goals.{named-else-self-line-via-then-self-line+else-next-self}
use Rattle.yaml_direct.proofs.reader.Reader.+block.Goals.{named-else-self-line-via-else-self-line}
use Rattle.yaml_direct.proofs.reader.Reader.+block.Goals.{marked_entry-else-is_mark-via-then-is_mark+else-is_at}
use Rattle.yaml_direct.proofs.reader.Reader.+block.Goals.{brackets_below-then-not-begins_mapping-via-then-not-begins_mapping}
use Rattle.yaml_direct.proofs.reader.Reader.+block.Goals.{brackets_below-then-not-begins_mapping-via-else-not-begins_mapping+then-not-is_one_line}
use Rattle.yaml_direct.proofs.reader.Reader.+block.Goals.{marked_entry-else-is_mark-via-else-is_mark}

-- part
pub part-returns-then-begins_token-clause-found : goal.part-returns-then-begins_token-clause-found
part-returns-then-begins_token-clause-found t c = λ text k of none least amid counted some.
    let old = c.args.self.now in
    let new = c.node.new.self in
    let i = c.args.behind in
    let j = c.node.result in
    let space = sym c.at.ensures.value ∙ c.if-at-eq32.true in
    let token = c.begins_token.ensures.token c.if-begins_token.true in
    let value = c.at-then-at-eq32.ensures.value in
    let n = next_behind_space old i space (omega (arith, value, token.0)) (λ e. token.1 (value ∙ e)) in
    let inside = c.at-then-at-eq32.ensures.within (λ z. omega (arith, z, token.0)) in
    let inside' = subst (λ t. i + 1 < length t) of.same inside in
    let over = ap (λ t. is_over t (i + 1)) (sym of.same) ∙ behind_space_goes_on old.text.now i space inside in
    let x = c.node.ensures.found text of none over
    (λ h. column_next old old i (i + 1) n refl (counted h) c.requires.here.0 (omega arith)
    (omega (arith, inside))) some in
    behind_in_line text c.args.depth k i (i + 1) j (room_of c.args.room) old new
    (goes_on text old old i (i + 1) of n refl inside') (next_of text old old i (i + 1) of n)
    (subst (λ q. Reads old new j (IsBlockNode text c.args.depth q (room_of c.args.room) (i + 1) j)) least x)

pub part-returns-clause-found : goal.part-returns-clause-found
part-returns-clause-found t c = λ text k of none least amid counted some.
    c.far_part.ensures.found text k of none least amid counted some

pub part-returns-then-begins_token-clause-missed : goal.part-returns-then-begins_token-clause-missed
part-returns-then-begins_token-clause-missed t c = λ text k of none least amid counted failed fed es.
    let old = c.args.self.now in
    let i = c.args.behind in
    let room = room_of c.args.room in
    let space = sym c.at.ensures.value ∙ c.if-at-eq32.true in
    let token = c.begins_token.ensures.token c.if-begins_token.true in
    let value = c.at-then-at-eq32.ensures.value in
    let value' = value ∙ ap (λ t. at t (i + 1)) of.same in
    let n = next_behind_space old i space (omega (arith, value, token.0)) (λ e. token.1 (value ∙ e)) in
    let inside = c.at-then-at-eq32.ensures.within (λ z. omega (arith, z, token.0)) in
    let inside' = subst (λ t. i + 1 < length t) of.same inside in
    let over = ap (λ t. is_over t (i + 1)) (sym of.same) ∙ behind_space_goes_on old.text.now i space inside in
    let left = c.node.ensures.missed text of none over
    (high_token text (i + 1) (omega (arith, value', token.0)) (λ e. token.1 (value' ∙ e)))
    (λ h. column_next old old i (i + 1) n refl (counted h) c.requires.here.0 (omega arith)
    (omega (arith, inside))) failed fed in
    tab_in_line text c.args.depth k room es i (i + 1) (goes_on text old old i (i + 1) of n refl inside')
    (next_of text old old i (i + 1) of n) (subst (λ q. LeavesBlockNode text c.args.depth q room (i + 1)) least left es)

-- far part
pub far_part-returns-then-next-self-clause-found : goal.far_part-returns-then-next-self-clause-found
far_part-returns-then-next-self-clause-found t c = λ text k of none least amid counted some.
    let old = c.args.self.now in
    let b = c.begin.new.self in
    let g = c.gap-place.new.self in
    let new = c.node.new.self in
    let gap = c.gap-place.ensures in
    let begin = c.begin.ensures in
    let i = c.args.behind in
    let p = c.gap-place.result in
    let j = c.node.result in
    let of_b = of_kept text old b of begin.text in
    let of_g = of_kept text b g of_b gap.reached.0 in
    let n = gap.found (of_allowed text b of_b) c.if-place.false in
    let r = gap.reached.1.1 c.if-place.false in
    let inside : p < length text = subst (λ t. p < length t) of_b.same
    (omega (arith, r.1.1, c.if-next-self.true, ap length gap.reached.0)) in
    let over = amid_over text b g i p of_b n c.if-self-line.true amid inside in
    let x = c.node.ensures.found text of_g
    (unnamed_kept b g gap.names (unnamed_kept old b begin.names none)) over
    (λ h. column_next b g i p n gap.reached.0 (counted_on old b i begin.text begin.line (counted h))
    (omega (arith, begin.line, c.requires.here.0)) r.0 r.1.1) some in
    reads_from old g new j (IsBehind text c.args.depth k (room_of c.args.room) i j) (gap.still ∙ begin.still)
    (behind_in_line text c.args.depth k i p j (room_of c.args.room) g new
    (goes_on text b g i p of_b n c.if-self-line.true inside) (next_of text b g i p of_b n)
    (subst (λ q. Reads g new j (IsBlockNode text c.args.depth q (room_of c.args.room) p j)) least x))

pub far_part-returns-then-is_within-clause-found : goal.far_part-returns-then-is_within-clause-found
far_part-returns-then-is_within-clause-found t c = λ text k of none least amid counted some.
    let old = c.args.self.now in
    let b = c.begin.new.self in
    let g = c.gap-place.new.self in
    let new = c.node-then-is_within.new.self in
    let gap = c.gap-place.ensures in
    let begin = c.begin.ensures in
    let i = c.args.behind in
    let p = c.gap-place.result in
    let j = c.node-then-is_within.result in
    let of_b = of_kept text old b of begin.text in
    let of_g = of_kept text b g of_b gap.reached.0 in
    let n = gap.found (of_allowed text b of_b) c.if-place.false in
    let r = gap.reached.1.1 c.if-place.false in
    let ends : ends_its_line text i ≡ true = elim c.else-self-line.branch [
      | far_part-else-self-line-via-then-self-line+else-next-self w ↦
          over_ends text b g i p of_b n (omega (arith, w.if-next-self.false, ap length of_g.same))
      | far_part-else-self-line-via-else-self-line w ↦ broken_ends text b g i p of_b n w.if-self-line.false
    ] in
    let counted_g = column_later b g i p n gap.reached.0 (ap (λ t. ends_its_line t i) of_b.same ∙ ends) r.1.1 in
    let within : is_within text c.args.least p ≡ true = test_here (λ t. is_within t c.args.least p) text g
    c.is_within.result of_g.same (c.is_within.ensures.same (of_allowed text g of_g) counted_g) c.if-is_within.true in
    let x = c.node-then-is_within.ensures.found text of_g
    (unnamed_kept b g gap.names (unnamed_kept old b begin.names none)) (within_over text c.args.least p within)
    (λ h. counted_g) some in
    reads_from old g new j (IsBehind text c.args.depth k (room_of c.args.room) i j) (gap.still ∙ begin.still)
    (behind_later text c.args.depth k i p j (room_of c.args.room) (room_of c.later.result) g new ends
    (next_of text b g i p of_b n) (subst (λ q. is_within text q p ≡ true) least within) c.later.ensures
    (subst (λ q. Reads g new j (IsBlockNode text c.args.depth q (room_of c.later.result) p j)) least x))

pub far_part-returns-then-is_own_sequence-clause-found : goal.far_part-returns-then-is_own_sequence-clause-found
far_part-returns-then-is_own_sequence-clause-found t c = λ text k of none least amid counted some.
    let old = c.args.self.now in
    let b = c.begin.new.self in
    let g = c.gap-place.new.self in
    let m = c.begin-then-is_own_sequence.new.self in
    let new = c.sequence.new.self in
    let gap = c.gap-place.ensures in
    let begin = c.begin.ensures in
    let again = c.begin-then-is_own_sequence.ensures in
    let room = room_of c.args.room in
    let i = c.args.behind in
    let p = c.gap-place.result in
    let j = c.sequence.result in
    let d = c.args.depth in
    let of_b = of_kept text old b of begin.text in
    let of_g = of_kept text b g of_b gap.reached.0 in
    let of_m = of_kept text g m of_g again.text in
    let n = gap.found (of_allowed text b of_b) c.if-place.false in
    let r = gap.reached.1.1 c.if-place.false in
    let ends : ends_its_line text i ≡ true = elim c.else-self-line.branch [
      | far_part-else-self-line-via-then-self-line+else-next-self w ↦
          over_ends text b g i p of_b n (omega (arith, w.if-next-self.false, ap length of_g.same))
      | far_part-else-self-line-via-else-self-line w ↦ broken_ends text b g i p of_b n w.if-self-line.false
    ] in
    let counted_g = column_later b g i p n gap.reached.0 (ap (λ t. ends_its_line t i) of_b.same ∙ ends) r.1.1 in
    let own : is_own text room c.args.least p ≡ true = test_here (λ t. is_own t room c.args.least p) text g
    c.is_own_sequence.result of_g.same (c.is_own_sequence.ensures.same (of_allowed text g of_g) counted_g)
    c.if-is_own_sequence.true in
    let own' = subst (λ q. is_own text room q p ≡ true) least own in
    let item = own_is text room k p own' in
    let none_m = unnamed_kept g m again.names (unnamed_kept b g gap.names (unnamed_kept old b begin.names none)) in
    let x = c.sequence.ensures.found text of_m again.early item.0
    (counted_on g m p again.text again.line counted_g) some in
    reads_from old m new j (IsBehind text d k room i j) (again.still ∙ (gap.still ∙ begin.still))
    (behind_own text d k (column text p) i p j room (names_of m) m new (c.sequence.ensures.nested some) ends
    (next_of text b g i p of_b n) own' item.1 none_m
    (subst (λ q. Reads m new j (IsSequence text (d - 1) (column text p) q (names_of m) p j)) again.start x))

pub far_part-returns-clause-found : goal.far_part-returns-clause-found
far_part-returns-clause-found t c = λ text k of none least amid counted some.
    let old = c.args.self.now in
    let b = c.begin.new.self in
    let g = c.gap-place.new.self in
    let new = c.push_nothing.new.self in
    let gap = c.gap-place.ensures in
    let begin = c.begin.ensures in
    let push = c.push_nothing.ensures in
    let room = room_of c.args.room in
    let i = c.args.behind in
    let p = c.gap-place.result in
    let of_b = of_kept text old b of begin.text in
    let of_g = of_kept text b g of_b gap.reached.0 in
    let n = gap.found (of_allowed text b of_b) c.if-place.false in
    let r = gap.reached.1.1 c.if-place.false in
    let ends : ends_its_line text i ≡ true = elim c.else-self-line.branch [
      | far_part-else-self-line-via-then-self-line+else-next-self w ↦
          over_ends text b g i p of_b n (omega (arith, w.if-next-self.false, ap length of_g.same))
      | far_part-else-self-line-via-else-self-line w ↦ broken_ends text b g i p of_b n w.if-self-line.false
    ] in
    let counted_g = column_later b g i p n gap.reached.0 (ap (λ t. ends_its_line t i) of_b.same ∙ ends) r.1.1 in
    let within : is_within text c.args.least p ≡ false = test_here (λ t. is_within t c.args.least p) text g
    c.is_within.result of_g.same (c.is_within.ensures.same (of_allowed text g of_g) counted_g) c.if-is_within.false in
    let own : is_own text room c.args.least p ≡ false = test_here (λ t. is_own t room c.args.least p) text g
    c.is_own_sequence.result of_g.same (c.is_own_sequence.ensures.same (of_allowed text g of_g) counted_g)
    c.if-is_own_sequence.false in
    let none_g = unnamed_kept b g gap.names (unnamed_kept old b begin.names none) in
    let a = push.added some in
    let added = nothing_is text g new i of_g (ap (λ s. s.late) gap.start ∙ begin.early)
    (ap (λ s. s.index) gap.start ∙ begin.start) none_g a in
    let x = behind_nothing text c.args.depth k i p room g new ends (next_of text b g i p of_b n)
    (subst (λ q. is_within text q p ≡ false) least within) (subst (λ q. is_own text room q p ≡ false) least own) added
    a.unnamed (counted_on g new p push.kept.0 push.kept.1.0 counted_g) in
    subst (λ q. Reads old new q (IsBehind text c.args.depth k room i q)) (sym (push.there some))
    (reads_from old g new p (IsBehind text c.args.depth k room i p) (gap.still ∙ begin.still) x)

pub far_part-returns-then-place-clause-missed : goal.far_part-returns-then-place-clause-missed
far_part-returns-then-place-clause-missed t c = λ text k of none least amid counted failed fed es.
    let old = c.args.self.now in
    let b = c.begin.new.self in
    let i = c.args.behind in
    let of_b = of_kept text old b of c.begin.ensures.text in
    tab_sharp text c.args.depth k (room_of c.args.room) es i
    (subst (λ t. HasNoToken t i) of_b.same (c.gap-place.ensures.missed (of_allowed text b of_b) c.if-place.true))

pub far_part-returns-then-next-self-clause-missed : goal.far_part-returns-then-next-self-clause-missed
far_part-returns-then-next-self-clause-missed t c = λ text k of none least amid counted failed fed es.
    let old = c.args.self.now in
    let b = c.begin.new.self in
    let g = c.gap-place.new.self in
    let gap = c.gap-place.ensures in
    let begin = c.begin.ensures in
    let room = room_of c.args.room in
    let i = c.args.behind in
    let p = c.gap-place.result in
    let of_b = of_kept text old b of begin.text in
    let of_g = of_kept text b g of_b gap.reached.0 in
    let n = gap.found (of_allowed text b of_b) c.if-place.false in
    let r = gap.reached.1.1 c.if-place.false in
    let inside : p < length text = subst (λ t. p < length t) of_b.same
    (omega (arith, r.1.1, c.if-next-self.true, ap length gap.reached.0)) in
    let over = amid_over text b g i p of_b n c.if-self-line.true amid inside in
    let token = ap (λ t. begins_token t p) (sym of_b.same) ∙ (gap.between c.if-place.false).next in
    let left = c.node.ensures.missed text of_g
    (unnamed_kept b g gap.names (unnamed_kept old b begin.names none)) over token
    (λ h. column_next b g i p n gap.reached.0 (counted_on old b i begin.text begin.line (counted h))
    (omega (arith, begin.line, c.requires.here.0)) r.0 r.1.1) failed fed in
    tab_in_line text c.args.depth k room es i p (goes_on text b g i p of_b n c.if-self-line.true inside)
    (next_of text b g i p of_b n) (subst (λ q. LeavesBlockNode text c.args.depth q room p) least left es)

pub far_part-returns-then-is_within-clause-missed : goal.far_part-returns-then-is_within-clause-missed
far_part-returns-then-is_within-clause-missed t c = λ text k of none least amid counted failed fed es.
    let old = c.args.self.now in
    let b = c.begin.new.self in
    let g = c.gap-place.new.self in
    let gap = c.gap-place.ensures in
    let begin = c.begin.ensures in
    let in_later = room_of c.later.result in
    let i = c.args.behind in
    let p = c.gap-place.result in
    let of_b = of_kept text old b of begin.text in
    let of_g = of_kept text b g of_b gap.reached.0 in
    let n = gap.found (of_allowed text b of_b) c.if-place.false in
    let r = gap.reached.1.1 c.if-place.false in
    let ends : ends_its_line text i ≡ true = elim c.else-self-line.branch [
      | far_part-else-self-line-via-then-self-line+else-next-self w ↦
          over_ends text b g i p of_b n (omega (arith, w.if-next-self.false, ap length of_g.same))
      | far_part-else-self-line-via-else-self-line w ↦ broken_ends text b g i p of_b n w.if-self-line.false
    ] in
    let counted_g = column_later b g i p n gap.reached.0 (ap (λ t. ends_its_line t i) of_b.same ∙ ends) r.1.1 in
    let within : is_within text c.args.least p ≡ true = test_here (λ t. is_within t c.args.least p) text g
    c.is_within.result of_g.same (c.is_within.ensures.same (of_allowed text g of_g) counted_g) c.if-is_within.true in
    let token = ap (λ t. begins_token t p) (sym of_b.same) ∙ (gap.between c.if-place.false).next in
    let left = c.node-then-is_within.ensures.missed text of_g
    (unnamed_kept b g gap.names (unnamed_kept old b begin.names none)) (within_over text c.args.least p within) token
    (λ h. counted_g) failed fed in
    tab_later text c.args.depth k (room_of c.args.room) in_later es i p ends (next_of text b g i p of_b n)
    (subst (λ q. is_within text q p ≡ true) least within) c.later.ensures
    (subst (λ q. LeavesBlockNode text c.args.depth q in_later p) least left es)

pub far_part-returns-then-is_own_sequence-clause-missed : goal.far_part-returns-then-is_own_sequence-clause-missed
far_part-returns-then-is_own_sequence-clause-missed t c = λ text k of none least amid counted failed fed es.
    let old = c.args.self.now in
    let b = c.begin.new.self in
    let g = c.gap-place.new.self in
    let m = c.begin-then-is_own_sequence.new.self in
    let gap = c.gap-place.ensures in
    let begin = c.begin.ensures in
    let again = c.begin-then-is_own_sequence.ensures in
    let room = room_of c.args.room in
    let i = c.args.behind in
    let p = c.gap-place.result in
    let d = c.args.depth in
    let of_b = of_kept text old b of begin.text in
    let of_g = of_kept text b g of_b gap.reached.0 in
    let n = gap.found (of_allowed text b of_b) c.if-place.false in
    let r = gap.reached.1.1 c.if-place.false in
    let ends : ends_its_line text i ≡ true = elim c.else-self-line.branch [
      | far_part-else-self-line-via-then-self-line+else-next-self w ↦
          over_ends text b g i p of_b n (omega (arith, w.if-next-self.false, ap length of_g.same))
      | far_part-else-self-line-via-else-self-line w ↦ broken_ends text b g i p of_b n w.if-self-line.false
    ] in
    let counted_g = column_later b g i p n gap.reached.0 (ap (λ t. ends_its_line t i) of_b.same ∙ ends) r.1.1 in
    let own : is_own text room c.args.least p ≡ true = test_here (λ t. is_own t room c.args.least p) text g
    c.is_own_sequence.result of_g.same (c.is_own_sequence.ensures.same (of_allowed text g of_g) counted_g)
    c.if-is_own_sequence.true in
    let own' = subst (λ q. is_own text room q p ≡ true) least own in
    let item = own_is text room k p own' in
    let left = c.sequence.ensures.missed text (of_kept text g m of_g again.text) again.early item.0
    (counted_on g m p again.text again.line counted_g) failed fed in
    tab_own text d k room es i p ends (next_of text b g i p of_b n) own'
    (subst (λ q. EndsAtTab text (columns_at text d items unnamed p q es p)) item.1 (left unnamed p es))

-- node
pub node-returns-in-45-clause-found : goal.node-returns-in-45-clause-found
node-returns-in-45-clause-found t c = λ text of none over counted some.
    let old = c.args.self.now in
    let m = c.begin.new.self in
    let begin = c.begin.ensures in
    let place = c.args.place in
    let j = c.compact.result in
    let of_m = of_kept text old m of begin.text in
    let byte : at text place ≡ c.at-byte.result = ap (λ t. at t place) (sym of_m.same) ∙ sym c.at-byte.ensures.value in
    let gap = c.is_gap.ensures in
    let mark : is_mark text c.at-byte.result place ≡ true = ap (λ t. is_mark t c.at-byte.result place) (sym of_m.same)
    ∙ (sym (mark_is m.text.now c.at-byte.result place c.is_gap.result (of_allowed text m of_m)
    (sym c.at-byte.ensures.value) gap) ∙ c.if-is_gap.true) in
    reads_from old m c.compact.new.self j (IsBlockNode text c.args.depth c.args.least (room_of c.args.room) place j)
    begin.still
    (c.compact.ensures.found text c.args.least of_m (unnamed_kept old m begin.names none) begin.early begin.start mark
    over (λ h. counted_on old m place begin.text begin.line (counted h)) some)

pub node-returns-in-38-clause-found : goal.node-returns-in-38-clause-found
node-returns-in-38-clause-found t c = λ text of none over counted some.
    let old = c.args.self.now in
    let m = c.begin.new.self in
    let begin = c.begin.ensures in
    let place = c.args.place in
    let j = c.named.result in
    reads_from old m c.named.new.self j (IsBlockNode text c.args.depth c.args.least (room_of c.args.room) place j)
    begin.still
    (c.named.ensures.found text (of_kept text old m of begin.text)
    (unnamed_kept old m begin.names none) begin.early over
    (λ h. counted_on old m place begin.text begin.line (counted h)) some)

pub node-returns-in_default-clause-found : goal.node-returns-in_default-clause-found
node-returns-in_default-clause-found t c = λ text of none over counted some.
    let old = c.args.self.now in
    let m = c.begin.new.self in
    let new = c.content.new.self in
    let begin = c.begin.ensures in
    let place = c.args.place in
    let room = c.args.room in
    let j = c.content.result in
    let of_m = of_kept text old m of begin.text in
    let x = c.content.ensures.found text (room_of room) of_m (room_takes room) over
    (λ w. named_none text c.args.least room m place begin.start begin.early (unnamed_kept old m begin.names none) over
    (λ h. counted_on old m place begin.text begin.line (counted h)) w) some in
    reads_from old m new j (IsBlockNode text c.args.depth c.args.least (room_of room) place j) begin.still
    (subst (λ i. Reads m new j (IsBlockNode text c.args.depth c.args.least (room_of room) i j)) begin.start x)

pub node-returns-in-45-clause-missed : goal.node-returns-in-45-clause-missed
node-returns-in-45-clause-missed t c = λ text of none over token counted failed fed.
    let old = c.args.self.now in
    let m = c.begin.new.self in
    let begin = c.begin.ensures in
    let place = c.args.place in
    let of_m = of_kept text old m of begin.text in
    let gap = c.is_gap.ensures in
    let mark : is_mark text c.at-byte.result place ≡ true = ap (λ t. is_mark t c.at-byte.result place) (sym of_m.same)
    ∙ (sym (mark_is m.text.now c.at-byte.result place c.is_gap.result (of_allowed text m of_m)
    (sym c.at-byte.ensures.value) gap) ∙ c.if-is_gap.true) in
    c.compact.ensures.missed text c.args.least of_m (unnamed_kept old m begin.names none) begin.early begin.start mark
    (either_byte c.at-byte.result 45 63 (grind (arith, c.in-45.is)))
    over (λ h. counted_on old m place begin.text begin.line (counted h)) failed fed

pub node-returns-in-38-clause-missed : goal.node-returns-in-38-clause-missed
node-returns-in-38-clause-missed t c = λ text of none over token counted failed fed.
    let old = c.args.self.now in
    let m = c.begin.new.self in
    let begin = c.begin.ensures in
    let place = c.args.place in
    let of_m = of_kept text old m of begin.text in
    let byte : at text place ≡ c.at-byte.result = ap (λ t. at t place) (sym of_m.same) ∙ sym c.at-byte.ensures.value in
    c.named.ensures.missed text of_m (unnamed_kept old m begin.names none) begin.early over
    (either_byte (at text place) 38 33 (ap is_sign byte ∙ grind (arith, c.in-38.is)))
    (λ h. counted_on old m place begin.text begin.line (counted h)) failed fed

pub node-returns-in_default-clause-missed : goal.node-returns-in_default-clause-missed
node-returns-in_default-clause-missed t c = λ text of none over token counted failed fed.
    let old = c.args.self.now in
    let m = c.begin.new.self in
    let begin = c.begin.ensures in
    let place = c.args.place in
    let room = c.args.room in
    let r = c.at-byte.result in
    let of_m = of_kept text old m of begin.text in
    let byte : at text place ≡ r = ap (λ t. at t place) (sym of_m.same) ∙ sym c.at-byte.ensures.value in
    let nothing : BeginsNothing text place = elim c.in_default.branch [
      | node-in_default-via-in-45+else-is_gap w ↦
          let no_mark : is_mark text r place ≡ false = ap (λ t. is_mark t r place) (sym of_m.same)
          ∙ (sym (mark_is m.text.now r place w.is_gap.result (of_allowed text m of_m) (sym c.at-byte.ensures.value)
          w.is_gap.ensures) ∙ w.if-is_gap.false) in
          gap_nothing text r place byte (either_byte r 45 63 (grind (arith, w.in-45.is))) no_mark
      | node-in_default-via-in_default-1 w ↦
          let not38 : r ≡ 38 → ⊥ = grind (arith, w) in
          let not33 : r ≡ 33 → ⊥ = grind (arith, w) in
          let not45 : r ≡ 45 → ⊥ = grind (arith, w) in
          let not63 : r ≡ 63 → ⊥ = grind (arith, w) in
          begins_nothing text place (λ e. not38 (sym byte ∙ e)) (λ e. not33 (sym byte ∙ e)) (λ e. not45 (sym byte ∙ e))
          (λ e. not63 (sym byte ∙ e))
    ] in
    let here = content_here text c.args.depth c.args.least room m place begin.start begin.early
    (unnamed_kept old m begin.names none) over (λ h. counted_on old m place begin.text begin.line (counted h))
    (omega (arith, begin.line, c.requires.here.0)) token nothing in
    subst (λ i. LeavesBlockNode text c.args.depth c.args.least (room_of room) i) begin.start
    (c.content.ensures.missed text (room_of room) of_m here over token failed fed)

-- compact
pub compact-returns-then-indicator-eq45-clause-found : goal.compact-returns-then-indicator-eq45-clause-found
compact-returns-then-indicator-eq45-clause-found t c = λ text least of none early there here over counted some.
    let old = c.args.self.now in
    let place = c.args.place in
    let other = not_value c.args.room c.eq.result c.eq.ensures c.if-eq.false in
    let mark = subst (λ b. is_mark text b place ≡ true) c.if-indicator-eq45.true here in
    sequence_node text c.args.depth least place old.start.index c.sequence.result (room_of c.args.room)
    (names_of old) old
    c.sequence.new.self (c.sequence.ensures.nested some) (room_takes c.args.room other) mark there none
    (c.sequence.ensures.found text of early mark (counted other) some)

pub compact-returns-else-indicator-eq45-clause-found : goal.compact-returns-else-indicator-eq45-clause-found
compact-returns-else-indicator-eq45-clause-found t c = λ text least of none early there here over counted some.
    let old = c.args.self.now in
    let place = c.args.place in
    let other = not_value c.args.room c.eq.result c.eq.ensures c.if-eq.false in
    mapping_node text c.args.depth least place old.start.index c.mapping.result (room_of c.args.room) (names_of old) old
    c.mapping.new.self (c.mapping.ensures.nested some) (room_takes c.args.room other) over there none
    (c.mapping.ensures.found text of early over (counted other) some)

pub compact-returns-then-eq-clause-missed : goal.compact-returns-then-eq-clause-missed
compact-returns-then-eq-clause-missed t c = λ text least of none early there here dash over counted failed fed es.
    no_room text c.args.depth least c.args.place c.args.indicator (room_of c.args.room) es here dash over
    (value_takes c.args.room c.eq.result c.eq.ensures c.if-eq.true)

pub compact-returns-then-indicator-eq45-clause-missed : goal.compact-returns-then-indicator-eq45-clause-missed
compact-returns-then-indicator-eq45-clause-missed t c = λ text least of none early there here dash over counted failed
    fed es.
    let place = c.args.place in
    let other = not_value c.args.room c.eq.result c.eq.ensures c.if-eq.false in
    let mark = subst (λ b. is_mark text b place ≡ true) c.if-indicator-eq45.true here in
    tab_sequence text c.args.depth least (room_of c.args.room) es place mark
    (λ _. c.sequence.ensures.missed text of early mark (counted other) failed fed unnamed place es)

pub compact-returns-else-indicator-eq45-clause-missed : goal.compact-returns-else-indicator-eq45-clause-missed
compact-returns-else-indicator-eq45-clause-missed t c = λ text least of none early there here dash over counted failed
    fed es.
    let place = c.args.place in
    let other = not_value c.args.room c.eq.result c.eq.ensures c.if-eq.false in
    let second = second_byte c.args.indicator 45 63 dash c.if-indicator-eq45.false in
    let mark = subst (λ b. is_mark text b place ≡ true) second here in
    let byte = mark_byte text 63 place mark in
    tab_mapping text c.args.depth least (room_of c.args.room) es place mark over
    (λ _. c.mapping.ensures.missed text of early over (λ e. omega (arith, byte, e)) (counted other) failed fed unnamed
    place es)

-- content
pub content-returns-in-124-clause-found : goal.content-returns-in-124-clause-found
content-returns-in-124-clause-found t c = λ text in_room of takes over b some.
    let old = c.args.self.now in
    let place = c.args.place in
    let begins : begins_block (at old.text.now place) ≡ true = grind (arith, c.in-124.is, c.at.ensures.value) in
    let stays : wanders (at text place) ≡ false = block_stays (at text place)
    (ap (λ t. begins_block (at t place)) (sym of.same) ∙ begins) in
    block_reads text old c.block_scalar.new.self c.args.depth c.args.least c.args.room in_room place
    c.block_scalar.result
    of (b stays) (c.block_scalar.ensures.found (of_allowed text old of) c.requires.near begins some)

pub content-returns-in-91-clause-found : goal.content-returns-in-91-clause-found
content-returns-in-91-clause-found t c = λ text in_room of takes over b some.
    let opened : opens (at text c.args.place) ≡ true = ap (λ t. opens (at t c.args.place)) (sym of.same)
    ∙ grind (arith, c.in-91.is, c.at.ensures.value) in
    c.brackets.ensures.found text c.args.least in_room of takes opened (b (bracket_stays text c.args.place opened)) some

pub content-returns-in-34-clause-found : goal.content-returns-in-34-clause-found
content-returns-in-34-clause-found t c = λ text in_room of takes over b some.
    let quoted : quotes (at text c.args.place) ≡ true = ap (λ t. quotes (at t c.args.place)) (sym of.same)
    ∙ grind (arith, c.in-34.is, c.at.ensures.value) in
    c.leaf.ensures.found text in_room of takes quoted (b (quote_stays text c.args.place quoted)) some

pub content-returns-in_default-clause-found : goal.content-returns-in_default-clause-found
content-returns-in_default-clause-found t c = λ text in_room of takes over b some.
    c.plain_leaf.ensures.found text in_room of takes over b some

pub content-returns-in-124-clause-missed : goal.content-returns-in-124-clause-missed
content-returns-in-124-clause-missed t c = λ text in_room of x over token failed fed.
    let old = c.args.self.now in
    let place = c.args.place in
    let begins : begins_block (at old.text.now place) ≡ true = grind (arith, c.in-124.is, c.at.ensures.value) in
    block_left text c.args.depth c.args.least c.args.room in_room old place x
    (ap (λ t. begins_block (at t place)) (sym of.same) ∙ begins)
    (subst (λ t. LeavesBlock t c.args.least place) of.same
    (c.block_scalar.ensures.missed (of_allowed text old of) c.requires.near begins failed fed))

pub content-returns-in-91-clause-missed : goal.content-returns-in-91-clause-missed
content-returns-in-91-clause-missed t c = λ text in_room of x over token failed fed.
    let opened : opens (at text c.args.place) ≡ true = ap (λ t. opens (at t c.args.place)) (sym of.same)
    ∙ grind (arith, c.in-91.is, c.at.ensures.value) in
    c.brackets.ensures.missed text c.args.least in_room of x over opened failed fed

pub content-returns-in-34-clause-missed : goal.content-returns-in-34-clause-missed
content-returns-in-34-clause-missed t c = λ text in_room of x over token failed fed.
    let quoted : quotes (at text c.args.place) ≡ true = ap (λ t. quotes (at t c.args.place)) (sym of.same)
    ∙ grind (arith, c.in-34.is, c.at.ensures.value) in
    c.leaf.ensures.missed text in_room of x over quoted failed fed

pub content-returns-in_default-clause-missed : goal.content-returns-in_default-clause-missed
content-returns-in_default-clause-missed t c = λ text in_room of x over token failed fed.
    let old = c.args.self.now in
    let place = c.args.place in
    let b = c.at.result in
    let bar : b ≡ 124 → ⊥ = grind (arith, c.in_default) in
    let more : b ≡ 62 → ⊥ = grind (arith, c.in_default) in
    let square : b ≡ 91 → ⊥ = grind (arith, c.in_default) in
    let curly : b ≡ 123 → ⊥ = grind (arith, c.in_default) in
    let double : b ≡ 34 → ⊥ = grind (arith, c.in_default) in
    let single : b ≡ 39 → ⊥ = grind (arith, c.in_default) in
    let star : b ≡ 42 → ⊥ = grind (arith, c.in_default) in
    c.plain_leaf.ensures.missed text in_room of x over
    (ap (λ t. begins_other (at t place)) (sym of.same) ∙ ap begins_other (sym c.at.ensures.value)
    ∙ other_by b bar more square curly double single star) failed fed

-- plain leaf
pub plain_leaf-returns-then-colon_behind-clause-found : goal.plain_leaf-returns-then-colon_behind-clause-found
plain_leaf-returns-then-colon_behind-clause-found t c = λ text in_room of takes over b some.
    let old = c.args.self.now in
    let place = c.args.place in
    let e = c.plain_end-end.result in
    let end = c.plain_end-end.ensures in
    let h = of_allowed text old of in
    let parts = ap (λ t. parts_documents t place) of.same ∙ over_parts text place over in
    let begins = sym (c.begins_plain.ensures.same h parts) ∙ c.if-not-begins_plain.false in
    let begins' = ap (λ t. begins_plain t false place) (sym of.same) ∙ begins in
    let named = b (first_stays text place (begins_first text false place begins')) in
    let read = subst (λ t. plain_at t as_key place ≡ Some (e - place, slice_range t place e)) of.same
    (end.key h refl begins) in
    let line = plain_line text false place e (subst (λ t. PlainLine t false place e) of.same end.line) in
    let l = c.plain.ensures in
    c.keyed.ensures.found text c.args.least in_room of takes
    (λ other. plain_key text c.args.least c.args.room old c.plain.result place e named other l.3 l.0 l.1 l.2 end.forward
    read line) some

pub plain_leaf-returns-clause-found : goal.plain_leaf-returns-clause-found
plain_leaf-returns-clause-found t c = λ text in_room of takes over b some.
    let old = c.args.self.now in
    let new = c.plain-2.new.self in
    let place = c.args.place in
    let e = c.plain_end-end.result in
    let end = c.plain_end-end.ensures in
    let h = of_allowed text old of in
    let parts = ap (λ t. parts_documents t place) of.same ∙ over_parts text place over in
    let begins = sym (c.begins_plain.ensures.same h parts) ∙ c.if-not-begins_plain.false in
    let begins' = ap (λ t. begins_plain t false place) (sym of.same) ∙ begins in
    let named = b (first_stays text place (begins_first text false place begins')) in
    let a = c.plain-2.ensures.found h (record {
      begins = begins;
      goes = c.begins_plain.ensures.goes c.if-not-begins_plain.false;
      some = c.begins_plain.ensures.some c.if-not-begins_plain.false;
      line = end.line;
    }) some in
    let k = c.plain-2.result in
    let d = c.args.depth in
    leaf_reads text old new new d c.args.least c.args.room in_room place a.end k of named
    (plain_added old new c.args.least place k named.early a) (ap (λ t. ends_its_line t a.end) (sym of.same)
    ∙ a.behind.ends)
    (a.behind.there ∙ ap (λ t. next t a.end) of.same) refl refl a.behind.counted

pub plain_leaf-returns-then-not-begins_plain-clause-missed : goal.plain_leaf-returns-then-not-begins_plain-clause-missed
plain_leaf-returns-then-not-begins_plain-clause-missed t c = λ text in_room of x over byte failed fed.
    let old = c.args.self.now in
    let place = c.args.place in
    let parts = ap (λ t. parts_documents t place) of.same ∙ over_parts text place over in
    no_plain_left text c.args.depth c.args.least c.args.room in_room old place x byte
    (ap (λ t. begins_plain t false place) (sym of.same)
    ∙ (sym (c.begins_plain.ensures.same (of_allowed text old of) parts) ∙ c.if-not-begins_plain.true))

pub plain_leaf-returns-then-colon_behind-clause-missed : goal.plain_leaf-returns-then-colon_behind-clause-missed
plain_leaf-returns-then-colon_behind-clause-missed t c = λ text in_room of x over byte failed fed.
    let old = c.args.self.now in
    let place = c.args.place in
    let leaf = c.plain.result in
    let e = c.plain_end-end.result in
    let end = c.plain_end-end.ensures in
    let l = c.plain.ensures in
    let h = of_allowed text old of in
    let parts = ap (λ t. parts_documents t place) of.same ∙ over_parts text place over in
    let begins = sym (c.begins_plain.ensures.same h parts) ∙ c.if-not-begins_plain.false in
    let begins' = ap (λ t. begins_plain t false place) (sym of.same) ∙ begins in
    let read = subst (λ t. plain_at t as_key place ≡ Some (e - place, slice_range t place e)) of.same
    (end.key h refl begins) in
    let line = plain_line text false place e (subst (λ t. PlainLine t false place e) of.same end.line) in
    let whole = plain_whole text leaf place e l.3 l.0 l.1 l.2 end.forward read in
    let colon = colon_next text old e c.colon_behind.result of.same
    (c.colon_behind.ensures.found h c.if-colon_behind.true) in
    c.keyed.ensures.missed text c.args.least in_room of
    (λ other. content_key text old leaf place
    (x.columns other (first_stays text place (begins_first text false place begins'))) whole
    (subst (λ q. InLine text place q) (sym l.2) line))
    (keyed_leaf place x whole (subst (λ q. EndsKey text q (next text q)) (sym l.2) colon)) failed fed

pub plain_leaf-returns-clause-missed : goal.plain_leaf-returns-clause-missed
plain_leaf-returns-clause-missed t c = λ text in_room of x over byte failed fed.
    let old = c.args.self.now in
    let place = c.args.place in
    let e = c.plain_end-end.result in
    let end = c.plain_end-end.ensures in
    let h = of_allowed text old of in
    let parts = ap (λ t. parts_documents t place) of.same ∙ over_parts text place over in
    let begins = sym (c.begins_plain.ensures.same h parts) ∙ c.if-not-begins_plain.false in
    let read = subst (λ t. plain_at t as_key place ≡ Some (e - place, slice_range t place e)) of.same
    (end.key h refl begins) in
    let colon = subst (λ t. (not (breaks t e) && is_mark t 58 (next t e)) ≡ false) of.same
    (c.colon_behind.ensures.missed h (short_text old) c.if-colon_behind.false) in
    plain_left text c.args.depth c.args.least e c.args.room in_room old place x byte c.requires.begun end.forward read
    colon
    (subst (λ t. LeavesPlain t c.args.least place) of.same (c.plain-2.ensures.missed h (record {
      begins = begins;
      goes = c.begins_plain.ensures.goes c.if-not-begins_plain.false;
      some = c.begins_plain.ensures.some c.if-not-begins_plain.false;
      line = end.line;
    }) failed fed))

-- leaf
pub leaf-returns-in-Open-clause-found : goal.leaf-returns-in-Open-clause-found
leaf-returns-in-Open-clause-found t c = λ text in_room of takes quoted b some.
    let old = c.args.self.now in
    let place = c.args.place in
    let leaf = c.in-Some.leaf in
    let m = c.quoted_lines-place.new.self in
    let new = c.margin.new.self in
    let lines = c.quoted_lines-place.ensures in
    let margin = c.margin.ensures in
    let e = c.quoted_lines-place.result in
    let k = c.margin.result in
    let of_m = of_kept text old m of lines.reached.0 in
    let parts = ap (λ t. parts_documents t place) of.same ∙ quote_parts text place quoted in
    let found = c.in-Some.ensures.found (of_allowed text old of) parts in
    let byte = open_quote_by old.text.now false place leaf c.in-Open.quote found c.in-Open.is in
    let a = quoted_added old m c.args.least place e c.in-Open.quote b.early byte (lines.behind c.if-place.false)
    (lines.found (of_allowed text old of) c.if-place.false) in
    let n = margin.found (of_allowed text m of_m) some in
    let ends = margin.ended (of_allowed text m of_m) some in
    leaf_reads text old m new c.args.depth c.args.least c.args.room in_room place e k of b a
    (ap (λ t. ends_its_line t e) (sym of_m.same) ∙ ends) (next_of text m new e k of_m n) margin.still margin.names
    (column_later m new e k n margin.reached.0 ends (margin.reached.1.1 some).1.1)

pub leaf-returns-then-colon_behind-clause-found : goal.leaf-returns-then-colon_behind-clause-found
leaf-returns-then-colon_behind-clause-found t c = λ text in_room of takes quoted b some.
    let old = c.args.self.now in
    let place = c.args.place in
    let leaf = c.in-Some.leaf in
    let parts = ap (λ t. parts_documents t place) of.same ∙ quote_parts text place quoted in
    let found = subst (λ t. IsFound t false place leaf) of.same
    (c.in-Some.ensures.found (of_allowed text old of) parts) in
    let closed = not_open leaf.kind (λ q e. c.in_default-kind.not-Open q e) in
    let first = quote_by is_plain_first refl refl refl (at text place) quoted in
    let line = subst (λ t. InLine t place leaf.end) of.same (c.in-Some.ensures.line (of_allowed text old of)
    (ap (λ t. quotes (at t place)) of.same ∙ quoted) closed) in
    c.keyed.ensures.found text c.args.least in_room of takes
    (λ other. quoted_key text c.args.least c.args.room old leaf place b other
    (found_whole text as_key place leaf found first closed) line) some

pub leaf-returns-clause-found : goal.leaf-returns-clause-found
leaf-returns-clause-found t c = λ text in_room of takes quoted b some.
    let old = c.args.self.now in
    let place = c.args.place in
    let leaf = c.in-Some.leaf in
    let m = c.push_leaf-place.new.self in
    let new = c.margin-2.new.self in
    let push = c.push_leaf-place.ensures in
    let margin = c.margin-2.ensures in
    let e = leaf.end in
    let k = c.margin-2.result in
    let least = c.args.least in
    let of_m = of_kept text old m of push.kept.0 in
    let parts = ap (λ t. parts_documents t place) of.same ∙ quote_parts text place quoted in
    let found = subst (λ t. IsFound t false place leaf) of.same
    (c.in-Some.ensures.found (of_allowed text old of) parts) in
    let closed = not_open leaf.kind (λ q e. c.in_default-kind.not-Open q e) in
    let first = quote_by is_plain_first refl refl refl (at text place) quoted in
    let whole = found_whole text (by_columns least) place leaf found first closed in
    let a = push.found (by_columns least) place (subst (λ t. IsLeaf t (by_columns least) place leaf)
    (sym of.same) whole)
    b.early c.if-place-2.false in
    let n = margin.found (of_allowed text m of_m) some in
    let ends = margin.ended (of_allowed text m of_m) some in
    leaf_reads text old m new c.args.depth least c.args.room in_room place e k of b a
    (ap (λ t. ends_its_line t e) (sym of_m.same) ∙ ends) (next_of text m new e k of_m n) margin.still margin.names
    (column_later m new e k n margin.reached.0 ends (margin.reached.1.1 some).1.1)

pub leaf-returns-in_default-clause-missed : goal.leaf-returns-in_default-clause-missed
leaf-returns-in_default-clause-missed t c = λ text in_room of x over quoted failed fed.
    let old = c.args.self.now in
    let place = c.args.place in
    let least = c.args.least in
    let parts = ap (λ t. parts_documents t place) of.same ∙ quote_parts text place quoted in
    let shut = quote_shut (at text place) quoted in
    let none = λ (context : Context) (same : is_flow context ≡ false).
    none_leaf text context (names_of old) place (subst (λ t. leaf_at t context place ≡ None) of.same
    (c.find_leaf.ensures.missed (of_allowed text old of) parts
    (none_else c.find_leaf.result (λ leaf is. c.in_default.not-Some leaf is)) context same)) in
    unread_leaf text c.args.depth least c.args.room in_room old place x shut.0 shut.1 (none as_key refl)
    (none (by_columns least) refl)

pub leaf-returns-then-place-clause-missed : goal.leaf-returns-then-place-clause-missed
leaf-returns-then-place-clause-missed t c = λ text in_room of x over quoted failed fed.
    let old = c.args.self.now in
    let place = c.args.place in
    let least = c.args.least in
    let leaf = c.in-Some.leaf in
    let quote = c.in-Open.quote in
    let h = of_allowed text old of in
    let parts = ap (λ t. parts_documents t place) of.same ∙ quote_parts text place quoted in
    let byte = ap (λ t. at t place) (sym of.same)
    ∙ open_quote_by old.text.now false place leaf quote (c.in-Some.ensures.found h parts) c.in-Open.is in
    let shut = quote_shut (at text place) quoted in
    let rest = subst (λ t. ◌≡◌ {A = Rest} (quoted_from t quote (place + 1)) None) of.same
    (c.quoted_lines-place.ensures.missed h c.if-place.true fed) in
    let none = λ (context : Context).
    none_leaf text context (names_of old) place (quoted_none text context quote place byte rest) in
    unread_leaf text c.args.depth least c.args.room in_room old place x shut.0 shut.1 (none as_key)
    (none (by_columns least))

pub leaf-returns-in-Open-clause-missed : goal.leaf-returns-in-Open-clause-missed
leaf-returns-in-Open-clause-missed t c = λ text in_room of x over quoted failed fed.
    let old = c.args.self.now in
    let place = c.args.place in
    let least = c.args.least in
    let leaf = c.in-Some.leaf in
    let m = c.quoted_lines-place.new.self in
    let lines = c.quoted_lines-place.ensures in
    let e = c.quoted_lines-place.result in
    let h = of_allowed text old of in
    let of_m = of_kept text old m of lines.reached.0 in
    let parts = ap (λ t. parts_documents t place) of.same ∙ quote_parts text place quoted in
    let found = c.in-Some.ensures.found h parts in
    let byte = open_quote_by old.text.now false place leaf c.in-Open.quote found c.in-Open.is in
    let shut = quote_shut (at text place) quoted in
    let a = quoted_added old m least place e c.in-Open.quote x.early byte (lines.behind c.if-place.false)
    (lines.found h c.if-place.false) in
    let key = key_place text c.args.depth least c.args.room in_room old place x in
    leaf_in_line text c.args.depth least e c.args.room in_room old place a.leaf x shut.0 shut.1
    (open_no_key text c.args.depth old place leaf key c.requires.begun
    (subst (λ t. IsFound t false place leaf) of.same found)
    (λ quote b. subst (λ t. IsLeftOpen t quote (place + 1) leaf.stop) of.same
    (c.in-Some.ensures.opened quote (ap (λ t. at t place) of.same ∙ b) (ap is_open c.in-Open.is)))
    (ap is_open c.in-Open.is) shut.0)
    (ap (λ t. leaf_at t (by_columns least) place) (sym of.same) ∙ a.read)
    (ap (λ t. ends_its_line t e) (sym of_m.same) ∙ c.margin.ensures.missed (of_allowed text m of_m) failed)

pub leaf-returns-then-colon_behind-clause-missed : goal.leaf-returns-then-colon_behind-clause-missed
leaf-returns-then-colon_behind-clause-missed t c = λ text in_room of x over quoted failed fed.
    let old = c.args.self.now in
    let place = c.args.place in
    let leaf = c.in-Some.leaf in
    let h = of_allowed text old of in
    let parts = ap (λ t. parts_documents t place) of.same ∙ quote_parts text place quoted in
    let found = subst (λ t. IsFound t false place leaf) of.same (c.in-Some.ensures.found h parts) in
    let closed = not_open leaf.kind (λ q e. c.in_default-kind.not-Open q e) in
    let first = quote_by is_plain_first refl refl refl (at text place) quoted in
    let whole = found_whole text as_key place leaf found first closed in
    let line = subst (λ t. InLine t place leaf.end) of.same
    (c.in-Some.ensures.line h (ap (λ t. quotes (at t place)) of.same ∙ quoted) closed) in
    let colon = colon_next text old leaf.end c.colon_behind.result of.same
    (c.colon_behind.ensures.found h c.if-colon_behind.true) in
    c.keyed.ensures.missed text c.args.least in_room of
    (λ other. content_key text old leaf place (x.columns other (quote_stays text place quoted)) whole line)
    (keyed_leaf place x whole colon) failed fed

pub leaf-returns-then-place-2-clause-missed : goal.leaf-returns-then-place-2-clause-missed
leaf-returns-then-place-2-clause-missed t c = λ text in_room of x over quoted failed fed.
    let old = c.args.self.now in
    let place = c.args.place in
    let least = c.args.least in
    let leaf = c.in-Some.leaf in
    let h = of_allowed text old of in
    let parts = ap (λ t. parts_documents t place) of.same ∙ quote_parts text place quoted in
    let found = subst (λ t. IsFound t false place leaf) of.same (c.in-Some.ensures.found h parts) in
    let closed = not_open leaf.kind (λ q e. c.in_default-kind.not-Open q e) in
    let first = quote_by is_plain_first refl refl refl (at text place) quoted in
    let shut = quote_shut (at text place) quoted in
    let none = λ (context : Context) (l : IsLeaf text context place leaf).
    subst (λ t. HasNoLeaf t context (names_of old) place) of.same (c.push_leaf-place.ensures.missed context place
    (subst (λ t. IsLeaf t context place leaf) (sym of.same) l) c.if-place-2.true fed) in
    unread_leaf text c.args.depth least c.args.room in_room old place x shut.0 shut.1
    (none as_key (found_whole text as_key place leaf found first closed))
    (none (by_columns least) (found_whole text (by_columns least) place leaf found first closed))

pub leaf-returns-clause-missed : goal.leaf-returns-clause-missed
leaf-returns-clause-missed t c = λ text in_room of x over quoted failed fed.
    let old = c.args.self.now in
    let place = c.args.place in
    let leaf = c.in-Some.leaf in
    let m = c.push_leaf-place.new.self in
    let push = c.push_leaf-place.ensures in
    let e = leaf.end in
    let d = c.args.depth in
    let least = c.args.least in
    let h = of_allowed text old of in
    let part = c.in-Some.ensures.part in
    let of_m = of_kept text old m of push.kept.0 in
    let parts = ap (λ t. parts_documents t place) of.same ∙ quote_parts text place quoted in
    let found = subst (λ t. IsFound t false place leaf) of.same (c.in-Some.ensures.found h parts) in
    let closed = not_open leaf.kind (λ q e. c.in_default-kind.not-Open q e) in
    let first = quote_by is_plain_first refl refl refl (at text place) quoted in
    let shut = quote_shut (at text place) quoted in
    let a = push.found (by_columns least) place (subst (λ t. IsLeaf t (by_columns least) place leaf) (sym of.same)
    (found_whole text (by_columns least) place leaf found first closed)) x.early c.if-place-2.false in
    let colon = subst (λ t. (not (breaks t e) && is_mark t 58 (next t e)) ≡ false) of.same
    (c.colon_behind.ensures.missed h (short_text old) c.if-colon_behind.false) in
    let key = key_place text d least c.args.room in_room old place x in
    leaf_in_line text d least e c.args.room in_room old place a.leaf x shut.0 shut.1
    (found_no_key text d old place leaf key (found_whole text as_key place leaf found first closed)
    (omega (arith, part.1.0, part.1.1.0)) shut.0
    (ends_no_colon text old.start.index e (omega (arith, c.requires.begun, part.0, part.1.0, part.1.1.0)) colon))
    (ap (λ t. leaf_at t (by_columns least) place) (sym of.same) ∙ a.read)
    (ap (λ t. ends_its_line t e) (sym of_m.same) ∙ c.margin-2.ensures.missed (of_allowed text m of_m) failed)

-- keyed
pub keyed-returns-clause-found : goal.keyed-returns-clause-found
keyed-returns-clause-found t c = λ text least in_room of takes begins some.
    let old = c.args.self.now in
    let a = c.push_mapping_before-place.new.self in
    let b = c.push_leaf-place.new.self in
    let new = c.keyed_entries.new.self in
    let first = c.push_mapping_before-place.ensures in
    let push = c.push_leaf-place.ensures in
    let leaf = c.args.leaf in
    let i = old.start.index in
    let e = leaf.end in
    let k = c.colon_behind-colon.result in
    let j = c.keyed_entries.result in
    let d = c.args.depth in
    let may = c.begins_mapping.ensures in
    let other = may.room c.if-not-begins_mapping.false in
    let key = begins other in
    let h = of_allowed text old of in
    let near = may.near c.if-not-begins_mapping.false in
    let start = may.line c.if-not-begins_mapping.false in
    let part = c.requires.part in
    let there : k ≢ no_place =
    λ z. omega (arith, z, near, short_text old, c.requires.here.1, part.0, part.1.0, part.1.1.0) in
    let colon = subst (λ t. EndsKey t e k) of.same (c.colon_behind-colon.ensures.found h there) in
    let byte = ap (λ t. at t k) (sym of.same) ∙ (c.colon_behind-colon.ensures.mark there).0 in
    let low = (c.colon_behind-colon.ensures.within there).0 in
    let of_a = of_kept text old a of first.kept.0 in
    let of_b = of_kept text a b of_a push.kept.0 in
    let early = key_early text old leaf key.key in
    let ends = ends_by text i e k colon byte (omega (arith, part.0, part.1.0, part.1.1.0, low)) near
    (key_line text old leaf key.key) in
    let begun : a.start ≡ old.start = first.kept.1.1.0 in
    let x = key_reads text a b (d - 1) leaf of_a (key_kept text old a leaf begun first.names key.key)
    (subst (λ s. ends_key text s.index e ≡ true) (sym begun) ends) colon.in_line
    (λ context q l late. push.found context q l late c.if-place-2.false) (λ kind. push.plain kind c.if-place-2.false) in
    let x' = subst (λ s. KeyRead text a b (d - 1) s.index e) begun x in
    let y = c.keyed_entries.ensures.found text of_b x'.unnamed byte some in
    let wide = key.counted.column (subst (λ t. i < length t) (sym of.same) (over_inside text i key.here)) in
    let column_is : i - b.line_start ≡ column text i =
    ap (λ n. i - n) (push.kept.1.0 ∙ first.kept.1.0) ∙ (sym wide ∙ ap (λ t. column t i) of.same) in
    let y' = subst (λ q. Reads b new j (AreEntriesBehind text (d - 1) q k j)) column_is y in
    mapping_node text d least i i j in_room unnamed old new c.if-depth-eq0.false (takes other) key.here refl refl
    (keyed_reads text (d - 1) (column text i) i e k j old a b new
    (added_at text old a (mapping_start None None) old.start i of.same refl early (first.added c.if-place.false))
    (at_here text (column text i) i key.here refl) x' colon.there y')

pub keyed-returns-then-depth-eq0-clause-missed : goal.keyed-returns-then-depth-eq0-clause-missed
keyed-returns-then-depth-eq0-clause-missed t c = λ text least in_room of begins x failed fed.
    let part = c.requires.part in
    keyed_refused text c.args.depth least c.args.room in_room c.args.self.now c.args.leaf x
    (omega (arith, part.1.0, part.1.1.0)) (inl c.if-depth-eq0.true)

pub keyed-returns-then-not-begins_mapping-clause-missed : goal.keyed-returns-then-not-begins_mapping-clause-missed
keyed-returns-then-not-begins_mapping-clause-missed t c = λ text least in_room of begins x failed fed.
    let old = c.args.self.now in
    let leaf = c.args.leaf in
    let part = c.requires.part in
    let room = c.args.room in
    let d = c.args.depth in
    let colon = c.colon_behind-colon.ensures in
    let h = of_allowed text old of in
    keyed_refused text d least room in_room old leaf x (omega (arith, part.1.0, part.1.1.0))
    (inr (elim (is_value_room room) [
      | inl is ↦ inl is
      | inr other ↦
          inr (subst (λ k. old.start.index + 1024 < k)
          (keyed_there text d least room in_room old leaf c.colon_behind-colon.result x of.same (colon.found h)
          (colon.missed h (short_text old)))
          (c.begins_mapping.ensures.missed c.if-not-begins_mapping.true other
          (keyed_lined text d least room in_room old leaf x other)))
    ]))

pub keyed-returns-then-place-2-clause-missed : goal.keyed-returns-then-place-2-clause-missed
keyed-returns-then-place-2-clause-missed t c = λ text least in_room of begins x failed fed.
    let old = c.args.self.now in
    let a = c.push_mapping_before-place.new.self in
    let push = c.push_leaf-place.ensures in
    let first = c.push_mapping_before-place.ensures in
    let leaf = c.args.leaf in
    let of_a = of_kept text old a of first.kept.0 in
    let read = λ (context : Context) (place : ℕ) (l : IsLeaf text context place leaf).
    no_leaf_kept text context place old a of_a first.names (push.missed context place
    (subst (λ t. IsLeaf t context place leaf) (sym of_a.same) l) c.if-place-2.true fed) in
    keyed_unread text c.args.depth least c.args.room in_room old leaf x
    (λ kind. false≢true (sym fed ∙ push.starved kind c.if-place-2.true)) (read as_key) (read (by_columns least))

pub keyed-returns-clause-missed : goal.keyed-returns-clause-missed
keyed-returns-clause-missed t c = λ text least in_room of begins x failed fed.
    let old = c.args.self.now in
    let a = c.push_mapping_before-place.new.self in
    let b = c.push_leaf-place.new.self in
    let first = c.push_mapping_before-place.ensures in
    let push = c.push_leaf-place.ensures in
    let leaf = c.args.leaf in
    let i = old.start.index in
    let e = leaf.end in
    let k = c.colon_behind-colon.result in
    let d = c.args.depth in
    let may = c.begins_mapping.ensures in
    let key = begins (may.room c.if-not-begins_mapping.false) in
    let h = of_allowed text old of in
    let near = may.near c.if-not-begins_mapping.false in
    let part = c.requires.part in
    let there : k ≢ no_place =
    λ z. omega (arith, z, near, short_text old, c.requires.here.1, part.0, part.1.0, part.1.1.0) in
    let colon = subst (λ t. EndsKey t e k) of.same (c.colon_behind-colon.ensures.found h there) in
    let byte = ap (λ t. at t k) (sym of.same) ∙ (c.colon_behind-colon.ensures.mark there).0 in
    let low = (c.colon_behind-colon.ensures.within there).0 in
    let of_a = of_kept text old a of first.kept.0 in
    let of_b = of_kept text a b of_a push.kept.0 in
    let ends = ends_by text i e k colon byte (omega (arith, part.0, part.1.0, part.1.1.0, low)) near
    (key_line text old leaf key.key) in
    let begun : a.start ≡ old.start = first.kept.1.1.0 in
    let y = key_reads text a b (d - 1) leaf of_a (key_kept text old a leaf begun first.names key.key)
    (subst (λ s. ends_key text s.index e ≡ true) (sym begun) ends) colon.in_line
    (λ context q l late. push.found context q l late c.if-place-2.false) (λ kind. push.plain kind c.if-place-2.false) in
    let y' = subst (λ s. KeyRead text a b (d - 1) s.index e) begun y in
    let wide = key.counted.column (subst (λ t. i < length t) (sym of.same) (over_inside text i key.here)) in
    let column_is : i - b.line_start ≡ column text i =
    ap (λ n. i - n) (push.kept.1.0 ∙ first.kept.1.0) ∙ (sym wide ∙ ap (λ t. column t i) of.same) in
    let left = subst (λ q. LeavesEntriesBehind text (d - 1) q k) column_is
    (c.keyed_entries.ensures.missed text of_b y'.unnamed byte failed fed) in
    keyed_left text (d - 1) d least c.args.room in_room old leaf y'.node x (omega (arith, part.1.0, part.1.1.0))
    (less_one d c.if-depth-eq0.false) (at_here text (column text i) i key.here refl) y'.stands
    (subst (λ q. LeavesEntriesBehind text (d - 1) (column text i) q) colon.there left)

-- keyed entries
pub keyed_entries-returns-clause-found : goal.keyed_entries-returns-clause-found
keyed_entries-returns-clause-found t c = λ text of none byte some.
    let old = c.args.self.now in
    let b = c.part-place.new.self in
    let part = c.part-place.ensures in
    let k = c.args.colon in
    let one : c.args.column + 1 ≡ suc c.args.column = omega arith in
    let x = part.found text c.args.column of none one
    (amid_behind text k 58 byte refl)
    (λ h. absurd (h refl)) c.if-place.false in
    let y = c.entries.ensures.found text (of_kept text old b of part.reached.0) x.has.unnamed x.counted some in
    behind_first text c.args.depth c.args.column k c.part-place.result c.entries.result old b c.entries.new.self x y

pub keyed_entries-returns-then-place-clause-missed : goal.keyed_entries-returns-then-place-clause-missed
keyed_entries-returns-then-place-clause-missed t c = λ text of none byte failed fed n es.
    let column_of = c.args.column in
    let k = c.args.colon in
    let one : column_of + 1 ≡ suc column_of = omega arith in
    let left = c.part-place.ensures.missed text column_of of none one (amid_behind text k 58 byte refl)
    (λ h. absurd (h refl)) c.if-place.true fed in
    first_left text c.args.depth column_of (suc k) n es (behind_one text c.args.depth column_of k value left es)

pub keyed_entries-returns-clause-missed : goal.keyed_entries-returns-clause-missed
keyed_entries-returns-clause-missed t c = λ text of none byte failed fed n es.
    let old = c.args.self.now in
    let b = c.part-place.new.self in
    let part = c.part-place.ensures in
    let column_of = c.args.column in
    let d = c.args.depth in
    let k = c.args.colon in
    let j = c.part-place.result in
    let one : column_of + 1 ≡ suc column_of = omega arith in
    let x = part.found text column_of of none one (amid_behind text k 58 byte refl) (λ h. absurd (h refl))
    c.if-place.false in
    let w = x.has.what in
    let left = c.entries.ensures.missed text (of_kept text old b of part.reached.0) x.has.unnamed x.counted
    (behind_stop text w.stands) failed fed in
    rest_left text d column_of (suc k) j n w.node es (behind_suc text d column_of k j value w.node w.stands)
    (left n (and_node es w.node))

-- brackets
pub brackets-returns-then-colon-clause-found : goal.brackets-returns-then-colon-clause-found
brackets-returns-then-colon-clause-found t c = λ text least in_room of takes opened b some.
    let old = c.args.self.now in
    let m = c.flow-place.new.self in
    let new = c.margin.new.self in
    let flow = c.flow-place.ensures in
    let margin = c.margin.ensures in
    let e = c.flow-place.result in
    let k = c.margin.result in
    let of_m = of_kept text old m of flow.reached.0 in
    let n = margin.found (of_allowed text m of_m) some in
    let ends = margin.ended (of_allowed text m of_m) some in
    collection_reads text old m new c.args.depth least c.args.room in_room c.args.place e k b
    (flow.found text of b.early opened c.if-place.false) (ap (λ t. ends_its_line t e) (sym of_m.same) ∙ ends)
    (next_of text m new e k of_m n) margin.still margin.names
    (column_later m new e k n margin.reached.0 ends (margin.reached.1.1 some).1.1)

pub brackets-returns-clause-found : goal.brackets-returns-clause-found
brackets-returns-clause-found t c = λ text least in_room of takes opened b some.
    let old = c.args.self.now in
    let m = c.flow-place.new.self in
    let u = c.go_back.new.self in
    let v = c.begin.new.self in
    let new = c.mapping.new.self in
    let flow = c.flow-place.ensures in
    let back = c.go_back.ensures in
    let begin = c.begin.ensures in
    let i = old.start.index in
    let j = c.mapping.result in
    let d = c.args.depth in
    let x = flow.found text of b.early opened c.if-place.false in
    let other = c.begins_mapping.ensures.room c.if-not-begins_mapping.false in
    let h = b.columns other in
    let same = begin.text ∙ (back.text ∙ flow.reached.0) in
    let line = begin.line ∙ back.line in
    let of_v = of_kept text old v of same in
    let gone = unnamed_kept u v begin.names (unnamed_kept m u back.names x.unnamed) in
    let count : c.len-first.result ≡ length old.tape.entries.items =
    omega (arith, c.len-first.ensures, old.tape.entries.ok.0) in
    let tape = ap marked_on begin.still ∙ given_up old m u.tape flow.reached.1.0
    (back.events ∙ ap (λ n. take n (marked_on m.tape)) count) in
    let y = c.mapping.ensures.found text of_v begin.early h.here (counted_on old v i same line h.counted) some in
    reads_marked old v new j (IsBlockNode text d least in_room i j) tape
    (mapping_node text d least i v.start.index j in_room (names_of v) v new (c.mapping.ensures.nested some)
    (takes other)
    h.here begin.start gone y)

pub brackets-returns-then-not-begins_mapping-clause-reached :
    goal.brackets-returns-then-not-begins_mapping-clause-reached
brackets-returns-then-not-begins_mapping-clause-reached t c =
    let old = c.args.self.now in
    let m = c.flow-place.new.self in
    let u = c.go_back.new.self in
    let flow = c.flow-place.ensures.reached in
    let back = c.go_back.ensures in
    let count : c.len-first.result ≡ length old.tape.entries.items =
    omega (arith, c.len-first.ensures, old.tape.entries.ok.0) in
    (back.text ∙ flow.0, (gone_back old m u c.len-first.result flow.1.0 back.events count, λ some. absurd (some refl)))

pub brackets-returns-then-not-is_one_line-clause-reached : goal.brackets-returns-then-not-is_one_line-clause-reached
brackets-returns-then-not-is_one_line-clause-reached t c =
    let old = c.args.self.now in
    let m = c.flow-place.new.self in
    let u = c.go_back.new.self in
    let flow = c.flow-place.ensures.reached in
    let back = c.go_back.ensures in
    let count : c.len-first.result ≡ length old.tape.entries.items =
    omega (arith, c.len-first.ensures, old.tape.entries.ok.0) in
    (back.text ∙ flow.0, (gone_back old m u c.len-first.result flow.1.0 back.events count, λ some. absurd (some refl)))

pub brackets-returns-then-place-clause-missed : goal.brackets-returns-then-place-clause-missed
brackets-returns-then-place-clause-missed t c = λ text least in_room of x over opened failed fed.
    unread_brackets text c.args.depth least c.args.room in_room c.args.self.now c.args.place x opened
    (c.flow-place.ensures.missed text of opened c.if-place.true fed)

pub brackets-returns-then-colon-clause-missed : goal.brackets-returns-then-colon-clause-missed
brackets-returns-then-colon-clause-missed t c = λ text least in_room of x over opened failed fed.
    let old = c.args.self.now in
    let m = c.flow-place.new.self in
    let flow = c.flow-place.ensures in
    let e = c.flow-place.result in
    let of_m = of_kept text old m of flow.reached.0 in
    let h = of_allowed text m of_m in
    let low = flow.reached.1.1 c.if-place.false in
    let read = (flow.found text of x.early opened c.if-place.false).what in
    let colon = subst (λ t. (not (breaks t e) && is_mark t 58 (next t e)) ≡ false) of_m.same
    (c.colon_behind-colon.ensures.missed h (short_text m) c.if-colon.true) in
    brackets_in_line text c.args.depth least e c.args.room in_room old c.args.place read.node x opened read.stands
    (ends_no_colon text old.start.index e (omega (arith, c.requires.begun, low.0)) colon)
    (ap (λ t. ends_its_line t e) (sym of_m.same) ∙ c.margin.ensures.missed h failed)

pub brackets-returns-then-not-begins_mapping-clause-missed : goal.brackets-returns-then-not-begins_mapping-clause-missed
brackets-returns-then-not-begins_mapping-clause-missed t c = λ text least in_room of x over opened failed fed.
    let old = c.args.self.now in
    let m = c.flow-place.new.self in
    let flow = c.flow-place.ensures in
    let back = c.go_back.ensures in
    let e = c.flow-place.result in
    let k = c.colon_behind-colon.result in
    let of_m = of_kept text old m of flow.reached.0 in
    let read = (flow.found text of x.early opened c.if-place.false).what in
    let colon = ends_key_in text m e k of_m.same
    (c.colon_behind-colon.ensures.found (of_allowed text m of_m) c.if-colon.false) in
    let line = colon_goes_on text e k colon in
    elim (is_value_room c.args.room) [
      | inl is ↦
          brackets_refused text c.args.depth least e c.args.room in_room old c.args.place read.node x opened
          read.stands is line
      | inr other ↦
          brackets_in_line text c.args.depth least e c.args.room in_room old c.args.place read.node x opened read.stands
          (ends_far text old.start.index e k colon.there
          (c.begins_mapping.ensures.missed c.if-not-begins_mapping.true other
          (subst (λ n. n ≤ old.start.index) (sym back.line) (x.lined other))))
          line
    ]

pub brackets-returns-then-not-is_one_line-clause-missed : goal.brackets-returns-then-not-is_one_line-clause-missed
brackets-returns-then-not-is_one_line-clause-missed t c = λ text least in_room of x over opened failed fed.
    let old = c.args.self.now in
    let m = c.flow-place.new.self in
    let u = c.go_back.new.self in
    let flow = c.flow-place.ensures in
    let e = c.flow-place.result in
    let k = c.colon_behind-colon.result in
    let of_m = of_kept text old m of flow.reached.0 in
    let of_u = of_kept text m u of_m c.go_back.ensures.text in
    let read = (flow.found text of x.early opened c.if-place.false).what in
    let colon = ends_key_in text m e k of_m.same
    (c.colon_behind-colon.ensures.found (of_allowed text m of_m) c.if-colon.false) in
    brackets_in_line text c.args.depth least e c.args.room in_room old c.args.place read.node x opened read.stands
    (ends_lines text old.start.index e
    (ap (is_one_line text old.start.index) (sym colon.there)
    ∙ ap (λ t. is_one_line t old.start.index k) (sym of_u.same)
    ∙ c.is_one_line.ensures.lines c.if-not-is_one_line.true))
    (colon_goes_on text e k colon)

pub brackets-returns-clause-missed : goal.brackets-returns-clause-missed
brackets-returns-clause-missed t c = λ text least in_room of x over opened failed fed.
    let old = c.args.self.now in
    let m = c.flow-place.new.self in
    let v = c.begin.new.self in
    let flow = c.flow-place.ensures in
    let back = c.go_back.ensures in
    let begin = c.begin.ensures in
    let i = old.start.index in
    let e = c.flow-place.result in
    let k = c.colon_behind-colon.result in
    let of_m = of_kept text old m of flow.reached.0 in
    let same = begin.text ∙ (back.text ∙ flow.reached.0) in
    let of_v = of_kept text old v of same in
    let read = (flow.found text of x.early opened c.if-place.false).what in
    let other = c.begins_mapping.ensures.room c.if-not-begins_mapping.false in
    let columns = x.columns other (bracket_stays text c.args.place opened) in
    let colon = ends_key_in text m e k of_m.same
    (c.colon_behind-colon.ensures.found (of_allowed text m of_m) c.if-colon.false) in
    brackets_mapping text c.args.depth least e c.args.room in_room old c.args.place read.node x opened read.stands
    (colon_goes_on text e k colon)
    (c.mapping.ensures.missed text of_v begin.early columns.here (x.some other)
    (counted_on old v i same (begin.line ∙ back.line) columns.counted) failed fed)

-- named
pub named-returns-then-colon_behind-clause-found : goal.named-returns-then-colon_behind-clause-found
named-returns-then-colon_behind-clause-found t c = λ text of none early over counted some.
    let old = c.args.self.now in
    let p = c.properties-place.new.self in
    let new = c.keyed.new.self in
    let names = c.properties-place.ensures in
    let place = c.args.place in
    let e = c.properties-place.result in
    let j = c.keyed.result in
    let room = c.args.room in
    let of_p = of_kept text old p of names.kept.0 in
    let read = subst (λ t. names_at t false place ≡ Some (names_of p, e)) of.same
    (names.found (of_allowed text old of) none c.if-place.false) in
    let index : p.start.index ≡ place = ap (λ s. s.index) names.kept.1.1.0 ∙ c.requires.begun in
    let some' : place < e = omega (arith, (names.forward c.if-place.false).0, c.if-end-place.false) in
    let l = c.plain.ensures in
    let x = c.keyed.ensures.found text c.args.least (room_of room) of_p (room_takes room)
    (λ other. names_key_here text p c.plain.result place e index (ap (λ s. s.late) names.kept.1.1.0 ∙ early) read some'
    l.3 l.0 l.1 l.2 over (counted_on old p place names.kept.0 names.kept.1.0 (counted other))) some in
    reads_from old p new j (IsBlockNode text c.args.depth c.args.least (room_of room) place j) names.still
    (subst (λ i. Reads p new j (IsBlockNode text c.args.depth c.args.least (room_of room) i j)) index x)

pub named-returns-then-next-self-clause-found : goal.named-returns-then-next-self-clause-found
named-returns-then-next-self-clause-found t c = λ text of none early over counted some.
    let old = c.args.self.now in
    let p = c.properties-place.new.self in
    let g = c.gap-place.new.self in
    let new = c.content.new.self in
    let names = c.properties-place.ensures in
    let gap = c.gap-place.ensures in
    let place = c.args.place in
    let e = c.properties-place.result in
    let k = c.gap-place.result in
    let j = c.content.result in
    let room = c.args.room in
    let of_p = of_kept text old p of names.kept.0 in
    let of_g = of_kept text p g of_p gap.reached.0 in
    let read = subst (λ t. names_at t false place ≡ Some (names_of p, e)) of.same
    (names.found (of_allowed text old of) none c.if-place.false) in
    let n = gap.found (of_allowed text p of_p) c.if-place-2.false in
    let r = gap.reached.1.1 c.if-place-2.false in
    let index : g.start.index ≡ place = ap (λ s. s.index) (gap.start ∙ names.kept.1.1.0) ∙ c.requires.begun in
    let some' : place < e = omega (arith, (names.forward c.if-place.false).0, c.if-end-place.false) in
    let inside : k < length text = subst (λ t. k < length t) of_p.same
    (omega (arith, r.1.1, c.if-next-self.true, ap length gap.reached.0)) in
    let whole = line_of text p g e k of_p n c.if-self-line.true in
    let begun = n.start (ap (λ t. breaks t e) of_p.same ∙ whole) in
    let counted_g = λ (h : room ≢ rooms.Value). counted_on old g place (gap.reached.0 ∙ names.kept.0)
    (begun ∙ names.kept.1.0) (counted h) in
    let x = c.content.ensures.found text (room_of room) of_g (room_takes room)
    (behind_names_over text p g place e k (names_of p) of_p read some' n c.if-self-line.true r.0 inside)
    (λ w. named_some text c.args.least room old p g place e k of_p read n c.if-self-line.true inside index
    (ap (λ s. s.late) (gap.start ∙ names.kept.1.1.0) ∙ early) gap.names over counted_g) some in
    reads_from old g new j (IsBlockNode text c.args.depth c.args.least (room_of room) place j) (gap.still ∙ names.still)
    (subst (λ i. Reads g new j (IsBlockNode text c.args.depth c.args.least (room_of room) i j)) index x)

pub named-returns-then-is_within-clause-found : goal.named-returns-then-is_within-clause-found
named-returns-then-is_within-clause-found t c = λ text of none early over counted some.
    let old = c.args.self.now in
    let p = c.properties-place.new.self in
    let g = c.gap-place.new.self in
    let new = c.named_below.new.self in
    let names = c.properties-place.ensures in
    let gap = c.gap-place.ensures in
    let place = c.args.place in
    let least = c.args.least in
    let e = c.properties-place.result in
    let k = c.gap-place.result in
    let j = c.named_below.result in
    let room = c.args.room in
    let of_p = of_kept text old p of names.kept.0 in
    let of_g = of_kept text p g of_p gap.reached.0 in
    let read = subst (λ t. names_at t false place ≡ Some (names_of p, e)) of.same
    (names.found (of_allowed text old of) none c.if-place.false) in
    let n = gap.found (of_allowed text p of_p) c.if-place-2.false in
    let r = gap.reached.1.1 c.if-place-2.false in
    let there = next_of text p g e k of_p n in
    let index : g.start.index ≡ place = ap (λ s. s.index) (gap.start ∙ names.kept.1.1.0) ∙ c.requires.begun in
    let ends : ends_its_line text e ≡ true = elim c.else-self-line.branch [
      | named-else-self-line-via-then-self-line+else-next-self w ↦
          over_ends text p g e k of_p n (omega (arith, w.if-next-self.false, ap length of_g.same))
      | named-else-self-line-via-else-self-line w ↦ broken_ends text p g e k of_p n w.if-self-line.false
    ] in
    let counted_g = column_later p g e k n gap.reached.0 (ap (λ t. ends_its_line t e) of_p.same ∙ ends) r.1.1 in
    let within : is_within text least k ≡ true = test_here
    (λ t. is_within t least k) text g c.is_within.result of_g.same
    (c.is_within.ensures.same (of_allowed text g of_g) counted_g) c.if-is_within.true in
    let x = c.named_below.ensures.found text (room_of room) of_g (record {
      end = e;
      names = ap (names_at text false) index ∙ read
          ∙ ap (λ q. let r : Names = record { anchor = q.anchor; tag = q.tag } in Some (r, e)) (sym gap.names);
      ends = ends;
      within = subst (λ q. is_within text least q ≡ true) there within;
      there = there;
      early = ap (λ s. s.late) (gap.start ∙ names.kept.1.1.0) ∙ early;
      counted = counted_g;
    }) some in
    reads_from old g new j (IsBlockNode text c.args.depth least (room_of room) place j) (gap.still ∙ names.still)
    (subst (λ i. Reads g new j (IsBlockNode text c.args.depth least (room_of room) i j)) index x)

pub named-returns-then-is_own_sequence-clause-found : goal.named-returns-then-is_own_sequence-clause-found
named-returns-then-is_own_sequence-clause-found t c = λ text of none early over counted some.
    let old = c.args.self.now in
    let p = c.properties-place.new.self in
    let g = c.gap-place.new.self in
    let new = c.sequence.new.self in
    let names = c.properties-place.ensures in
    let gap = c.gap-place.ensures in
    let place = c.args.place in
    let least = c.args.least in
    let e = c.properties-place.result in
    let k = c.gap-place.result in
    let j = c.sequence.result in
    let d = c.args.depth in
    let room = room_of c.args.room in
    let of_p = of_kept text old p of names.kept.0 in
    let of_g = of_kept text p g of_p gap.reached.0 in
    let read = subst (λ t. names_at t false place ≡ Some (names_of p, e)) of.same
    (names.found (of_allowed text old of) none c.if-place.false) in
    let n = gap.found (of_allowed text p of_p) c.if-place-2.false in
    let r = gap.reached.1.1 c.if-place-2.false in
    let index : g.start.index ≡ place = ap (λ s. s.index) (gap.start ∙ names.kept.1.1.0) ∙ c.requires.begun in
    let ends : ends_its_line text e ≡ true = elim c.else-self-line.branch [
      | named-else-self-line-via-then-self-line+else-next-self w ↦
          over_ends text p g e k of_p n (omega (arith, w.if-next-self.false, ap length of_g.same))
      | named-else-self-line-via-else-self-line w ↦ broken_ends text p g e k of_p n w.if-self-line.false
    ] in
    let counted_g = column_later p g e k n gap.reached.0 (ap (λ t. ends_its_line t e) of_p.same ∙ ends) r.1.1 in
    let own : is_own text room least k ≡ true = test_here (λ t. is_own t room least k) text g c.is_own_sequence.result
    of_g.same (c.is_own_sequence.ensures.same (of_allowed text g of_g) counted_g) c.if-is_own_sequence.true in
    let item = own_mark text room least k own in
    let x = c.sequence.ensures.found text of_g (ap (λ s. s.late) (gap.start ∙ names.kept.1.1.0) ∙ early) item counted_g
    some in
    let x' = subst (λ i. Reads g new j (IsSequence text (d - 1) (column text k) i (names_of g) k j)) index x in
    reads_from old g new j (IsBlockNode text d least room place j) (gap.still ∙ names.still)
    (named_sequence_node text d least place e k j room (names_of g) g new (c.sequence.ensures.nested some)
    (read ∙ ap (λ q. let r : Names = record { anchor = q.anchor; tag = q.tag } in Some (r, e)) (sym gap.names)) ends
    (next_of text p g e k of_p n) (or_right (is_within text least k) _ own) item x')

pub named-returns-clause-found : goal.named-returns-clause-found
named-returns-clause-found t c = λ text of none early over counted some.
    let old = c.args.self.now in
    let p = c.properties-place.new.self in
    let g = c.gap-place.new.self in
    let new = c.push_nothing.new.self in
    let names = c.properties-place.ensures in
    let gap = c.gap-place.ensures in
    let push = c.push_nothing.ensures in
    let place = c.args.place in
    let least = c.args.least in
    let e = c.properties-place.result in
    let k = c.gap-place.result in
    let d = c.args.depth in
    let room = room_of c.args.room in
    let of_p = of_kept text old p of names.kept.0 in
    let of_g = of_kept text p g of_p gap.reached.0 in
    let read = subst (λ t. names_at t false place ≡ Some (names_of p, e)) of.same
    (names.found (of_allowed text old of) none c.if-place.false) in
    let n = gap.found (of_allowed text p of_p) c.if-place-2.false in
    let r = gap.reached.1.1 c.if-place-2.false in
    let index : g.start.index ≡ place = ap (λ s. s.index) (gap.start ∙ names.kept.1.1.0) ∙ c.requires.begun in
    let some' : place < e = omega (arith, (names.forward c.if-place.false).0, c.if-end-place.false) in
    let ends : ends_its_line text e ≡ true = elim c.else-self-line.branch [
      | named-else-self-line-via-then-self-line+else-next-self w ↦
          over_ends text p g e k of_p n (omega (arith, w.if-next-self.false, ap length of_g.same))
      | named-else-self-line-via-else-self-line w ↦ broken_ends text p g e k of_p n w.if-self-line.false
    ] in
    let counted_g = column_later p g e k n gap.reached.0 (ap (λ t. ends_its_line t e) of_p.same ∙ ends) r.1.1 in
    let within : is_within text least k ≡ false = test_here
    (λ t. is_within t least k) text g c.is_within.result of_g.same
    (c.is_within.ensures.same (of_allowed text g of_g) counted_g) c.if-is_within.false in
    let own : is_own text room least k ≡ false = test_here (λ t. is_own t room least k) text g c.is_own_sequence.result
    of_g.same (c.is_own_sequence.ensures.same (of_allowed text g of_g) counted_g) c.if-is_own_sequence.false in
    let a = push.added some in
    subst (λ q. Reads old new q (IsBlockNode text d least room place q)) (sym (push.there some))
    (names_node text old g new d least place e k room of_g (ap (λ s. s.late) (gap.start ∙ names.kept.1.1.0)
    ∙ early) index
    (read ∙ ap (λ q. let r : Names = record { anchor = q.anchor; tag = q.tag } in Some (r, e))
    (sym gap.names)) some' ends
    (next_of text p g e k of_p n) within own (ap marked_on (gap.still ∙ names.still)) a
    (counted_on g new k push.kept.0 push.kept.1.0 counted_g))

pub named-returns-then-place-clause-missed : goal.named-returns-then-place-clause-missed
named-returns-then-place-clause-missed t c = λ text of none early over byte counted failed fed.
    let old = c.args.self.now in
    let place = c.args.place in
    nameless_left text c.args.depth c.args.least (room_of c.args.room) place
    (ap (λ t. names_at t false place) (sym of.same)
    ∙ c.properties-place.ensures.missed (of_allowed text old of) none c.if-place.true fed)

pub named-returns-then-end-place-clause-missed : goal.named-returns-then-end-place-clause-missed
named-returns-then-end-place-clause-missed t c = λ text of none early over byte counted failed fed.
    let old = c.args.self.now in
    let p = c.properties-place.new.self in
    let place = c.args.place in
    let e = c.properties-place.result in
    let read = ap (λ t. names_at t false place) (sym of.same)
    ∙ c.properties-place.ensures.found (of_allowed text old of) none c.if-place.false in
    let some = names_some text false place (names_of p, e) byte read in
    absurd (omega (arith, some, c.if-end-place.true))

pub named-returns-then-colon_behind-clause-missed : goal.named-returns-then-colon_behind-clause-missed
named-returns-then-colon_behind-clause-missed t c = λ text of none early over byte counted failed fed.
    let old = c.args.self.now in
    let p = c.properties-place.new.self in
    let names = c.properties-place.ensures in
    let place = c.args.place in
    let least = c.args.least in
    let e = c.properties-place.result in
    let room = c.args.room in
    let d = c.args.depth in
    let of_p = of_kept text old p of names.kept.0 in
    let read = ap (λ t. names_at t false place) (sym of.same)
    ∙ names.found (of_allowed text old of) none c.if-place.false in
    let index : p.start.index ≡ place = ap (λ s. s.index) names.kept.1.1.0 ∙ c.requires.begun in
    let late = ap (λ s. s.late) names.kept.1.1.0 ∙ early in
    let some : place < e = omega (arith, (names.forward c.if-place.false).0, c.if-end-place.false) in
    let l = c.plain.ensures in
    let ends = ends_key_in text p e c.colon_behind.result of_p.same
    (c.colon_behind.ensures.found (of_allowed text p of_p) c.if-colon_behind.true) in
    let x = c.keyed.ensures.missed text least (room_of room) of_p
    (λ other. names_key_here text p c.plain.result place e index late read some l.3 l.0 l.1 l.2 over
    (counted_on old p place names.kept.0 names.kept.1.0 (counted other)))
    (names_keyed text d least room p c.plain.result place e c.colon_behind.result index late read some l.3 l.0 l.1 l.2
    byte ends (omega (arith, names.kept.1.0, c.requires.here.0))) failed fed in
    subst (λ i. LeavesBlockNode text d least (room_of room) i) index x

pub named-returns-then-place-2-clause-missed : goal.named-returns-then-place-2-clause-missed
named-returns-then-place-2-clause-missed t c = λ text of none early over byte counted failed fed.
    let old = c.args.self.now in
    let p = c.properties-place.new.self in
    let names = c.properties-place.ensures in
    let place = c.args.place in
    let e = c.properties-place.result in
    let of_p = of_kept text old p of names.kept.0 in
    let read = ap (λ t. names_at t false place) (sym of.same)
    ∙ names.found (of_allowed text old of) none c.if-place.false in
    sharp_left text c.args.depth c.args.least (room_of c.args.room) place e (names_of p) read byte
    (subst (λ t. HasNoToken t e) of_p.same (c.gap-place.ensures.missed (of_allowed text p of_p) c.if-place-2.true))

pub named-returns-then-next-self-clause-missed : goal.named-returns-then-next-self-clause-missed
named-returns-then-next-self-clause-missed t c = λ text of none early over byte counted failed fed.
    let old = c.args.self.now in
    let p = c.properties-place.new.self in
    let g = c.gap-place.new.self in
    let names = c.properties-place.ensures in
    let gap = c.gap-place.ensures in
    let place = c.args.place in
    let least = c.args.least in
    let e = c.properties-place.result in
    let k = c.gap-place.result in
    let room = c.args.room in
    let d = c.args.depth in
    let of_p = of_kept text old p of names.kept.0 in
    let of_g = of_kept text p g of_p gap.reached.0 in
    let read = ap (λ t. names_at t false place) (sym of.same)
    ∙ names.found (of_allowed text old of) none c.if-place.false in
    let n = gap.found (of_allowed text p of_p) c.if-place-2.false in
    let r = gap.reached.1.1 c.if-place-2.false in
    let index : g.start.index ≡ place = ap (λ s. s.index) (gap.start ∙ names.kept.1.1.0) ∙ c.requires.begun in
    let some : place < e = omega (arith, (names.forward c.if-place.false).0, c.if-end-place.false) in
    let inside : k < length text = subst (λ t. k < length t) of_p.same
    (omega (arith, r.1.1, c.if-next-self.true, ap length gap.reached.0)) in
    let whole = line_of text p g e k of_p n c.if-self-line.true in
    let begun = n.start (ap (λ t. breaks t e) of_p.same ∙ whole) ∙ names.kept.1.0 in
    let loose = subst (λ t. (not (breaks t e) && is_mark t 58 (next t e)) ≡ false) of_p.same
    (c.colon_behind.ensures.missed (of_allowed text p of_p) (short_text p) c.if-colon_behind.false) in
    let x = c.content.ensures.missed text (room_of room) of_g
    (line_content text d least room old p g place e k of_p read n c.if-self-line.true inside index
    (ap (λ s. s.late) (gap.start ∙ names.kept.1.1.0) ∙ early) gap.names over
    (λ other. counted_on old g place (gap.reached.0 ∙ names.kept.0) begun (counted other)) byte
    (omega (arith, begun, c.requires.here.0)) loose)
    (behind_names_over text p g place e k (names_of p) of_p read some n c.if-self-line.true r.0 inside)
    (subst (λ t. begins_token t k ≡ true) of_p.same (gap.between c.if-place-2.false).next) failed fed in
    subst (λ i. LeavesBlockNode text d least (room_of room) i) index x

pub named-returns-then-is_within-clause-missed : goal.named-returns-then-is_within-clause-missed
named-returns-then-is_within-clause-missed t c = λ text of none early over byte counted failed fed.
    let old = c.args.self.now in
    let p = c.properties-place.new.self in
    let g = c.gap-place.new.self in
    let names = c.properties-place.ensures in
    let gap = c.gap-place.ensures in
    let place = c.args.place in
    let least = c.args.least in
    let e = c.properties-place.result in
    let k = c.gap-place.result in
    let room = room_of c.args.room in
    let d = c.args.depth in
    let of_p = of_kept text old p of names.kept.0 in
    let of_g = of_kept text p g of_p gap.reached.0 in
    let read = ap (λ t. names_at t false place) (sym of.same)
    ∙ names.found (of_allowed text old of) none c.if-place.false in
    let n = gap.found (of_allowed text p of_p) c.if-place-2.false in
    let r = gap.reached.1.1 c.if-place-2.false in
    let there = next_of text p g e k of_p n in
    let index : g.start.index ≡ place = ap (λ s. s.index) (gap.start ∙ names.kept.1.1.0) ∙ c.requires.begun in
    let ends : ends_its_line text e ≡ true = elim c.else-self-line.branch [
      | named-else-self-line-via-then-self-line+else-next-self w ↦
          over_ends text p g e k of_p n (omega (arith, w.if-next-self.false, ap length of_g.same))
      | named-else-self-line-via-else-self-line w ↦ broken_ends text p g e k of_p n w.if-self-line.false
    ] in
    let counted_g = column_later p g e k n gap.reached.0 (ap (λ t. ends_its_line t e) of_p.same ∙ ends) r.1.1 in
    let within : is_within text least k ≡ true = test_here
    (λ t. is_within t least k) text g c.is_within.result of_g.same
    (c.is_within.ensures.same (of_allowed text g of_g) counted_g) c.if-is_within.true in
    let x = c.named_below.ensures.missed text room of_g (record {
      end = e;
      names = ap (names_at text false) index ∙ read
          ∙ ap (λ q. let r : Names = record { anchor = q.anchor; tag = q.tag } in Some (r, e)) (sym gap.names);
      ends = ends;
      within = subst (λ q. is_within text least q ≡ true) there within;
      there = there;
      early = ap (λ s. s.late) (gap.start ∙ names.kept.1.1.0) ∙ early;
      counted = counted_g;
    }) (subst (λ t. begins_token t k ≡ true) of_p.same (gap.between c.if-place-2.false).next) failed fed in
    subst (λ i. LeavesBlockNode text d least room i) index x

pub named-returns-then-is_own_sequence-clause-missed : goal.named-returns-then-is_own_sequence-clause-missed
named-returns-then-is_own_sequence-clause-missed t c = λ text of none early over byte counted failed fed.
    let old = c.args.self.now in
    let p = c.properties-place.new.self in
    let g = c.gap-place.new.self in
    let names = c.properties-place.ensures in
    let gap = c.gap-place.ensures in
    let place = c.args.place in
    let least = c.args.least in
    let e = c.properties-place.result in
    let k = c.gap-place.result in
    let d = c.args.depth in
    let room = room_of c.args.room in
    let of_p = of_kept text old p of names.kept.0 in
    let of_g = of_kept text p g of_p gap.reached.0 in
    let read = ap (λ t. names_at t false place) (sym of.same)
    ∙ names.found (of_allowed text old of) none c.if-place.false in
    let n = gap.found (of_allowed text p of_p) c.if-place-2.false in
    let r = gap.reached.1.1 c.if-place-2.false in
    let ends : ends_its_line text e ≡ true = elim c.else-self-line.branch [
      | named-else-self-line-via-then-self-line+else-next-self w ↦
          over_ends text p g e k of_p n (omega (arith, w.if-next-self.false, ap length of_g.same))
      | named-else-self-line-via-else-self-line w ↦ broken_ends text p g e k of_p n w.if-self-line.false
    ] in
    let counted_g = column_later p g e k n gap.reached.0 (ap (λ t. ends_its_line t e) of_p.same ∙ ends) r.1.1 in
    let own : is_own text room least k ≡ true = test_here (λ t. is_own t room least k) text g c.is_own_sequence.result
    of_g.same (c.is_own_sequence.ensures.same (of_allowed text g of_g) counted_g) c.if-is_own_sequence.true in
    let item = own_mark text room least k own in
    later_sequence_left text d least room place e k (names_of p) read ends (next_of text p g e k of_p n)
    (or_right (is_within text least k) _ own) item
    (c.sequence.ensures.missed text of_g (ap (λ s. s.late) (gap.start ∙ names.kept.1.1.0) ∙ early) item counted_g failed
    fed)

pub named-returns-clause-missed : goal.named-returns-clause-missed
named-returns-clause-missed t c = λ text of none early over byte counted failed fed.
    absurd (false≢true (sym fed ∙ c.push_nothing.ensures.starved failed c.if-place-2.false))

-- named below
pub named_below-returns-then-is_mark-clause-found : goal.named_below-returns-then-is_mark-clause-found
named_below-returns-then-is_mark-clause-found t c = λ text in_room of b some.
    let old = c.args.self.now in
    let k = c.args.place in
    let item : is_mark text 45 k ≡ true = test_here (λ t. is_mark t 45 k) text old c.is_mark.result of.same
    (c.is_mark.ensures.same (of_allowed text old of) (omega arith)) c.if-is_mark.true in
    let within = subst (λ q. is_within text c.args.least q ≡ true) (sym b.there) b.within in
    named_sequence_node text c.args.depth c.args.least old.start.index b.end k c.sequence.result in_room
    (names_of old) old
    c.sequence.new.self (c.sequence.ensures.nested some) b.names b.ends b.there
    (or_left (is_within text c.args.least k) _ within) item
    (c.sequence.ensures.found text of b.early item b.counted some)

pub named_below-returns-then-begins_entry-clause-found : goal.named_below-returns-then-begins_entry-clause-found
named_below-returns-then-begins_entry-clause-found t c = λ text in_room of b some.
    let old = c.args.self.now in
    let k = c.args.place in
    let within = subst (λ q. is_within text c.args.least q ≡ true) (sym b.there) b.within in
    named_mapping_node text c.args.depth c.args.least old.start.index b.end k c.mapping.result in_room
    (names_of old) old
    c.mapping.new.self (c.mapping.ensures.nested some) b.names b.ends b.there within
    (c.mapping.ensures.found text of b.early (below_over text c.args.least old k b) b.counted some)

pub named_below-returns-then-matches-clause-found : goal.named_below-returns-then-matches-clause-found
named_below-returns-then-matches-clause-found t c = λ text in_room of b some.
    let opened : opens (at text c.args.place) ≡ true = ap (λ t. opens (at t c.args.place)) (sym of.same)
    ∙ grind (arith, c.if-matches.true, c.at.ensures.value) in
    c.brackets_below.ensures.found text c.args.least in_room of opened b some

pub named_below-returns-clause-found : goal.named_below-returns-clause-found
named_below-returns-clause-found t c = λ text in_room of b some.
    let old = c.args.self.now in
    let k = c.args.place in
    c.content.ensures.found text in_room of (λ other. absurd (other refl)) (below_over text c.args.least old k b)
    (λ w. below_named text c.args.least old k b) some

pub named_below-returns-then-is_mark-clause-missed : goal.named_below-returns-then-is_mark-clause-missed
named_below-returns-then-is_mark-clause-missed t c = λ text in_room of b token failed fed.
    let old = c.args.self.now in
    let k = c.args.place in
    let item : is_mark text 45 k ≡ true = test_here (λ t. is_mark t 45 k) text old c.is_mark.result of.same
    (c.is_mark.ensures.same (of_allowed text old of) (omega arith)) c.if-is_mark.true in
    below_sequence_left text c.args.depth c.args.least k in_room old b item
    (c.sequence.ensures.missed text of b.early item b.counted failed fed)

pub named_below-returns-then-begins_entry-clause-missed : goal.named_below-returns-then-begins_entry-clause-missed
named_below-returns-then-begins_entry-clause-missed t c = λ text in_room of b token failed fed.
    let old = c.args.self.now in
    let k = c.args.place in
    let d = c.args.depth in
    let over = below_over text c.args.least old k b in
    let dash : is_mark text 45 k ≡ false = test_here (λ t. is_mark t 45 k) text old c.is_mark.result of.same
    (c.is_mark.ensures.same (of_allowed text old of) (omega arith)) c.if-is_mark.false in
    below_mapping_left text d c.args.least k in_room old b dash
    (λ entry. c.mapping.ensures.missed text of b.early over (token_no_space text k token) b.counted failed fed)
    (c.begins_entry.ensures.content text d of over c.if-begins_entry.true)

pub named_below-returns-then-matches-clause-missed : goal.named_below-returns-then-matches-clause-missed
named_below-returns-then-matches-clause-missed t c = λ text in_room of b token failed fed.
    let opened : opens (at text c.args.place) ≡ true = ap (λ t. opens (at t c.args.place)) (sym of.same)
    ∙ grind (arith, c.if-matches.true, c.at.ensures.value) in
    c.brackets_below.ensures.missed text c.args.least in_room of opened b failed fed

pub named_below-returns-clause-missed : goal.named_below-returns-clause-missed
named_below-returns-clause-missed t c = λ text in_room of b token failed fed.
    let old = c.args.self.now in
    let k = c.args.place in
    let d = c.args.depth in
    let over = below_over text c.args.least old k b in
    let dash : is_mark text 45 k ≡ false = test_here (λ t. is_mark t 45 k) text old c.is_mark.result of.same
    (c.is_mark.ensures.same (of_allowed text old of) (omega arith)) c.if-is_mark.false in
    let square : c.at.result ≡ 91 → ⊥ = grind (arith, c.if-matches.false) in
    let curly : c.at.result ≡ 123 → ⊥ = grind (arith, c.if-matches.false) in
    let shut = ap (λ t. opens (at t k)) (sym of.same)
    ∙ (ap opens (sym c.at.ensures.value) ∙ no_bracket c.at.result square curly) in
    let entry = c.begins_entry.ensures.entry text d of over token shut c.if-begins_entry.false in
    c.content.ensures.missed text in_room of (below_content text d c.args.least k in_room old b dash entry) over token
    failed fed

-- brackets below
pub brackets_below-returns-then-colon-clause-found : goal.brackets_below-returns-then-colon-clause-found
brackets_below-returns-then-colon-clause-found t c = λ text least in_room of opened b some.
    let old = c.args.self.now in
    let m = c.flow-place.new.self in
    let new = c.margin.new.self in
    let flow = c.flow-place.ensures in
    let margin = c.margin.ensures in
    let e = c.flow-place.result in
    let k = c.margin.result in
    let of_m = of_kept text old m of flow.reached.0 in
    let n = margin.found (of_allowed text m of_m) some in
    let ends = margin.ended (of_allowed text m of_m) some in
    collection_reads text old m new c.args.depth least rooms.Value in_room c.args.place e k
    (below_named text least old c.args.place b) (flow.found text of b.early opened c.if-place.false)
    (ap (λ t. ends_its_line t e) (sym of_m.same) ∙ ends) (next_of text m new e k of_m n) margin.still margin.names
    (column_later m new e k n margin.reached.0 ends (margin.reached.1.1 some).1.1)

pub brackets_below-returns-clause-found : goal.brackets_below-returns-clause-found
brackets_below-returns-clause-found t c = λ text least in_room of opened b some.
    let old = c.args.self.now in
    let m = c.flow-place.new.self in
    let u = c.go_back.new.self in
    let v = c.begin_above.new.self in
    let p = c.properties-place.new.self in
    let new = c.mapping.new.self in
    let flow = c.flow-place.ensures in
    let back = c.go_back.ensures in
    let begin = c.begin_above.ensures in
    let names = c.properties-place.ensures in
    let i = old.start.index in
    let k = c.args.place in
    let j = c.mapping.result in
    let d = c.args.depth in
    let e = c.properties-place.result in
    let x = flow.found text of b.early opened c.if-place.false in
    let same = begin.text ∙ (back.text ∙ flow.reached.0) in
    let line = begin.line ∙ back.line in
    let of_v = of_kept text old v of same in
    let of_p = of_kept text v p of_v names.kept.0 in
    let gone = unnamed_kept u v begin.names (unnamed_kept m u back.names x.unnamed) in
    let count : c.len-first.result ≡ length old.tape.entries.items =
    omega (arith, c.len-first.ensures, old.tape.entries.ok.0) in
    let tape = ap marked_on (names.still ∙ begin.still) ∙ given_up old m u.tape flow.reached.1.0
    (back.events ∙ ap (λ n. take n (marked_on m.tape)) count) in
    let read = subst (λ t. names_at t false i ≡ Some (names_of p, e)) of_v.same
    (names.found (of_allowed text v of_v) gone c.if-place-2.false) in
    let equal = pair_is (names_of p) (names_of old) e b.end (sym read ∙ b.names) in
    let index : p.start.index ≡ i = ap (λ s. s.index) names.kept.1.1.0 ∙ begin.start in
    let y = c.mapping.ensures.found text of_p (ap (λ s. s.late) names.kept.1.1.0 ∙ begin.early)
    (below_over text least old k b)
    (counted_on old p k (names.kept.0 ∙ same) (names.kept.1.0 ∙ line) b.counted) some in
    let y' = subst (λ q. Reads p new j (IsMapping text (d - 1) (column text k) q (names_of p) k j)) index y in
    let within = subst (λ q. is_within text least q ≡ true) (sym b.there) b.within in
    reads_marked old p new j (IsBlockNode text d least in_room i j) tape
    (named_mapping_node text d least i e k j in_room (names_of p) p new (c.mapping.ensures.nested some) read
    (ap (ends_its_line text) equal.1 ∙ b.ends) (b.there ∙ ap (next text) (sym equal.1)) within y')

pub brackets_below-returns-then-not-begins_mapping-clause-reached : goal.brackets_below-returns-then-not-begins_mapping-clause-reached
brackets_below-returns-then-not-begins_mapping-clause-reached t c =
    let old = c.args.self.now in
    let m = c.flow-place.new.self in
    let u = c.go_back.new.self in
    let flow = c.flow-place.ensures in
    let back = c.go_back.ensures in
    let count : c.len-first.result ≡ length old.tape.entries.items =
    omega (arith, c.len-first.ensures, old.tape.entries.ok.0) in
    let tape = given_up old m u.tape flow.reached.1.0 (back.events ∙ ap (λ n. take n (marked_on m.tape)) count) in
    (back.text ∙ flow.reached.0, (grows_same old u tape, λ some. absurd (some refl)))

pub brackets_below-returns-then-place-clause-missed : goal.brackets_below-returns-then-place-clause-missed
brackets_below-returns-then-place-clause-missed t c = λ text least in_room of opened b failed fed.
    let old = c.args.self.now in
    let k = c.args.place in
    let d = c.args.depth in
    let none = c.flow-place.ensures.missed text of opened c.if-place.true fed in
    below_nothing_left text d least k in_room old b (bracket_no_mark text 45 k opened refl)
    (unread_no_entry text d k opened none) (unread_no_content text d k opened none)

pub brackets_below-returns-then-colon-clause-missed : goal.brackets_below-returns-then-colon-clause-missed
brackets_below-returns-then-colon-clause-missed t c = λ text least in_room of opened b failed fed.
    let old = c.args.self.now in
    let m = c.flow-place.new.self in
    let flow = c.flow-place.ensures in
    let k = c.args.place in
    let d = c.args.depth in
    let i = old.start.index in
    let e = c.flow-place.result in
    let of_m = of_kept text old m of flow.reached.0 in
    let x = flow.found text of b.early opened c.if-place.false in
    let low = flow.reached.1.1 c.if-place.false in
    let loose = subst (λ t. (not (breaks t e) && is_mark t 58 (next t e)) ≡ false) of_m.same
    (c.colon_behind-colon.ensures.missed (of_allowed text m of_m) (short_text m) c.if-colon.true) in
    let line = ap (λ t. ends_its_line t e) (sym of_m.same) ∙ c.margin.ensures.missed (of_allowed text m of_m) failed in
    below_nothing_left text d least k in_room old b (bracket_no_mark text 45 k opened refl)
    (read_no_entry text d k opened i e (names_of old) x.what.node x.what.stands (ends_no_colon text k e low.0 loose))
    (read_no_content text d k opened i e (names_of old) x.what.node x.what.stands line)

pub brackets_below-returns-then-not-begins_mapping-clause-missed : goal.brackets_below-returns-then-not-begins_mapping-clause-missed
brackets_below-returns-then-not-begins_mapping-clause-missed t c = λ text least in_room of opened b failed fed.
    let old = c.args.self.now in
    let m = c.flow-place.new.self in
    let u = c.go_back.new.self in
    let flow = c.flow-place.ensures in
    let back = c.go_back.ensures in
    let k = c.args.place in
    let d = c.args.depth in
    let i = old.start.index in
    let e = c.flow-place.result in
    let colon = c.colon_behind-colon.result in
    let of_m = of_kept text old m of flow.reached.0 in
    let of_u = of_kept text m u of_m back.text in
    let x = flow.found text of b.early opened c.if-place.false in
    let ends = ends_key_in text m e colon of_m.same
    (c.colon_behind-colon.ensures.found (of_allowed text m of_m) c.if-colon.false) in
    let other : ends_key text k e ≡ false = elim c.then-not-begins_mapping.branch [
      | brackets_below-then-not-begins_mapping-via-then-not-begins_mapping w ↦
          ends_far text k e colon ends.there (c.begins_mapping.ensures.missed w.if-not-begins_mapping.true
          part_no_value (omega (arith, back.line, c.requires.here.0)))
      | brackets_below-then-not-begins_mapping-via-else-not-begins_mapping+then-not-is_one_line w ↦
          ends_lines text k e (ap (is_one_line text k) (sym ends.there)
          ∙ ap (λ t. is_one_line t k colon) (sym of_u.same) ∙ w.is_one_line.ensures.lines w.if-not-is_one_line.true)
    ] in
    below_nothing_left text d least k in_room old b (bracket_no_mark text 45 k opened refl)
    (read_no_entry text d k opened i e (names_of old) x.what.node x.what.stands other)
    (read_no_content text d k opened i e (names_of old) x.what.node x.what.stands (colon_goes_on text e colon ends))

pub brackets_below-returns-then-place-2-clause-missed : goal.brackets_below-returns-then-place-2-clause-missed
brackets_below-returns-then-place-2-clause-missed t c = λ text least in_room of opened b failed fed.
    let old = c.args.self.now in
    let m = c.flow-place.new.self in
    let u = c.go_back.new.self in
    let v = c.begin_above.new.self in
    let i = old.start.index in
    let back = c.go_back.ensures in
    let begin = c.begin_above.ensures in
    let x = c.flow-place.ensures.found text of b.early opened c.if-place.false in
    let of_v = of_kept text old v of (begin.text ∙ (back.text ∙ c.flow-place.ensures.reached.0)) in
    let gone = unnamed_kept u v begin.names (unnamed_kept m u back.names x.unnamed) in
    let none = ap (λ t. names_at t false i) (sym of_v.same)
    ∙ c.properties-place.ensures.missed (of_allowed text v of_v) gone c.if-place-2.true fed in
    absurd (no_some (names_of old, b.end) (sym none ∙ b.names))

pub brackets_below-returns-clause-missed : goal.brackets_below-returns-clause-missed
brackets_below-returns-clause-missed t c = λ text least in_room of opened b failed fed.
    let old = c.args.self.now in
    let m = c.flow-place.new.self in
    let v = c.begin_above.new.self in
    let p = c.properties-place.new.self in
    let flow = c.flow-place.ensures in
    let back = c.go_back.ensures in
    let begin = c.begin_above.ensures in
    let names = c.properties-place.ensures in
    let i = old.start.index in
    let k = c.args.place in
    let d = c.args.depth in
    let e = c.flow-place.result in
    let colon = c.colon_behind-colon.result in
    let x = flow.found text of b.early opened c.if-place.false in
    let same = begin.text ∙ (back.text ∙ flow.reached.0) in
    let line = begin.line ∙ back.line in
    let of_m = of_kept text old m of flow.reached.0 in
    let of_v = of_kept text old v of same in
    let of_p = of_kept text v p of_v names.kept.0 in
    let ends = ends_key_in text m e colon of_m.same
    (c.colon_behind-colon.ensures.found (of_allowed text m of_m) c.if-colon.false) in
    below_mapping_left text d least k in_room old b (bracket_no_mark text 45 k opened refl)
    (λ entry. c.mapping.ensures.missed text of_p (ap (λ s. s.late) names.kept.1.1.0 ∙ begin.early)
    (below_over text least old k b) (bracket_no_space text k opened)
    (counted_on old p k (names.kept.0 ∙ same) (names.kept.1.0 ∙ line) b.counted) failed fed)
    (read_no_content text d k opened i e (names_of old) x.what.node x.what.stands (colon_goes_on text e colon ends))

-- sequence
pub sequence-items-init : goal.sequence-items-init
sequence-items-init t c =
    let old = c.args.self.now in
    let a = c.push_collection-place.new.self in
    let b = c.part-place.new.self in
    let push = c.push_collection-place.ensures in
    let part = c.part-place.ensures in
    let place = c.args.place in
    let j = c.part-place.result in
    let r = part.reached.1.1 c.if-place-2.false in
    let there = push.there c.if-place.false in
    let size = ap length push.kept.0 in
    let whole = ap length (part.reached.0 ∙ push.kept.0) in
    record {
      grows = grows_on old a b push.kept.1.1.1 part.reached.1.0;
      forward = omega (arith, r.0, there);
      here = r.1.0;
      within = omega (arith, r.1.1, size, whole);
      same = part.reached.0 ∙ push.kept.0;
      wide = omega (arith, c.requires.here.1, whole);
      read = λ text of early dash counted.
          let of_a = of_kept text old a of push.kept.0 in
          let q = c.push_collection-place.result in
          let inside = subst (λ t. place < length t) of.same c.requires.within in
          let at_a = counted_on old a place push.kept.0 push.kept.1.0 counted in
          let byte = mark_byte text 45 place dash in
          let wide = counted.column c.requires.within in
          let same_column : column text place ≡ place - old.line_start = ap (λ t. column t place) (sym of.same)
          ∙ wide in
          let one : (place - old.line_start) + 1 ≡ suc (place - old.line_start) = omega arith in
          let x = part.found text (place - old.line_start) of_a (push.unnamed c.if-place.false) one
          (subst (λ n. (column text (n + 1) == 0) ≡ false) (sym there)
          (amid_behind text place 45 byte refl))
          (λ h. subst (λ n. IsCounted a (n + 1)) (sym there)
          (counted_behind text a place 45 of_a at_a (omega (arith, push.kept.1.0, c.requires.here.0)) inside byte
          refl)) c.if-place-2.false in
          items_first text (c.args.depth - 1) (place - old.line_start) place j
          (sequence_start old.names.anchor old.names.tag, mark text old.start.index) old a b
          (added_at text old a (sequence_start old.names.anchor old.names.tag) old.start old.start.index of.same refl
          early
          (push.added c.if-place.false))
          (item_here text (place - old.line_start) place dash same_column)
          (subst (λ n. Reads a b j (IsBehind text (c.args.depth - 1) (place - old.line_start) anything
          (n + 1) j)) there x);
      left = λ text of early dash counted.
          let of_a = of_kept text old a of push.kept.0 in
          let d = c.args.depth - 1 in
          let column_of = place - old.line_start in
          let inside = subst (λ t. place < length t) of.same c.requires.within in
          let at_a = counted_on old a place push.kept.0 push.kept.1.0 counted in
          let byte = mark_byte text 45 place dash in
          let same_column : column text place ≡ column_of = ap (λ t. column t place) (sym of.same)
          ∙ counted.column c.requires.within in
          let one : column_of + 1 ≡ suc column_of = omega arith in
          let x = part.found text column_of of_a (push.unnamed c.if-place.false) one
          (subst (λ n. (column text (n + 1) == 0) ≡ false) (sym there) (amid_behind text place 45 byte refl))
          (λ h. subst (λ n. IsCounted a (n + 1)) (sym there)
          (counted_behind text a place 45 of_a at_a (omega (arith, push.kept.1.0, c.requires.here.0)) inside byte
          refl)) c.if-place-2.false in
          let w = x.has.what in
          record {
            on = items_left text d column_of place j w.node (item_here text column_of place dash same_column)
                (behind_suc text d column_of place j anything w.node
                (subst (λ n. Behind text d column_of anything (n + 1) j w.node) there w.stands));
          };
    }

pub sequence-items-preserved : goal.sequence-items-preserved
sequence-items-preserved t c =
    let old = c.args.self.now in
    let i = c.items.invariant in
    let a = c.items.self in
    let b = c.part-place-in-items.new.self in
    let part = c.part-place-in-items.ensures in
    let k = c.items.next in
    let j = c.part-place-in-items.result in
    let r = part.reached.1.1 c.if-place-3.false in
    let size = ap length part.reached.0 in
    record {
      grows = grows_on old a b i.grows part.reached.1.0;
      forward = omega (arith, i.forward, r.0);
      here = r.1.0;
      within = omega (arith, r.1.1, size);
      same = part.reached.0 ∙ i.same;
      wide = omega (arith, i.wide, size);
      read = λ text of early dash counted.
          let x = i.read text of early dash counted in
          let of_a = of_kept text old a of i.same in
          let column_of = c.args.place - old.line_start in
          let item : is_item text column_of k ≡ true = test_here (λ t. is_item t column_of k) text a c.is_item.result
          of_a.same (c.is_item.ensures.same (of_allowed text a of_a) x.counted) c.items-test.true in
          let mark_k = (item_is text column_of k item).0 in
          let byte = mark_byte text 45 k mark_k in
          let inside = subst (λ t. k < length t) of_a.same (c.is_item.ensures.inside c.items-test.true) in
          let one : column_of + 1 ≡ suc column_of = omega arith in
          let y = part.found text column_of of_a x.unnamed one
          (amid_behind text k 45 byte refl)
          (λ h. counted_behind text a k 45 of_a x.counted i.here inside byte refl) c.if-place-3.false in
          items_turn text (c.args.depth - 1) column_of c.args.place k j
          (sequence_start old.names.anchor old.names.tag, mark text old.start.index) old a b x item y;
      left = λ text of early dash counted.
          let x = i.read text of early dash counted in
          let of_a = of_kept text old a of i.same in
          let d = c.args.depth - 1 in
          let column_of = c.args.place - old.line_start in
          let item : is_item text column_of k ≡ true = test_here (λ t. is_item t column_of k) text a c.is_item.result
          of_a.same (c.is_item.ensures.same (of_allowed text a of_a) x.counted) c.items-test.true in
          let byte = mark_byte text 45 k (item_is text column_of k item).0 in
          let inside = subst (λ t. k < length t) of_a.same (c.is_item.ensures.inside c.items-test.true) in
          let one : column_of + 1 ≡ suc column_of = omega arith in
          let y = part.found text column_of of_a x.unnamed one
          (amid_behind text k 45 byte refl)
          (λ h. counted_behind text a k 45 of_a x.counted i.here inside byte refl) c.if-place-3.false in
          let w = y.has.what in
          record {
            on = λ rest. (i.left text of early dash counted).on
                (items_left text d column_of k j w.node item (behind_suc text d column_of k j anything w.node w.stands)
                rest);
          };
    }

pub sequence-returns-clause-found : goal.sequence-returns-clause-found
sequence-returns-clause-found t c = λ text of early dash counted some.
    let old = c.args.self.now in
    let i = c.items.invariant in
    let b = c.items.self in
    let new = c.push_end.new.self in
    let end = c.push_end.ensures in
    let k = c.items.next in
    let column_of = c.args.place - old.line_start in
    let d = c.args.depth - 1 in
    let x = i.read text of early dash counted in
    let of_b = of_kept text old b of i.same in
    let h = of_allowed text b of_b in
    let item : is_item text column_of k ≡ false = test_here (λ t. is_item t column_of k) text b c.is_item.result
    of_b.same (c.is_item.ensures.same h x.counted) c.items-test.false in
    let within : is_within text (column_of + 1) k ≡ false = test_here (λ t. is_within t (column_of + 1) k) text b
    c.is_within.result of_b.same (c.is_within.ensures.same h x.counted) c.if-is_within.false in
    let wide = counted.column c.requires.within in
    let same_column : column_of ≡ column text c.args.place = sym wide ∙ ap (λ t. column t c.args.place) of.same in
    let y = items_whole text d column_of c.args.place k old.start.index
    (names_of old) old b new c.end_spot-mark.result x
    item within of_b.same c.end_spot-mark.ensures.ended (end.added some) end.names
    (counted_on b new k end.kept.0 end.kept.1.0 x.counted) in
    subst (λ j. Reads old new j (IsSequence text d (column text c.args.place) old.start.index
    (names_of old) c.args.place j))
    (sym (end.there some))
    (subst (λ q. Reads old new k (IsSequence text d q old.start.index (names_of old) c.args.place k)) same_column y)

pub sequence-returns-then-depth-eq0-clause-missed : goal.sequence-returns-then-depth-eq0-clause-missed
sequence-returns-then-depth-eq0-clause-missed t c = λ text of early dash counted failed fed names start es.
    no_columns_left text c.args.depth items names start (column text c.args.place) es c.args.place c.if-depth-eq0.true

pub sequence-returns-then-place-clause-missed : goal.sequence-returns-then-place-clause-missed
sequence-returns-then-place-clause-missed t c = λ text of early dash counted failed fed.
    absurd (false≢true (sym fed ∙ c.push_collection-place.ensures.starved c.if-place.true
    (λ z. no_such_place c.args.self.now c.args.place (omega (arith, c.requires.within)) z)))

pub sequence-returns-then-place-2-clause-missed : goal.sequence-returns-then-place-2-clause-missed
sequence-returns-then-place-2-clause-missed t c = λ text of early dash counted failed fed names start es.
    let old = c.args.self.now in
    let a = c.push_collection-place.new.self in
    let push = c.push_collection-place.ensures in
    let place = c.args.place in
    let d = c.args.depth - 1 in
    let there = push.there c.if-place.false in
    let of_a = of_kept text old a of push.kept.0 in
    let inside = subst (λ t. place < length t) of.same c.requires.within in
    let at_a = counted_on old a place push.kept.0 push.kept.1.0 counted in
    let byte = mark_byte text 45 place dash in
    let column_of = place - old.line_start in
    let same_column : column text place ≡ column_of = ap (λ t. column t place) (sym of.same)
    ∙ counted.column c.requires.within in
    let one : column_of + 1 ≡ suc column_of = omega arith in
    let left = c.part-place.ensures.missed text column_of of_a (push.unnamed c.if-place.false) one
    (subst (λ n. (column text (n + 1) == 0) ≡ false) (sym there) (amid_behind text place 45 byte refl))
    (λ h. subst (λ n. IsCounted a (n + 1)) (sym there)
    (counted_behind text a place 45 of_a at_a (omega (arith, push.kept.1.0, c.requires.here.0)) inside byte refl))
    c.if-place-2.true fed in
    subst (λ q. EndsAtTab text (columns_at text c.args.depth items names start q es place)) (sym same_column)
    (sequence_left text d c.args.depth column_of start place names es (less_one c.args.depth c.if-depth-eq0.false)
    (item_left text d column_of place (item_here text column_of place dash same_column)
    (behind_one text d column_of place anything
    (subst (λ n. LeavesBehind text d column_of anything (n + 1)) there left))))

pub sequence-returns-then-place-3-clause-missed : goal.sequence-returns-then-place-3-clause-missed
sequence-returns-then-place-3-clause-missed t c = λ text of early dash counted failed fed names start es.
    let old = c.args.self.now in
    let i = c.items.invariant in
    let a = c.items.self in
    let k = c.items.next in
    let place = c.args.place in
    let d = c.args.depth - 1 in
    let x = i.read text of early dash counted in
    let of_a = of_kept text old a of i.same in
    let column_of = place - old.line_start in
    let item : is_item text column_of k ≡ true = test_here (λ t. is_item t column_of k) text a c.is_item.result
    of_a.same (c.is_item.ensures.same (of_allowed text a of_a) x.counted) c.items-test.true in
    let byte = mark_byte text 45 k (item_is text column_of k item).0 in
    let inside = subst (λ t. k < length t) of_a.same (c.is_item.ensures.inside c.items-test.true) in
    let one : column_of + 1 ≡ suc column_of = omega arith in
    let left = c.part-place-in-items.ensures.missed text column_of of_a x.unnamed one (amid_behind text k 45 byte refl)
    (λ h. counted_behind text a k 45 of_a x.counted i.here inside byte refl) c.if-place-3.true fed in
    let same_column : column text place ≡ column_of = ap (λ t. column t place) (sym of.same)
    ∙ counted.column c.requires.within in
    subst (λ q. EndsAtTab text (columns_at text c.args.depth items names start q es place)) (sym same_column)
    (sequence_left text d c.args.depth column_of start place names es (less_one c.args.depth c.if-depth-eq0.false)
    ((i.left text of early dash counted).on
    (item_left text d column_of k item (behind_one text d column_of k anything left))))

pub sequence-returns-then-is_within-clause-missed : goal.sequence-returns-then-is_within-clause-missed
sequence-returns-then-is_within-clause-missed t c = λ text of early dash counted failed fed names start es.
    let old = c.args.self.now in
    let i = c.items.invariant in
    let b = c.items.self in
    let k = c.items.next in
    let place = c.args.place in
    let column_of = place - old.line_start in
    let d = c.args.depth - 1 in
    let x = i.read text of early dash counted in
    let of_b = of_kept text old b of i.same in
    let h = of_allowed text b of_b in
    let item : is_item text column_of k ≡ false = test_here (λ t. is_item t column_of k) text b c.is_item.result
    of_b.same (c.is_item.ensures.same h x.counted) c.items-test.false in
    let within : is_within text (column_of + 1) k ≡ true = test_here (λ t. is_within t (column_of + 1) k) text b
    c.is_within.result of_b.same (c.is_within.ensures.same h x.counted) c.if-is_within.true in
    let one : suc column_of ≡ column_of + 1 = omega arith in
    let same_column : column text place ≡ column_of = ap (λ t. column t place) (sym of.same)
    ∙ counted.column c.requires.within in
    subst (λ q. EndsAtTab text (columns_at text c.args.depth items names start q es place)) (sym same_column)
    (sequence_left text d c.args.depth column_of start place names es (less_one c.args.depth c.if-depth-eq0.false)
    ((i.left text of early dash counted).on
    (items_out text d column_of k item (ap (λ q. is_within text q k) one ∙ within))))

pub sequence-returns-clause-missed : goal.sequence-returns-clause-missed
sequence-returns-clause-missed t c = λ text of early dash counted failed fed.
    let i = c.items.invariant in
    absurd (false≢true (sym fed ∙ c.push_end.ensures.starved failed
    (λ z. no_such_place c.items.self c.items.next (omega (arith, i.within)) z)))

-- mapping
pub mapping-returns-clause-found : goal.mapping-returns-clause-found
mapping-returns-clause-found t c = λ text of early over counted some.
    let old = c.args.self.now in
    let a = c.push_collection-place.new.self in
    let b = c.entry-place.new.self in
    let new = c.entries.new.self in
    let push = c.push_collection-place.ensures in
    let entry = c.entry-place.ensures in
    let place = c.args.place in
    let k = c.entry-place.result in
    let j = c.entries.result in
    let d = c.args.depth - 1 in
    let column_of = place - old.line_start in
    let of_a = of_kept text old a of push.kept.0 in
    let of_b = of_kept text a b of_a entry.reached.0 in
    let wide = counted.column (subst (λ t. place < length t) (sym of.same) (over_inside text place over)) in
    let same_column : column text place ≡ column_of = ap (λ t. column t place) (sym of.same) ∙ wide in
    let here = at_here text column_of place over same_column in
    let x = entry.found text of_a (push.unnamed c.if-place.false)
    (counted_on old a place push.kept.0 push.kept.1.0 counted) here c.if-place-2.false in
    let y = c.entries.ensures.found text of_b x.has.unnamed x.counted some in
    subst (λ q. Reads old new j (IsMapping text d q old.start.index (names_of old) place j)) (sym same_column)
    (mapping_reads text d column_of old.start.index place k j (names_of old) old a b new
    (added_at text old a (mapping_start old.names.anchor old.names.tag) old.start old.start.index of.same refl early
    (push.added c.if-place.false)) here x y)

pub mapping-returns-then-depth-eq0-clause-missed : goal.mapping-returns-then-depth-eq0-clause-missed
mapping-returns-then-depth-eq0-clause-missed t c = λ text of early over some counted failed fed names start es.
    no_columns_left text c.args.depth entries names start (column text c.args.place) es c.args.place c.if-depth-eq0.true

pub mapping-returns-then-place-clause-missed : goal.mapping-returns-then-place-clause-missed
mapping-returns-then-place-clause-missed t c = λ text of early over some counted failed fed.
    absurd (false≢true (sym fed ∙ c.push_collection-place.ensures.starved c.if-place.true
    (λ z. no_such_place c.args.self.now c.args.place (omega (arith, c.requires.here.1)) z)))

pub mapping-returns-then-place-2-clause-missed : goal.mapping-returns-then-place-2-clause-missed
mapping-returns-then-place-2-clause-missed t c = λ text of early over some counted failed fed names start es.
    let old = c.args.self.now in
    let a = c.push_collection-place.new.self in
    let push = c.push_collection-place.ensures in
    let place = c.args.place in
    let d = c.args.depth - 1 in
    let column_of = place - old.line_start in
    let of_a = of_kept text old a of push.kept.0 in
    let same_column : column text place ≡ column_of = ap (λ t. column t place) (sym of.same)
    ∙ counted.column (subst (λ t. place < length t) (sym of.same) (over_inside text place over)) in
    let here = at_here text column_of place over same_column in
    let left = c.entry-place.ensures.missed text of_a (push.unnamed c.if-place.false)
    (counted_on old a place push.kept.0 push.kept.1.0 counted) here some c.if-place-2.true fed in
    subst (λ q. EndsAtTab text (columns_at text c.args.depth entries names start q es place)) (sym same_column)
    (mapping_left text d c.args.depth column_of start place names es (less_one c.args.depth c.if-depth-eq0.false)
    (entry_left text d column_of place here left))

pub mapping-returns-clause-missed : goal.mapping-returns-clause-missed
mapping-returns-clause-missed t c = λ text of early over some counted failed fed names start es.
    let old = c.args.self.now in
    let a = c.push_collection-place.new.self in
    let b = c.entry-place.new.self in
    let push = c.push_collection-place.ensures in
    let entry = c.entry-place.ensures in
    let place = c.args.place in
    let k = c.entry-place.result in
    let d = c.args.depth - 1 in
    let column_of = place - old.line_start in
    let of_a = of_kept text old a of push.kept.0 in
    let same_column : column text place ≡ column_of = ap (λ t. column t place) (sym of.same)
    ∙ counted.column (subst (λ t. place < length t) (sym of.same) (over_inside text place over)) in
    let here = at_here text column_of place over same_column in
    let x = entry.found text of_a (push.unnamed c.if-place.false)
    (counted_on old a place push.kept.0 push.kept.1.0 counted) here c.if-place-2.false in
    let w = x.has.what in
    let left = c.entries.ensures.missed text (of_kept text a b of_a entry.reached.0) x.has.unnamed x.counted
    (entry_stop text w.stands) failed fed in
    subst (λ q. EndsAtTab text (columns_at text c.args.depth entries names start q es place)) (sym same_column)
    (mapping_left text d c.args.depth column_of start place names es (less_one c.args.depth c.if-depth-eq0.false)
    (entries_left text d column_of place k w.key w.value here w.stands left))

-- entries
pub entries-entries-init : goal.entries-entries-init
entries-entries-init t c =
    let old = c.args.self.now in
    record {
      grows = grows_same old old refl;
      forward = omega arith;
      here = c.requires.here.0;
      within = c.requires.here.1;
      same = refl;
      read = λ text of none counted. entries_first text c.args.depth c.args.column c.args.from old none counted;
      left = λ text of none counted some. record { token = some; on = λ rest. rest };
    }

pub entries-entries-preserved : goal.entries-entries-preserved
entries-entries-preserved t c =
    let old = c.args.self.now in
    let i = c.entries.invariant in
    let a = c.entries.self in
    let b = c.entry-place.new.self in
    let entry = c.entry-place.ensures in
    let k = c.entries.next in
    let j = c.entry-place.result in
    let r = entry.reached.1.1 c.if-place.false in
    let size = ap length entry.reached.0 in
    record {
      grows = grows_on old a b i.grows entry.reached.1.0;
      forward = omega (arith, i.forward, r.0);
      here = r.1.0;
      within = omega (arith, r.1.1, size);
      same = entry.reached.0 ∙ i.same;
      read = λ text of none counted.
          let x = i.read text of none counted in
          let of_a = of_kept text old a of i.same in
          let here : is_at text c.args.column k ≡ true = test_here (λ t. is_at t c.args.column k) text a c.is_at.result
          of_a.same (c.is_at.ensures.same (of_allowed text a of_a) x.counted) c.entries-test.true in
          entries_turn text c.args.depth c.args.column c.args.from k j old a b x here
          (entry.found text of_a x.unnamed x.counted here c.if-place.false);
      left = λ text of none counted some.
          let x = i.read text of none counted in
          let of_a = of_kept text old a of i.same in
          let here : is_at text c.args.column k ≡ true = test_here (λ t. is_at t c.args.column k) text a c.is_at.result
          of_a.same (c.is_at.ensures.same (of_allowed text a of_a) x.counted) c.entries-test.true in
          let w = (entry.found text of_a x.unnamed x.counted here c.if-place.false).has.what in
          record {
            token = entry_stop text w.stands;
            on = λ rest. (i.left text of none counted some).on
                (entries_left text c.args.depth c.args.column k j w.key w.value here w.stands rest);
          };
    }

pub entries-returns-clause-found : goal.entries-returns-clause-found
entries-returns-clause-found t c = λ text of none counted some.
    let old = c.args.self.now in
    let i = c.entries.invariant in
    let b = c.entries.self in
    let new = c.push_end.new.self in
    let end = c.push_end.ensures in
    let k = c.entries.next in
    let column_of = c.args.column in
    let d = c.args.depth in
    let x = i.read text of none counted in
    let of_b = of_kept text old b of i.same in
    let h = of_allowed text b of_b in
    let here : is_at text column_of k ≡ false = test_here (λ t. is_at t column_of k) text b c.is_at.result of_b.same
    (c.is_at.ensures.same h x.counted) c.entries-test.false in
    let within : is_within text (column_of + 1) k ≡ false = test_here (λ t. is_within t (column_of + 1) k) text b
    c.is_within.result of_b.same (c.is_within.ensures.same h x.counted) c.if-is_within.false in
    let y = entries_whole text d column_of c.args.from k old b new c.end_spot-mark.result x here within of_b.same
    c.end_spot-mark.ensures.ended (end.added some) end.names (counted_on b new k end.kept.0 end.kept.1.0 x.counted) in
    subst (λ j. Reads old new j (AreLastEntries text d column_of c.args.from j)) (sym (end.there some)) y

pub entries-returns-then-place-clause-missed : goal.entries-returns-then-place-clause-missed
entries-returns-then-place-clause-missed t c = λ text of none counted some failed fed.
    let old = c.args.self.now in
    let i = c.entries.invariant in
    let a = c.entries.self in
    let k = c.entries.next in
    let column_of = c.args.column in
    let x = i.read text of none counted in
    let z = i.left text of none counted some in
    let of_a = of_kept text old a of i.same in
    let here : is_at text column_of k ≡ true = test_here (λ t. is_at t column_of k) text a c.is_at.result of_a.same
    (c.is_at.ensures.same (of_allowed text a of_a) x.counted) c.entries-test.true in
    z.on (entry_left text c.args.depth column_of k here
    (c.entry-place.ensures.missed text of_a x.unnamed x.counted here z.token c.if-place.true fed))

pub entries-returns-then-is_within-clause-missed : goal.entries-returns-then-is_within-clause-missed
entries-returns-then-is_within-clause-missed t c = λ text of none counted some failed fed.
    let old = c.args.self.now in
    let i = c.entries.invariant in
    let b = c.entries.self in
    let k = c.entries.next in
    let column_of = c.args.column in
    let x = i.read text of none counted in
    let of_b = of_kept text old b of i.same in
    let h = of_allowed text b of_b in
    let here : is_at text column_of k ≡ false = test_here (λ t. is_at t column_of k) text b c.is_at.result of_b.same
    (c.is_at.ensures.same h x.counted) c.entries-test.false in
    let within : is_within text (column_of + 1) k ≡ true = test_here (λ t. is_within t (column_of + 1) k) text b
    c.is_within.result of_b.same (c.is_within.ensures.same h x.counted) c.if-is_within.true in
    let one : suc column_of ≡ column_of + 1 = omega arith in
    (i.left text of none counted some).on
    (entries_out text c.args.depth column_of k here (ap (λ q. is_within text q k) one ∙ within))

pub entries-returns-clause-missed : goal.entries-returns-clause-missed
entries-returns-clause-missed t c = λ text of none counted some failed fed.
    let i = c.entries.invariant in
    absurd (false≢true (sym fed ∙ c.push_end.ensures.starved failed
    (λ z. no_such_place c.entries.self c.entries.next (omega (arith, i.within)) z)))

-- entry
pub entry-returns-then-is_mark-clause-found : goal.entry-returns-then-is_mark-clause-found
entry-returns-then-is_mark-clause-found t c = λ text of none counted here some.
    let old = c.args.self.now in
    let m = c.begin.new.self in
    let begin = c.begin.ensures in
    let place = c.args.place in
    let j = c.marked_entry.result in
    let of_m = of_kept text old m of begin.text in
    let mark : is_mark text 63 place ≡ true = test_here (λ t. is_mark t 63 place) text m c.is_mark.result of_m.same
    (c.is_mark.ensures.same (of_allowed text m of_m) (omega arith)) c.if-is_mark.true in
    reads_from old m c.marked_entry.new.self j (IsEntry text c.args.depth c.args.column place j) begin.still
    (c.marked_entry.ensures.found text of_m (unnamed_kept old m begin.names none)
    (counted_on old m place begin.text begin.line counted) mark some)

pub entry-returns-clause-found : goal.entry-returns-clause-found
entry-returns-clause-found t c = λ text of none counted here some.
    let old = c.args.self.now in
    let m = c.begin.new.self in
    let b = c.key-place.new.self in
    let new = c.part.new.self in
    let begin = c.begin.ensures in
    let key = c.key-place.ensures in
    let place = c.args.place in
    let k = c.key-place.result in
    let j = c.part.result in
    let of_m = of_kept text old m of begin.text in
    let of_b = of_kept text m b of_m key.reached.0 in
    let x = key.found text of_m (unnamed_kept old m begin.names none) begin.early
    (at_over text c.args.column place here).0
    c.if-place.false in
    let byte = key_byte text c.args.depth place k x.what.node x.what.stands in
    let one : c.args.column + 1 ≡ suc c.args.column = omega arith in
    let y = c.part.ensures.found text c.args.column of_b x.unnamed one
    (amid_behind text k 58 byte refl)
    (λ h. absurd (h refl)) some in
    reads_from old m new j (IsEntry text c.args.depth c.args.column place j) begin.still
    (line_entry text c.args.depth c.args.column place k j m b new x y)

pub entry-returns-then-is_mark-clause-missed : goal.entry-returns-then-is_mark-clause-missed
entry-returns-then-is_mark-clause-missed t c = λ text of none counted here some failed fed.
    let old = c.args.self.now in
    let m = c.begin.new.self in
    let begin = c.begin.ensures in
    let place = c.args.place in
    let of_m = of_kept text old m of begin.text in
    let mark : is_mark text 63 place ≡ true = test_here (λ t. is_mark t 63 place) text m c.is_mark.result of_m.same
    (c.is_mark.ensures.same (of_allowed text m of_m) (omega arith)) c.if-is_mark.true in
    c.marked_entry.ensures.missed text of_m (unnamed_kept old m begin.names none)
    (counted_on old m place begin.text begin.line counted) mark failed fed

pub entry-returns-then-place-clause-missed : goal.entry-returns-then-place-clause-missed
entry-returns-then-place-clause-missed t c = λ text of none counted here some failed fed es.
    let old = c.args.self.now in
    let m = c.begin.new.self in
    let begin = c.begin.ensures in
    let place = c.args.place in
    let column_of = c.args.column in
    let of_m = of_kept text old m of begin.text in
    let other : is_mark text 63 place ≡ false = test_here (λ t. is_mark t 63 place) text m c.is_mark.result of_m.same
    (c.is_mark.ensures.same (of_allowed text m of_m) (omega arith)) c.if-is_mark.false in
    key_left text c.args.depth column_of place es other
    (c.key-place.ensures.missed text of_m (unnamed_kept old m begin.names none) begin.early
    (at_over text column_of place here).0 some c.if-place.true fed es)

pub entry-returns-clause-missed : goal.entry-returns-clause-missed
entry-returns-clause-missed t c = λ text of none counted here some failed fed.
    let old = c.args.self.now in
    let m = c.begin.new.self in
    let b = c.key-place.new.self in
    let begin = c.begin.ensures in
    let key = c.key-place.ensures in
    let place = c.args.place in
    let column_of = c.args.column in
    let d = c.args.depth in
    let k = c.key-place.result in
    let of_m = of_kept text old m of begin.text in
    let other : is_mark text 63 place ≡ false = test_here (λ t. is_mark t 63 place) text m c.is_mark.result of_m.same
    (c.is_mark.ensures.same (of_allowed text m of_m) (omega arith)) c.if-is_mark.false in
    let x = key.found text of_m (unnamed_kept old m begin.names none) begin.early (at_over text column_of place here).0
    c.if-place.false in
    let w = x.what in
    let byte = key_byte text d place k w.node w.stands in
    let one : column_of + 1 ≡ suc column_of = omega arith in
    let left = c.part.ensures.missed text column_of (of_kept text m b of_m key.reached.0) x.unnamed one
    (amid_behind text k 58 byte refl) (λ h. absurd (h refl)) failed fed in
    value_left text d column_of place k w.node other w.stands (behind_one text d column_of k value left)

-- marked entry
pub marked_entry-returns-then-is_at-clause-found : goal.marked_entry-returns-then-is_at-clause-found
marked_entry-returns-then-is_at-clause-found t c = λ text of none counted mark some.
    let old = c.args.self.now in
    let b = c.part-place.new.self in
    let new = c.part.new.self in
    let part_place = c.part-place.ensures in
    let place = c.args.place in
    let column_of = c.args.column in
    let k = c.part-place.result in
    let j = c.part.result in
    let of_b = of_kept text old b of part_place.reached.0 in
    let r = part_place.reached.1.1 c.if-place.false in
    let one : column_of + 1 ≡ suc column_of = omega arith in
    let byte = mark_byte text 63 place mark in
    let inside = subst (λ t. place < length t) of.same c.requires.within in
    let x = part_place.found text column_of of none one
    (amid_behind text place 63 byte refl)
    (λ h. counted_behind text old place 63 of counted c.requires.here.0 inside byte refl) c.if-place.false in
    let colon : is_mark text 58 k ≡ true = test_here (λ t. is_mark t 58 k) text b c.is_mark.result of_b.same
    (c.is_mark.ensures.same (of_allowed text b of_b) (omega arith)) c.if-is_mark.true in
    let here : is_at text column_of k ≡ true = test_here (λ t. is_at t column_of k) text b c.is_at.result of_b.same
    (c.is_at.ensures.same (of_allowed text b of_b) x.counted) c.if-is_at.true in
    let byte_k = mark_byte text 58 k colon in
    let inside_k = over_inside text k (at_over text column_of k here).0 in
    let y = c.part.ensures.found text column_of of_b x.has.unnamed one
    (amid_behind text k 58 byte_k refl)
    (λ h. counted_behind text b k 58 of_b x.counted r.1.0 inside_k byte_k refl) some in
    marked_entry_reads text c.args.depth column_of place k j old b new mark x
    (and_from (is_mark text 58 k) _ colon here) y

pub marked_entry-returns-clause-found : goal.marked_entry-returns-clause-found
marked_entry-returns-clause-found t c = λ text of none counted mark some.
    let old = c.args.self.now in
    let b = c.part-place.new.self in
    let new = c.push_nothing.new.self in
    let part_place = c.part-place.ensures in
    let push = c.push_nothing.ensures in
    let place = c.args.place in
    let column_of = c.args.column in
    let k = c.part-place.result in
    let of_b = of_kept text old b of part_place.reached.0 in
    let one : column_of + 1 ≡ suc column_of = omega arith in
    let byte = mark_byte text 63 place mark in
    let inside = subst (λ t. place < length t) of.same c.requires.within in
    let x = part_place.found text column_of of none one
    (amid_behind text place 63 byte refl)
    (λ h. counted_behind text old place 63 of counted c.requires.here.0 inside byte refl) c.if-place.false in
    let colon_test : c.is_mark.result ≡ false → is_mark text 58 k ≡ false =
    λ f. test_here (λ t. is_mark t 58 k) text b c.is_mark.result of_b.same
    (c.is_mark.ensures.same (of_allowed text b of_b) (omega arith)) f in
    let no_value : is_value text column_of k ≡ false = elim c.else-is_mark.branch [
      | marked_entry-else-is_mark-via-then-is_mark+else-is_at w ↦
          and_right (is_mark text 58 k) _
          (test_here (λ t. is_at t column_of k) text b w.is_at.result of_b.same
          (w.is_at.ensures.same (of_allowed text b of_b) x.counted) w.if-is_at.false)
      | marked_entry-else-is_mark-via-else-is_mark w ↦ and_left (is_mark text 58 k) _ (colon_test w.if-is_mark.false)
    ] in
    let m = c.begin_at_end.new.self in
    let end = c.begin_at_end.ensures in
    let of_m = of_kept text b m of_b end.text in
    let none_m = unnamed_kept b m end.names x.has.unnamed in
    let there : position_at m.text.now m.start.index m.start.late ≡ end_mark text column_of k =
    ap (λ t. position_at t m.start.index m.start.late) end.text ∙ end.mark
    ∙ ap (λ t. end_mark t column_of k) of_b.same in
    let a = push.added some in
    let added = end_nothing text m new k (end_mark text column_of k) of_m none_m end.start there a
    ∙ ap (λ t. marked_on t ++ node_events (no_content (end_mark text column_of k) unnamed [])) end.still in
    subst (λ j. Reads old new j (IsEntry text c.args.depth column_of place j)) (sym (push.there some))
    (key_alone_reads text c.args.depth column_of place k old b new mark x no_value added a.unnamed
    (counted_on b new k (push.kept.0 ∙ end.text) (push.kept.1.0 ∙ end.line) x.counted))

pub marked_entry-returns-then-place-clause-missed : goal.marked_entry-returns-then-place-clause-missed
marked_entry-returns-then-place-clause-missed t c = λ text of none counted mark failed fed.
    let old = c.args.self.now in
    let place = c.args.place in
    let column_of = c.args.column in
    let one : column_of + 1 ≡ suc column_of = omega arith in
    let byte = mark_byte text 63 place mark in
    let inside = subst (λ t. place < length t) of.same c.requires.within in
    let left = c.part-place.ensures.missed text column_of of none one (amid_behind text place 63 byte refl)
    (λ h. counted_behind text old place 63 of counted c.requires.here.0 inside byte refl) c.if-place.true fed in
    marked_left text c.args.depth column_of place mark (behind_one text c.args.depth column_of place part left)

pub marked_entry-returns-then-is_at-clause-missed : goal.marked_entry-returns-then-is_at-clause-missed
marked_entry-returns-then-is_at-clause-missed t c = λ text of none counted mark failed fed.
    let old = c.args.self.now in
    let b = c.part-place.new.self in
    let part_place = c.part-place.ensures in
    let place = c.args.place in
    let column_of = c.args.column in
    let d = c.args.depth in
    let k = c.part-place.result in
    let of_b = of_kept text old b of part_place.reached.0 in
    let r = part_place.reached.1.1 c.if-place.false in
    let one : column_of + 1 ≡ suc column_of = omega arith in
    let byte = mark_byte text 63 place mark in
    let inside = subst (λ t. place < length t) of.same c.requires.within in
    let x = part_place.found text column_of of none one (amid_behind text place 63 byte refl)
    (λ h. counted_behind text old place 63 of counted c.requires.here.0 inside byte refl) c.if-place.false in
    let colon : is_mark text 58 k ≡ true = test_here (λ t. is_mark t 58 k) text b c.is_mark.result of_b.same
    (c.is_mark.ensures.same (of_allowed text b of_b) (omega arith)) c.if-is_mark.true in
    let here : is_at text column_of k ≡ true = test_here (λ t. is_at t column_of k) text b c.is_at.result of_b.same
    (c.is_at.ensures.same (of_allowed text b of_b) x.counted) c.if-is_at.true in
    let byte_k = mark_byte text 58 k colon in
    let inside_k = over_inside text k (at_over text column_of k here).0 in
    let left = c.part.ensures.missed text column_of of_b x.has.unnamed one (amid_behind text k 58 byte_k refl)
    (λ h. counted_behind text b k 58 of_b x.counted r.1.0 inside_k byte_k refl) failed fed in
    let w = x.has.what in
    marked_value_left text d column_of place k w.node mark (behind_suc text d column_of place k part w.node w.stands)
    (and_from (is_mark text 58 k) _ colon here) (behind_one text d column_of k part left)

pub marked_entry-returns-clause-missed : goal.marked_entry-returns-clause-missed
marked_entry-returns-clause-missed t c = λ text of none counted mark failed fed.
    let b = c.part-place.new.self in
    let m = c.begin_at_end.new.self in
    let k = c.part-place.result in
    let r = c.part-place.ensures.reached.1.1 c.if-place.false in
    absurd (false≢true (sym fed ∙ c.push_nothing.ensures.starved failed
    (λ z. no_such_place c.args.self.now k (omega (arith, r.1.1)) z)))
