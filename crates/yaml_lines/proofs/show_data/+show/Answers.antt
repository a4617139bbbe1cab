-- Data is shown part by part.
use Rattle.yaml_lines.specs.DataTextView.{item_text, data_entry_text}
use Rattle.yaml_lines.proofs.ShowLaws.{show-Seq, show-Tuple, show-Struct, show-Map, shown}
use Rattle.yaml_lines.proofs.show_data.+show.Goals as goal

pub show-returns-in-Seq : goal.show-returns-in-Seq
show-returns-in-Seq t c = rw (c.in-Seq.is, show-Seq c.in-Seq.items) c.show_items.ensures

pub show-returns-in-Tuple : goal.show-returns-in-Tuple
show-returns-in-Tuple t c = rw (c.in-Tuple.is, show-Tuple c.in-Tuple.items) c.show_items-in-Tuple.ensures

pub show-returns-in-Struct : goal.show-returns-in-Struct
show-returns-in-Struct t c = rw (c.in-Struct.is, show-Struct c.in-Struct.items) c.show_items-in-Struct.ensures

pub show-returns-in-Map : goal.show-returns-in-Map
show-returns-in-Map t c = rw (c.in-Map.is, show-Map c.in-Map.entries) c.show_entries.ensures

pub show_items-loop-index-preserved : goal.show_items-loop-index-preserved
show_items-loop-index-preserved t c =
    shown item_text _ _ _ c.loop-index-test.true c.item-item.is _ _ _ _ c.loop-index.invariant c.in_ok-separate.ensures
    c.in_ok-show.ensures

pub show_entries-loop-index-preserved : goal.show_entries-loop-index-preserved
show_entries-loop-index-preserved t c =
    shown data_entry_text _ _ _ c.loop-index-test.true c.entry-item.is _ _ _ _ c.loop-index.invariant
    c.in_ok-separate.ensures c.in_ok-show_entry.ensures
