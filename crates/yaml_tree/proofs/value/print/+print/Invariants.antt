-- What was written so far is the parts so far, each behind a comma.
use Rattle.std.proofs.Common.{take}
use Rattle.std.specs.List.{flat_map}
use Rattle.std.specs.Fmt.{HasWritten, IsPlainFormatter}
use Rattle.yaml_tree.specs.EntryText.{later_entry, later_value}
use Rattle.yaml_tree.proofs.value.print.+print.Given as goal

abbrev pub invariant-write_values-loop-item : goal.invariant-write_values-loop-item
invariant-write_values-loop-item g l = IsPlainFormatter l.initial.f
    → HasWritten g.W.Write.write_str_gives l.initial.f (flat_map later_value (take l.item-index l.others)) l.f

abbrev pub invariant-write_entries-loop-entry : goal.invariant-write_entries-loop-entry
invariant-write_entries-loop-entry g l = IsPlainFormatter l.initial.f
    → HasWritten g.W.Write.write_str_gives l.initial.f (flat_map later_entry (take l.entry-index l.others)) l.f
