-- What was shown so far stands there, with a comma and a space between.
use Rattle.std.proofs.Common.{◌≡◌, ◌++◌, take, map, string_bytes}
use Rattle.yaml_lines.specs.Listed.{listed}
use Rattle.yaml_lines.specs.DataTextView.{item_text, data_entry_text}
use Rattle.yaml_lines.proofs.show_data.+show.Given as goal

abbrev pub invariant-show_items-loop-index : goal.invariant-show_items-loop-index
invariant-show_items-loop-index l =
    string_bytes l.out ≡ string_bytes l.initial.out ++ listed (map item_text (take l.index l.item-items))

abbrev pub invariant-show_entries-loop-index : goal.invariant-show_entries-loop-index
invariant-show_entries-loop-index l =
    string_bytes l.out ≡ string_bytes l.initial.out ++ listed (map data_entry_text (take l.index l.entry-items))
