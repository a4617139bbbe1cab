-- Entries as the code has them: with another value, and which stand for the same.
use Rattle.std.specs.Prelude.{◌≡◌}
use Rattle.yaml_value.specs.View.{plain_entry}
use Rattle.yaml_value.specs.declared.mapping.Entry.{Entry}
use Rattle.yaml_value.specs.declared.value.Value.{Value}

-- the entry with another value
abbrev pub with_value_in : Entry → Value → Entry
with_value_in e v = record { key = e.key; value = v; last = e.last; earlier = e.earlier }

-- two entries stand for one pair, and keep the same places
abbrev pub SameEntry : Entry → Entry → Type 0
SameEntry d e = (plain_entry d ≡ plain_entry e) × (d.last ≡ e.last) × (d.earlier ≡ e.earlier)
