-- What no step of the parser changes: the text, and the events that were handed out.
use Rattle.std.specs.Prelude.{◌≡◌}
use Rattle.yaml_parse.specs.declared.stream.Stream.{Stream}

-- the text and the events that were handed out stay the same
abbrev pub Keeps : Stream → Stream → Type 0
Keeps old new = (new.text.now ≡ old.text.now) × (new.events.handed.items ≡ old.events.handed.items)
