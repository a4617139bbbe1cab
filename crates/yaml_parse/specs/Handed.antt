-- The events of a parser: all that it made of its tokens, and those of them that it handed out.
use Rattle.std.specs.Prelude.{List, ℕ}
use Rattle.std.specs.VecDeque.{deque_len}
use Rattle.yaml_base.specs.Position.{Position}
use Rattle.yaml_base.specs.declared.event.Event.{Event}
use Rattle.yaml_parse.specs.declared.parser.Parser.{Parser}

abbrev pub made_so_far : Parser → List (Event × Position)
made_so_far parser = parser.machine.stream.events.made.items

abbrev pub handed_out : Parser → List (Event × Position)
handed_out parser = parser.machine.stream.events.handed.items

-- how many were not handed out
abbrev pub waiting : Parser → ℕ
waiting parser = deque_len parser.machine.stream.events.waiting
