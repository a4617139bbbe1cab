-- Which part of a stream comes next, in two states.
use Rattle.std.specs.Prelude.{◌≡◌, ◌↔◌}
use Rattle.yaml_base.specs.StreamMachine.{State, between_documents}

-- a document or the end of the stream may come in both or in neither
abbrev pub IsBetweenLike : (old new : State) → Type 0
IsBetweenLike old new = (new ≡ between_documents) ↔ (old ≡ between_documents)
