-- What stands behind a node, by the collections that are open.
use Rattle.std.specs.Prelude.{ℕ, zero, suc, List, [], ◌∷◌, Option, Some}
use Rattle.yaml_base.specs.PlainDocEvent.{PlainDocEvent, sequence_begins, sequence_ends, mapping_begins, mapping_ends}

-- one less, where there is one
abbrev pub one_less : ℕ → ℕ
one_less zero = zero
one_less (suc n) = n

-- how many collections are open behind an event
abbrev pub opened : (depth : ℕ) → Option PlainDocEvent → ℕ
opened depth (Some (sequence_begins tag)) = suc depth
opened depth (Some (mapping_begins tag)) = suc depth
opened depth (Some sequence_ends) = one_less depth
opened depth (Some mapping_ends) = one_less depth
opened depth _ = depth

-- the first where none is open, else the second
abbrev pub where_closed : (depth : ℕ) → (closed still : List (Option PlainDocEvent)) → List (Option PlainDocEvent)
where_closed zero closed still = closed
where_closed (suc depth) closed still = still

-- what stands behind the first event behind which no collection is open, where so many are
abbrev pub behind : (depth : ℕ) → List (Option PlainDocEvent) → List (Option PlainDocEvent)
behind depth [] = []
behind depth (e ∷ es) = where_closed (opened depth e) es (behind (opened depth e) es)
