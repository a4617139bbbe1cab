-- The events of one node, told by what may follow the first of them.
use Rattle.std.specs.Prelude.{◌≡◌, ℕ, List, [], ◌∷◌, ◌++◌, map, Option, Some}
use Rattle.yaml_base.specs.DocTree.{DocNode, DocNodes, DocPairs, events_of, events_of_nodes, events_of_pairs}
use Rattle.yaml_base.specs.PlainDocEvent.{PlainDocEvent, sequence_ends, mapping_ends}
use Rattle.yaml_base.specs.StreamMachine.{State, before_root, within}
use Rattle.yaml_base.specs.declared.open.Open.{Open}
use Rattle.yaml_base.specs.declared.open.Open.TheVariants.{Sequence, Key, Value}
use Rattle.yaml_tape.specs.OnDocs.{doc_by, docs_from}
use Rattle.yaml_tape.specs.declared.entry.Entry.{Entry}
use Rattle.yaml_tape.specs.declared.entry.EntryKind.{EntryKind}
use Rattle.yaml_tape.specs.declared.entry.Names.{Names}
use Rattle.yaml_tape.specs.declared.tape.Tape.{Tape}

-- what entries are as events of a document; none is of what is no part of a node
abbrev pub Docs : Type 0
Docs = List (Option PlainDocEvent)

-- these events end the collections that are open, the innermost first, and then the rest comes
abbrev pub EndAll : List Open → (events rest : Docs) → Type 0
EndAll [] events rest = events ≡ rest
EndAll (Sequence ∷ opened) events rest = (nodes : DocNodes) × (behind : Docs)
    × (events ≡ map Some (events_of_nodes nodes) ++ Some sequence_ends ∷ behind) × EndAll opened behind rest
EndAll (Key ∷ opened) events rest = (pairs : DocPairs) × (behind : Docs)
    × (events ≡ map Some (events_of_pairs pairs) ++ Some mapping_ends ∷ behind) × EndAll opened behind rest
EndAll (Value ∷ opened) events rest = (value : DocNode) × (pairs : DocPairs) × (behind : Docs)
    × (events ≡ map Some (events_of value) ++ (map Some (events_of_pairs pairs) ++ Some mapping_ends ∷ behind))
    × EndAll opened behind rest

-- these events are a document's node, or what is missing of one, and then the rest comes
abbrev pub Completes : State → (events rest : Docs) → Type 0
Completes before_root events rest = (root : DocNode) × (events ≡ map Some (events_of root) ++ rest)
Completes (within opened) events rest = EndAll opened events rest
Completes _ events rest = ⊥

-- an entry of this kind leads from a state to another: it stands before what is missing in the other
abbrev pub IsStep : State → EntryKind → State → Type 0
IsStep old k new = (text arena : List ℕ) (names : List Names) (e : Entry) (events rest : Docs) → e.kind ≡ k
    → Completes new events rest → Completes old (doc_by text arena names e ∷ events) rest

-- the entries between two places are the events of a node, without an alias
abbrev pub IsNode : Tape → (from to : ℕ) → Type 0
IsNode t from to = (root : DocNode) × (docs_from t from ≡ map Some (events_of root) ++ docs_from t to)
