-- What follows an entry of a node, with the entry before it.
use Rattle.std.proofs.Common.{◌≡◌, ◌∙◌, ◌++◌, ◌∷◌, [], List, None, Option, Some, ap, append_assoc, drop, map, refl, subst, suc}
use Rattle.std.proofs.Common.{sym, zero, arith, ℕ, ◌+◌}
use Rattle.std.proofs.lemmas.List.{map-append}
use Rattle.std.proofs.lemmas.Option.{none-some}
use Rattle.std.specs.Prelude.{IfSome, slice_get, unwrap_or}
use Rattle.yaml_base.specs.DocTree.{DocNode, DocNodes, DocPairs, events_of, events_of_nodes, events_of_pairs, list}
use Rattle.yaml_base.specs.DocTree.{mapping, no_nodes, no_pairs, node, pair, word}
use Rattle.yaml_base.specs.PlainDocEvent.{PlainDocEvent, a_scalar, mapping_begins, mapping_ends, sequence_begins}
use Rattle.yaml_base.specs.PlainDocEvent.{sequence_ends}
use Rattle.yaml_base.specs.PlainEvent.{PlainEvent, PlainScalar, mapping_end, mapping_start, scalar, sequence_end}
use Rattle.yaml_base.specs.PlainEvent.{sequence_start}
use Rattle.yaml_base.specs.StreamMachine.{State, after_stream, before_root, before_stream, between_documents, next_state}
use Rattle.yaml_base.specs.StreamMachine.{within}
use Rattle.yaml_base.specs.declared.event.ScalarStyle.TheVariants.{Plain}
use Rattle.yaml_base.specs.declared.open.Open.{Open}
use Rattle.yaml_base.specs.declared.open.Open.TheVariants.{Sequence, Key, Value}
use Rattle.yaml_load.specs.StreamPhases.{IsClean, Moves, phase_state}
use Rattle.yaml_load.specs.declared.check.Phase.{Phase}
use Rattle.yaml_tape.specs.OnDocs.{doc_by, docs_from, doc_event_by}
use Rattle.yaml_tape.specs.declared.entry.Entry.{Entry}
use Rattle.yaml_tape.specs.declared.entry.EntryKind.{EntryKind}
use Rattle.yaml_tape.specs.declared.entry.EntryKind.TheVariants as kind
use Rattle.yaml_tape.specs.declared.entry.Names.{Names}
use Rattle.yaml_tape.specs.declared.tape.Tape.{Tape}
use Rattle.yaml.specs.OneNode.{Completes, Docs, EndAll, IsStep}

-- the entry in a place is the first from there on
drop_get : (es : List Entry) (p : ℕ) (e : Entry) → slice_get es p ≡ Some e → drop p es ≡ e ∷ drop (suc p) es
drop_get [] zero e h = absurd (none-some _ h)
drop_get [] (suc p) e h = absurd (none-some _ h)
drop_get (x ∷ es) zero e h = ap (λ o. unwrap_or o x ∷ es) h
drop_get (x ∷ es) (suc p) e h = drop_get es p e h

pub next_doc : (t : Tape) (p : ℕ) (e : Entry) → slice_get t.entries.items p ≡ Some e
    → docs_from t p ≡ doc_by t.text.now t.arena.items t.names.items e ∷ docs_from t (p + 1)
next_doc t p e h =
    let next : suc p ≡ p + 1 = omega arith in
    let doc = doc_by t.text.now t.arena.items t.names.items in
    subst (λ z. docs_from t p ≡ doc e ∷ docs_from t z) next (ap (map doc) (drop_get t.entries.items p e h))

-- events of one part and those of another, and what is left
two : (a b : List PlainDocEvent) (d : Docs) → map Some a ++ (map Some b ++ d) ≡ map Some (a ++ b) ++ d
two a b d = sym (append_assoc (map Some a) (map Some b) d) ∙ ap (λ z. z ++ d) (sym (map-append Some a b))

closed : (a : List PlainDocEvent) (e : PlainDocEvent) (d : Docs)
    → map Some a ++ (Some e ∷ d) ≡ map Some (a ++ e ∷ []) ++ d
closed a e d = two a (e ∷ []) d

same_state : {a b : State} → Some a ≡ Some b → a ≡ b
same_state h = cc

back : (new old : State) (events rest : Docs) → Some old ≡ Some new → Completes new events rest
    → Completes old events rest
back new old events rest h c = subst (λ s. Completes s events rest) (sym (same_state h)) c

-- a node, and what ends what is open behind it
abbrev NodeThen : List Open → (events rest : Docs) → Type 0
NodeThen opened events rest = (n : DocNode) × (behind : Docs) × (events ≡ map Some (events_of n) ++ behind)
    × EndAll opened behind rest

at_root : (events rest : Docs) → NodeThen [] events rest → Completes before_root events rest
at_root events rest h = (h.0, h.2 ∙ ap (λ z. map Some (events_of h.0) ++ z) h.3)

in_sequence : (o : List Open) (events rest : Docs) → NodeThen (Sequence ∷ o) events rest
    → EndAll (Sequence ∷ o) events rest
in_sequence o events rest (n, behind, is, (nodes, more, ends, all)) = (
  node n nodes,
  more,
  is ∙ ap (λ z. map Some (events_of n) ++ z) ends
      ∙ two (events_of n) (events_of_nodes nodes) (Some sequence_ends ∷ more),
  all,
)

in_key : (o : List Open) (events rest : Docs) → NodeThen (Value ∷ o) events rest → EndAll (Key ∷ o) events rest
in_key o events rest (n, behind, is, (value, pairs, more, ends, all)) =
    let inner = two (events_of value) (events_of_pairs pairs) (Some mapping_ends ∷ more) in (
      pair n value pairs,
      more,
      is ∙ ap (λ z. map Some (events_of n) ++ z) (ends ∙ inner)
          ∙ two (events_of n) (events_of value ++ events_of_pairs pairs) (Some mapping_ends ∷ more),
      all,
    )

in_value : (o : List Open) (events rest : Docs) → NodeThen (Key ∷ o) events rest → EndAll (Value ∷ o) events rest
in_value o events rest (n, behind, is, (pairs, more, ends, all)) =
    (n, pairs, more, is ∙ ap (λ z. map Some (events_of n) ++ z) ends, all)

-- a node that begins with an event stands before what is missing behind it, in a document or in a collection
scalar_step : (old new : State) (s w : PlainScalar) (events rest : Docs) → next_state old (scalar s) ≡ Some new
    → Completes new events rest → Completes old (Some (a_scalar w) ∷ events) rest
scalar_step before_root new s w events rest h c =
    at_root (Some (a_scalar w) ∷ events) rest (word w, events, refl, back new (within []) events rest h c)
scalar_step (within (Sequence ∷ o)) new s w events rest h c =
    in_sequence o (Some (a_scalar w) ∷ events) rest
    (word w, events, refl, back new (within (Sequence ∷ o)) events rest h c)
scalar_step (within (Key ∷ o)) new s w events rest h c =
    in_key o (Some (a_scalar w) ∷ events) rest (word w, events, refl, back new (within (Value ∷ o)) events rest h c)
scalar_step (within (Value ∷ o)) new s w events rest h c =
    in_value o (Some (a_scalar w) ∷ events) rest (word w, events, refl, back new (within (Key ∷ o)) events rest h c)
scalar_step (within []) new s w events rest h c = absurd (none-some _ h)
scalar_step before_stream new s w events rest h c = absurd (none-some _ h)
scalar_step between_documents new s w events rest h c = absurd (none-some _ h)
scalar_step after_stream new s w events rest h c = absurd (none-some _ h)

-- a sequence, of which what is missing is told
whole_list : (o : List Open) (tag : Option (List ℕ)) (events rest : Docs) → EndAll (Sequence ∷ o) events rest
    → NodeThen o (Some (sequence_begins tag) ∷ events) rest
whole_list o tag events rest (nodes, behind, is, all) = (
  list tag nodes,
  behind,
  ap (λ z. Some (sequence_begins tag) ∷ z) (is ∙ closed (events_of_nodes nodes) sequence_ends behind),
  all,
)

whole_mapping : (o : List Open) (tag : Option (List ℕ)) (events rest : Docs) → EndAll (Key ∷ o) events rest
    → NodeThen o (Some (mapping_begins tag) ∷ events) rest
whole_mapping o tag events rest (pairs, behind, is, all) = (
  mapping tag pairs,
  behind,
  ap (λ z. Some (mapping_begins tag) ∷ z) (is ∙ closed (events_of_pairs pairs) mapping_ends behind),
  all,
)

sequence_step : (old new : State) (a g tag : Option (List ℕ)) (events rest : Docs)
    → next_state old (sequence_start a g) ≡ Some new → Completes new events rest
    → Completes old (Some (sequence_begins tag) ∷ events) rest
sequence_step before_root new a g tag events rest h c =
    at_root _ rest (whole_list [] tag events rest (back new (within (Sequence ∷ [])) events rest h c))
sequence_step (within (Sequence ∷ o)) new a g tag events rest h c =
    in_sequence o _ rest
    (whole_list (Sequence ∷ o) tag events rest (back new (within (Sequence ∷ Sequence ∷ o)) events rest h c))
sequence_step (within (Key ∷ o)) new a g tag events rest h c =
    in_key o _ rest
    (whole_list (Value ∷ o) tag events rest (back new (within (Sequence ∷ Value ∷ o)) events rest h c))
sequence_step (within (Value ∷ o)) new a g tag events rest h c =
    in_value o _ rest (whole_list (Key ∷ o) tag events rest (back new (within (Sequence ∷ Key ∷ o)) events rest h c))
sequence_step (within []) new a g tag events rest h c = absurd (none-some _ h)
sequence_step before_stream new a g tag events rest h c = absurd (none-some _ h)
sequence_step between_documents new a g tag events rest h c = absurd (none-some _ h)
sequence_step after_stream new a g tag events rest h c = absurd (none-some _ h)

mapping_step : (old new : State) (a g tag : Option (List ℕ)) (events rest : Docs)
    → next_state old (mapping_start a g) ≡ Some new → Completes new events rest
    → Completes old (Some (mapping_begins tag) ∷ events) rest
mapping_step before_root new a g tag events rest h c =
    at_root _ rest (whole_mapping [] tag events rest (back new (within (Key ∷ [])) events rest h c))
mapping_step (within (Sequence ∷ o)) new a g tag events rest h c =
    in_sequence o _ rest
    (whole_mapping (Sequence ∷ o) tag events rest (back new (within (Key ∷ Sequence ∷ o)) events rest h c))
mapping_step (within (Key ∷ o)) new a g tag events rest h c =
    in_key o _ rest
    (whole_mapping (Value ∷ o) tag events rest (back new (within (Key ∷ Value ∷ o)) events rest h c))
mapping_step (within (Value ∷ o)) new a g tag events rest h c =
    in_value o _ rest (whole_mapping (Key ∷ o) tag events rest (back new (within (Key ∷ Key ∷ o)) events rest h c))
mapping_step (within []) new a g tag events rest h c = absurd (none-some _ h)
mapping_step before_stream new a g tag events rest h c = absurd (none-some _ h)
mapping_step between_documents new a g tag events rest h c = absurd (none-some _ h)
mapping_step after_stream new a g tag events rest h c = absurd (none-some _ h)

-- the end of a collection is the first that is missing in it
sequence_end_step : (old new : State) (events rest : Docs) → next_state old sequence_end ≡ Some new
    → Completes new events rest → Completes old (Some sequence_ends ∷ events) rest
sequence_end_step (within (Sequence ∷ o)) new events rest h c =
    (no_nodes, events, refl, back new (within o) events rest h c)
sequence_end_step (within (Key ∷ o)) new events rest h c = absurd (none-some _ h)
sequence_end_step (within (Value ∷ o)) new events rest h c = absurd (none-some _ h)
sequence_end_step (within []) new events rest h c = absurd (none-some _ h)
sequence_end_step before_root new events rest h c = absurd (none-some _ h)
sequence_end_step before_stream new events rest h c = absurd (none-some _ h)
sequence_end_step between_documents new events rest h c = absurd (none-some _ h)
sequence_end_step after_stream new events rest h c = absurd (none-some _ h)

mapping_end_step : (old new : State) (events rest : Docs) → next_state old mapping_end ≡ Some new
    → Completes new events rest → Completes old (Some mapping_ends ∷ events) rest
mapping_end_step (within (Key ∷ o)) new events rest h c =
    (no_pairs, events, refl, back new (within o) events rest h c)
mapping_end_step (within (Sequence ∷ o)) new events rest h c = absurd (none-some _ h)
mapping_end_step (within (Value ∷ o)) new events rest h c = absurd (none-some _ h)
mapping_end_step (within []) new events rest h c = absurd (none-some _ h)
mapping_end_step before_root new events rest h c = absurd (none-some _ h)
mapping_end_step before_stream new events rest h c = absurd (none-some _ h)
mapping_end_step between_documents new events rest h c = absurd (none-some _ h)
mapping_end_step after_stream new events rest h c = absurd (none-some _ h)

-- what an entry of a kind is
kind_is : (k : EntryKind) (text arena : List ℕ) (names : List Names) (e : Entry) → e.kind ≡ k
    → doc_by text arena names e ≡ doc_event_by k text arena names e
kind_is k text arena names e h = ap (λ x. doc_event_by x text arena names e) h

module _ (old new : State) where
  of_doc : (k : EntryKind) → ((text arena : List ℕ) (names : List Names) (e : Entry) (events rest : Docs)
      → Completes new events rest → Completes old (doc_event_by k text arena names e ∷ events) rest)
      → IsStep old k new
  of_doc k step text arena names e events rest h c =
      subst (λ d. Completes old (d ∷ events) rest) (sym (kind_is k text arena names e h))
      (step text arena names e events rest c)

  pub scalar_is_step : (s : PlainScalar) → next_state old (scalar s) ≡ Some new → IsStep old kind.Scalar new
  scalar_is_step s h =
      of_doc kind.Scalar (λ text arena names e events rest c. scalar_step old new s _ events rest h c)

  pub sequence_is_step : (a g : Option (List ℕ)) → next_state old (sequence_start a g) ≡ Some new
      → IsStep old kind.SequenceStart new
  sequence_is_step a g h =
      of_doc kind.SequenceStart (λ text arena names e events rest c. sequence_step old new a g _ events rest h c)

  pub mapping_is_step : (a g : Option (List ℕ)) → next_state old (mapping_start a g) ≡ Some new
      → IsStep old kind.MappingStart new
  mapping_is_step a g h =
      of_doc kind.MappingStart (λ text arena names e events rest c. mapping_step old new a g _ events rest h c)

  pub sequence_end_is_step : next_state old sequence_end ≡ Some new → IsStep old kind.SequenceEnd new
  sequence_end_is_step h =
      of_doc kind.SequenceEnd (λ text arena names e events rest c. sequence_end_step old new events rest h c)

  pub mapping_end_is_step : next_state old mapping_end ≡ Some new → IsStep old kind.MappingEnd new
  mapping_end_is_step h =
      of_doc kind.MappingEnd (λ text arena names e events rest c. mapping_end_step old new events rest h c)

-- a scalar without anything
pub no_scalar : PlainScalar
no_scalar = record { anchor = None; tag = None; text = []; style = Plain; source = None }

-- what is known of a phase that is found, if one is
module _ (phase : Phase) (old new : List Open) where
  pub stays_clean : (e : PlainEvent) (found : Option Phase) → Moves phase old e new found
      → IfSome found (λ p. IsClean p new)
  stays_clean e None m = tt
  stays_clean e (Some p) m = m.1

  pub goes_on : (k : EntryKind) (e : PlainEvent) (found : Option Phase)
      → ((new_state : State) → next_state (phase_state phase old) e ≡ Some new_state
      → IsStep (phase_state phase old) k new_state)
      → Moves phase old e new found → IfSome found (λ p. IsStep (phase_state phase old) k (phase_state p new))
  goes_on k e None step m = tt
  goes_on k e (Some p) step m = step (phase_state p new) m.0
