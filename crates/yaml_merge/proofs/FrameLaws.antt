-- The same steps, where the frames stand as the code has them: the innermost last.
use Rattle.std.proofs.Common.{◌≡◌, ◌∷◌, ◌++◌, ◌<◌, ◌≤◌, ℕ, List, [], Option, Some, refl, sym, ap, ◌∙◌, subst}
use Rattle.std.proofs.Common.{Bool, true, false, reverse, length, arith}
use Rattle.std.proofs.lemmas.List.{reverse-append}
use Rattle.yaml_base.specs.PlainDocEvent.{mapping_begins, sequence_begins}
use Rattle.yaml_base.specs.PlainEvent.{PlainEvent, alias, sequence_end}
use Rattle.yaml_base.specs.PlainEvent.{mapping_end}
use Rattle.yaml_base.specs.Position.{Position}
use Rattle.yaml_merge.specs.MergeKeys.{Events}
use Rattle.yaml_merge.specs.Names.{name_of}
use Rattle.yaml_merge.specs.Writing.{Begins, GoesOn, IsMappingOf, IsSequenceOf}
use Rattle.yaml_merge.specs.Writing.{behind_at, end_at, event_at, is_merge_key_at}
use Rattle.yaml_merge.specs.Writing.{next_to, target_at}
use Rattle.yaml_merge.specs.declared.plan.Entry.{Entry}
use Rattle.yaml_merge.specs.declared.writer.Frame.{Frame}
use Rattle.yaml_merge.specs.declared.writer.Frame.TheVariants as frame
use Rattle.yaml_merge.proofs.WritingLaws.{alias_begins, element_goes, elements_end, given_end, given_goes}
use Rattle.yaml_merge.proofs.WritingLaws.{given_value_goes, key_goes, key_passes, mapping_begins_there}
use Rattle.yaml_merge.proofs.WritingLaws.{mapping_ends_there, sequence_begins_there, value_goes}

abbrev Marked : Type 0
Marked = List (PlainEvent × Position)

-- there is none where there are 0
pub empty : (frames : List Frame) → length frames ≡ 0 → frames ≡ []
empty [] h = refl
empty (f ∷ frames) h = absurd (omega arith)

-- a frame is pushed
pub pushed_frame : (old new : List Frame) (f : Frame) → new ≡ old ++ f ∷ [] → reverse new ≡ f ∷ reverse old
pushed_frame old new f is = ap reverse is ∙ reverse-append old (f ∷ [])

pub alias_goes : (events : Events) (ends : List ℕ) (old new : List Frame) (event : PlainEvent) (place at : ℕ)
    → new ≡ old → event ≡ alias (name_of place) → place ≡ at
    → Begins events ends (reverse old) (reverse new) event at
alias_goes events ends old new event place at same is there =
    subst (λ f. Begins events ends (reverse old) (reverse f) event at) (sym same)
    (alias_begins events ends (reverse old) event at (is ∙ ap (λ p. alias (name_of p)) there))

pub sequence_goes : (events : Events) (ends : List ℕ) (old new : List Frame) (event : PlainEvent) (place : ℕ)
    (tag : Option (List ℕ)) → event_at events place ≡ Some (sequence_begins tag) → IsSequenceOf tag place event
    → new ≡ old ++ frame.Elements (next_to place) (end_at ends place) ∷ []
    → Begins events ends (reverse old) (reverse new) event place
sequence_goes events ends old new event place tag at is pushed =
    subst (λ f. Begins events ends (reverse old) f event place)
    (sym (pushed_frame old new (frame.Elements (next_to place) (end_at ends place)) pushed))
    (sequence_begins_there events ends (reverse old) event place tag at is)

pub mapping_goes : (events : Events) (ends : List ℕ) (old new : List Frame) (event : PlainEvent) (place : ℕ)
    (tag : Option (List ℕ)) → event_at events place ≡ Some (mapping_begins tag) → IsMappingOf tag place event
    → new ≡ old ++ frame.Keys place (next_to place) false ∷ []
    → Begins events ends (reverse old) (reverse new) event place
mapping_goes events ends old new event place tag at is pushed =
    subst (λ f. Begins events ends (reverse old) f event place)
    (sym (pushed_frame old new (frame.Keys place (next_to place) false) pushed))
    (mapping_begins_there events ends (reverse old) event place tag at is)

-- an event is written with which a node begins, made of the one in a place
abbrev pub Begun : Events → (ends : List ℕ) → (old new : List Frame) → (place : ℕ) → (before after : Marked) → Type 0
Begun events ends old new place before after =
    (event : PlainEvent) × (mark : Position) × (after ≡ before ++ (event, mark) ∷ [])
    × Begins events ends (reverse old) (reverse new) event place

-- the steps
module _ (events : Events) (ends : List ℕ) (old mid new : List Frame) (before after : Marked) where
  begun_behind : (f : Frame) (place : ℕ) → mid ≡ old ++ f ∷ [] → Begun events ends mid new place before after
      → (event : PlainEvent) × (mark : Position) × (after ≡ before ++ (event, mark) ∷ [])
      × Begins events ends (f ∷ reverse old) (reverse new) event place
  begun_behind f place is begun = (
    begun.0,
    begun.1,
    begun.2,
    subst (λ g. Begins events ends g (reverse new) begun.0 place) (pushed_frame old mid f is) begun.3,
  )

  pub elements_end_at : (mark : Position) (at end : ℕ) → new ≡ old → end ≤ at
      → after ≡ before ++ (sequence_end, mark) ∷ []
      → GoesOn events ends (frame.Elements at end ∷ reverse old) (reverse new) before after
  elements_end_at mark at end same le is =
      subst (λ f. GoesOn events ends (frame.Elements at end ∷ reverse old) (reverse f) before after) (sym same)
      (elements_end events ends (reverse old) before after mark at end le is)

  pub element_goes_at : (at end behind : ℕ) → at < end → behind ≡ behind_at ends at
      → mid ≡ old ++ frame.Elements behind end ∷ [] → Begun events ends mid new (target_at events at) before after
      → GoesOn events ends (frame.Elements at end ∷ reverse old) (reverse new) before after
  element_goes_at at end behind lt there is begun =
      let b = begun_behind (frame.Elements (behind_at ends at) end) (target_at events at)
      (is ∙ ap (λ p. old ++ frame.Elements p end ∷ []) there) begun in
      element_goes events ends (reverse old) (reverse new) before after b.0 b.1 at end lt b.2 b.3

  pub key_passes_at : (start key next : ℕ) (merges : Bool) → key < end_at ends start
      → is_merge_key_at events key ≡ true → next ≡ behind_at ends (behind_at ends key)
      → new ≡ old ++ frame.Keys start next true ∷ [] → after ≡ before
      → GoesOn events ends (frame.Keys start key merges ∷ reverse old) (reverse new) before after
  key_passes_at start key next merges lt here there is same =
      subst (λ f. GoesOn events ends (frame.Keys start key merges ∷ reverse old) f before after)
      (sym (pushed_frame old new (frame.Keys start (behind_at ends (behind_at ends key)) true)
      (is ∙ ap (λ p. old ++ frame.Keys start p true ∷ []) there)))
      (key_passes events ends (reverse old) before after start key merges lt here same)

  pub key_goes_at : (start key value : ℕ) (merges : Bool) → key < end_at ends start
      → is_merge_key_at events key ≡ false → value ≡ behind_at ends key
      → mid ≡ old ++ frame.Values start value merges ∷ []
      → Begun events ends mid new (target_at events key) before after
      → GoesOn events ends (frame.Keys start key merges ∷ reverse old) (reverse new) before after
  key_goes_at start key value merges lt own there is begun =
      let b = begun_behind (frame.Values start (behind_at ends key) merges) (target_at events key)
      (is ∙ ap (λ p. old ++ frame.Values start p merges ∷ []) there) begun in
      key_goes events ends (reverse old) (reverse new) before after b.0 b.1 start key merges lt own b.2 b.3

  pub value_goes_at : (start value key : ℕ) (merges : Bool) → key ≡ behind_at ends value
      → mid ≡ old ++ frame.Keys start key merges ∷ [] → Begun events ends mid new (target_at events value) before after
      → GoesOn events ends (frame.Values start value merges ∷ reverse old) (reverse new) before after
  value_goes_at start value key merges there is begun =
      let b = begun_behind (frame.Keys start (behind_at ends value) merges) (target_at events value)
      (is ∙ ap (λ p. old ++ frame.Keys start p merges ∷ []) there) begun in
      value_goes events ends (reverse old) (reverse new) before after b.0 b.1 start value merges b.2 b.3

  pub mapping_end_at : (mark : Position) (start key : ℕ) (merges : Bool) → new ≡ old → end_at ends start ≤ key
      → after ≡ before ++ (mapping_end, mark) ∷ []
      → GoesOn events ends (frame.Keys start key merges ∷ reverse old) (reverse new) before after
  mapping_end_at mark start key merges same le is =
      subst (λ f. GoesOn events ends (frame.Keys start key merges ∷ reverse old) (reverse f) before after) (sym same)
      (mapping_ends_there events ends (reverse old) before after mark start key merges le is)

  pub given_end_at : (mark : Position) (start number : ℕ) → new ≡ old → after ≡ before ++ (mapping_end, mark) ∷ []
      → GoesOn events ends (frame.Given start number ∷ reverse old) (reverse new) before after
  given_end_at mark start number same is =
      subst (λ f. GoesOn events ends (frame.Given start number ∷ reverse old) (reverse f) before after) (sym same)
      (given_end events ends (reverse old) before after mark start number is)

  pub given_goes_at : (start number : ℕ) (entry : Entry) (place : ℕ)
      → mid ≡ old ++ frame.GivenValues start number entry ∷ [] → Begun events ends mid new place before after
      → GoesOn events ends (frame.Given start number ∷ reverse old) (reverse new) before after
  given_goes_at start number entry place is begun =
      let b = begun_behind (frame.GivenValues start number entry) place is begun in
      given_goes events ends (reverse old) (reverse new) before after b.0 b.1 start number entry place b.2 b.3

  pub given_value_goes_at : (start number then : ℕ) (entry : Entry) (place : ℕ)
      → mid ≡ old ++ frame.Given start then ∷ [] → Begun events ends mid new place before after
      → GoesOn events ends (frame.GivenValues start number entry ∷ reverse old) (reverse new) before after
  given_value_goes_at start number then entry place is begun =
      let b = begun_behind (frame.Given start then) place is begun in
      given_value_goes events ends (reverse old) (reverse new) before after b.0 b.1 start number then entry place b.2
      b.3
