-- What becomes of a document by what is done with merge keys.
use Rattle.std.specs.Prelude.{◌≡◌, ℕ, None, Some, codes, is_some, slice_get, true}
use Rattle.yaml_base.specs.PlainDocEvent.{PlainDocEvent}
use Rattle.yaml_base.specs.PlainDocument.{PlainDocument}
use Rattle.yaml_base.specs.Position.{Position}
use Rattle.yaml_base.specs.declared.error.Cause.{Cause}
use Rattle.yaml_base.specs.declared.error.Cause.TheVariants.{Custom}
use Rattle.yaml_merge.specs.MergeKeys.{Events, first_merge_key}
use Rattle.yaml_merge.specs.declared.merge.Merge.{Merge}
use Rattle.yaml_merge.specs.declared.merge.Merge.TheVariants.{Keep, Apply, Refuse}

-- The document stays where merge keys are kept. Where they are refused it has none, and stays. Where they are applied
-- it stays if it has none; another one is cut off as this one is, and has none.
abbrev pub IsTreated : Merge → (document treated : PlainDocument) → Type 0
IsTreated Keep document treated = treated ≡ document
IsTreated Refuse document treated = (treated ≡ document) × (first_merge_key document.events ≡ None)
IsTreated Apply document treated =
    (first_merge_key document.events ≡ None → treated ≡ document) × (treated.ending ≡ document.ending)
    × (first_merge_key treated.events ≡ None)

-- merge keys are refused, and this is the mark of one; no path is told
abbrev pub refusal : Position → Cause
refusal mark = Custom (codes "merge keys are not allowed") (Some (record { mark = mark; path = codes "." }))

-- the fault tells the mark of the first merge key of these events
pub record RefusesFirst (events : Events) (fault : Cause) : Type 0 where
  pub place : ℕ
  pub mark : Position
  pub event : PlainDocEvent
  pub first : first_merge_key events ≡ Some place
  pub at : slice_get events place ≡ Some (event, mark)
  pub tells : fault ≡ refusal mark

-- The document is refused for this reason, by what is done with merge keys: none where they are kept; where they are
-- refused, for the first; where they are applied, only if it has one, and if it was cut off, by the fault that did.
abbrev pub IsUntreated : Merge → PlainDocument → (fault : Cause) → Type 0
IsUntreated Keep document fault = ⊥
IsUntreated Refuse document fault = RefusesFirst document.events fault
IsUntreated Apply document fault = (is_some (first_merge_key document.events) ≡ true)
    × ((cut : Cause) → document.ending ≡ Some cut → fault ≡ cut)
