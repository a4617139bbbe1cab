-- What the first merge key of a document tells.
use Rattle.std.proofs.Common.{◌≡◌, ℕ, Option, None, Some, slice_get}
use Rattle.std.specs.Option.{option_map}
use Rattle.yaml_base.specs.PlainDocEvent.{PlainDocEvent}
use Rattle.yaml_base.specs.Position.{Position}
use Rattle.yaml_base.specs.declared.error.Cause.{Cause}
use Rattle.yaml_merge.specs.MergeKeys.{Events, first_merge_key}
use Rattle.yaml_merge.specs.Treated.{RefusesFirst, refusal}

-- what stands where a mark is
marked : (found : Option (PlainDocEvent × Position)) (mark : Position) → option_map (λ e. e.1) found ≡ Some mark
    → (event : PlainDocEvent) × (found ≡ Some (event, mark))
marked (Some (event, at)) mark h = (event, cc)
marked None mark h = absurd cc

-- the fault with the mark that stands there refuses the first merge key
pub refuses : (events : Events) (place : ℕ) (mark : Position) (fault : Cause) → first_merge_key events ≡ Some place
    → option_map (λ e. e.1) (slice_get events place) ≡ Some mark → fault ≡ refusal mark → RefusesFirst events fault
refuses events place mark fault first at tells =
    let there = marked (slice_get events place) mark at in
    record { place = place; mark = mark; event = there.0; first = first; at = there.1; tells = tells }
