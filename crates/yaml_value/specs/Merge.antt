-- What merging leaves of a value, and the fault at which it stops, if it does.
use Rattle.std.specs.Prelude.{◌≡◌, ℕ, zero, suc, [], ◌∷◌, Option, Some, None, false, if◌then◌else◌}
use Rattle.std.specs.Prelude.{Result, Ok, Err, is_some}
use Rattle.yaml_base.specs.Answer.{is_memory}
use Rattle.yaml_base.specs.declared.error.Cause.{Cause}
use Rattle.yaml_base.specs.declared.error.Cause.TheVariants as cause
use Rattle.yaml_value.specs.Find.{item_in_place, value_at, value_in_place, with_value, without_key}
use Rattle.yaml_value.specs.PlainValue.{PlainValue, text, sequence, mapping, tagged}
use Rattle.yaml_value.specs.PlainValue.{PlainItems, no_items, item, PlainPairs, no_pairs, pair, with_last}

-- what is left, and the fault
abbrev pub Left : Type 0 → Type 0
Left T = T × Option Cause

-- what is left, seen otherwise
abbrev pub left_as : {S T : Type 0} → (S → T) → Left S → Left T
left_as f left = (f left.0, left.1)

-- what a second step leaves behind a first one, which a fault may have stopped
abbrev pub then_left : {T : Type 0} → Left T → (T → Left T) → Left T
then_left (x, None) go = go x
then_left (x, Some fault) go = (x, Some fault)

-- what is left of a list whose first part leaves something; the rest stays as it is behind a fault
abbrev pub and_rest : {S T : Type 0} → (S → T → T) → Left S → (rest : T) → Left T → Left T
and_rest put (x, None) rest left = left_as (put x) left
and_rest put (x, Some fault) rest left = (put x rest, Some fault)

-- the pairs with one more, unless its key is there
abbrev pub with_new : PlainPairs → (key value : PlainValue) → PlainPairs
with_new ps k v = if is_some (value_at k ps) then ps else with_last ps k v

-- the pairs with those of others whose keys are not there, one by one
abbrev pub with_missing : PlainPairs → PlainPairs → PlainPairs
with_missing ps no_pairs = ps
with_missing ps (pair k v qs) = with_missing (with_new ps k v) qs

-- the pairs with those of an element of what is merged
abbrev pub with_element : PlainPairs → PlainValue → Left PlainPairs
with_element ps (mapping qs) = (with_missing ps qs, None)
with_element ps (sequence vs) = (ps, Some cause.SequenceInMergeElement)
with_element ps (tagged t v) = (ps, Some cause.TaggedInMerge)
with_element ps _ = (ps, Some cause.ScalarInMergeElement)

-- the pairs with those of each element, the first ones first
abbrev pub with_elements : PlainPairs → PlainItems → Left PlainPairs
with_elements ps no_items = (ps, None)
with_elements ps (item v vs) = then_left (with_element ps v) (λ qs. with_elements qs vs)

-- the pairs with those of what stands at the merge key, if it is there
abbrev pub with_merged : PlainPairs → Option PlainValue → Left PlainPairs
with_merged ps None = (ps, None)
with_merged ps (Some (mapping qs)) = (with_missing ps qs, None)
with_merged ps (Some (sequence vs)) = with_elements ps vs
with_merged ps (Some (tagged t v)) = (ps, Some cause.TaggedInMerge)
with_merged ps (Some _) = (ps, Some cause.ScalarInMerge)

-- the text `<<`
abbrev pub merge_key : PlainValue
merge_key = text (60 ∷ 60 ∷ [])

-- the pairs without the merge key, with what stood there behind them
abbrev pub own_merged : PlainPairs → Left PlainPairs
own_merged ps = with_merged (without_key merge_key ps) (value_at merge_key ps)

-- each value, in order
abbrev pub each_value : (PlainValue → Left PlainValue) → PlainPairs → Left PlainPairs
each_value f no_pairs = (no_pairs, None)
each_value f (pair k v ps) = and_rest (pair k) (f v) ps (each_value f ps)

abbrev pub each_item : (PlainValue → Left PlainValue) → PlainItems → Left PlainItems
each_item f no_items = (no_items, None)
each_item f (item v vs) = and_rest item (f v) vs (each_item f vs)

-- a value with its merge keys merged, and then those of its parts, so many one within the other
abbrev pub merged : ℕ → PlainValue → Left PlainValue
merged zero v = (v, Some cause.RepetitionLimitExceeded)
merged (suc n) (mapping ps) = left_as mapping (then_left (own_merged ps) (each_value (merged n)))
merged (suc n) (sequence vs) = left_as sequence (each_item (merged n) vs)
merged (suc n) (tagged t v) = left_as (tagged t) (merged n v)
merged (suc n) v = (v, None)

-- a call left what is to be left, and answered the fault; or memory was wanting
abbrev pub Leaves : {T : Type 0} → Result (Unit {0}) Cause → T → Left T → Type 0
Leaves (Ok _) new left = left ≡ (new, None)
Leaves (Err fault) new left = is_memory fault ≡ false → left ≡ (new, Some fault)

-- the items with another one in a place
abbrev pub with_item_at : ℕ → PlainValue → PlainItems → PlainItems
with_item_at place v no_items = no_items
with_item_at zero v (item u vs) = item v vs
with_item_at (suc place) v (item u vs) = item u (with_item_at place v vs)

-- a step at the value of the pair in a place, which leaves what is to be left of it
abbrev pub LeavesPair : ℕ → (PlainValue → Left PlainValue) → Result (Unit {0}) Cause → (old new : PlainPairs) → Type 0
LeavesPair place f result old new =
    (v w : PlainValue) × (value_in_place place old ≡ Some v) × (new ≡ with_value place w old)
    × Leaves result w (f v)

-- the same at the item in a place
abbrev pub LeavesItem : ℕ → (PlainValue → Left PlainValue) → Result (Unit {0}) Cause → (old new : PlainItems) → Type 0
LeavesItem place f result old new =
    (v w : PlainValue) × (item_in_place place old ≡ Some v) × (new ≡ with_item_at place w old)
    × Leaves result w (f v)

-- so many values one within the other are gone into
abbrev pub merge_nestings : ℕ
merge_nestings = 1000
