-- Sets: which are those of data, and what they keep.
use Rattle.std.specs.Prelude.{◌≡◌, List, [], ◌∷◌, All}
use Rattle.std.specs.declared.cmp.Ordering.{Ordering}
use Rattle.std.specs.BTreeSet.{BTreeSet, insert_key, IsOrdered}
use Rattle.yaml_shape.specs.PlainData.{PlainData, PlainItems, seq_data}
use Rattle.yaml_types.specs.BuiltParts.{BuiltItems}

-- The elements of a set once each of these was put in, in order: a new one comes to its place by the order of elements,
-- and of equal ones the first stays.
abbrev pub inserted_all : {T : Type 0} → (T → T → Ordering) → (before : List T) → List T → List T
inserted_all cmp before [] = before
inserted_all cmp before (x ∷ xs) = inserted_all cmp (insert_key cmp before x) xs

-- the elements of a set that the values of the items were put in, in order
abbrev pub BuiltMembers : {T : Type 0} → (T → T → Ordering) → (PlainData → T → Type 0) → PlainItems → List T → Type 0
BuiltMembers {T} cmp built ds members = (xs : List T) × BuiltItems built ds xs × (members ≡ inserted_all cmp [] xs)

-- the elements of a set that the values of a sequence's elements were put in, in order
abbrev pub BuiltSet : {T : Type 0} → (T → T → Ordering) → (PlainData → T → Type 0) → PlainData → List T → Type 0
BuiltSet cmp built (seq_data ds) members = BuiltMembers cmp built ds members
BuiltSet cmp built _ members = ⊥

-- each element keeps what values of its type do, and they ascend
abbrev pub SetKeeps : {T : Type 0} → (T → T → Ordering) → (T → Type 0) → BTreeSet T → Type 0
SetKeeps cmp kept s = All kept s.keys × IsOrdered cmp s
