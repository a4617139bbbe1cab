-- Values built of items one by one, as a loop does it.
use Rattle.std.proofs.Common.{ℕ, List, [], ◌∷◌, ◌++◌, sym, subst, inr, append_assoc, append-nil}
use Rattle.std.specs.Prelude.{IsTrue, string_bytes}
use Rattle.yaml_tree.specs.TakeOut.{and_right}
use Rattle.yaml_shape.specs.PlainData.{PlainData, PlainItems, no_items, item}
use Rattle.yaml_shape.specs.HasShape.{has_shape, all_have}
use Rattle.yaml_types.specs.Start.{Start}
use Rattle.yaml_types.specs.BuildRefusal.{IsBuildRefusal}
use Rattle.yaml_types.specs.BuiltParts.{BuiltItems}
use Rattle.yaml_types.specs.RefusalParts.{RefusedItems}
use Rattle.yaml_types.specs.declared.fault.BuildFault.{BuildFault}
use Rattle.yaml_types.specs.declared.fault.BuildFault.TheVariants.{Memory, Message}

-- a fault that is one of some messages is one of more
pub told_by : (P Q : List ℕ → Type 0) (fault : BuildFault) → ((message : List ℕ) → P message → Q message)
    → IsBuildRefusal P fault → IsBuildRefusal Q fault
told_by P Q Memory more h = tt
told_by P Q (Message text) more h = more (string_bytes text) h

-- what the rest of the items gives decides what the whole does
pub record IsBuilding {T : Type 0} (s : Start) (built : PlainData → T → Type 0) (refused : PlainData → List ℕ → Type 0)
    (whole : PlainItems) (values : List T) (rest : PlainItems) : Type 0 where
  pub shaped : IsTrue (all_have s.0 s.1 rest)
  pub rest_built : (more : List T) → BuiltItems built rest more → BuiltItems built whole (values ++ more)
  pub rest_refused : (message : List ℕ) → RefusedItems built refused rest message
      → RefusedItems built refused whole message

module _ {T : Type 0} (s : Start) (built : PlainData → T → Type 0) (refused : PlainData → List ℕ → Type 0)
    (whole : PlainItems) where
  -- one more
  pub building_more : (values : List T) (d : PlainData) (ds : PlainItems) (x : T)
      → IsBuilding s built refused whole values (item d ds) → built d x
      → IsBuilding s built refused whole (values ++ x ∷ []) ds
  building_more values d ds x are b = record {
    shaped = and_right (has_shape s.0 s.1 d) _ are.shaped;
    rest_built = λ more h. subst (BuiltItems built whole) (sym (append_assoc values (x ∷ []) more))
        (are.rest_built (x ∷ more) (b, h));
    rest_refused = λ message h. are.rest_refused message (inr ((x, b), h));
  }

  -- all
  pub building_all : (values : List T) → IsBuilding s built refused whole values no_items
      → BuiltItems built whole values
  building_all values are = subst (BuiltItems built whole) (append-nil values) (are.rest_built [] tt)
