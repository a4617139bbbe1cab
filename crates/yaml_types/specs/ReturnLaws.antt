-- Values that have parts are equal again where their parts are.
use Rattle.std.specs.Prelude.{◌≡◌, ℕ, List, [], ◌∷◌, map, Bool, true, ◌&&◌, Option, Some, None, IfSome, All, refl}
use Rattle.std.proofs.Common.{inl, inr}
use Rattle.std.specs.Option.{option_eq}
use Rattle.std.specs.Cmp.Lexicographic.{pointwise}
use Rattle.std.proofs.lemmas.List.Elements.{All-head, All-tail}
use Rattle.yaml_tree.specs.TakeOut.{from_false, and_left, and_right}
use Rattle.yaml_shape.specs.DataView.{items_of}
use Rattle.yaml_shape.specs.EqualData.{data_eq, items_eq, EqualData}
use Rattle.yaml_shape.specs.PlainData.{PlainData, PlainItems, none_data, some_data, seq_data, no_items, item}
use Rattle.yaml_types.specs.BuiltParts.{BuiltOption, BuiltItems, BuiltSeq}
use Rattle.yaml_types.specs.RefusalParts.{RefusedOption, RefusedItems, RefusedSeq}
use Rattle.yaml_types.specs.WrittenParts.{option_written, seq_written}

-- of data equal to that of a value, only values equal to it are built
abbrev pub AreReturned : {T : Type 0} → (T → Type 0) → (T → PlainData) → (PlainData → T → Type 0) → (T → T → Bool)
    → Type 0
AreReturned {T} kept written built eq =
    (x y : T) (d : PlainData) → kept x → EqualData (written x) d → built d y → eq x y ≡ true

-- such data is not refused
abbrev pub AreAccepted : {T : Type 0} → (T → PlainData) → (PlainData → List ℕ → Type 0) → Type 0
AreAccepted {T} written refused =
    (x : T) (d : PlainData) (message : List ℕ) → EqualData (written x) d → refused d message → ⊥

module _ {T : Type 0} (kept : T → Type 0) (written : T → PlainData) (built : PlainData → T → Type 0) where
  -- optionals
  pub option_returned : (eq : T → T → Bool) → AreReturned kept written built eq → (x y : Option T) (d : PlainData)
      → IfSome x kept → EqualData (option_written written x) d → BuiltOption built d y → option_eq eq x y ≡ true
  option_returned eq law None None d k e b = refl
  option_returned eq law None (Some y) (some_data a) k e b = from_false e
  option_returned eq law None (Some y) _ k e b = absurd b
  option_returned eq law (Some x) None none_data k e b = from_false e
  option_returned eq law (Some x) None _ k e b = absurd b
  option_returned eq law (Some x) (Some y) (some_data a) k e b = law x y a k e b
  option_returned eq law (Some x) (Some y) _ k e b = absurd b

  -- elements
  pub items_returned : (eq : T → T → Bool) → AreReturned kept written built eq → (xs ys : List T) (ds : PlainItems)
      → All kept xs → items_eq (items_of (map written xs)) ds ≡ true → BuiltItems built ds ys
      → pointwise eq xs ys ≡ true
  items_returned eq law [] [] ds k e b = refl
  items_returned eq law [] (y ∷ ys) no_items k e b = absurd b
  items_returned eq law [] (y ∷ ys) (item d ds) k e b = from_false e
  items_returned eq law (x ∷ xs) [] no_items k e b = from_false e
  items_returned eq law (x ∷ xs) [] (item d ds) k e b = absurd b
  items_returned eq law (x ∷ xs) (y ∷ ys) no_items k e b = absurd b
  items_returned eq law (x ∷ xs) (y ∷ ys) (item d ds) k e b =
      λ t. law x y d (All-head kept x xs k) (and_left _ _ e) b.0 t
      && items_returned eq law xs ys ds (All-tail kept x xs k) (and_right (data_eq (written x) d) _ e) b.1 t

  -- sequences
  pub seq_returned : (eq : T → T → Bool) → AreReturned kept written built eq → (xs ys : List T) (d : PlainData)
      → All kept xs → EqualData (seq_written written xs) d → BuiltSeq built d ys → pointwise eq xs ys ≡ true
  seq_returned eq law xs ys (seq_data ds) k e b = items_returned eq law xs ys ds k e b
  seq_returned eq law xs ys _ k e b = absurd b

module _ {T : Type 0} (written : T → PlainData) (refused : PlainData → List ℕ → Type 0) where
  -- optionals
  pub option_accepted : AreAccepted written refused → (x : Option T) (d : PlainData) (message : List ℕ)
      → EqualData (option_written written x) d → RefusedOption refused d message → ⊥
  option_accepted law None (some_data a) m e r = from_false e
  option_accepted law (Some x) (some_data a) m e r = law x a m e r
  option_accepted law _ _ m e r = r

  -- elements
  pub items_accepted : (built : PlainData → T → Type 0) → AreAccepted written refused → (xs : List T) (ds : PlainItems)
      (message : List ℕ) → items_eq (items_of (map written xs)) ds ≡ true → RefusedItems built refused ds message → ⊥
  items_accepted built law [] no_items m e r = r
  items_accepted built law (x ∷ xs) no_items m e r = r
  items_accepted built law [] (item d ds) m e r = from_false e
  items_accepted built law (x ∷ xs) (item d ds) m e (inl r) = law x d m (and_left _ _ e) r
  items_accepted built law (x ∷ xs) (item d ds) m e (inr r) =
      items_accepted built law xs ds m (and_right (data_eq (written x) d) _ e) r.1

  -- sequences
  pub seq_accepted : (built : PlainData → T → Type 0) → AreAccepted written refused → (xs : List T) (d : PlainData)
      (message : List ℕ) → EqualData (seq_written written xs) d → RefusedSeq built refused d message → ⊥
  seq_accepted built law xs (seq_data ds) m e r = items_accepted built law xs ds m e r
  seq_accepted built law xs _ m e r = r
