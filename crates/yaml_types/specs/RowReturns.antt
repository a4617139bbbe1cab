-- Rows of values are equal again where their parts are.
use Rattle.std.specs.Prelude.{◌≡◌, ℕ, List, Bool, true, ◌&&◌}
use Rattle.std.proofs.Common.{inl, inr}
use Rattle.yaml_tree.specs.TakeOut.{and_left, and_right}
use Rattle.yaml_shape.specs.EqualData.{data_eq, items_eq, EqualData}
use Rattle.yaml_shape.specs.PlainData.{PlainData, PlainItems, struct_data, tuple_data, no_items, item}
use Rattle.yaml_types.specs.ReturnLaws.{AreReturned, AreAccepted}
use Rattle.yaml_types.specs.Rows.{BuiltNothing, BuiltRow, NoneRefused, RefusedRow, BuiltFields, RefusedFields}
use Rattle.yaml_types.specs.Rows.{BuiltElements, RefusedElements, BuiltOf, RefusedOf}

-- of items equal to those of a row, only rows equal to it are built
abbrev pub RowReturned : {R : Type 0} → (R → PlainItems) → (R → Type 0) → (PlainItems → R → Type 0) → (R → R → Bool)
    → Type 0
RowReturned {R} written kept built eq =
    (x y : R) (ds : PlainItems) → kept x → items_eq (written x) ds ≡ true → built ds y → eq x y ≡ true

-- such items are not refused
abbrev pub RowAccepted : {R : Type 0} → (R → PlainItems) → (PlainItems → List ℕ → Type 0) → Type 0
RowAccepted {R} written refused =
    (x : R) (ds : PlainItems) (message : List ℕ) → items_eq (written x) ds ≡ true → refused ds message → ⊥

module _ {A R : Type 0} (one : A → PlainData) where
  -- a type and the rest of the row
  pub row_returned : (kept : A → Type 0) (built : PlainData → A → Type 0) (eq : A → A → Bool)
      (others : R → PlainItems) (kept' : R → Type 0) (built' : PlainItems → R → Type 0) (eq' : R → R → Bool)
      → AreReturned kept one built eq → RowReturned others kept' built' eq' → (x y : A × R) (ds : PlainItems)
      → kept x.0 × kept' x.1 → items_eq (item (one x.0) (others x.1)) ds ≡ true → BuiltRow built built' ds y
      → (eq x.0 y.0 && eq' x.1 y.1) ≡ true
  row_returned kept built eq others kept' built' eq' law law' x y (item d ds) k e b =
      λ t. law x.0 y.0 d k.0 (and_left _ _ e) b.0 t
      && law' x.1 y.1 ds k.1 (and_right (data_eq (one x.0) d) _ e) b.1 t
  row_returned kept built eq others kept' built' eq' law law' x y no_items k e b = absurd b

  pub row_accepted : (built : PlainData → A → Type 0) (refused : PlainData → List ℕ → Type 0)
      (others : R → PlainItems) (refused' : PlainItems → List ℕ → Type 0) → AreAccepted one refused
      → RowAccepted others refused' → (x : A × R) (ds : PlainItems) (message : List ℕ)
      → items_eq (item (one x.0) (others x.1)) ds ≡ true → RefusedRow built refused refused' ds message → ⊥
  row_accepted built refused others refused' law law' x (item d ds) m e (inl r) = law x.0 d m (and_left _ _ e) r
  row_accepted built refused others refused' law law' x (item d ds) m e (inr r) =
      law' x.1 ds m (and_right (data_eq (one x.0) d) _ e) r.1
  row_accepted built refused others refused' law law' x no_items m e r = r

module _ {A : Type 0} (one : A → PlainData) where
  -- the last type of a row
  pub last_returned : (kept : A → Type 0) (built : PlainData → A → Type 0) (eq : A → A → Bool)
      → AreReturned kept one built eq → (x y : A) (ds : PlainItems) → kept x
      → items_eq (item (one x) no_items) ds ≡ true → BuiltRow {R = Unit {0}} built BuiltNothing ds (y, tt)
      → eq x y ≡ true
  last_returned kept built eq law x y (item d ds) k e b = law x y d k (and_left _ _ e) b.0
  last_returned kept built eq law x y no_items k e b = absurd b

  pub last_accepted : (built : PlainData → A → Type 0) (refused : PlainData → List ℕ → Type 0)
      → AreAccepted one refused → (x : A) (ds : PlainItems) (message : List ℕ)
      → items_eq (item (one x) no_items) ds ≡ true → RefusedRow built refused NoneRefused ds message → ⊥
  last_accepted built refused law x (item d ds) m e (inl r) = law x d m (and_left _ _ e) r
  last_accepted built refused law x (item d ds) m e (inr r) = r.1
  last_accepted built refused law x no_items m e r = r

module _ {R : Type 0} (written : R → PlainItems) where
  -- the fields of a struct
  pub fields_returned : (kept : R → Type 0) (built : PlainItems → R → Type 0) (eq : R → R → Bool)
      → RowReturned written kept built eq → (x y : R) (d : PlainData) → kept x
      → EqualData (struct_data (written x)) d → BuiltFields built d y → eq x y ≡ true
  fields_returned kept built eq law x y (struct_data ds) k e b = law x y ds k e b
  fields_returned kept built eq law x y _ k e b = absurd b

  pub fields_accepted : (refused : PlainItems → List ℕ → Type 0) → RowAccepted written refused → (x : R)
      (d : PlainData) (message : List ℕ) → EqualData (struct_data (written x)) d → RefusedFields refused d message
      → ⊥
  fields_accepted refused law x (struct_data ds) m e r = law x ds m e r
  fields_accepted refused law x _ m e r = r

  -- the elements of a tuple
  pub elements_returned : (kept : R → Type 0) (built : PlainItems → R → Type 0) (eq : R → R → Bool)
      → RowReturned written kept built eq → (x y : R) (d : PlainData) → kept x
      → EqualData (tuple_data (written x)) d → BuiltElements built d y → eq x y ≡ true
  elements_returned kept built eq law x y (tuple_data ds) k e b = law x y ds k e b
  elements_returned kept built eq law x y _ k e b = absurd b

  pub elements_accepted : (refused : PlainItems → List ℕ → Type 0) → RowAccepted written refused → (x : R)
      (d : PlainData) (message : List ℕ) → EqualData (tuple_data (written x)) d → RefusedElements refused d message
      → ⊥
  elements_accepted refused law x (tuple_data ds) m e r = law x ds m e r
  elements_accepted refused law x _ m e r = r

module _ {P T : Type 0} (parts : T → P) where
  -- values that are made of parts
  pub of_returned : (kept : P → Type 0) (written : P → PlainData) (built : PlainData → P → Type 0)
      (eq : P → P → Bool) → AreReturned kept written built eq → (made : P → T → Type 0) (eq' : T → T → Bool)
      → ((x y : T) (p : P) → eq (parts x) p ≡ true → made p y → eq' x y ≡ true) → (x y : T) (d : PlainData)
      → kept (parts x) → EqualData (written (parts x)) d → BuiltOf built made d y → eq' x y ≡ true
  of_returned kept written built eq law made eq' same x y d k e b =
      same x y b.0 (law (parts x) b.0 d k e b.1) b.2

  pub of_accepted : (written : P → PlainData) (built : PlainData → P → Type 0)
      (refused : PlainData → List ℕ → Type 0) → AreAccepted written refused → (unmade : P → List ℕ → Type 0)
      → ((p : P) (message : List ℕ) → unmade p message → ⊥) → (x : T) (d : PlainData) (message : List ℕ)
      → EqualData (written (parts x)) d → RefusedOf built refused unmade d message → ⊥
  of_accepted written built refused law unmade never x d m e (inl r) = law (parts x) d m e r
  of_accepted written built refused law unmade never x d m e (inr r) = never r.0 m r.2
