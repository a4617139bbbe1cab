-- Shapes that are made of tables joined in a row.
use Rattle.std.proofs.Common.{◌≡◌, ◌<◌, ◌+◌, ℕ, List, [], ◌∷◌, ◌++◌, length, sym, ◌∙◌, ap, subst, All, arith}
use Rattle.std.proofs.Common.{append-nil}
use Rattle.std.specs.List.{zip}
use Rattle.std.proofs.lemmas.List.{length-map}
use Rattle.std.proofs.lemmas.List.Elements.{All-nil, All-cons, All-head, All-tail}
use Rattle.yaml_shape.specs.PlainShape.{PlainShape}
use Rattle.yaml_shape.specs.ShapeView.{ids_of}
use Rattle.yaml_shape.specs.Validity.{numbers_of, AllNameWithin, IsValidSchema}
use Rattle.yaml_shape.specs.Join.{joined_all, starts_behind, named_behind, parts_of, StartsWithin, IsRow, IsTooLarge}
use Rattle.yaml_shape.specs.Join.{IsNotAdded}
use Rattle.yaml_shape.specs.Kept.{KeepsShapes, KeepsAllShapes}
use Rattle.yaml_shape.specs.declared.shape.ShapeId.{ShapeId}
use Rattle.yaml_shape.specs.declared.fault.SchemaFault.{SchemaFault}
use Rattle.yaml_shape.specs.declared.fault.SchemaFault.TheVariants.{OutsideTable, OptionCycle, NameTwice, TooManyShapes}
use Rattle.yaml_shape.specs.declared.fault.SchemaFault.TheVariants.{Memory}
use Rattle.yaml_shape.proofs.PartLaws.{Parts, starts_inside, length-starts}
use Rattle.yaml_shape.proofs.Stands.{keeps_first, begins, keeps_all}

module _ (none : List PlainShape) (parts : List (List PlainShape × ℕ)) (table : List PlainShape)
    (starts : List ShapeId) where
  -- each start is in the table
  pub row_within : All StartsWithin parts → IsRow none parts table starts
      → All (λ id. id < length table) (ids_of starts)
  row_within within is =
      subst (All (λ id. id < length table)) (sym is.starts_are)
      (subst (λ t. All (λ id. id < length t) (starts_behind (length none) parts)) (sym is.table_is)
      (starts_inside none parts within))

  -- each part keeps its data, with one more shape behind the row
  pub row_keeps : (shape : PlainShape) → none ≡ [] → All (λ p. AllNameWithin (length p.0) p.0) parts
      → IsRow none parts table starts → KeepsAllShapes 0 parts (table ++ shape ∷ [])
  row_keeps shape empty closed is =
      subst (λ n. KeepsAllShapes n parts (table ++ shape ∷ [])) (ap length empty)
      (subst (λ t. KeepsAllShapes (length none) parts (t ++ shape ∷ [])) (sym is.table_is)
      (keeps_all none parts (shape ∷ []) closed))

module _ (first : List PlainShape) (parts : List (List PlainShape × ℕ)) (table : List PlainShape)
    (starts : List ShapeId) where
  -- the table that others are joined behind keeps its data
  pub behind_first : IsValidSchema first → IsRow first parts table starts → KeepsShapes 0 first table
  behind_first valid is =
      let whole = begins first parts in
      subst (KeepsShapes 0 first) (sym (is.table_is ∙ whole.1)) (keeps_first first whole.0 valid)

  -- and so does each of them
  pub behind_each : All (λ p. AllNameWithin (length p.0) p.0) parts → IsRow first parts table starts
      → KeepsAllShapes (length first) parts table
  behind_each closed is =
      subst (KeepsAllShapes (length first) parts) (append-nil (joined_all first parts) ∙ sym is.table_is)
      (keeps_all first parts [] closed)

-- there are as many starts as parts
pub row_length : (none : List PlainShape) (parts : Parts) (table : List PlainShape) (starts : List ShapeId)
    → IsRow none (parts_of parts) table starts → length starts ≡ length parts
row_length none parts table starts is =
    sym (length-map starts (λ id. id.0))
    ∙ (ap length is.starts_are
    ∙ (length-starts (length none) (parts_of parts) ∙ length-map parts (λ p. (p.0, p.1.0))))

-- what is so of numbers is so of those of fields
pub numbers_inside : (P : ℕ → Type 0) (names : List (List ℕ)) (ids : List ℕ) → All P ids
    → All P (numbers_of (zip names ids))
numbers_inside P [] ids h = All-nil P
numbers_inside P (name ∷ names) [] h = All-nil P
numbers_inside P (name ∷ names) (id ∷ ids) h =
    All-cons P id (numbers_of (zip names ids)) (All-head P id ids h)
    (numbers_inside P names ids (All-tail P id ids h))

module _ (names : List (List ℕ)) (parts : List (List PlainShape × ℕ)) (table : List PlainShape)
    (fields : List (List ℕ × ℕ)) where
  -- the shape of each field is in the table
  pub fields_within : table ≡ joined_all [] parts → fields ≡ named_behind 0 names parts → All StartsWithin parts
      → All (λ id. id < length table) (numbers_of fields)
  fields_within made named within =
      subst (λ fs. All (λ id. id < length table) (numbers_of fs)) (sym named)
      (numbers_inside (λ id. id < length table) names (starts_behind 0 parts)
      (subst (λ t. All (λ id. id < length t) (starts_behind 0 parts)) (sym made) (starts_inside [] parts within)))

-- each part keeps its data in the join, with one more shape behind it
pub joined_keeps : (parts : List (List PlainShape × ℕ)) (table : List PlainShape) (shape : PlainShape)
    → table ≡ joined_all [] parts → All (λ p. AllNameWithin (length p.0) p.0) parts
    → KeepsAllShapes 0 parts (table ++ shape ∷ [])
joined_keeps parts table shape made closed =
    subst (λ t. KeepsAllShapes 0 parts (t ++ shape ∷ [])) (sym made) (keeps_all [] parts (shape ∷ []) closed)

-- where there is no room for a table, there is none for a shape behind it
pub not_added : (size : ℕ) (shape : PlainShape) (fault : SchemaFault) → IsTooLarge size fault
    → IsNotAdded size shape fault
not_added size shape (OutsideTable n) h = h
not_added size shape (OptionCycle n) h = h
not_added size shape (NameTwice n) h = absurd h
not_added size shape TooManyShapes h = omega arith
not_added size shape Memory h = tt
