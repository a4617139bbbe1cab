-- What data is of a shape that stands in no table: the content of a variant, and what a scalar, or the node of an empty
-- stream, gives under a shape.
use Rattle.std.proofs.Common.{◌≡◌, ℕ, pos, List, [], ◌∷◌, Option, Some, None, Bool, true, false, refl}
use Rattle.std.proofs.Common.{arith, rules, if◌then◌else◌, IfOk}
use Rattle.std.specs.Option.{option_map_or}
use Rattle.std.specs.Prelude.{◌-◌, ◌^◌, ℤ, int_le, nat_le, Result, Ok, Err}
use Rattle.std.proofs.lemmas.Result.{IfOk-at_ok}
use Rattle.yaml_base.specs.PlainEvent.{PlainScalar}
use Rattle.yaml_shape.specs.Expected.{integer_text}
use Rattle.yaml_shape.specs.HasShape.{has_shape, all_have, each_has, entries_have, tuple_has, struct_has, on_option}
use Rattle.yaml_shape.specs.HasShape.{on_newtype, on_seq, on_tuple, on_map, on_struct, on_variant, is_unit_data}
use Rattle.yaml_shape.specs.HasShape.{has_content}
use Rattle.yaml_shape.specs.IntegerTypes.{bits_of, has_sign, is_of_type, least, greatest}
use Rattle.yaml_shape.specs.PlainData.{PlainData, any_data, some_data, unit_data, newtype_data, seq_data, tuple_data}
use Rattle.yaml_shape.specs.PlainData.{map_data, struct_data, variant_data, signed_data, unsigned_data}
use Rattle.yaml_shape.specs.PlainShape.{IntegerType, PlainShape, any_shape, bool_shape, char_shape, integer_shape}
use Rattle.yaml_shape.specs.PlainShape.{str_shape, identifier_shape, unit_shape}
use Rattle.yaml_shape.specs.PlainShape.{row_shape, fields_shape, enum_shape, Owner, of_variant}
use Rattle.yaml_shape.specs.PlainShape.{shape_at, content_shape, PlainVariant, unit_variant, newtype_variant}
use Rattle.yaml_shape.specs.PlainShape.{tuple_variant, struct_variant}
use Rattle.yaml_shape.specs.Validity.{numbers_of}
use Rattle.yaml_tree.specs.Tree.{Tree}
use Rattle.yaml_meaning.specs.ReadFault.{ReadFault}
use Rattle.yaml_meaning.specs.ScalarAny.{any_scalar}
use Rattle.yaml_meaning.specs.ScalarShapes.{integer_answer, no_elements, scalar_answer, signed_between, unsigned_up_to}
use Rattle.yaml_meaning.specs.ScalarShapes.{void_answer}
use Rattle.yaml_meaning.specs.Steps.{◌>>=◌}
use Rattle.yaml_meaning.specs.Variants.{Variants, variant_named, bare_variant, named_variant}
use Rattle.yaml_scalar.proofs.VariantCode.{variant_at}

-- shapes that are there are the same only where they are
shape_is : (s t : PlainShape) → ◌≡◌ {A = Option PlainShape} (Some s) (Some t) → s ≡ t
shape_is s t e = cc

from_zero : (n : ℕ) → int_le (pos 0) (pos n) ≡ true
from_zero n = grind arith

module _ (table : List PlainShape) where
  -- the data is of the shape: where it holds no other data, as in a table of this shape alone
  abbrev pub is_of : PlainShape → PlainData → Bool
  is_of s (some_data d) = on_option (λ content. has_shape table content d) s
  is_of s (newtype_data d) = on_newtype (λ inner. has_shape table inner d) s
  is_of s (seq_data ds) = on_seq (λ element. all_have table element ds) s
  is_of s (tuple_data ds) = on_tuple (λ ids. each_has table ids ds) s
  is_of s (map_data es) = on_map (λ key value. entries_have table key value es) s
  is_of s (struct_data ds) = on_struct (λ ids. each_has table ids ds) s
  is_of s (variant_data place d) = on_variant place (has_content table d) s
  is_of s v = has_shape (s ∷ []) 0 v

  -- for a shape of the table that is the same as data of the shape with its number
  pub of_shape : (id : ℕ) (s : PlainShape) (v : PlainData) → shape_at table id ≡ Some s → is_of s v ≡ true
      → has_shape table id v ≡ true
  of_shape id s (any_data v) is h = rw is h
  of_shape id s _ is h = rw is h

  -- data of the shape that a variant's content is read under is what the variant holds
  pub content_has : (name variant : List ℕ) (content : PlainVariant) (s : PlainShape) (v : PlainData)
      → content_shape table name variant content ≡ Some s → is_of s v ≡ true → has_content table v content ≡ true
  content_has name variant unit_variant s v is h = unit_has v (rw (← shape_is unit_shape s is) at h)
    where
      unit_has : (v : PlainData) → is_of unit_shape v ≡ true → is_unit_data v ≡ true
      unit_has unit_data h = refl
      unit_has _ h = absurd cc
  content_has name variant (newtype_variant inner) s v is h = of_shape inner s v is h
  content_has name variant (tuple_variant items) s v is h = row_has v
      (rw (← shape_is (row_shape (of_variant name variant) items) s is) at h)
    where
      row_has : (v : PlainData) → is_of (row_shape (of_variant name variant) items) v ≡ true
          → tuple_has table items v ≡ true
      row_has (tuple_data ds) h = h
      row_has _ h = absurd cc
  content_has name variant (struct_variant strict fields) s v is h =
      named_has v (rw (← shape_is (fields_shape strict (of_variant name variant) fields) s is) at h)
    where
      named_has : (v : PlainData) → is_of (fields_shape strict (of_variant name variant) fields) v ≡ true
          → struct_has table (numbers_of fields) v ≡ true
      named_has (struct_data ds) h = h
      named_has _ h = absurd cc

  -- a variant that was found, with data that it may hold, is data of its enum
  pub variant_has : (name : List ℕ) (variants : Variants) (tag : List ℕ) (v : ℕ × PlainVariant) (d : PlainData)
      → variant_named variants tag ≡ Some v → has_content table d v.1 ≡ true
      → is_of (enum_shape name variants) (variant_data v.0 d) ≡ true
  variant_has name variants tag v d found has = rw (variant_at variants tag v found).1 has

  -- ---- what is answered under a shape
  abbrev Gives : PlainShape → Result PlainData ReadFault → Type 0
  Gives s r = IfOk r (λ v. is_of s v ≡ true)

  on_some : {A : Type 0} (s : PlainShape) (f : A → Result PlainData ReadFault) (o : Option A) (fault : ReadFault)
      → ((x : A) → o ≡ Some x → Gives s (f x)) → Gives s (option_map_or f o (Err fault))
  on_some s f None fault h = tt
  on_some s f (Some x) fault h = h x refl

  either : (s : PlainShape) (b : Bool) (r q : Result PlainData ReadFault)
      → (b ≡ true → Gives s r) → (b ≡ false → Gives s q) → Gives s (if b then r else q)
  either s true r q h k = h refl
  either s false r q h k = k refl

  any_gives : (r : Result Tree ReadFault) → Gives any_shape (r >>= λ t. Ok (any_data t))
  any_gives (Ok t) = refl
  any_gives (Err fault) = tt

  -- an integer with a sign, one without, and one of any type
  signed_gives : (i : IntegerType) (z : ℤ) → has_sign i ≡ true
      → Gives (integer_shape i) (signed_between (least i) (greatest i) (integer_text i) z)
  signed_gives i z sign = either (integer_shape i) (is_of_type i z) (Ok (signed_data z)) _
      (λ within. rw (within, sign) refl) (λ out. tt)

  unsigned_gives : (i : IntegerType) (n : ℕ) → has_sign i ≡ false
      → Gives (integer_shape i) (unsigned_up_to (2 ^ bits_of i - 1) (integer_text i) n)
  unsigned_gives i n sign = either (integer_shape i) (nat_le n (2 ^ bits_of i - 1)) (Ok (unsigned_data n)) _
      (λ within. rw (sign, from_zero n) within) (λ out. tt)

  integer_gives : (i : IntegerType) (text : Option (List ℕ)) (fault : ReadFault)
      → Gives (integer_shape i) (integer_answer i text fault)
  integer_gives i text fault = either (integer_shape i) (has_sign i) _ _
      (λ sign. on_some (integer_shape i) _ _ _ (λ z is. signed_gives i z sign))
      (λ sign. on_some (integer_shape i) _ _ _ (λ n is. unsigned_gives i n sign))

  -- a row without elements
  row_gives : (owner : Owner) (ids : List ℕ) → Gives (row_shape owner ids) (no_elements ids (row_shape owner ids))
  row_gives owner [] = refl
  row_gives owner (id ∷ ids) = tt

  -- what a name gives that stands alone
  name_gives : (name : List ℕ) (variants : Variants) (text : List ℕ)
      → Gives (enum_shape name variants) (named_variant variants text)
  name_gives name variants text = on_some (enum_shape name variants) _ _ _ (λ v is. bare v.0 v.1 is)
    where
      bare : (place : ℕ) (content : PlainVariant) → variant_named variants text ≡ Some (place, content)
          → Gives (enum_shape name variants) (bare_variant place content)
      bare place unit_variant is = variant_has name variants text (place, unit_variant) unit_data is refl
      bare place _ is = tt

  scalar_gives : (s : PlainShape) (taken : Bool) (w : PlainScalar) → Gives s (scalar_answer s taken w)
  scalar_gives any_shape taken w = any_gives (any_scalar taken w)
  scalar_gives bool_shape taken w = search (rules, on_some)
  scalar_gives (integer_shape i) taken w = search (rules, integer_gives)
  scalar_gives str_shape taken w = search (rules, on_some)
  scalar_gives identifier_shape taken w = search (rules, on_some)
  scalar_gives char_shape taken w = search (rules, on_some)
  scalar_gives (row_shape owner ids) taken w = search (rules, row_gives)
  scalar_gives (enum_shape name variants) taken w = search (rules, on_some, name_gives)
  scalar_gives _ taken w = search rules

  void_gives : (s : PlainShape) → Gives s (void_answer s)
  void_gives (row_shape owner ids) = row_gives owner ids
  void_gives _ = search rules

  -- what a scalar gives
  pub scalar-has : (s : PlainShape) (taken : Bool) (w : PlainScalar) (v : PlainData)
      → scalar_answer s taken w ≡ Ok v → is_of s v ≡ true
  scalar-has s taken w v is = IfOk-at_ok (λ v. is_of s v ≡ true) is (scalar_gives s taken w)

  -- what the node of an empty stream gives
  pub void-has : (s : PlainShape) (v : PlainData) → void_answer s ≡ Ok v → is_of s v ≡ true
  void-has s v is = IfOk-at_ok (λ v. is_of s v ≡ true) is (void_gives s)
