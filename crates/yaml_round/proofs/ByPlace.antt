-- What stands in a place of a list: an element of all, a field or a variant by its name.
use Rattle.std.specs.Prelude.{Bool, true, false, slice_get, bytes_eq}
use Rattle.std.specs.List.{list_all, All}
use Rattle.std.specs.Bool.{Decides}
use Rattle.std.proofs.Common.{◌≡◌, ◌≢◌, ℕ, zero, suc, ◌<◌, List, [], ◌∷◌, ◌++◌, length, Some, refl, sym, ap}
use Rattle.std.proofs.Common.{◌∙◌, arith, subst, get_or}
use Rattle.std.proofs.lemmas.List.Elements.{All-get_or}
use Rattle.std.proofs.lemmas.Option.{get_or_from_slice_get, slice_get_within}
use Rattle.std.proofs.lemmas.Slice.Eq.{bytes_eq-Decides}
use Rattle.yaml_shape.specs.PlainShape.{PlainVariant}
use Rattle.yaml_shape.specs.Validity.{AreDistinct, names_of}
use Rattle.yaml_meaning.specs.Fields.{Fields, find}
use Rattle.yaml_meaning.specs.Variants.{Variants, variant_named}
use Rattle.yaml_round.proofs.SameOrders.{first, second}

-- what is there is the same where it is looked up twice
pub same_element : {A : Type 0} (x y : A) → Some x ≡ Some y → x ≡ y
same_element x y h = cc

-- what holds of all holds of one
pub all_at : {A : Type 0} (test : A → Bool) (xs : List A) (i : ℕ) (x : A) → list_all test xs ≡ true
    → slice_get xs i ≡ Some x → test x ≡ true
all_at test [] i x h is = absurd cc
all_at test (y ∷ ys) zero x h is = ap test (sym (same_element y x is)) ∙ first (test y) (list_all test ys) h
all_at test (y ∷ ys) (suc i) x h is = all_at test ys i x (second (test y) (list_all test ys) h) is

pub each_at : {A : Type 0} (P : A → Type 0) (xs : List A) (i : ℕ) (x : A) → All P xs → slice_get xs i ≡ Some x → P x
each_at P xs i x h is =
    subst P (get_or_from_slice_get xs i x x is) (All-get_or P xs i x (slice_get_within xs i x is) h)

-- what is within the length is there
pub within : {A : Type 0} (xs : List A) (i : ℕ) → i < length xs → (x : A) × (slice_get xs i ≡ Some x)
within [] i h = absurd (omega arith)
within (x ∷ xs) zero h = (x, refl)
within (x ∷ xs) (suc i) h = within xs i (omega arith)

-- the element behind others
pub behind : {A : Type 0} (xs ys : List A) (y : A) → slice_get (xs ++ y ∷ ys) (length xs) ≡ Some y
behind [] ys y = refl
behind (x ∷ xs) ys y = behind xs ys y

-- names that are not the same
apart : (a b : List ℕ) → a ≢ b → bytes_eq a b ≡ false
apart a b h = other (bytes_eq a b) (bytes_eq-Decides a b)
  where
    other : (t : Bool) → Decides t (a ≡ b) → t ≡ false
    other true d = absurd (h (d.0 refl))
    other false d = refl

pub same_bytes : (a : List ℕ) → bytes_eq a a ≡ true
same_bytes a = (bytes_eq-Decides a a).1 refl

module _ {X : Type 0} where
  -- the name in a place is that of the element there
  named_at : (xs : List (List ℕ × X)) (i : ℕ) (x : List ℕ × X) → slice_get xs i ≡ Some x
      → (get_or (names_of xs) i [] ≡ x.0) × (i < length (names_of xs))
  named_at [] i x is = absurd cc
  named_at (y ∷ ys) zero x is = (ap (λ z. z.0) (same_element y x is), omega arith)
  named_at (y ∷ ys) (suc i) x is = let n = named_at ys i x is in (n.0, omega (arith, n.1))

  -- the same as a look at the names
  pub name_at : (xs : List (List ℕ × X)) (i : ℕ) (x : List ℕ × X) → slice_get xs i ≡ Some x
      → slice_get (names_of xs) i ≡ Some x.0
  name_at [] i x is = absurd cc
  name_at (y ∷ ys) zero x is = ap (λ z. Some z.0) (same_element y x is)
  name_at (y ∷ ys) (suc i) x is = name_at ys i x is

  -- the first has another name than those behind it
  first_apart : (y : List ℕ × X) (ys : List (List ℕ × X)) (i : ℕ) (x : List ℕ × X) → AreDistinct (names_of (y ∷ ys))
      → slice_get ys i ≡ Some x → bytes_eq y.0 x.0 ≡ false
  first_apart y ys i x h is =
      let n = named_at ys i x is in
      apart y.0 x.0 (subst (λ name. y.0 ≢ name) n.0 (h 0 (suc i) [] (omega arith) (omega (arith, n.1))))

  rest_distinct : (y : List ℕ × X) (ys : List (List ℕ × X)) → AreDistinct (names_of (y ∷ ys))
      → AreDistinct (names_of ys)
  rest_distinct y ys h = λ i j d less end. h (suc i) (suc j) d (omega (arith, less)) (omega (arith, end))

-- a field is found in its place
pub find_at : (fields : Fields) (i : ℕ) (f : List ℕ × ℕ) → AreDistinct (names_of fields) → slice_get fields i ≡ Some f
    → find fields f.0 ≡ Some (i, f.1)
find_at [] i f h is = absurd cc
find_at (g ∷ fields) zero f h is =
    let e : g ≡ f = same_element g f is in
    subst (λ f. find (g ∷ fields) f.0 ≡ Some (zero, f.1)) e (rw (same_bytes g.0) refl)
find_at (g ∷ fields) (suc i) f h is =
    rw (first_apart g fields i f h is, find_at fields i f (rest_distinct g fields h) is) refl

-- and so is a variant
pub variant_at : (variants : Variants) (i : ℕ) (v : List ℕ × PlainVariant) → AreDistinct (names_of variants)
    → slice_get variants i ≡ Some v → variant_named variants v.0 ≡ Some (i, v.1)
variant_at [] i v h is = absurd cc
variant_at (w ∷ variants) zero v h is =
    let e : w ≡ v = same_element w v is in
    subst (λ v. variant_named (w ∷ variants) v.0 ≡ Some (zero, v.1)) e (rw (same_bytes w.0) refl)
variant_at (w ∷ variants) (suc i) v h is =
    rw (first_apart w variants i v h is, variant_at variants i v (rest_distinct w variants h) is) refl
