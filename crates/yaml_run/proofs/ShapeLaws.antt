-- The tables of the named shapes are schemas.
use Rattle.std.specs.Prelude.{Option, Some, None, IfSome, All, AllPairs, Bool, true, false, codes}
use Rattle.std.specs.List.{list_all}
use Rattle.std.specs.Option.{option_and_then}
use Rattle.std.proofs.Common.{◌≡◌, ◌≢◌, ℕ, zero, suc, ◌<◌, ◌≤◌, List, [], ◌∷◌, refl, ap, sym, ◌∙◌, arith, length}
use Rattle.std.proofs.Common.{get_or}
use Rattle.std.proofs.Math.Dec.{ltb}
use Rattle.std.proofs.lemmas.Bool.{ltb-true}
use Rattle.std.proofs.lemmas.List.Kept.{AllPairs-cons}
use Rattle.std.proofs.lemmas.List.Sums.{AllPass-from_list_all}
use Rattle.yaml_shape.specs.PlainShape.{i64, u64, usize, PlainShape, any_shape, bool_shape, integer_shape, str_shape}
use Rattle.yaml_shape.specs.PlainShape.{option_shape, seq_shape, row_shape, map_shape, ignored_shape, unnamed, shape_at}
use Rattle.yaml_shape.specs.PlainShape.{unit_variant, newtype_variant}
use Rattle.yaml_shape.specs.SchemaRefusal.{IsRefused}
use Rattle.yaml_shape.specs.Validity.{NamesWithin, AllNameWithin, AreDistinct, IsDistinctInside, HasDistinctNames}
use Rattle.yaml_shape.specs.Validity.{named, step_from, walk}
use Rattle.yaml_shape.specs.declared.fault.SchemaFault.{SchemaFault}
use Rattle.yaml_shape.specs.declared.fault.SchemaFault.TheVariants.{OutsideTable, OptionCycle, NameTwice, TooManyShapes}
use Rattle.yaml_shape.specs.declared.fault.SchemaFault.TheVariants.{Memory}
use Rattle.yaml_run.specs.Shapes.{table_of, shape_of_basic, shape_of_outer, shape_of_inner}
use Rattle.yaml_run.specs.declared.shapes.Named.{Named}
use Rattle.yaml_run.specs.declared.shapes.Named.TheVariants as shape

few : (n : Named) → length (table_of n) ≤ 4096
few shape.Bool = omega arith
few shape.I64 = omega arith
few shape.Str = omega arith
few shape.List = omega arith
few shape.Map = omega arith
few shape.Any = omega arith
few shape.Ignored = omega arith
few shape.U64 = omega arith
few shape.Option = omega arith
few shape.Pair = omega arith
few shape.Basic = omega arith
few shape.Strict = omega arith
few shape.Outer = omega arith

-- whether each number that the shape names is below the size
abbrev is_within : ℕ → PlainShape → Bool
is_within size s = list_all (λ id. ltb id size) (named s)

within : (size : ℕ) (s : PlainShape) → is_within size s ≡ true → NamesWithin size s
within size s e = λ k d h. ltb-true _ size (AllPass-from_list_all (λ id. ltb id size) (named s) e k d h)

all_within : (size : ℕ) (shapes : List PlainShape) → list_all (is_within size) shapes ≡ true → AllNameWithin size shapes
all_within size shapes e = λ k d h.
    within size (get_or shapes k d) (AllPass-from_list_all (is_within size) shapes e k d h)

closed : (n : Named) → AllNameWithin (length (table_of n)) (table_of n)
closed shape.Bool = all_within 1 (table_of shape.Bool) refl
closed shape.I64 = all_within 1 (table_of shape.I64) refl
closed shape.Str = all_within 1 (table_of shape.Str) refl
closed shape.List = all_within 2 (table_of shape.List) refl
closed shape.Map = all_within 3 (table_of shape.Map) refl
closed shape.Any = all_within 1 (table_of shape.Any) refl
closed shape.Ignored = all_within 1 (table_of shape.Ignored) refl
closed shape.U64 = all_within 1 (table_of shape.U64) refl
closed shape.Option = all_within 2 (table_of shape.Option) refl
closed shape.Pair = all_within 2 (table_of shape.Pair) refl
closed shape.Basic = all_within 2 (table_of shape.Basic) refl
closed shape.Strict = all_within 2 (table_of shape.Strict) refl
closed shape.Outer = all_within 4 (table_of shape.Outer) refl

no_part : {X : Type 0} (P : X → Type 0) → All P []
no_part P = λ k d h. absurd (omega arith)

one_more : {X : Type 0} (P : X → Type 0) (x : X) (xs : List X) → P x → All P xs → All P (x ∷ xs)
one_more P x xs p all zero d h = p
one_more P x xs p all (suc k) d h = all k d (omega arith)

single : (s : PlainShape) → HasDistinctNames s → All HasDistinctNames (s ∷ [])
single s h = one_more HasDistinctNames s [] h (no_part HasDistinctNames)

double : (s t : PlainShape) → HasDistinctNames s → HasDistinctNames t → All HasDistinctNames (s ∷ t ∷ [])
double s t h k = one_more HasDistinctNames s (t ∷ []) h (single t k)

no_pair : {X : Type 0} (R : X → X → Type 0) → AllPairs R []
no_pair R = λ i j d lt h. absurd (omega arith)

one_name : (a : List ℕ) → AreDistinct (a ∷ [])
one_name a = AllPairs-cons (λ x y. x ≢ y) a [] (no_part (λ x. a ≢ x)) (no_pair (λ x y. x ≢ y))

two_names : (a b : List ℕ) → a ≢ b → AreDistinct (a ∷ b ∷ [])
two_names a b h =
    AllPairs-cons (λ x y. x ≢ y) a (b ∷ []) (one_more (λ x. a ≢ x) b [] h (no_part (λ x. a ≢ x))) (one_name b)

-- texts with other first bytes
differ : (a b : List ℕ) → get_or a 0 0 < get_or b 0 0 → a ≢ b
differ a b h = λ e. let same : get_or a 0 0 ≡ get_or b 0 0 = ap (λ (l : List ℕ). get_or l 0 0) e in omega arith

distinct_basic : (strict : Bool) → HasDistinctNames (shape_of_basic strict)
distinct_basic strict =
    two_names (codes "v") (codes "w") (differ (codes "v") (codes "w") (let h : 118 < 119 = omega arith in h))

distinct_outer : HasDistinctNames shape_of_outer
distinct_outer = (
  one_name (codes "Inner"),
  one_more (λ v. IsDistinctInside v.1) (codes "Inner", newtype_variant 1) [] tt
      (no_part (λ v. IsDistinctInside v.1)),
)

distinct_inner : HasDistinctNames shape_of_inner
distinct_inner = (
  two_names (codes "Variant") (codes "Plain") (λ e. cc),
  one_more (λ v. IsDistinctInside v.1) (codes "Variant", newtype_variant 2) ((codes "Plain", unit_variant) ∷ []) tt
      (one_more (λ v. IsDistinctInside v.1) (codes "Plain", unit_variant) [] tt (no_part (λ v. IsDistinctInside v.1))),
)

distinct : (n : Named) → All HasDistinctNames (table_of n)
distinct shape.Bool = single bool_shape tt
distinct shape.I64 = single (integer_shape i64) tt
distinct shape.Str = single str_shape tt
distinct shape.List = double (seq_shape 1) (integer_shape i64) tt tt
distinct shape.Map =
    one_more HasDistinctNames (map_shape 1 2) (str_shape ∷ integer_shape i64 ∷ []) tt
    (double str_shape (integer_shape i64) tt tt)
distinct shape.Any = single any_shape tt
distinct shape.Ignored = single ignored_shape tt
distinct shape.U64 = single (integer_shape u64) tt
distinct shape.Option = double (option_shape 1) (integer_shape i64) tt tt
distinct shape.Pair = double (row_shape unnamed (1 ∷ 1 ∷ [])) (integer_shape i64) tt tt
distinct shape.Basic = double (shape_of_basic false) bool_shape (distinct_basic false) tt
distinct shape.Strict = double (shape_of_basic true) bool_shape (distinct_basic true) tt
distinct shape.Outer =
    one_more HasDistinctNames shape_of_outer (shape_of_inner ∷ seq_shape 3 ∷ integer_shape usize ∷ []) distinct_outer
    (one_more HasDistinctNames shape_of_inner (seq_shape 3 ∷ integer_shape usize ∷ []) distinct_inner
    (double (seq_shape 3) (integer_shape usize) tt tt))

-- two steps through optionals lead nowhere
ends : (n : Named) (id : ℕ) → option_and_then (step_from (table_of n)) (step_from (table_of n) id) ≡ None
ends shape.Bool zero = refl
ends shape.Bool (suc i) = refl
ends shape.I64 zero = refl
ends shape.I64 (suc i) = refl
ends shape.Str zero = refl
ends shape.Str (suc i) = refl
ends shape.List zero = refl
ends shape.List (suc zero) = refl
ends shape.List (suc (suc i)) = refl
ends shape.Map zero = refl
ends shape.Map (suc zero) = refl
ends shape.Map (suc (suc zero)) = refl
ends shape.Map (suc (suc (suc i))) = refl
ends shape.Any zero = refl
ends shape.Any (suc i) = refl
ends shape.Ignored zero = refl
ends shape.Ignored (suc i) = refl
ends shape.U64 zero = refl
ends shape.U64 (suc i) = refl
ends shape.Option zero = refl
ends shape.Option (suc zero) = refl
ends shape.Option (suc (suc i)) = refl
ends shape.Pair zero = refl
ends shape.Pair (suc zero) = refl
ends shape.Pair (suc (suc i)) = refl
ends shape.Basic zero = refl
ends shape.Basic (suc zero) = refl
ends shape.Basic (suc (suc i)) = refl
ends shape.Strict zero = refl
ends shape.Strict (suc zero) = refl
ends shape.Strict (suc (suc i)) = refl
ends shape.Outer zero = refl
ends shape.Outer (suc zero) = refl
ends shape.Outer (suc (suc zero)) = refl
ends shape.Outer (suc (suc (suc zero))) = refl
ends shape.Outer (suc (suc (suc (suc i)))) = refl

no_some : (o : Option ℕ) (id : ℕ) → o ≡ None → o ≡ Some id → ⊥
no_some o id e s = cc

-- a walk that comes back takes its first step again
again : (shapes : List PlainShape) (id j : ℕ) → step_from shapes id ≡ Some j → step_from shapes j ≡ None
    → Some j ≡ Some id → ⊥
again shapes id j e none same =
    no_some (step_from shapes id) j (ap (option_and_then (step_from shapes)) (sym same) ∙ none) e

no_cycle : (shapes : List PlainShape) (id : ℕ) (o : Option ℕ) → step_from shapes id ≡ o
    → option_and_then (step_from shapes) o ≡ None → (n : ℕ) → 0 < n → walk shapes n id ≡ Some id → ⊥
no_cycle shapes id o e ended zero h w = absurd (omega arith)
no_cycle shapes id None e ended (suc n) h w = no_some _ id (ap (option_and_then (walk shapes n)) e) w
no_cycle shapes id (Some j) e ended (suc zero) h w =
    again shapes id j e ended (sym (ap (option_and_then (walk shapes zero)) e) ∙ w)
no_cycle shapes id (Some j) e ended (suc (suc n)) h w =
    no_some _ id (ap (option_and_then (walk shapes (suc n))) e ∙ ap (option_and_then (walk shapes n)) ended) w

not_without : (P : PlainShape → Type 0) (shapes : List PlainShape) (number : ℕ) → All P shapes → number < length shapes
    → IfSome (shape_at shapes number) (λ s. P s → ⊥) → ⊥
not_without P [] number all h w = absurd (omega arith)
not_without P (s ∷ shapes) zero all h w = w (all zero s (omega arith))
not_without P (s ∷ shapes) (suc number) all h w =
    not_without P shapes number (λ k d lt. all (suc k) d (omega arith)) (omega arith) w

-- a named shape's table is refused for want of memory alone
pub only_memory : (n : Named) (fault : SchemaFault) → IsRefused (table_of n) fault → fault ≡ Memory
only_memory n TooManyShapes r = absurd (omega (arith, few n))
only_memory n (OutsideTable number) r = absurd (not_without _ (table_of n) number (closed n) r.1.within r.1.without)
only_memory n (NameTwice number) r =
    absurd (not_without _ (table_of n) number (distinct n) r.first.within r.first.without)
only_memory n (OptionCycle number) r =
    let c = r.first.cycle in
    absurd (no_cycle (table_of n) number (step_from (table_of n) number) refl (ends n number) c.0 c.1 c.2)
only_memory n Memory r = refl
