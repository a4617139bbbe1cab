-- Walks in joined tables are those of the tables, so no cycle comes in.
use Rattle.std.proofs.Common.{◌≡◌, ◌<◌, ◌≤◌, ◌+◌, ◌-◌, ℕ, zero, suc, Bool, true, false, ltb, List, [], ◌∷◌, ◌++◌}
use Rattle.std.proofs.Common.{map, length, Option, Some, None, refl, sym, ◌∙◌, ap, subst, All, arith, length-append}
use Rattle.std.specs.Prelude.{slice_get, option_map}
use Rattle.std.specs.Option.{option_and_then}
use Rattle.std.proofs.lemmas.List.{length-map}
use Rattle.std.proofs.lemmas.List.Elements.{All-map, All-append, All-weaker, All-push}
use Rattle.std.proofs.lemmas.Bool.Decides.{nat_tests}
use Rattle.std.proofs.lemmas.Option.{slice_get-map}
use Rattle.yaml_shape.specs.PlainShape.{PlainShape, option_shape, shape_at}
use Rattle.yaml_shape.specs.Validity.{named, NamesWithin, AllNameWithin, HasDistinctNames}
use Rattle.yaml_shape.specs.Validity.{optional_content, step_from, walk, IsCycle, IsValidSchema}
use Rattle.yaml_shape.specs.Join.{raised, joined_tables}
use Rattle.yaml_shape.proofs.WalkLaws.{Passes, passes}
use Rattle.yaml_shape.proofs.JoinLaws.{at_left, at_right, named-raised, distinct-raised, step_inside}

-- walks from the first table stay in it
walk_left : (first second : List PlainShape) → AllNameWithin (length first) first → (n id : ℕ) → id < length first
    → (walk (first ++ second) n id ≡ walk first n id)
walk_left first second closed zero id within = refl
walk_left first second closed (suc n) id within =
    ap (λ o. option_and_then (walk (first ++ second) n) (option_and_then optional_content o))
    (at_left first second id within)
    ∙ by_step (step_from first id) refl (λ next inside. walk_left first second closed n next inside)
  where
    by_step : (o : Option ℕ) → step_from first id ≡ o
        → ((next : ℕ) → next < length first → walk (first ++ second) n next ≡ walk first n next)
        → option_and_then (walk (first ++ second) n) o ≡ option_and_then (walk first n) o
    by_step None here more = refl
    by_step (Some next) here more = more next (step_inside first id next closed here)

-- a walk ends in the table
walk_inside : (shapes : List PlainShape) → AllNameWithin (length shapes) shapes → (n id end : ℕ) → id < length shapes
    → walk shapes n id ≡ Some end → end < length shapes
walk_inside shapes closed zero id end within h = let same : id ≡ end = cc in subst (λ k. k < length shapes) same within
walk_inside shapes closed (suc n) id end within h =
    let p : Passes (step_from shapes id) (walk shapes n) end = passes (step_from shapes id) (walk shapes n) end h in
    walk_inside shapes closed n p.middle end (step_inside shapes id p.middle closed p.first) p.rest

content-raised : (by : ℕ) (shape : PlainShape)
    → optional_content (raised by shape) ≡ option_map (λ id. by + id) (optional_content shape)
content-raised by (option_shape content) = refl
content-raised by _ = refl

-- the shape of the second table in the join
pub at_joined : (first second : List PlainShape) (id : ℕ)
    → shape_at (joined_tables first second) (length first + id)
    ≡ option_map (raised (length first)) (shape_at second id)
at_joined first second id = at_right first (map (raised (length first)) second) id
    ∙ slice_get-map (raised (length first)) second id

step_joined : (first second : List PlainShape) (id : ℕ)
    → step_from (joined_tables first second) (length first + id)
    ≡ option_map (λ n. length first + n) (step_from second id)
step_joined first second id = ap (option_and_then optional_content) (at_joined first second id)
    ∙ by_shape (shape_at second id)
  where
    by_shape : (o : Option PlainShape)
        → option_and_then optional_content (option_map (raised (length first)) o) ≡ option_map (λ n. length first + n)
        (option_and_then optional_content o)
    by_shape None = refl
    by_shape (Some shape) = content-raised (length first) shape

-- walks from the second table are raised
walk_right : (first second : List PlainShape) (n id : ℕ)
    → walk (joined_tables first second) n (length first + id) ≡ option_map (λ k. length first + k) (walk second n id)
walk_right first second zero id = refl
walk_right first second (suc n) id =
    ap (option_and_then (walk (joined_tables first second) n)) (step_joined first second id)
    ∙ by_step (step_from second id) (λ next. walk_right first second n next)
  where
    by_step : (o : Option ℕ)
        → ((next : ℕ) → walk (joined_tables first second) n (length first + next) ≡ option_map (λ k. length first + k)
        (walk second n next))
        → option_and_then (walk (joined_tables first second) n) (option_map (λ k. length first + k) o) ≡ option_map
        (λ k. length first + k) (option_and_then (walk second n) o)
    by_step None more = refl
    by_step (Some next) more = more next

lowered : (by id : ℕ) (o : Option ℕ) → option_map (λ k. by + k) o ≡ Some (by + id) → o ≡ Some id
lowered by id None h = absurd (cc)
lowered by id (Some x) h = let e : by + x ≡ by + id = cc in ap Some (let f : x ≡ id = omega arith in f)

-- no cycle comes into the join
joined_ending : (first second : List PlainShape) → IsValidSchema first → IsValidSchema second → (id : ℕ)
    → IsCycle (joined_tables first second) id → ⊥
joined_ending first second a b id cycle = by_place (ltb id (length first)) refl
  where
    by_place : (t : Bool) → ltb id (length first) ≡ t → ⊥
    by_place true here =
        let within : id < length first = grind (arith, nat_tests) in
        a.ending id (
          cycle.0,
          cycle.1,
          sym (walk_left first (map (raised (length first)) second) a.closed cycle.0 id within) ∙ cycle.2,
        )
    by_place false here =
        let past : length first ≤ id = grind (arith, nat_tests) in
        let other : ℕ = id - length first in
        let sum : length first + other ≡ id = omega arith in
        let round : walk (joined_tables first second) cycle.0 (length first + other) ≡ Some (length first + other) =
        rw sum cycle.2 in
        b.ending other (
          cycle.0,
          cycle.1,
          lowered (length first) other (walk second cycle.0 other)
              (sym (walk_right first second cycle.0 other) ∙ round),
        )

raised_closed : (by size : ℕ) (shape : PlainShape) → NamesWithin size shape → NamesWithin (by + size) (raised by shape)
raised_closed by size shape within =
    subst (All (λ id. id < by + size)) (sym (named-raised by shape))
    (All-map (λ id. id < by + size) (λ id. by + id) (named shape)
    (All-weaker (λ id. id < size) (λ id. by + id < by + size) (λ id h. omega arith) (named shape) within))

-- the join of valid tables is valid where it isn't too long
pub valid-joined_tables : (first second : List PlainShape) → IsValidSchema first → IsValidSchema second
    → length first + length second ≤ 4096 → IsValidSchema (joined_tables first second)
valid-joined_tables first second a b few =
    let moved : List PlainShape = map (raised (length first)) second in
    let size : length (joined_tables first second) ≡ length first + length second =
    length-append first (map (raised (length first)) second)
    ∙ ap (λ n. length first + n) (length-map second (raised (length first))) in
    record {
      few = omega arith;
      closed = subst (λ n. AllNameWithin n (joined_tables first second)) (sym size)
          (All-append (NamesWithin (length first + length second)) first (map (raised (length first)) second)
          (All-weaker (NamesWithin (length first)) (NamesWithin (length first + length second))
          (λ s h. wider s h) first a.closed)
          (All-map (NamesWithin (length first + length second)) (raised (length first)) second
          (All-weaker (NamesWithin (length second)) (λ s. NamesWithin (length first + length second)
          (raised (length first) s)) (raised_closed (length first) (length second)) second b.closed)));
      distinct = All-append HasDistinctNames first (map (raised (length first)) second) a.distinct
          (All-map HasDistinctNames (raised (length first)) second
          (All-weaker HasDistinctNames (λ s. HasDistinctNames (raised (length first) s))
          (distinct-raised (length first)) second b.distinct));
      ending = joined_ending first second a b;
    }
  where
    wider : (s : PlainShape) → NamesWithin (length first) s → NamesWithin (length first + length second) s
    wider s h = All-weaker (λ id. id < length first) (λ id. id < length first + length second) (λ id l. omega arith)
        (named s) h

-- no cycle goes through a shape that is added last
added_ending : (shapes : List PlainShape) (shape : PlainShape) → IsValidSchema shapes
    → NamesWithin (length shapes) shape → (id : ℕ) → IsCycle (shapes ++ shape ∷ []) id → ⊥
added_ending shapes shape valid within id cycle = by_place (ltb id (length shapes)) refl
  where
    inside : id < length shapes → ⊥
    inside h = valid.ending id (
      cycle.0,
      cycle.1,
      sym (walk_left shapes (shape ∷ []) valid.closed cycle.0 id h)
          ∙ cycle.2,
    )

    into : (o : Option PlainShape) (other next : ℕ) → slice_get (shape ∷ []) other ≡ o
        → option_and_then optional_content o ≡ Some next → next < length shapes
    into o zero next here step =
        let e : optional_content shape ≡ Some next = ap (option_and_then optional_content) here ∙ step in
        by_content shape within e
      where
        by_content : (s : PlainShape) → NamesWithin (length shapes) s → optional_content s ≡ Some next
            → next < length shapes
        by_content (option_shape content) w e = let same : content ≡ next = cc in
            subst (λ n. n < length shapes) same (w 0 0 (omega arith))
        by_content _ w e = absurd (cc)
    into o (suc other) next here step = absurd (let e : ◌≡◌ {A = Option PlainShape} None o = here in
        let f : ◌≡◌ {A = Option ℕ} None (Some next) = ap (option_and_then optional_content) e ∙ step in cc)

    outside : length shapes ≤ id → (n : ℕ) → 0 < n → walk (shapes ++ shape ∷ []) n id ≡ Some id → ⊥
    outside past zero some round = absurd (omega arith)
    outside past (suc n) some round =
        let p : Passes (step_from (shapes ++ shape ∷ []) id) (walk (shapes ++ shape ∷ []) n) id =
        passes (step_from (shapes ++ shape ∷ []) id) (walk (shapes ++ shape ∷ []) n) id round in
        let other : ℕ = id - length shapes in
        let sum : length shapes + other ≡ id = omega arith in
        let here : slice_get (shapes ++ shape ∷ []) id ≡ slice_get (shape ∷ []) other =
        ap (slice_get (shapes ++ shape ∷ [])) (sym sum) ∙ at_right shapes (shape ∷ []) other in
        let next : p.middle < length shapes =
        into (slice_get (shape ∷ []) other) other p.middle refl (ap (option_and_then optional_content) (sym here)
        ∙ p.first) in
        let rest : walk shapes n p.middle ≡ Some id = sym (walk_left shapes (shape ∷ []) valid.closed n p.middle next)
        ∙ p.rest in
        absurd (omega (arith, walk_inside shapes valid.closed n p.middle id next rest))

    by_place : (t : Bool) → ltb id (length shapes) ≡ t → ⊥
    by_place true here = inside (grind (arith, nat_tests))
    by_place false here = outside (grind (arith, nat_tests)) cycle.0 cycle.1 cycle.2

-- a valid table with one more shape, which names only the others, is valid
pub valid-added : (shapes : List PlainShape) (shape : PlainShape) → IsValidSchema shapes
    → NamesWithin (length shapes) shape → HasDistinctNames shape
    → length shapes < 4096 → IsValidSchema (shapes ++ shape ∷ [])
valid-added shapes shape valid within names few =
    let size : length (shapes ++ shape ∷ []) ≡ length shapes + 1 = length-append shapes (shape ∷ []) in
    record {
      few = omega arith;
      closed = subst (λ n. AllNameWithin n (shapes ++ shape ∷ [])) (sym size)
          (All-push (NamesWithin (length shapes + 1)) shapes shape
          (All-weaker (NamesWithin (length shapes)) (NamesWithin (length shapes + 1))
          (λ s h. wider s h) shapes valid.closed)
          (wider shape within));
      distinct = All-push HasDistinctNames shapes shape valid.distinct names;
      ending = added_ending shapes shape valid within;
    }
  where
    wider : (s : PlainShape) → NamesWithin (length shapes) s → NamesWithin (length shapes + 1) s
    wider s h = All-weaker (λ id. id < length shapes) (λ id. id < length shapes + 1) (λ id l. omega arith) (named s) h
