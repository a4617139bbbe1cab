-- A set that items are put into: those so far, one after another, and those behind, from the last on.
use Rattle.std.proofs.Common.{◌≡◌, ℕ, List, [], ◌∷◌, ◌++◌, refl, sym, ◌∙◌, ap, subst, inl, inr}
use Rattle.std.specs.Prelude.{IsTrue, ◌&&◌}
use Rattle.std.specs.declared.cmp.Ordering.{Ordering}
use Rattle.std.specs.Cmp.{IsTotalOrder}
use Rattle.std.specs.List.Sorted.{IsStrictlySortedBy}
use Rattle.std.specs.BTreeSet.{insert_key}
use Rattle.yaml_tree.specs.TakeOut.{and_left, and_right}
use Rattle.yaml_shape.specs.PlainData.{PlainData}
use Rattle.yaml_shape.specs.HasShape.{HasShape, has_shape, all_have}
use Rattle.yaml_shape.specs.DataView.{data_of, items_view}
use Rattle.yaml_shape.specs.declared.data.Data.{Data}
use Rattle.yaml_types.specs.Start.{Start}
use Rattle.yaml_types.specs.BuiltParts.{BuiltItems}
use Rattle.yaml_types.specs.RefusalParts.{RefusedItems}
use Rattle.yaml_types.specs.Sets.{BuiltMembers, inserted_all}
use Rattle.yaml_types.specs.BuildRefusal.{IsBuildRefusal}
use Rattle.yaml_types.specs.declared.fault.BuildFault.{BuildFault}
use Rattle.yaml_types.proofs.BuildLaws.{told_by}
use Rattle.yaml_types.proofs.MemberFilling.{inserted_last}
use Rattle.yaml_types.proofs.SortedLaws.{set_of_sorted}

module _ {T : Type 0} (s : Start) (cmp : T → T → Ordering) (built : PlainData → T → Type 0)
    (refused : PlainData → List ℕ → Type 0) where
  abbrev pub AreShaped : List Data → Type 0
  AreShaped ds = IsTrue (all_have s.0 s.1 (items_view ds))

  abbrev pub AreBuilt : List Data → List T → Type 0
  AreBuilt ds = BuiltMembers cmp built (items_view ds)

  abbrev pub AreRefused : List Data → List ℕ → Type 0
  AreRefused ds = RefusedItems built refused (items_view ds)

  -- ---- an item behind others
  last_matches : (front : List Data) (d : Data) → AreShaped (front ++ d ∷ []) → HasShape s.0 s.1 (data_of d)
  last_matches [] d h = and_left (has_shape s.0 s.1 (data_of d)) _ h
  last_matches (c ∷ front) d h = last_matches front d (and_right (has_shape s.0 s.1 (data_of c)) _ h)

  others_match : (front : List Data) (d : Data) → AreShaped (front ++ d ∷ []) → AreShaped front
  others_match [] d h = refl
  others_match (c ∷ front) d h =
      let first = and_left (has_shape s.0 s.1 (data_of c)) _ h in
      let others = others_match front d (and_right (has_shape s.0 s.1 (data_of c)) _ h) in
      λ t. (first t && others t)

  last_item : (front : List Data) (d : Data) (x : T) (xs : List T) → built (data_of d) x
      → BuiltItems built (items_view front) xs → BuiltItems built (items_view (front ++ d ∷ [])) (xs ++ x ∷ [])
  last_item [] d x [] b h = (b, tt)
  last_item [] d x (y ∷ xs) b h = absurd h
  last_item (c ∷ front) d x [] b h = absurd h
  last_item (c ∷ front) d x (y ∷ xs) b h = (h.0, last_item front d x xs b h.1)

  last_built : (front : List Data) (d : Data) (x : T) (after : List T) → built (data_of d) x → AreBuilt front after
      → AreBuilt (front ++ d ∷ []) (insert_key cmp after x)
  last_built front d x after b h = (
    h.0 ++ x ∷ [],
    last_item front d x h.0 b h.1,
    ap (λ l. insert_key cmp l x) h.2 ∙ sym (inserted_last cmp [] h.0 x),
  )

  -- where those in front are built, its refusal is that of all
  last_refused : (front : List Data) (d : Data) (xs : List T) (message : List ℕ) → refused (data_of d) message
      → BuiltItems built (items_view front) xs → AreRefused (front ++ d ∷ []) message
  last_refused [] d xs message r h = inl r
  last_refused (c ∷ front) d [] message r h = absurd h
  last_refused (c ∷ front) d (y ∷ xs) message r h = inr ((y, h.0), last_refused front d xs message r h.1)

  -- and a refusal in front is so in any case
  others_refused : (front : List Data) (d : Data) (message : List ℕ) → AreRefused front message
      → AreRefused (front ++ d ∷ []) message
  others_refused [] d message h = absurd h
  others_refused (c ∷ front) d message (inl r) = inl r
  others_refused (c ∷ front) d message (inr r) = inr (r.0, others_refused front d message r.1)

  module _ (whole : List Data) where
    -- what the rest of the items gives decides what the whole does
    pub record IsFilling (now : List T) (rest : List Data) : Type 0 where
      pub shaped : AreShaped rest
      pub rest_built : (xs : List T) → BuiltItems built (items_view rest) xs
          → AreBuilt whole (inserted_all cmp now xs)
      pub rest_refused : (message : List ℕ) → AreRefused rest message → AreRefused whole message

    -- what the items in front give decides, with the elements of those behind, what the whole does
    pub record IsFront (front : List Data) (behind : List T) : Type 0 where
      pub shaped : AreShaped front
      pub all_built : (first : List T) → AreBuilt front first → AreBuilt whole (inserted_all cmp first behind)
      pub front_refused : (message : List ℕ) → AreRefused front message → AreRefused whole message

module _ {T : Type 0} {s : Start} {cmp : T → T → Ordering} {built : PlainData → T → Type 0}
    {refused : PlainData → List ℕ → Type 0} {whole : List Data} where
  -- ---- from the first on
  -- one more
  pub filling_next : {now more : List T} {left rest : List Data} {d : Data} (x : T) → left ≡ d ∷ rest
      → more ≡ insert_key cmp now x → built (data_of d) x → IsFilling s cmp built refused whole now left
      → IsFilling s cmp built refused whole more rest
  filling_next {now} {more} {left} {rest} {d} x next put b h =
      let are = subst (IsFilling s cmp built refused whole now) next h in
      subst (λ l. IsFilling s cmp built refused whole l rest) (sym put) (record {
        shaped = and_right (has_shape s.0 s.1 (data_of d)) _ are.shaped;
        rest_built = λ xs more. are.rest_built (x ∷ xs) (b, more);
        rest_refused = λ message r. are.rest_refused message (inr ((x, b), r));
      })

  -- all
  pub filling_all : {now : List T} {left : List Data} → left ≡ [] → IsFilling s cmp built refused whole now left
      → BuiltMembers cmp built (items_view whole) now
  filling_all {now} none h = (subst (IsFilling s cmp built refused whole now) none h).rest_built [] tt

  -- ---- from the last on
  -- the last in front, as the code takes it, is of the shape
  pub last_shaped : {left : List Data} {behind : List T} (front : List Data) (d : Data) → left ≡ front ++ d ∷ []
      → IsFront s cmp built refused whole left behind → HasShape s.0 s.1 (data_of d)
  last_shaped {left} {behind} front d next h =
      last_matches s cmp built refused front d (subst (λ l. IsFront s cmp built refused whole l behind) next h).shaped

  -- those in front of it are
  pub front_shaped : {left : List Data} {behind : List T} (front : List Data) (d : Data) → left ≡ front ++ d ∷ []
      → IsFront s cmp built refused whole left behind → IsTrue (all_have s.0 s.1 (items_view front))
  front_shaped {left} {behind} front d next h =
      others_match s cmp built refused front d (subst (λ l. IsFront s cmp built refused whole l behind) next h).shaped

  -- a refusal among them is that of the whole
  pub refused_in_front : {left : List Data} {behind : List T} (front : List Data) (d : Data) (fault : BuildFault)
      → left ≡ front ++ d ∷ [] → IsFront s cmp built refused whole left behind
      → IsBuildRefusal (RefusedItems built refused (items_view front)) fault
      → IsBuildRefusal (RefusedItems built refused (items_view whole)) fault
  refused_in_front {left} {behind} front d fault next h =
      told_by _ _ fault (λ message r. (subst (λ l. IsFront s cmp built refused whole l behind) next h).front_refused
      message (others_refused s cmp built refused front d message r))

  -- and that of the last is it, where they are built
  pub refused_behind : {left : List Data} {behind first : List T} (front : List Data) (d : Data) (fault : BuildFault)
      → left ≡ front ++ d ∷ [] → IsFront s cmp built refused whole left behind
      → BuiltMembers cmp built (items_view front) first → IsBuildRefusal (refused (data_of d)) fault
      → IsBuildRefusal (RefusedItems built refused (items_view whole)) fault
  refused_behind {left} {behind} {first} front d fault next h b =
      told_by _ _ fault (λ message r. (subst (λ l. IsFront s cmp built refused whole l behind) next h).front_refused
      message (last_refused s cmp built refused front d b.0 message r b.1))

  -- one more is behind
  pub front_next : {left : List Data} {behind more : List T} (front : List Data) (d : Data) (x : T)
      → left ≡ front ++ d ∷ [] → more ≡ x ∷ behind → built (data_of d) x → IsFront s cmp built refused whole left behind
      → IsFront s cmp built refused whole front more
  front_next {left} {behind} {more} front d x next put b h =
      let are = subst (λ l. IsFront s cmp built refused whole l behind) next h in
      subst (IsFront s cmp built refused whole front) (sym put) (record {
        shaped = others_match s cmp built refused front d are.shaped;
        all_built = λ first more. are.all_built (insert_key cmp first x)
            (last_built s cmp built refused front d x first b more);
        front_refused = λ message r. are.front_refused message (others_refused s cmp built refused front d message r);
      })

  -- where those in front were put in, then the last, and then the elements behind, all were
  pub put_behind : {left : List Data} {behind : List T} (front : List Data) (d : Data) (x : T)
      {first with all : List T} → left ≡ front ++ d ∷ [] → built (data_of d) x
      → BuiltMembers cmp built (items_view front) first
      → with ≡ insert_key cmp first x → all ≡ inserted_all cmp with behind
      → IsFront s cmp built refused whole left behind → BuiltMembers cmp built (items_view whole) all
  put_behind {left} {behind} front d x {first} next b made put others h =
      subst (BuiltMembers cmp built (items_view whole)) (sym (others ∙ ap (λ l. inserted_all cmp l behind) put))
      ((front_next front d x next refl b h).all_built first made)

  -- none is in front
  pub all_behind : {front : List Data} {behind : List T} → IsTotalOrder cmp → IsStrictlySortedBy cmp behind
      → front ≡ [] → IsFront s cmp built refused whole front behind → BuiltMembers cmp built (items_view whole) behind
  all_behind {front} {behind} total sorted none h =
      subst (BuiltMembers cmp built (items_view whole)) (set_of_sorted cmp total behind sorted)
      ((subst (λ l. IsFront s cmp built refused whole l behind) none h).all_built [] ([], tt, refl))
