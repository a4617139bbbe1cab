-- A map that entries are put into: those so far, one after another, and those behind, from the last on.
use Rattle.std.proofs.Common.{◌≡◌, ℕ, List, [], ◌∷◌, ◌++◌, refl, sym, ◌∙◌, ap, subst, inl, inr}
use Rattle.std.specs.Prelude.{IsTrue, ◌&&◌}
use Rattle.std.specs.declared.cmp.Ordering.{Ordering}
use Rattle.std.specs.Cmp.{IsTotalOrder}
use Rattle.std.specs.List.Sorted.{IsStrictlySortedBy}
use Rattle.std.specs.Map.{keys_of}
use Rattle.std.specs.BTreeMap.{insert_entry}
use Rattle.yaml_tree.specs.TakeOut.{and_left, and_right}
use Rattle.yaml_shape.specs.PlainData.{PlainData}
use Rattle.yaml_shape.specs.HasShape.{HasShape, has_shape}
use Rattle.yaml_shape.specs.DataView.{entry_of, entries_view}
use Rattle.yaml_shape.specs.declared.data.Entry.{Entry}
use Rattle.yaml_types.specs.Start.{Start}
use Rattle.yaml_types.specs.PartShapes.{entries_match}
use Rattle.yaml_types.specs.BuiltParts.{BuiltBoth, BuiltEntries}
use Rattle.yaml_types.specs.Inserted.{inserted_pairs}
use Rattle.yaml_types.specs.RefusalParts.{RefusedBoth, RefusedEntries}
use Rattle.yaml_types.specs.BuildRefusal.{IsBuildRefusal}
use Rattle.yaml_types.specs.declared.fault.BuildFault.{BuildFault}
use Rattle.yaml_types.proofs.BuildLaws.{told_by}
use Rattle.yaml_types.proofs.SortedLaws.{map_of_sorted}

module _ {K V : Type 0} (k v : Start) (cmp : K → K → Ordering) (built : PlainData → K → Type 0)
    (built' : PlainData → V → Type 0) (refused refused' : PlainData → List ℕ → Type 0) where
  abbrev pub AreShaped : List Entry → Type 0
  AreShaped es = IsTrue (entries_match k v (entries_view es))

  abbrev pub AreBuilt : List Entry → List (K × V) → List (K × V) → Type 0
  AreBuilt es = BuiltEntries cmp built built' (entries_view es)

  abbrev pub AreRefused : List Entry → List ℕ → Type 0
  AreRefused es = RefusedEntries built built' refused refused' (entries_view es)

  -- ---- an entry behind others
  last_matches : (front : List Entry) (e : Entry) → AreShaped (front ++ e ∷ [])
      → HasShape k.0 k.1 (entry_of e).0 × HasShape v.0 v.1 (entry_of e).1
  last_matches [] e h = (
    and_left (has_shape k.0 k.1 (entry_of e).0) _ h,
    and_left (has_shape v.0 v.1 (entry_of e).1) _
        (and_right (has_shape k.0 k.1 (entry_of e).0) _ h),
  )
  last_matches (d ∷ front) e h =
      last_matches front e (and_right (has_shape v.0 v.1 (entry_of d).1) _
      (and_right (has_shape k.0 k.1 (entry_of d).0) _ h))

  others_match : (front : List Entry) (e : Entry) → AreShaped (front ++ e ∷ []) → AreShaped front
  others_match [] e h = refl
  others_match (d ∷ front) e h =
      let key = and_left (has_shape k.0 k.1 (entry_of d).0) _ h in
      let rest = and_right (has_shape k.0 k.1 (entry_of d).0) _ h in
      let value = and_left (has_shape v.0 v.1 (entry_of d).1) _ rest in
      let others = others_match front e (and_right (has_shape v.0 v.1 (entry_of d).1) _ rest) in
      λ t. (key t && (value t && others t))

  last_built : (front : List Entry) (e : Entry) (p : K × V) (before after : List (K × V))
      → BuiltBoth built built' (entry_of e) p → AreBuilt front before after
      → AreBuilt (front ++ e ∷ []) before (insert_entry cmp after p.0 p.1)
  last_built [] e p before after b h = (p.0, p.1, b.0, b.1, ap (λ l. insert_entry cmp l p.0 p.1) h)
  last_built (d ∷ front) e p before after b h =
      (h.0, h.1, h.2, h.3, last_built front e p (insert_entry cmp before h.0 h.1) after b h.4)

  -- where those in front are built, its refusal is that of all
  last_refused : (front : List Entry) (e : Entry) (before after : List (K × V)) (message : List ℕ)
      → RefusedBoth built refused refused' (entry_of e) message → AreBuilt front before after
      → AreRefused (front ++ e ∷ []) message
  last_refused [] e before after message (inl r) h = inl r
  last_refused [] e before after message (inr r) h = inr (r.0, inl r.1)
  last_refused (d ∷ front) e before after message r h =
      inr ((h.0, h.2), inr ((h.1, h.3), last_refused front e (insert_entry cmp before h.0 h.1) after message r h.4))

  -- and a refusal in front is so in any case
  others_refused : (front : List Entry) (e : Entry) (message : List ℕ) → AreRefused front message
      → AreRefused (front ++ e ∷ []) message
  others_refused [] e message h = absurd h
  others_refused (d ∷ front) e message (inl r) = inl r
  others_refused (d ∷ front) e message (inr r) =
      elim r.1 [
        | inl q ↦ inr (r.0, inl q)
        | inr q ↦ inr (r.0, inr (q.0, others_refused front e message q.1))
      ]

  module _ (whole : List Entry) where
    -- what the rest of the entries gives decides what the whole does
    pub record IsFilling (now : List (K × V)) (rest : List Entry) : Type 0 where
      pub shaped : AreShaped rest
      pub rest_built : (after : List (K × V)) → AreBuilt rest now after → AreBuilt whole [] after
      pub rest_refused : (message : List ℕ) → AreRefused rest message → AreRefused whole message

    -- what the entries in front give decides, with the pairs of those behind, what the whole does
    pub record IsFront (front : List Entry) (behind : List (K × V)) : Type 0 where
      pub shaped : AreShaped front
      pub all_built : (first : List (K × V)) → AreBuilt front [] first
          → AreBuilt whole [] (inserted_pairs cmp first behind)
      pub front_refused : (message : List ℕ) → AreRefused front message → AreRefused whole message

module _ {K V : Type 0} {k v : Start} {cmp : K → K → Ordering} {built : PlainData → K → Type 0}
    {built' : PlainData → V → Type 0} {refused refused' : PlainData → List ℕ → Type 0} {whole : List Entry} where
  -- ---- from the first on
  -- the next, as the code takes it, is of its shapes
  pub next_shaped : {now : List (K × V)} {left rest : List Entry} {e : Entry} → left ≡ e ∷ rest
      → IsFilling k v cmp built built' refused refused' whole now left
      → HasShape k.0 k.1 (entry_of e).0 × HasShape v.0 v.1 (entry_of e).1
  next_shaped {now} {left} {rest} {e} next h =
      let shaped = (subst (IsFilling k v cmp built built' refused refused' whole now) next h).shaped in (
        and_left (has_shape k.0 k.1 (entry_of e).0) _ shaped,
        and_left (has_shape v.0 v.1 (entry_of e).1) _ (and_right (has_shape k.0 k.1 (entry_of e).0) _ shaped),
      )

  -- one more
  pub filling_next : {now more : List (K × V)} {left rest : List Entry} {e : Entry} (p : K × V) → left ≡ e ∷ rest
      → more ≡ insert_entry cmp now p.0 p.1 → BuiltBoth built built' (entry_of e) p
      → IsFilling k v cmp built built' refused refused' whole now left
      → IsFilling k v cmp built built' refused refused' whole more rest
  filling_next {now} {more} {left} {rest} {e} p next put b h =
      let are = subst (IsFilling k v cmp built built' refused refused' whole now) next h in
      subst (λ l. IsFilling k v cmp built built' refused refused' whole l rest) (sym put) (record {
        shaped = and_right (has_shape v.0 v.1 (entry_of e).1) _
            (and_right (has_shape k.0 k.1 (entry_of e).0) _ are.shaped);
        rest_built = λ after more. are.rest_built after (p.0, p.1, b.0, b.1, more);
        rest_refused = λ message r. are.rest_refused message (inr ((p.0, b.0), inr ((p.1, b.1), r)));
      })

  -- all
  pub filling_all : {now : List (K × V)} {left : List Entry} → left ≡ []
      → IsFilling k v cmp built built' refused refused' whole now left
      → BuiltEntries cmp built built' (entries_view whole) [] now
  filling_all {now} none h = (subst (IsFilling k v cmp built built' refused refused' whole now) none h).rest_built
      now refl

  -- ---- from the last on
  -- the last in front, as the code takes it, is of its shapes
  pub last_shaped : {left : List Entry} {behind : List (K × V)} (front : List Entry) (e : Entry)
      → left ≡ front ++ e ∷ [] → IsFront k v cmp built built' refused refused' whole left behind
      → HasShape k.0 k.1 (entry_of e).0 × HasShape v.0 v.1 (entry_of e).1
  last_shaped {left} {behind} front e next h =
      last_matches k v cmp built built' refused refused' front e (subst (λ l.
      IsFront k v cmp built built' refused refused' whole l behind) next h).shaped

  -- those in front of it are of theirs
  pub front_shaped : {left : List Entry} {behind : List (K × V)} (front : List Entry) (e : Entry)
      → left ≡ front ++ e ∷ [] → IsFront k v cmp built built' refused refused' whole left behind
      → IsTrue (entries_match k v (entries_view front))
  front_shaped {left} {behind} front e next h =
      others_match k v cmp built built' refused refused' front e (subst (λ l.
      IsFront k v cmp built built' refused refused' whole l behind) next h).shaped

  -- a refusal among them is that of the whole
  pub refused_in_front : {left : List Entry} {behind : List (K × V)} (front : List Entry) (e : Entry)
      (fault : BuildFault) → left ≡ front ++ e ∷ [] → IsFront k v cmp built built' refused refused' whole left behind
      → IsBuildRefusal (RefusedEntries built built' refused refused' (entries_view front)) fault
      → IsBuildRefusal (RefusedEntries built built' refused refused' (entries_view whole)) fault
  refused_in_front {left} {behind} front e fault next h =
      told_by _ _ fault (λ message r. (subst (λ l. IsFront k v cmp built built' refused refused' whole l behind)
      next h).front_refused message
      (others_refused k v cmp built built' refused refused' front e message r))

  -- and that of the last is it, where they are built
  pub refused_behind : {left : List Entry} {behind : List (K × V)} (front : List Entry) (e : Entry)
      (first : List (K × V)) (fault : BuildFault) → left ≡ front ++ e ∷ []
      → IsFront k v cmp built built' refused refused' whole left behind
      → BuiltEntries cmp built built' (entries_view front) [] first
      → IsBuildRefusal (RefusedBoth built refused refused' (entry_of e)) fault
      → IsBuildRefusal (RefusedEntries built built' refused refused' (entries_view whole)) fault
  refused_behind {left} {behind} front e first fault next h b =
      told_by _ _ fault (λ message r. (subst (λ l. IsFront k v cmp built built' refused refused' whole l behind)
      next h).front_refused message
      (last_refused k v cmp built built' refused refused' front e [] first message r b))

  -- one more is behind
  pub front_next : {left : List Entry} {behind more : List (K × V)} (front : List Entry) (e : Entry) (p : K × V)
      → left ≡ front ++ e ∷ [] → more ≡ p ∷ behind → BuiltBoth built built' (entry_of e) p
      → IsFront k v cmp built built' refused refused' whole left behind
      → IsFront k v cmp built built' refused refused' whole front more
  front_next {left} {behind} {more} front e p next put b h =
      let are = subst (λ l. IsFront k v cmp built built' refused refused' whole l behind) next h in
      subst (IsFront k v cmp built built' refused refused' whole front) (sym put) (record {
        shaped = others_match k v cmp built built' refused refused' front e are.shaped;
        all_built = λ first more. are.all_built (insert_entry cmp first p.0 p.1)
            (last_built k v cmp built built' refused refused' front e p [] first b more);
        front_refused = λ message r. are.front_refused message
            (others_refused k v cmp built built' refused refused' front e message r);
      })

  -- where those in front were put in, then the last, and then the pairs behind, all were
  pub put_behind : {left : List Entry} {behind : List (K × V)} (front : List Entry) (e : Entry) (p : K × V)
      (first : List (K × V)) {with all : List (K × V)} → left ≡ front ++ e ∷ []
      → BuiltBoth built built' (entry_of e) p → BuiltEntries cmp built built' (entries_view front) [] first
      → with ≡ insert_entry cmp first p.0 p.1
      → all ≡ inserted_pairs cmp with behind → IsFront k v cmp built built' refused refused' whole left behind
      → BuiltEntries cmp built built' (entries_view whole) [] all
  put_behind {left} {behind} front e p first next b made put others h =
      subst (BuiltEntries cmp built built' (entries_view whole) [])
      (sym (others ∙ ap (λ l. inserted_pairs cmp l behind) put))
      ((front_next front e p next refl b h).all_built first made)

  -- none is in front
  pub all_behind : {front : List Entry} {behind : List (K × V)} → IsTotalOrder cmp
      → IsStrictlySortedBy cmp (keys_of behind) → front ≡ []
      → IsFront k v cmp built built' refused refused' whole front behind
      → BuiltEntries cmp built built' (entries_view whole) [] behind
  all_behind {front} {behind} total s none h =
      subst (BuiltEntries cmp built built' (entries_view whole) []) (map_of_sorted cmp total behind s)
      ((subst (λ l. IsFront k v cmp built built' refused refused' whole l behind) none h).all_built [] refl)
