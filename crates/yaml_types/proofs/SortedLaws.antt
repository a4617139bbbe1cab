-- Keys that ascend, put in one after another, give what they are; and one below all others is put in before them.
use Rattle.std.proofs.Common.{◌≡◌, List, [], ◌∷◌, ◌++◌, Some, refl, sym, ◌∙◌, ap, append_assoc, append-nil}
use Rattle.std.specs.Prelude.{slice_get}
use Rattle.std.specs.Option.{unwrap_or}
use Rattle.std.specs.declared.cmp.Ordering.{Ordering}
use Rattle.std.specs.declared.cmp.Ordering.TheVariants.{Less}
use Rattle.std.specs.Ordering.{match_ordering}
use Rattle.std.specs.Cmp.{IsTotalOrder, tied_itself}
use Rattle.std.specs.List.Sorted.{IsStrictlySortedBy}
use Rattle.std.specs.Map.{keys_of}
use Rattle.std.specs.BTreeMap.{insert_entry}
use Rattle.std.specs.BTreeSet.{insert_key}
use Rattle.std.proofs.lemmas.Map.Keys.{sorted_head, sorted_tail}
use Rattle.yaml_types.specs.Inserted.{inserted_pairs}
use Rattle.yaml_types.specs.MapLaws as maps
use Rattle.yaml_types.specs.SetLaws as sets
use Rattle.yaml_types.specs.Sets.{inserted_all}

module _ {K : Type 0} (cmp : K → K → Ordering) where
  -- pairs
  module _ {V : Type 0} where
    pub put_before : (ps : List (K × V)) (q : K × V) (k : K) → slice_get ps 0 ≡ Some q → cmp k q.0 ≡ Less → (v : V)
        → insert_entry cmp ps k v ≡ (k, v) ∷ ps
    put_before [] q k first low v = refl
    put_before (p ∷ ps) q k first low v =
        ap (λ o. match_ordering o ((k, v) ∷ p ∷ ps) ((p.0, v) ∷ ps) (p ∷ insert_entry cmp ps k v))
        (ap (λ o. cmp k (unwrap_or o p).0) first ∙ low)

    pairs_sorted : IsTotalOrder cmp → (ps before : List (K × V)) → IsStrictlySortedBy cmp (keys_of ps)
        → maps.AreBelow cmp before ps → inserted_pairs cmp before ps ≡ before ++ ps
    pairs_sorted total [] before s low = sym (append-nil before)
    pairs_sorted total (p ∷ ps) before s low =
        let same = tied_itself total p.0 in
        ap (λ l. inserted_pairs cmp l ps)
        (maps.inserted_last cmp before p.0 p.1 (maps.above cmp total before ps p p.0 same low))
        ∙ (pairs_sorted total ps (before ++ p ∷ []) (sorted_tail cmp p.0 (keys_of ps) s)
        (maps.below_push cmp before ps p (maps.below_tail cmp before ps p low)
        (maps.below cmp total ps p p.0 same (sorted_head cmp p.0 (keys_of ps) s)))
        ∙ append_assoc before (p ∷ []) ps)

    pub map_of_sorted : IsTotalOrder cmp → (ps : List (K × V)) → IsStrictlySortedBy cmp (keys_of ps)
        → inserted_pairs cmp [] ps ≡ ps
    map_of_sorted total ps s = pairs_sorted total ps [] s tt

  -- elements of a set likewise
  pub member_before : (xs : List K) (y x : K) → slice_get xs 0 ≡ Some y → cmp x y ≡ Less
      → insert_key cmp xs x ≡ x ∷ xs
  member_before [] y x first low = refl
  member_before (z ∷ xs) y x first low =
      ap (λ o. match_ordering o (x ∷ z ∷ xs) (z ∷ xs) (z ∷ insert_key cmp xs x)) (ap (λ o. cmp x (unwrap_or o z))
      first ∙ low)

  members_sorted : IsTotalOrder cmp → (xs before : List K) → IsStrictlySortedBy cmp xs → sets.AreBelow cmp before xs
      → inserted_all cmp before xs ≡ before ++ xs
  members_sorted total [] before s low = sym (append-nil before)
  members_sorted total (x ∷ xs) before s low =
      let same = tied_itself total x in
      ap (λ l. inserted_all cmp l xs)
      (sets.inserted_last cmp before x (sets.above cmp total before xs x x same low))
      ∙ (members_sorted total xs (before ++ x ∷ []) (sorted_tail cmp x xs s)
      (sets.below_push cmp before xs x (sets.below_tail cmp before xs x low) (sorted_head cmp x xs s))
      ∙ append_assoc before (x ∷ []) xs)

  pub set_of_sorted : IsTotalOrder cmp → (xs : List K) → IsStrictlySortedBy cmp xs → inserted_all cmp [] xs ≡ xs
  set_of_sorted total xs s = members_sorted total xs [] s tt
