-- A map that pairs are put into: those so far, one after another, and those behind, from the last on.
use Rattle.std.proofs.Common.{◌≡◌, List, [], ◌∷◌, ◌++◌, refl, sym, ◌∙◌, ap}
use Rattle.std.specs.declared.cmp.Ordering.{Ordering}
use Rattle.std.specs.Cmp.{IsTotalOrder}
use Rattle.std.specs.List.Sorted.{IsStrictlySortedBy}
use Rattle.std.specs.Map.{keys_of}
use Rattle.std.specs.BTreeMap.{insert_entry}
use Rattle.yaml_types.specs.Inserted.{inserted_pairs}
use Rattle.yaml_types.proofs.SortedLaws.{map_of_sorted}

module _ {K V : Type 0} (cmp : K → K → Ordering) where
  -- the pairs behind, put in once those in front are, give what all do
  abbrev pub AreFront : (all front behind : List (K × V)) → Type 0
  AreFront all front behind = inserted_pairs cmp (inserted_pairs cmp [] front) behind ≡ inserted_pairs cmp [] all

  inserted_last : (before ps : List (K × V)) (p : K × V)
      → inserted_pairs cmp before (ps ++ p ∷ []) ≡ insert_entry cmp (inserted_pairs cmp before ps) p.0 p.1
  inserted_last before [] p = refl
  inserted_last before (q ∷ ps) p = inserted_last (insert_entry cmp before q.0 q.1) ps p

  -- one more is behind
  pub front_falls : (all left behind more front : List (K × V)) (p : K × V) → left ≡ front ++ p ∷ []
      → more ≡ p ∷ behind → AreFront all left behind → AreFront all front more
  front_falls all left behind more front p next put h =
      ap (inserted_pairs cmp (inserted_pairs cmp [] front)) put
      ∙ (ap (λ l. inserted_pairs cmp l behind) (sym (inserted_last [] front p))
      ∙ (ap (λ l. inserted_pairs cmp (inserted_pairs cmp [] l) behind) (sym next) ∙ h))

  -- those in front, then the last of them, and then the pairs behind are all
  pub put_between : (all left behind with whole front first : List (K × V)) (p : K × V)
      → left ≡ front ++ p ∷ [] → first ≡ inserted_pairs cmp [] front → with ≡ insert_entry cmp first p.0 p.1
      → whole ≡ inserted_pairs cmp with behind → AreFront all left behind → whole ≡ inserted_pairs cmp [] all
  put_between all left behind with whole front first p next made put others h =
      others ∙ (ap (λ l. inserted_pairs cmp l behind) (put ∙ (ap (λ l. insert_entry cmp l p.0 p.1) made
      ∙ (sym (inserted_last [] front p) ∙ ap (inserted_pairs cmp []) (sym next)))) ∙ h)

  -- none is in front
  pub none_in_front : (all left behind : List (K × V)) → IsTotalOrder cmp → IsStrictlySortedBy cmp (keys_of behind)
      → left ≡ [] → AreFront all left behind → behind ≡ inserted_pairs cmp [] all
  none_in_front all left behind total s none h =
      sym (map_of_sorted cmp total behind s)
      ∙ (ap (λ l. inserted_pairs cmp (inserted_pairs cmp [] l) behind) (sym none) ∙ h)
