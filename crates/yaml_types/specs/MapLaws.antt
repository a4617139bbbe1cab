-- Maps are equal again where their keys and values are.
use Rattle.std.specs.Prelude.{◌≡◌, ℕ, List, [], ◌∷◌, ◌++◌, map, Bool, true, ◌&&◌, refl}
use Rattle.std.proofs.Common.{sym, ◌∙◌, ap, subst, inl, inr, append_assoc, append-nil}
use Rattle.std.specs.declared.cmp.Ordering.{Ordering}
use Rattle.std.specs.declared.cmp.Ordering.TheVariants.{Less, Equal, Greater}
use Rattle.std.specs.Ordering.{eq_by_cmp, ordering_reverse, match_ordering}
use Rattle.std.specs.Cmp.{IsTotalOrder, Equal-is}
use Rattle.std.specs.Cmp.Lexicographic.{pointwise}
use Rattle.std.specs.List.{AllByRecursion}
use Rattle.std.specs.List.Sorted.{IsStrictlySortedBy}
use Rattle.std.specs.Map.{keys_of}
use Rattle.std.specs.BTreeMap.{BTreeMap, insert_entry}
use Rattle.std.proofs.lemmas.Map.Keys.{sorted_head, sorted_tail}
use Rattle.std.proofs.lemmas.List.Elements.{All-head, All-tail}
use Rattle.yaml_tree.specs.TakeOut.{from_false, and_left, and_right}
use Rattle.yaml_shape.specs.DataView.{entries_of}
use Rattle.yaml_shape.specs.EqualData.{data_eq, entries_eq, EqualData}
use Rattle.yaml_shape.specs.PlainData.{PlainData, PlainEntries, map_data, no_entries, entry}
use Rattle.yaml_types.specs.BuiltParts.{BuiltEntries, BuiltMap}
use Rattle.yaml_types.specs.RefusalParts.{RefusedEntries, RefusedMap}
use Rattle.yaml_types.specs.ReturnLaws.{AreReturned, AreAccepted}
use Rattle.yaml_types.specs.WrittenParts.{map_written, PairsKeep, MapKeeps}

module _ {K V : Type 0} (cmp : K → K → Ordering) where
  -- each key of the first list is below each of the second
  abbrev pub AreBelow : List (K × V) → List (K × V) → Type 0
  AreBelow before after = AllByRecursion (λ p. AllByRecursion (λ q. cmp p.0 q.0 ≡ Less) after) before

  pub below_tail : (before after : List (K × V)) (x : K × V) → AreBelow before (x ∷ after) → AreBelow before after
  below_tail [] after x h = tt
  below_tail (p ∷ before) after x h = (h.0.1, below_tail before after x h.1)

  pub below_push : (before after : List (K × V)) (p : K × V) → AreBelow before after
      → AllByRecursion (λ q. cmp p.0 q.0 ≡ Less) after → AreBelow (before ++ p ∷ []) after
  below_push [] after p h a = (a, tt)
  below_push (q ∷ before) after p h a = (h.0, below_push before after p h.1 a)

  -- a key above all others goes behind them
  pub inserted_last : (before : List (K × V)) (k : K) (v : V) → AllByRecursion (λ p. cmp k p.0 ≡ Greater) before
      → insert_entry cmp before k v ≡ before ++ (k, v) ∷ []
  inserted_last [] k v h = refl
  inserted_last (p ∷ before) k v h =
      ap (λ o. match_ordering o ((k, v) ∷ p ∷ before) ((p.0, v) ∷ before) (p ∷ insert_entry cmp before k v)) h.0
      ∙ ap (λ l. p ∷ l) (inserted_last before k v h.1)

  module _ (total : IsTotalOrder cmp) where
    -- a key equal to another is above what that is above
    pub above : (before after : List (K × V)) (x : K × V) (k : K) → cmp x.0 k ≡ Equal → AreBelow before (x ∷ after)
        → AllByRecursion (λ p. cmp k p.0 ≡ Greater) before
    above [] after x k same h = tt
    above (p ∷ before) after x k same h = (
      sym (total.congr x.0 k p.0 same) ∙ (total.antisymm x.0 p.0 ∙ ap ordering_reverse h.0.0),
      above before after x k same h.1,
    )

    -- and below what that is below
    pub below : (after : List (K × V)) (x : K × V) (k : K) → cmp x.0 k ≡ Equal
        → AllByRecursion (λ q. cmp x.0 q ≡ Less) (keys_of after) → AllByRecursion (λ q. cmp k q.0 ≡ Less) after
    below [] x k same h = tt
    below (q ∷ after) x k same h = (sym (total.congr x.0 k q.0 same) ∙ h.0, below after x k same h.1)

    module _ (key : K → Type 0) (value : V → Type 0) (one : K → PlainData) (two : V → PlainData)
        (built : PlainData → K → Type 0) (built' : PlainData → V → Type 0) (eq : K → K → Bool) (eq' : V → V → Bool)
        (ties : (x y : K) → eq x y ≡ eq_by_cmp cmp x y) where
      entries_returned : AreReturned key one built eq → AreReturned value two built' eq' → (pairs : List (K × V))
          (es : PlainEntries) (before after : List (K × V)) → IsStrictlySortedBy cmp (keys_of pairs)
          → AreBelow before pairs → PairsKeep key value pairs
          → entries_eq (entries_of (map (λ p. (one p.0, two p.1)) pairs)) es ≡ true
          → BuiltEntries cmp built built' es before after
          → (new : List (K × V)) × (after ≡ before ++ new)
          × (pointwise (λ p q. eq p.0 q.0 && eq' p.1 q.1) pairs new ≡ true)
      entries_returned law law' [] no_entries before after s low k e b = ([], b ∙ sym (append-nil before), refl)
      entries_returned law law' [] (entry a c es) before after s low k e b = from_false e
      entries_returned law law' (x ∷ pairs) no_entries before after s low k e b = from_false e
      entries_returned law law' (x ∷ pairs) (entry a c es) before after s low k e b =
          let both = All-head (λ (p : K × V). key p.0 × value p.1) x pairs k in
          let others = and_right (data_eq (one x.0) a) _ e in
          let same : eq x.0 b.0 ≡ true = law x.0 b.0 a both.0 (and_left _ _ e) b.2 in
          let tied : cmp x.0 b.0 ≡ Equal = (Equal-is (cmp x.0 b.0)).0 (sym (ties x.0 b.0) ∙ same) in
          let last : insert_entry cmp before b.0 b.1 ≡ before ++ (b.0, b.1) ∷ [] =
          inserted_last before b.0 b.1 (above before pairs x b.0 tied low) in
          let rest = entries_returned law law' pairs es (before ++ (b.0, b.1) ∷ []) after
          (sorted_tail cmp x.0 (keys_of pairs) s)
          (below_push before pairs (b.0, b.1) (below_tail before pairs x low)
          (below pairs x b.0 tied (sorted_head cmp x.0 (keys_of pairs) s)))
          (All-tail (λ (p : K × V). key p.0 × value p.1) x pairs k)
          (and_right (data_eq (two x.1) c) _ others)
          (subst (λ l. BuiltEntries cmp built built' es l after) last b.4) in (
            (b.0, b.1) ∷ rest.0,
            rest.1 ∙ append_assoc before ((b.0, b.1) ∷ []) rest.0,
            λ t. (same t && law' x.1 b.1 c both.1 (and_left _ _ others) b.3 t) && rest.2 t,
          )

      -- of equal data an equal map is built
      pub map_returned : AreReturned key one built eq → AreReturned value two built' eq' → (m y : BTreeMap K V)
          (d : PlainData) → MapKeeps cmp key value m → EqualData (map_written one two m.entries) d
          → BuiltMap cmp built built' d y.entries
          → pointwise (λ p q. eq p.0 q.0 && eq' p.1 q.1) m.entries y.entries ≡ true
      map_returned law law' m y (map_data es) k e b =
          let r = entries_returned law law' m.entries es [] y.entries k.1 tt k.0 e b in
          subst (λ l. pointwise (λ p q. eq p.0 q.0 && eq' p.1 q.1) m.entries l ≡ true) (sym r.1) r.2
      map_returned law law' m y _ k e b = absurd b

module _ {K V : Type 0} (one : K → PlainData) (two : V → PlainData) (built : PlainData → K → Type 0)
    (built' : PlainData → V → Type 0) (refused refused' : PlainData → List ℕ → Type 0) where
  entries_accepted : AreAccepted one refused → AreAccepted two refused' → (pairs : List (K × V)) (es : PlainEntries)
      (message : List ℕ) → entries_eq (entries_of (map (λ p. (one p.0, two p.1)) pairs)) es ≡ true
      → RefusedEntries built built' refused refused' es message → ⊥
  entries_accepted law law' [] no_entries m e r = r
  entries_accepted law law' (x ∷ pairs) no_entries m e r = r
  entries_accepted law law' [] (entry a c es) m e r = from_false e
  entries_accepted law law' (x ∷ pairs) (entry a c es) m e (inl r) = law x.0 a m (and_left _ _ e) r
  entries_accepted law law' (x ∷ pairs) (entry a c es) m e (inr r) =
      let rest = and_right (data_eq (one x.0) a) _ e in
      elim r.1 [
        | inl q ↦ law' x.1 c m (and_left _ _ rest) q
        | inr q ↦ entries_accepted law law' pairs es m (and_right (data_eq (two x.1) c) _ rest) q.1
      ]

  -- equal data is not refused
  pub map_accepted : AreAccepted one refused → AreAccepted two refused' → (m : BTreeMap K V) (d : PlainData)
      (message : List ℕ) → EqualData (map_written one two m.entries) d
      → RefusedMap built built' refused refused' d message → ⊥
  map_accepted law law' m (map_data es) text e r = entries_accepted law law' m.entries es text e r
  map_accepted law law' m _ text e r = r
