-- The data of values one by one, as a loop makes it.
use Rattle.std.proofs.Common.{◌≡◌, ◌<◌, ◌+◌, ℕ, List, [], ◌∷◌, ◌++◌, map, length, take, get_or, sym, ◌∙◌}
use Rattle.std.proofs.Common.{ap, subst, All, append_assoc, rules}
use Rattle.std.proofs.lemmas.List.{map-append, take_more}
use Rattle.std.proofs.lemmas.List.Elements.{All-more, All-push}
use Rattle.yaml_shape.specs.PlainData.{PlainData}
use Rattle.yaml_shape.specs.DataView.{data_of, entry_of}
use Rattle.yaml_shape.specs.declared.data.Data.{Data, the_lemmas}
use Rattle.yaml_shape.specs.declared.data.Entry.{Entry, roll-Entry}
use Rattle.yaml_types.specs.WrittenParts.{PairsKeep}

module _ {T : Type 0} (written : T → PlainData) (kept : T → Type 0) where
  -- the data is that of the first values, which keep what they do
  abbrev pub AreWritten : List T → ℕ → List Data → Type 0
  AreWritten xs i made = (map data_of made ≡ map written (take i xs)) × All kept (take i xs)

  -- one more
  pub written_more : (xs : List T) (made pushed : List Data) (i : ℕ) (x : T) (d : Data) → i < length xs
      → x ≡ get_or xs i x → pushed ≡ made ++ d ∷ [] → data_of d ≡ written x → kept x → AreWritten xs i made
      → AreWritten xs (i + 1) pushed
  written_more xs made pushed i x d within is push ok keeps are =
      let more : take (i + 1) xs ≡ take i xs ++ x ∷ [] =
      take_more xs i x within ∙ ap (λ y. take i xs ++ y ∷ []) (sym is) in (
        ap (map data_of) push
            ∙ (map-append data_of made (d ∷ [])
            ∙ ((λ t. are.0 t ++ ok t ∷ [])
            ∙ (sym (map-append written (take i xs) (x ∷ [])) ∙ ap (map written) (sym more)))),
        All-more kept xs i x within are.1 (subst kept is keeps),
      )

-- a key with a value as plain data
pub entry_of-made : (key value : Data)
    → entry_of (roll-Entry record { key = key; value = value }) ≡ (data_of key, data_of value)
entry_of-made key value = search (rules, the_lemmas)

module _ {K V : Type 0} (one : K → PlainData) (two : V → PlainData) (key : K → Type 0) (value : V → Type 0) where
  -- the data is that of the first pairs, which keep what they do, and others are left
  pub record AreListed (whole : List (K × V)) (made : List Entry) (rest : List (K × V)) : Type 0 where
    pub front : List (K × V)
    pub row : front ++ rest ≡ whole
    pub written : map entry_of made ≡ map (λ p. (one p.0, two p.1)) front
    pub keep : PairsKeep key value front

  -- one more
  pub listed_more : (whole left rest : List (K × V)) (made pushed : List Entry) (k : K) (v : V) (e : Entry)
      → left ≡ (k, v) ∷ rest → pushed ≡ made ++ e ∷ [] → entry_of e ≡ (one k, two v) → key k → value v
      → AreListed whole made left → AreListed whole pushed rest
  listed_more whole left rest made pushed k v e next push is kk kv are = record {
    front = are.front ++ (k, v) ∷ [];
    row = append_assoc are.front ((k, v) ∷ []) rest ∙ (ap (λ l. are.front ++ l) (sym next) ∙ are.row);
    written = ap (map entry_of) push
        ∙ (map-append entry_of made (e ∷ [])
        ∙ ((λ t. are.written t ++ is t ∷ []) ∙ sym (map-append (λ p. (one p.0, two p.1)) are.front ((k, v) ∷ []))));
    keep = All-push (λ p. key p.0 × value p.1) are.front (k, v) are.keep (kk, kv);
  }
