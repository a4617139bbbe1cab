-- The data of elements one by one, as a loop makes it.
use Rattle.std.proofs.Common.{◌≡◌, List, [], ◌∷◌, ◌++◌, map, sym, ◌∙◌, ap, subst, append_assoc, append-nil}
use Rattle.std.specs.Prelude.{Vec, All}
use Rattle.std.specs.declared.alloc.Global.{Global}
use Rattle.std.proofs.lemmas.List.{map-append}
use Rattle.std.proofs.lemmas.List.Elements.{All-push}
use Rattle.yaml_shape.specs.PlainData.{PlainData, seq_data}
use Rattle.yaml_shape.specs.DataView.{data_of, items_of}
use Rattle.yaml_shape.specs.declared.data.Data.{Data, Seq}
use Rattle.yaml_types.specs.WrittenParts.{seq_written}
use Rattle.yaml_types.proofs.FoundLaws.{data_of-Seq}

module _ {T : Type 0} (written : T → PlainData) (kept : T → Type 0) where
  -- the data is that of the first elements, which keep what they do, and others are left
  pub record AreShown (whole : List T) (made : List Data) (rest : List T) : Type 0 where
    pub front : List T
    pub row : front ++ rest ≡ whole
    pub shown : map data_of made ≡ map written front
    pub keep : All kept front

  -- one more
  pub shown_more : (whole left rest : List T) (made pushed : List Data) (x : T) (d : Data) → left ≡ x ∷ rest
      → pushed ≡ made ++ d ∷ [] → data_of d ≡ written x → kept x → AreShown whole made left
      → AreShown whole pushed rest
  shown_more whole left rest made pushed x d next push is keeps are = record {
    front = are.front ++ x ∷ [];
    row = append_assoc are.front (x ∷ []) rest ∙ (ap (λ l. are.front ++ l) (sym next) ∙ are.row);
    shown = ap (map data_of) push
        ∙ (map-append data_of made (d ∷ [])
        ∙ ((λ t. are.shown t ++ is t ∷ []) ∙ sym (map-append written are.front (x ∷ []))));
    keep = All-push kept are.front x are.keep keeps;
  }

  -- all
  pub shown_all : (whole left : List T) (made : Vec Data Global) → left ≡ [] → AreShown whole made.items left
      → (data_of (Seq made) ≡ seq_written written whole) × All kept whole
  shown_all whole left made none are =
      let row : are.front ≡ whole =
      sym (append-nil are.front) ∙ (ap (λ l. are.front ++ l) (sym none) ∙ are.row) in (
        data_of-Seq made ∙ ap (λ ds. seq_data (items_of ds)) (are.shown ∙ ap (map written) row),
        subst (All kept) row are.keep,
      )
