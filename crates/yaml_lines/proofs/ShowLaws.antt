-- The text of a sequence and of a mapping, item by item.
use Rattle.std.specs.Prelude.{codes, Vec}
use Rattle.std.specs.List.{flat_map}
use Rattle.std.specs.declared.alloc.Global.{Global}
use Rattle.std.proofs.Common.{◌≡◌, ℕ, List, [], ◌∷◌, ◌++◌, map, refl, sym, ap, ◌∙◌, append_assoc, rules, arith}
use Rattle.std.proofs.Common.{length, take, get_or, zero, suc, ◌<◌, ◌+◌}
use Rattle.std.proofs.lemmas.Bool.{ne_eqb}
use Rattle.std.proofs.lemmas.List.{take_more, append-nil}
use Rattle.std.proofs.lemmas.List.Concat.{flat_map-append}
use Rattle.yaml_shape.specs.PlainData.{seq_data, tuple_data, struct_data, map_data}
use Rattle.yaml_shape.specs.DataView.{data_of, items_of, entries_of}
use Rattle.yaml_shape.specs.declared.data.Data.{Data, Seq, Tuple, Struct, Map, the_lemmas}
use Rattle.yaml_shape.specs.declared.data.Entry.{Entry, out-Entry}
use Rattle.yaml_lines.specs.Listed.{listed, before_part}
use Rattle.yaml_lines.specs.DataText.{data_text, item_texts, entry_texts}
use Rattle.yaml_lines.specs.DataTextView.{item_text, data_entry_text}

items-texts : (xs : List Data) → item_texts (items_of (map data_of xs)) ≡ map item_text xs
items-texts [] = refl
items-texts (x ∷ xs) = ap (λ ts. item_text x ∷ ts) (items-texts xs)

data_of-Seq : (v : Vec Data Global) → data_of (Seq v) ≡ seq_data (items_of (map data_of v.items))
data_of-Seq v = search (rules, the_lemmas)

-- a sequence
pub show-Seq : (v : Vec Data Global) → data_text (data_of (Seq v)) ≡ codes "[" ++
    (listed (map item_text v.items) ++ codes "]")
show-Seq v = ap data_text (data_of-Seq v) ∙ ap (λ ts. codes "[" ++ (listed ts ++ codes "]")) (items-texts v.items)

data_of-Tuple : (v : Vec Data Global) → data_of (Tuple v) ≡ tuple_data (items_of (map data_of v.items))
data_of-Tuple v = search (rules, the_lemmas)

-- a tuple
pub show-Tuple : (v : Vec Data Global) → data_text (data_of (Tuple v)) ≡ codes "(" ++
    (listed (map item_text v.items) ++ codes ")")
show-Tuple v = ap data_text (data_of-Tuple v) ∙ ap (λ ts. codes "(" ++ (listed ts ++ codes ")")) (items-texts v.items)

data_of-Struct : (v : Vec Data Global) → data_of (Struct v) ≡ struct_data (items_of (map data_of v.items))
data_of-Struct v = search (rules, the_lemmas)

-- a struct
pub show-Struct : (v : Vec Data Global) → data_text (data_of (Struct v)) ≡ codes "struct(" ++
    (listed (map item_text v.items) ++ codes ")")
show-Struct v =
    ap data_text (data_of-Struct v) ∙ ap (λ ts. codes "struct(" ++ (listed ts ++ codes ")")) (items-texts v.items)

data_of-Map : (v : Vec Entry Global) → data_of (Map v) ≡ map_data
    (entries_of (map (λ e. (data_of (out-Entry e).key, data_of (out-Entry e).value)) v.items))
data_of-Map v = search (rules, the_lemmas)

entries-texts : (xs : List Entry) → entry_texts (entries_of
    (map (λ e. (data_of (out-Entry e).key, data_of (out-Entry e).value)) xs)) ≡ map data_entry_text xs
entries-texts [] = refl
entries-texts (x ∷ xs) = ap (λ ts. data_entry_text x ∷ ts) (entries-texts xs)

-- a mapping
pub show-Map : (v : Vec Entry Global) → data_text (data_of (Map v)) ≡ codes "{" ++
    (listed (map data_entry_text v.items) ++ codes "}")
show-Map v = ap data_text (data_of-Map v) ∙ ap (λ ts. codes "{" ++ (listed ts ++ codes "}")) (entries-texts v.items)

-- one text more, behind others
listed-more : (x : List ℕ) (ts : List (List ℕ)) (text : List ℕ)
    → listed (x ∷ (ts ++ text ∷ [])) ≡ listed (x ∷ ts) ++ (codes ", " ++ text)
listed-more x ts text =
    ap (λ t. x ++ t) (flat_map-append (λ u. codes ", " ++ u) ts (text ∷ [])
    ∙ ap (λ t. flat_map (λ u. codes ", " ++ u) ts ++ t) (append-nil (codes ", " ++ text)))
    ∙ sym (append_assoc x (flat_map (λ u. codes ", " ++ u) ts) (codes ", " ++ text))

listed-push : (ts : List (List ℕ)) (text : List ℕ) → 0 < length ts
    → listed (ts ++ text ∷ []) ≡ listed ts ++ (codes ", " ++ text)
listed-push [] text h = absurd (omega arith)
listed-push (x ∷ ts) text h = listed-more x ts text

map-push : {X : Type 0} (f : X → List ℕ) (xs : List X) (x : X) → map f (xs ++ x ∷ []) ≡ map f xs ++ f x ∷ []
map-push f [] x = refl
map-push f (y ∷ xs) x = ap (λ ts. f y ∷ ts) (map-push f xs x)

length-map_take : {X : Type 0} (f : X → List ℕ) (xs : List X) (i : ℕ) → i < length xs → length (map f (take i xs)) ≡ i
length-map_take f [] i h = absurd (omega arith)
length-map_take f (y ∷ xs) zero h = refl
length-map_take f (y ∷ xs) (suc i) h = ap suc (length-map_take f xs i (omega arith))

-- the texts of the first items, and of one more
pub texts-more : {X : Type 0} (f : X → List ℕ) (xs : List X) (i : ℕ) (x : X) → i < length xs → x ≡ get_or xs i x
    → map f (take (i + 1) xs) ≡ map f (take i xs) ++ f x ∷ []
texts-more f xs i x h e =
    ap (map f) (take_more xs i x h ∙ ap (λ y. take i xs ++ y ∷ []) (sym e)) ∙ map-push f (take i xs) x

-- one part more, behind what stands before it
pub shown : {X : Type 0} (f : X → List ℕ) (xs : List X) (i : ℕ) (x : X) → i < length xs → x ≡ get_or xs i x
    → (start now between after : List ℕ) → now ≡ start ++ listed (map f (take i xs)) → between ≡ now ++ before_part i
    → after ≡ between ++ f x
    → after ≡ start ++ listed (map f (take (i + 1) xs))
shown f xs zero x h e start now between after is b a =
    a ∙ (ap (λ t. t ++ f x) (b ∙ (append-nil now ∙ (is ∙ append-nil start)))
    ∙ ap (λ t. start ++ t) (sym (append-nil (f x)) ∙ ap listed (sym (texts-more f xs 0 x h e))))
shown f xs (suc i) x h e start now between after is b a =
    let others = map f (take (suc i) xs) in
    let some : 0 < length others = omega (arith, length-map_take f xs (suc i) h) in
    let whole : listed (map f (take (suc i + 1) xs)) ≡ listed others ++ (codes ", " ++ f x) = ap listed
    (texts-more f xs (suc i) x h e) ∙ listed-push others (f x) some in
    let comma : before_part (suc i) ≡ codes ", " = rw (ne_eqb (suc i) 0 (omega arith)) refl in
    a ∙ (ap (λ t. t ++ f x) (b ∙ (ap (λ t. now ++ t) comma
    ∙ (ap (λ t. t ++ codes ", ") is ∙ append_assoc start (listed others) (codes ", "))))
    ∙ (append_assoc start (listed others ++ codes ", ") (f x)
    ∙ ap (λ t. start ++ t) (append_assoc (listed others) (codes ", ") (f x) ∙ sym whole)))
