-- Data of the shape of a type that has parts is of the kind of that shape.
use Rattle.std.proofs.Common.{◌≡◌, ◌≢◌, ℕ, List, [], ◌∷◌, ◌++◌, length, Bool, true, false, Some, refl, rules}
use Rattle.std.proofs.Common.{sym, ◌∙◌, ap, All}
use Rattle.std.specs.Prelude.{Box, Vec, IsTrue}
use Rattle.std.specs.declared.alloc.Global.{Global}
use Rattle.yaml_shape.specs.PlainShape.{PlainShape, option_shape, seq_shape, row_shape, map_shape, unnamed, shape_at}
use Rattle.yaml_shape.specs.PlainData.{PlainData, none_data, some_data, seq_data, tuple_data, map_data}
use Rattle.yaml_shape.specs.HasShape.{HasShape, has_shape, all_have}
use Rattle.yaml_shape.specs.DataView.{data_of, items_view, entries_view}
use Rattle.yaml_shape.specs.declared.data.Data.{Data, the_lemmas}
use Rattle.yaml_shape.specs.declared.data.Data as code
use Rattle.yaml_shape.specs.declared.data.Entry.{Entry}
use Rattle.yaml_types.specs.Start.{Start, IsClosed, option_start, seq_start, map_start, tuple_start}
use Rattle.yaml_types.specs.PartShapes.{items_match, entries_match}
use Rattle.yaml_types.specs.ShapeLaws.{some_has, seq_has, tuple_start_has, map_has}

-- the shape that stands last
last_shape : (shapes : List PlainShape) (shape : PlainShape)
    → shape_at (shapes ++ shape ∷ []) (length shapes) ≡ Some shape
last_shape [] shape = refl
last_shape (s ∷ shapes) shape = last_shape shapes shape

-- the data is an optional
abbrev is_optional : PlainData → Bool
is_optional none_data = true
is_optional (some_data d) = true
is_optional _ = false

found_optional : (shapes : List PlainShape) (content : ℕ) (d : PlainData)
    → HasShape (shapes ++ option_shape content ∷ []) (length shapes) d → IsTrue (is_optional d)
found_optional shapes content none_data h = refl
found_optional shapes content (some_data d) h = refl
found_optional shapes content _ h = let e = rw last_shape at h in cc

by_optional : (found : Data) → IsTrue (is_optional (data_of found)) → found ≢ code.None
    → ((content : Box Data Global) → found ≢ code.Some content) → ⊥
by_optional found h none some = search (rules, the_lemmas)

-- an optional is absent or present
pub not_optional : (shapes : List PlainShape) (content : ℕ) (found : Data)
    → HasShape (shapes ++ option_shape content ∷ []) (length shapes) (data_of found) → found ≢ code.None
    → ((content : Box Data Global) → found ≢ code.Some content) → ⊥
not_optional shapes content found h none some =
    by_optional found (found_optional shapes content (data_of found) h) none some

-- what is present is of the shape of the content
pub content_found : (s : Start) → IsClosed s → (found : Data) (content : Box Data Global) (d : Data)
    → found ≡ code.Some content → d ≡ content.value
    → HasShape (option_start s).0 (option_start s).1 (data_of found) → HasShape s.0 s.1 (data_of d)
content_found s c found content d is same h =
    ap (λ d. has_shape s.0 s.1 (data_of d)) same
    ∙ (sym (some_has s c (data_of content.value))
    ∙ (ap (has_shape (option_start s).0 (option_start s).1) (sym (ap data_of is ∙ data_of-Some content)) ∙ h))
  where
    data_of-Some : (content : Box Data Global) → data_of (code.Some content) ≡ some_data (data_of content.value)
    data_of-Some content = search (rules, the_lemmas)

abbrev is_sequence : PlainData → Bool
is_sequence (seq_data ds) = true
is_sequence _ = false

found_sequence : (shapes : List PlainShape) (element : ℕ) (d : PlainData)
    → HasShape (shapes ++ seq_shape element ∷ []) (length shapes) d → IsTrue (is_sequence d)
found_sequence shapes element (seq_data ds) h = refl
found_sequence shapes element _ h = let e = rw last_shape at h in cc

by_sequence : (found : Data) → IsTrue (is_sequence (data_of found))
    → ((items : Vec Data Global) → found ≢ code.Seq items) → ⊥
by_sequence found h other = search (rules, the_lemmas)

-- a sequence is one
pub not_sequence : (shapes : List PlainShape) (element : ℕ) (found : Data)
    → HasShape (shapes ++ seq_shape element ∷ []) (length shapes) (data_of found)
    → ((items : Vec Data Global) → found ≢ code.Seq items) → ⊥
not_sequence shapes element found h other = by_sequence found (found_sequence shapes element (data_of found) h) other

-- a sequence as plain data
pub data_of-Seq : (items : Vec Data Global) → data_of (code.Seq items) ≡ seq_data (items_view items.items)
data_of-Seq items = search (rules, the_lemmas)

-- its elements are of their shape
pub elements_found : (s : Start) → IsClosed s → (found : Data) (items : Vec Data Global) → found ≡ code.Seq items
    → HasShape (seq_start s).0 (seq_start s).1 (data_of found) → IsTrue (all_have s.0 s.1 (items_view items.items))
elements_found s c found items is h =
    sym (seq_has s c (items_view items.items))
    ∙ (ap (has_shape (seq_start s).0 (seq_start s).1) (sym (ap data_of is ∙ data_of-Seq items)) ∙ h)

abbrev is_tuple : PlainData → Bool
is_tuple (tuple_data ds) = true
is_tuple _ = false

found_tuple : (shapes : List PlainShape) (ids : List ℕ) (d : PlainData)
    → HasShape (shapes ++ row_shape unnamed ids ∷ []) (length shapes) d → IsTrue (is_tuple d)
found_tuple shapes ids (tuple_data ds) h = refl
found_tuple shapes ids _ h = let e = rw last_shape at h in cc

by_tuple : (found : Data) → IsTrue (is_tuple (data_of found))
    → ((items : Vec Data Global) → found ≢ code.Tuple items) → ⊥
by_tuple found h other = search (rules, the_lemmas)

-- a tuple is one
pub not_tuple : (shapes : List PlainShape) (ids : List ℕ) (found : Data)
    → HasShape (shapes ++ row_shape unnamed ids ∷ []) (length shapes) (data_of found)
    → ((items : Vec Data Global) → found ≢ code.Tuple items) → ⊥
not_tuple shapes ids found h other = by_tuple found (found_tuple shapes ids (data_of found) h) other

-- a tuple as plain data
pub data_of-Tuple : (items : Vec Data Global) → data_of (code.Tuple items) ≡ tuple_data (items_view items.items)
data_of-Tuple items = search (rules, the_lemmas)

-- its elements are of their shapes
pub parts_found : (parts : List Start) → All IsClosed parts → (found : Data) (items : Vec Data Global)
    → found ≡ code.Tuple items → HasShape (tuple_start parts).0 (tuple_start parts).1 (data_of found)
    → IsTrue (items_match parts (items_view items.items))
parts_found parts c found items is h =
    sym (tuple_start_has parts c (items_view items.items))
    ∙ (ap (has_shape (tuple_start parts).0 (tuple_start parts).1) (sym (ap data_of is ∙ data_of-Tuple items)) ∙ h)

abbrev is_mapping : PlainData → Bool
is_mapping (map_data es) = true
is_mapping _ = false

found_mapping : (shapes : List PlainShape) (key value : ℕ) (d : PlainData)
    → HasShape (shapes ++ map_shape key value ∷ []) (length shapes) d → IsTrue (is_mapping d)
found_mapping shapes key value (map_data es) h = refl
found_mapping shapes key value _ h = let e = rw last_shape at h in cc

by_mapping : (found : Data) → IsTrue (is_mapping (data_of found))
    → ((entries : Vec Entry Global) → found ≢ code.Map entries) → ⊥
by_mapping found h other = search (rules, the_lemmas)

-- a mapping is one
pub not_mapping : (shapes : List PlainShape) (key value : ℕ) (found : Data)
    → HasShape (shapes ++ map_shape key value ∷ []) (length shapes) (data_of found)
    → ((entries : Vec Entry Global) → found ≢ code.Map entries) → ⊥
not_mapping shapes key value found h other =
    by_mapping found (found_mapping shapes key value (data_of found) h) other

-- a mapping as plain data
pub data_of-Map : (entries : Vec Entry Global) → data_of (code.Map entries) ≡ map_data (entries_view entries.items)
data_of-Map entries = search (rules, the_lemmas)

-- its keys and values are of their shapes
pub entries_found : (k v : Start) → IsClosed k → IsClosed v → (found : Data) (entries : Vec Entry Global)
    → found ≡ code.Map entries → HasShape (map_start k v).0 (map_start k v).1 (data_of found)
    → IsTrue (entries_match k v (entries_view entries.items))
entries_found k v a b found entries is h =
    sym (map_has k v a b (entries_view entries.items))
    ∙ (ap (has_shape (map_start k v).0 (map_start k v).1) (sym (ap data_of is ∙ data_of-Map entries)) ∙ h)
