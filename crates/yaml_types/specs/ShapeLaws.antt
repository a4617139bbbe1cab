-- Data is of the shape of a type that has parts just where its parts are of theirs.
use Rattle.std.proofs.Common.{◌≡◌, ◌<◌, ◌+◌, ℕ, List, [], ◌∷◌, ◌++◌, map, length, Bool, true, ◌&&◌, refl, ◌∙◌}
use Rattle.std.proofs.Common.{ap, arith, All, append_assoc}
use Rattle.std.proofs.lemmas.List.Elements.{All-nil, All-cons, All-head, All-tail, All-weaker}
use Rattle.yaml_shape.specs.PlainShape.{PlainShape, option_shape, seq_shape, row_shape, map_shape, unnamed, shape_at}
use Rattle.yaml_shape.specs.PlainData.{PlainData, PlainItems, PlainEntries, none_data, some_data, seq_data, tuple_data}
use Rattle.yaml_shape.specs.PlainData.{map_data, no_items, item, no_entries, entry}
use Rattle.yaml_shape.specs.Validity.{AllNameWithin}
use Rattle.yaml_shape.specs.HasShape.{passes, on_option, on_seq, on_tuple, on_map, has_shape, all_have, each_has}
use Rattle.yaml_shape.specs.HasShape.{entries_have}
use Rattle.yaml_shape.specs.Join.{joined_tables, joined_all, starts_behind, StartsWithin, raised}
use Rattle.yaml_shape.specs.Kept.{KeepsAllShapes}
use Rattle.yaml_shape.proofs.JoinData.{keeps}
use Rattle.yaml_shape.proofs.Stands.{stands_first, keeps_all}
use Rattle.yaml_types.specs.Start.{Start, IsClosed, option_start, seq_start, map_start, tuple_start}
use Rattle.yaml_types.specs.StartLaws.{all_within}
use Rattle.yaml_types.specs.PartShapes.{items_match, entries_match}

-- what is so of the shape that stands last
pub at_last : (shapes : List PlainShape) (shape : PlainShape) (test : PlainShape → Bool)
    → passes (shape_at (shapes ++ shape ∷ []) (length shapes)) test ≡ test shape
at_last [] shape test = refl
at_last (s ∷ shapes) shape test = at_last shapes shape test

-- a table keeps its data in a longer one
pub kept_first : (shapes back : List PlainShape) → AllNameWithin (length shapes) shapes → (id : ℕ) → id < length shapes
    → (d : PlainData) → has_shape (shapes ++ back) id d ≡ has_shape shapes id d
kept_first shapes back closed id within d =
    let same : id ≡ 0 + id = omega arith in
    ap (λ n. has_shape (shapes ++ back) n d) same
    ∙ keeps 0 shapes (shapes ++ back) (stands_first shapes back) closed id d within

-- an optional that is absent
pub none_has : (s : Start) → has_shape (option_start s).0 (option_start s).1 none_data ≡ true
none_has s = at_last s.0 (option_shape s.1) (on_option (λ content. true))

-- an optional that is present
pub some_has : (s : Start) → IsClosed s → (d : PlainData)
    → has_shape (option_start s).0 (option_start s).1 (some_data d) ≡ has_shape s.0 s.1 d
some_has s c d =
    at_last s.0 (option_shape s.1) (on_option (λ content. has_shape (option_start s).0 content d))
    ∙ kept_first s.0 (option_shape s.1 ∷ []) c.closed s.1 c.within d

elements_have : (s : Start) → IsClosed s → (ds : PlainItems) → all_have (seq_start s).0 s.1 ds ≡ all_have s.0 s.1 ds
elements_have s c no_items = refl
elements_have s c (item d ds) =
    λ t. kept_first s.0 (seq_shape s.1 ∷ []) c.closed s.1 c.within d t && elements_have s c ds t

-- a sequence
pub seq_has : (s : Start) → IsClosed s → (ds : PlainItems)
    → has_shape (seq_start s).0 (seq_start s).1 (seq_data ds) ≡ all_have s.0 s.1 ds
seq_has s c ds =
    at_last s.0 (seq_shape s.1) (on_seq (λ element. all_have (seq_start s).0 element ds))
    ∙ elements_have s c ds

-- elements, each of its own shape
pub parts_have : (by : ℕ) (parts : List Start) (whole : List PlainShape) → All StartsWithin parts
    → KeepsAllShapes by parts whole
    → (ds : PlainItems) → each_has whole (starts_behind by parts) ds ≡ items_match parts ds
parts_have by [] whole w k no_items = refl
parts_have by [] whole w k (item d ds) = refl
parts_have by (p ∷ ps) whole w k no_items = refl
parts_have by (p ∷ ps) whole w k (item d ds) =
    λ t. k.0 p.1 d (All-head StartsWithin p ps w) t
    && parts_have (by + length p.0) ps whole (All-tail StartsWithin p ps w) k.1 ds t

-- a tuple
pub tuple_start_has : (parts : List Start) → All IsClosed parts → (ds : PlainItems)
    → has_shape (tuple_start parts).0 (tuple_start parts).1 (tuple_data ds) ≡ items_match parts ds
tuple_start_has parts c ds =
    at_last (joined_all [] parts) (row_shape unnamed (starts_behind 0 parts))
    (on_tuple (λ ids. each_has (tuple_start parts).0 ids ds))
    ∙ parts_have 0 parts (tuple_start parts).0 (all_within parts c)
    (keeps_all [] parts (row_shape unnamed (starts_behind 0 parts) ∷ [])
    (All-weaker IsClosed (λ p. AllNameWithin (length p.0) p.0) (λ p h. h.closed) parts c)) ds

-- the tables of keys and values in a row, with a shape behind them
key_has : (k v : Start) (shape : PlainShape) → IsClosed k → (d : PlainData)
    → has_shape (joined_tables k.0 v.0 ++ shape ∷ []) k.1 d ≡ has_shape k.0 k.1 d
key_has k v shape c d =
    let row : joined_tables k.0 v.0 ++ shape ∷ [] ≡ k.0 ++ (map (raised (length k.0)) v.0 ++ shape ∷ []) =
    append_assoc k.0 (map (raised (length k.0)) v.0) (shape ∷ []) in
    ap (λ t. has_shape t k.1 d) row
    ∙ kept_first k.0 (map (raised (length k.0)) v.0 ++ shape ∷ []) c.closed k.1 c.within d

value_has : (k v : Start) (shape : PlainShape) → IsClosed v → (d : PlainData)
    → has_shape (joined_tables k.0 v.0 ++ shape ∷ []) (length k.0 + v.1) d ≡ has_shape v.0 v.1 d
value_has k v shape c d =
    (keeps_all k.0 (v ∷ []) (shape ∷ [])
    (All-cons (λ p. AllNameWithin (length p.0) p.0) v [] c.closed (All-nil (λ p. AllNameWithin (length p.0) p.0)))).0
    v.1 d c.within

pairs_have : (k v : Start) (shape : PlainShape) → IsClosed k → IsClosed v → (es : PlainEntries)
    → entries_have (joined_tables k.0 v.0 ++ shape ∷ []) k.1 (length k.0 + v.1) es ≡ entries_match k v es
pairs_have k v shape a b no_entries = refl
pairs_have k v shape a b (entry x y es) =
    λ t. key_has k v shape a x t && (value_has k v shape b y t && pairs_have k v shape a b es t)

-- a mapping
pub map_has : (k v : Start) → IsClosed k → IsClosed v → (es : PlainEntries)
    → has_shape (map_start k v).0 (map_start k v).1 (map_data es) ≡ entries_match k v es
map_has k v a b es =
    at_last (joined_tables k.0 v.0) (map_shape k.1 (length k.0 + v.1))
    (on_map (λ key value. entries_have (map_start k v).0 key value es))
    ∙ pairs_have k v (map_shape k.1 (length k.0 + v.1)) a b es
