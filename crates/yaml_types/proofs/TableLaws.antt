-- The shapes of a type, in a table that has them.
use Rattle.std.proofs.Common.{◌≡◌, ◌<◌, ◌+◌, ℕ, List, [], ◌∷◌, ◌++◌, map, length, refl, sym, ◌∙◌, ap, subst}
use Rattle.std.proofs.Common.{arith, append_assoc, length-append}
use Rattle.std.specs.Prelude.{Some, slice_get, get_or}
use Rattle.std.specs.Option.{option_map}
use Rattle.std.proofs.lemmas.List.{map-append, append-nil, length-map}
use Rattle.std.proofs.lemmas.Option.{slice_get-get_or, slice_get-map}
use Rattle.yaml_shape.specs.Join.{raised_ids, raised_fields, raised_content, raised_variants, raised, joined_tables}
use Rattle.yaml_shape.specs.PlainShape.{PlainShape, any_shape, shape_at, PlainVariant, unit_variant, newtype_variant}
use Rattle.yaml_shape.specs.PlainShape.{tuple_variant, struct_variant, row_shape, fields_shape, enum_shape}
use Rattle.yaml_shape.specs.PlainShape.{option_shape, newtype_shape, seq_shape, map_shape}
use Rattle.yaml_shape.proofs.JoinLaws.{at_left, at_right}
use Rattle.yaml_types.specs.NodeMeans.{SeqShaped, MapShaped, OptionShaped}
use Rattle.yaml_types.specs.Start.{Start, IsClosed, IsLeaf, leaf_start, with_last_shape, option_start, seq_start}
use Rattle.yaml_types.specs.Start.{map_start}
use Rattle.yaml_types.specs.Tables.{HasShapes, IsShapeIn}

-- ---- numbers raised twice, and by nothing
ids_twice : (a b : ℕ) (ids : List ℕ) → raised_ids a (raised_ids b ids) ≡ raised_ids (a + b) ids
ids_twice a b [] = refl
ids_twice a b (id ∷ ids) =
    let one : a + (b + id) ≡ (a + b) + id = omega arith in
    ap (λ n. n ∷ raised_ids a (raised_ids b ids)) one ∙ ap (λ l. ((a + b) + id) ∷ l) (ids_twice a b ids)

fields_twice : (a b : ℕ) (fs : List (List ℕ × ℕ)) → raised_fields a (raised_fields b fs) ≡ raised_fields (a + b) fs
fields_twice a b [] = refl
fields_twice a b (f ∷ fs) =
    let one : a + (b + f.1) ≡ (a + b) + f.1 = omega arith in
    ap (λ n. (f.0, n) ∷ raised_fields a (raised_fields b fs)) one
    ∙ ap (λ l. (f.0, (a + b) + f.1) ∷ l) (fields_twice a b fs)

content_twice : (a b : ℕ) (c : PlainVariant) → raised_content a (raised_content b c) ≡ raised_content (a + b) c
content_twice a b unit_variant = refl
content_twice a b (newtype_variant inner) =
    let one : a + (b + inner) ≡ (a + b) + inner = omega arith in ap newtype_variant one
content_twice a b (tuple_variant items) = ap tuple_variant (ids_twice a b items)
content_twice a b (struct_variant strict fields) = ap (struct_variant strict) (fields_twice a b fields)

variants_twice : (a b : ℕ) (vs : List (List ℕ × PlainVariant))
    → raised_variants a (raised_variants b vs) ≡ raised_variants (a + b) vs
variants_twice a b [] = refl
variants_twice a b (v ∷ vs) =
    ap (λ c. (v.0, c) ∷ raised_variants a (raised_variants b vs)) (content_twice a b v.1)
    ∙ ap (λ l. (v.0, raised_content (a + b) v.1) ∷ l) (variants_twice a b vs)

raised_twice : (a b : ℕ) (s : PlainShape) → raised a (raised b s) ≡ raised (a + b) s
raised_twice a b (option_shape content) =
    let one : a + (b + content) ≡ (a + b) + content = omega arith in ap option_shape one
raised_twice a b (newtype_shape name inner) =
    let one : a + (b + inner) ≡ (a + b) + inner = omega arith in ap (newtype_shape name) one
raised_twice a b (seq_shape element) =
    let one : a + (b + element) ≡ (a + b) + element = omega arith in ap seq_shape one
raised_twice a b (row_shape owner items) = ap (row_shape owner) (ids_twice a b items)
raised_twice a b (map_shape key value) =
    let one : a + (b + key) ≡ (a + b) + key = omega arith in
    let other : a + (b + value) ≡ (a + b) + value = omega arith in
    ap (λ k. map_shape k (a + (b + value))) one ∙ ap (map_shape ((a + b) + key)) other
raised_twice a b (fields_shape strict owner fields) = ap (fields_shape strict owner) (fields_twice a b fields)
raised_twice a b (enum_shape name variants) = ap (enum_shape name) (variants_twice a b variants)
raised_twice a b _ = refl

all_twice : (a b : ℕ) (ss : List PlainShape) → map (raised a) (map (raised b) ss) ≡ map (raised (a + b)) ss
all_twice a b [] = refl
all_twice a b (s ∷ ss) =
    ap (λ x. x ∷ map (raised a) (map (raised b) ss)) (raised_twice a b s)
    ∙ ap (λ l. raised (a + b) s ∷ l) (all_twice a b ss)

none_more : (n : ℕ) → 0 + n ≡ n
none_more n = omega arith

ids_same : (ids : List ℕ) → raised_ids 0 ids ≡ ids
ids_same [] = refl
ids_same (id ∷ ids) = ap (λ n. n ∷ raised_ids 0 ids) (none_more id) ∙ ap (λ l. id ∷ l) (ids_same ids)

fields_same : (fs : List (List ℕ × ℕ)) → raised_fields 0 fs ≡ fs
fields_same [] = refl
fields_same (f ∷ fs) =
    ap (λ n. (f.0, n) ∷ raised_fields 0 fs) (none_more f.1) ∙ ap (λ l. f ∷ l) (fields_same fs)

content_same : (c : PlainVariant) → raised_content 0 c ≡ c
content_same unit_variant = refl
content_same (newtype_variant inner) = ap newtype_variant (none_more inner)
content_same (tuple_variant items) = ap tuple_variant (ids_same items)
content_same (struct_variant strict fields) = ap (struct_variant strict) (fields_same fields)

variants_same : (vs : List (List ℕ × PlainVariant)) → raised_variants 0 vs ≡ vs
variants_same [] = refl
variants_same (v ∷ vs) =
    ap (λ c. (v.0, c) ∷ raised_variants 0 vs) (content_same v.1) ∙ ap (λ l. v ∷ l) (variants_same vs)

raised_same : (s : PlainShape) → raised 0 s ≡ s
raised_same (option_shape content) = ap option_shape (none_more content)
raised_same (newtype_shape name inner) = ap (newtype_shape name) (none_more inner)
raised_same (seq_shape element) = ap seq_shape (none_more element)
raised_same (map_shape key value) =
    ap (λ k. map_shape k (0 + value)) (none_more key) ∙ ap (map_shape key) (none_more value)
raised_same (row_shape owner items) = ap (row_shape owner) (ids_same items)
raised_same (fields_shape strict owner fields) = ap (fields_shape strict owner) (fields_same fields)
raised_same (enum_shape name variants) = ap (enum_shape name) (variants_same variants)
raised_same _ = refl

all_same : (ss : List PlainShape) → map (raised 0) ss ≡ ss
all_same [] = refl
all_same (s ∷ ss) = ap (λ x. x ∷ map (raised 0) ss) (raised_same s) ∙ ap (λ l. s ∷ l) (all_same ss)

-- ---- parts of tables
-- a table has its own shapes
own_shapes : (shapes : List PlainShape) → HasShapes shapes 0 shapes
own_shapes shapes = record {
  before = [];
  after = [];
  behind = refl;
  same = sym (append-nil (map (raised 0) shapes) ∙ all_same shapes);
}

-- the shape of a type in its own table
pub own_shape : (start : Start) (s : PlainShape) → shape_at start.0 start.1 ≡ Some s → IsShapeIn start start.0 s
own_shape start s at =
    record { by = 0; shapes = own_shapes start.0; at = ap (shape_at start.0) (none_more start.1) ∙ at }

-- those in front of others
pub front_shapes : (table a b : List PlainShape) (by : ℕ) → HasShapes table by (a ++ b) → HasShapes table by a
front_shapes table a b by h = record {
  before = h.before;
  after = map (raised by) b ++ h.after;
  behind = h.behind;
  same = h.same ∙ ap (λ l. h.before ++ l) (ap (λ l. l ++ h.after) (map-append (raised by) a b)
      ∙ append_assoc (map (raised by) a) (map (raised by) b) h.after);
}

-- and those behind them
pub behind_shapes : (table a b : List PlainShape) (by : ℕ) → HasShapes table by (joined_tables a b)
    → HasShapes table (by + length a) b
behind_shapes table a b by h = record {
  before = h.before ++ map (raised by) a;
  after = h.after;
  behind = length-append h.before (map (raised by) a)
      ∙ (ap (λ n. n + length (map (raised by) a)) h.behind ∙ ap (λ n. by + n) (length-map a (raised by)));
  same = h.same ∙ ap (λ l. h.before ++ l)
      (ap (λ l. l ++ h.after) (map-append (raised by) a (map (raised (length a)) b)
      ∙ ap (λ l. map (raised by) a ++ l) (all_twice by (length a) b))
      ∙ append_assoc (map (raised by) a) (map (raised (by + length a)) b) h.after)
      ∙ sym (append_assoc h.before (map (raised by) a) (map (raised (by + length a)) b ++ h.after));
}

-- each of them is there, raised
shape_there : (table shapes : List PlainShape) (by id : ℕ) (s : PlainShape) → HasShapes table by shapes
    → slice_get shapes id ≡ Some s → id < length shapes → shape_at table (by + id) ≡ Some (raised by s)
shape_there table shapes by id s h at within =
    let here : slice_get (map (raised by) shapes ++ h.after) id ≡ Some (raised by s) =
    at_left (map (raised by) shapes) h.after id (rw (length-map shapes (raised by)) within)
    ∙ (slice_get-map (raised by) shapes id ∙ ap (option_map (raised by)) at) in
    ap (λ l. slice_get l (by + id)) h.same
    ∙ (ap (λ n. slice_get (h.before ++ (map (raised by) shapes ++ h.after)) (n + id)) (sym h.behind)
    ∙ (at_right h.before (map (raised by) shapes ++ h.after) id ∙ here))

-- the shape of a type whose shapes are there
pub part_shape : (start : Start) (table : List PlainShape) (by : ℕ) → IsClosed start → HasShapes table by start.0
    → (r : PlainShape) × (shape_at table (by + start.1) ≡ Some r) × IsShapeIn start table r
part_shape start table by closed h =
    let s : PlainShape = get_or start.0 start.1 any_shape in
    let at : slice_get start.0 start.1 ≡ Some s = slice_get-get_or start.0 start.1 any_shape closed.within in
    let there : shape_at table (by + start.1) ≡ Some (raised by s) =
    shape_there table start.0 by start.1 s h at closed.within in
    (raised by s, there, record { by = by; shapes = h; at = there })

-- the last shape, and the others
pub record IsLast (shapes : List PlainShape) (shape : PlainShape) (table : List PlainShape) (s : PlainShape)
    : Type 0 where
  pub by : ℕ
  pub others : HasShapes table by shapes
  pub is : s ≡ raised by shape

pub last_shape : (shapes : List PlainShape) (shape : PlainShape) (table : List PlainShape) (s : PlainShape)
    → IsShapeIn (with_last_shape shapes shape) table s → IsLast shapes shape table s
last_shape shapes shape table s h =
    let here : slice_get (shapes ++ shape ∷ []) (length shapes) ≡ Some shape =
    let zero_more : length shapes + 0 ≡ length shapes = omega arith in
    ap (slice_get (shapes ++ shape ∷ [])) (sym zero_more) ∙ at_right shapes (shape ∷ []) 0 in
    let size : length (shapes ++ shape ∷ []) ≡ length shapes + 1 = length-append shapes (shape ∷ []) in
    let there : shape_at table (h.by + length shapes) ≡ Some (raised h.by shape) =
    shape_there table (shapes ++ shape ∷ []) h.by (length shapes) shape h.shapes here (omega (arith, size)) in
    let at : shape_at table (h.by + length shapes) ≡ Some s = h.at in
    record {
      by = h.by;
      others = front_shapes table shapes (shape ∷ []) h.by h.shapes;
      is = let same : Some s ≡ Some (raised h.by shape) = sym at ∙ there in cc;
    }

-- ---- types
unraised : (by : ℕ) (shape : PlainShape) → IsLeaf shape → raised by shape ≡ shape
unraised by (option_shape content) h = absurd h
unraised by (newtype_shape name inner) h = absurd h
unraised by (seq_shape element) h = absurd h
unraised by (row_shape owner items) h = absurd h
unraised by (map_shape key value) h = absurd h
unraised by (fields_shape strict owner fields) h = absurd h
unraised by (enum_shape name variants) h = absurd h
unraised by _ h = refl

-- a shape that names no other
pub leaf_shaped : (shape : PlainShape) → IsLeaf shape → (table : List PlainShape) (s : PlainShape)
    → IsShapeIn (leaf_start shape) table s → s ≡ shape
leaf_shaped shape leaf table s h =
    let l = last_shape [] shape table s h in l.is ∙ unraised l.by shape leaf

-- optionals, sequences and mappings
pub option_shaped : (start : Start) → IsClosed start → (table : List PlainShape) (s : PlainShape)
    → IsShapeIn (option_start start) table s → OptionShaped (IsShapeIn start) table s
option_shaped start closed table s h =
    let l = last_shape start.0 (option_shape start.1) table s h in
    let (r, at, part) = part_shape start table l.by closed l.others in
    (l.by + start.1, r, l.is, at, part)

pub seq_shaped : (start : Start) → IsClosed start → (table : List PlainShape) (s : PlainShape)
    → IsShapeIn (seq_start start) table s → SeqShaped (IsShapeIn start) table s
seq_shaped start closed table s h =
    let l = last_shape start.0 (seq_shape start.1) table s h in
    let (r, at, part) = part_shape start table l.by closed l.others in
    (l.by + start.1, r, l.is, at, part)

pub map_shaped : (key value : Start) → IsClosed key → IsClosed value → (table : List PlainShape) (s : PlainShape)
    → IsShapeIn (map_start key value) table s → MapShaped (IsShapeIn key) (IsShapeIn value) table s
map_shaped key value key_closed value_closed table s h =
    let l = last_shape (joined_tables key.0 value.0) (map_shape key.1 (length key.0 + value.1)) table s h in
    let (k, at, ks) = part_shape key table l.by key_closed
    (front_shapes table key.0 (map (raised (length key.0)) value.0) l.by l.others) in
    let (v, be, vs) = part_shape value table (l.by + length key.0) value_closed
    (behind_shapes table key.0 value.0 l.by l.others) in
    let place : (l.by + length key.0) + value.1 ≡ l.by + (length key.0 + value.1) = omega arith in (
      l.by + key.1,
      l.by + (length key.0 + value.1),
      k,
      v,
      l.is,
      at,
      subst (λ n. shape_at table n ≡ Some v) place be,
      ks,
      vs,
    )
