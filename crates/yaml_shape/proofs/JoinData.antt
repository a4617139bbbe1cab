-- Data of a shape in its own table is data of the moved shape in a joined table, both ways.
use Rattle.std.proofs.Common.{◌≡◌, ◌<◌, ◌+◌, ℕ, ℤ, Bool, true, ◌&&◌, List, [], ◌∷◌}
use Rattle.std.proofs.Common.{length, Option, Some, None, refl, ◌∙◌, ap, subst, All, arith}
use Rattle.std.specs.Prelude.{slice_get, option_map}
use Rattle.std.proofs.lemmas.List.Elements.{All-head, All-tail}
use Rattle.std.proofs.lemmas.Option.{slice_get-map, slice_get_within, get_or_from_slice_get}
use Rattle.yaml_shape.specs.PlainShape.{PlainShape, any_shape, bool_shape, char_shape, integer_shape, str_shape}
use Rattle.yaml_shape.specs.PlainShape.{bytes_shape, option_shape, unit_shape, newtype_shape, seq_shape, row_shape}
use Rattle.yaml_shape.specs.PlainShape.{map_shape, fields_shape, enum_shape, ignored_shape, shape_at, PlainVariant}
use Rattle.yaml_shape.specs.PlainShape.{unit_variant, newtype_variant, tuple_variant, struct_variant}
use Rattle.yaml_shape.specs.PlainData.{PlainData, PlainItems, PlainEntries, any_data, bool_data, char_data, signed_data}
use Rattle.yaml_shape.specs.PlainData.{unsigned_data, text_data, bytes_data, none_data, some_data, unit_data}
use Rattle.yaml_shape.specs.PlainData.{newtype_data}
use Rattle.yaml_shape.specs.PlainData.{seq_data, tuple_data, map_data, struct_data, variant_data, ignored_data}
use Rattle.yaml_shape.specs.PlainData.{no_items, item, no_entries, entry}
use Rattle.yaml_shape.specs.Validity.{numbers_of, named_in, named, NamesWithin, AllNameWithin}
use Rattle.yaml_shape.specs.HasShape.{passes, is_any, is_bool, is_char, takes_signed, takes_unsigned, is_text}
use Rattle.yaml_shape.specs.HasShape.{is_bytes, on_option}
use Rattle.yaml_shape.specs.HasShape.{is_unit, on_newtype, on_seq, on_tuple, on_map, on_struct, on_variant, is_ignored}
use Rattle.yaml_shape.specs.HasShape.{is_unit_data, on_content, has_shape, tuple_has, struct_has, all_have, each_has}
use Rattle.yaml_shape.specs.HasShape.{entries_have}
use Rattle.yaml_shape.specs.Join.{raised_ids, raised_content, raised}
use Rattle.yaml_shape.specs.Kept.{IsRaisedIn, KeepsShapes}
use Rattle.yaml_shape.proofs.NumberLaws.{All-from_flat_map}
use Rattle.yaml_shape.proofs.JoinLaws.{numbers-raised, names_at}

-- a variant with its content raised
abbrev raised_variant : ℕ → List ℕ × PlainVariant → List ℕ × PlainVariant
raised_variant by v = (v.0, raised_content by v.1)

-- tests that look at the kind of a shape alone
any-raised : (by : ℕ) (s : PlainShape) → is_any (raised by s) ≡ is_any s
any-raised by any_shape = refl
any-raised by _ = refl

bool-raised : (by : ℕ) (s : PlainShape) → is_bool (raised by s) ≡ is_bool s
bool-raised by bool_shape = refl
bool-raised by _ = refl

char-raised : (by : ℕ) (s : PlainShape) → is_char (raised by s) ≡ is_char s
char-raised by char_shape = refl
char-raised by _ = refl

signed-raised : (by : ℕ) (z : ℤ) (s : PlainShape) → takes_signed z (raised by s) ≡ takes_signed z s
signed-raised by z (integer_shape i) = refl
signed-raised by z _ = refl

unsigned-raised : (by n : ℕ) (s : PlainShape) → takes_unsigned n (raised by s) ≡ takes_unsigned n s
unsigned-raised by n (integer_shape i) = refl
unsigned-raised by n _ = refl

text-raised : (by : ℕ) (s : PlainShape) → is_text (raised by s) ≡ is_text s
text-raised by str_shape = refl
text-raised by _ = refl

bytes-raised : (by : ℕ) (s : PlainShape) → is_bytes (raised by s) ≡ is_bytes s
bytes-raised by bytes_shape = refl
bytes-raised by _ = refl

unit-raised : (by : ℕ) (s : PlainShape) → is_unit (raised by s) ≡ is_unit s
unit-raised by unit_shape = refl
unit-raised by _ = refl

ignored-raised : (by : ℕ) (s : PlainShape) → is_ignored (raised by s) ≡ is_ignored s
ignored-raised by ignored_shape = refl
ignored-raised by _ = refl

option-raised : (by size : ℕ) (f g : ℕ → Bool) (s : PlainShape) → NamesWithin
    size s → ((id : ℕ) → id < size → f (by + id) ≡ g id)
    → on_option f (raised by s) ≡ on_option g s
option-raised by size f g (option_shape content) within agree = agree content (within 0 0 (omega arith))
option-raised by size f g _ within agree = refl

newtype-raised : (by size : ℕ) (f g : ℕ → Bool) (s : PlainShape) → NamesWithin
    size s → ((id : ℕ) → id < size → f (by + id) ≡ g id)
    → on_newtype f (raised by s) ≡ on_newtype g s
newtype-raised by size f g (newtype_shape name inner) within agree = agree inner (within 0 0 (omega arith))
newtype-raised by size f g _ within agree = refl

seq-raised : (by size : ℕ) (f g : ℕ → Bool) (s : PlainShape) → NamesWithin
    size s → ((id : ℕ) → id < size → f (by + id) ≡ g id)
    → on_seq f (raised by s) ≡ on_seq g s
seq-raised by size f g (seq_shape element) within agree = agree element (within 0 0 (omega arith))
seq-raised by size f g _ within agree = refl

map-raised : (by size : ℕ) (f g : ℕ → ℕ → Bool) (s : PlainShape) → NamesWithin size s
    → ((a b : ℕ) → a < size → b < size → f (by + a) (by + b) ≡ g a b) → on_map f (raised by s) ≡ on_map g s
map-raised by size f g (map_shape key value) within agree = agree key value (within 0 0 (omega arith)) (within
    1 0 (omega arith))
map-raised by size f g _ within agree = refl

tuple-raised : (by size : ℕ) (f g : List ℕ → Bool) (s : PlainShape) → NamesWithin size s
    → ((ids : List ℕ) → All (λ id. id < size) ids → f (raised_ids by ids) ≡ g ids)
    → on_tuple f (raised by s) ≡ on_tuple g s
tuple-raised by size f g (row_shape owner items) within agree = agree items within
tuple-raised by size f g _ within agree = refl

struct-raised : (by size : ℕ) (f g : List ℕ → Bool) (s : PlainShape) → NamesWithin size s
    → ((ids : List ℕ) → All (λ id. id < size) ids → f (raised_ids by ids) ≡ g ids)
    → on_struct f (raised by s) ≡ on_struct g s
struct-raised by size f g (fields_shape strict owner fields) within
    agree = ap f (numbers-raised by fields) ∙ agree (numbers_of fields) within
struct-raised by size f g _ within agree = refl

content-agrees : (by size : ℕ) (u : Bool) (f g : ℕ → Bool) (p q r s : List ℕ → Bool) (content : PlainVariant)
    → All (λ id. id < size) (named_in content)
    → ((id : ℕ) → id < size → f (by + id) ≡ g id)
    → ((ids : List ℕ) → All (λ id. id < size) ids → p (raised_ids by ids) ≡ q ids)
    → ((ids : List ℕ) → All (λ id. id < size) ids → r (raised_ids by ids) ≡ s ids)
    → on_content u f p r (raised_content by content) ≡ on_content u g q s content
content-agrees by size u f g p q r s unit_variant within one items fields = refl
content-agrees by size u f g p q r s (newtype_variant inner) within
    one items fields = one inner (within 0 0 (omega arith))
content-agrees by size u f g p q r s (tuple_variant ids) within one items fields = items ids within
content-agrees by size u f g p q r s (struct_variant strict named) within
    one items fields = ap r (numbers-raised by named) ∙ fields (numbers_of named) within

variant-raised : (by size place : ℕ) (f g : PlainVariant → Bool) (s : PlainShape) → NamesWithin size s
    → ((content : PlainVariant) → All (λ id. id < size) (named_in content) → f (raised_content by content) ≡ g content)
    → on_variant place f (raised by s) ≡ on_variant place g s
variant-raised by size place f g (enum_shape name variants) within agree =
    ap (λ o. passes o (λ v. f v.1)) (slice_get-map (raised_variant by) variants place)
    ∙ by_variant (slice_get variants place) refl
  where
    inside : (v : List ℕ × PlainVariant) → slice_get variants place ≡ Some v → All (λ id. id < size) (named_in v.1)
    inside v here =
        subst (λ (v : List ℕ × PlainVariant). All (λ id. id < size) (named_in
        v.1)) (get_or_from_slice_get variants place v v here)
        (All-from_flat_map (λ id. id < size) (λ v. named_in v.1) variants within
        place v (slice_get_within variants place v here))

    by_variant : (o : Option (List ℕ × PlainVariant)) → slice_get variants place ≡ o
        → passes (option_map (raised_variant by) o) (λ v. f v.1) ≡ passes o (λ v. g v.1)
    by_variant None here = refl
    by_variant (Some v) here = agree v.1 (inside v here)
variant-raised by size place f g _ within agree = refl

-- a test of the shape that stands so much later
at_place : (by : ℕ) (part : List PlainShape) (f g : PlainShape → Bool) (o : Option PlainShape)
    → ((s : PlainShape) → o ≡ Some s → f (raised by s) ≡ g s) → passes (option_map (raised by) o) f ≡ passes o g
at_place by part f g None agree = refl
at_place by part f g (Some s) agree = agree s refl

test_moved : (by : ℕ) (part whole : List PlainShape) (f g : PlainShape → Bool) (id : ℕ) → IsRaisedIn by part whole
    → AllNameWithin (length part) part → id < length part
    → ((s : PlainShape) → NamesWithin (length part) s → f (raised by s) ≡ g s)
    → passes (shape_at whole (by + id)) f ≡ passes (shape_at part id) g
test_moved by part whole f g id stands closed within agree =
    ap (λ o. passes o f) (stands id within)
    ∙ at_place by part f g (shape_at part id) (λ s here. agree s (names_at (length part) part id s closed here))

-- two tests, each of both values
both : (a b c d : Bool) → a ≡ c → b ≡ d → (a && b) ≡ (c && d)
both a b c d p q = cc

mutual
  -- data of a shape of the part is data of the shape so much later in the whole
  pub data_moved : (by : ℕ) (part whole : List PlainShape) → IsRaisedIn by part whole → AllNameWithin (length part) part
      → (d : PlainData) (id : ℕ) → id < length part → has_shape whole (by + id) d ≡ has_shape part id d
  data_moved by part whole stands closed (any_data v) id within
      = test_moved by part whole is_any is_any id stands closed within (λ s w. any-raised by s)
  data_moved by part whole stands closed (bool_data b) id within
      = test_moved by part whole is_bool is_bool id stands closed within (λ s w. bool-raised by s)
  data_moved by part whole stands closed (char_data c) id within
      = test_moved by part whole is_char is_char id stands closed within (λ s w. char-raised by s)
  data_moved by part whole stands closed (signed_data z) id within =
      test_moved by part whole (takes_signed z) (takes_signed z) id stands closed within (λ s w. signed-raised by z s)
  data_moved by part whole stands closed (unsigned_data n) id within =
      test_moved by part whole (takes_unsigned n) (takes_unsigned n) id stands closed within
      (λ s w. unsigned-raised by n s)
  data_moved by part whole stands closed (text_data lent t) id within
      = test_moved by part whole is_text is_text id stands closed within (λ s w. text-raised by s)
  data_moved by part whole stands closed (bytes_data t) id within
      = test_moved by part whole is_bytes is_bytes id stands closed within (λ s w. bytes-raised by s)
  data_moved by part whole stands closed none_data id within =
      test_moved by part whole (on_option (λ c. true)) (on_option (λ c. true)) id stands closed within
      (λ s w. option-raised by (length part) (λ c. true) (λ c. true) s w (λ j l. refl))
  data_moved by part whole stands closed (some_data d) id within =
      test_moved by part whole (on_option (λ c. has_shape whole c d))
      (on_option (λ c. has_shape part c d)) id stands closed within
      (λ s w. option-raised by (length part) (λ c. has_shape whole c d) (λ c. has_shape part c d) s w
      (λ j l. data_moved by part whole stands closed d j l))
  data_moved by part whole stands closed unit_data id within
      = test_moved by part whole is_unit is_unit id stands closed within (λ s w. unit-raised by s)
  data_moved by part whole stands closed (newtype_data d) id within =
      test_moved by part whole (on_newtype (λ c. has_shape whole c d))
      (on_newtype (λ c. has_shape part c d)) id stands closed within
      (λ s w. newtype-raised by (length part) (λ c. has_shape whole c d) (λ c. has_shape part c d) s w
      (λ j l. data_moved by part whole stands closed d j l))
  data_moved by part whole stands closed (seq_data ds) id within =
      test_moved by part whole (on_seq (λ c. all_have whole c ds))
      (on_seq (λ c. all_have part c ds)) id stands closed within
      (λ s w. seq-raised by (length part) (λ c. all_have whole c ds) (λ c. all_have part c ds) s w
      (λ j l. items_moved by part whole stands closed ds j l))
  data_moved by part whole stands closed (tuple_data ds) id within =
      test_moved by part whole (on_tuple (λ ids. each_has whole ids ds))
      (on_tuple (λ ids. each_has part ids ds)) id stands closed within
      (λ s w. tuple-raised by (length part) (λ ids. each_has whole ids ds) (λ ids. each_has part ids ds) s w
      (λ ids l. each_moved by part whole stands closed ds ids l))
  data_moved by part whole stands closed (map_data es) id within =
      test_moved by part whole (on_map (λ a b. entries_have whole a b es))
      (on_map (λ a b. entries_have part a b es)) id stands closed within
      (λ s w. map-raised by (length part) (λ a b. entries_have whole a b es) (λ a b. entries_have part a b es) s w
      (λ a b l m. entries_moved by part whole stands closed es a b l m))
  data_moved by part whole stands closed (struct_data ds) id within =
      test_moved by part whole (on_struct (λ ids. each_has whole ids ds))
      (on_struct (λ ids. each_has part ids ds)) id stands closed within
      (λ s w. struct-raised by (length part) (λ ids. each_has whole ids ds) (λ ids. each_has part ids ds) s w
      (λ ids l. each_moved by part whole stands closed ds ids l))
  data_moved by part whole stands closed (variant_data place d) id within =
      test_moved by part whole
      (on_variant place (on_content (is_unit_data d) (λ j. has_shape whole j d) (λ js. tuple_has whole js d)
      (λ js. struct_has whole js d)))
      (on_variant place (on_content (is_unit_data d) (λ j. has_shape part j d) (λ js. tuple_has part js d)
      (λ js. struct_has part js d)))
      id stands closed within
      (λ s w. variant-raised by (length part) place
      (on_content (is_unit_data d) (λ j. has_shape whole j d) (λ js. tuple_has whole js d)
      (λ js. struct_has whole js d))
      (on_content (is_unit_data d) (λ j. has_shape part j d) (λ js. tuple_has part js d)
      (λ js. struct_has part js d)) s w
      (λ content l. content-agrees by (length part) (is_unit_data d) (λ j. has_shape whole j d)
      (λ j. has_shape part j d)
      (λ js. tuple_has whole js d) (λ js. tuple_has part js d) (λ js. struct_has whole js d)
      (λ js. struct_has part js d) content l
      (λ j m. data_moved by part whole stands closed d j m)
      (λ js m. tuple_moved by part whole stands closed d js m)
      (λ js m. struct_moved by part whole stands closed d js m)))
  data_moved by part whole stands closed ignored_data id within =
      test_moved by part whole is_ignored is_ignored id stands closed within (λ s w. ignored-raised by s)

  tuple_moved : (by : ℕ) (part whole : List PlainShape) → IsRaisedIn by part whole → AllNameWithin (length part) part
      → (d : PlainData) (ids : List ℕ) → All (λ id. id < length part) ids
      → tuple_has whole (raised_ids by ids) d ≡ tuple_has part ids d
  tuple_moved by part whole stands closed (tuple_data ds) ids within
      = each_moved by part whole stands closed ds ids within
  tuple_moved by part whole stands closed _ ids within = refl

  struct_moved : (by : ℕ) (part whole : List PlainShape) → IsRaisedIn by part whole → AllNameWithin (length part) part
      → (d : PlainData) (ids : List ℕ) → All (λ id. id < length part) ids
      → struct_has whole (raised_ids by ids) d ≡ struct_has part ids d
  struct_moved by part whole stands closed (struct_data ds) ids within
      = each_moved by part whole stands closed ds ids within
  struct_moved by part whole stands closed _ ids within = refl

  items_moved : (by : ℕ) (part whole : List PlainShape) → IsRaisedIn by part whole → AllNameWithin (length part) part
      → (ds : PlainItems) (id : ℕ) → id < length part → all_have whole (by + id) ds ≡ all_have part id ds
  items_moved by part whole stands closed no_items id within = refl
  items_moved by part whole stands closed (item d ds) id within =
      both (has_shape whole (by + id) d) (all_have whole (by + id) ds) (has_shape part id d) (all_have part id ds)
      (data_moved by part whole stands closed d id within) (items_moved by part whole stands closed ds id within)

  each_moved : (by : ℕ) (part whole : List PlainShape) → IsRaisedIn by part whole → AllNameWithin (length part) part
      → (ds : PlainItems) (ids : List ℕ) → All (λ id. id < length part) ids
      → each_has whole (raised_ids by ids) ds ≡ each_has part ids ds
  each_moved by part whole stands closed no_items [] within = refl
  each_moved by part whole stands closed no_items (id ∷ ids) within = refl
  each_moved by part whole stands closed (item d ds) [] within = refl
  each_moved by part whole stands closed (item d ds) (id ∷ ids) within =
      both (has_shape whole (by + id) d) (each_has whole (raised_ids by ids) ds) (has_shape part id d)
      (each_has part ids ds)
      (data_moved by part whole stands closed d id (All-head (λ id. id < length part) id ids within))
      (each_moved by part whole stands closed ds ids (All-tail (λ id. id < length part) id ids within))

  entries_moved : (by : ℕ) (part whole : List PlainShape) → IsRaisedIn by part whole → AllNameWithin (length part) part
      → (es : PlainEntries) (a b : ℕ) → a < length part → b < length part
      → entries_have whole (by + a) (by + b) es ≡ entries_have part a b es
  entries_moved by part whole stands closed no_entries a b l m = refl
  entries_moved by part whole stands closed (entry k v es) a b l m =
      both (has_shape whole (by + a) k) (has_shape whole (by + b) v && entries_have whole (by + a) (by + b) es)
      (has_shape part a k) (has_shape part b v && entries_have part a b es)
      (data_moved by part whole stands closed k a l)
      (both (has_shape whole (by + b) v) (entries_have whole (by + a) (by + b) es) (has_shape part b v)
      (entries_have part a b es)
      (data_moved by part whole stands closed v b m) (entries_moved by part whole stands closed es a b l m))

-- a table keeps its data where it stands in a larger one
pub keeps : (by : ℕ) (part whole : List PlainShape) → IsRaisedIn by part whole → AllNameWithin (length part) part
    → KeepsShapes by part whole
keeps by part whole stands closed id d within = data_moved by part whole stands closed d id within
