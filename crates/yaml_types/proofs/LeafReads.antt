-- Scalars of a tape that are plainly of a type.
use Rattle.std.proofs.Common.{ℕ, suc, ◌+◌, ◌≡◌, ◌≤◌, [], ◌∷◌, refl, sym, ◌∙◌, ap, subst, arith, Bool, true, false, List}
use Rattle.std.specs.Prelude.{Option, None, Some, IfSome, Ok, ℤ, ◌≤ℤ◌, int_le, not, ◌&&◌, ◌||◌}
use Rattle.std.specs.declared.cmp.Ordering.{Ordering}
use Rattle.std.specs.Str.{IsUtf8, chars}
use Rattle.yaml_base.specs.Borrowable.{is_borrowable}
use Rattle.yaml_base.specs.DocTree.{word}
use Rattle.yaml_base.specs.Kinds.{is_null_text}
use Rattle.yaml_base.specs.PlainDocEvent.{a_scalar, sequence_begins, sequence_ends, mapping_begins, mapping_ends}
use Rattle.yaml_base.specs.PlainEvent.{PlainScalar}
use Rattle.yaml_base.specs.PlainWords.{boolean_of}
use Rattle.yaml_base.specs.declared.event.ScalarStyle.TheVariants as style
use Rattle.yaml_base.proofs.RangeLaws.{int_le-Decides}
use Rattle.yaml_shape.specs.IntegerTypes.{is_of_type, least, greatest}
use Rattle.yaml_shape.specs.PlainData.{PlainData, bool_data, char_data, text_data, signed_data, unsigned_data}
use Rattle.yaml_shape.specs.PlainData.{none_data, unit_data}
use Rattle.yaml_shape.specs.PlainShape.{PlainShape, IntegerType, bool_shape, char_shape, str_shape, integer_shape}
use Rattle.yaml_shape.specs.PlainShape.{unit_shape}
use Rattle.yaml_meaning.specs.Handing.{early, handed, as_is}
use Rattle.yaml_meaning.specs.Meaning.{Means, means_node, means_scalar}
use Rattle.yaml_meaning.specs.Presence.{is_absent}
use Rattle.yaml_meaning.specs.ScalarShapes.{scalar_answer, lent_text, only_one}
use Rattle.yaml_meaning.specs.ScalarSorts.{is_plain}
use Rattle.yaml_scalar.proofs.TextLaws.{bytes-there}
use Rattle.yaml_tape.specs.OnDocs.{bare, docs_from}
use Rattle.yaml_tape.specs.declared.tape.Tape.{Tape}
use Rattle.yaml_tape.specs.declared.entry.Entry.{Entry}
use Rattle.yaml_types.specs.BuiltParts.{BuiltOption, BuiltSeq, BuiltMap}
use Rattle.yaml_types.specs.Inserted.{inserted_pairs}
use Rattle.yaml_types.specs.NodeMeans.{NodeMeans, ItemsMean, PairsMean, ScalarGives, IsNothing, BeginsContent}
use Rattle.yaml_types.specs.NodeMeans.{OptionShaped, SeqShaped, MapShaped}
use Rattle.yaml_types.specs.Rows.{BuiltOf}
use Rattle.yaml_types.specs.Start.{Start, IsClosed, IsLeaf, leaf_start, option_start, seq_start, map_start}
use Rattle.yaml_types.specs.Tables.{IsShapeIn}
use Rattle.yaml_types.proofs.NodeReads.{scalar_means, some_means, seq_means, map_means, means_as}
use Rattle.yaml_types.proofs.TableLaws.{leaf_shaped, option_shaped, seq_shaped, map_shaped}

-- the scalar of the entry in a place
abbrev pub Stands : Tape → (place : ℕ) → Entry → Type 0
Stands t place e = docs_from t place ≡ Some (a_scalar (bare t e)) ∷ docs_from t (place + 1)

pub bool_gives : (t : Tape) (place : ℕ) (e : Entry) (b : Bool) → Stands t place e → e.style ≡ style.Plain
    → IsUtf8 (bare t e).text → boolean_of (bare t e).text ≡ Some b → ScalarGives t place bool_shape (bool_data b)
bool_gives t place e b there plain utf8 says =
    (bare t e, there, rw plain (rw (sym (bytes-there (bare t e).text utf8)) (rw says refl)))

pub signed_gives : (t : Tape) (place : ℕ) (e : Entry) (i : IntegerType) (r : Option ℤ) → Stands t place e
    → e.style ≡ style.Plain → IfSome r (λ z. (s : PlainScalar) (taken : Bool) → s.text ≡ (bare t e).text
    → is_plain s.style ≡ true → scalar_answer (integer_shape i) taken s ≡ Ok (signed_data z))
    → IfSome r (λ z. ScalarGives t place (integer_shape i) (signed_data z))
signed_gives t place e i None there plain answer = tt
signed_gives t place e i (Some z) there plain answer =
    (bare t e, there, answer (bare t e) false refl (rw plain refl))

pub unsigned_gives : (t : Tape) (place : ℕ) (e : Entry) (i : IntegerType) (n : ℕ) → Stands t place e
    → e.style ≡ style.Plain → ((s : PlainScalar) (taken : Bool) → s.text ≡ (bare t e).text → is_plain s.style ≡ true
    → scalar_answer (integer_shape i) taken s ≡ Ok (unsigned_data n))
    → ScalarGives t place (integer_shape i) (unsigned_data n)
unsigned_gives t place e i n there plain answer = (bare t e, there, answer (bare t e) false refl (rw plain refl))

pub text_gives : (t : Tape) (place : ℕ) (e : Entry) (text : List ℕ) → Stands t place e → IsUtf8 (bare t e).text
    → text ≡ (bare t e).text → (lent : Bool) × ScalarGives t place str_shape (text_data lent text)
text_gives t place e text there utf8 same = (
  is_borrowable (bare t e).text (bare t e).source e.style,
  (bare t e, there, rw (sym (bytes-there (bare t e).text utf8)) (rw same refl)),
)

pub lent_gives : (t : Tape) (place : ℕ) (e : Entry) (text : List ℕ) → Stands t place e → IsUtf8 text
    → is_borrowable (bare t e).text (bare t e).source e.style ≡ true → text ≡ (bare t e).text
    → ScalarGives t place str_shape (text_data true text)
lent_gives t place e text there utf8 lent same =
    (bare t e, there, rw (sym same) (rw (sym (bytes-there text utf8)) (rw same (rw lent refl))))

pub owned_gives : (t : Tape) (place : ℕ) (e : Entry) (text : List ℕ) → Stands t place e → IsUtf8 (bare t e).text
    → is_borrowable (bare t e).text (bare t e).source e.style ≡ false → text ≡ (bare t e).text
    → ScalarGives t place str_shape (text_data false text)
owned_gives t place e text there utf8 owned same =
    (bare t e, there, rw (sym (bytes-there (bare t e).text utf8)) (rw same (rw owned refl)))

pub char_gives : (t : Tape) (place : ℕ) (e : Entry) (c : ℕ) → Stands t place e → IsUtf8 (bare t e).text
    → Some c ≡ only_one (chars (bare t e).text) → ScalarGives t place char_shape (char_data c)
char_gives t place e c there utf8 one =
    (bare t e, there, rw (sym (bytes-there (bare t e).text utf8)) (rw (sym one) refl))

pub unit_gives : (t : Tape) (place : ℕ) → IsNothing t place → ScalarGives t place unit_shape unit_data
unit_gives t place g = let (w, there, absent) = g in (w, there, rw absent refl)

-- a scalar without a tag that does not stand for nothing stands for an optional's content
nothing_or : (p b : Bool) → not ((p && b || p && false) || p && false) ≡ not (p && b)
nothing_or true true = refl
nothing_or true false = refl
nothing_or false b = refl

nothing_is : (p b : Bool) → p && b ≡ true → p && b || p && false ≡ true
nothing_is true true h = refl
nothing_is true false h = h
nothing_is false b h = h

pub nothing_there : (t : Tape) (place : ℕ) (e : Entry) → Stands t place e
    → is_plain e.style && is_null_text (bare t e).text ≡ true → IsNothing t place
nothing_there t place e there null =
    (bare t e, there, nothing_is (is_plain e.style) (is_null_text (bare t e).text) null)

pub content_there : (t : Tape) (place : ℕ) (e : Entry) → Stands t place e
    → is_plain e.style && is_null_text (bare t e).text ≡ false → BeginsContent t place
content_there t place e there null =
    (a_scalar (bare t e), there, nothing_or (is_plain e.style) (is_null_text (bare t e).text) ∙ ap not null)

-- an optional, of a scalar that stands for nothing
pub none_means : {T : Type 0} (start : Start) (closed : IsClosed start) (built : PlainData → T → Type 0) (t : Tape)
    (place next depth : ℕ) → IsNothing t place → next ≡ place + 1
    → NodeMeans (IsShapeIn (option_start start)) (BuiltOption built) t place next depth None
none_means start closed built t place next depth g n =
    let (w, there, absent) = g in
    record {
      node = word w;
      found = none_data;
      nestings = 0;
      events = there ∙ ap (λ p. Some (a_scalar w) ∷ docs_from t p) (sym n);
      means = λ table s root k. let (id, r, is, at, part) = option_shaped start closed table s k in
          subst (λ y. Means table root y (word w) false none_data 0 0) (sym is)
          (means_node refl (rw absent refl) (means_scalar (rw absent refl)));
      within = omega arith;
      value = tt;
    }

-- and of its content
pub content_means : {T : Type 0} (start : Start) (closed : IsClosed start) (built : PlainData → T → Type 0) (t : Tape)
    (place next depth : ℕ) (x : T) → BeginsContent t place → NodeMeans (IsShapeIn start) built t place next depth x
    → NodeMeans (IsShapeIn (option_start start)) (BuiltOption built) t place next depth (Some x)
content_means start closed built t place next depth x g n =
    let (d, there, content) = g in
    means_as (OptionShaped (IsShapeIn start)) (BuiltOption built) t (IsShapeIn (option_start start)) (BuiltOption built)
    place next depth (Some x) (Some x) (option_shaped start closed) (λ d h. h)
    (some_means (IsShapeIn start) built t place next depth x d (docs_from t (place + 1)) there content n)

-- a value that is made of parts
pub parts_mean : {P T : Type 0} (start : Start) (built : PlainData → P → Type 0) (made : P → T → Type 0) (t : Tape)
    (from to depth : ℕ) (p : P) (x : T) → NodeMeans (IsShapeIn start) built t from to depth p → made p x
    → NodeMeans (IsShapeIn start) (BuiltOf built made) t from to depth x
parts_mean start built made t from to depth p x n m =
    means_as (IsShapeIn start) built t (IsShapeIn start) (BuiltOf built made) from to depth p x (λ table s h. h)
    (λ d h. (p, h, m)) n

-- sequences and mappings
pub list_means : {T B : Type 0} (start : Start) (closed : IsClosed start) (built : PlainData → T → Type 0)
    (other : PlainData → B → Type 0) (t : Tape) (from first last to depth inner : ℕ) (xs : List T) (x : B)
    → docs_from t from ≡ Some (sequence_begins None) ∷ docs_from t first
    → ItemsMean (IsShapeIn start) built t first last inner xs
    → docs_from t last ≡ Some sequence_ends ∷ docs_from t to → suc inner ≤ depth
    → ((d : PlainData) → BuiltSeq built d xs → other d x)
    → NodeMeans (IsShapeIn (seq_start start)) other t from to depth x
list_means start closed built other t from first last to depth inner xs x b m e d f =
    means_as (SeqShaped (IsShapeIn start)) (BuiltSeq built) t (IsShapeIn (seq_start start)) other from to depth xs x
    (seq_shaped start closed) f (seq_means (IsShapeIn start) built t from first last to depth inner xs b m e d)

pub pairs_means : {K V B : Type 0} (key value : Start) (closed : IsClosed key) (closed' : IsClosed value)
    (built : PlainData → K → Type 0) (built' : PlainData → V → Type 0) (cmp : K → K → Ordering)
    (other : PlainData → B → Type 0) (t : Tape) (from first last to depth inner : ℕ) (xs : List (K × V)) (x : B)
    → docs_from t from ≡ Some (mapping_begins None) ∷ docs_from t first
    → PairsMean (IsShapeIn key) (IsShapeIn value) built built' t first last inner xs
    → docs_from t last ≡ Some mapping_ends ∷ docs_from t to → suc inner ≤ depth
    → ((d : PlainData) → BuiltMap cmp built built' d (inserted_pairs cmp [] xs) → other d x)
    → NodeMeans (IsShapeIn (map_start key value)) other t from to depth x
pairs_means key value closed closed' built built' cmp other t from first last to depth inner xs x b m e d f =
    means_as (MapShaped (IsShapeIn key) (IsShapeIn value)) (BuiltMap cmp built built') t
    (IsShapeIn (map_start key value)) other from to depth (inserted_pairs cmp [] xs) x
    (map_shaped key value closed closed') f
    (map_means (IsShapeIn key) (IsShapeIn value) built built' t cmp from first last to depth inner xs b m e d)

-- an integer of a type lies within its bounds
pub inside : (i : IntegerType) (z : ℤ) → is_of_type i z ≡ true → (least i ≤ℤ z) × (z ≤ℤ greatest i)
inside i z held = (
  (int_le-Decides (least i) z).0 (and-left (int_le (least i) z) (int_le z (greatest i)) held),
  (int_le-Decides z (greatest i)).0 (and-right (int_le (least i) z) (int_le z (greatest i)) held),
)
  where
    and-left : (a b : Bool) → a && b ≡ true → a ≡ true
    and-left true b h = refl
    and-left false b h = h

    and-right : (a b : Bool) → a && b ≡ true → b ≡ true
    and-right true b h = h
    and-right false b h = absurd cc

-- a value of data that a scalar gives under a shape that names no other
pub leaf_means : {T : Type 0} (built : PlainData → T → Type 0) (t : Tape) (place next depth : ℕ) (x : T)
    (s : PlainShape) (v : PlainData) → IsLeaf s → early s ≡ None
    → ((w : PlainScalar) → handed s false (a_scalar w) ≡ as_is) → ScalarGives t place s v → next ≡ place + 1
    → built v x → NodeMeans (IsShapeIn (leaf_start s)) built t place next depth x
leaf_means built t place next depth x s v leaf e h g n value =
    let (w, there, answer) = g in
    scalar_means (IsShapeIn (leaf_start s)) built t place next depth x w s v (leaf_shaped s leaf) e (h w)
    (there ∙ ap (λ p. Some (a_scalar w) ∷ docs_from t p) (sym n)) answer value
