-- Tables of shapes of types are closed.
use Rattle.std.proofs.Common.{◌≡◌, ◌<◌, ◌+◌, ℕ, List, [], ◌∷◌, ◌++◌, map, length, sym, subst, arith, All}
use Rattle.std.proofs.Common.{length-append}
use Rattle.std.proofs.lemmas.List.Elements.{All-nil, All-cons, All-head, All-tail, All-weaker, All-append, All-map}
use Rattle.std.proofs.lemmas.List.Elements.{All-push}
use Rattle.yaml_shape.specs.PlainShape.{PlainShape, any_shape, bool_shape, char_shape, integer_shape, str_shape}
use Rattle.yaml_shape.specs.PlainShape.{option_shape, unit_shape, seq_shape, row_shape, map_shape, unnamed}
use Rattle.yaml_shape.specs.Validity.{named, NamesWithin, AllNameWithin}
use Rattle.yaml_shape.specs.Join.{raised, joined_all, joined_tables, starts_behind, StartsWithin}
use Rattle.yaml_shape.proofs.JoinLaws.{named-raised}
use Rattle.yaml_shape.proofs.PartLaws.{length-joined_tables, starts_inside}
use Rattle.yaml_types.specs.Start.{Start, IsClosed, with_last_shape, IsLeaf, leaf_start, option_start, seq_start}
use Rattle.yaml_types.specs.Start.{map_start}
use Rattle.yaml_types.specs.Start.{tuple_start}

pub names_nothing : (shape : PlainShape) → IsLeaf shape → NamesWithin 1 shape
names_nothing any_shape h = All-nil (λ id. id < 1)
names_nothing bool_shape h = All-nil (λ id. id < 1)
names_nothing char_shape h = All-nil (λ id. id < 1)
names_nothing (integer_shape i) h = All-nil (λ id. id < 1)
names_nothing str_shape h = All-nil (λ id. id < 1)
names_nothing unit_shape h = All-nil (λ id. id < 1)
names_nothing _ h = absurd h

-- a table of one shape that names no other
pub closed_leaf : (shape : PlainShape) → IsLeaf shape → IsClosed (leaf_start shape)
closed_leaf shape h = record {
  within = omega arith;
  closed = All-cons (NamesWithin 1) shape [] (names_nothing shape h) (All-nil (NamesWithin 1));
}

wider : (size more : ℕ) → size < more + 1 → (shape : PlainShape) → NamesWithin size shape → NamesWithin more shape
wider size more le shape h = All-weaker (λ id. id < size) (λ id. id < more) (λ id l. omega arith) (named shape) h

-- a closed table with one more shape that names only the others
pub closed_with : (shapes : List PlainShape) (shape : PlainShape) → AllNameWithin (length shapes) shapes
    → NamesWithin (length shapes) shape → IsClosed (with_last_shape shapes shape)
closed_with shapes shape closed names =
    let size : length (shapes ++ shape ∷ []) ≡ length shapes + 1 = length-append shapes (shape ∷ []) in
    record {
      within = omega arith;
      closed = subst (λ n. AllNameWithin n (shapes ++ shape ∷ [])) (sym size)
          (All-push (NamesWithin (length shapes + 1)) shapes shape
          (All-weaker (NamesWithin (length shapes)) (NamesWithin (length shapes + 1))
          (wider (length shapes) (length shapes + 1) (omega arith)) shapes closed)
          (wider (length shapes) (length shapes + 1) (omega arith) shape names));
    }

one_name : (id size : ℕ) → id < size → All (λ n. n < size) (id ∷ [])
one_name id size h = All-cons (λ n. n < size) id [] h (All-nil (λ n. n < size))

-- optionals of a type
pub closed_option : (s : Start) → IsClosed s → IsClosed (option_start s)
closed_option s c = closed_with s.0 (option_shape s.1) c.closed (one_name s.1 (length s.0) c.within)

-- sequences of a type
pub closed_seq : (s : Start) → IsClosed s → IsClosed (seq_start s)
closed_seq s c = closed_with s.0 (seq_shape s.1) c.closed (one_name s.1 (length s.0) c.within)

raised_names : (by size : ℕ) (shape : PlainShape) → NamesWithin size shape → NamesWithin (by + size) (raised by shape)
raised_names by size shape within =
    subst (All (λ id. id < by + size)) (sym (named-raised by shape))
    (All-map (λ id. id < by + size) (λ id. by + id) (named shape)
    (All-weaker (λ id. id < size) (λ id. by + id < by + size) (λ id h. omega arith) (named shape) within))

-- the join of closed tables
pub closed_joined : (first second : List PlainShape) → AllNameWithin (length first) first
    → AllNameWithin (length second) second
    → AllNameWithin (length (joined_tables first second)) (joined_tables first second)
closed_joined first second a b =
    subst (λ n. AllNameWithin n (joined_tables first second)) (sym (length-joined_tables first second))
    (All-append (NamesWithin (length first + length second)) first (map (raised (length first)) second)
    (All-weaker (NamesWithin (length first)) (NamesWithin (length first + length second))
    (wider (length first) (length first + length second) (omega arith)) first a)
    (All-map (NamesWithin (length first + length second)) (raised (length first)) second
    (All-weaker (NamesWithin (length second)) (λ s. NamesWithin (length first + length second)
    (raised (length first) s)) (raised_names (length first) (length second)) second b)))

-- mappings of types
pub closed_map : (k v : Start) → IsClosed k → IsClosed v → IsClosed (map_start k v)
closed_map k v a b =
    let size : length (joined_tables k.0 v.0) ≡ length k.0 + length v.0 = length-joined_tables k.0 v.0 in
    let key : k.1 < length k.0 = a.within in
    let value : v.1 < length v.0 = b.within in
    closed_with (joined_tables k.0 v.0) (map_shape k.1 (length k.0 + v.1)) (closed_joined k.0 v.0 a.closed b.closed)
    (All-cons (λ n. n < length (joined_tables k.0 v.0)) k.1 ((length k.0 + v.1) ∷ []) (omega arith)
    (one_name (length k.0 + v.1) (length (joined_tables k.0 v.0)) (omega arith)))

-- tables in a row
pub closed_all : (first : List PlainShape) (parts : List Start) → AllNameWithin (length first) first
    → All IsClosed parts
    → AllNameWithin (length (joined_all first parts)) (joined_all first parts)
closed_all first [] a c = a
closed_all first (p ∷ ps) a c =
    closed_all (joined_tables first p.0) ps (closed_joined first p.0 a (All-head IsClosed p ps c).closed)
    (All-tail IsClosed p ps c)

-- the start of each is in its table
pub all_within : (parts : List Start) → All IsClosed parts → All StartsWithin parts
all_within parts c = All-weaker IsClosed StartsWithin (λ p h. h.within) parts c

-- tuples of types
pub closed_tuple : (parts : List Start) → All IsClosed parts → IsClosed (tuple_start parts)
closed_tuple parts c =
    closed_with (joined_all [] parts) (row_shape unnamed (starts_behind 0 parts))
    (closed_all [] parts (All-nil (NamesWithin 0)) c)
    (starts_inside [] parts (all_within parts c))
