-- Tables joined in a row, part by part.
use Rattle.std.proofs.Common.{◌≡◌, ◌<◌, ◌≤◌, ◌+◌, ℕ, suc, List, [], ◌∷◌, ◌++◌, map, length, refl, sym, ◌∙◌, ap, subst}
use Rattle.std.proofs.Common.{All}
use Rattle.std.proofs.Common.{arith, append_assoc, append-nil, length-append, string_bytes}
use Rattle.std.specs.Prelude.{String}
use Rattle.std.specs.List.{zip}
use Rattle.std.specs.declared.alloc.Global.{Global}
use Rattle.std.proofs.lemmas.List.{length-map, map-append}
use Rattle.std.proofs.lemmas.List.Elements.{All-nil, All-cons, All-head, All-tail, All-push, All-map}
use Rattle.yaml_shape.specs.PlainShape.{PlainShape}
use Rattle.yaml_shape.specs.ShapeView.{ids_of, fields_of}
use Rattle.yaml_shape.specs.Validity.{AllNameWithin}
use Rattle.yaml_shape.specs.Join.{raised, joined_tables, joined_all, starts_behind, parts_of, StartsWithin, IsRow}
use Rattle.yaml_shape.specs.Join.{IsTooLarge}
use Rattle.yaml_shape.specs.declared.shape.ShapeId.{ShapeId}
use Rattle.yaml_shape.specs.declared.fault.SchemaFault.{SchemaFault}
use Rattle.yaml_shape.specs.declared.fault.SchemaFault.TheVariants.{OutsideTable, OptionCycle, NameTwice, TooManyShapes}
use Rattle.yaml_shape.specs.declared.fault.SchemaFault.TheVariants.{Memory}

-- tables with their starts
abbrev pub Parts : Type 0
Parts = List (List PlainShape × ShapeId)

-- some of the parts are joined behind a first table, with their starts, and others are left
pub record AreJoined (first : List PlainShape) (parts : Parts) (table : List PlainShape) (starts : List ShapeId)
    (rest : Parts) : Type 0 where
  pub tables : joined_all table (parts_of rest) ≡ joined_all first (parts_of parts)
  pub places : ids_of starts ++ starts_behind (length table) (parts_of rest)
      ≡ starts_behind (length first) (parts_of parts)
  pub within : All StartsWithin (parts_of rest)

pub length-joined_tables : (first second : List PlainShape)
    → length (joined_tables first second) ≡ length first + length second
length-joined_tables first second = length-append first (map (raised (length first)) second)
    ∙ ap (λ n. length first + n) (length-map second (raised (length first)))

-- one more is joined
pub one_joined : (first : List PlainShape) (parts : Parts) (table next : List PlainShape) (starts more : List ShapeId)
    (schema : List PlainShape) (start place : ShapeId) (rest : Parts)
    → next ≡ joined_tables table schema → more ≡ starts ++ place ∷ [] → place.0 ≡ length table + start.0
    → AreJoined first parts table starts ((schema, start) ∷ rest) → AreJoined first parts next more rest
one_joined first parts table next starts more schema start place rest made pushed here are = record {
  tables = ap (λ t. joined_all t (parts_of rest)) made ∙ are.tables;
  places = ap (λ s. ids_of s ++ starts_behind (length next) (parts_of rest)) pushed
      ∙ (ap (λ s. s ++ starts_behind (length next) (parts_of rest)) (map-append (λ id. id.0) starts (place ∷ []))
      ∙ (append_assoc (ids_of starts) (place.0 ∷ []) (starts_behind (length next) (parts_of rest))
      ∙ (ap (λ n. ids_of starts ++ (n ∷ starts_behind (length next) (parts_of rest))) here
      ∙ (ap (λ n. ids_of starts ++ ((length table + start.0) ∷ starts_behind n (parts_of rest))) (ap length made
      ∙ length-joined_tables table schema) ∙ are.places))));
  within = All-tail StartsWithin (schema, start.0) (parts_of rest) are.within;
}

-- a join is no shorter than its first table
longer : (first : List PlainShape) (parts : List (List PlainShape × ℕ)) → length first ≤ length (joined_all first parts)
longer first [] = omega arith
longer first (part ∷ parts) =
    omega (arith, longer (joined_tables first part.0) parts, length-joined_tables first part.0)

-- each start is in the join
pub starts_inside : (first : List PlainShape) (parts : List (List PlainShape × ℕ)) → All StartsWithin parts
    → All (λ id. id < length (joined_all first parts)) (starts_behind (length first) parts)
starts_inside first [] within = All-nil (λ id. id < length first)
starts_inside first (part ∷ parts) within =
    let size : length (joined_tables first part.0) ≡ length first + length part.0 = length-joined_tables first part.0 in
    let here : part.1 < length part.0 = All-head StartsWithin part parts within in
    All-cons (λ id. id < length (joined_all (joined_tables first part.0) parts)) (length first + part.1)
    (starts_behind (length first + length part.0) parts)
    (omega (arith, longer (joined_tables first part.0) parts))
    (subst (λ n. All (λ id. id < length (joined_all (joined_tables first part.0) parts)) (starts_behind n parts)) size
    (starts_inside (joined_tables first part.0) parts (All-tail StartsWithin part parts within)))

pub larger : (fault : SchemaFault) (size more : ℕ) → size ≤ more → IsTooLarge size fault → IsTooLarge more fault
larger (OutsideTable n) size more le h = h
larger (OptionCycle n) size more le h = h
larger (NameTwice n) size more le h = h
larger TooManyShapes size more le h = omega arith
larger Memory size more le h = tt

-- where one join is too large, the whole is
pub too_large : (fault : SchemaFault) (first : List PlainShape) (parts : Parts) (table : List PlainShape)
    (starts : List ShapeId) (schema : List PlainShape) (start : ShapeId) (rest : Parts)
    → AreJoined first parts table starts ((schema, start) ∷ rest) → IsTooLarge (length table + length schema) fault
    → IsTooLarge (length (joined_all first (parts_of parts))) fault
too_large fault first parts table starts schema start rest are h =
    let whole : length (joined_all (joined_tables table schema) (parts_of rest))
    ≡ length (joined_all first (parts_of parts)) =
    ap length are.tables in
    larger fault (length table + length schema) (length (joined_all first (parts_of parts)))
    (omega (arith, longer (joined_tables table schema) (parts_of rest), length-joined_tables table schema)) h

-- at the end none is left
pub all_joined : (first : List PlainShape) (parts : Parts) (table : List PlainShape) (starts : List ShapeId)
    → AreJoined first parts table starts [] → IsRow first (parts_of parts) table starts
all_joined first parts table starts are = record {
  table_is = are.tables;
  starts_are = sym (append-nil (ids_of starts)) ∙ are.places;
}

-- the start of the next table is in it
pub next_within : (first : List PlainShape) (parts : Parts) (table : List PlainShape) (starts : List ShapeId)
    (schema : List PlainShape) (start : ShapeId) (rest : Parts)
    → AreJoined first parts table starts ((schema, start) ∷ rest) → start.0 < length schema
next_within first parts table starts schema start rest are =
    All-head StartsWithin (schema, start.0) (parts_of rest) are.within

-- a list of no length is empty
pub empty : {X : Type 0} (xs : List X) → length xs ≡ 0 → xs ≡ []
empty [] h = refl
empty (x ∷ xs) h = absurd (omega arith)

-- the first parts are closed tables, and the others are left
pub record AreSeen (parts done rest : Parts) : Type 0 where
  pub row : done ++ rest ≡ parts
  pub closed : All (λ p. AllNameWithin (length p.0) p.0) done

-- at first none is known to be
pub none_seen : (parts : Parts) → AreSeen parts [] parts
none_seen parts = record { row = refl; closed = All-nil (λ p. AllNameWithin (length p.0) p.0) }

-- one more is
pub one_seen : (parts done rest left : Parts) (part : List PlainShape × ShapeId) → left ≡ part ∷ rest
    → AllNameWithin (length part.0) part.0 → AreSeen parts done left
    → AreSeen parts (done ++ part ∷ []) rest
one_seen parts done rest left part next closed are = record {
  row = append_assoc done (part ∷ []) rest ∙ (ap (λ l. done ++ l) (sym next) ∙ are.row);
  closed = All-push (λ p. AllNameWithin (length p.0) p.0) done part are.closed closed;
}

-- all are in the end
pub all_seen : (parts done : Parts) → AreSeen parts done [] → All (λ p. AllNameWithin (length p.0) p.0) (parts_of parts)
all_seen parts done are =
    All-map (λ p. AllNameWithin (length p.0) p.0) (λ p. (p.0, p.1.0)) parts
    (subst (λ (l : Parts). All (λ p. AllNameWithin (length p.0) p.0) l) (sym (append-nil done)
    ∙ are.row) are.closed)

-- there are as many starts as parts
pub length-starts : (size : ℕ) (parts : List (List PlainShape × ℕ)) → length (starts_behind size parts) ≡ length parts
length-starts size [] = refl
length-starts size (part ∷ parts) = ap suc (length-starts (size + length part.0) parts)

-- some of the names have their numbers, and as many names as numbers are left
pub record AreNamed (names : List (String Global)) (ids : List ShapeId) (fields : List (String Global × ShapeId))
    (rest : List (String Global)) (left : List ShapeId) : Type 0 where
  pub row : fields_of fields ++ zip (map string_bytes rest) (ids_of left) ≡ zip (map string_bytes names) (ids_of ids)
  pub same : length rest ≡ length left
