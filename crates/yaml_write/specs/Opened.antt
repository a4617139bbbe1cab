-- What calls ask of the collections that are open.
use Rattle.std.specs.Prelude.{◌≡◌, List, [], ◌∷◌, Bool, true, false, Option, None, Some}
use Rattle.yaml_write.specs.Collections.{CollectionKind, seq_kind, tuple_kind, tuple_struct_kind, tuple_variant_kind}
use Rattle.yaml_write.specs.Collections.{map_kind, struct_kind, struct_variant_kind, OpenCollection}

-- the kind of the innermost open collection, and whether it awaits the value of a key
abbrev pub innermost : List OpenCollection → Option (CollectionKind × Bool)
innermost [] = None
innermost (o ∷ outer) = Some (o.kind, o.awaits_value)

-- the collection takes elements
abbrev pub TakesElements : CollectionKind → Type 0
TakesElements seq_kind = Unit {0}
TakesElements tuple_kind = Unit {0}
TakesElements _ = ⊥

-- the collection takes fields without names
abbrev pub TakesFields : CollectionKind → Type 0
TakesFields tuple_struct_kind = Unit {0}
TakesFields tuple_variant_kind = Unit {0}
TakesFields _ = ⊥

-- the collection takes fields with names
abbrev pub TakesNamedFields : CollectionKind → Type 0
TakesNamedFields struct_kind = Unit {0}
TakesNamedFields struct_variant_kind = Unit {0}
TakesNamedFields _ = ⊥

-- the innermost collection takes elements
abbrev pub AwaitsElement : List OpenCollection → Type 0
AwaitsElement [] = ⊥
AwaitsElement (o ∷ outer) = TakesElements o.kind

-- the innermost collection takes fields without names
abbrev pub AwaitsField : List OpenCollection → Type 0
AwaitsField [] = ⊥
AwaitsField (o ∷ outer) = TakesFields o.kind

-- the innermost collection takes fields with names, and awaits no value
abbrev pub AwaitsNamedField : List OpenCollection → Type 0
AwaitsNamedField [] = ⊥
AwaitsNamedField (o ∷ outer) = TakesNamedFields o.kind × (o.awaits_value ≡ false)

-- the innermost collection is a mapping, and awaits a key
abbrev pub AwaitsKey : List OpenCollection → Type 0
AwaitsKey [] = ⊥
AwaitsKey (o ∷ outer) = (o.kind ≡ map_kind) × (o.awaits_value ≡ false)

-- the innermost collection is a mapping, and awaits a value
abbrev pub AwaitsValue : List OpenCollection → Type 0
AwaitsValue [] = ⊥
AwaitsValue (o ∷ outer) = (o.kind ≡ map_kind) × (o.awaits_value ≡ true)

-- something is open, and awaits no value
abbrev pub CanEnd : List OpenCollection → Type 0
CanEnd [] = ⊥
CanEnd (o ∷ outer) = o.awaits_value ≡ false
