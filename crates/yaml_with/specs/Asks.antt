-- What a step asks for by its names.
use Rattle.std.specs.Prelude.{List, Bool, true, false}
use Rattle.std.specs.List.{list_any}
use Rattle.serde.specs.declared.name.Name.{Name}
use Rattle.serde.specs.declared.name.NameKind.{NameKind}
use Rattle.serde.specs.declared.name.NameKind.TheVariants.{Field, Variant}

-- a name is that of a variant
abbrev pub is_variant : NameKind → Bool
is_variant Field = false
is_variant Variant = true

-- one of the names is
abbrev pub asks_for_variants : List Name → Bool
asks_for_variants names = list_any (λ n. is_variant n.kind) names
