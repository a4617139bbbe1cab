-- The table is that of the variants' types, and the enum behind it has their names, which are distinct.
use Rattle.std.proofs.Common.{◌∙◌, sym, ap, string_bytes}
use Rattle.std.specs.Vec.Iter.{into_iter_items}
use Rattle.yaml_shape.specs.ShapeView.{variants_of}
use Rattle.yaml_types.specs.Choices.{variant_names}
use Rattle.yaml_types.proofs.EnumFound.{enum_made, enum_within, enum_refused, choice_too_large}
use Rattle.yaml_types.proofs.enums.EnumDeserialize.schema.Goals as goal

pub enum_of-requires : goal.enum_of-requires
enum_of-requires g c =
    enum_within (string_bytes c.in_ok-name.name) g.F.Variants.names g.F.Choice.ReadChoice.contents c.in-Ok.table
    (variants_of c.in-Ok.variants.items)
    (enum_made c.empty.result c.new.result.items g.F.Variants.names (into_iter_items c.into_iter.result)
    g.F.Choice.ReadChoice.contents (c.in-Ok.table, c.in-Ok.variants) c.empty.ensures c.new.ensures.items
    (ap variant_names c.into_iter.ensures.rest ∙ c.in_ok-name.ensures.1) c.in-Ok.ensures.ok)
    (g.met.F.Choice.ReadChoice c.lifetimes (assumption c)).closed

pub returns-in-Ok-clause-refused : goal.returns-in-Ok-clause-refused
returns-in-Ok-clause-refused g c =
    enum_refused c.enum_of.result g.F.Variants.name (string_bytes c.in_ok-name.name) g.F.Variants.names
    g.F.Choice.ReadChoice.contents c.in-Ok.table (variants_of c.in-Ok.variants.items)
    (enum_made c.empty.result c.new.result.items g.F.Variants.names (into_iter_items c.into_iter.result)
    g.F.Choice.ReadChoice.contents (c.in-Ok.table, c.in-Ok.variants) c.empty.ensures c.new.ensures.items
    (ap variant_names c.into_iter.ensures.rest ∙ c.in_ok-name.ensures.1) c.in-Ok.ensures.ok)
    (g.met.F.Variants.fits.as_many ∙ sym (g.met.F.Choice.ReadChoice c.lifetimes (assumption c)).as_wide)
    g.met.F.Variants.fits.distinct c.enum_of.ensures.refused

pub returns-in-Err-clause-refused : goal.returns-in-Err-clause-refused
returns-in-Err-clause-refused g c =
    choice_too_large c.in-Err.fault c.empty.result g.F.Variants.name g.F.Variants.names
    g.F.Choice.ReadChoice.contents c.empty.ensures c.in-Err.ensures.refused
