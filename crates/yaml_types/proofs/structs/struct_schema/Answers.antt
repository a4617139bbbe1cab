-- A struct with distinct names is refused only for its size.
use Rattle.std.proofs.Common.{◌∙◌, sym, map, false, string_bytes}
use Rattle.std.proofs.lemmas.List.{length-map}
use Rattle.yaml_shape.specs.Join.{parts_of}
use Rattle.yaml_types.proofs.StructFound.{struct_refused}
use Rattle.yaml_types.proofs.structs.struct_schema.Goals as goal

pub returns-clause-refused : goal.returns-clause-refused
returns-clause-refused c =
    struct_refused c.struct_of.result false (string_bytes c.args.name) (map string_bytes c.args.names.items)
    (parts_of c.args.parts.items)
    (length-map c.args.names.items string_bytes
    ∙ (c.requires.same ∙ sym (length-map c.args.parts.items (λ p. (p.0, p.1.0)))))
    c.requires.distinct c.struct_of.ensures.refused
