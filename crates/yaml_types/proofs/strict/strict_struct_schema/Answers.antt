-- A struct with distinct names is refused only for its size.
use Rattle.std.proofs.Common.{◌∙◌, sym, map, true, string_bytes}
use Rattle.std.proofs.lemmas.List.{length-map}
use Rattle.yaml_shape.specs.Join.{parts_of}
use Rattle.yaml_types.proofs.StructFound.{struct_refused}
use Rattle.yaml_types.proofs.strict.strict_struct_schema.Goals as goal

pub returns-clause-refused : goal.returns-clause-refused
returns-clause-refused c =
    struct_refused c.strict_struct_of.result true (string_bytes c.args.name) (map string_bytes c.args.names.items)
    (parts_of c.args.parts.items)
    (length-map c.args.names.items string_bytes
    ∙ (c.requires.same ∙ sym (length-map c.args.parts.items (λ p. (p.0, p.1.0)))))
    c.requires.distinct c.strict_struct_of.ensures.refused
