-- The variant that is found is the one that the node's tag names, which is taken.
use Rattle.std.proofs.Common.{◌∙◌, ap, sym}
use Rattle.std.specs.Option.{option_copied}
use Rattle.yaml.proofs.NameLaws.{picked_tag}
use Rattle.yaml.proofs.reader.Reader.variant_of_node.Goals as goal

pub returns-in-Some : goal.returns-in-Some
returns-in-Some c =
    picked_tag _ _ _ _ _ _ (sym c.tag_name.ensures ∙ ap option_copied c.in-Some.is) c.in_ok-found.ensures.finds
    (c.in_ok-found.ensures.stays ∙ c.note.ensures) c.in_ok-take_tag.ensures
