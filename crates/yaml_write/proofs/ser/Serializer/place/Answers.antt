-- One node.
use Rattle.std.proofs.Common.{◌≡◌, ◌++◌, Ok, ap, ◌∙◌, sym, subst}
use Rattle.yaml_write.specs.CollectionView.{open_collections}
use Rattle.yaml_write.specs.Content.{content_written}
use Rattle.yaml_write.specs.Outcomes.{made}
use Rattle.yaml_write.specs.Writing.{Writing, part_events, with_begun, with_node}
use Rattle.yaml_write.proofs.BegunLaws.{node-made}
use Rattle.yaml_write.proofs.PlaceLaws.{placed-one}
use Rattle.yaml_write.proofs.ser.Serializer.place.Goals as goal

pub returns : goal.returns
returns c =
    let before : Writing =
    record { events = c.self.inside.written; opened = open_collections c.self.inside.opened.items } in
    let added : made (λ node. before.events ++ part_events before.opened node) (content_written c.args.content)
    ≡ Ok c.add_part.new.out =
    ap (λ os. made (λ node. before.events ++ part_events (open_collections os) node) (content_written c.args.content))
    (sym c.deref.ensures.value) ∙ c.in_ok-add_part.ensures in
    let opened : open_collections c.begin_part.new.opened.items ≡ with_begun before.opened =
    c.begin_part.ensures.begun in
    subst (λ (w : Writing). made (with_node w) (content_written c.args.content)
    ≡ Ok (record { events = c.add_part.new.out; opened = open_collections c.begin_part.new.opened.items }))
    c.self.view_is
    (placed-one before (content_written c.args.content) c.add_part.new.out added
    ∙ ap Ok (λ k. record { events = c.add_part.new.out; opened = sym opened k }))

pub invariant_of-self-2 : goal.invariant_of-self-2
invariant_of-self-2 c =
    let before : Writing =
    record { events = c.self.inside.written; opened = open_collections c.self.inside.opened.items } in
    let added : made (λ node. before.events ++ part_events before.opened node) (content_written c.args.content)
    ≡ Ok c.add_part.new.out =
    ap (λ os. made (λ node. before.events ++ part_events (open_collections os) node) (content_written c.args.content))
    (sym c.deref.ensures.value) ∙ c.in_ok-add_part.ensures in
    let opened : open_collections c.begin_part.new.opened.items ≡ with_begun before.opened =
    c.begin_part.ensures.begun in
    node-made before (record { events = c.add_part.new.out; opened = open_collections c.begin_part.new.opened.items })
    (content_written c.args.content) c.self.invariant
    (placed-one before (content_written c.args.content) c.add_part.new.out added
    ∙ ap Ok (λ k. record { events = c.add_part.new.out; opened = sym opened k }))
