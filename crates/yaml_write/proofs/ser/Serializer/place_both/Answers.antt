-- Two parts of the innermost collection.
use Rattle.std.proofs.Common.{◌≡◌, ◌≢◌, [], Ok, ap, ◌∙◌, sym, subst}
use Rattle.yaml_write.specs.CollectionView.{open_collections}
use Rattle.yaml_write.specs.Content.{content_written}
use Rattle.yaml_write.specs.Outcomes.{joined, made}
use Rattle.yaml_write.specs.Writing.{Writing, with_both, with_begun}
use Rattle.yaml_write.specs.WrittenValue.{pair_node}
use Rattle.yaml_write.proofs.BegunLaws.{placed-made}
use Rattle.yaml_write.proofs.PlaceLaws.{placed-both}
use Rattle.yaml_write.proofs.ser.Serializer.place_both.Goals as goal

pub returns : goal.returns
returns c =
    let before : Writing =
    record { events = c.self.inside.written; opened = open_collections c.self.inside.opened.items } in
    let is : before ≡ c.args.self.now = c.self.view_is in
    let some : before.opened ≢ [] = subst (λ (w : Writing). w.opened ≢ []) (sym is) c.requires in
    let both = joined pair_node (content_written c.args.first) (content_written c.args.second) in
    let opened : open_collections c.begin_part-2.new.opened.items ≡ with_begun (with_begun before.opened) =
    c.begin_part-2.ensures.begun ∙ ap with_begun c.begin_part.ensures.begun in
    subst (λ (w : Writing). made (with_both w) both
    ≡ Ok (record { events = c.add_both.new.out; opened = open_collections c.begin_part-2.new.opened.items })) is
    (placed-both before both c.add_both.new.out some c.in_ok-add_both.ensures
    ∙ ap Ok (λ k. record { events = c.add_both.new.out; opened = sym opened k }))

pub invariant_of-self-2 : goal.invariant_of-self-2
invariant_of-self-2 c =
    let before : Writing =
    record { events = c.self.inside.written; opened = open_collections c.self.inside.opened.items } in
    let some : before.opened ≢ [] = subst (λ (w : Writing). w.opened ≢ []) (sym c.self.view_is) c.requires in
    let both = joined pair_node (content_written c.args.first) (content_written c.args.second) in
    let opened : open_collections c.begin_part-2.new.opened.items ≡ with_begun (with_begun before.opened) =
    c.begin_part-2.ensures.begun ∙ ap with_begun c.begin_part.ensures.begun in
    placed-made before
    (record { events = c.add_both.new.out; opened = open_collections c.begin_part-2.new.opened.items }) both
    c.self.invariant
    (placed-both before both c.add_both.new.out some c.in_ok-add_both.ensures
    ∙ ap Ok (λ k. record { events = c.add_both.new.out; opened = sym opened k }))
