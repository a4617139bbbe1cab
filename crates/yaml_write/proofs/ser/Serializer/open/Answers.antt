-- A collection is opened in what has begun.
use Rattle.std.proofs.Common.{◌≡◌, ◌++◌, ◌∷◌, [], sym, ◌∙◌, ap, subst, map, false}
use Rattle.std.proofs.lemmas.List.{reverse-append}
use Rattle.yaml_base.specs.EmitEvents.{tag_bytes}
use Rattle.yaml_write.specs.Begun.{IsBegun}
use Rattle.yaml_write.specs.CollectionView.{collection_kind, open_collection, open_collections}
use Rattle.yaml_write.specs.Writing.{Writing, with_begun, document_start_in, start_of}
use Rattle.yaml_write.specs.declared.open.Open.{Open}
use Rattle.yaml_write.proofs.BegunLaws.{opened}
use Rattle.yaml_write.proofs.PlaceLaws.{added-is}
use Rattle.yaml_write.proofs.ser.Serializer.open.Goals as goal

pub invariant_of-self-2 : goal.invariant_of-self-2
invariant_of-self-2 c =
    let before : Writing =
    record { events = c.self.inside.written; opened = open_collections c.self.inside.opened.items } in
    let tag = tag_bytes c.args.tag in
    let new : Open = record { kind = c.args.kind; awaits_value = false } in
    let kind = collection_kind c.args.kind in
    let events : before.events ++ (document_start_in before.opened ++ start_of kind tag ∷ [])
    ≡ c.add_start.new.out =
    ap (λ os. before.events ++ (document_start_in (open_collections os) ++ start_of kind tag ∷ []))
    (sym (c.deref.ensures.value ∙ c.in_ok-reserve.ensures.items))
    ∙ added-is (λ event. document_start_in (open_collections c.deref.result.now) ++ event ∷ [])
    (start_of kind tag) before.events c.add_start.new.out c.in_ok-add_start.ensures in
    let inside : open_collection new ∷ with_begun before.opened ≡ open_collections c.push_reserved.new.self.items =
    sym (ap open_collections c.push_reserved.ensures.items ∙ (ap (map open_collection)
    (reverse-append c.begin_part.new.opened.items (new ∷ []))
    ∙ ap (λ os. open_collection new ∷ os) (c.begin_part.ensures.begun
    ∙ ap (λ os. with_begun (open_collections os)) c.in_ok-reserve.ensures.items))) in
    subst IsBegun (λ k. record { events = events k; opened = inside k })
    (opened before kind tag c.self.invariant)
