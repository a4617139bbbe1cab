-- What a tag is around is changed, and the tag stays.
use Rattle.std.proofs.Common.{◌∙◌, ap, option_map, refl, sym}
use Rattle.yaml_value.specs.PlainValue.{tagged}
use Rattle.yaml_value.specs.View.{plain, plain_pairs, plain_tagged}
use Rattle.yaml_value.proofs.Changes.{inserts_in, inserts_under, stays_in, stays_under}
use Rattle.yaml_value.proofs.value.change.+put.Goals as goal

pub put_at-returns-in-Mapping-clause-put : goal.put_at-returns-in-Mapping-clause-put
put_at-returns-in-Mapping-clause-put t c =
    inserts_in c.insert-told.result (plain c.args.key) (plain c.args.part) (option_map plain) _ _ (plain_pairs
    c.in-Mapping.mapping)
    (plain_pairs c.insert-told.new.self)
    (sym c.take.ensures.value ∙ ap plain c.in-Mapping.is)
    refl c.insert-told.ensures.put

pub put_at-returns-in-Mapping-clause-err : goal.put_at-returns-in-Mapping-clause-err
put_at-returns-in-Mapping-clause-err t c =
    stays_in c.insert-told.result _ _ (plain_pairs c.in-Mapping.mapping) (plain_pairs c.insert-told.new.self)
    (sym c.take.ensures.value ∙ ap plain c.in-Mapping.is)
    refl c.insert-told.ensures.err

pub put_at-returns-in-Tagged-clause-put : goal.put_at-returns-in-Tagged-clause-put
put_at-returns-in-Tagged-clause-put t c =
    inserts_under c.put_under-told.result (plain c.args.key) (plain c.args.part) (option_map plain) _ _
    (plain_tagged c.deref_mut.result.now).0 (plain_tagged c.deref_mut.result.now).1
    (plain_tagged c.put_under-told.new.tagged).1
    (sym c.take.ensures.value ∙ (ap plain c.in-Tagged.is
    ∙ ap (λ x. tagged (plain_tagged x).0 (plain_tagged x).1) (sym c.deref_mut.ensures.value)))
    (ap (λ s. tagged s (plain_tagged c.put_under-told.new.tagged).1) c.put_under-told.ensures.tag)
    c.put_under-told.ensures.put

pub put_at-returns-in-Tagged-clause-err : goal.put_at-returns-in-Tagged-clause-err
put_at-returns-in-Tagged-clause-err t c =
    stays_under c.put_under-told.result _ _ (plain_tagged c.deref_mut.result.now).0 (plain_tagged
    c.deref_mut.result.now).1
    (plain_tagged c.put_under-told.new.tagged).1
    (sym c.take.ensures.value ∙ (ap plain c.in-Tagged.is
    ∙ ap (λ x. tagged (plain_tagged x).0 (plain_tagged x).1) (sym c.deref_mut.ensures.value)))
    (ap (λ s. tagged s (plain_tagged c.put_under-told.new.tagged).1) c.put_under-told.ensures.tag)
    c.put_under-told.ensures.err
