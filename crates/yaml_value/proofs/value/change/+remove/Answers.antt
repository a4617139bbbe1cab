-- What a tag is around is changed, and the tag stays.
use Rattle.std.proofs.Common.{◌∙◌, ap, option_map, refl, sym}
use Rattle.yaml_value.specs.PlainValue.{tagged, text}
use Rattle.yaml_value.specs.View.{plain, plain_pairs, plain_tagged}
use Rattle.yaml_value.proofs.Changes.{answers_in, answers_under, removes_in, removes_under}
use Rattle.yaml_value.proofs.value.change.+remove.Goals as goal

pub remove_at-returns-in-Mapping-clause-taken : goal.remove_at-returns-in-Mapping-clause-taken
remove_at-returns-in-Mapping-clause-taken t c =
    removes_in (text c.args.key.now) (option_map plain c.remove-told.result) _ _ (plain_pairs c.in-Mapping.mapping)
    (plain_pairs c.remove-told.new.self)
    (sym c.take.ensures.value ∙ ap plain c.in-Mapping.is)
    refl c.remove-told.ensures.taken

pub remove_at-returns-in-Mapping-clause-answer : goal.remove_at-returns-in-Mapping-clause-answer
remove_at-returns-in-Mapping-clause-answer t c =
    answers_in c.args.key.now (option_map plain c.remove-told.result) _ (plain_pairs c.in-Mapping.mapping)
    (sym c.take.ensures.value ∙ ap plain c.in-Mapping.is)
    c.remove-told.ensures.answer

pub remove_at-returns-in-Tagged-clause-taken : goal.remove_at-returns-in-Tagged-clause-taken
remove_at-returns-in-Tagged-clause-taken t c =
    removes_under (text c.args.key.now) (option_map plain c.remove_under-told.result) _ _
    (plain_tagged c.deref_mut.result.now).0 (plain_tagged c.deref_mut.result.now).1
    (plain_tagged c.remove_under-told.new.tagged).1
    (sym c.take.ensures.value ∙ (ap plain c.in-Tagged.is
    ∙ ap (λ x. tagged (plain_tagged x).0 (plain_tagged x).1) (sym c.deref_mut.ensures.value)))
    (ap (λ s. tagged s (plain_tagged c.remove_under-told.new.tagged).1) c.remove_under-told.ensures.tag)
    c.remove_under-told.ensures.taken

pub remove_at-returns-in-Tagged-clause-answer : goal.remove_at-returns-in-Tagged-clause-answer
remove_at-returns-in-Tagged-clause-answer t c =
    answers_under c.args.key.now (option_map plain c.remove_under-told.result) _
    (plain_tagged c.deref_mut.result.now).0 (plain_tagged c.deref_mut.result.now).1
    (sym c.take.ensures.value ∙ (ap plain c.in-Tagged.is
    ∙ ap (λ x. tagged (plain_tagged x).0 (plain_tagged x).1) (sym c.deref_mut.ensures.value)))
    c.remove_under-told.ensures.answer
