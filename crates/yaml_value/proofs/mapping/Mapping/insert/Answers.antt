-- The entries are the pairs, before and after.
use Rattle.std.proofs.Common.{◌≡◌, ap, subst, sym, ◌∙◌, IfOk, OnOk, Option, Ok, Err, Result}
use Rattle.std.proofs.lemmas.Result.{on_err_weaker, on_ok_weaker}
use Rattle.std.specs.Prelude.{option_map}
use Rattle.yaml_value.specs.Find.{IsPut, value_at, with_pair}
use Rattle.yaml_value.specs.PlainValue.{PlainPairs, PlainValue}
use Rattle.yaml_value.specs.View.{plain, plain_pairs}
use Rattle.yaml_value.proofs.Views.{is_put, pairs_of-view, view-entries}
use Rattle.yaml_value.proofs.mapping.Mapping.insert.Goals as goal

-- what is told of the entries is told of the pairs
told_of : {V E : Type 0} (r : Result V E) (see : V → Option PlainValue) (k : PlainValue) (es ps : PlainPairs)
    → es ≡ ps → IfOk r (λ x. see x ≡ value_at k es) → IfOk r (λ x. see x ≡ value_at k ps)
told_of (Ok x) see k es ps is h = h ∙ ap (value_at k) is
told_of (Err f) see k es ps is h = tt

put_of : {V E : Type 0} (r : Result V E) (see : V → Option PlainValue) (k v : PlainValue) (old new : PlainPairs)
    → OnOk r (new ≡ with_pair k v old) → IfOk r (λ x. see x ≡ value_at k old)
    → IfOk r (λ x. IsPut k v old new (see x))
put_of (Ok x) see k v old new after told =
    subst (λ qs. IsPut k v old qs (see x)) (sym after) (is_put k v old (see x) told)
put_of (Err f) see k v old new after told = tt

pub invariant_of-self : goal.invariant_of-self
invariant_of-self c = c.insert_pair.ensures.sound

pub returns-clause-ok : goal.returns-clause-ok
returns-clause-ok c =
    on_ok_weaker c.insert_pair.result
    (λ e. view-entries c.insert_pair.new.entries.items c.insert_pair.ensures.sound.1
    ∙ (e ∙ ap (with_pair (plain c.args.key) (plain c.args.value)) (pairs_of-view c.self.inside.entries.items
    c.args.self.now c.self.view_is c.self.invariant.1)))
    c.insert_pair.ensures.ok

pub returns-clause-err : goal.returns-clause-err
returns-clause-err c =
    on_err_weaker c.insert_pair.result
    (λ e. view-entries c.insert_pair.new.entries.items c.insert_pair.ensures.sound.1
    ∙ (e ∙ pairs_of-view c.self.inside.entries.items c.args.self.now c.self.view_is c.self.invariant.1))
    c.insert_pair.ensures.err

pub returns-clause-told : goal.returns-clause-told
returns-clause-told c =
    told_of c.insert_pair.result (option_map plain) (plain c.args.key) _ _
    (pairs_of-view c.self.inside.entries.items c.args.self.now c.self.view_is c.self.invariant.1)
    c.insert_pair.ensures.told

pub returns-clause-put : goal.returns-clause-put
returns-clause-put c =
    put_of c.insert_pair.result (option_map plain) (plain c.args.key) (plain c.args.value)
    (plain_pairs c.args.self.now) _
    (on_ok_weaker c.insert_pair.result
    (λ e. view-entries c.insert_pair.new.entries.items c.insert_pair.ensures.sound.1
    ∙ (e ∙ ap (with_pair (plain c.args.key) (plain c.args.value)) (pairs_of-view c.self.inside.entries.items
    c.args.self.now c.self.view_is c.self.invariant.1)))
    c.insert_pair.ensures.ok)
    (told_of c.insert_pair.result (option_map plain) (plain c.args.key) _ _
    (pairs_of-view c.self.inside.entries.items c.args.self.now c.self.view_is c.self.invariant.1)
    c.insert_pair.ensures.told)
