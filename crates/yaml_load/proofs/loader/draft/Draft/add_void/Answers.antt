-- The node of an empty stream is a document of its own.
use Rattle.std.specs.Prelude.{◌∷◌}
use Rattle.yaml_load.proofs.Words.{[], ◌∙◌, arith, refl, None, ends_of, a_void, Cut, Void}
use Rattle.yaml_load.proofs.FinishLaws.{between_more}
use Rattle.yaml_load.proofs.OpenEndsLaws.{none_open, none_seen}
use Rattle.yaml_load.proofs.loader.draft.Draft.add_void.Goals as goal

pub returns : goal.returns
returns c = λ documents h.
    let old = c.args.self.now in
    let passed = c.in_ok-pass.ensures in
    let numbered = passed.numbers old.ends.numbers [] a_void
    (none_seen old.ends.numbers old.ends refl h.unended) refl refl refl in
    let unended = passed.unended ∙ h.unended in
    let cut : Cut = record { from = c.len-from.result; to = c.len.result; error = None } in
    between_more old.events.items ((Void, c.args.mark) ∷ []) old.ends.numbers
    (ends_of (a_void ∷ [])) old.cuts.items documents _ cut
    h.long h.cuts h.shown c.in_ok-push.ensures.items
    (none_open old.ends.numbers (a_void ∷ []) c.pass.new.self numbered unended) refl unended h.named h.aliases
    c.in_ok-push-2.ensures.items
    (omega (arith, old.events.ok, c.len-from.ensures)) (omega (arith, c.push.new.self.ok, c.len.ensures))
