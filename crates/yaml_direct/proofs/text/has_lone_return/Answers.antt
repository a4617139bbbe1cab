-- No carriage return stands in a text of the grammar's characters.
use Rattle.std.proofs.Common.{length, subst, ◌<◌, ◌∙◌, All, ℕ}
use Rattle.std.proofs.lemmas.Bool.{eqb-true}
use Rattle.std.proofs.lemmas.List.Elements.{All-head, All-rest, All-same}
use Rattle.memchr.proofs.lemmas.CallerLemmas.{All-places}
use Rattle.memchr.specs.Find.{Passes, is_byte}
use Rattle.yaml_direct.proofs.TextLaws.{no_return}
use Rattle.yaml_direct.proofs.text.has_lone_return.Goals as goal
use Rattle.yaml_grammar.specs.Bytes.{at}
use Rattle.std.specs.Prelude.{List}

abbrev IsReturn : List ℕ → ℕ → Type 0
IsReturn text k = (k < length text) × Passes (is_byte 13) text k

pub returns-init : goal.returns-init
returns-init c = (
  tt,
  tt,
  All-same (IsReturn c.args.text.now) _ _
      (c.into_iter-place-iterator.ensures.into_iter_gives ∙ c.memchr_iter-place-items.ensures.value)
      (All-places (is_byte 13) c.args.text.now),
)

pub returns-then-not-is_some_and : goal.returns-then-not-is_some_and
returns-then-not-is_some_and c = λ h.
    let text = c.args.text.now in
    let place = c.in-Some.place in
    let here = All-head (IsReturn text) place c.next.new.self
    (subst (All (IsReturn text)) c.in-Some.ensures.steps c.returns.invariant.2) in
    absurd (no_return text place h (eqb-true (at text place) 13 here.1))

pub returns-preserved : goal.returns-preserved
returns-preserved c = (
  tt,
  tt,
  All-rest (IsReturn c.args.text.now) c.in-Some.place c.next.new.self c.returns.place-iterator c.in-Some.ensures.steps
      c.returns.invariant.2,
)
