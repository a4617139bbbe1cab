-- One argument and three are answered, and any other number of them is refused.
use Rattle.std.specs.Prelude.{codes}
use Rattle.std.proofs.Common.{◌≡◌, ℕ, List, [], ◌∷◌, map, length, string_bytes, refl, sym, ap, ◌∙◌, String, get_or}
use Rattle.std.specs.Global.{Global}
use Rattle.yaml_case.specs.Replies.{IsAnswerByName, IsAnswerTo}
use Rattle.yaml_case.specs.Arguments.{WriteLimits}
use Rattle.yaml_run.proofs.RunLaws.{some_input}
use Rattle.yaml_case.proofs.RunLaws.{refuses_all, one_argument, three_arguments, another_count}
use Rattle.yaml_case.proofs.RunLaws.{none_alone, answers_alone, none_within, answers_within, no_limits, answered_as}
use Rattle.yaml_read.specs.TreeReader.{default_limits}
use Rattle.yaml_case.proofs.reply.reply_to.Goals as goal

pub returns-then-arguments-eq1-clause-answers : goal.returns-then-arguments-eq1-clause-answers
returns-then-arguments-eq1-clause-answers g c =
    let are = one_argument string_bytes c.args.arguments.now c.index-arguments-0.result c.if-arguments-eq1.true
    c.index-arguments-0.is in
    answered_as (g.R.Read.remaining c.args.reader.now) (IsAnswerByName c.as_str.result.now default_limits)
    (IsAnswerTo (map string_bytes c.args.arguments.now)) c.reply.result
    (λ input ended text. answers_alone _ _ input ended text (are ∙ ap (λ n. n ∷ []) (sym c.as_str.ensures.value)))
    c.reply.ensures.answers

pub returns-then-arguments-eq1-clause-unread : goal.returns-then-arguments-eq1-clause-unread
returns-then-arguments-eq1-clause-unread g c = λ none.
    let are = one_argument string_bytes c.args.arguments.now c.index-arguments-0.result c.if-arguments-eq1.true
    c.index-arguments-0.is in
    c.reply.ensures.unread (none_alone _ _ (are ∙ ap (λ n. n ∷ []) (sym c.as_str.ensures.value)) none)

pub returns-then-arguments-ne3-clause-answers : goal.returns-then-arguments-ne3-clause-answers
returns-then-arguments-ne3-clause-answers g c =
    let given = some_input (g.R.Read.remaining c.args.reader.now) in
    let none = another_count string_bytes c.args.arguments.now c.if-arguments-eq1.false c.if-arguments-ne3.true in
    (codes "bad argument", given.0, refl, given.1, refuses_all _ _ _ none refl)

-- three arguments, by the texts that the calls behind them got
are_three : (arguments : List (String Global)) (first second third : String Global) (name nesting follows : List ℕ)
    → length arguments ≡ 3 → first ≡ get_or arguments 0 first → second ≡ get_or arguments 1 second → third
    ≡ get_or arguments 2 third
    → name ≡ string_bytes first → nesting ≡ string_bytes second → follows ≡ string_bytes third
    → map string_bytes arguments ≡ name ∷ nesting ∷ follows ∷ []
are_three arguments first second third name nesting follows count a b c n m f =
    three_arguments string_bytes arguments first second third count a b c
    ∙ ap (λ x. x ∷ string_bytes second ∷ string_bytes third ∷ []) (sym n)
    ∙ ap (λ x. name ∷ x ∷ string_bytes third ∷ []) (sym m) ∙ ap (λ x. name ∷ nesting ∷ x ∷ []) (sym f)

pub returns-in-Some-clause-answers : goal.returns-in-Some-clause-answers
returns-in-Some-clause-answers g c =
    let are = are_three c.args.arguments.now c.index-arguments-0-in-Some.result c.index-arguments-1.result
    c.index-arguments-2.result
    c.as_str-in-Some.result.now c.as_str-2.result.now c.as_str-3.result.now c.if-arguments-ne3.false
    c.index-arguments-0-in-Some.is c.index-arguments-1.is c.index-arguments-2.is
    c.as_str-in-Some.ensures.value c.as_str-2.ensures.value c.as_str-3.ensures.value in
    answered_as (g.R.Read.remaining c.args.reader.now) (IsAnswerByName c.as_str-in-Some.result.now c.in-Some.limits)
    (IsAnswerTo (map string_bytes c.args.arguments.now)) c.reply-in-Some.result
    (λ input ended text. answers_within _ _ _ _ are _ input ended text c.in-Some.ensures)
    c.reply-in-Some.ensures.answers

pub returns-in-Some-clause-unread : goal.returns-in-Some-clause-unread
returns-in-Some-clause-unread g c = λ none.
    let are = are_three c.args.arguments.now c.index-arguments-0-in-Some.result c.index-arguments-1.result
    c.index-arguments-2.result
    c.as_str-in-Some.result.now c.as_str-2.result.now c.as_str-3.result.now c.if-arguments-ne3.false
    c.index-arguments-0-in-Some.is c.index-arguments-1.is c.index-arguments-2.is
    c.as_str-in-Some.ensures.value c.as_str-2.ensures.value c.as_str-3.ensures.value in
    c.reply-in-Some.ensures.unread (none_within _ _ _ _ are _ c.in-Some.ensures none)

pub returns-in-None-clause-answers : goal.returns-in-None-clause-answers
returns-in-None-clause-answers g c =
    let given = some_input (g.R.Read.remaining c.args.reader.now) in
    let first = get_or c.args.arguments.now 0 c.index-arguments-1.result in
    let are = three_arguments string_bytes c.args.arguments.now first c.index-arguments-1.result
    c.index-arguments-2.result
    c.if-arguments-ne3.false (get_or_again c.args.arguments.now c.index-arguments-1.result c.if-arguments-ne3.false)
    c.index-arguments-1.is c.index-arguments-2.is in
    let second = ap (λ x. string_bytes first ∷ x ∷ string_bytes c.index-arguments-2.result ∷ [])
    (sym c.as_str-2.ensures.value) in
    let third = ap (λ x. string_bytes first ∷ c.as_str-2.result.now ∷ x ∷ []) (sym c.as_str-3.ensures.value) in (
      codes "bad argument",
      given.0,
      refl,
      given.1,
      refuses_all _ _ _
          (no_limits _ _ _ _ (are ∙ second ∙ third) c.in-None.ensures) refl,
    )
  where
    get_or_again : (l : List (String Global)) (d : String Global) → length l ≡ 3 → get_or l 0 d
        ≡ get_or l 0 (get_or l 0 d)
    get_or_again [] d h = absurd cc
    get_or_again (x ∷ xs) d h = refl
