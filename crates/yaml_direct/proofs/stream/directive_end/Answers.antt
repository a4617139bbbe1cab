-- `%YAML`, spaces and a number.
use Rattle.std.proofs.Common.{ap, arith, Bool, drop, false, length, List, refl, sym, take, true, ℕ, ◌+◌, ◌-◌, ◌==◌, ◌&&◌, ◌||◌, ◌∙◌, ◌≡◌}
use Rattle.std.proofs.lemmas.Bool.{ne_eqb}
use Rattle.std.proofs.lemmas.List.{length-drop, take_all}
use Rattle.std.specs.List.{starts_with}
use Rattle.std.specs.Prelude.{codes, nat_eq}
use Rattle.yaml_direct.proofs.NameLaws.{spaces_are}
use Rattle.yaml_direct.proofs.StandSteps.{directive_here}
use Rattle.yaml_direct.proofs.DocumentMisses.{no_directive}
use Rattle.yaml_direct.proofs.stream.directive_end.Goals as goal
use Rattle.yaml_direct.proofs.stream.directive_end.Goals.{
  else-at-eq49-via-else-at-eq49,
  else-at-eq49-via-then-at-eq49+else-at-eq46,
  else-at-eq49-via-then-at-eq49+then-at-eq46+else-matches,
}
use Rattle.yaml_grammar.specs.Bytes.{at}

rest_is : (text : List ℕ) (i : ℕ) → take (length text - i) (drop i text) ≡ drop i text
rest_is text i = take_all (length text - i) (drop i text) (omega (arith, length-drop {A = ℕ} i text))

pub returns-then-matches-clause-read : goal.returns-then-matches-clause-read
returns-then-matches-clause-read c = λ first.
    let text = c.args.text.now in
    let i = c.args.place in
    let n = c.spaces_end-number.result in
    let s = c.spaces_end-number.ensures in
    let begins : starts_with nat_eq (drop i text) (codes "%YAML ") ≡ true =
    sym (ap (λ bytes. starts_with nat_eq bytes (codes "%YAML ")) (rest_is text i)) ∙ sym c.if-not-starts_with.ensures.value in
    let digit : (at text (n + 2) == 49 || at text (n + 2) == 50) ≡ true =
    grind (arith, c.if-matches.true, c.at-then-at-eq46.ensures.value) in
    directive_here text i n first begins (spaces_are text (i + 6) n s.forward s.within s.blanks s.over)
    (sym c.at.ensures.value ∙ c.if-at-eq49.true) (sym c.at-then-at-eq49.ensures.value ∙ c.if-at-eq46.true) digit

no_one : (s a b c : Bool) → a ≡ false → (s && (a && (b && c))) ≡ false
no_one false a b c e = refl
no_one true a b c e = rw e refl

no_dot : (s a b c : Bool) → b ≡ false → (s && (a && (b && c))) ≡ false
no_dot false a b c e = refl
no_dot true false b c e = refl
no_dot true true b c e = rw e refl

no_digit : (s a b c : Bool) → c ≡ false → (s && (a && (b && c))) ≡ false
no_digit false a b c e = refl
no_digit true false b c e = refl
no_digit true true false c e = refl
no_digit true true true c e = e

pub returns-else-at-eq49-clause-missed : goal.returns-else-at-eq49-clause-missed
returns-else-at-eq49-clause-missed c = λ _.
    let text = c.args.text.now in
    let i = c.args.place in
    let n = c.spaces_end-number.result in
    let s = c.spaces_end-number.ensures in
    let begins = starts_with nat_eq (drop i text) (codes "%YAML ") in
    let digit = at text (n + 2) == 49 || at text (n + 2) == 50 in
    no_directive text i n (spaces_are text (i + 6) n s.forward s.within s.blanks s.over)
    (elim c.else-at-eq49.branch [
      | else-at-eq49-via-then-at-eq49+then-at-eq46+else-matches w ↦
          no_digit begins (at text n == 49) (at text (n + 1) == 46) digit
          (grind (arith, w.if-matches.false, w.at-then-at-eq46.ensures.value))
      | else-at-eq49-via-then-at-eq49+else-at-eq46 w ↦ no_dot begins (at text n == 49) (at text (n + 1) == 46) digit
          (ne_eqb (at text (n + 1)) 46 (λ e. w.if-at-eq46.false (w.at-then-at-eq49.ensures.value ∙ e)))
      | else-at-eq49-via-else-at-eq49 w ↦ no_one begins (at text n == 49) (at text (n + 1) == 46) digit
          (ne_eqb (at text n) 49 (λ e. w.if-at-eq49.false (c.at.ensures.value ∙ e)))
    ])
