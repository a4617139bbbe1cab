-- By the first byte.
use Rattle.std.proofs.Common.{◌≡◌, ◌+◌, ◌∙◌, None, arith, false, refl, subst, sym, true}
use Rattle.yaml_direct.specs.Leaves.{an_alias, in_quotes, is_open, plain_text}
use Rattle.yaml_direct.specs.LeftInBrackets.{IsLeftOpen}
use Rattle.yaml_direct.specs.Quoted.{quote_of}
use Rattle.yaml_direct.specs.declared.quote.Quote.{Quote}
use Rattle.yaml_direct.specs.declared.quote.Quote.TheVariants.{Double, Single}
use Rattle.yaml_direct.proofs.AddedLeaves.{no_plain, no_star_at}
use Rattle.yaml_direct.proofs.LeafKinds.{if_some}
use Rattle.yaml_direct.proofs.LeafLines.{no_quotes}
use Rattle.yaml_direct.proofs.leaf.find_leaf.Goals as goal
use Rattle.yaml_grammar.specs.Bytes.{at}
use Rattle.yaml_grammar.specs.Names.{name_end}
use Rattle.yaml_grammar.specs.Plain.{begins_plain}

pub returns-in-34-clause-found : goal.returns-in-34-clause-found
returns-in-34-clause-found c =
    λ h parts. in_quotes Double (sym c.at.ensures.value ∙ c.in-34.is) c.find_quoted.ensures.quoted

pub returns-in-39-clause-found : goal.returns-in-39-clause-found
returns-in-39-clause-found c =
    λ h parts. in_quotes Single (sym c.at.ensures.value ∙ c.in-39.is) c.find_quoted-in-39.ensures.quoted

pub returns-in-42-clause-found : goal.returns-in-42-clause-found
returns-in-42-clause-found c =
    λ h parts. if_some c.find_alias.result (λ leaf a. an_alias (sym c.at.ensures.value ∙ c.in-42.is) a)
    (c.find_alias.ensures.alias h)

pub returns-in-42-clause-missed : goal.returns-in-42-clause-missed
returns-in-42-clause-missed c =
    let text = c.args.text.now in
    λ h parts none context flow. no_star_at text context c.args.from (sym c.at.ensures.value ∙ c.in-42.is)
    (subst (λ f. name_end text f (c.args.from + 1) ≡ None) (sym flow) (c.find_alias.ensures.missed h none))

pub returns-in_default-clause-found : goal.returns-in_default-clause-found
returns-in_default-clause-found c =
    λ h parts. if_some c.find_plain.result (λ leaf p. plain_text p) (c.find_plain.ensures.plain h parts)

pub returns-in_default-clause-missed : goal.returns-in_default-clause-missed
returns-in_default-clause-missed c =
    let text = c.args.text.now in
    let star : c.at.result ≡ 42 → ⊥ = grind (arith, c.in_default) in
    let single : c.at.result ≡ 39 → ⊥ = grind (arith, c.in_default) in
    let double : c.at.result ≡ 34 → ⊥ = grind (arith, c.in_default) in
    λ h parts none context flow. no_plain text context c.args.from (λ e. star (c.at.ensures.value ∙ e))
    (λ e. single (c.at.ensures.value ∙ e)) (λ e. double (c.at.ensures.value ∙ e))
    (subst (λ f. begins_plain text f c.args.from ≡ false) (sym flow) (c.find_plain.ensures.missed h parts none))

pub returns-in-34-clause-line : goal.returns-in-34-clause-line
returns-in-34-clause-line c =
    let byte = sym c.at.ensures.value ∙ c.in-34.is in
    λ h q closed. c.find_quoted.ensures.line (λ e. omega (arith, e, byte)) closed

pub returns-in-39-clause-line : goal.returns-in-39-clause-line
returns-in-39-clause-line c =
    let byte = sym c.at.ensures.value ∙ c.in-39.is in
    λ h q closed. c.find_quoted-in-39.ensures.line (λ e. omega (arith, e, byte)) closed

pub returns-in-42-clause-line : goal.returns-in-42-clause-line
returns-in-42-clause-line c =
    let byte = sym c.at.ensures.value ∙ c.in-42.is in
    λ h q. if_some c.find_alias.result (λ leaf line closed. line) (c.find_alias.ensures.line h (λ e. omega (arith, e, byte)))

pub returns-in-42-clause-opened : goal.returns-in-42-clause-opened
returns-in-42-clause-opened c =
    let byte = sym c.at.ensures.value ∙ c.in-42.is in
    λ quote q. absurd (no_quote quote (sym byte ∙ q))
  where
    no_quote : (quote : Quote) → 42 ≡ quote_of quote → ⊥
    no_quote Single e = omega (arith, e)
    no_quote Double e = omega (arith, e)

pub returns-in-34-clause-opened : goal.returns-in-34-clause-opened
returns-in-34-clause-opened c =
    let byte = sym c.at.ensures.value ∙ c.in-34.is in
    let leaf = c.find_quoted.result in
    λ quote q. subst (λ x. is_open leaf.kind ≡ true → IsLeftOpen c.args.text.now x (c.args.from + 1) leaf.stop)
    (same_quote quote (sym byte ∙ q)) c.find_quoted.ensures.opened
  where
    same_quote : (quote : Quote) → 34 ≡ quote_of quote → Double ≡ quote
    same_quote Double e = refl
    same_quote Single e = absurd (omega (arith, e))

pub returns-in-39-clause-opened : goal.returns-in-39-clause-opened
returns-in-39-clause-opened c =
    let byte = sym c.at.ensures.value ∙ c.in-39.is in
    let leaf = c.find_quoted-in-39.result in
    λ quote q. subst (λ x. is_open leaf.kind ≡ true → IsLeftOpen c.args.text.now x (c.args.from + 1) leaf.stop)
    (same_quote quote (sym byte ∙ q)) c.find_quoted-in-39.ensures.opened
  where
    same_quote : (quote : Quote) → 39 ≡ quote_of quote → Single ≡ quote
    same_quote Single e = refl
    same_quote Double e = absurd (omega (arith, e))

pub returns-in_default-clause-opened : goal.returns-in_default-clause-opened
returns-in_default-clause-opened c =
    let single : c.at.result ≡ 39 → ⊥ = grind (arith, c.in_default) in
    let double : c.at.result ≡ 34 → ⊥ = grind (arith, c.in_default) in
    λ quote q. absurd (no_quote quote (λ e. single (c.at.ensures.value ∙ e)) (λ e. double (c.at.ensures.value ∙ e)) q)
  where
    no_quote : (quote : Quote) → (at c.args.text.now c.args.from ≡ 39 → ⊥) → (at c.args.text.now c.args.from ≡ 34 → ⊥)
        → at c.args.text.now c.args.from ≡ quote_of quote → ⊥
    no_quote Single single double e = single e
    no_quote Double single double e = double e

pub returns-in_default-clause-line : goal.returns-in_default-clause-line
returns-in_default-clause-line c =
    let star : c.at.result ≡ 42 → ⊥ = grind (arith, c.in_default) in
    let single : c.at.result ≡ 39 → ⊥ = grind (arith, c.in_default) in
    let double : c.at.result ≡ 34 → ⊥ = grind (arith, c.in_default) in
    λ h q. absurd (no_quotes (at c.args.text.now c.args.from) (λ e. double (c.at.ensures.value ∙ e))
    (λ e. single (c.at.ensures.value ∙ e)) (λ e. star (c.at.ensures.value ∙ e)) q)
