use Rattle.std.proofs.Common.{arith, sym, ◌∙◌}
use Rattle.yaml_direct.proofs.ReaderLaws.{behind_space_goes_on, next_behind_space}
use Rattle.yaml_direct.proofs.reader.Reader.flow_gap.Goals as goal

pub returns-then-begins_token-2-clause-found : goal.returns-then-begins_token-2-clause-found
returns-then-begins_token-2-clause-found c =
    let token = c.begins_token-then-at-eq32.ensures.token c.if-begins_token-2.true in
    let value = c.at-then-at-eq32.ensures.value in
    λ h some. next_behind_space c.args.self.now c.args.from (sym c.at-2.ensures.value ∙ c.if-at-eq32.true)
    (omega (arith, value, token.0)) (λ e. token.1 (value ∙ e))

pub returns-then-begins_token-2-clause-there : goal.returns-then-begins_token-2-clause-there
returns-then-begins_token-2-clause-there c =
    let token = c.begins_token-then-at-eq32.ensures.token c.if-begins_token-2.true in
    λ h amid some. behind_space_goes_on c.args.self.now.text.now c.args.from
    (sym c.at-2.ensures.value ∙ c.if-at-eq32.true)
    (c.at-then-at-eq32.ensures.within (λ e. omega (arith, e, token.0)))
