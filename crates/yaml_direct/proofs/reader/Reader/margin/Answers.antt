use Rattle.std.proofs.Common.{◌≡◌, arith, subst, sym, true, ◌∙◌}
use Rattle.yaml_direct.specs.Tokens.{HasNoToken}
use Rattle.yaml_direct.proofs.ReaderLaws.{comment_here, next_behind_feed, next_later}
use Rattle.yaml_direct.proofs.reader.Reader.margin.Goals as goal
use Rattle.yaml_grammar.specs.Bytes.{is_text}

pub returns-then-begins_token-clause-found : goal.returns-then-begins_token-clause-found
returns-then-begins_token-clause-found c =
    let token = c.begins_token.ensures.token c.if-begins_token.true in
    let value = c.at-2.ensures.value in
    λ h some. next_behind_feed c.args.self.now c.begin_line.new.self c.args.from c.spaces_end-next.result
    (sym c.at.ensures.value ∙ c.if-at-ne10.false) c.spaces_end-next.ensures.forward c.spaces_end-next.ensures.blanks
    (omega (arith, value, token.0)) (λ e. token.1 (value ∙ e)) c.begin_line.ensures.counted
    c.begin_line.ensures.begun

pub returns-else-begins_token-clause-found : goal.returns-else-begins_token-clause-found
returns-else-begins_token-clause-found c =
    let same = c.begin_line.ensures.text in
    λ h some. next_later c.args.self.now c.begin_line.new.self c.gap.new.self c.args.from c.spaces_end-next.result
    c.gap.result same (sym c.at.ensures.value ∙ c.if-at-ne10.false) c.spaces_end-next.ensures.forward
    (c.gap.ensures.reached.1.1 some).0 c.spaces_end-next.ensures.blanks c.begin_line.ensures.counted
    c.begin_line.ensures.begun (c.gap.ensures.found (subst (λ t. is_text t ≡ true) (sym same) h) some)

pub returns-else-begins_token-clause-missed : goal.returns-else-begins_token-clause-missed
returns-else-begins_token-clause-missed c =
    let same = c.begin_line.ensures.text in
    λ h none. absurd (comment_here c.args.self.now.text.now c.args.from c.spaces_end-next.result
    (sym c.at.ensures.value ∙ c.if-at-ne10.false) c.spaces_end-next.ensures.forward
    c.spaces_end-next.ensures.blanks
    (subst (λ t. HasNoToken t c.spaces_end-next.result) same
    (c.gap.ensures.missed (subst (λ t. is_text t ≡ true) (sym same) h) none)))
