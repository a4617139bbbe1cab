-- As it was found.
use Rattle.std.proofs.Common.{◌≡◌, ◌-◌, ◌∙◌, Some, false, slice_range, subst, sym, true}
use Rattle.yaml_direct.specs.PlainTexts.{IsFirstLine, flow_line}
use Rattle.yaml_direct.proofs.leaf.find_plain.Goals as goal
use Rattle.yaml_grammar.specs.Gaps.{breaks}
use Rattle.yaml_grammar.specs.Plain.{as_key, begins_plain, in_brackets, plain_at}

pub returns-clause-plain : goal.returns-clause-plain
returns-clause-plain c =
    let text = c.args.text.now in
    let from = c.args.from in
    let end = c.plain_end-end.result in
    let line = c.plain_end-end.ensures in
    let begun = c.begins_plain.ensures in
    let yes_begins = c.if-not-begins_plain.false in
    let there : end ≡ c.plain.result.end = sym c.plain.ensures.2 in
    λ h parts.
    let begins : begins_plain text c.args.flow from ≡ true = sym (begun.same h parts) ∙ yes_begins in
    record {
      kind = c.plain.ensures.3;
      begins = c.plain.ensures.0;
      stops = c.plain.ensures.1 ∙ there;
      first = subst (IsFirstLine text c.args.flow from) there (record {
        begins = begins;
        goes = begun.goes yes_begins;
        some = begun.some yes_begins;
        line = line.line;
      });
      key = λ flow. subst (λ k. plain_at text as_key from ≡ Some (k - from, slice_range text from k)) there
          (line.key h flow (subst (λ f. begins_plain text f from ≡ true) flow begins));
      part = λ flow whole. subst (λ k. plain_at text in_brackets from ≡ flow_line text from k) there
          (line.flow h flow (subst (λ f. begins_plain text f from ≡ true) flow begins)
          (subst (λ k. breaks text k ≡ false) (sym there) whole));
    }
