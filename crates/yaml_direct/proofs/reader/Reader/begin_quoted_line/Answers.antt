-- Blanks begin the line.
use Rattle.std.proofs.Common.{◌≡◌, ◌∙◌, ap, arith, subst, sym, true}
use Rattle.yaml_direct.specs.Quoted.{IsLineBegin}
use Rattle.yaml_direct.proofs.TextLaws.{no_return}
use Rattle.yaml_direct.proofs.reader.Reader.begin_quoted_line.Goals as goal
use Rattle.yaml_grammar.specs.Bytes.{at, is_blank, is_text}

pub returns-clause-found : goal.returns-clause-found
returns-clause-found c =
    let text = c.begin_line.new.self.text.now in
    let same = c.begin_line.ensures.text in
    let blanks = c.blanks_end.ensures in
    λ h some.
    let h' = subst (λ t. is_text t ≡ true) (sym same) h in
    let there = c.feed_at.ensures.here (no_return text c.blanks_end.result h') in
    subst (λ t. IsLineBegin t c.args.place c.feed_at.result) same (record {
      whole = sym (c.parts_documents.ensures h') ∙ c.if-parts_documents.false;
      blanks = λ k from to. blanks.blanks k from (omega (arith, to, there));
      dark = ap (λ k. is_blank (at text k)) there ∙ blanks.over;
    })
