-- The text of a scalar is its bytes, where they are one.
use Rattle.std.proofs.Common.{◌∙◌, ap, sym}
use Rattle.std.specs.Option.{option_copied}
use Rattle.yaml_base.specs.DocEventView.{doc_scalar_of}
use Rattle.yaml_c.proofs.SortLaws.{core_sorted, plain_sorted}
use Rattle.yaml_c.proofs.scalar.sort_of.Goals as goal

pub returns-then-is_core-clause-value : goal.returns-then-is_core-clause-value
returns-then-is_core-clause-value c =
    core_sorted c.args.tag_kind (doc_scalar_of c.args.scalar.now) c.in-Some.text.now _
    (sym (ap option_copied c.in-Some.is) ∙ c.text_of.ensures) (sym c.is_core.ensures ∙ c.if-is_core.true)
    c.core_sort.ensures.value

pub returns-then-is_plain-clause-value : goal.returns-then-is_plain-clause-value
returns-then-is_plain-clause-value c =
    plain_sorted c.args.tag_kind (doc_scalar_of c.args.scalar.now) c.in-Some.text.now _
    (sym (ap option_copied c.in-Some.is) ∙ c.text_of.ensures) (sym c.is_core.ensures ∙ c.if-is_core.false)
    (sym c.is_plain.ensures ∙ c.if-is_plain.true) c.plain_sort.ensures.value
