-- What stays of a source stays on and on.
use Rattle.std.proofs.Common.{◌∙◌, None, Option, Some, refl}
use Rattle.std.specs.Prelude.{IfNone}
use Rattle.yaml_documents.specs.inner.Sources.{PlainSource, Stays}

pub still : (s : PlainSource) → Stays s s
still s = record { text = refl; by_tape = refl; back = λ _. refl }

pub stays_on : {old mid new : PlainSource} → Stays old mid → Stays mid new → Stays old new
stays_on first then = record {
  text = then.text ∙ first.text;
  by_tape = then.by_tape ∙ first.by_tape;
  back = λ tape. then.back (first.by_tape ∙ tape) ∙ first.back tape;
}

-- what holds where there is none, together
pub none_both : {A : Type 0} (found : Option A) (P Q R : Type 0) → IfNone found P → IfNone found Q
    → IfNone found (R → P × Q)
none_both None P Q R p q = λ _. (p, q)
none_both (Some x) P Q R p q = tt
