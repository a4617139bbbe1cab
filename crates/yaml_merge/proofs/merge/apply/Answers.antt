-- What is written stays, once it is seen to have no merge key.
use Rattle.std.proofs.Common.{subst, sym}
use Rattle.std.proofs.lemmas.Result.{IfOk-weaker}
use Rattle.yaml_merge.specs.Remade.{IsRemade}
use Rattle.yaml_merge.proofs.merge.apply.Goals as goal

pub returns-in-Some-clause-made : goal.returns-in-Some-clause-made
returns-in-Some-clause-made c =
    IfOk-weaker c.refuse.result _ _ (λ treated is place first root of.
    subst (IsRemade root) (sym is.0) (c.in_ok-merge_all-in-Some.ensures.made root of)) c.refuse.ensures.treated
