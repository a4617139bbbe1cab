-- An alias is gone over.
use Rattle.yaml_load.proofs.Words.{◌∙◌, append-nil, refl, sym, alias, drafted}
use Rattle.yaml_load.proofs.LoadingLaws.{takes}
use Rattle.yaml_load.proofs.loader.draft.Draft.alias.Goals as goal

pub returns : goal.returns
returns c =
    let e = alias c.args.anchor in
    λ outer clean. (
      c.in-Some.ensures.alias outer c.args.anchor clean,
      takes e c.args.mark c.args.self.now _ _ c.place-place.result refl c.place-place.ensures refl refl
          (rw c.in_ok-reserve.ensures.items at c.push_reserved.ensures.items)
          (c.in_ok-target.ensures.named ∙ sym (append-nil _)) c.in_ok-target.ensures.taken
          (λ front seen h at. c.in_ok-pass.ensures.numbers front seen (drafted e) h at refl refl),
    )
