-- A scalar is gone over.
use Rattle.yaml_load.proofs.Words.{[], ◌∙◌, append-nil, refl, sym, scalar, scalar_of, drafted}
use Rattle.yaml_load.proofs.LoadingLaws.{takes}
use Rattle.yaml_load.proofs.loader.draft.Draft.scalar.Goals as goal

pub returns : goal.returns
returns c =
    let e = scalar (scalar_of c.args.scalar) in
    λ outer clean. (
      c.in-Some.ensures.scalar outer (scalar_of c.args.scalar) clean,
      takes e c.args.mark c.args.self.now _ _ c.place-place.result refl c.place-place.ensures refl refl
          (rw c.in_ok-reserve.ensures.items at c.push_reserved.ensures.items) c.in_ok-name.ensures.named
          (λ seen named at. ([], (refl, refl), c.in_ok-name.ensures.aliases ∙ sym (append-nil _)))
          (λ front seen h at. c.in_ok-pass.ensures.numbers front seen (drafted e) h at refl refl),
    )
