-- The start of a sequence is gone over.
use Rattle.yaml_load.proofs.Words.{[], ◌∙◌, append-nil, refl, sym, sequence_start, drafted}
use Rattle.yaml_load.proofs.LoadingLaws.{takes}
use Rattle.yaml_load.proofs.loader.draft.Draft.begin_sequence.Goals as goal

pub returns : goal.returns
returns c =
    let e = sequence_start c.args.start.anchor c.args.start.tag in (
      rw c.in-Some.is at (c.in_ok-after.ensures.sequence refl c.args.start.anchor c.args.start.tag),
      takes e c.args.mark c.args.self.now _ _ c.place-place.result refl c.place-place.ensures refl refl
          (rw c.in_ok-reserve.ensures.items at c.push_reserved.ensures.items) c.in_ok-name.ensures.named
          (λ seen named at. ([], (refl, refl), c.in_ok-name.ensures.aliases ∙ sym (append-nil _)))
          (λ front seen h at. c.in_ok-begin.ensures.numbers front seen (drafted e) h at refl),
    )

pub returns-in-None : goal.returns-in-None
returns-in-None c = (rw c.in-None.is at (c.in_ok-after.ensures.sequence refl c.args.start.anchor c.args.start.tag), tt)
