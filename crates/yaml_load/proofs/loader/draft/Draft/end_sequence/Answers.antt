-- The end of a sequence is gone over.
use Rattle.yaml_load.proofs.Words.{[], append-nil, refl, sym, sequence_end, drafted}
use Rattle.yaml_load.proofs.LoadingLaws.{takes}
use Rattle.yaml_load.proofs.loader.draft.Draft.end_sequence.Goals as goal

pub returns : goal.returns
returns c = (
  c.in-Some.ensures.moves,
  takes sequence_end c.args.mark c.args.self.now _ _ c.place-place.result refl c.place-place.ensures refl refl
      (rw c.in_ok-reserve.ensures.items at c.push_reserved.ensures.items) (sym (append-nil _))
      (λ seen named at. ([], (refl, refl), sym (append-nil _)))
      (λ front seen h at. c.in_ok-end.ensures.numbers front seen (drafted sequence_end) h at refl refl),
)
