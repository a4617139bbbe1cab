-- The ranges left, and the documents made so far.
use Rattle.std.specs.Prelude.{◌≡◌, ◌++◌}
use Rattle.yaml_load.proofs.Words.{All, length, into_iter_items, AreCuts, documents_in, IsDocument}
use Rattle.yaml_load.proofs.loader.share.share.Given as goal

abbrev pub invariant-cuts : goal.invariant-cuts
invariant-cuts l =
    let left = into_iter_items l.rest in
    record {
      cuts : AreCuts l.events.value.items l.ends.value.items left;
      kept : All IsDocument (documents_in l.events.value.items left);
      documents :
          l.documents.items ++ documents_in l.events.value.items left
          ≡ documents_in l.fn.draft.events.items l.fn.draft.cuts.items;
    }

abbrev pub decreases-cuts : goal.decreases-cuts
decreases-cuts l = length (into_iter_items l.rest)
