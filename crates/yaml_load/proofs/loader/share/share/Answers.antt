-- The range that comes next lies within the events, and its document is put behind those so far.
use Rattle.std.specs.Prelude.{◌∷◌}
use Rattle.yaml_load.proofs.Words.{All, append_assoc, subst, arith, into_iter_items, All-tail, AreCuts, HasEnds}
use Rattle.yaml_load.proofs.Words.{document_in, documents_in, IsDocument, Cut}
use Rattle.yaml_load.proofs.loader.share.share.Goals as goal

pub new-requires-in-Some : goal.new-requires-in-Some
new-requires-in-Some c =
    let events = c.in_ok-events.events.value.items in
    let ends = c.in_ok-ends.ends.value.items in
    let cut = c.in-Some.cut in
    let cuts : AreCuts events ends (cut ∷ into_iter_items c.next.new.self) =
    rw c.in-Some.ensures.items at c.cuts.invariant.cuts in
    let kept : All IsDocument (documents_in events (cut ∷ into_iter_items c.next.new.self)) =
    rw c.in-Some.ensures.items at c.cuts.invariant.kept in
    let here : HasEnds events ends cut.from cut.to = cuts 0 cut (omega arith) in
    let document = kept 0 (document_in events cut) (omega arith) in
    record {
      ends = rw (c.in_ok-clone.ensures.cases, c.in_ok-clone-2.ensures.cases) here;
      document = rw c.in_ok-clone.ensures.cases document;
    }

pub cuts-preserved : goal.cuts-preserved
cuts-preserved c =
    let events = c.in_ok-events.events.value.items in
    let ends = c.in_ok-ends.ends.value.items in
    let cut = c.in-Some.cut in
    let cuts = subst (AreCuts events ends) c.in-Some.ensures.items c.cuts.invariant.cuts in
    record {
      cuts = All-tail (λ (x : Cut). HasEnds events ends x.from x.to) cut (into_iter_items c.next.new.self) cuts;
      kept = All-tail IsDocument (document_in events cut) (documents_in events (into_iter_items c.next.new.self))
          (subst (λ cuts. All IsDocument (documents_in events cuts)) c.in-Some.ensures.items c.cuts.invariant.kept);
      documents =
          rw (c.in_ok-push.ensures.items, append_assoc, c.new-in-Some.ensures, c.in_ok-clone.ensures.cases)
          (rw c.in-Some.ensures.items at c.cuts.invariant.documents);
    }
