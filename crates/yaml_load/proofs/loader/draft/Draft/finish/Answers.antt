-- The document is whole, or cut off in front of an unknown alias.
use Rattle.std.specs.Prelude.{◌≡◌, ◌-◌}
use Rattle.yaml_load.proofs.Words.{◌∙◌, arith, length, Cut, drafts_of}
use Rattle.yaml_load.proofs.DraftLaws.{drafts_long, whole_long}
use Rattle.yaml_load.proofs.FinishLaws.{closed_cut, closed_whole}
use Rattle.yaml_load.proofs.loader.draft.Draft.finish.Goals.{in-Some, in-None}
use Rattle.yaml_load.proofs.loader.draft.Draft.finish.Goals as goal

pub returns : goal.returns
returns c = λ events numbers seen h cuts.
    let old = c.args.self.now in
    let size : c.len.result - old.from ≡ length (drafts_of seen) =
    omega (arith, old.events.ok, c.len.ensures, whole_long h, drafts_long h) in
    let numbered = c.finish.ensures.numbers numbers (drafts_of seen) h.ends size in
    let fault = c.in_ok-error.ensures ∙ c.ending.ensures in
    let to : c.len-2.result ≡ length c.match-settle.self.events.items =
    omega (arith, c.match-settle.self.events.ok, c.len-2.ensures) in
    let pushed = c.in_ok-push.ensures.items in
    let cut : Cut = record { from = c.match-settle.self.from; to = c.len-2.result; error = c.in_ok-error.error } in
    elim c.match-settle.branch [
      | in-Some w ↦
          let kept = w.in-Some.ensures in
          let off = w.cut_off.ensures in
          closed_cut h _ cut c.args.fault c.settle.new.self.events.items w.in-Some.place w.cut_off.result _ cuts
          kept.settled kept.front kept.place (rw kept.from at off.mark) (rw (w.self-is, off.events, kept.from)) numbered
          (rw (w.self-is, off.numbers, kept.from, kept.ends)) (
            rw (w.self-is, off.unended),
            c.clear.ensures.named,
            c.clear.ensures.aliases,
            rw (pushed, w.self-is, off.cuts, kept.cuts),
            rw (w.self-is, off.from, kept.from),
            to,
          ) (rw w.unknown-is at fault)
      | in-None w ↦
          let kept = w.in-None.ensures in
          closed_whole h _ cut c.args.fault cuts (rw w.self-is kept.settled) (rw w.self-is kept.front)
          (rw (w.self-is, kept.ends) numbered) (
            rw (w.self-is, kept.ends) c.finish.ensures.unended,
            c.clear.ensures.named,
            c.clear.ensures.aliases,
            rw (pushed, w.self-is, kept.cuts),
            rw (w.self-is, kept.from),
            to,
          ) (rw w.unknown-is at fault)
    ]
