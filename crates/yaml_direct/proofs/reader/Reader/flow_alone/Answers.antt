use Rattle.yaml_direct.proofs.BracketReads.{nothing_is, of_kept, unnamed_kept}
use Rattle.yaml_direct.proofs.BracketSteps.{is_entry, ne_entry, alone_entry, alone_none}
use Rattle.yaml_direct.proofs.reader.Reader.flow_alone.Goals as goal

pub returns-then-ne-clause-found : goal.returns-then-ne-clause-found
returns-then-ne-clause-found c = λ text of none some.
    (alone_none text c.args.slot c.args.self.now c.args.next (ne_entry c.args.slot c.ne.result c.ne.ensures c.if-ne.true), none)

pub returns-clause-found : goal.returns-clause-found
returns-clause-found c = λ text of none some.
    let old = c.args.self.now in
    let m = c.begin.new.self in
    let b = c.begin.ensures in
    let new = c.push_nothing.new.self in
    let a = c.push_nothing.ensures.added some in (
      alone_entry text c.args.slot old m new c.args.next (is_entry c.args.slot c.ne.result c.ne.ensures c.if-ne.false) b.still
          (nothing_is text m new c.args.next (of_kept text old m of b.text) b.early b.start
          (unnamed_kept old m b.names none) a),
      a.unnamed,
    )
