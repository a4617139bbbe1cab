-- Each pair is put in its turn.
use Rattle.std.proofs.Common.{rules}
use Rattle.yaml_types.specs.WriteRefusal.{PairUnwritten}
use Rattle.yaml_types.proofs.NodeLaws.{pair_put, pair_refused}
use Rattle.yaml_types.proofs.impls.map.put_entries.Goals as goal

pub loop-key-preserved : goal.loop-key-preserved
loop-key-preserved g c =
    pair_put c.args.schema.now c.args.ids g.K.Serialize.written g.V.Serialize.written g.K.Serialize.kept
    g.V.Serialize.kept c.args.entries.now.entries c.loop-key.key-iterator c.next.new.self
    (c.in-Some.key.now, c.in-Some.value.now) c.args.out.now c.loop-key.out
    c.put_pair.new.out c.in-Some.ensures.steps
    c.in_ok-put_pair.ensures.put c.in_ok-put_pair.ensures.kept c.in_ok-put_pair.ensures.held
    c.loop-key.invariant

pub returns-in_err-put_pair-clause-refused : goal.returns-in_err-put_pair-clause-refused
returns-in_err-put_pair-clause-refused g c =
    let told = pair_refused c.args.schema.now c.args.ids g.K.Serialize.written g.V.Serialize.written g.K.Serialize.kept
    g.V.Serialize.kept (PairUnwritten g.K.Serialize.unwritten g.V.Serialize.unwritten) c.args.entries.now.entries
    c.loop-key.key-iterator c.next.new.self (c.in-Some.key.now, c.in-Some.value.now) c.args.out.now c.loop-key.out
    c.in_err-put_pair.field-0.0 c.in-Some.ensures.steps c.in_err-put_pair.ensures.refused c.loop-key.invariant in
    search (rules, told)
