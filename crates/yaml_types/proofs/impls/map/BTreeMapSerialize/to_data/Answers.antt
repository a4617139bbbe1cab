-- Each pair is written in its turn.
use Rattle.std.proofs.Common.{◌∙◌, inl, inr, rules}
use Rattle.yaml_types.specs.WriteRefusal.{IsWriteRefusal, PairUnwritten, SomeUnwritten}
use Rattle.yaml_types.proofs.WriteLaws.{listed_more, entry_of-made}
use Rattle.yaml_types.proofs.WriteRefusals.{refused_by, next_unwritten}
use Rattle.yaml_types.proofs.impls.map.BTreeMapSerialize.to_data.Goals as goal

pub loop-key-preserved : goal.loop-key-preserved
loop-key-preserved g c =
    listed_more g.K.Serialize.written g.V.Serialize.written g.K.Serialize.kept g.V.Serialize.kept
    c.args.self.now.entries c.loop-key.key-iterator c.next.new.self c.loop-key.entries.items c.push.new.self.items
    c.in-Some.key.now c.in-Some.value.now _ c.in-Some.ensures.steps c.in_ok-push.ensures.items
    (entry_of-made c.in_ok-key.key c.in-Ok.value ∙ (λ t. (c.in_ok-key.ensures.ok t, c.in-Ok.ensures.ok t)))
    c.in_ok-key.ensures.kept c.in-Ok.ensures.kept c.loop-key.invariant

pub returns-in_err-key-clause-refused : goal.returns-in_err-key-clause-refused
returns-in_err-key-clause-refused g c =
    let Pairs = PairUnwritten g.K.Serialize.unwritten g.V.Serialize.unwritten in
    let told : IsWriteRefusal (SomeUnwritten Pairs c.args.self.now.entries) c.in_err-key.field-0.0 =
    refused_by (g.K.Serialize.unwritten c.in-Some.key.now) (SomeUnwritten Pairs c.args.self.now.entries)
    c.in_err-key.field-0.0
    (λ message by. next_unwritten Pairs c.args.self.now.entries c.loop-key.invariant.front c.loop-key.key-iterator
    c.next.new.self (c.in-Some.key.now, c.in-Some.value.now) message c.loop-key.invariant.row c.in-Some.ensures.steps
    (inl by))
    c.in_err-key.ensures.refused in
    search (rules, told)

pub returns-in-Err-clause-refused : goal.returns-in-Err-clause-refused
returns-in-Err-clause-refused g c =
    let Pairs = PairUnwritten g.K.Serialize.unwritten g.V.Serialize.unwritten in
    refused_by (g.V.Serialize.unwritten c.in-Some.value.now) (SomeUnwritten Pairs c.args.self.now.entries)
    c.in-Err.fault
    (λ message by. next_unwritten Pairs c.args.self.now.entries c.loop-key.invariant.front c.loop-key.key-iterator
    c.next.new.self (c.in-Some.key.now, c.in-Some.value.now) message c.loop-key.invariant.row c.in-Some.ensures.steps
    (inr by))
    c.in-Err.ensures.refused
