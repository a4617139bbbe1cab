-- A byte more, and an octet.
use Rattle.std.proofs.Common.{refl}
use Rattle.yaml_direct.proofs.TagLaws.{unescaped_byte, unescaped_none, unescaped_octet}
use Rattle.yaml_direct.proofs.tag.push_unescaped.Goals as goal

pub bytes-init : goal.bytes-init
bytes-init c = unescaped_none c.args.written.now c.args.out.now.items c.args.out.now.items refl

pub bytes-preserved-then-written-place-ne37 : goal.bytes-preserved-then-written-place-ne37
bytes-preserved-then-written-place-ne37 c =
    unescaped_byte c.args.written.now c.bytes.place c.args.out.now.items c.bytes.out.items c.push.new.self.items _
    c.bytes-test.true refl c.if-written-place-ne37.true c.in_ok-push.ensures.items c.bytes.invariant

pub bytes-preserved : goal.bytes-preserved
bytes-preserved c =
    unescaped_octet c.args.written.now c.bytes.place c.args.out.now.items c.bytes.out.items
    c.push-else-written-place-ne37.new.self.items c.in-Some.octet c.bytes-test.true c.if-written-place-ne37.false
    c.in_ok-push-2.ensures.items c.in-Some.ensures.read c.bytes.invariant
