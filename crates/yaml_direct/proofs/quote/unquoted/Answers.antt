-- A run, the byte behind it, and all.
use Rattle.std.proofs.Common.{arith}
use Rattle.yaml_direct.proofs.QuotePlaces.{closes_later}
use Rattle.yaml_direct.proofs.Unquoting.{all_read, other_read, run_read}
use Rattle.yaml_direct.proofs.quote.unquoted.Goals as goal

pub returns : goal.returns
returns c =
    λ closes. all_read c.args.text.now c.args.quote c.args.from c.args.end c.runs.place c.runs.value.items
    c.runs-test.false ((c.runs.invariant closes).0 c.if-place.false)

pub runs-preserved : goal.runs-preserved
runs-preserved c =
    λ closes.
    let end = c.run_end-stop.ensures in
    let r = run_read c.args.text.now c.args.quote c.args.from c.args.end c.runs.place c.run_end-stop.result
    c.runs.value.items c.extend_from_slice.new.self.items end.forward c.requires.1 end.run end.ends
    c.in_ok-extend_from_slice.ensures.items ((c.runs.invariant closes).0 (λ e. omega arith)) in
    (λ some. r.0, λ none. absurd (omega arith))

pub runs-preserved-then-place-end : goal.runs-preserved-then-place-end
runs-preserved-then-place-end c =
    λ closes.
    let end = c.run_end-stop.ensures in
    let r = run_read c.args.text.now c.args.quote c.args.from c.args.end c.runs.place c.run_end-stop.result
    c.runs.value.items c.extend_from_slice.new.self.items end.forward c.requires.1 end.run end.ends
    c.in_ok-extend_from_slice.ensures.items ((c.runs.invariant closes).0 (λ e. omega arith)) in
    let next = closes_later c.args.text.now c.args.quote c.run_end-stop.result c.args.end c.if-place-end.true r.1 in
    other_read c.args.text.now c.args.quote c.args.from c.args.end c.run_end-stop.result c.in_ok-place.place
    c.extend_from_slice.new.self.items c.read_other.new.out.items r.0 next (c.in_ok-place.ensures.read next.other)
    (c.in_ok-place.ensures.run next.other)
