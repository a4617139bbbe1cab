-- One byte more.
use Rattle.std.proofs.Common.{arith, inl, inr, length, ◌<◌}
use Rattle.std.proofs.lemmas.Bool.{and_from, cases_lt, le-leb, or_left, or_right}
use Rattle.yaml_direct.proofs.TextLaws.{ascii_is}
use Rattle.yaml_direct.proofs.text.has_allowed_ascii.Goals as goal
use Rattle.yaml_grammar.specs.Bytes.{at}

pub bytes-preserved : goal.bytes-preserved
bytes-preserved c = λ h.
    let text = c.args.text.now in
    let i = c.bytes.byte-index in
    let inside : i < length text = omega (arith, c.bytes-test.true, c.bytes.auto.byte-index-end) in
    and_from _ _ (c.bytes.invariant h) (elim (cases_lt (at text i) 128) [
      | inl low ↦ or_left _ _ (c.is_allowed_byte.ensures (ascii_is text i h inside low) low)
      | inr high ↦ or_right _ _ (le-leb 128 (at text i) high)
    ])
