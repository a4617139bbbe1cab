-- One after another.
use Rattle.std.proofs.Common.{arith, refl, subst, true, List, ◌≡◌, ◌≢◌, ◌∙◌}
use Rattle.yaml_direct.specs.Documents.{HasRead}
use Rattle.yaml_direct.specs.Places.{no_place}
use Rattle.yaml_direct.specs.declared.document.Documents.{Documents}
use Rattle.yaml_direct.proofs.DocumentMisses.{read_some}
use Rattle.yaml_direct.proofs.ReaderLaws.{short_text}
use Rattle.yaml_direct.proofs.StandSteps.{triple_here}
use Rattle.yaml_direct.proofs.document.Documents.skip_ends.Goals as goal
use Rattle.yaml_grammar.specs.Documents.{ends_document}
use Rattle.yaml_grammar.specs.Nodes.{Document}
use Rattle.yaml_reading.specs.Refused.{NothingStands}

abbrev HasNext : Documents → Type 0
HasNext d = d.next ≢ no_place

pub ends-init : goal.ends-init
ends-init c = record {
  text = refl;
  tape = refl;
  read = λ ds h _. h;
  left = λ ds h none. absurd (read_some c.args.self.now ds h none);
}

pub ends-preserved : goal.ends-preserved
ends-preserved c =
    let i = c.ends.invariant in
    let d = c.ends.self in
    let e = c.ends_document.ensures in
    let some : HasNext d = λ z. omega (arith, z, short_text d.reader, c.if-ends_document.ensures.within refl) in
    let here : (ds : List Document) → HasRead d ds → ends_document d.reader.text.now d.next ≡ true = λ ds r.
    triple_here d.reader.text.now 46 d.reader d.next c.ends_document.result refl r.counted c.ends-test.true
    (λ _. c.if-ends_document.ensures.within refl) (e.same r.allowed) c.if-ends_document.true in
    record {
      text = c.skip_end.ensures.text ∙ i.text;
      tape = c.skip_end.ensures.tape ∙ i.tape;
      read = λ ds h on.
          let r = i.read ds h some in
          c.skip_end.ensures.read ds r (here ds r) on;
      left = λ ds h none.
          let r = i.read ds h some in
          subst NothingStands i.text (c.skip_end.ensures.left ds r (here ds r) none);
    }
