-- A document more, and the end.
use Rattle.std.proofs.Common.{ap, arith, length, subst, sym, ◌∙◌}
use Rattle.yaml_direct.specs.Documents.{SaysDocuments}
use Rattle.yaml_direct.proofs.DocumentReads.{all_more, all_whole}
use Rattle.yaml_direct.proofs.Growing.{begun_document}
use Rattle.yaml_direct.proofs.whole.parse.Goals as goal

pub documents-preserved : goal.documents-preserved
documents-preserved c =
    let i = c.documents.invariant in
    let e = c.in_ok-advance.ensures in
    record {
      begun = begun_document _ _ i.begun (e.document c.in-Document.is);
      text = c.advance.ensures.text ∙ i.text;
      read = λ h.
          let a = i.read h in
          all_more c.args.text.now c.documents.counter c.documents.documents c.advance.new.self a
          (e.stands a.documents a.read c.in-Document.is);
    }

pub returns-in-End-clause-stands : goal.returns-in-End-clause-stands
returns-in-End-clause-stands c = λ h.
    let i = c.documents.invariant in
    let a = i.read h in
    subst (SaysDocuments c.args.text.now) (sym c.into_tape.ensures.events)
    (all_whole c.args.text.now c.documents.counter c.documents.documents c.advance.new.self a i.text
    (c.in_ok-advance.ensures.whole a.documents a.read c.in-End.is))

-- each turn reads a document, which has a byte at least: the text has no room for so many
pub returns-clause-left : goal.returns-clause-left
returns-clause-left c = λ h short ds stand.
    let i = c.documents.invariant in
    let a = i.read h in
    omega (
      arith,
      a.each,
      a.read.few,
      a.read.counted.within,
      ap length i.text,
      c.documents-test.false,
      c.documents.auto.counter-end,
    )
