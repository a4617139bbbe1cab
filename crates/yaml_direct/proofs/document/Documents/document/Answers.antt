-- A document more.
use Rattle.std.proofs.Common.{arith, length, refl, sym, ◌<◌, ◌∙◌}
use Rattle.yaml_direct.specs.Standing.{earlier_of}
use Rattle.yaml_direct.proofs.DocumentLeaves.{document_left}
use Rattle.yaml_direct.proofs.DocumentReads.{bare_none, directed_takes, document_read, none_bare, takes_directed}
use Rattle.yaml_direct.proofs.document.Documents.document.Goals as goal

pub returns-then-self-clause-stands : goal.returns-then-self-clause-stands
returns-then-self-clause-stands c = λ ds h away content is.
    let old = c.args.self.now in
    let d = c.document-self.ensures in
    let inside : old.next < length old.reader.text.now = omega (arith, h.counted.within, away) in
    document_read old _ ds h d.reached.0 refl refl inside content
    (d.found old.reader.text.now (earlier_of old.begun old.ended) (record { same = refl; allowed = h.allowed }) h.unnamed
    h.counted inside content (bare_none old.begun old.ended)
    (directed_takes old.begun old.ended) c.if-self.true)

pub returns-clause-left : goal.returns-clause-left
returns-clause-left c = λ ds h away content is.
    let old = c.args.self.now in
    let inside : old.next < length old.reader.text.now = omega (arith, h.counted.within, away) in
    document_left old ds h inside content
    (c.document-self.ensures.missed old.reader.text.now (earlier_of old.begun old.ended)
    (record { same = refl; allowed = h.allowed }) h.unnamed h.counted inside content h.token
    (none_bare old.begun old.ended) (takes_directed old.begun old.ended h.free) c.if-self.false
    (sym c.take_back.ensures.starved ∙ c.if-self-2.false))
