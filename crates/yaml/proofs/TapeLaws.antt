-- A tape of one document is what its text was parsed to.
use Rattle.std.proofs.Common.{◌≡◌, ◌∷◌, [], None, Option, subst, sym}
use Rattle.yaml_base.specs.DocTree.{DocNode}
use Rattle.yaml_base.specs.PlainFault.{PlainFault}
use Rattle.yaml_checked.specs.OfText.{SaysText}
use Rattle.yaml_checked.specs.StandsInText.{StandsInText}
use Rattle.yaml_documents.proofs.ParsedDocuments.{one_document_parsed}
use Rattle.yaml_documents.specs.OnlyDocument.{HasOneDocument, IsOnlyDocument}
use Rattle.yaml_documents.specs.TextDocuments.{IsParsed}
use Rattle.yaml_read.specs.Documents.{Input, documents_of}
use Rattle.yaml_scan.specs.AllowedText.{IsAllowed}
use Rattle.yaml_tape.specs.declared.tape.Tape.{Tape}
use Rattle.yaml.specs.OneDocument.{IsOneDocument}

has_one : (root : DocNode) (input : Input) (fault : Option PlainFault) → HasOneDocument root input fault
    → IsOneDocument input fault
has_one root input fault (none, (document, (alone, tree))) = record {
  document = document;
  alone = subst (λ f. documents_of input f ≡ document ∷ []) (sym none) alone;
  whole = tree.whole;
}

pub one_of_tape : (t : Tape) → IsAllowed t.text.now → SaysText t → (root : DocNode) × IsOnlyDocument t root
    → StandsInText t → IsParsed t.text.now IsOneDocument
one_of_tape t allowed says (root, only) stands =
    let p = one_document_parsed t root stands says allowed only in
    record {
      events = p.events;
      fault = p.fault;
      parsed = p.parsed;
      holds = has_one root _ p.fault p.holds;
    }
