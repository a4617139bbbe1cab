-- The stream has begun, and its documents were read so far.
use Rattle.std.proofs.Common.{◌≡◌, true}
use Rattle.yaml_direct.specs.Documents.{IsBegun, told_by}
use Rattle.yaml_direct.proofs.DocumentReads.{AllRead}
use Rattle.yaml_direct.proofs.whole.parse.Given as goal
use Rattle.yaml_grammar.specs.Bytes.{is_text}

abbrev pub invariant-documents : goal.invariant-documents
invariant-documents l = record {
  begun : IsBegun (told_by l.documents);
  text : l.documents.reader.text.now ≡ l.text;
  read : is_text l.text ≡ true → AllRead l.text l.counter l.documents;
}
