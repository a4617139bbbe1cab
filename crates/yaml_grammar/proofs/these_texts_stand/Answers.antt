-- By the rules of each text.
use Rattle.yaml_grammar.proofs.TextsOfEnds.{documents, names_and_keys, odd_ends}
use Rattle.yaml_grammar.proofs.TextsOfFiles.{compose_file, list_of_objects, workflow_file}
use Rattle.yaml_grammar.proofs.TextsOfKinds.{brackets, kinds_of_scalars, lists_and_tables, marked_text, readme_text}
use Rattle.yaml_grammar.proofs.these_texts_stand.Goals as goal

pub returns : goal.returns
returns c = record {
  readme = readme_text;
  lists = lists_and_tables;
  scalars = kinds_of_scalars;
  in_brackets = brackets;
  names = names_and_keys;
  several = documents;
  compose = compose_file;
  workflow = workflow_file;
  objects = list_of_objects;
  ends = odd_ends;
  marks = marked_text;
}
