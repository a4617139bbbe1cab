-- The rules by which texts with names, with several documents and with odd ends stand.
use lib.Utf8.{encode}
use Rattle.std.proofs.Common.{refl}
use Rattle.std.specs.Str.{chars, is_utf8}
use Rattle.yaml_grammar.specs.Blocks.{a_block, a_collection, a_leaf, a_mapping, a_sequence, an_entry, an_item}
use Rattle.yaml_grammar.specs.Blocks.{collection_key, in_a_later_line, in_its_line, in_its_own_column, in_line}
use Rattle.yaml_grammar.specs.Blocks.{key_alone, leaf_key, named_mapping, named_sequence, names_alone, no_entry}
use Rattle.yaml_grammar.specs.Blocks.{no_item, nothing, with_marks}
use Rattle.yaml_grammar.specs.Brackets.{a_flow_entry, a_flow_item, a_flow_value, a_single, curly, flow_leaf}
use Rattle.yaml_grammar.specs.Brackets.{key_and_value, no_flow_entry, no_flow_item, square, whole_entry}
use Rattle.yaml_grammar.specs.Documents.{bare_document, end_marker, marked_document, no_document, no_root}
use Rattle.yaml_grammar.specs.Documents.{root_in_a_later_line, root_in_its_line}
use Rattle.yaml_grammar.specs.Examples as text
use Rattle.yaml_grammar.specs.Shown.{HasEvents}

pub names_and_keys : HasEvents text.names_and_keys text.names_and_keys_events
unfolding is_utf8 chars encode
names_and_keys =
    record {
      documents = _;
      stand = record {
        characters = refl;
        from_first_token =
            bare_document {j = 131} refl
            (named_mapping refl refl refl
            (an_entry {k = 37} refl
            (with_marks {k = 21} refl (in_its_line refl (a_leaf refl refl refl refl refl)) refl
            (in_its_line refl
            (a_collection refl refl
            (curly refl
            (a_flow_entry {j = 35} {k = 35}
            (whole_entry
            (key_and_value {k = 32} (flow_leaf refl refl refl refl) refl
            (a_flow_value (flow_leaf refl refl refl refl)))) refl (no_flow_entry refl))) refl)))
            (an_entry {k = 77} refl
            (with_marks {k = 49} refl
            (in_its_line refl
            (a_sequence refl refl
            (an_item {k = 45} refl (in_its_line refl (a_leaf refl refl refl refl refl))
            (an_item {k = 49} refl (in_its_line refl (a_leaf refl refl refl refl refl))
            (no_item refl refl))))) refl
            (in_its_line refl
            (a_sequence refl refl
            (an_item {k = 58} refl (in_its_line refl (a_leaf refl refl refl refl refl))
            (an_item {k = 68} refl (in_its_line refl (a_leaf refl refl refl refl refl))
            (an_item {k = 77} refl (in_its_line refl (names_alone refl refl refl refl refl))
            (no_item refl refl)))))))
            (an_entry {k = 85} refl
            (key_alone refl (in_its_line refl (a_leaf refl refl refl refl refl)) refl)
            (an_entry {k = 110} refl
            (in_line {k = 88} (leaf_key refl refl refl refl refl)
            (in_its_line refl
            (named_sequence refl refl refl refl
            (an_item {k = 110} refl (in_its_line refl (a_leaf refl refl refl refl refl))
            (no_item refl refl)))))
            (an_entry {k = 116} refl
            (in_line {k = 111} (leaf_key refl refl refl refl refl)
            (in_its_line refl (names_alone refl refl refl refl refl)))
            (an_entry {k = 124} refl
            (in_line {k = 119} (leaf_key refl refl refl refl refl)
            (in_its_line refl (names_alone refl refl refl refl refl)))
            (an_entry {k = 131} refl
            (in_line {k = 127}
            (collection_key refl refl
            (square refl
            (a_flow_item {j = 126} {k = 126} (a_single (flow_leaf refl refl refl refl)) refl
            (no_flow_item refl))) refl)
            (in_its_line refl (a_leaf refl refl refl refl refl))) (no_entry refl refl))))))))) refl
            (no_document refl);
      };
      said = refl;
    }

pub documents : HasEvents text.documents text.documents_events
unfolding is_utf8 chars encode
documents =
    record {
      documents = _;
      stand = record {
        characters = refl;
        from_first_token =
            marked_document {m = 10} {j = 16} refl
            (root_in_a_later_line refl refl (a_leaf refl refl refl refl refl)) refl
            (end_marker refl refl refl
            (marked_document {m = 30} {j = 42} refl (no_root refl refl) refl
            (marked_document {m = 42} {j = 50} refl
            (root_in_a_later_line refl refl
            (a_sequence refl refl
            (an_item {k = 50} refl (in_its_line refl (a_leaf refl refl refl refl refl))
            (no_item refl refl)))) refl
            (marked_document {m = 50} {j = 59} refl (root_in_its_line refl (a_block refl refl refl)) refl
            (marked_document {m = 59} {j = 67} refl
            (root_in_its_line refl (a_leaf refl refl refl refl refl)) refl
            (end_marker refl refl refl (no_document refl)))))));
      };
      said = refl;
    }

pub odd_ends : HasEvents text.odd_ends text.odd_ends_events
unfolding is_utf8 chars encode
odd_ends =
    record {
      documents = _;
      stand = record {
        characters = refl;
        from_first_token =
            bare_document {j = 66} refl
            (a_sequence refl refl
            (an_item {k = 21} refl
            (in_its_line refl
            (a_sequence refl refl
            (an_item {k = 10} refl
            (in_its_line refl
            (a_sequence refl refl
            (an_item {k = 10} refl (in_its_line refl (a_leaf refl refl refl refl refl))
            (no_item refl refl))))
            (an_item {k = 21} refl
            (in_a_later_line refl refl
            (a_sequence refl refl
            (an_item {k = 21} refl
            (in_its_line refl
            (a_mapping refl refl
            (an_entry {k = 21} refl
            (in_line {k = 19} (leaf_key refl refl refl refl refl) (nothing refl refl refl))
            (no_entry refl refl)))) (no_item refl refl)))) (no_item refl refl)))))
            (an_item {k = 44} refl
            (in_its_line refl
            (a_mapping refl refl
            (an_entry {k = 44} refl
            (with_marks {k = 29} refl (in_its_line refl (a_leaf refl refl refl refl refl)) refl
            (in_its_line refl
            (a_mapping refl refl
            (an_entry {k = 38} refl
            (in_line {k = 32} (leaf_key refl refl refl refl refl) (nothing refl refl refl))
            (an_entry {k = 44} refl
            (in_line {k = 39} (leaf_key refl refl refl refl refl)
            (in_its_line refl (a_leaf refl refl refl refl refl)))
            (no_entry refl refl)))))) (no_entry refl refl))))
            (an_item {k = 53} refl
            (in_its_line refl
            (a_mapping refl refl
            (an_entry {k = 53} refl
            (in_line {k = 48} (leaf_key refl refl refl refl refl)
            (in_its_line refl (a_leaf refl refl refl refl refl))) (no_entry refl refl))))
            (an_item {k = 66} refl
            (in_its_line refl
            (a_mapping refl refl
            (an_entry {k = 66} refl
            (in_line {k = 56} (leaf_key refl refl refl refl refl)
            (in_its_own_column refl refl
            (an_item {k = 66} refl
            (in_its_line refl
            (a_mapping refl refl
            (an_entry {k = 66} refl (key_alone refl (nothing refl refl refl) refl)
            (no_entry refl refl)))) (no_item refl refl)))) (no_entry refl refl))))
            (no_item refl refl)))))) refl (no_document refl);
      };
      said = refl;
    }
