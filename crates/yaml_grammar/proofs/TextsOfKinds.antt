-- The rules by which texts of some kinds stand.
use lib.Utf8.{encode}
use Rattle.std.proofs.Common.{refl}
use Rattle.std.specs.Str.{chars, is_utf8}
use Rattle.yaml_grammar.specs.Blocks.{a_block, a_collection, a_leaf, a_mapping, a_sequence, an_entry, an_item}
use Rattle.yaml_grammar.specs.Blocks.{in_a_later_line, in_its_line, in_its_own_column, in_line, leaf_key, no_entry}
use Rattle.yaml_grammar.specs.Blocks.{no_item}
use Rattle.yaml_grammar.specs.Brackets.{a_flow_entry, a_flow_item, a_flow_value, a_pair, a_single, curly}
use Rattle.yaml_grammar.specs.Brackets.{flow_collection, flow_key_alone, flow_leaf, key_and_value, no_flow_entry}
use Rattle.yaml_grammar.specs.Brackets.{no_flow_item, no_flow_value, square, whole_entry}
use Rattle.yaml_grammar.specs.Documents.{bare_document, no_document}
use Rattle.yaml_grammar.specs.Examples as text
use Rattle.yaml_grammar.specs.Shown.{HasEvents, HasMarks}

pub readme_text : HasEvents text.readme_text text.readme_text_events
unfolding is_utf8 chars encode
readme_text =
    record {
      documents = _;
      stand = record {
        characters = refl;
        from_first_token =
            bare_document {j = 38} refl
            (a_mapping refl refl
            (an_entry {k = 13} refl
            (in_line {k = 4} (leaf_key refl refl refl refl refl)
            (in_its_line refl (a_leaf refl refl refl refl refl)))
            (an_entry {k = 24} refl
            (in_line {k = 17} (leaf_key refl refl refl refl refl)
            (in_its_line refl (a_leaf refl refl refl refl refl)))
            (an_entry {k = 38} refl
            (in_line {k = 28} (leaf_key refl refl refl refl refl)
            (in_its_line refl
            (a_collection refl refl
            (square refl
            (a_flow_item {j = 33} {k = 35} (a_single (flow_leaf refl refl refl refl)) refl
            (a_flow_item {j = 36} {k = 36} (a_single (flow_leaf refl refl refl refl)) refl
            (no_flow_item refl)))) refl))) (no_entry refl refl))))) refl (no_document refl);
      };
      said = refl;
    }

pub lists_and_tables : HasEvents text.lists_and_tables text.lists_and_tables_events
unfolding is_utf8 chars encode
lists_and_tables =
    record {
      documents = _;
      stand = record {
        characters = refl;
        from_first_token =
            bare_document {j = 118} refl
            (a_mapping refl refl
            (an_entry {k = 58} refl
            (in_line {k = 20} (leaf_key refl refl refl refl refl)
            (in_a_later_line refl refl
            (a_sequence refl refl
            (an_item {k = 51} refl (in_its_line refl (a_leaf refl refl refl refl refl))
            (an_item {k = 58} refl (in_its_line refl (a_leaf refl refl refl refl refl))
            (no_item refl refl))))))
            (an_entry {k = 118} refl
            (in_line {k = 63} (leaf_key refl refl refl refl refl)
            (in_its_own_column refl refl
            (an_item {k = 94} refl
            (in_its_line refl
            (a_mapping refl refl
            (an_entry {k = 82} refl
            (in_line {k = 71} (leaf_key refl refl refl refl refl)
            (in_its_line refl (a_leaf refl refl refl refl refl)))
            (an_entry {k = 94} refl
            (in_line {k = 88} (leaf_key refl refl refl refl refl)
            (in_its_line refl (a_leaf refl refl refl refl refl)))
            (no_entry refl refl)))))
            (an_item {k = 118} refl
            (in_a_later_line refl refl
            (a_mapping refl refl
            (an_entry {k = 118} refl
            (in_line {k = 102} (leaf_key refl refl refl refl refl)
            (in_its_line refl (a_leaf refl refl refl refl refl)))
            (no_entry refl refl)))) (no_item refl refl))))) (no_entry refl refl)))) refl
            (no_document refl);
      };
      said = refl;
    }

pub kinds_of_scalars : HasEvents text.kinds_of_scalars text.kinds_of_scalars_events
unfolding is_utf8 chars encode
kinds_of_scalars =
    record {
      documents = _;
      stand = record {
        characters = refl;
        from_first_token =
            bare_document {j = 189} refl
            (a_mapping refl refl
            (an_entry {k = 45} refl
            (in_line {k = 5} (leaf_key refl refl refl refl refl)
            (in_its_line refl (a_leaf refl refl refl refl refl)))
            (an_entry {k = 70} refl
            (in_line {k = 51} (leaf_key refl refl refl refl refl)
            (in_its_line refl (a_leaf refl refl refl refl refl)))
            (an_entry {k = 99} refl
            (in_line {k = 76} (leaf_key refl refl refl refl refl)
            (in_its_line refl (a_leaf refl refl refl refl refl)))
            (an_entry {k = 126} refl
            (in_line {k = 106} (leaf_key refl refl refl refl refl)
            (in_its_line refl (a_block refl refl refl)))
            (an_entry {k = 173} refl
            (in_line {k = 132} (leaf_key refl refl refl refl refl)
            (in_its_line refl (a_block refl refl refl)))
            (an_entry {k = 189} refl
            (in_line {k = 177} (leaf_key refl refl refl refl refl)
            (in_its_line refl (a_block refl refl refl))) (no_entry refl refl)))))))) refl
            (no_document refl);
      };
      said = refl;
    }

pub brackets : HasEvents text.brackets text.brackets_events
unfolding is_utf8 chars encode
brackets =
    record {
      documents = _;
      stand = record {
        characters = refl;
        from_first_token =
            bare_document {j = 85} refl
            (a_collection refl refl
            (curly refl
            (a_flow_entry {j = 18} {k = 20}
            (whole_entry
            (key_and_value {k = 2} (flow_leaf refl refl refl refl) refl
            (a_flow_value
            (flow_collection refl refl
            (square refl
            (a_flow_item {j = 6} {k = 8} (a_single (flow_leaf refl refl refl refl)) refl
            (a_flow_item {j = 9} {k = 16} (a_single (flow_leaf refl refl refl refl)) refl
            (a_flow_item {j = 17} {k = 17} (a_single (flow_leaf refl refl refl refl)) refl
            (no_flow_item refl))))))))) refl
            (a_flow_entry {j = 25} {k = 27}
            (whole_entry
            (key_and_value {k = 23} (flow_leaf refl refl refl refl) refl
            (a_flow_value (flow_leaf refl refl refl refl)))) refl
            (a_flow_entry {j = 28} {k = 30} (flow_key_alone (flow_leaf refl refl refl refl)) refl
            (a_flow_entry {j = 33} {k = 35}
            (whole_entry
            (key_and_value {k = 31} (flow_leaf refl refl refl refl) refl (no_flow_value refl))) refl
            (a_flow_entry {j = 42} {k = 45}
            (whole_entry
            (key_and_value {k = 38}
            (flow_collection refl refl
            (square refl
            (a_flow_item {j = 37} {k = 37} (a_single (flow_leaf refl refl refl refl)) refl
            (no_flow_item refl)))) refl
            (a_flow_value (flow_collection refl refl (curly refl (no_flow_entry refl)))))) refl
            (a_flow_entry {j = 61} {k = 68}
            (whole_entry
            (key_and_value {k = 46} (flow_leaf refl refl refl refl) refl
            (a_flow_value
            (flow_collection refl refl
            (square refl
            (a_flow_item {j = 53} {k = 55}
            (a_pair refl
            (key_and_value {k = 50} (flow_leaf refl refl refl refl) refl
            (a_flow_value (flow_leaf refl refl refl refl)))) refl
            (a_flow_item {j = 60} {k = 60}
            (a_pair refl
            (key_and_value {k = 58} (flow_leaf refl refl refl refl) refl (no_flow_value refl))) refl
            (no_flow_item refl)))))))) refl
            (a_flow_entry {j = 81} {k = 83}
            (whole_entry
            (key_and_value {k = 69} (flow_leaf refl refl refl refl) refl
            (a_flow_value (flow_leaf refl refl refl refl)))) refl
            (no_flow_entry refl))))))))) refl) refl (no_document refl);
      };
      said = refl;
    }

pub marked_text : HasMarks text.marked_text text.marks_of_text
unfolding is_utf8 chars encode
marked_text =
    record {
      documents = _;
      stand = record {
        characters = refl;
        from_first_token =
            bare_document {j = 18} refl
            (a_mapping refl refl
            (an_entry {k = 8} refl
            (in_line {k = 2} (leaf_key refl refl refl refl refl)
            (in_its_line refl
            (a_collection refl refl
            (square refl
            (a_flow_item {j = 6} {k = 6} (a_single (flow_leaf refl refl refl refl)) refl
            (no_flow_item refl))) refl)))
            (an_entry {k = 18} refl
            (in_line {k = 9} (leaf_key refl refl refl refl refl)
            (in_a_later_line refl refl
            (a_sequence refl refl
            (an_item {k = 18} refl (in_its_line refl (a_leaf refl refl refl refl refl))
            (no_item refl refl))))) (no_entry refl refl)))) refl (no_document refl);
      };
      there = refl;
    }
