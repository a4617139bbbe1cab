-- The rules by which texts as in files stand.
use lib.Utf8.{encode}
use Rattle.std.proofs.Common.{refl}
use Rattle.std.specs.Str.{chars, is_utf8}
use Rattle.yaml_grammar.specs.Blocks.{a_block, a_collection, a_leaf, a_mapping, a_sequence, an_entry, an_item}
use Rattle.yaml_grammar.specs.Blocks.{in_a_later_line, in_its_line, in_its_own_column, in_line, leaf_key}
use Rattle.yaml_grammar.specs.Blocks.{named_mapping, no_entry, no_item, nothing}
use Rattle.yaml_grammar.specs.Brackets.{a_flow_entry, a_flow_item, a_flow_value, a_single, curly, flow_leaf}
use Rattle.yaml_grammar.specs.Brackets.{key_and_value, no_flow_entry, no_flow_item, square, whole_entry}
use Rattle.yaml_grammar.specs.Documents.{bare_document, no_document}
use Rattle.yaml_grammar.specs.Examples as text
use Rattle.yaml_grammar.specs.Shown.{HasEvents}

pub compose_file : HasEvents text.compose_file text.compose_file_events
unfolding is_utf8 chars encode
compose_file =
    record {
      documents = _;
      stand = record {
        characters = refl;
        from_first_token =
            bare_document {j = 271} refl
            (a_mapping refl refl
            (an_entry {k = 254} refl
            (in_line {k = 8} (leaf_key refl refl refl refl refl)
            (in_a_later_line refl refl
            (a_mapping refl refl
            (an_entry {k = 179} refl
            (in_line {k = 15} (leaf_key refl refl refl refl refl)
            (in_a_later_line refl refl
            (a_mapping refl refl
            (an_entry {k = 45} refl
            (in_line {k = 26} (leaf_key refl refl refl refl refl)
            (in_its_line refl (a_leaf refl refl refl refl refl)))
            (an_entry {k = 68} refl
            (in_line {k = 50} (leaf_key refl refl refl refl refl)
            (in_its_line refl
            (a_collection refl refl
            (square refl
            (a_flow_item {j = 62} {k = 62} (a_single (flow_leaf refl refl refl refl)) refl
            (no_flow_item refl))) refl)))
            (an_entry {k = 134} refl
            (in_line {k = 79} (leaf_key refl refl refl refl refl)
            (in_a_later_line refl refl
            (a_sequence refl refl
            (an_item {k = 105} refl (in_its_line refl (a_leaf refl refl refl refl refl))
            (an_item {k = 134} refl (in_its_line refl (a_leaf refl refl refl refl refl))
            (no_item refl refl))))))
            (an_entry {k = 179} refl
            (in_line {k = 144} (leaf_key refl refl refl refl refl)
            (in_a_later_line refl refl
            (a_mapping refl refl
            (an_entry {k = 179} refl
            (in_line {k = 154} (leaf_key refl refl refl refl refl)
            (in_its_line refl
            (a_collection refl refl
            (curly refl
            (a_flow_entry {j = 175} {k = 175}
            (whole_entry
            (key_and_value {k = 166} (flow_leaf refl refl refl refl) refl
            (a_flow_value (flow_leaf refl refl refl refl)))) refl
            (no_flow_entry refl))) refl))) (no_entry refl refl)))))
            (no_entry refl refl))))))))
            (an_entry {k = 254} refl
            (in_line {k = 181} (leaf_key refl refl refl refl refl)
            (in_a_later_line refl refl
            (a_mapping refl refl
            (an_entry {k = 207} refl
            (in_line {k = 192} (leaf_key refl refl refl refl refl)
            (in_its_line refl (a_leaf refl refl refl refl refl)))
            (an_entry {k = 254} refl
            (in_line {k = 214} (leaf_key refl refl refl refl refl)
            (in_its_line refl (a_block refl refl refl))) (no_entry refl refl))))))
            (no_entry refl refl))))))
            (an_entry {k = 271} refl
            (in_line {k = 261} (leaf_key refl refl refl refl refl)
            (in_a_later_line refl refl
            (a_mapping refl refl
            (an_entry {k = 271} refl
            (in_line {k = 269} (leaf_key refl refl refl refl refl) (nothing refl refl refl))
            (no_entry refl refl))))) (no_entry refl refl)))) refl (no_document refl);
      };
      said = refl;
    }

pub workflow_file : HasEvents text.workflow_file text.workflow_file_events
unfolding is_utf8 chars encode
workflow_file =
    record {
      documents = _;
      stand = record {
        characters = refl;
        from_first_token =
            bare_document {j = 344} refl
            (a_mapping refl refl
            (an_entry {k = 12} refl
            (in_line {k = 4} (leaf_key refl refl refl refl refl)
            (in_its_line refl (a_leaf refl refl refl refl refl)))
            (an_entry {k = 53} refl
            (in_line {k = 14} (leaf_key refl refl refl refl refl)
            (in_a_later_line refl refl
            (a_mapping refl refl
            (an_entry {k = 53} refl
            (in_line {k = 22} (leaf_key refl refl refl refl refl)
            (in_a_later_line refl refl
            (a_mapping refl refl
            (an_entry {k = 53} refl
            (in_line {k = 36} (leaf_key refl refl refl refl refl)
            (in_its_line refl
            (a_collection refl refl
            (square refl
            (a_flow_item {j = 44} {k = 46} (a_single (flow_leaf refl refl refl refl)) refl
            (a_flow_item {j = 50} {k = 51} (a_single (flow_leaf refl refl refl refl)) refl
            (no_flow_item refl)))) refl))) (no_entry refl refl)))))
            (no_entry refl refl)))))
            (an_entry {k = 344} refl
            (in_line {k = 57} (leaf_key refl refl refl refl refl)
            (in_a_later_line refl refl
            (a_mapping refl refl
            (an_entry {k = 344} refl
            (in_line {k = 65} (leaf_key refl refl refl refl refl)
            (in_a_later_line refl refl
            (a_mapping refl refl
            (an_entry {k = 101} refl
            (in_line {k = 78} (leaf_key refl refl refl refl refl)
            (in_its_line refl (a_leaf refl refl refl refl refl)))
            (an_entry {k = 154} refl
            (in_line {k = 109} (leaf_key refl refl refl refl refl)
            (in_a_later_line refl refl
            (a_mapping refl refl
            (an_entry {k = 154} refl
            (in_line {k = 123} (leaf_key refl refl refl refl refl)
            (in_a_later_line refl refl
            (a_mapping refl refl
            (an_entry {k = 154} refl
            (in_line {k = 135} (leaf_key refl refl refl refl refl)
            (in_its_line refl
            (a_collection refl refl
            (square refl
            (a_flow_item {j = 143} {k = 145}
            (a_single (flow_leaf refl refl refl refl)) refl
            (a_flow_item {j = 148} {k = 148}
            (a_single (flow_leaf refl refl refl refl)) refl
            (no_flow_item refl)))) refl)))
            (no_entry refl refl))))) (no_entry refl refl)))))
            (an_entry {k = 344} refl
            (in_line {k = 159} (leaf_key refl refl refl refl refl)
            (in_a_later_line refl refl
            (a_sequence refl refl
            (an_item {k = 199} refl
            (in_its_line refl
            (a_mapping refl refl
            (an_entry {k = 199} refl
            (in_line {k = 173} (leaf_key refl refl refl refl refl)
            (in_its_line refl (a_leaf refl refl refl refl refl)))
            (no_entry refl refl))))
            (an_item {k = 344} refl
            (in_its_line refl
            (a_mapping refl refl
            (an_entry {k = 219} refl
            (in_line {k = 205} (leaf_key refl refl refl refl refl)
            (in_its_line refl (a_leaf refl refl refl refl refl)))
            (an_entry {k = 330} refl
            (in_line {k = 222} (leaf_key refl refl refl refl refl)
            (in_its_line refl (a_block refl refl refl)))
            (an_entry {k = 344} refl
            (in_line {k = 333} (leaf_key refl refl refl refl refl)
            (in_its_line refl
            (a_collection refl refl
            (curly refl
            (a_flow_entry {j = 341} {k = 342}
            (whole_entry
            (key_and_value {k = 338} (flow_leaf refl refl refl refl) refl
            (a_flow_value (flow_leaf refl refl refl refl)))) refl
            (no_flow_entry refl))) refl)))
            (no_entry refl refl)))))) (no_item refl refl))))))
            (no_entry refl refl))))))) (no_entry refl refl))))) (no_entry refl refl))))) refl
            (no_document refl);
      };
      said = refl;
    }

pub list_of_objects : HasEvents text.list_of_objects text.list_of_objects_events
unfolding is_utf8 chars encode
list_of_objects =
    record {
      documents = _;
      stand = record {
        characters = refl;
        from_first_token =
            bare_document {j = 248} refl
            (a_mapping refl refl
            (an_entry {k = 15} refl
            (in_line {k = 10} (leaf_key refl refl refl refl refl)
            (in_its_line refl (a_leaf refl refl refl refl refl)))
            (an_entry {k = 26} refl
            (in_line {k = 19} (leaf_key refl refl refl refl refl)
            (in_its_line refl (a_leaf refl refl refl refl refl)))
            (an_entry {k = 248} refl
            (in_line {k = 31} (leaf_key refl refl refl refl refl)
            (in_its_own_column refl refl
            (an_item {k = 190} refl
            (in_its_line refl
            (a_mapping refl refl
            (an_entry {k = 52} refl
            (in_line {k = 45} (leaf_key refl refl refl refl refl)
            (in_its_line refl (a_leaf refl refl refl refl refl)))
            (an_entry {k = 68} refl
            (in_line {k = 56} (leaf_key refl refl refl refl refl)
            (in_its_line refl (a_leaf refl refl refl refl refl)))
            (an_entry {k = 124} refl
            (in_line {k = 76} (leaf_key refl refl refl refl refl)
            (in_a_later_line refl refl
            (a_mapping refl refl
            (an_entry {k = 96} refl
            (in_line {k = 86} (leaf_key refl refl refl refl refl)
            (in_its_line refl (a_leaf refl refl refl refl refl)))
            (an_entry {k = 124} refl
            (in_line {k = 102} (leaf_key refl refl refl refl refl)
            (in_its_line refl
            (named_mapping refl refl refl
            (an_entry {k = 124} refl
            (in_line {k = 116} (leaf_key refl refl refl refl refl)
            (in_its_line refl (a_leaf refl refl refl refl refl)))
            (no_entry refl refl))))) (no_entry refl refl))))))
            (an_entry {k = 190} refl
            (in_line {k = 128} (leaf_key refl refl refl refl refl)
            (in_a_later_line refl refl
            (a_mapping refl refl
            (an_entry {k = 151} refl
            (in_line {k = 142} (leaf_key refl refl refl refl refl)
            (in_its_line refl (a_leaf refl refl refl refl refl)))
            (an_entry {k = 190} refl
            (in_line {k = 156} (leaf_key refl refl refl refl refl)
            (in_its_own_column refl refl
            (an_item {k = 190} refl
            (in_its_line refl
            (a_mapping refl refl
            (an_entry {k = 179} refl
            (in_line {k = 168} (leaf_key refl refl refl refl refl)
            (in_its_line refl (a_leaf refl refl refl refl refl)))
            (an_entry {k = 190} refl
            (in_line {k = 183} (leaf_key refl refl refl refl refl)
            (in_its_line refl (a_leaf refl refl refl refl refl)))
            (no_entry refl refl))))) (no_item refl refl))))
            (no_entry refl refl)))))) (no_entry refl refl)))))))
            (an_item {k = 248} refl
            (in_its_line refl
            (a_mapping refl refl
            (an_entry {k = 210} refl
            (in_line {k = 196} (leaf_key refl refl refl refl refl)
            (in_its_line refl (a_leaf refl refl refl refl refl)))
            (an_entry {k = 248} refl
            (in_line {k = 214} (leaf_key refl refl refl refl refl)
            (in_a_later_line refl refl
            (a_mapping refl refl
            (an_entry {k = 248} refl
            (in_line {k = 224} (leaf_key refl refl refl refl refl)
            (in_its_line refl (a_block refl refl refl)))
            (no_entry refl refl))))) (no_entry refl refl))))) (no_item refl refl)))))
            (no_entry refl refl))))) refl (no_document refl);
      };
      said = refl;
    }
