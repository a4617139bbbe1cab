-- Of texts in which nothing stands the reader reads nothing.
use lib.Utf8.{encode}
use Rattle.std.proofs.Common.{◌≡◌, ℕ, Bool, true, false, List, length, Option, None, refl, sym, ap, ◌∙◌}
use Rattle.std.specs.Prelude.{option_map}
use Rattle.std.specs.Str.{chars, is_utf8}
use Rattle.std.proofs.lemmas.Bool.{false≢true}
use Rattle.yaml_base.specs.PlainEvent.{stream_end}
use Rattle.yaml_grammar.specs.Bytes.{is_text}
use Rattle.yaml_grammar.specs.Documents.{Stands}
use Rattle.yaml_grammar.specs.Nodes.{Document, Marked, end_mark}
use Rattle.yaml_reading.specs.BlockReader.{begins_entry, behind_at, column_at, columns_at, content_at, entry_at, key_at}
use Rattle.yaml_reading.specs.BlockReader.{key_behind, node_at, node_behind}
use Rattle.yaml_reading.specs.BracketReader as flow
use Rattle.yaml_reading.specs.BracketReader.{brackets_at, flow_at, flow_behind, item_at, pair_at, parts_at, value_at}
use Rattle.yaml_reading.specs.DocumentReader.{documents_at, root_at, root_node, stream_step, text_events}
use Rattle.yaml_reading.specs.Readers.{and_event}
use Rattle.yaml_reading.specs.Refused.{NothingStands, NothingStandsInThese, NothingStandsInTheseEither}
use Rattle.yaml_reading.specs.Refused.{so_many_open}
use Rattle.yaml_reading.proofs.DocumentLaws.{nothing_read, text_stands}
use Rattle.yaml_reading.proofs.DocumentSteps.{text_is}

-- of which nothing is read, whatever characters are allowed
abbrev Unread : List ℕ → Type 0
Unread text = ◌≡◌ {A = Option (List Marked)} (stream_step text true) None

none_either : (text : List ℕ) (x : Bool) → Unread text → stream_step text x ≡ None
none_either text true h = h
none_either text false h = refl

nothing_stands : (text : List ℕ) → Unread text → NothingStands text
nothing_stands text h =
    nothing_read text
    (text_is text (is_text text) refl
    ∙ ap (option_map (λ es. and_event es (stream_end, end_mark text 0 (length text))))
    (none_either text (is_text text) h))

pub nothing_stands_in_these : NothingStandsInThese
unfolding documents_at root_at root_node node_at node_behind columns_at content_at begins_entry key_at key_behind
    behind_at column_at entry_at brackets_at flow_at flow_behind item_at pair_at parts_at value_at flow.entry_at
nothing_stands_in_these = record {
  two_values_in_a_line = nothing_stands _ refl;
  a_key_over_lines = nothing_stands _ refl;
  a_sequence_in_its_keys_line = nothing_stands _ refl;
  a_mapping_in_the_markers_line = nothing_stands _ refl;
  a_mapping_behind_a_sequence = nothing_stands _ refl;
  an_entry_less_far_in = nothing_stands _ refl;
  an_item_less_far_in = nothing_stands _ refl;
  an_open_bracket = nothing_stands _ refl;
  another_bracket = nothing_stands _ refl;
  text_behind_a_bracket = nothing_stands _ refl;
  an_open_quote = nothing_stands _ refl;
  an_unknown_escape = nothing_stands _ refl;
  text_behind_a_quote = nothing_stands _ refl;
  a_tab_before_a_key = nothing_stands _ refl;
  two_anchors = nothing_stands _ refl;
  an_anchored_alias = nothing_stands _ refl;
  a_reserved_indicator = nothing_stands _ refl;
  two_commas = nothing_stands _ refl;
  a_directive_alone = nothing_stands _ refl;
  another_version = nothing_stands _ refl;
  a_tab_in_an_empty_block = nothing_stands _ refl;
  a_header_of_two_digits = nothing_stands _ refl;
  a_document_in_quotes = nothing_stands _ refl;
  text_behind_the_end = nothing_stands _ refl;
  another_directive = nothing_stands _ refl;
  an_entry_without_a_key = nothing_stands _ refl;
  an_unknown_handle = nothing_stands _ refl;
  a_bare_document_behind_the_end = nothing_stands _ refl;
}

-- nor of those that have other characters
not_allowed : (text : List ℕ) → is_text text ≡ false → NothingStands text
not_allowed text h documents s = false≢true (sym h ∙ s.characters)

pub nothing_stands_in_these_either : NothingStandsInTheseEither
unfolding documents_at root_at root_node node_at node_behind columns_at content_at begins_entry key_at key_behind
    behind_at column_at entry_at brackets_at flow_at flow_behind item_at pair_at parts_at value_at flow.entry_at
    is_utf8 chars encode
nothing_stands_in_these_either = record {
  a_tab_between_tokens = nothing_stands _ refl;
  a_tab_in_plain_text = nothing_stands _ refl;
  a_tag_directive = nothing_stands _ refl;
  a_marked_key_in_brackets = nothing_stands _ refl;
  a_comment_behind_a_quote = nothing_stands _ refl;
  a_comment_behind_a_bracket = nothing_stands _ refl;
  a_comment_behind_a_header = nothing_stands _ refl;
  a_dash_in_brackets = nothing_stands _ refl;
  a_collection_as_a_pairs_key = nothing_stands _ refl;
  names_in_an_earlier_line = nothing_stands _ refl;
  a_tag_with_a_mark = nothing_stands _ refl;
  too_many_open = nothing_stands _ refl;
  a_carriage_return = not_allowed _ refl;
  a_next_line = not_allowed _ refl;
  an_order_mark = not_allowed _ refl;
}

pub most_open_stand : (documents : List Document) × Stands (so_many_open 128) documents
unfolding documents_at root_at root_node node_at node_behind columns_at content_at begins_entry key_at key_behind
    behind_at column_at entry_at brackets_at flow_at flow_behind item_at pair_at parts_at value_at flow.entry_at
    is_utf8 chars encode text_events
most_open_stand =
    let s = text_stands (so_many_open 128) _ refl in
    (s.0, s.1)
