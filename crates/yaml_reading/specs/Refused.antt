-- Texts in which no documents stand.
use Rattle.std.specs.Prelude.{ℕ, List, [], ◌∷◌, ◌++◌, codes, replicate}
use Rattle.yaml_grammar.specs.Documents.{Stands}
use Rattle.yaml_grammar.specs.Nodes.{Document}

-- no documents stand in a text
abbrev pub NothingStands : List ℕ → Type 0
NothingStands text = (documents : List Document) → Stands text documents → ⊥

-- in none of these stands anything
pub record NothingStandsInThese : Type 0 where
  -- two values in a line
  pub two_values_in_a_line : NothingStands (codes "a: b: c\n")
  -- a key that goes on in a later line
  pub a_key_over_lines : NothingStands (codes "a\nb: c\n")
  -- a sequence behind a key's `:` in its line
  pub a_sequence_in_its_keys_line : NothingStands (codes "a: - b\n")
  -- a mapping in the line of `---`
  pub a_mapping_in_the_markers_line : NothingStands (codes "--- a: b\n")
  -- a mapping in the column of a sequence, behind it
  pub a_mapping_behind_a_sequence : NothingStands (codes "- a\nb: c\n")
  -- an entry in a column between two mappings
  pub an_entry_less_far_in : NothingStands (codes "a:\n  b: c\n d: e\n")
  -- an item in a column between two sequences
  pub an_item_less_far_in : NothingStands (codes "-  - a\n - b\n")
  -- a bracket that nothing closes
  pub an_open_bracket : NothingStands (codes "[a, b\n")
  -- a bracket that another closes
  pub another_bracket : NothingStands (codes "[a}\n")
  -- text behind a bracket
  pub text_behind_a_bracket : NothingStands (codes "[a] b\n")
  -- a quote that nothing closes
  pub an_open_quote : NothingStands (codes "\"a\n")
  -- an escape that is none
  pub an_unknown_escape : NothingStands (codes "\"\\q\"\n")
  -- text behind a quote
  pub text_behind_a_quote : NothingStands (codes "'a' b\n")
  -- a tab before a key
  pub a_tab_before_a_key : NothingStands (codes "a:\n\tb: c\n")
  -- two anchors
  pub two_anchors : NothingStands (codes "&a &b c\n")
  -- an anchor before an alias
  pub an_anchored_alias : NothingStands (codes "&a *b\n")
  -- an indicator that is kept for later
  pub a_reserved_indicator : NothingStands (codes "@a\n")
  -- two commas, between which nothing stands
  pub two_commas : NothingStands (codes "[a,, b]\n")
  -- a directive before no `---`
  pub a_directive_alone : NothingStands (codes "%YAML 1.1\na\n")
  -- a version that is none
  pub another_version : NothingStands (codes "%YAML 2.0\n--- a\n")
  -- a block whose first line with text begins with a tab
  pub a_tab_in_an_empty_block : NothingStands (codes "|\n\ta\n")
  -- two digits behind `|`
  pub a_header_of_two_digits : NothingStands (codes "|12\n a\n")
  -- `---` at the beginning of a line between quotes
  pub a_document_in_quotes : NothingStands (codes "\"a\n---\n\"\n")
  -- text behind `...` in its line
  pub text_behind_the_end : NothingStands (codes "... a\n")
  -- a directive that is unknown
  pub another_directive : NothingStands (codes "%FOO bar\n--- a\n")
  -- an entry without a key
  pub an_entry_without_a_key : NothingStands (codes ": b\n")
  -- a tag whose handle nothing names
  pub an_unknown_handle : NothingStands (codes "!a!b c\n")
  -- a document without `---` behind `...`
  pub a_bare_document_behind_the_end : NothingStands (codes "a\n...\nb\n")

-- so many collections in brackets, one in another
abbrev pub so_many_open : ℕ → List ℕ
so_many_open n = replicate n 91 ++ (replicate n 93 ++ 10 ∷ [])

-- nor does in these, which libyaml takes
pub record NothingStandsInTheseEither : Type 0 where
  -- a tab between tokens
  pub a_tab_between_tokens : NothingStands (codes "a:\tb\n")
  -- a tab in plain text
  pub a_tab_in_plain_text : NothingStands (codes "a\tb\n")
  -- a directive of tags
  pub a_tag_directive : NothingStands (codes "%TAG !e! tag:e,2000:\n--- a\n")
  -- `? ` in brackets
  pub a_marked_key_in_brackets : NothingStands (codes "{? a : b}\n")
  -- a comment right behind a quote
  pub a_comment_behind_a_quote : NothingStands (codes "'a'#b\n")
  -- a comment right behind a bracket
  pub a_comment_behind_a_bracket : NothingStands (codes "[a]#b\n")
  -- a comment right behind `|`
  pub a_comment_behind_a_header : NothingStands (codes "|#b\n a\n")
  -- `-` alone in brackets
  pub a_dash_in_brackets : NothingStands (codes "[-]\n")
  -- a pair in brackets whose key is a collection
  pub a_collection_as_a_pairs_key : NothingStands (codes "[[a]: b]\n")
  -- in brackets, names in a line before their node
  pub names_in_an_earlier_line : NothingStands (codes "[&a\n b]\n")
  -- a tag with `!` in its text
  pub a_tag_with_a_mark : NothingStands (codes "!!a!b c\n")
  -- 129 open collections
  pub too_many_open : NothingStands (so_many_open 129)
  -- a carriage return
  pub a_carriage_return : NothingStands (97 ∷ 13 ∷ 10 ∷ [])
  -- a next line
  pub a_next_line : NothingStands (97 ∷ 0xC2 ∷ 0x85 ∷ [])
  -- the mark of the order of bytes
  pub an_order_mark : NothingStands (0xEF ∷ 0xBB ∷ 0xBF ∷ 97 ∷ 10 ∷ [])
