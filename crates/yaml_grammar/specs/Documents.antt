-- Which documents stand in a text.
use Rattle.std.specs.Prelude.{ℕ, ◌+◌, ◌≡◌, Bool, true, false, ◌==◌, ◌&&◌, ◌||◌, if◌then◌else◌, List, [], ◌∷◌}
use Rattle.std.specs.Prelude.{Option, Some, None, codes, drop, length, nat_eq, nat_le}
use Rattle.std.specs.List.{starts_with}
use Rattle.yaml_grammar.specs.Blocks.{BlockNode, anything, value}
use Rattle.yaml_grammar.specs.Bytes.{at, column, is_over, is_text, is_triple}
use Rattle.yaml_grammar.specs.Gaps.{ends_its_line, next}
use Rattle.yaml_grammar.specs.Names.{count_while, unnamed}
use Rattle.yaml_grammar.specs.Nodes.{Document, Node, end_mark, mark, no_content}

-- how many collections may be open at once
abbrev pub most_nestings : ℕ
most_nestings = 128

-- what came before: nothing, a document that nothing ended, or `...`
pub data Earlier : Type 0 where
  none a_document an_end : Earlier

-- a document came before
abbrev pub has_document : Earlier → Bool
has_document none = false
has_document a_document = true
has_document an_end = true

-- a directive may stand here
abbrev pub takes_directive : Earlier → Bool
takes_directive none = true
takes_directive a_document = false
takes_directive an_end = true

-- `---` begins the line here
abbrev pub begins_document : List ℕ → ℕ → Bool
begins_document text i = column text i == 0 && is_triple 45 (drop i text)

-- `...` begins the line here
abbrev pub ends_document : List ℕ → ℕ → Bool
ends_document text i = column text i == 0 && is_triple 46 (drop i text)

-- the place behind a directive that stands here, `%YAML 1.1` or `%YAML 1.2`
abbrev pub directive_end : List ℕ → ℕ → Option ℕ
directive_end text i =
    let number = i + 6 + count_while (nat_eq 32) (drop (i + 6) text) in
    if column text i == 0 && (starts_with nat_eq (drop i text) (codes "%YAML ") && (at text number == 49
    && (at text (number + 1) == 46 && (at text (number + 2) == 49 || at text (number + 2) == 50))))
    then Some (number + 3) else None

-- the place of the `---` in the line behind a directive
abbrev pub behind_directive : List ℕ → Option ℕ → Option ℕ
behind_directive text None = None
behind_directive text (Some end) =
    if ends_its_line text end && begins_document text (next text end) then Some (next text end) else None

-- the place of the `---` of a document that begins here, behind a directive or not
abbrev pub marker_at : List ℕ → Earlier → ℕ → Option ℕ
marker_at text earlier i =
    if begins_document text i then Some i
    else if takes_directive earlier then behind_directive text (directive_end text i) else None

module _ (text : List ℕ) where
  -- what stands behind `---`: a node in its line, a node in a later line, or nothing
  pub data Root : (i j : ℕ) → Node → Type 0 where
    root_in_its_line : {i j : ℕ} {n : Node} → ends_its_line text i ≡ false
        → BlockNode text most_nestings 0 value (next text i) j n → Root i j n
    root_in_a_later_line : {i j : ℕ} {n : Node} → ends_its_line text i ≡ true → is_over text (next text i) ≡ false
        → BlockNode text most_nestings 0 anything (next text i) j n → Root i j n
    no_root : {i : ℕ} → ends_its_line text i ≡ true → is_over text (next text i) ≡ true
        → Root i (next text i) (no_content (end_mark text 0 (next text i)) unnamed [])

  -- the documents from a token on: the first may have no `---`, and `...` may stand behind each
  pub data Documents : Earlier → (i : ℕ) → List Document → Type 0 where
    no_document : {earlier : Earlier} {i : ℕ} → nat_le (length text) i ≡ true → Documents earlier i []
    end_marker : {earlier : Earlier} {i : ℕ} {ds : List Document} → has_document earlier ≡ true
        → ends_document text i ≡ true → ends_its_line text (i + 3) ≡ true → Documents an_end (next text (i + 3)) ds
        → Documents earlier i ds
    bare_document : {i j : ℕ} {n : Node} {ds : List Document} → is_over text i ≡ false
        → BlockNode text most_nestings 0 anything i j n → is_over text j ≡ true → Documents a_document j ds
        → Documents none i (record { start = mark text i; root = n; end = end_mark text 0 j } ∷ ds)
    marked_document : {earlier : Earlier} {i m j : ℕ} {n : Node} {ds : List Document}
        → marker_at text earlier i ≡ Some m → Root (m + 3) j n → is_over text j ≡ true → Documents a_document j ds
        → Documents earlier i (record { start = mark text i; root = n; end = end_mark text 0 j } ∷ ds)

-- these documents stand in the text
pub record Stands (text : List ℕ) (documents : List Document) : Type 0 where
  pub characters : is_text text ≡ true
  pub from_first_token : Documents text none (next text 0) documents
