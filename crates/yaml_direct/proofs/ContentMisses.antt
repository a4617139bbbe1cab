-- What the reader of nodes by columns answers where the direct parser leaves the content of a node.
use Rattle.std.proofs.Common.{ℕ, suc, ◌+◌, ◌-◌, ◌<◌, ◌≤◌, ◌≡◌, ◌≢◌, ◌⊎◌, ◌==◌, ◌&&◌, ◌||◌, not, Bool, true, false, List, Some, None}
use Rattle.std.proofs.Common.{refl, sym, subst, ap, ◌∙◌, arith, inl, inr}
use Rattle.std.proofs.lemmas.Bool.{and_parts, cases_Bool, false≢true, ne_eqb, not-false, not-true, or_from, or_left, or_parts}
use Rattle.std.specs.Prelude.{Option, option_and_then, slice_range}
use Rattle.yaml_base.specs.declared.event.ScalarStyle.TheVariants as style
use Rattle.yaml_direct.specs.Added.{HasNoLeaf, LeavesBlock, begins_block}
use Rattle.yaml_direct.specs.Held.{names_of}
use Rattle.yaml_direct.specs.InBrackets.{quotes}
use Rattle.yaml_direct.specs.LeftByColumns.{EndsAmiss, EndsAtTab, IsContent, LeavesBlockNode, StandsIn, begins_other}
use Rattle.yaml_direct.specs.LeftByColumns.{in_later_line, in_line}
use Rattle.yaml_direct.specs.PlainTexts.{LeavesPlain, ends_plain}
use Rattle.yaml_direct.specs.declared.block.Room as code
use Rattle.yaml_direct.specs.declared.reader.Reader.{Reader}
use Rattle.yaml_direct.proofs.AddedLeaves.{no_plain, none_leaf, plain_read}
use Rattle.yaml_direct.proofs.KeyFails.{IsKeyPlace, missed_no_key}
use Rattle.yaml_direct.proofs.KeyMisses.{NoKey, ends_no_colon, key_none, leaf_no_key}
use Rattle.yaml_grammar.specs.BlockTexts.{block_at}
use Rattle.yaml_grammar.specs.Blocks.{Room, is_own, takes_columns}
use Rattle.yaml_grammar.specs.Bytes.{at, column, is_mark}
use Rattle.yaml_grammar.specs.Gaps.{breaks, ends_its_line, is_within, next}
use Rattle.yaml_grammar.specs.Leaves.{Leaf, in_style, leaf_at, leaf_node}
use Rattle.yaml_grammar.specs.Names.{Names, names_at, unnamed}
use Rattle.yaml_grammar.specs.Nodes.{Marked, Node}
use Rattle.yaml_grammar.specs.Plain.{as_key, begins_plain, by_columns, plain_at}
use Rattle.yaml_reading.specs.BlockReader.{begins_entry, columns_at, content_at, content_step, entries, here_step, in_room}
use Rattle.yaml_reading.specs.BlockReader.{line_step, with_line_end}
use Rattle.yaml_reading.specs.BracketReader.{brackets_at}
use Rattle.yaml_reading.specs.Readers.{Read, and_node, opens, with_leaf, with_node}
use Rattle.yaml_reading.proofs.BlockApart.{leaf_no_lines, lines_byte, lines_no_open}
use Rattle.yaml_reading.proofs.BlockSteps.{content_is, key_within, node_here, node_later, node_within}
use Rattle.yaml_reading.proofs.NodeAnswers.{content_read}
use Rattle.yaml_reading.proofs.Options.{map_some, no_some, pair_is}

-- what reads nothing
pub none_amiss : (text : List ℕ) (least : ℕ) (r : Read) → ◌≡◌ {A = Read} r None → EndsAmiss text least r
none_amiss text least r none xs j h = absurd (no_some (xs, j) (sym none ∙ h))

pub tab_amiss : (text : List ℕ) (least : ℕ) (r : Read) → EndsAtTab text r → EndsAmiss text least r
tab_amiss text least r tab xs j h = inl (tab xs j h)

pub same_amiss : (text : List ℕ) (least : ℕ) (r s : Read) → r ≡ s → EndsAmiss text least s → EndsAmiss text least r
same_amiss text least r s same left xs j h = left xs j (sym same ∙ h)

module _ (text : List ℕ) (d least : ℕ) (es : List Marked) (i : ℕ) (names : Names) (place : ℕ) where
  abbrev content : Read
  content = content_at text (brackets_at text d) least es i names place

  -- a leaf as content
  content_leaf : opens (at text place) ≡ false → lines_byte (at text place) ≡ false
      → content ≡ with_line_end text (with_leaf text es i names (leaf_at text (by_columns least) place))
  content_leaf shut lines = content_is text (brackets_at text d) least es i names place false false shut lines

  pub no_leaf_content : opens (at text place) ≡ false → lines_byte (at text place) ≡ false
      → HasNoLeaf text (by_columns least) names place → ◌≡◌ {A = Read} content None
  no_leaf_content shut lines none = content_leaf shut lines ∙ by_leaf (leaf_at text (by_columns least) place) refl
    where
      by_leaf : (o : Option (Leaf × ℕ)) → leaf_at text (by_columns least) place ≡ o
          → ◌≡◌ {A = Read} (with_line_end text (with_leaf text es i names o)) None
      by_leaf None h = refl
      by_leaf (Some x) h = ap (λ n. with_line_end text (with_node es x.1 n)) (none x.0 x.1 h i)

  -- one behind which a line does not end
  pub leaf_in_line_content : (x : Leaf) (e : ℕ) → opens (at text place) ≡ false → lines_byte (at text place) ≡ false
      → leaf_at text (by_columns least) place ≡ Some (x, e) → ends_its_line text e ≡ false
      → ◌≡◌ {A = Read} content None
  leaf_in_line_content x e shut lines leaf line =
      content_leaf shut lines ∙ ap (λ o. with_line_end text (with_leaf text es i names o)) leaf
      ∙ by_node (leaf_node text i names x e)
    where
      by_node : (o : Option Node) → ◌≡◌ {A = Read} (with_line_end text (with_node es e o)) None
      by_node None = refl
      by_node (Some n) = ap (line_step text (and_node es n) e) line

  -- plain text that does not end there
  pub plain_content : (x : Leaf) (e : ℕ) → opens (at text place) ≡ false → lines_byte (at text place) ≡ false
      → leaf_at text (by_columns least) place ≡ Some (x, e) → ends_plain text least e ≡ false
      → EndsAmiss text least content
  plain_content x e shut lines leaf left =
      same_amiss text least content (with_line_end text (with_node es e (leaf_node text i names x e)))
      (content_leaf shut lines ∙ ap (λ o. with_line_end text (with_leaf text es i names o)) leaf)
      (by_node (leaf_node text i names x e))
    where
      by_line : (n : Node) (b : Bool) → ends_its_line text e ≡ b
          → EndsAmiss text least (line_step text (and_node es n) e b)
      by_line n false line xs j h = absurd (no_some (xs, j) h)
      by_line n true line xs j h =
          let same = pair_is (and_node es n) xs (next text e) j h in
          let inner : is_within text least (next text e) ≡ true =
          not-false (is_within text least (next text e))
          (ap (λ b. b && not (is_within text least (next text e))) (sym line) ∙ left) in
          inr (subst (λ k. is_within text least k ≡ true) same.1 inner)

      by_node : (o : Option Node) → EndsAmiss text least (with_line_end text (with_node es e o))
      by_node None = none_amiss text least None refl
      by_node (Some n) = by_line n (ends_its_line text e) refl

  -- a block of lines
  pub block_content : opens (at text place) ≡ false → lines_byte (at text place) ≡ true → LeavesBlock text least place
      → EndsAtTab text content
  block_content shut lines left xs j h =
      let is = content_is text (brackets_at text d) least es i names place false true shut lines in
      let m = map_some (block_at text least place) _ (xs, j) (sym is ∙ h) in
      subst (λ k. at text k ≡ 9) (ap (λ (x : List Marked × ℕ). x.1) m.2) (left m.0.0 m.0.1 m.1)

  -- a collection in brackets
  brackets_content : (lines : Bool) → lines_byte (at text place) ≡ lines → opens (at text place) ≡ true
      → content ≡ with_line_end text (brackets_at text d names i es place)
  brackets_content lines e opened = content_is text (brackets_at text d) least es i names place true lines opened e

  pub no_brackets_content : opens (at text place) ≡ true
      → ◌≡◌ {A = Read} (brackets_at text d names i es place) None → ◌≡◌ {A = Read} content None
  no_brackets_content opened none =
      brackets_content (lines_byte (at text place)) refl opened ∙ ap (with_line_end text) none

  pub brackets_in_line_content : (xs : List Marked) (e : ℕ) → opens (at text place) ≡ true
      → brackets_at text d names i es place ≡ Some (xs, e) → ends_its_line text e ≡ false
      → ◌≡◌ {A = Read} content None
  brackets_in_line_content xs e opened read line =
      brackets_content (lines_byte (at text place)) refl opened ∙ ap (with_line_end text) read
      ∙ ap (line_step text xs e) line

  -- the node is its content
  pub content_node : (end : ℕ) (room : Room) → names_at text false i ≡ Some (names, end) → next text end ≡ place
      → StandsIn text d least i end place → ◌≡◌ {A = Read} (key_within text d es i) None
      → node_within text d least room es i ≡ content
  content_node end room h there (in_line line dash mark) key =
      content_read text d least room es i end names h line dash mark key
      ∙ ap (λ q. content_at text (brackets_at text d) least es i names q) there
  content_node end room h there (in_later_line line inner dash entry) key =
      node_later text (columns_at text d) (brackets_at text d) least room es i names end true false true false h line
      (ap (λ q. is_within text least q || is_own text room least q) there
      ∙ or_left (is_within text least place) (is_own text room least place) inner)
      (ap (is_mark text 45) there ∙ dash) (ap (is_within text least) there ∙ inner)
      (ap (begins_entry text (brackets_at text d)) there ∙ entry)
      ∙ ap (λ q. content_at text (brackets_at text d) least es i names q) there

  -- in a room that takes no collection by columns, it may be a key
  pub value_node : (end : ℕ) (room : Room) → names_at text false i ≡ Some (names, end) → next text end ≡ place
      → StandsIn text d least i end place → (ends_its_line text end ≡ false → takes_columns room ≡ false)
      → ◌≡◌ {A = Read} content None → ◌≡◌ {A = Read} (node_within text d least room es i) None
  value_node end room h there (in_line line dash mark) takes none =
      node_here text (columns_at text d) (brackets_at text d) least room es i names end false
      (begins_entry text (brackets_at text d) i) h line dash refl
      ∙ by_entry (begins_entry text (brackets_at text d) i)
    where
      by_entry : (b : Bool) → ◌≡◌ {A = Read} (here_step text (columns_at text d) (brackets_at text d) least room es i names
          end false b) None
      by_entry true = ap (λ b. in_room b (columns_at text d entries unnamed i (column text i) es i)) (takes line)
      by_entry false = ap (λ q. content_at text (brackets_at text d) least es i names q) there ∙ none
  value_node end room h there (in_later_line line inner dash entry) takes none =
      node_later text (columns_at text d) (brackets_at text d) least room es i names end true false true false h line
      (ap (λ q. is_within text least q || is_own text room least q) there
      ∙ or_left (is_within text least place) (is_own text room least place) inner)
      (ap (is_mark text 45) there ∙ dash) (ap (is_within text least) there ∙ inner)
      (ap (begins_entry text (brackets_at text d)) there ∙ entry)
      ∙ ap (λ q. content_at text (brackets_at text d) least es i names q) there ∙ none

-- what is left of a node is left of its content where it is no key
pub left_content : (text : List ℕ) (d least : ℕ) (room : code.Room) (where' : Room) (r : Reader) (place : ℕ)
    → IsContent text d least room where' r place → NoKey text d r.start.index
    → ((es : List Marked) → EndsAmiss text least
    (content_at text (brackets_at text d) least es r.start.index (names_of r) place))
    → LeavesBlockNode text d least where' r.start.index
left_content text d least room where' r place x none left es =
    let i = r.start.index in
    same_amiss text least (node_within text d least where' es i)
    (content_at text (brackets_at text d) least es i (names_of r) place)
    (content_node text d least es i (names_of r) place x.end where' x.names x.there x.stands (key_none text d i none es))
    (left es)

pub key_place : (text : List ℕ) (d least : ℕ) (room : code.Room) (where' : Room) (r : Reader) (place : ℕ)
    → IsContent text d least room where' r place → IsKeyPlace text r place
key_place text d least room where' r place x =
    record { end = x.end; names = x.names; there = x.there; alone = x.alone }

-- the byte of what may be plain text
pub record IsOther (c : ℕ) : Type 0 where
  pub shut : opens c ≡ false
  pub lines : lines_byte c ≡ false
  pub star : c ≢ 42
  pub single : c ≢ 39
  pub double : c ≢ 34

pub other_byte : (c : ℕ) → begins_other c ≡ true → IsOther c
other_byte c h =
    let all = or_parts (opens c) _ (not-true (opens c || (quotes c || begins_block c)) h) in
    let rest = or_parts (quotes c) (begins_block c) all.1 in
    record {
      shut = all.0;
      lines = rest.1;
      star = λ e. false≢true (sym rest.0 ∙ ap quotes e);
      single = λ e. false≢true (sym rest.0 ∙ ap quotes e);
      double = λ e. false≢true (sym rest.0 ∙ ap quotes e);
    }

-- nothing that is plain text
pub no_plain_left : (text : List ℕ) (d least : ℕ) (room : code.Room) (where' : Room) (r : Reader) (place : ℕ)
    → IsContent text d least room where' r place → begins_other (at text place) ≡ true
    → begins_plain text false place ≡ false → LeavesBlockNode text d least where' r.start.index
no_plain_left text d least room where' r place x byte none =
    let o = other_byte (at text place) byte in
    left_content text d least room where' r place x
    (missed_no_key text d r place (key_place text d least room where' r place x)
    (none_leaf text as_key (names_of r) place (no_plain text as_key place o.star o.single o.double none)) o.shut)
    (λ es. none_amiss text least (content_at text (brackets_at text d) least es r.start.index (names_of r) place)
    (no_leaf_content text d least es r.start.index (names_of r) place o.shut o.lines
    (none_leaf text (by_columns least) (names_of r) place
    (no_plain text (by_columns least) place o.star o.single o.double none))))

-- plain text that does not end as it has to
pub plain_left : (text : List ℕ) (d least e : ℕ) (room : code.Room) (where' : Room) (r : Reader) (place : ℕ)
    → IsContent text d least room where' r place → begins_other (at text place) ≡ true → r.start.index ≤ place
    → place ≤ e → plain_at text as_key place ≡ Some (e - place, slice_range text place e)
    → (not (breaks text e) && is_mark text 58 (next text e)) ≡ false
    → LeavesPlain text least place → LeavesBlockNode text d least where' r.start.index
plain_left text d least e room where' r place x byte begun low key colon left =
    let o = other_byte (at text place) byte in
    let i = r.start.index in
    left_content text d least room where' r place x
    (leaf_no_key text d i x.end e (names_of r) (in_style style.Plain (slice_range text place e)) x.names
    (ap (leaf_at text as_key) x.there ∙ plain_read text as_key place e (slice_range text place e) low key)
    (ends_no_colon text i e (omega (arith, begun, low)) colon))
    (λ es. plain_content text d least es i (names_of r) place (in_style style.Plain left.said) left.end o.shut o.lines
    (plain_read text (by_columns least) place left.end left.said left.low left.read) left.left)

-- no block of lines, or one that ends before a tab
pub block_left : (text : List ℕ) (d least : ℕ) (room : code.Room) (where' : Room) (r : Reader) (place : ℕ)
    → IsContent text d least room where' r place → begins_block (at text place) ≡ true → LeavesBlock text least place
    → LeavesBlockNode text d least where' r.start.index
block_left text d least room where' r place x byte left =
    let shut = lines_no_open text (at text place) byte in
    left_content text d least room where' r place x
    (missed_no_key text d r place (key_place text d least room where' r place x)
    (λ leaf e h. absurd (false≢true (sym (leaf_no_lines text as_key place (leaf, e) h) ∙ byte))) shut)
    (λ es. tab_amiss text least (content_at text (brackets_at text d) least es r.start.index (names_of r) place)
    (block_content text d least es r.start.index (names_of r) place shut byte left))

pub other_by : (c : ℕ) → (c ≡ 124 → ⊥) → (c ≡ 62 → ⊥) → (c ≡ 91 → ⊥) → (c ≡ 123 → ⊥) → (c ≡ 34 → ⊥)
    → (c ≡ 39 → ⊥) → (c ≡ 42 → ⊥) → begins_other c ≡ true
other_by c bar more square curly double single star =
    ap not (or_from (opens c) (quotes c || begins_block c)
    (or_from (c == 91) (c == 123) (ne_eqb c 91 square) (ne_eqb c 123 curly))
    (or_from (quotes c) (begins_block c)
    (or_from (c == 34) (c == 39 || c == 42) (ne_eqb c 34 double)
    (or_from (c == 39) (c == 42) (ne_eqb c 39 single) (ne_eqb c 42 star)))
    (or_from (c == 124) (c == 62) (ne_eqb c 124 bar) (ne_eqb c 62 more))))
