-- What ends before what no parent takes where a node with names is left.
use Rattle.std.proofs.Common.{ℕ, ◌<◌, ◌≤◌, ◌≡◌, ◌≢◌, ◌⊎◌, ◌==◌, ◌&&◌, ◌||◌, not, Bool, true, false, List, Some, None}
use Rattle.std.proofs.Common.{refl, sym, subst, ap, ◌∙◌, arith, inl, inr, length}
use Rattle.std.proofs.lemmas.Bool.{and_left, and_right, false≢true, false_from_ne_true, ne_eqb, or_left}
use Rattle.std.specs.Prelude.{nat_lt}
use Rattle.yaml_direct.specs.ByColumns.{IsBelowNames, room_of}
use Rattle.yaml_direct.specs.Held.{names_of}
use Rattle.yaml_direct.specs.InBrackets.{IsOf, opens}
use Rattle.yaml_direct.specs.LeftByColumns.{EndsAmiss, EndsAtTab, HasNoContent, IsContent, IsKeyed, LeavesBlockNode}
use Rattle.yaml_direct.specs.LeftByColumns.{LeavesColumns, in_later_line, in_line, keyed_names}
use Rattle.yaml_direct.specs.Tokens.{EndsKey, HasNoToken, IsAtNext, IsCounted}
use Rattle.yaml_direct.specs.declared.block.Room as block
use Rattle.yaml_direct.specs.declared.block.Room.TheVariants as rooms
use Rattle.yaml_direct.specs.declared.leaf.Leaf as code
use Rattle.yaml_direct.specs.declared.leaf.LeafKind.TheVariants.{Plain}
use Rattle.yaml_direct.specs.declared.reader.Reader.{Reader}
use Rattle.yaml_direct.proofs.BracketNothing.{none_brackets}
use Rattle.yaml_direct.proofs.BracketReads.{next_of}
use Rattle.yaml_direct.proofs.BracketSteps.{bracket_stays}
use Rattle.yaml_direct.proofs.ColumnSteps.{goes_on, named_some, room_takes}
use Rattle.yaml_direct.proofs.ContentMisses.{brackets_in_line_content, no_brackets_content}
use Rattle.yaml_direct.proofs.EntryBegins.{no_entry}
use Rattle.yaml_direct.proofs.KeyMisses.{brackets_no_key, ends_no_colon}
use Rattle.yaml_direct.proofs.PartMisses.{amiss_as, amiss_none, amiss_tab}
use Rattle.yaml_direct.proofs.ReaderLaws.{no_token_here}
use Rattle.yaml_grammar.specs.Blocks.{Room, ends_key, is_own, takes_columns}
use Rattle.yaml_grammar.specs.Brackets.{Brackets, curly, square}
use Rattle.yaml_grammar.specs.Bytes.{at, column, is_mark, is_over}
use Rattle.yaml_grammar.specs.Gaps.{breaks, ends_its_line, is_within, next}
use Rattle.yaml_grammar.specs.Leaves.{leaf_at}
use Rattle.yaml_grammar.specs.Names.{Names, names_at, unnamed}
use Rattle.yaml_grammar.specs.Nodes.{Marked, Node}
use Rattle.yaml_grammar.specs.Plain.{as_key, by_columns}
use Rattle.yaml_reading.specs.BlockReader.{begins_entry, columns_at, content_at, entries, items, later_step}
use Rattle.yaml_reading.specs.BlockReader.{with_line_end}
use Rattle.yaml_reading.specs.BracketReader.{brackets_at}
use Rattle.yaml_reading.specs.Readers.{Read, with_leaf}
use Rattle.yaml_reading.proofs.Begins.{no_leaf_at, stays}
use Rattle.yaml_reading.proofs.BlockApart.{lines_byte}
use Rattle.yaml_reading.proofs.BlockSteps.{content_is, node_is, node_later, node_within}
use Rattle.yaml_reading.proofs.BracketReading.{one_collection}
use Rattle.yaml_reading.proofs.BracketSound.{brackets_sound}
use Rattle.yaml_reading.proofs.KeyLines.{key_ends_no_line}
use Rattle.yaml_reading.proofs.NodeAnswers.{content_read, no_leaf_key}

-- names begin with no mark
pub names_no_mark : (text : List ℕ) (c i : ℕ) → (at text i ≡ 38) ⊎ (at text i ≡ 33) → (38 == c) ≡ false
    → (33 == c) ≡ false → is_mark text c i ≡ false
names_no_mark text c i (inl e) anchor tag = and_left (at text i == c) _ (ap (λ b. b == c) e ∙ anchor)
names_no_mark text c i (inr e) anchor tag = and_left (at text i == c) _ (ap (λ b. b == c) e ∙ tag)

names_no_space : (text : List ℕ) (i : ℕ) → (at text i ≡ 38) ⊎ (at text i ≡ 33) → at text i ≢ 32
names_no_space text i (inl e) f = omega (arith, e, f)
names_no_space text i (inr e) f = omega (arith, e, f)

-- no names
pub nameless_left : (text : List ℕ) (d least : ℕ) (room : Room) (i : ℕ) → names_at text false i ≡ None
    → LeavesBlockNode text d least room i
nameless_left text d least room i none es =
    amiss_none text least (node_within text d least room es i)
    (node_is text (columns_at text d) (brackets_at text d) least room es i None none)

-- names behind which no token stands
pub sharp_left : (text : List ℕ) (d least : ℕ) (room : Room) (i k : ℕ) (names : Names)
    → names_at text false i ≡ Some (names, k) → (at text i ≡ 38) ⊎ (at text i ≡ 33) → HasNoToken text k
    → LeavesBlockNode text d least room i
sharp_left text d least room i k names h byte n es =
    let e = n.sharp in
    let shut = ap (λ q. opens (at text q)) n.here ∙ ap opens e in
    let other : is_mark text 58 (next text k) ≡ false =
    and_left (at text (next text k) == 58) _ (ap (λ q. at text q == 58) n.here ∙ ap (λ c. c == 58) e) in
    amiss_none text least (node_within text d least room es i)
    (content_read text d least room es i k names h (no_token_here text k n)
    (names_no_mark text 45 i byte refl refl) (names_no_mark text 63 i byte refl refl)
    (no_leaf_key text d es i k names h n.in_line shut (and_right (nat_lt i k) _ (and_right _ _ other))
    (ap (leaf_at text as_key) n.here ∙ no_leaf_at text as_key k 35 e refl))
    ∙ content_is text (brackets_at text d) least es i names (next text k) false false shut
    (ap (λ q. lines_byte (at text q)) n.here ∙ ap lines_byte e)
    ∙ ap (λ o. with_line_end text (with_leaf text es i names o))
    (ap (leaf_at text (by_columns least)) n.here ∙ no_leaf_at text (by_columns least) k 35 e refl))

-- content in the line of names
pub line_content : (text : List ℕ) (d least : ℕ) (room : block.Room) (old p g : Reader) (place end k : ℕ) → IsOf text p
    → names_at text false place ≡ Some (names_of p, end) → IsAtNext p g end k → g.line ≡ p.line → k < length text
    → g.start.index ≡ place → g.start.late ≡ false → g.names ≡ p.names → is_over text place ≡ false
    → (room ≢ rooms.Value → IsCounted g place) → (at text place ≡ 38) ⊎ (at text place ≡ 33) → g.line_start ≤ place
    → (not (breaks text end) && is_mark text 58 (next text end)) ≡ false
    → IsContent text d least room (room_of room) g k
line_content text d least room old p g place end k of read n same inside there early kept over counted byte low colon =
    let b = named_some text least room old p g place end k of read n same inside there early kept over counted in
    let names = ap (names_at text false) there ∙ read
    ∙ ap (λ q. let r : Names = record { anchor = q.anchor; tag = q.tag } in Some (r, end)) (sym kept) in
    record {
      end = end;
      names = names;
      there = sym (next_of text p g end k of n);
      alone = λ less. ends_no_colon text g.start.index end (omega (arith, less)) colon;
      stands = in_line (goes_on text p g end k of n same inside)
          (ap (is_mark text 45) there ∙ names_no_mark text 45 place byte refl refl)
          (ap (is_mark text 63) there ∙ names_no_mark text 63 place byte refl refl);
      early = early;
      takes = room_takes room;
      refuses = λ line value. ap (λ w. takes_columns (room_of w)) value;
      columns = λ other w. b.columns other;
      lined = λ other. subst (λ i. g.line_start ≤ i) (sym there) low;
      some = λ other. names_no_space text g.start.index
          (subst (λ i. (at text i ≡ 38) ⊎ (at text i ≡ 33)) (sym there) byte);
    }

-- names alone as a key
pub names_keyed : (text : List ℕ) (d least : ℕ) (room : block.Room) (r : Reader) (leaf : code.Leaf)
    (place e colon : ℕ) → r.start.index ≡ place → r.start.late ≡ false
    → names_at text false place ≡ Some (names_of r, e) → place < e → leaf.kind ≡ Plain → leaf.begin ≡ e → leaf.stop ≡ e
    → leaf.end ≡ e → (at text place ≡ 38) ⊎ (at text place ≡ 33) → EndsKey text e colon → r.line_start ≤ place
    → IsKeyed text d least room (room_of room) r leaf
names_keyed text d least room r leaf place e colon there early read some kind begin stop end byte ends low =
    keyed_names (ap (names_at text false) there ∙ read ∙ ap (λ q. Some (names_of r, q)) (sym end))
    (subst (λ i. i < leaf.end) (sym there) (subst (λ q. place < q) (sym end) some))
    (ap (is_mark text 45) there ∙ names_no_mark text 45 place byte refl refl)
    (ap (is_mark text 63) there ∙ names_no_mark text 63 place byte refl refl) early kind (begin ∙ sym end)
    (stop ∙ sym end)
    (subst (λ q. EndsKey text q (next text q)) (sym end) (subst (λ k. EndsKey text e k) ends.there ends))
    (room_takes room) (λ value. ap (λ w. takes_columns (room_of w)) value)
    (λ other. subst (λ i. r.line_start ≤ i) (sym there) low)

-- a sequence in a later line
pub later_sequence_left : (text : List ℕ) (d least : ℕ) (room : Room) (i p place : ℕ) (names : Names)
    → names_at text false i ≡ Some (names, p) → ends_its_line text p ≡ true → place ≡ next text p
    → (is_within text least place || is_own text room least place) ≡ true → is_mark text 45 place ≡ true
    → LeavesColumns text items d place → LeavesBlockNode text d least room i
later_sequence_left text d least room i p place names h ends there goes dash left es =
    let q = next text p in
    let whole = columns_at text d items names i (column text q) es q in
    amiss_as text least (node_within text d least room es i) whole
    (node_later text (columns_at text d) (brackets_at text d) least room es i names p true true _ _ h ends
    (ap (λ q. is_within text least q || is_own text room least q) (sym there) ∙ goes)
    (ap (is_mark text 45) (sym there) ∙ dash) refl refl)
    (amiss_tab text least whole
    (subst (λ q. EndsAtTab text (columns_at text d items names i (column text q) es q)) there (left names i es)))

module _ (text : List ℕ) (d least place : ℕ) (room : Room) (r : Reader) (b : IsBelowNames text least r place) where
  below_within : is_within text least place ≡ true
  below_within = ap (is_within text least) b.there ∙ b.within

  -- content or a mapping in a later line
  below_is : (es : List Marked) (entry : Bool) → is_mark text 45 place ≡ false
      → begins_entry text (brackets_at text d) place ≡ entry
      → node_within text d least room es r.start.index
      ≡ later_step text (columns_at text d) (brackets_at text d) least es r.start.index (names_of r) b.end true false
      true entry
  below_is es entry dash is =
      node_later text (columns_at text d) (brackets_at text d) least room es r.start.index (names_of r) b.end true false
      true entry b.names b.ends
      (ap (λ q. is_within text least q || is_own text room least q) (sym b.there)
      ∙ or_left (is_within text least place) (is_own text room least place) below_within)
      (ap (is_mark text 45) (sym b.there) ∙ dash) b.within
      (ap (begins_entry text (brackets_at text d)) (sym b.there) ∙ is)

  pub below_sequence_left : is_mark text 45 place ≡ true → LeavesColumns text items d place
      → LeavesBlockNode text d least room r.start.index
  below_sequence_left dash left =
      later_sequence_left text d least room r.start.index b.end place (names_of r) b.names b.ends b.there
      (or_left (is_within text least place) _ below_within) dash left

  -- a mapping, where no content stands
  pub below_mapping_left : is_mark text 45 place ≡ false
      → (begins_entry text (brackets_at text d) place ≡ true → LeavesColumns text entries d place)
      → HasNoContent text d place → LeavesBlockNode text d least room r.start.index
  below_mapping_left dash left none es = by_entry (begins_entry text (brackets_at text d) place) refl
    where
      by_entry : (entry : Bool) → begins_entry text (brackets_at text d) place ≡ entry
          → EndsAmiss text least (node_within text d least room es r.start.index)
      by_entry true is =
          let q = next text b.end in
          let whole = columns_at text d entries (names_of r) r.start.index (column text q) es q in
          amiss_as text least (node_within text d least room es r.start.index) whole (below_is es true dash is)
          (amiss_tab text least whole
          (subst (λ q. EndsAtTab text (columns_at text d entries (names_of r) r.start.index (column text q) es q))
          b.there (left is (names_of r) r.start.index es)))
      by_entry false is =
          amiss_none text least (node_within text d least room es r.start.index)
          (below_is es false dash is
          ∙ ap (λ q. content_at text (brackets_at text d) least es r.start.index (names_of r) q) (sym b.there)
          ∙ none least r.start.index (names_of r) es)

  -- no mapping and no content
  pub below_nothing_left : is_mark text 45 place ≡ false → begins_entry text (brackets_at text d) place ≡ false
      → HasNoContent text d place → LeavesBlockNode text d least room r.start.index
  below_nothing_left dash is none =
      below_mapping_left dash (λ entry. absurd (false≢true (sym is ∙ entry))) none

  -- content in a later line
  pub below_content : is_mark text 45 place ≡ false → begins_entry text (brackets_at text d) place ≡ false
      → IsContent text d least rooms.Value room r place
  below_content dash entry = record {
    end = b.end;
    names = b.names;
    there = sym b.there;
    alone = λ less. false_from_ne_true (ends_key text r.start.index b.end) (λ ends.
        false≢true (sym (key_ends_no_line text r.start.index b.end (omega (arith, less)) ends) ∙ b.ends));
    stands = in_later_line b.ends below_within dash entry;
    early = b.early;
    takes = λ other. absurd (other refl);
    refuses = λ line value. absurd (false≢true (sym line ∙ b.ends));
    columns = λ other. absurd (other refl);
    lined = λ other. absurd (other refl);
    some = λ other. absurd (other refl);
  }

-- a collection ends in the same place whatever names stand before it
renamed : (text : List ℕ) {d i i' k j : ℕ} {names names' : Names} {n : Node} → Brackets text d i names k j n
    → (m : Node) × Brackets text d i' names' k j m
renamed text (square o parts) = (_, square o parts)
renamed text (curly o parts) = (_, curly o parts)

one_end : (text : List ℕ) {d d' i i' k j j' : ℕ} {names names' : Names} {n n' : Node} → Brackets text d i names k j n
    → Brackets text d' i' names' k j' n' → j ≡ j'
one_end text x y = (one_collection text x (renamed text y).1).0

-- a bracket is no dash
pub bracket_no_mark : (text : List ℕ) (c i : ℕ) → opens (at text i) ≡ true → opens c ≡ false → is_mark text c i ≡ false
bracket_no_mark text c i opened other =
    and_left (at text i == c) _ (ne_eqb (at text i) c (λ e. false≢true (sym other ∙ (ap opens (sym e) ∙ opened))))

pub bracket_no_space : (text : List ℕ) (i : ℕ) → opens (at text i) ≡ true → at text i ≢ 32
bracket_no_space text i opened e = false≢true (sym (ap opens e) ∙ opened)

pub part_no_value : rooms.Part ≢ rooms.Value
part_no_value e = cc

module _ (text : List ℕ) (d place : ℕ) (opened : opens (at text place) ≡ true) where
  -- no key, where the collection is none
  pub unread_no_entry : ((names : Names) (i : ℕ) (es : List Marked)
      → ◌≡◌ {A = Read} (brackets_at text d names i es place) None)
      → begins_entry text (brackets_at text d) place ≡ false
  unread_no_entry none =
      let s = stays text place (bracket_stays text place opened) in
      no_entry text d place (bracket_no_mark text 63 place opened refl)
      (brackets_no_key text d place place unnamed (s.names false) (ap (λ q. opens (at text q)) s.here ∙ opened)
      (λ e n x. absurd (none_brackets text d place none place e unnamed n
      (subst (λ q. Brackets text d place unnamed q e n) s.here x))))

  pub unread_no_content : ((names : Names) (i : ℕ) (es : List Marked)
      → ◌≡◌ {A = Read} (brackets_at text d names i es place) None) → HasNoContent text d place
  unread_no_content none least start names es =
      no_brackets_content text d least es start names place opened (none names start es)

  -- behind one that was read no `:` of a key stands
  pub read_no_entry : (i e : ℕ) (names : Names) (n : Node) → Brackets text d i names place e n
      → ends_key text place e ≡ false → begins_entry text (brackets_at text d) place ≡ false
  read_no_entry i e names n x other =
      let s = stays text place (bracket_stays text place opened) in
      no_entry text d place (bracket_no_mark text 63 place opened refl)
      (brackets_no_key text d place place unnamed (s.names false) (ap (λ q. opens (at text q)) s.here ∙ opened)
      (λ f m y. ap (ends_key text place) (one_end text
      (subst (λ q. Brackets text d place unnamed q f m) s.here y) x) ∙ other))

  -- nor does its line end
  pub read_no_content : (i e : ℕ) (names : Names) (n : Node) → Brackets text d i names place e n
      → ends_its_line text e ≡ false → HasNoContent text d place
  read_no_content i e names n x line least start other es =
      let le : d ≤ d = omega arith in
      by_read (brackets_at text d other start es place) refl
    where
      by_read : (o : Read) → brackets_at text d other start es place ≡ o
          → ◌≡◌ {A = Read} (content_at text (brackets_at text d) least es start other place) None
      by_read None h = no_brackets_content text d least es start other place opened h
      by_read (Some y) h =
          let b = brackets_sound text d other start es place y.0 y.1 h in
          brackets_in_line_content text d least es start other place y.0 y.1 opened h
          (ap (ends_its_line text) (one_end text b.stands x) ∙ line)
