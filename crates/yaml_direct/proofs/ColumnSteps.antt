-- The steps of a reader by columns.
use Rattle.std.proofs.Common.{ℕ, suc, ◌+◌, ◌-◌, ◌<◌, ◌≤◌, ◌≡◌, ◌≢◌, ◌==◌, ◌&&◌, not, Bool, true, false, List, Some}
use Rattle.std.proofs.Common.{refl, sym, subst, ap, ◌∙◌, arith, length, inl, inr}
use Rattle.std.proofs.lemmas.Bool.{and_parts, cases_eq, cases_lt, eq-eqb, eqb-true, false≢true, le-leb, lt-leb}
use Rattle.std.proofs.lemmas.Bool.{ltb-true, ne_eqb, not-true, or_cases, or_left, or_parts, or_right}
use Rattle.std.specs.Prelude.{nat_le, nat_lt, slice_range}
use denote.Enum.Bare.{sameb}
use Rattle.yaml_direct.specs.contracts.block.Room.{the_type}
use Rattle.yaml_base.specs.declared.event.ScalarStyle.TheVariants as style
use Rattle.yaml_direct.specs.Added.{AddsLeaf, AddsPlain, begins_block}
use Rattle.yaml_direct.specs.ByColumns.{BeginsWithKey, IsBelowNames, IsBlockNamed, room_of, key_behind_names}
use Rattle.yaml_direct.specs.ByColumns.{key_names_alone}
use Rattle.yaml_direct.specs.Gaps.{InLine}
use Rattle.yaml_direct.specs.Held.{IsUnnamed, names_of}
use Rattle.yaml_direct.specs.InBrackets.{IsOf}
use Rattle.yaml_direct.specs.Leaves.{IsFound, IsLeaf, an_alias, in_quotes, is_open, plain_text, whole_alias}
use Rattle.yaml_direct.specs.Leaves.{whole_plain, whole_quotes}
use Rattle.yaml_direct.specs.Quoted.{AddsQuoted, HasKind, quote_of, style_of}
use Rattle.yaml_direct.specs.Tokens.{IsAtNext, IsCounted}
use Rattle.yaml_direct.specs.declared.block.Room as block
use Rattle.yaml_direct.specs.declared.block.Room.TheVariants as rooms
use Rattle.yaml_direct.specs.declared.leaf.Leaf as code
use Rattle.yaml_direct.specs.declared.leaf.LeafKind.TheVariants.{Alias, Open, Plain}
use Rattle.yaml_direct.specs.declared.quote.Quote.{Quote}
use Rattle.yaml_direct.specs.declared.reader.Reader.{Reader}
use Rattle.yaml_direct.proofs.AddedLeaves.{plain_read, quoted_read, scalar_leaf}
use Rattle.yaml_direct.proofs.BracketLeaves.{begins_first, behind_none, behind_some, is_plain_first}
use Rattle.yaml_direct.proofs.BracketReads.{broken_of, line_of, next_of}
use Rattle.yaml_direct.proofs.ColumnLaws.{column_on}
use Rattle.yaml_direct.proofs.CountedLaws.{column_here}
use Rattle.yaml_direct.proofs.LineLaws.{no_dash}
use Rattle.yaml_direct.proofs.NameLines.{names_line}
use Rattle.yaml_direct.proofs.ReaderLaws.{amid_goes_on}
use Rattle.yaml_grammar.specs.Blocks.{Room, is_own, takes_columns}
use Rattle.yaml_grammar.specs.Bytes.{at, column, is_mark, is_over, parts_documents}
use Rattle.yaml_grammar.specs.Gaps.{breaks, ends_its_line, follows, is_at, is_item, is_within, next}
use Rattle.yaml_grammar.specs.Names.{Names, names_at}
use Rattle.yaml_grammar.specs.Plain.{Context, as_key, by_columns, is_flow, plain_at}
use Rattle.yaml_reading.proofs.Begins.{stays, wanders}

-- the next token, and whether the line ends before it
pub over_ends : (text : List ℕ) (a b : Reader) (from to : ℕ) → IsOf text a → IsAtNext a b from to
    → length text ≤ to → ends_its_line text from ≡ true
over_ends text a b from to of n over =
    or_right (breaks text from) _
    (le-leb (length text) (next text from) (subst (λ k. length text ≤ k) (next_of text a b from to of n) over))

pub broken_ends : (text : List ℕ) (a b : Reader) (from to : ℕ) → IsOf text a → IsAtNext a b from to
    → b.line ≢ a.line → ends_its_line text from ≡ true
broken_ends text a b from to of n other = or_left (breaks text from) _ (broken_of text a b from to of n other)

pub goes_on : (text : List ℕ) (a b : Reader) (from to : ℕ) → IsOf text a → IsAtNext a b from to
    → b.line ≡ a.line → to < length text → ends_its_line text from ≡ false
goes_on text a b from to of n same inside =
    let whole = line_of text a b from to of n same in
    let there = next_of text a b from to of n in
    let more : nat_le (length text) (next text from) ≡ false =
    lt-leb (length text) (next text from) (subst (λ k. k < length text) there inside) in
    rw (whole, more) refl

-- amid a line no document ends
pub amid_over : (text : List ℕ) (a b : Reader) (from to : ℕ) → IsOf text a → IsAtNext a b from to
    → b.line ≡ a.line → (column text from == 0) ≡ false → to < length text → is_over text to ≡ false
amid_over text a b from to of n same inner inside =
    let whole = line_of text a b from to of n same in
    let far = subst (λ t. breaks t from ≡ false → to < length t → column t to ≡ column t from + (to - from)) of.same
    n.in_line whole inside in
    amid_goes_on text to
    (ne_eqb (column text to) 0
    (λ z. false≢true (sym inner ∙ eq-eqb (column text from) 0 (omega (arith, far, z))))) inside

-- behind an indicator, which is of ASCII and ends no line
abbrev pub is_inner : ℕ → Bool
is_inner c = nat_lt c 128 && (not (c == 10) && not (c == 13))

record IsInner (c : ℕ) : Type 0 where
  low : c < 128
  feed : c ≢ 10
  return : c ≢ 13

inner_parts : (c : ℕ) → is_inner c ≡ true → IsInner c
inner_parts c h = record {
  low = ltb-true c 128 (and_parts (nat_lt c 128) _ h).0;
  feed = λ e. false≢true (sym (ap is_inner e) ∙ h);
  return = λ e. false≢true (sym (ap is_inner e) ∙ h);
}

pub amid_behind : (text : List ℕ) (i c : ℕ) → at text i ≡ c → is_inner c ≡ true → (column text (i + 1) == 0) ≡ false
amid_behind text i c e inner =
    let p = inner_parts c inner in
    let one : suc i ≡ i + 1 = omega arith in
    let far : column text (i + 1) ≡ column text i + 1 =
    ap (column text) (sym one)
    ∙ column_on text i (omega (arith, e, p.low)) (λ f. p.feed (sym e ∙ f)) (λ f. p.return (sym e ∙ f)) in
    ne_eqb (column text (i + 1)) 0 (λ z. omega (arith, far, z))

pub counted_behind : (text : List ℕ) (r : Reader) (i c : ℕ) → IsOf text r → IsCounted r i → r.line_start ≤ i
    → i < length text → at text i ≡ c → is_inner c ≡ true → IsCounted r (i + 1)
counted_behind text r i c of k start inside e inner =
    let p = inner_parts c inner in
    let byte : at r.text.now i ≡ c = ap (λ t. at t i) of.same ∙ e in
    column_here r i k start (subst (λ t. i < length t) (sym of.same) inside) (omega (arith, byte, p.low))
    (λ f. p.feed (sym byte ∙ f)) (λ f. p.return (sym byte ∙ f))

-- what a test says of the text
pub test_here : {x : Bool} (f : List ℕ → Bool) (text : List ℕ) (r : Reader) (b : Bool) → r.text.now ≡ text
    → b ≡ f r.text.now → b ≡ x → f text ≡ x
test_here f text r b same test is = ap f (sym same) ∙ (sym test ∙ is)

pub within_over : (text : List ℕ) (least i : ℕ) → is_within text least i ≡ true → is_over text i ≡ false
within_over text least i h = not-true (is_over text i) (and_parts (not (is_over text i)) _ h).0

pub at_over : (text : List ℕ) (c i : ℕ) → is_at text c i ≡ true → (is_over text i ≡ false) × (column text i ≡ c)
at_over text c i h =
    let both = and_parts (not (is_over text i)) _ h in
    (not-true (is_over text i) both.0, eqb-true (column text i) c both.1)

pub over_inside : (text : List ℕ) (i : ℕ) → is_over text i ≡ false → i < length text
over_inside text i h = elim (cases_lt i (length text)) [
  | inl less ↦ less
  | inr more ↦ absurd (false≢true (sym h ∙ or_left (nat_le (length text) i) _ (le-leb (length text) i more)))
]

pub over_parts : (text : List ℕ) (i : ℕ) → is_over text i ≡ false → parts_documents text i ≡ false
over_parts text i h = (or_parts (nat_le (length text) i) (parts_documents text i) h).1

pub at_here : (text : List ℕ) (c i : ℕ) → is_over text i ≡ false → column text i ≡ c → is_at text c i ≡ true
at_here text c i h e = let same = eq-eqb (column text i) c e in rw (h, same) refl

pub item_here : (text : List ℕ) (c i : ℕ) → is_mark text 45 i ≡ true → column text i ≡ c → is_item text c i ≡ true
item_here text c i h e = let same = eq-eqb (column text i) c e in rw (h, same) refl

pub item_is : (text : List ℕ) (c i : ℕ) → is_item text c i ≡ true → (is_mark text 45 i ≡ true) × (column text i ≡ c)
item_is text c i h =
    let both = and_parts (is_mark text 45 i) _ h in
    (both.0, eqb-true (column text i) c both.1)

pub own_is : (text : List ℕ) (room : Room) (c i : ℕ) → is_own text room (suc c) i ≡ true
    → (is_mark text 45 i ≡ true) × (column text i ≡ c)
own_is text room c i h =
    let one : suc c - 1 ≡ c = omega arith in
    let item = (and_parts (nat_lt 0 (suc c)) _ (and_parts _ _ h).1).1 in
    item_is text c i (subst (λ k. is_item text k i ≡ true) one item)

pub own_mark : (text : List ℕ) (room : Room) (least i : ℕ) → is_own text room least i ≡ true → is_mark text 45 i ≡ true
own_mark text room least i h = (and_parts (is_mark text 45 i) _ (and_parts (nat_lt 0 least) _ (and_parts _ _ h).1).1).0

-- rooms
pub not_value : (room : block.Room) (b : Bool) → b ≡ sameb the_type room rooms.Value → b ≡ false → room ≢ rooms.Value
not_value rooms.Item b h t e = cc
not_value rooms.Part b h t e = cc
not_value rooms.Value b h t e = false≢true (sym t ∙ h)

pub room_takes : (room : block.Room) → room ≢ rooms.Value → takes_columns (room_of room) ≡ true
room_takes rooms.Item other = refl
room_takes rooms.Part other = refl
room_takes rooms.Value other = absurd (other refl)

-- names stand in a line, and behind them nothing that parts documents
names_in : (text : List ℕ) (i e : ℕ) (names : Names) → names_at text false i ≡ Some (names, e) → InLine text i e
names_in text i e names h = elim (names_line text false i (names, e) h) [
  | inl same ↦ λ k low high. absurd (omega (arith, same, low, high))
  | inr x ↦ x.line
]

names_whole : (text : List ℕ) (i e : ℕ) (names : Names) → names_at text false i ≡ Some (names, e) → i < e
    → parts_documents text e ≡ false
names_whole text i e names h some = elim (names_line text false i (names, e) h) [
  | inl same ↦ absurd (omega (arith, same, some))
  | inr x ↦
      let both = or_parts (at text e == 45) (at text e == 46) x.whole in
      no_dash text e (at text e) refl both.0 both.1
]

-- what a node begins with: no names
pub named_none : (text : List ℕ) (least : ℕ) (room : block.Room) (r : Reader) (place : ℕ) → r.start.index ≡ place
    → r.start.late ≡ false → IsUnnamed r → is_over text place ≡ false → (room ≢ rooms.Value → IsCounted r place)
    → wanders (at text place) ≡ false → IsBlockNamed text least room r place
named_none text least room r place there early gone over counted w =
    let s = stays text place w in
    let more : nat_le (length text) (next text place) ≡ false =
    ap (nat_le (length text)) s.here ∙ (or_parts (nat_le (length text) place) (parts_documents text place) over).0 in
    let here : follows text least place ≡ true = rw (s.in_line, more) refl in
    record {
      end = place;
      names = ap (names_at text false) there ∙ s.names false ∙ ap (λ (n : Names). Some (n, place)) (sym gone);
      goes = here;
      there = sym s.here;
      early = early;
      columns = λ other. record {
        behind = behind_none text false r place there early gone w;
        counted = subst (λ k. IsCounted r k) (sym there) (counted other);
        here = ap (is_over text) there ∙ over;
      };
    }

-- or some, in this line
pub named_some : (text : List ℕ) (least : ℕ) (room : block.Room) (old p g : Reader) (place end k : ℕ) → IsOf text p
    → names_at text false place ≡ Some (names_of p, end) → IsAtNext p g end k → g.line ≡ p.line → k < length text
    → g.start.index ≡ place → g.start.late ≡ false → g.names ≡ p.names → is_over text place ≡ false
    → (room ≢ rooms.Value → IsCounted g place) → IsBlockNamed text least room g k
named_some text least room old p g place end k of names n same inside there early kept over counted =
    let whole = line_of text p g end k of n same in
    let next_k = next_of text p g end k of n in
    let read = ap (names_at text false) there ∙ names
    ∙ ap (λ q. let r : Names = record { anchor = q.anchor; tag = q.tag } in Some (r, end)) (sym kept) in
    let more : ends_its_line text end ≡ false = goes_on text p g end k of n same inside in
    record {
      end = end;
      names = read;
      goes = rw more refl;
      there = next_k;
      early = early;
      columns = λ other. record {
        behind = behind_some text false g end k read whole next_k early
            (subst (λ i. InLine text i end) (sym there) (names_in text place end (names_of p) names));
        counted = subst (λ i. IsCounted g i) (sym there) (counted other);
        here = ap (is_over text) there ∙ over;
      };
    }

-- where a token stands behind names in their line no document ends
pub behind_names_over : (text : List ℕ) (p g : Reader) (place end k : ℕ) (names : Names) → IsOf text p
    → names_at text false place ≡ Some (names, end) → place < end → IsAtNext p g end k → g.line ≡ p.line
    → end ≤ k → k < length text → is_over text k ≡ false
behind_names_over text p g place end k names of read some n same low inside =
    let more : nat_le (length text) k ≡ false = lt-leb (length text) k inside in
    let none : parts_documents text k ≡ false = elim (cases_eq k end) [
      | inl e ↦ subst (λ q. parts_documents text q ≡ false) (sym e) (names_whole text place end names read some)
      | inr other ↦
          let whole = line_of text p g end k of n same in
          let far = subst (λ t. breaks t end ≡ false → k < length t → column t k ≡ column t end + (k - end)) of.same
          n.in_line whole inside in
          let inner : (column text k == 0) ≡ false = ne_eqb (column text k) 0
          (λ z. omega (arith, far, z, other, low)) in
          (or_parts (nat_le (length text) k) (parts_documents text k) (amid_goes_on text k inner inside)).1
    ] in
    rw (more, none) refl

-- content in a line below its names
pub below_named : (text : List ℕ) (least : ℕ) (r : Reader) (place : ℕ) → IsBelowNames text least r place
    → IsBlockNamed text least rooms.Value r place
below_named text least r place b = record {
  end = b.end;
  names = b.names;
  goes = or_right (not (ends_its_line text b.end)) _ b.within;
  there = b.there;
  early = b.early;
  columns = λ other. absurd (other refl);
}

pub below_over : (text : List ℕ) (least : ℕ) (r : Reader) (place : ℕ) → IsBelowNames text least r place
    → is_over text place ≡ false
below_over text least r place b = ap (is_over text) b.there ∙ within_over text least (next text b.end) b.within

-- plain text as a key
pub plain_key : (text : List ℕ) (least : ℕ) (room : block.Room) (r : Reader) (leaf : code.Leaf) (place e : ℕ)
    → IsBlockNamed text least room r place → room ≢ rooms.Value → leaf.kind ≡ Plain → leaf.begin ≡ place
    → leaf.stop ≡ e → leaf.end ≡ e → place ≤ e
    → plain_at text as_key place ≡ Some (e - place, slice_range text place e) → InLine text place e
    → BeginsWithKey text r leaf
plain_key text least room r leaf place e b other kind begin stop end low read line =
    let c = b.columns other in
    record {
      key = key_behind_names place c.behind
          (whole_plain kind begin (stop ∙ sym end) (subst (λ q. place ≤ q) (sym end) low)
          (subst (λ q. plain_at text as_key place ≡ Some (q - place, slice_range text place q)) (sym end) read))
          (λ k a z. by_place k a (subst (λ q. k < q) end z) c.behind.line);
      counted = c.counted;
      here = c.here;
    }
  where
    by_place : (k : ℕ) → r.start.index ≤ k → k < e → InLine text r.start.index place → at text k ≢ 10
    by_place k a z f = elim (cases_lt k place) [ inl before ↦ f k a before | inr behind ↦ line k behind z ]

-- quotes or an alias
pub found_whole : (text : List ℕ) (context : Context) (place : ℕ) (leaf : code.Leaf)
    → IsFound text (is_flow context) place leaf → is_plain_first (at text place) ≡ false → is_open leaf.kind ≡ false
    → IsLeaf text context place leaf
found_whole text context place leaf (plain_text p) first closed =
    absurd (false≢true (sym first ∙ begins_first text (is_flow context) place p.first.begins))
found_whole text context place leaf (an_alias byte a) first closed = whole_alias byte a
found_whole text context place leaf (in_quotes quote byte q) first closed =
    whole_quotes quote byte q (λ e. false≢true (sym closed ∙ ap is_open e))

pub quoted_key : (text : List ℕ) (least : ℕ) (room : block.Room) (r : Reader) (leaf : code.Leaf) (place : ℕ)
    → IsBlockNamed text least room r place → room ≢ rooms.Value → IsLeaf text as_key place leaf
    → InLine text place leaf.end → BeginsWithKey text r leaf
quoted_key text least room r leaf place b other l line =
    let c = b.columns other in
    record {
      key = key_behind_names place c.behind l (λ k a z. by_place k a z c.behind.line);
      counted = c.counted;
      here = c.here;
    }
  where
    by_place : (k : ℕ) → r.start.index ≤ k → k < leaf.end → InLine text r.start.index place → at text k ≢ 10
    by_place k a z f = elim (cases_lt k place) [ inl before ↦ f k a before | inr behind ↦ line k behind z ]

-- names alone as a key
pub names_key_here : (text : List ℕ) (r : Reader) (leaf : code.Leaf) (place e : ℕ) → r.start.index ≡ place
    → r.start.late ≡ false → names_at text false place ≡ Some (names_of r, e) → place < e → leaf.kind ≡ Plain
    → leaf.begin ≡ e → leaf.stop ≡ e → leaf.end ≡ e → is_over text place ≡ false → IsCounted r place
    → BeginsWithKey text r leaf
names_key_here text r leaf place e there early read some kind begin stop end over counted = record {
  key = key_names_alone
      (ap (names_at text false) there ∙ read ∙ ap (λ q. Some (names_of r, q)) (sym end))
      (subst (λ i. i < leaf.end) (sym there) (subst (λ q. place < q) (sym end) some)) early kind (begin ∙ sym end)
      (stop ∙ sym end)
      (subst (λ i. InLine text i leaf.end) (sym there)
      (subst (λ q. InLine text place q) (sym end) (names_in text place e (names_of r) read)));
  counted = subst (λ i. IsCounted r i) (sym there) counted;
  here = ap (is_over text) there ∙ over;
}

-- a leaf that was added
pub plain_added : (old new : Reader) (least place to : ℕ) → old.start.late ≡ false
    → (a : AddsPlain old new least place to)
    → AddsLeaf old new (by_columns least) place a.end
plain_added old new least place to early a =
    scalar_leaf old new (by_columns least) place a.end a.said style.Plain
    (plain_read old.text.now (by_columns least) place a.end a.said a.low a.read) early a.added

pub quoted_added : (old new : Reader) (least place e : ℕ) (quote : Quote) → old.start.late ≡ false
    → at old.text.now place ≡ quote_of quote → place + 2 ≤ e → AddsQuoted old new quote (place + 1) e
    → AddsLeaf old new (by_columns least) place e
quoted_added old new least place e quote early byte low a =
    scalar_leaf old new (by_columns least) place e a.said (style_of quote)
    (quoted_read old.text.now (by_columns least) quote place e a.said byte (omega (arith, low)) a.read) early a.added

-- the quote of a scalar that is open
pub open_quote_by : (text : List ℕ) (flow : Bool) (place : ℕ) (leaf : code.Leaf) (quote : Quote)
    → IsFound text flow place leaf → leaf.kind ≡ Open quote → at text place ≡ quote_of quote
open_quote_by text flow place leaf quote (plain_text p) opened = absurd (not_open (sym p.kind ∙ opened))
  where
    not_open : Plain ≡ Open quote → ⊥
    not_open e = cc
open_quote_by text flow place leaf quote (an_alias byte a) opened = absurd (not_open (sym a.kind ∙ opened))
  where
    not_open : Alias ≡ Open quote → ⊥
    not_open e = cc
open_quote_by text flow place leaf quote (in_quotes q byte x) opened =
    let same : quote ≡ q = subst (λ k. HasKind text q leaf.begin leaf.stop leaf.end k) opened x.kind in
    byte ∙ ap quote_of (sym same)

-- a block of lines begins here, and no names
pub block_stays : (c : ℕ) → begins_block c ≡ true → wanders c ≡ false
block_stays c h = elim (or_cases (c == 124) (c == 62) h) [
  | inl e ↦ ap wanders (eqb-true c 124 e)
  | inr e ↦ ap wanders (eqb-true c 62 e)
]
