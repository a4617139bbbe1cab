-- Keys in a line, put together.
use Rattle.std.proofs.Common.{ℕ, ◌+◌, ◌-◌, ◌<◌, ◌≤◌, ◌≡◌, ◌⊎◌, ◌==◌, not, Bool, true, false, List}
use Rattle.std.proofs.Common.{[], Some, refl, sym, subst, ap, ◌∙◌, arith, inl, inr, drop, nat_le, length, take}
use Rattle.std.proofs.lemmas.Bool.{and_from, and_parts, cases_eq, eqb-true, false≢true, lt-ltb, not-true}
use Rattle.std.proofs.lemmas.Bool.{or_parts}
use Rattle.std.specs.Prelude.{slice_range}
use Rattle.yaml_base.specs.declared.event.ScalarStyle.TheVariants as style
use Rattle.yaml_direct.specs.Added.{AddsLeaf, AddsScalar}
use Rattle.yaml_direct.specs.Bytes.{AreBlanks}
use Rattle.yaml_direct.specs.Gaps.{InLine}
use Rattle.yaml_direct.specs.Held.{names_of}
use Rattle.yaml_direct.specs.InBrackets.{Has, IsBehindNames, IsBrackets, IsOf, opens, quotes}
use Rattle.yaml_direct.specs.Keys.{IsKey, begins_content}
use Rattle.yaml_direct.specs.Leaves.{IsFound, IsLeaf, an_alias, in_quotes, is_open, plain_text, whole_alias, whole_plain}
use Rattle.yaml_direct.specs.Leaves.{whole_quotes}
use Rattle.yaml_direct.specs.Quoted.{quote_of}
use Rattle.yaml_direct.specs.Tokens.{EndsKey}
use Rattle.yaml_direct.specs.declared.leaf.Leaf as code
use Rattle.yaml_direct.specs.declared.quote.Quote.{Quote}
use Rattle.yaml_direct.specs.declared.quote.Quote.TheVariants.{Double, Single}
use Rattle.yaml_direct.specs.declared.reader.Reader.{Reader}
use Rattle.yaml_direct.proofs.BracketLeaves.{begins_first, first_stays}
use Rattle.yaml_direct.proofs.BracketReads.{scalar_is}
use Rattle.yaml_direct.proofs.BracketSteps.{bracket_stays, key_colon, line_to, next_low}
use Rattle.yaml_direct.proofs.LineLaws.{amid_parts, line_on, no_dash, plain_line}
use Rattle.yaml_direct.proofs.NameLines.{InOneLine, names_line}
use Rattle.yaml_direct.proofs.NextLaws.{spaces_go}
use Rattle.yaml_grammar.specs.Blocks.{Key, collection_key, ends_key, leaf_key, names_key}
use Rattle.yaml_grammar.specs.Brackets.{Brackets, has_colon}
use Rattle.yaml_grammar.specs.Bytes.{at, is_mark, is_over, is_text, parts_documents}
use Rattle.yaml_grammar.specs.Gaps.{next}
use Rattle.yaml_grammar.specs.Leaves.{leaf_at, leaf_node}
use Rattle.yaml_grammar.specs.Names.{Names, names_at}
use Rattle.yaml_grammar.specs.Nodes.{mark, no_content, node_events}
use Rattle.yaml_grammar.specs.Plain.{as_key}
use Rattle.yaml_reading.proofs.Begins.{stays, wanders}

no_bytes : (text : List ℕ) (i : ℕ) → slice_range text i i ≡ []
no_bytes text i =
    let none : i - i ≡ 0 = omega arith in
    ap (λ n. take n (drop i text)) none

-- the `:` of a key, near enough and in its line
pub key_ends : (text : List ℕ) (i e colon : ℕ) → EndsKey text e colon → InLine text i e → i ≤ e → colon ≤ i + 1024
    → ends_key text i e ≡ true
key_ends text i e colon k line low near =
    let mark = and_parts (at text colon == 58) _ k.mark in
    let far = next_low text e colon k.there in
    and_from (has_colon text i e) (is_mark text 58 (next text e))
    (key_colon text i e colon k.there (eqb-true (at text colon) 58 mark.0) (omega (arith, low, far)) near
    (line_to text i e colon line k.in_line k.there))
    (subst (λ q. is_mark text 58 q ≡ true) k.there k.mark)

-- a leaf behind its names
pub leaf_key_read : (text : List ℕ) (old new : Reader) (d place e colon : ℕ) → IsOf text old
    → IsBehindNames text false old place → AddsLeaf old new as_key place e → EndsKey text e colon → place ≤ e
    → old.start.index ≤ place → InLine text place e → colon ≤ old.start.index + 1024
    → Has old new (IsKey text d old.start.index colon)
leaf_key_read text old new d place e colon of b a k low begun line near =
    let i = old.start.index in
    let ends = key_ends text i e colon k (line_on text i place e b.line line) (omega (arith, low, begun)) near in
    record {
      events = node_events a.node;
      what = record {
        node = a.node;
        stands = subst (λ q. Key text d i q a.node) (sym k.there)
            (leaf_key b.names b.in_line
            (ap (leaf_at text as_key) (sym b.there) ∙ ap (λ t. leaf_at t as_key place) (sym of.same) ∙ a.read)
            (ap (λ t. leaf_node t i (names_of old) a.leaf e) (sym of.same) ∙ a.is) ends);
        events = refl;
      };
      added = a.added.events;
      unnamed = a.added.unnamed;
    }

-- names alone
pub names_key_read : (text : List ℕ) (old new : Reader) (d e colon : ℕ) → IsOf text old
    → names_at text false old.start.index ≡ Some (names_of old, e) → old.start.index < e → old.start.late ≡ false
    → AddsScalar old new (slice_range old.text.now e e) style.Plain e → EndsKey text e colon
    → colon ≤ old.start.index + 1024 → Has old new (IsKey text d old.start.index colon)
names_key_read text old new d e colon of names some early a k near =
    let i = old.start.index in
    let line = line_of (names_line text false i (names_of old, e) names) in
    let n = no_content (mark text i) (names_of old) (slice_range text i e) in
    let ends = key_ends text i e colon k line (omega (arith, some)) near in
    record {
      events = node_events n;
      what = record {
        node = n;
        stands = subst (λ q. Key text d i q n) (sym k.there) (names_key names (lt-ltb i e some) k.in_line ends);
        events = refl;
      };
      added = scalar_is text old new [] (slice_range old.text.now e e) style.Plain e i of early refl
          (no_bytes old.text.now e) a;
      unnamed = a.unnamed;
    }
  where
    line_of : (old.start.index ≡ e) ⊎ InOneLine text old.start.index e → InLine text old.start.index e
    line_of (inl same) = absurd (omega (arith, same, some))
    line_of (inr x) = x.line

-- a collection in brackets
pub brackets_key_read : (text : List ℕ) (old new : Reader) (d place e colon : ℕ) → IsBehindNames text false old place
    → Has old new (IsBrackets text d old.start.index (names_of old) place e) → EndsKey text e colon
    → InLine text old.start.index e → old.start.index ≤ e → colon ≤ old.start.index + 1024
    → Has old new (IsKey text d old.start.index colon)
brackets_key_read text old new d place e colon b x k line low near =
    let i = old.start.index in
    let n = x.what.node in
    let ends = key_ends text i e colon k line low near in
    record {
      events = x.events;
      what = record {
        node = n;
        stands = subst (λ q. Key text d i q n) (sym k.there)
            (collection_key b.names b.in_line
            (subst (λ q. Brackets text d i (names_of old) q e n) b.there x.what.stands) ends);
        events = x.what.events;
      };
      added = x.added;
      unnamed = x.unnamed;
    }

-- the byte with which content begins
pub content_stays : (c : ℕ) → begins_content c ≡ true → wanders c ≡ false
content_stays c h = not-true (wanders c) h

pub stays_content : (c : ℕ) → wanders c ≡ false → begins_content c ≡ true
stays_content c h = ap not h

quote_content : (quote : Quote) (c : ℕ) → c ≡ quote_of quote → begins_content c ≡ true
quote_content Single c e = ap begins_content e
quote_content Double c e = ap begins_content e

pub found_content : (text : List ℕ) (flow : Bool) (i : ℕ) (leaf : code.Leaf) → IsFound text flow i leaf
    → begins_content (at text i) ≡ true
found_content text flow i leaf (plain_text p) =
    stays_content (at text i) (first_stays text i (begins_first text flow i p.first.begins))
found_content text flow i leaf (an_alias byte a) = ap begins_content byte
found_content text flow i leaf (in_quotes quote byte q) = quote_content quote (at text i) byte

pub opens_content : (text : List ℕ) (i : ℕ) → opens (at text i) ≡ true → begins_content (at text i) ≡ true
opens_content text i h = stays_content (at text i) (bracket_stays text i h)

-- a leaf in a line, as a key
pub found_key : (text : List ℕ) (i : ℕ) (leaf : code.Leaf) → leaf.begin ≤ leaf.stop → leaf.stop ≤ leaf.end
    → IsFound text false i leaf → is_open leaf.kind ≡ false → IsLeaf text as_key i leaf
found_key text i leaf low high (plain_text p) closed =
    whole_plain p.kind p.begins p.stops (omega (arith, low, high, p.begins)) (p.key refl)
found_key text i leaf low high (an_alias byte a) closed = whole_alias byte a
found_key text i leaf low high (in_quotes quote byte q) closed =
    whole_quotes quote byte q (λ e. false≢true (sym closed ∙ ap is_open e))

pub found_line : (text : List ℕ) (i : ℕ) (leaf : code.Leaf) → IsFound text false i leaf
    → (at text i ≡ 42 → InLine text i leaf.end) → ((quote : Quote) → at text i ≡ quote_of quote → InLine text i leaf.end)
    → InLine text i leaf.end
found_line text i leaf (plain_text p) star quotes = plain_line text false i leaf.end p.first.line
found_line text i leaf (an_alias byte a) star quotes = star byte
found_line text i leaf (in_quotes quote byte q) star quotes = quotes quote byte

-- the content of a key behind names and spaces
pub behind_blanks : (text : List ℕ) (r : Reader) (end place : ℕ) → names_at text false r.start.index ≡ Some (names_of r, end)
    → r.start.index < end → r.start.late ≡ false → end ≤ place → AreBlanks text end place
    → begins_content (at text place) ≡ true → IsBehindNames text false r place
behind_blanks text r end place names some early low blank content =
    let s = stays text place (content_stays (at text place) content) in
    let goes = spaces_go text end place low blank in
    record {
      end = end;
      names = names;
      in_line = goes.lines ∙ s.in_line;
      there = sym (goes.there ∙ s.here);
      early = early;
      line = line_on text r.start.index end place (line_of (names_line text false r.start.index (names_of r, end) names))
          (λ k a b e. no_feed (at text k) (blank k a b) e);
    }
  where
    line_of : (r.start.index ≡ end) ⊎ InOneLine text r.start.index end → InLine text r.start.index end
    line_of (inl same) = absurd (omega (arith, same, some))
    line_of (inr x) = x.line

    no_feed : (c : ℕ) → c ≡ 32 → c ≡ 10 → ⊥
    no_feed c e f = omega (arith, e, f)

-- documents are parted neither behind names nor behind spaces
pub blanks_whole : (text : List ℕ) (i end place : ℕ) (names : Names) → is_text text ≡ true
    → names_at text false i ≡ Some (names, end) → i < end → end ≤ place → AreBlanks text end place
    → parts_documents text place ≡ false
blanks_whole text i end place names h read some low blank =
    elim (cases_eq place end) [
      | inl same ↦
          let x = line_of (names_line text false i (names, end) read) in
          let both = or_parts (at text end == 45) (at text end == 46) x.whole in
          subst (λ k. parts_documents text k ≡ false) (sym same) (no_dash text end (at text end) refl both.0 both.1)
      | inr other ↦
          let space = blank (place - 1) (omega (arith, low, other)) (omega (arith, low, other)) in
          amid_parts text place h (omega (arith, low, some)) (omega (arith, space)) (omega (arith, space))
    ]
  where
    line_of : (i ≡ end) ⊎ InOneLine text i end → InOneLine text i end
    line_of (inl same) = absurd (omega (arith, same, some))
    line_of (inr x) = x

-- documents go on here
pub over_parts : (text : List ℕ) (i : ℕ) → is_over text i ≡ false → parts_documents text i ≡ false
over_parts text i h = (or_parts (nat_le (length text) i) (parts_documents text i) h).1

-- from a place that is known by another name
pub key_at : (text : List ℕ) (old new : Reader) (d i colon j : ℕ) → old.start.index ≡ i → j ≡ colon
    → Has old new (IsKey text d old.start.index colon) → Has old new (IsKey text d i j)
key_at text old new d i colon j begins there x =
    subst (λ k. Has old new (IsKey text d i k)) (sym there) (subst (λ k. Has old new (IsKey text d k colon)) begins x)

pub ends_key_in : (text : List ℕ) (r : Reader) (end colon : ℕ) → r.text.now ≡ text → EndsKey r.text.now end colon
    → EndsKey text end colon
ends_key_in text r end colon same k = subst (λ t. EndsKey t end colon) same k

pub line_in : (text : List ℕ) (r : Reader) (i j : ℕ) → r.text.now ≡ text → InLine r.text.now i j → InLine text i j
line_in text r i j same line = subst (λ t. InLine t i j) same line

pub line_short : (text : List ℕ) (i j k : ℕ) → k ≤ j → InLine text i j → InLine text i k
line_short text i j k low line n a b = line n a (omega (arith, b, low))

-- a leaf that was found stands in a line
pub found_in_line : (text : List ℕ) (r : Reader) (i : ℕ) (leaf : code.Leaf) → IsOf text r → IsFound text false i leaf
    → is_open leaf.kind ≡ false → (quotes (at r.text.now i) ≡ true → InLine r.text.now i leaf.end) → InLine text i leaf.end
found_in_line text r i leaf of found closed line =
    let quoted : quotes (at text i) ≡ true → InLine text i leaf.end =
    (λ q. line_in text r i leaf.end of.same (line (ap (λ t. quotes (at t i)) of.same ∙ q))) in
    found_line text i leaf found (λ e. quoted (ap quotes e)) (λ quote e. quoted (quote_is quote (at text i) e))
  where
    quote_is : (quote : Quote) (c : ℕ) → c ≡ quote_of quote → quotes c ≡ true
    quote_is Single c e = ap quotes e
    quote_is Double c e = ap quotes e
