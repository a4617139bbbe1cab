-- Where no content of a key stands, and where no `:` stands behind it.
use Rattle.std.proofs.Common.{ℕ, suc, ◌+◌, ◌-◌, ◌<◌, ◌≤◌, ◌≡◌, ◌≢◌, ◌⊎◌, ◌==◌, ◌||◌, Bool, true, false, List}
use Rattle.std.proofs.Common.{[], ◌∷◌, Some, None, length, refl, sym, subst, ap, ◌∙◌, arith, inl, inr, drop}
use Rattle.std.proofs.lemmas.Bool.{cases_Bool, eqb-true, false≢true}
use Rattle.std.proofs.lemmas.Bool.{ne_eqb, not-false, or_cases, or_from}
use Rattle.std.proofs.lemmas.List.{get_or_past, length-drop}
use Rattle.std.specs.Prelude.{Option, nat_eq, option_and_then, slice_range}
use Rattle.yaml_base.specs.declared.event.ScalarStyle.TheVariants as style
use Rattle.yaml_direct.specs.Added.{HasNoLeaf}
use Rattle.yaml_direct.specs.Gaps.{InLine}
use Rattle.yaml_direct.specs.Held.{IsUnnamed, names_of}
use Rattle.yaml_direct.specs.InBrackets.{IsBehindNames, opens}
use Rattle.yaml_direct.specs.Keys.{begins_content}
use Rattle.yaml_direct.specs.Leaves.{IsFound, IsLeaf, an_alias, in_quotes, is_open, plain_text, whole_alias}
use Rattle.yaml_direct.specs.Leaves.{whole_plain, whole_quotes}
use Rattle.yaml_direct.specs.LeftByColumns.{IsBehindBlanks, LeavesKey}
use Rattle.yaml_direct.specs.LeftInBrackets.{IsLeftOpen}
use Rattle.yaml_direct.specs.Quoted.{HasKind, quote_of, quoted_from, style_of}
use Rattle.yaml_direct.specs.declared.leaf.Leaf as code
use Rattle.yaml_direct.specs.declared.leaf.LeafKind.{LeafKind}
use Rattle.yaml_direct.specs.declared.leaf.LeafKind.TheVariants.{Alias, Escaped, Open, Plain, Quoted}
use Rattle.yaml_direct.specs.declared.quote.Quote.{Quote}
use Rattle.yaml_direct.specs.declared.reader.Reader.{Reader}
use Rattle.yaml_direct.proofs.AddedLeaves.{none_leaf, plain_read, quotes_at, star_at}
use Rattle.yaml_direct.proofs.BracketBytes.{open_forward}
use Rattle.yaml_direct.proofs.FeedPlaces.{two_lines}
use Rattle.yaml_direct.proofs.KeyReads.{content_stays}
use Rattle.yaml_direct.proofs.KeyMisses.{NoKey, broken_key, brackets_no_key, ends_lines, key_none, leaf_no_key}
use Rattle.yaml_direct.proofs.KeyMisses.{no_leaf_key}
use Rattle.yaml_direct.proofs.LineLaws.{line_on}
use Rattle.yaml_direct.proofs.NameLines.{InOneLine, names_line}
use Rattle.yaml_direct.proofs.NextLaws.{before_apart, before_token, bytes_are, feed_goes, sharp_here, sharp_turn}
use Rattle.yaml_direct.proofs.NextLaws.{spaces_go, token_here}
use Rattle.yaml_direct.proofs.SinglePasses.{open_feed, quote_end}
use Rattle.yaml_grammar.specs.Blocks.{ends_key}
use Rattle.yaml_grammar.specs.Brackets.{Brackets}
use Rattle.yaml_grammar.specs.Bytes.{at}
use Rattle.yaml_grammar.specs.Gaps.{before, breaks, comment, gap, next}
use Rattle.yaml_grammar.specs.Folding.{Rest}
use Rattle.yaml_grammar.specs.Leaves.{Leaf, in_style, leaf_at, to_anchor}
use Rattle.yaml_grammar.specs.Names.{Names, count_while, names_at, one_name, unnamed}
use Rattle.yaml_grammar.specs.Nodes.{Node}
use Rattle.yaml_grammar.specs.Plain.{Context, as_key}
use Rattle.yaml_reading.proofs.Begins.{at_drop, no_leaf_at, no_leaf_byte, stays, wanders}
use Rattle.yaml_reading.proofs.BracketReading.{one_collection}
use Rattle.yaml_reading.proofs.Options.{map_some, pair_is}

-- a comment goes up to the end of its line, or of the text
comment_ends : (cs : List ℕ) → ((gap comment cs).1 ≡ true) ⊎ ((gap comment cs).0 ≡ length cs)
comment_ends [] = inr refl
comment_ends (c ∷ cs) = elim (cases_Bool (c == 10)) [
  | inl feed ↦ inl (rw feed refl)
  | inr other ↦ elim (comment_ends cs) [
    | inl broken ↦ inl (rw (other, broken) refl)
    | inr all ↦ inr (rw other (ap suc all))
  ]
]

-- where no content of a key begins
pub data Ends (text : List ℕ) (i : ℕ) : Type 0 where
  in_its_line : breaks text i ≡ true → Ends text i
  before_nothing : leaf_at text as_key (next text i) ≡ None → opens (at text (next text i)) ≡ false → Ends text i

content_ends : (text : List ℕ) (i : ℕ) → at text i ≢ 32 → begins_content (at text i) ≡ false → Ends text i
content_ends text i some h = elim (or_cases (at text i == 32) _ (not-false (wanders (at text i)) h)) [
  | inl e ↦ absurd (some (eqb-true (at text i) 32 e))
  | inr h ↦ elim (or_cases (at text i == 10) _ h) [
    | inl e ↦ in_its_line (feed_goes text i (eqb-true (at text i) 10 e)).lines
    | inr h ↦ elim (or_cases (at text i == 35) _ h) [
      | inl e ↦ by_before (eqb-true (at text i) 35 e)
      | inr h ↦ elim (or_cases (at text i == 38) (at text i == 33) h) [
        | inl e ↦ by_byte 38 (eqb-true (at text i) 38 e) (λ f. omega (arith, f)) (λ f. omega (arith, f))
            (λ f. omega (arith, f)) refl refl
        | inr e ↦ by_byte 33 (eqb-true (at text i) 33 e) (λ f. omega (arith, f)) (λ f. omega (arith, f))
            (λ f. omega (arith, f)) refl refl
      ]
    ]
  ]
]
  where
    nothing_at : (c k : ℕ) → next text i ≡ k → at text k ≡ c → no_leaf_byte c ≡ true → opens c ≡ false → Ends text i
    nothing_at c k there e leaf shut =
        before_nothing (ap (leaf_at text as_key) there ∙ no_leaf_at text as_key k c e leaf)
        (ap (λ q. opens (at text q)) there ∙ ap opens e ∙ shut)

    by_byte : (c : ℕ) → at text i ≡ c → c ≢ 10 → c ≢ 32 → c ≢ 35 → no_leaf_byte c ≡ true → opens c ≡ false → Ends text i
    by_byte c e f s h leaf shut =
        nothing_at c i (token_here text i (λ x. f (sym e ∙ x)) (λ x. s (sym e ∙ x)) (λ x. h (sym e ∙ x))).there e leaf
        shut

    by_before : at text i ≡ 35 → Ends text i
    by_before e = elim (cases_Bool (i == 0 || (at text (i - 1) == 32 || at text (i - 1) == 10))) [
      | inr close ↦ nothing_at 35 i (sharp_here text i e (before_token text i close)).there e refl refl
      | inl apart ↦
          let rest = drop (suc i) text in
          let turn = ap (gap (before text i)) (bytes_are text i 34 e)
          ∙ sharp_turn (before text i) rest (before_apart text i apart) in
          elim (comment_ends rest) [
            | inl broken ↦ in_its_line (ap (λ r. r.1) turn ∙ broken)
            | inr all ↦
                let size = length-drop (suc i) text in
                let there : next text i ≡ i + suc (gap comment rest).0 = ap (λ r. i + r.0) turn in
                nothing_at 0 (next text i) refl
                (get_or_past text (next text i) 0 (omega (arith, there, all, size))) refl refl
          ]
    ]

pub blanks_no_key : (text : List ℕ) (d : ℕ) (r : Reader) (place : ℕ) → IsBehindBlanks text r place
    → begins_content (at text place) ≡ false → NoKey text d r.start.index
blanks_no_key text d r place b none =
    let g = spaces_go text b.end place b.low b.blanks in
    by_end g.there g.lines (content_ends text place b.some none)
  where
    by_end : next text b.end ≡ next text place → breaks text b.end ≡ breaks text place → Ends text place
        → NoKey text d r.start.index
    by_end there lines (in_its_line broken) =
        broken_key text d r.start.index b.end (names_of r) b.names (lines ∙ broken)
    by_end there lines (before_nothing leaf shut) =
        no_leaf_key text d r.start.index b.end (names_of r) b.names
        (none_leaf text as_key (names_of r) (next text b.end) (ap (leaf_at text as_key) there ∙ leaf))
        (ap (λ q. opens (at text q)) there ∙ shut) b.alone

-- else it begins behind the names, in their line
pub behind_content : (text : List ℕ) (r : Reader) (place : ℕ) → IsBehindBlanks text r place → r.start.late ≡ false
    → begins_content (at text place) ≡ true → IsBehindNames text false r place
behind_content text r place b early content =
    let s = stays text place (content_stays (at text place) content) in
    let goes = spaces_go text b.end place b.low b.blanks in
    record {
      end = b.end;
      names = b.names;
      in_line = goes.lines ∙ s.in_line;
      there = sym (goes.there ∙ s.here);
      early = early;
      line = line_on text r.start.index b.end place
          (line_of (names_line text false r.start.index (names_of r, b.end) b.names))
          (λ k low high e. omega (arith, e, b.blanks k low high));
    }
  where
    line_of : (r.start.index ≡ b.end) ⊎ InOneLine text r.start.index b.end → InLine text r.start.index b.end
    line_of (inl same) = λ k low high. absurd (omega (arith, low, high, same))
    line_of (inr x) = x.line

-- where no names begin
first_spaces : (cs : List ℕ) → at cs 0 ≢ 32 → count_while (nat_eq 32) cs ≡ 0
first_spaces [] h = refl
first_spaces (c ∷ cs) h = rw (ne_eqb 32 c (λ e. h (sym e))) refl

none_here : (text : List ℕ) (flow : Bool) (i : ℕ) → at text i ≢ 32 → at text i ≢ 38 → at text i ≢ 33
    → one_name text flow (unnamed, i) ≡ Some (unnamed, i)
none_here text flow i space anchor tag =
    let none = first_spaces (drop i text) (λ e. space (sym (at_drop text i) ∙ e)) in
    let here : i + count_while (nat_eq 32) (drop i text) ≡ i = omega (arith, none) in
    let answer : Option (Names × ℕ) = Some (unnamed, i) in
    rw (here, ne_eqb (at text i) 38 anchor, ne_eqb (at text i) 33 tag) (refl {a = answer})

pub no_names : (text : List ℕ) (flow : Bool) (i : ℕ) → at text i ≢ 32 → at text i ≢ 38 → at text i ≢ 33
    → names_at text flow i ≡ Some (unnamed, i)
no_names text flow i space anchor tag =
    ap (option_and_then (one_name text flow)) (none_here text flow i space anchor tag)
    ∙ none_here text flow i space anchor tag

pub behind_nothing : (text : List ℕ) (r : Reader) → IsUnnamed r → at text r.start.index ≢ 32
    → at text r.start.index ≢ 38 → at text r.start.index ≢ 33 → IsBehindBlanks text r r.start.index
behind_nothing text r none space anchor tag =
    let i = r.start.index in
    let names : names_at text false i ≡ Some (unnamed, i) = no_names text false i space anchor tag in
    record {
      end = i;
      names = subst (λ n. names_at text false i ≡ Some (n, i)) (sym none) names;
      low = omega arith;
      blanks = λ k low high. absurd (omega (arith, low, high));
      some = space;
      alone = λ less. absurd (omega (arith, less));
    }

-- a leaf that was found ends where the leaf does that is defined
quoted_kind : (text : List ℕ) (quote : Quote) (begin stop end n : ℕ) (said : List ℕ) (kind : LeafKind)
    → HasKind text quote begin stop end kind → (kind ≡ Open quote → ⊥) → begin ≤ end
    → ◌≡◌ {A = Rest} (quoted_from text quote begin) (Some (n, said)) → begin + n ≡ end
quoted_kind text quote begin stop end n said Plain h shut low read = absurd h
quoted_kind text quote begin stop end n said Alias h shut low read = absurd h
quoted_kind text quote begin stop end n said (Quoted q) h shut low read =
    let size = (pair_is (end - begin) n (slice_range text begin stop) said (sym h.1 ∙ read)).0 in
    omega (arith, size, low)
quoted_kind text quote begin stop end n said (Escaped q) h shut low read =
    quote_end text quote begin stop n said h.1.1 read ∙ sym h.1.0
quoted_kind text quote begin stop end n said (Open q) h shut low read = absurd (shut (ap Open h))

-- quotes that are read
pub record QuotesRead (text : List ℕ) (quote : Quote) (i e : ℕ) : Type 0 where
  pub size : ℕ
  pub said : List ℕ
  pub read : ◌≡◌ {A = Rest} (quoted_from text quote (i + 1)) (Some (size, said))
  pub there : i + 1 + size ≡ e

pub quotes_read : (text : List ℕ) (context : Context) (quote : Quote) (i e : ℕ) (x : Leaf) → at text i ≡ quote_of quote
    → leaf_at text context i ≡ Some (x, e) → QuotesRead text quote i e
quotes_read text context quote i e x byte h =
    let t = map_some (quoted_from text quote (i + 1)) _ (x, e) (sym (quotes_at text context quote i byte) ∙ h) in
    record {
      size = t.0.0;
      said = t.0.1;
      read = t.1;
      there = (pair_is (in_style (style_of quote) t.0.1) x (i + 1 + t.0.0) e (ap Some t.2)).1;
    }

pub leaf_end : (text : List ℕ) (context : Context) (i e : ℕ) (leaf : code.Leaf) (x : Leaf)
    → IsLeaf text context i leaf → leaf.begin ≤ leaf.end → leaf_at text context i ≡ Some (x, e) → e ≡ leaf.end
leaf_end text context i e leaf x (whole_plain kind begins stops low read) part h =
    sym (pair_is (in_style style.Plain (slice_range text i leaf.end)) x leaf.end e
    (sym (plain_read text context i leaf.end (slice_range text i leaf.end) low read) ∙ h)).1
leaf_end text context i e leaf x (whole_alias star a) part h =
    sym (pair_is (to_anchor (slice_range text (i + 1) leaf.end)) x leaf.end e
    (sym (star_at text context i leaf.end star a.name) ∙ h)).1
leaf_end text context i e leaf x (whole_quotes quote byte q shut) part h =
    let t = quotes_read text context quote i e x byte h in
    let read = subst (λ b. ◌≡◌ {A = Rest} (quoted_from text quote b) (Some (t.size, t.said))) (sym q.begins) t.read in
    let size = quoted_kind text quote leaf.begin leaf.stop leaf.end t.size t.said leaf.kind q.kind shut part read in
    omega (arith, t.there, size, q.begins)

-- where the content of a key begins
pub record IsKeyPlace (text : List ℕ) (r : Reader) (place : ℕ) : Type 0 where
  pub end : ℕ
  pub names : names_at text false r.start.index ≡ Some (names_of r, end)
  pub there : next text end ≡ place
  pub alone : r.start.index < end → ends_key text r.start.index end ≡ false

pub content_place : (text : List ℕ) (r : Reader) (place : ℕ) → IsBehindBlanks text r place
    → begins_content (at text place) ≡ true → IsKeyPlace text r place
content_place text r place b content = record {
  end = b.end;
  names = b.names;
  there = (spaces_go text b.end place b.low b.blanks).there
      ∙ (stays text place (content_stays (at text place) content)).here;
  alone = b.alone;
}

-- no leaf there
pub missed_no_key : (text : List ℕ) (d : ℕ) (r : Reader) (place : ℕ) → IsKeyPlace text r place
    → HasNoLeaf text as_key (names_of r) place → opens (at text place) ≡ false → NoKey text d r.start.index
missed_no_key text d r place k none shut =
    no_leaf_key text d r.start.index k.end (names_of r) k.names
    (subst (λ q. HasNoLeaf text as_key (names_of r) q) (sym k.there) none)
    (ap (λ q. opens (at text q)) k.there ∙ shut) k.alone

by_leaf : (text : List ℕ) (d : ℕ) (r : Reader) (place : ℕ) → IsKeyPlace text r place → opens (at text place) ≡ false
    → ((x : Leaf) (e : ℕ) → leaf_at text as_key place ≡ Some (x, e) → ends_key text r.start.index e ≡ false)
    → NoKey text d r.start.index
by_leaf text d r place k shut other = by_answer (leaf_at text as_key place) refl
  where
    by_answer : (o : Option (Leaf × ℕ)) → leaf_at text as_key place ≡ o → NoKey text d r.start.index
    by_answer None h = missed_no_key text d r place k (none_leaf text as_key (names_of r) place h) shut
    by_answer (Some y) h =
        leaf_no_key text d r.start.index k.end y.1 (names_of r) y.0 k.names (ap (leaf_at text as_key) k.there ∙ h)
        (other y.0 y.1 h)

-- a leaf behind which no `:` of a key stands
pub found_no_key : (text : List ℕ) (d : ℕ) (r : Reader) (place : ℕ) (leaf : code.Leaf) → IsKeyPlace text r place
    → IsLeaf text as_key place leaf → leaf.begin ≤ leaf.end → opens (at text place) ≡ false
    → ends_key text r.start.index leaf.end ≡ false → NoKey text d r.start.index
found_no_key text d r place leaf k l part shut other = by_leaf text d r place k shut (λ x e h.
    ap (ends_key text r.start.index) (leaf_end text as_key place e leaf x l part h) ∙ other)

-- quotes that are not closed in their line
open_by : (text : List ℕ) (d : ℕ) (r : Reader) (place stop : ℕ) (quote : Quote) → IsKeyPlace text r place
    → r.start.index ≤ place → at text place ≡ quote_of quote → IsLeftOpen text quote (place + 1) stop
    → opens (at text place) ≡ false → NoKey text d r.start.index
open_by text d r place stop quote k low byte opened shut = by_leaf text d r place k shut (λ x e h.
    let q = quotes_read text as_key quote place e x byte h in
    let f = open_feed text quote (place + 1) stop q.size q.said opened (open_forward text quote (place + 1) stop opened)
    q.read in
    let far : next text e ≡ e + (gap (before text e) (drop e text)).0 = refl in
    ends_lines text r.start.index e
    (two_lines text r.start.index (next text e) f.place (omega (arith, low, f.low))
    (omega (arith, f.high, q.there, far)) f.feed))

pub open_no_key : (text : List ℕ) (d : ℕ) (r : Reader) (place : ℕ) (leaf : code.Leaf) → IsKeyPlace text r place
    → r.start.index ≤ place → IsFound text false place leaf
    → ((quote : Quote) → at text place ≡ quote_of quote → IsLeftOpen text quote (place + 1) leaf.stop)
    → is_open leaf.kind ≡ true → opens (at text place) ≡ false → NoKey text d r.start.index
open_no_key text d r place leaf k low (plain_text p) opened left shut =
    absurd (false≢true (sym (ap is_open p.kind) ∙ left))
open_no_key text d r place leaf k low (an_alias star a) opened left shut =
    absurd (false≢true (sym (ap is_open a.kind) ∙ left))
open_no_key text d r place leaf k low (in_quotes quote byte q) opened left shut =
    open_by text d r place leaf.stop quote k low byte (opened quote byte) shut

-- a collection behind which no `:` of a key stands
pub read_no_key : (text : List ℕ) (d e : ℕ) (r : Reader) (place : ℕ) (n : Node) → IsBehindNames text false r place
    → opens (at text place) ≡ true → Brackets text d r.start.index (names_of r) place e n
    → ends_key text r.start.index e ≡ false → NoKey text d r.start.index
read_no_key text d e r place n b opened x other =
    brackets_no_key text d r.start.index b.end (names_of r) b.names (ap (λ q. opens (at text q)) (sym b.there) ∙ opened)
    (λ f m y. ap (ends_key text r.start.index) (one_collection text y
    (subst (λ q. Brackets text d r.start.index (names_of r) q e n) b.there x)).0 ∙ other)

-- and no collection
pub unread_no_key : (text : List ℕ) (d : ℕ) (r : Reader) (place : ℕ) → IsBehindNames text false r place
    → opens (at text place) ≡ true
    → ((i j : ℕ) (names : Names) (n : Node) → Brackets text d i names place j n → ⊥) → NoKey text d r.start.index
unread_no_key text d r place b opened none =
    brackets_no_key text d r.start.index b.end (names_of r) b.names (ap (λ q. opens (at text q)) (sym b.there) ∙ opened)
    (λ f m y. absurd (none r.start.index f (names_of r) m
    (subst (λ q. Brackets text d r.start.index (names_of r) q f m) (sym b.there) y)))

-- from a place that is known by another name
pub leaves_key : (text : List ℕ) (d : ℕ) (r : Reader) (i : ℕ) → r.start.index ≡ i → NoKey text d r.start.index
    → LeavesKey text d i
leaves_key text d r i same none = key_none text d i (subst (λ k. NoKey text d k) same none)

-- no bracket
pub no_bracket : (c : ℕ) → (c ≡ 91 → ⊥) → (c ≡ 123 → ⊥) → opens c ≡ false
no_bracket c square curly = or_from (c == 91) (c == 123) (ne_eqb c 91 square) (ne_eqb c 123 curly)
