-- Leaves in brackets, and names alone.
use Rattle.std.proofs.Common.{ℕ, suc, ◌+◌, ◌-◌, ◌<◌, ◌≤◌, ◌≡◌, ◌==◌, ◌&&◌, ◌||◌, not, Bool, true, false, List, Some}
use Rattle.std.proofs.Common.{refl, sym, subst, ap, ◌∙◌, arith, drop}
use Rattle.std.specs.Prelude.{if◌then◌else◌}
use Rattle.yaml_base.specs.QuotedLines.{none}
use Rattle.std.proofs.lemmas.Bool.{and_from, and_parts, false≢true, ne_eqb}
use Rattle.yaml_base.specs.declared.event.ScalarStyle.{ScalarStyle}
use Rattle.yaml_base.specs.declared.event.ScalarStyle.TheVariants as style
use Rattle.yaml_direct.specs.Added.{AddsFlow, AddsScalar}
use Rattle.yaml_direct.specs.Gaps.{InLine}
use Rattle.yaml_direct.specs.Held.{IsUnnamed, names_of}
use Rattle.yaml_direct.specs.InBrackets.{IsBehindNames, IsFlowLeaf, IsOf, behind_names, names_alone}
use Rattle.yaml_direct.specs.Leaves.{IsFound, IsLeaf, an_alias, in_quotes, is_open, plain_text, whole_alias, whole_quotes}
use Rattle.yaml_direct.specs.Quoted.{AddsQuoted, HasKind, quote_of, quoted_from, style_of}
use Rattle.yaml_direct.specs.declared.leaf.Leaf as code
use Rattle.yaml_direct.specs.declared.leaf.LeafKind.TheVariants.{Alias, Open, Plain}
use Rattle.yaml_direct.specs.declared.quote.Quote.{Quote}
use Rattle.yaml_direct.specs.declared.quote.Quote.TheVariants.{Double, Single}
use Rattle.yaml_direct.specs.declared.reader.Reader.{Reader}
use Rattle.yaml_direct.proofs.BracketReads.{NodeRead, behind_kept, scalar_is}
use Rattle.yaml_direct.proofs.LineLaws.{line_none, line_on, next_line}
use Rattle.yaml_grammar.specs.Brackets.{flow_leaf}
use Rattle.yaml_grammar.specs.Bytes.{at, is_gap, is_indicator}
use Rattle.yaml_grammar.specs.Folding.{Rest, nothing_passed}
use Rattle.yaml_grammar.specs.Gaps.{breaks, next}
use Rattle.yaml_grammar.specs.Leaves.{Leaf, alias_at, in_style, leaf_at, styled}
use Rattle.yaml_grammar.specs.Names.{Names, names_at}
use Rattle.yaml_grammar.specs.Nodes.{scalar_at}
use Rattle.yaml_grammar.specs.Plain.{Context, begins_plain, in_brackets, is_flow, plain_at}
use Rattle.yaml_grammar.specs.Quotes.{double_rest, single_rest}
use Rattle.yaml_reading.proofs.Begins.{stays, wanders}

-- the first byte of a plain text
abbrev pub is_plain_first : ℕ → Bool
is_plain_first c = not (is_gap c) && not (is_indicator c)

pub begins_first : (text : List ℕ) (flow : Bool) (i : ℕ) → begins_plain text flow i ≡ true
    → is_plain_first (at text i) ≡ true
begins_first text flow i h =
    let gap = and_parts (not (is_gap (at text i))) _ h in
    let other = and_parts (not (is_indicator (at text i))) _ gap.1 in
    and_from (not (is_gap (at text i))) (not (is_indicator (at text i))) gap.0 other.0

other_first : (c d : ℕ) → is_plain_first c ≡ true → is_plain_first d ≡ false → (c == d) ≡ false
other_first c d h other = ne_eqb c d (λ e. false≢true (sym other ∙ (ap is_plain_first (sym e) ∙ h)))

none_of : (x y z u v : Bool) → x ≡ false → y ≡ false → z ≡ false → u ≡ false → v ≡ false
    → (x || (y || (z || (u || v)))) ≡ false
none_of x y z u v p q r s t = rw (p, q, r, s, t) refl

pub first_stays : (text : List ℕ) (i : ℕ) → is_plain_first (at text i) ≡ true → wanders (at text i) ≡ false
first_stays text i h =
    let c = at text i in
    none_of (c == 32) (c == 10) (c == 35) (c == 38) (c == 33) (other_first c 32 h refl) (other_first c 10 h refl)
    (other_first c 35 h refl) (other_first c 38 h refl) (other_first c 33 h refl)

-- where no names stand
pub behind_none : (text : List ℕ) (flow : Bool) (r : Reader) (place : ℕ) → r.start.index ≡ place
    → r.start.late ≡ false → IsUnnamed r → wanders (at text place) ≡ false → IsBehindNames text flow r place
behind_none text flow r place there early gone w =
    let s = stays text place w in
    record {
      end = place;
      names = ap (names_at text flow) there ∙ s.names flow ∙ ap (λ (n : Names). Some (n, place)) (sym gone);
      in_line = s.in_line;
      there = sym s.here;
      early = early;
      line = subst (λ i. InLine text i place) (sym there) (line_none text place);
    }

-- and where some do
pub behind_some : (text : List ℕ) (flow : Bool) (r : Reader) (end place : ℕ)
    → names_at text flow r.start.index ≡ Some (names_of r, end) → breaks text end ≡ false → place ≡ next text end
    → r.start.late ≡ false → InLine text r.start.index end → IsBehindNames text flow r place
behind_some text flow r end place names whole there early line = record {
  end = end;
  names = names;
  in_line = whole;
  there = there;
  early = early;
  line = line_on text r.start.index end place line
      (subst (λ k. InLine text end k) (sym there) (next_line text end whole));
}

pub leaf_kept : (text : List ℕ) (a b : Reader) (leaf : code.Leaf) → b.start ≡ a.start → b.names ≡ a.names
    → IsFlowLeaf text a leaf → IsFlowLeaf text b leaf
leaf_kept text a b leaf start names (behind_names place x l line) =
    behind_names place (behind_kept text true a b place start names x) l
    (subst (λ s. InLine text s.index leaf.end) (sym start) line)
leaf_kept text a b leaf start names (names_alone read some early kind begins stops ends line) =
    names_alone
    (ap (λ s. names_at text true s.index) start ∙ read
    ∙ ap (λ n. let r : Names = record { anchor = n.anchor; tag = n.tag } in Some (r, leaf.end)) (sym names))
    (subst (λ s. s.index < leaf.end) (sym start) some) (ap (λ s. s.late) start ∙ early) kind begins stops ends
    (subst (λ s. InLine text s.index leaf.end) (sym start) line)

-- plain text
fourth_way : {A : Type 0} (x y z : Bool) (a b c d : A) → x ≡ false → y ≡ false → z ≡ false
    → (if x then a else if y then b else if z then c else d) ≡ d
fourth_way true y z a b c d p q r = absurd (false≢true (sym p))
fourth_way false true z a b c d p q r = absurd (false≢true (sym q))
fourth_way false false true a b c d p q r = absurd (false≢true (sym r))
fourth_way false false false a b c d p q r = refl

from_here : (from end : ℕ) → from ≤ end → from + (end - from) ≡ end
from_here from end low = omega (arith, low)

pub plain_leaf : (text : List ℕ) (context : Context) (i n e : ℕ) (said : List ℕ)
    → begins_plain text (is_flow context) i ≡ true → ◌≡◌ {A = Rest} (plain_at text context i) (Some (n, said)) → i + n ≡ e
    → leaf_at text context i ≡ Some (in_style style.Plain said, e)
plain_leaf text context i n e said begins h there =
    let first = begins_first text (is_flow context) i begins in
    fourth_way (at text i == 42) (at text i == 39) (at text i == 34) (alias_at text (is_flow context) (suc i))
    (styled style.SingleQuoted (suc i) (single_rest false false nothing_passed (drop (suc i) text)))
    (styled style.DoubleQuoted (suc i) (double_rest none false nothing_passed (drop (suc i) text)))
    (styled style.Plain i (plain_at text context i)) (other_first (at text i) 42 first refl)
    (other_first (at text i) 39 first refl) (other_first (at text i) 34 first refl)
    ∙ (ap (styled style.Plain i) h ∙ ap (λ k. let r : Leaf × ℕ = (in_style style.Plain said, k) in Some r) there)

-- a leaf as a node
pub style_read : (text : List ℕ) (old new : Reader) (d place e : ℕ) (how : ScalarStyle) (said : List ℕ) → IsOf text old
    → IsBehindNames text true old place → leaf_at text in_brackets place ≡ Some (in_style how said, e)
    → AddsScalar old new said how e → NodeRead text old new d old.start.index e
style_read text old new d place e how said of b leaf a = record {
  node = scalar_at text old.start.index (names_of old) how said e;
  stands = flow_leaf b.names b.in_line (ap (leaf_at text in_brackets) (sym b.there) ∙ leaf) refl;
  added = scalar_is text old new said said how e old.start.index of b.early refl refl a;
  unnamed = a.unnamed;
}

pub lines_read : (text : List ℕ) (old new : Reader) (d from to : ℕ) → IsOf text old → IsBehindNames text true old from
    → begins_plain text true from ≡ true → (a : AddsFlow old new from to) → NodeRead text old new d old.start.index a.end
lines_read text old new d from to of b begins a =
    style_read text old new d from a.end style.Plain a.said of b
    (plain_leaf text in_brackets from (a.end - from) a.end a.said begins
    (ap (λ t. plain_at t in_brackets from) (sym of.same) ∙ a.read) (from_here from a.end a.low))
    a.added

-- quotes
one_more : (i : ℕ) → suc i ≡ i + 1
one_more i = omega arith

quoted_leaf : (text : List ℕ) (quote : Quote) (i e : ℕ) (said : List ℕ) → at text i ≡ quote_of quote → i + 2 ≤ e
    → ◌≡◌ {A = Rest} (quoted_from text quote (suc i)) (Some (e - (i + 1), said))
    → leaf_at text in_brackets i ≡ Some (in_style (style_of quote) said, e)
quoted_leaf text Single i e said byte low h =
    let there : suc i + (e - (i + 1)) ≡ e = omega (arith, low) in
    rw (ap (λ c. c == 42) byte, ap (λ c. c == 39) byte)
    (ap (styled style.SingleQuoted (suc i)) h
    ∙ ap (λ k. let r : Leaf × ℕ = (in_style style.SingleQuoted said, k) in Some r) there)
quoted_leaf text Double i e said byte low h =
    let there : suc i + (e - (i + 1)) ≡ e = omega (arith, low) in
    rw (ap (λ c. c == 42) byte, ap (λ c. c == 39) byte, ap (λ c. c == 34) byte)
    (ap (styled style.DoubleQuoted (suc i)) h
    ∙ ap (λ k. let r : Leaf × ℕ = (in_style style.DoubleQuoted said, k) in Some r) there)

pub quoted_read : (text : List ℕ) (old new : Reader) (d place e : ℕ) (quote : Quote) → IsOf text old
    → IsBehindNames text true old place → at text place ≡ quote_of quote → place + 2 ≤ e
    → AddsQuoted old new quote (place + 1) e → NodeRead text old new d old.start.index e
quoted_read text old new d place e quote of b byte low a =
    style_read text old new d place e (style_of quote) a.said of b
    (quoted_leaf text quote place e a.said byte low
    (ap (quoted_from text quote) (one_more place) ∙ ap (λ t. quoted_from t quote (place + 1)) (sym of.same) ∙ a.read))
    a.added

-- a leaf that begins with a quote or with `*`
pub found_leaf : (text : List ℕ) (place : ℕ) (leaf : code.Leaf) → IsFound text true place leaf
    → is_plain_first (at text place) ≡ false → is_open leaf.kind ≡ false → IsLeaf text in_brackets place leaf
found_leaf text place leaf (plain_text p) first closed =
    absurd (false≢true (sym first ∙ begins_first text true place p.first.begins))
found_leaf text place leaf (an_alias byte a) first closed = whole_alias byte a
found_leaf text place leaf (in_quotes quote byte q) first closed =
    whole_quotes quote byte q (λ e. false≢true (sym closed ∙ ap is_open e))

pub open_quote : (text : List ℕ) (place : ℕ) (leaf : code.Leaf) (quote : Quote) → IsFound text true place leaf
    → leaf.kind ≡ Open quote → at text place ≡ quote_of quote
open_quote text place leaf quote (plain_text p) opened = absurd (not_open (sym p.kind ∙ opened))
  where
    not_open : Plain ≡ Open quote → ⊥
    not_open e = cc
open_quote text place leaf quote (an_alias byte a) opened = absurd (not_open (sym a.kind ∙ opened))
  where
    not_open : Alias ≡ Open quote → ⊥
    not_open e = cc
open_quote text place leaf quote (in_quotes q byte x) opened =
    let same : quote ≡ q = subst (λ k. HasKind text q leaf.begin leaf.stop leaf.end k) opened x.kind in
    byte ∙ ap quote_of (sym same)
