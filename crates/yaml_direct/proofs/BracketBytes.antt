-- By which byte a part in brackets begins, and what follows a node.
use Rattle.std.proofs.Common.{ℕ, suc, ◌+◌, ◌-◌, ◌<◌, ◌≤◌, ◌≡◌, ◌≢◌, ◌⊎◌, ◌==◌, ◌||◌, Bool, true, false, List, Some}
use Rattle.std.proofs.Common.{None, length, refl, sym, subst, ap, ◌∙◌, arith, inl, inr, drop}
use Rattle.std.proofs.lemmas.Bool.{eq-eqb, eqb-true, false≢true, ne_eqb, not-true, or_cases, or_from, or_parts}
use Rattle.std.specs.Prelude.{Option}
use denote.Enum.Bare.{sameb}
use Rattle.yaml_direct.specs.contracts.flow.Slot.{the_type}
use Rattle.yaml_direct.specs.Gaps.{begins_token}
use Rattle.yaml_direct.specs.Held.{names_of}
use Rattle.yaml_direct.specs.InBrackets.{IsBehindNames, IsFlowPart, opens, quotes}
use Rattle.yaml_direct.specs.LeftInBrackets.{IsCutOff, IsLeftOpen, IsOtherByte, LeavesPart, LeavesValue, Passes}
use Rattle.yaml_direct.specs.LeftInBrackets.{ends_names, ends_part, other, passed}
use Rattle.yaml_direct.specs.Leaves.{IsFound, an_alias, in_quotes, plain_text}
use Rattle.yaml_direct.specs.PlainTexts.{IsFirstLine, flow_line, is_tight}
use Rattle.yaml_direct.specs.Quoted.{quoted_from}
use Rattle.yaml_direct.specs.declared.flow.Slot.{Slot}
use Rattle.yaml_direct.specs.declared.flow.Slot.TheVariants.{Entry, Item, Value}
use Rattle.yaml_direct.specs.declared.leaf.Leaf as code
use Rattle.yaml_direct.specs.declared.quote.Quote.{Quote}
use Rattle.yaml_direct.specs.declared.reader.Reader.{Reader}
use Rattle.yaml_direct.proofs.AddedLeaves.{no_plain, none_leaf}
use Rattle.yaml_direct.proofs.BracketFails.{behind_here, no_key_lines}
use Rattle.yaml_direct.proofs.BracketLeaves.{begins_first, is_plain_first}
use Rattle.yaml_direct.proofs.BracketLeft.{entry_left}
use Rattle.yaml_direct.proofs.BracketMisses.{IsApart, NoNode, OnlyEnd, no_node}
use Rattle.yaml_direct.proofs.BracketReads.{NodeRead}
use Rattle.yaml_direct.proofs.FeedPlaces.{two_lines}
use Rattle.yaml_direct.proofs.NextLaws.{token_here}
use Rattle.yaml_direct.proofs.PlainSays.{line_some}
use Rattle.yaml_direct.proofs.SinglePasses.{open_feed}
use Rattle.yaml_grammar.specs.Brackets.{has_colon}
use Rattle.yaml_grammar.specs.Bytes.{at}
use Rattle.yaml_grammar.specs.Folding.{Rest}
use Rattle.yaml_grammar.specs.Gaps.{before, gap, next}
use Rattle.yaml_grammar.specs.Leaves.{leaf_at}
use Rattle.yaml_grammar.specs.Names.{Names, names_at}
use Rattle.yaml_grammar.specs.Nodes.{Marked}
use Rattle.yaml_grammar.specs.Plain.{begins_plain, in_brackets}
use Rattle.yaml_reading.proofs.Begins.{no_leaf_at, wanders}
use Rattle.yaml_reading.proofs.BracketReading.{one_node}

-- a byte that is none of those
pub no_open_byte : (c : ℕ) → c ≢ 91 → c ≢ 123 → opens c ≡ false
no_open_byte c a b = or_from (c == 91) (c == 123) (ne_eqb c 91 a) (ne_eqb c 123 b)

pub no_quote_byte : (c : ℕ) → c ≢ 34 → c ≢ 39 → c ≢ 42 → quotes c ≡ false
no_quote_byte c a b x = or_from (c == 34) _ (ne_eqb c 34 a) (or_from (c == 39) (c == 42) (ne_eqb c 39 b) (ne_eqb c 42 x))

pub no_end_byte : (c : ℕ) → c ≢ 44 → c ≢ 93 → c ≢ 125 → c ≢ 58 → ends_names c ≡ false
no_end_byte c a b x y =
    or_from (c == 44) _ (ne_eqb c 44 a) (or_from (c == 93) _ (ne_eqb c 93 b) (or_from (c == 125) _ (ne_eqb c 125 x)
    (or_from (c == 58) false (ne_eqb c 58 y) refl)))

pub no_part_byte : (c : ℕ) → c ≢ 44 → c ≢ 93 → c ≢ 125 → ends_part c ≡ false
no_part_byte c a b x =
    or_from (c == 44) _ (ne_eqb c 44 a) (or_from (c == 93) _ (ne_eqb c 93 b)
    (or_from (c == 125) false (ne_eqb c 125 x) refl))

-- no leaf was found
pub none_else : (found : Option code.Leaf) → ((leaf : code.Leaf) → found ≡ Some leaf → ⊥) → found ≡ None
none_else None h = refl
none_else (Some leaf) h = absurd (h leaf refl)

-- no names begin with it
pub token_stays : (text : List ℕ) (i : ℕ) → begins_token text i ≡ true → at text i ≢ 38 → at text i ≢ 33
    → wanders (at text i) ≡ false
token_stays text i h and' mark =
    let space = or_parts (at text i == 32) _ (not-true _ h) in
    let feed = or_parts (at text i == 10) _ space.1 in
    let sharp = (or_parts (at text i == 13) (at text i == 35) feed.1).1 in
    or_from (at text i == 32) _ space.0 (or_from (at text i == 10) _ feed.0 (or_from (at text i == 35) _ sharp
    (or_from (at text i == 38) (at text i == 33) (ne_eqb (at text i) 38 and') (ne_eqb (at text i) 33 mark))))

-- `&` or `!`
abbrev pub is_sign : ℕ → Bool
is_sign c = c == 38 || c == 33

pub sign_byte : (c : ℕ) → is_sign c ≡ true → (c ≡ 38) ⊎ (c ≡ 33)
sign_byte c h = elim (or_cases (c == 38) (c == 33) h) [
  | inl e ↦ inl (eqb-true c 38 e)
  | inr e ↦ inr (eqb-true c 33 e)
]

-- where such a one begins no names, no node stands
pub sign_none : (text : List ℕ) (i : ℕ) (names : Names) → (at text i ≡ 38) ⊎ (at text i ≡ 33)
    → names_at text true i ≡ Some (names, i) → NoNode text i
sign_none text i names (inl e) h =
    let here = token_here text i (λ f. omega (arith, e, f)) (λ f. omega (arith, e, f)) (λ f. omega (arith, e, f)) in
    no_node text i i names h
    (none_leaf text in_brackets names (next text i)
    (ap (leaf_at text in_brackets) here.there ∙ no_leaf_at text in_brackets i 38 e refl))
    (ap (λ q. opens (at text q)) here.there ∙ ap opens e) (inr refl)
sign_none text i names (inr e) h =
    let here = token_here text i (λ f. omega (arith, e, f)) (λ f. omega (arith, e, f)) (λ f. omega (arith, e, f)) in
    no_node text i i names h
    (none_leaf text in_brackets names (next text i)
    (ap (leaf_at text in_brackets) here.there ∙ no_leaf_at text in_brackets i 33 e refl))
    (ap (λ q. opens (at text q)) here.there ∙ ap opens e) (inr refl)

-- a quote or `*`
pub quote_apart : (text : List ℕ) (i : ℕ) → quotes (at text i) ≡ true → IsApart text i
quote_apart text i h = elim (or_cases (at text i == 34) _ h) [
  | inl e ↦ of_byte 34 (eqb-true (at text i) 34 e) refl refl
  | inr h ↦ elim (or_cases (at text i == 39) (at text i == 42) h) [
    | inl e ↦ of_byte 39 (eqb-true (at text i) 39 e) refl refl
    | inr e ↦ of_byte 42 (eqb-true (at text i) 42 e) refl refl
  ]
]
  where
    of_byte : (c : ℕ) → at text i ≡ c → opens c ≡ false → ends_names c ≡ false → IsApart text i
    of_byte c e x y = record { bracket = ap opens e ∙ x; alone = ap ends_names e ∙ y }

-- no other byte begins a node where no plain text begins
pub no_other : (text : List ℕ) (r : Reader) (place : ℕ) → IsBehindNames text true r place
    → IsOtherByte text r.start.index place → begins_plain text true place ≡ false → NoNode text r.start.index
no_other text r place b o none =
    let double = or_parts (at text place == 34) _ o.quote in
    let single = or_parts (at text place == 39) (at text place == 42) double.1 in
    let other : (c : ℕ) → (at text place == c) ≡ false → at text place ≢ c =
    λ c f e. false≢true (sym f ∙ eq-eqb (at text place) c e) in
    let leaf = no_plain text in_brackets place (other 42 single.1) (other 39 single.0) (other 34 double.0) none in
    no_node text r.start.index b.end (names_of r) b.names
    (none_leaf text in_brackets (names_of r) (next text b.end) (ap (leaf_at text in_brackets) (sym b.there) ∙ leaf))
    (ap (λ q. opens (at text q)) (sym b.there) ∙ o.bracket)
    (elim o.alone [
      | inl apart ↦ inl (ap (λ q. ends_names (at text q)) (sym b.there) ∙ apart)
      | inr same ↦ inr (behind_here text r place b same)
    ])

-- a node that was read ends where each does that stands there
pub read_end : (text : List ℕ) (old new : Reader) (d i e : ℕ) → NodeRead text old new d i e → OnlyEnd text i e
read_end text old new d i e x = λ c j n y. (one_node text c d i j e n x.node y x.stands).0

-- before a `:` that ends no key
pub colon_cut : (text : List ℕ) (i e k : ℕ) → k ≡ next text e → at text k ≡ 58 → has_colon text i e ≡ false
    → IsCutOff text i e
colon_cut text i e k there byte key = record { part = ap ends_part (ap (at text) (sym there) ∙ byte); key = key }

-- plain text has a byte
pub first_some : (text : List ℕ) (from end : ℕ) → IsFirstLine text true from end → from ≤ end → end ≤ length text
    → from < end
first_some text from end first low within = line_some text true from end first.line low first.goes first.some

pub tight_none : (text : List ℕ) (from end : ℕ) → is_tight text (next text end) ≡ true
    → ◌≡◌ {A = Rest} (flow_line text from end) None
tight_none text from end h = rw h refl

-- a leaf in quotes, or an alias, has a byte before its text
pub leaf_some : (text : List ℕ) (i : ℕ) (leaf : code.Leaf) → IsFound text true i leaf
    → is_plain_first (at text i) ≡ false → leaf.begin ≤ leaf.end → i < leaf.end
leaf_some text i leaf (an_alias star a) first low = omega (arith, a.begins, low)
leaf_some text i leaf (in_quotes quote byte q) first low = omega (arith, q.begins, low)
leaf_some text i leaf (plain_text p) first low =
    absurd (false≢true (sym first ∙ begins_first text true i p.first.begins))

-- quotes that are not closed in their line end no key
pub open_no_key : (text : List ℕ) (quote : Quote) (i place stop e : ℕ) (said : List ℕ) → i ≤ place
    → IsLeftOpen text quote (place + 1) stop → place + 1 ≤ stop → place + 2 ≤ e
    → ◌≡◌ {A = Rest} (quoted_from text quote (place + 1)) (Some (e - (place + 1), said)) → has_colon text i e ≡ false
open_no_key text quote i place stop e said low opened forward behind read =
    let f = open_feed text quote (place + 1) stop (e - (place + 1)) said opened forward read in
    let far : next text e ≡ e + (gap (before text e) (drop e text)).0 = refl in
    no_key_lines text i e
    (two_lines text i (next text e) f.place (omega (arith, low, f.low)) (omega (arith, f.high, behind, far)) f.feed)

-- the value of a pair
pub value_of_pair : (text : List ℕ) (d c k e : ℕ) → d ≡ suc c → k ≡ next text e
    → LeavesValue text (d - 1) (next text (k + 1)) → LeavesValue text c (next text (suc (next text e)))
value_of_pair text d c k e same there left =
    let less : d - 1 ≡ c = omega (arith, same) in
    let place : k + 1 ≡ suc (next text e) = omega (arith, there) in
    subst (λ q. LeavesValue text c (next text q)) place
    (subst (λ m. LeavesValue text m (next text (k + 1))) less left)

-- and of an entry
pub key_left : (text : List ℕ) (d i k : ℕ) (es : List Marked) → at text k ≡ 58 → IsFlowPart text Entry d i k es
    → LeavesValue text d (next text (k + 1)) → LeavesPart text Entry d i
key_left text d i k es colon (inr x) left = absurd (x.0 colon)
key_left text d i k es colon (inl x) left =
    let place : k + 1 ≡ suc (next text x.end) = omega (arith, x.there) in
    entry_left text d i x.end (λ c j n y. (one_node text c d i j x.end n x.node y x.stands).0)
    (ap ends_part (ap (at text) (sym x.there) ∙ colon)) (subst (λ q. LeavesValue text d (next text q)) place left)

pub eq_value : (s : Slot) (b : Bool) → b ≡ sameb the_type s Value → b ≡ true → s ≡ Value
eq_value Item b h t = absurd (false≢true (sym h ∙ t))
eq_value Entry b h t = absurd (false≢true (sym h ∙ t))
eq_value Value b h t = refl

-- bytes between quotes go forward
passes_low : (text : List ℕ) (quote : Quote) (i j : ℕ) → Passes text quote i j → i ≤ j
passes_low text quote i j passed = omega arith
passes_low text quote i j (other k is low run rest) = omega (arith, low, passes_low text quote k j rest)

pub open_forward : (text : List ℕ) (quote : Quote) (i j : ℕ) → IsLeftOpen text quote i j → i ≤ j
open_forward text quote i j o = omega (arith, o.forward, passes_low text quote o.first j o.passes)
