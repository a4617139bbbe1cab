-- What a reader in brackets has not read.
use Rattle.std.proofs.Common.{ℕ, ◌+◌, ◌-◌, ◌<◌, ◌≤◌, ◌≡◌, ◌≢◌, ◌⊎◌, ◌==◌, ◌&&◌, ◌||◌, not, Bool, true, false, List, Some}
use Rattle.std.proofs.Common.{None, length, refl, sym, subst, ap, ◌∙◌, arith, inl, inr, codes, drop}
use Rattle.std.proofs.lemmas.Bool.{and_left, and_right, false≢true, false_from_ne_true, leb-true, ne_eqb}
use Rattle.std.proofs.lemmas.Bool.{or_from}
use Rattle.std.specs.Prelude.{nat_le, slice_range}
use Rattle.yaml_base.specs.declared.event.ScalarStyle.TheVariants as style
use Rattle.yaml_direct.specs.Added.{HasNoLeaf}
use Rattle.yaml_direct.specs.Gaps.{begins_token}
use Rattle.yaml_direct.specs.Held.{names_of}
use Rattle.yaml_direct.specs.InBrackets.{IsBehindNames, IsFlowLeaf, IsOf, behind_names, names_alone}
use Rattle.yaml_direct.specs.LeftInBrackets.{LeavesNode}
use Rattle.yaml_direct.specs.Leaves.{IsLeaf}
use Rattle.yaml_direct.specs.PlainTexts.{IsFirstLine, LeavesFlow, is_tight}
use Rattle.yaml_direct.specs.Tokens.{HasNoToken}
use Rattle.yaml_direct.specs.declared.leaf.Leaf as code
use Rattle.yaml_direct.specs.declared.leaf.LeafKind.TheVariants.{Plain}
use Rattle.yaml_direct.specs.declared.reader.Reader.{Reader}
use Rattle.yaml_direct.proofs.AddedLeaves.{begun_plain, none_leaf, plain_at_is, plain_read}
use Rattle.yaml_direct.proofs.BracketLeaves.{begins_first, is_plain_first}
use Rattle.yaml_direct.proofs.BracketLeft.{cut_left, none_left}
use Rattle.yaml_direct.proofs.BracketMisses.{IsApart, NoNode, NodeIs, OnlyEnd, found_apart, is_collection, is_leaf, is_names}
use Rattle.yaml_direct.proofs.BracketMisses.{leaf_apart, no_node, node_is}
use Rattle.yaml_direct.proofs.BracketNothing.{cut_by, gap_end, parts_byte}
use Rattle.yaml_direct.proofs.FeedPlaces.{two_lines}
use Rattle.yaml_direct.proofs.FlowSays.{flow_whole}
use Rattle.yaml_direct.proofs.FurtherLines.{over_stops}
use Rattle.yaml_direct.proofs.LineLaws.{one_line}
use Rattle.yaml_direct.proofs.PlainEnds.{stops_later}
use Rattle.yaml_direct.proofs.PlainSays.{says_first}
use Rattle.yaml_grammar.specs.Brackets.{has_colon, part_after}
use Rattle.yaml_grammar.specs.Bytes.{at, is_bracket, is_gap, is_indicator, is_one_line, is_one_of, is_over, is_text, parts_documents}
use Rattle.yaml_grammar.specs.Folding.{Rest}
use Rattle.yaml_grammar.specs.Gaps.{before, breaks, gap, next}
use Rattle.yaml_grammar.specs.Leaves.{Leaf, in_style, leaf_at, styled}
use Rattle.yaml_grammar.specs.Plain.{begins_plain, in_brackets, is_safe, plain_at}
use Rattle.yaml_reading.proofs.BracketComplete.{bracket_opens}
use Rattle.yaml_reading.proofs.Forward.{names_ahead}
use Rattle.yaml_reading.proofs.Options.{pair_is}

-- no next part
pub part_none : (text : List ℕ) (close i : ℕ) → at text i ≢ close → at text i ≢ 44 → part_after text close i ≡ None
part_none text close i other comma = rw (ne_eqb (at text i) close other, ne_eqb (at text i) 44 comma) refl

-- a bracket that closes is a token, and no document is over there
pub closing_token : (text : List ℕ) (i c : ℕ) → at text i ≡ c → (c ≡ 93) ⊎ (c ≡ 125) → begins_token text i ≡ true
closing_token text i c e (inl is) = let byte : at text i ≡ 93 = e ∙ is in rw byte refl
closing_token text i c e (inr is) = let byte : at text i ≡ 125 = e ∙ is in rw byte refl

pub byte_goes_on : (text : List ℕ) (i : ℕ) → i < length text → at text i ≢ 45 → at text i ≢ 46 → is_over text i ≡ false
byte_goes_on text i inside dash dot =
    or_from (nat_le (length text) i) _
    (false_from_ne_true (nat_le (length text) i) (λ e. omega (arith, leb-true (length text) i e, inside)))
    (false_from_ne_true (parts_documents text i) (λ parted. elim (parts_byte text i parted) [
      | inl e ↦ dash e
      | inr e ↦ dot e
    ]))

pub closing_goes_on : (text : List ℕ) (i c : ℕ) → i < length text → at text i ≡ c → (c ≡ 93) ⊎ (c ≡ 125)
    → is_over text i ≡ false
closing_goes_on text i c inside e (inl is) =
    byte_goes_on text i inside (λ f. omega (arith, e, is, f)) (λ f. omega (arith, e, is, f))
closing_goes_on text i c inside e (inr is) =
    byte_goes_on text i inside (λ f. omega (arith, e, is, f)) (λ f. omega (arith, e, is, f))

-- where no key ends
pub no_key_lines : (text : List ℕ) (i e : ℕ) → is_one_line text i (next text e) ≡ false → has_colon text i e ≡ false
no_key_lines text i e lines =
    and_right (at text (next text e) == 58) _ (and_left (is_one_line text i (next text e)) _ lines)

pub no_key_far : (text : List ℕ) (i e k : ℕ) → k ≡ next text e → i + 1024 < k → has_colon text i e ≡ false
no_key_far text i e k there far =
    and_right (at text (next text e) == 58) _
    (and_right (is_one_line text i (next text e)) _
    (false_from_ne_true (nat_le (next text e) (i + 1024)) (λ h. omega
    (arith, leb-true (next text e) (i + 1024) h, there, far))))

-- two places that are not in one line stand so from further in front too
pub lines_before : (text : List ℕ) (i from j : ℕ) → i ≤ from → from ≤ j → is_one_line text from j ≡ false
    → is_one_line text i j ≡ false
lines_before text i from j low high lines = false_from_ne_true (is_one_line text i j) (λ whole.
    false≢true (sym lines ∙ one_line text from j high
    (λ k a b feed. false≢true (sym (two_lines text i j k (omega (arith, low, a)) b feed) ∙ whole))))

-- names go forward
pub behind_low : (text : List ℕ) (r : Reader) (place : ℕ) → IsBehindNames text true r place → r.start.index ≤ place
behind_low text r place b =
    let far : next text b.end ≡ b.end + (gap (before text b.end) (drop b.end text)).0 = refl in
    omega (arith, names_ahead text true r.start.index (names_of r, b.end) b.names, b.there, far)

pub behind_here : (text : List ℕ) (r : Reader) (place : ℕ) → (b : IsBehindNames text true r place)
    → r.start.index ≡ place → b.end ≡ r.start.index
behind_here text r place b same =
    let far : next text b.end ≡ b.end + (gap (before text b.end) (drop b.end text)).0 = refl in
    omega (arith, names_ahead text true r.start.index (names_of r, b.end) b.names, b.there, far, same)

-- a leaf behind names
pub only_leaf : (text : List ℕ) (r : Reader) (place e : ℕ) (x : Leaf) → IsBehindNames text true r place
    → leaf_at text in_brackets place ≡ Some (x, e) → OnlyEnd text r.start.index e
only_leaf text r place e x b h = λ d j n y.
    let apart = subst (λ k. IsApart text k) b.there (leaf_apart text place (x, e) h) in
    by_kind d j apart (node_is text d r.start.index b.end j (names_of r) n b.names y).1
  where
    by_kind : (d j : ℕ) → IsApart text (next text b.end) → NodeIs text d r.start.index (names_of r) b.end j → j ≡ e
    by_kind d j apart (is_leaf z n leaf is) =
        sym (pair_is x z e j (sym h ∙ (ap (leaf_at text in_brackets) b.there ∙ leaf))).1
    by_kind d j apart (is_collection n c) = absurd (false≢true (sym apart.bracket ∙ bracket_opens text c))
    by_kind d j apart (is_names some ends there) = absurd (false≢true (sym apart.alone ∙ ends))

-- and none
pub no_leaf_node : (text : List ℕ) (r : Reader) (place : ℕ) → IsBehindNames text true r place
    → HasNoLeaf text in_brackets (names_of r) place → IsApart text place → NoNode text r.start.index
no_leaf_node text r place b none apart =
    let a = subst (λ k. IsApart text k) b.there apart in
    no_node text r.start.index b.end (names_of r) b.names
    (subst (λ k. HasNoLeaf text in_brackets (names_of r) k) b.there none) a.bracket (inl a.alone)

-- a leaf that was not added
pub leaf_missed : (text : List ℕ) (r : Reader) (leaf : code.Leaf) → IsOf text r → IsFlowLeaf text r leaf
    → ((i : ℕ) → IsLeaf r.text.now in_brackets i leaf → HasNoLeaf r.text.now in_brackets (names_of r) i)
    → (leaf.kind ≡ Plain → ⊥) → NoNode text r.start.index
leaf_missed text r leaf of (behind_names place b l line) missed plain =
    no_leaf_node text r place b
    (subst (λ t. HasNoLeaf t in_brackets (names_of r) place) of.same
    (missed place (subst (λ t. IsLeaf t in_brackets place leaf) (sym of.same) l)))
    (found_apart text place leaf l)
leaf_missed text r leaf of (names_alone names some early kind begins stops ends line) missed plain = absurd (plain kind)

-- plain text begins with no such byte
unsafe : (g b q : Bool) → (not g && not (true && (b || (q || true)))) ≡ false
unsafe true b q = refl
unsafe false true q = refl
unsafe false false true = refl
unsafe false false false = refl

all_false : (x y z m s : Bool) → m ≡ true → s ≡ false → (x && (y && (z && (not m || s)))) ≡ false
all_false true true true m s p q = rw (p, q) refl
all_false true true false m s p q = refl
all_false true false z m s p q = refl
all_false false y z m s p q = refl

colon_begins : (text : List ℕ) (i : ℕ) → at text i ≡ 58 → begins_plain text true i ≡ false
colon_begins text i e =
    let d = at text (i + 1) in
    all_false (not (is_gap (at text i))) (not (is_indicator (at text i))) (not (parts_documents text i))
    (is_one_of (codes "-?:") (at text i)) (is_safe true (at text i) d) (ap (is_one_of (codes "-?:")) e)
    (ap (λ c. is_safe true c d) e ∙ unsafe (is_gap d) (is_bracket d) (58 == 63))

pub plain_apart : (text : List ℕ) (i : ℕ) → begins_plain text true i ≡ true → IsApart text i
plain_apart text i h =
    let first = begins_first text true i h in
    let other : (c : ℕ) → is_plain_first c ≡ false → (at text i == c) ≡ false =
    λ c f. ne_eqb (at text i) c (λ e. false≢true (sym f ∙ (ap is_plain_first (sym e) ∙ first))) in
    record {
      bracket = or_from (at text i == 91) (at text i == 123) (other 91 refl) (other 123 refl);
      alone = or_from (at text i == 44) _ (other 44 refl)
          (or_from (at text i == 93) _ (other 93 refl)
          (or_from (at text i == 125) _ (other 125 refl)
          (or_from (at text i == 58) false
          (ne_eqb (at text i) 58 (λ e. false≢true (sym (colon_begins text i e) ∙ h))) refl)));
    }

plain_none : (text : List ℕ) (i : ℕ) → begins_plain text true i ≡ true
    → ◌≡◌ {A = Rest} (plain_at text in_brackets i) None → leaf_at text in_brackets i ≡ None
plain_none text i begins h =
    plain_at_is text in_brackets i (begun_plain text true i begins) ∙ ap (styled style.Plain i) h

pub no_plain_node : (text : List ℕ) (r : Reader) (place : ℕ) → IsBehindNames text true r place
    → begins_plain text true place ≡ true → ◌≡◌ {A = Rest} (plain_at text in_brackets place) None
    → NoNode text r.start.index
no_plain_node text r place b begins h =
    no_leaf_node text r place b
    (none_leaf text in_brackets (names_of r) place (plain_none text place begins h)) (plain_apart text place begins)

pub only_plain : (text : List ℕ) (r : Reader) (place e : ℕ) (said : List ℕ) → IsBehindNames text true r place → place ≤ e
    → ◌≡◌ {A = Rest} (plain_at text in_brackets place) (Some (e - place, said)) → OnlyEnd text r.start.index e
only_plain text r place e said b low h =
    only_leaf text r place e (in_style style.Plain said) b (plain_read text in_brackets place e said low h)

-- plain text over lines that was left
pub lines_left : (text : List ℕ) (r : Reader) (from : ℕ) → IsBehindNames text true r from
    → begins_plain text true from ≡ true → LeavesFlow text from → LeavesNode text r.start.index
lines_left text r from b begins l = elim l.read [
  | inl none ↦ none_left text r.start.index (no_plain_node text r from b begins none)
  | inr read ↦
      let far : next text l.end ≡ l.end + (gap (before text l.end) (drop l.end text)).0 = refl in
      cut_left text r.start.index l.end (only_plain text r from l.end l.said b l.low read)
      (record {
        part = l.left;
        key = no_key_lines text r.start.index l.end
            (lines_before text r.start.index from (next text l.end) (behind_low text r from b)
            (omega (arith, l.low, far)) l.lines);
      })
]

-- plain text in a line behind which no token of brackets follows
pub first_left : (text : List ℕ) (r : Reader) (from end : ℕ) → is_text text ≡ true → IsBehindNames text true r from
    → IsFirstLine text true from end → from ≤ end → end ≤ length text
    → HasNoToken text end ⊎ (is_over text (next text end) ≡ true) → LeavesNode text r.start.index
first_left text r from end h b first low within gap =
    let o = gap_end text end gap in
    let loose : is_tight text (next text end) ≡ false = and_left (at text (next text end) == 58) _ o.colon in
    let says = says_first in_brackets text from end h first low within in
    let later : breaks text end ≡ true → stops_later in_brackets text (next text end) ≡ true = elim gap [
      | inl n ↦ λ broken. absurd (false≢true (sym n.in_line ∙ broken))
      | inr over ↦ λ broken. over_stops in_brackets text (next text end) over
    ] in
    let read = flow_whole text from end (slice_range text from end) h says later false (λ _. loose) (λ _. refl) in
    cut_left text r.start.index end (only_plain text r from end (slice_range text from end) b low read)
    (cut_by text r.start.index end o)
