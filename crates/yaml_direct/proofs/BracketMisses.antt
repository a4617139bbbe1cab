-- Where a node in brackets ends, and where none stands.
use Rattle.std.proofs.Common.{ℕ, ◌+◌, ◌-◌, ◌<◌, ◌≤◌, ◌≡◌, ◌≢◌, ◌⊎◌, ◌==◌, Bool, true, false, List, Some, None, refl}
use Rattle.std.proofs.Common.{sym, subst, ap, ◌∙◌, arith, inl, inr}
use Rattle.std.proofs.lemmas.Bool.{eqb-true, false≢true, ltb-true, ne_eqb, or_cases, or_from}
use Rattle.std.specs.Prelude.{slice_range}
use Rattle.yaml_base.specs.declared.event.ScalarStyle.TheVariants as style
use Rattle.yaml_direct.specs.Added.{HasNoLeaf}
use Rattle.yaml_direct.specs.Held.{names_of}
use Rattle.yaml_direct.specs.InBrackets.{IsBehindNames, IsFlowLeaf, behind_names, names_alone, opens}
use Rattle.yaml_direct.specs.Leaves.{IsLeaf, whole_alias, whole_plain, whole_quotes}
use Rattle.yaml_direct.specs.LeftInBrackets.{ends_names}
use Rattle.yaml_direct.specs.Quoted.{HasKind, quoted_from, style_of}
use Rattle.yaml_direct.specs.declared.leaf.Leaf as code
use Rattle.yaml_direct.specs.declared.leaf.LeafKind.{LeafKind}
use Rattle.yaml_direct.specs.declared.leaf.LeafKind.TheVariants.{Alias, Escaped, Open, Plain, Quoted}
use Rattle.yaml_direct.specs.declared.quote.Quote.{Quote}
use Rattle.yaml_direct.specs.declared.quote.Quote.TheVariants.{Double, Single}
use Rattle.yaml_direct.specs.declared.reader.Reader.{Reader}
use Rattle.yaml_direct.proofs.AddedLeaves.{plain_read, quotes_at, star_at}
use Rattle.yaml_direct.proofs.SinglePasses.{quote_end}
use Rattle.yaml_grammar.specs.Brackets.{Brackets, FlowNode, begins_collection, flow_collection, flow_leaf, flow_names}
use Rattle.yaml_grammar.specs.Brackets.{opens_behind}
use Rattle.yaml_grammar.specs.Bytes.{at}
use Rattle.yaml_grammar.specs.Folding.{Rest}
use Rattle.yaml_grammar.specs.Gaps.{breaks, next}
use Rattle.yaml_grammar.specs.Leaves.{Leaf, in_style, leaf_at, leaf_node, to_anchor}
use Rattle.yaml_grammar.specs.Names.{Names, names_at}
use Rattle.yaml_grammar.specs.Nodes.{Node}
use Rattle.yaml_grammar.specs.Plain.{in_brackets}
use Rattle.yaml_reading.proofs.Begins.{leaf_no, no_leaf_colon}
use Rattle.yaml_reading.proofs.BracketComplete.{bracket_opens}
use Rattle.yaml_reading.proofs.Options.{map_some, no_some, pair_is}

-- no node stands here, within however many nestings
abbrev pub NoNode : List ℕ → ℕ → Type 0
NoNode text i = (d j : ℕ) (n : Node) → FlowNode text d i j n → ⊥

-- each node that stands here ends there
abbrev pub OnlyEnd : List ℕ → (i e : ℕ) → Type 0
OnlyEnd text i e = (d j : ℕ) (n : Node) → FlowNode text d i j n → j ≡ e

-- a node behind names that are known
pub data NodeIs (text : List ℕ) (d i : ℕ) (names : Names) (p j : ℕ) : Type 0 where
  is_leaf : (x : Leaf) (n : Node) → leaf_at text in_brackets (next text p) ≡ Some (x, j)
      → leaf_node text i names x j ≡ Some n → NodeIs text d i names p j
  is_collection : (n : Node) → Brackets text d i names (next text p) j n → NodeIs text d i names p j
  is_names : i < p → ends_names (at text (next text p)) ≡ true → j ≡ p → NodeIs text d i names p j

pub node_is : (text : List ℕ) (d i p j : ℕ) (names : Names) (n : Node) → names_at text true i ≡ Some (names, p)
    → FlowNode text d i j n → (breaks text p ≡ false) × NodeIs text d i names p j
node_is text d i p j names n h (flow_leaf {p = q} {names = ms} {x = x} g line leaf is) =
    let same = pair_is ms names q p (sym g ∙ h) in (
      subst (λ k. breaks text k ≡ false) same.1 line,
      is_leaf x n (ap (λ k. leaf_at text in_brackets (next text k)) (sym same.1) ∙ leaf)
          (ap (λ m. leaf_node text i m x j) (sym same.0) ∙ is),
    )
node_is text d i p j names n h (flow_collection {p = q} {names = ms} g line b) =
    let same = pair_is ms names q p (sym g ∙ h) in (
      subst (λ k. breaks text k ≡ false) same.1 line,
      is_collection n (subst (λ k. Brackets text d i names (next text k) j n) same.1
          (subst (λ m. Brackets text d i m (next text q) j n) same.0 b)),
    )
node_is text d i p j names n h (flow_names {names = ms} g some line ends) =
    let same = pair_is ms names j p (sym g ∙ h) in (
      subst (λ k. breaks text k ≡ false) same.1 line,
      is_names (subst (λ k. i < k) same.1 (ltb-true i j some))
          (subst (λ k. ends_names (at text (next text k)) ≡ true) same.1 ends) same.1,
    )

-- what begins a leaf begins nothing else
pub record IsApart (text : List ℕ) (i : ℕ) : Type 0 where
  pub bracket : opens (at text i) ≡ false
  pub alone : ends_names (at text i) ≡ false

apart_by : (text : List ℕ) (i c : ℕ) → at text i ≡ c → opens c ≡ false → ends_names c ≡ false → IsApart text i
apart_by text i c e x y = record { bracket = ap opens e ∙ x; alone = ap ends_names e ∙ y }

pub leaf_apart : (text : List ℕ) (i : ℕ) (r : Leaf × ℕ) → leaf_at text in_brackets i ≡ Some r → IsApart text i
leaf_apart text i r h =
    let other : (c : ℕ) → at text i ≢ c → (at text i == c) ≡ false = λ c e. ne_eqb (at text i) c e in
    record {
      bracket = or_from (at text i == 91) (at text i == 123) (other 91 (leaf_no text in_brackets i 91 r h refl))
          (other 123 (leaf_no text in_brackets i 123 r h refl));
      alone = or_from (at text i == 44) _ (other 44 (leaf_no text in_brackets i 44 r h refl))
          (or_from (at text i == 93) _ (other 93 (leaf_no text in_brackets i 93 r h refl))
          (or_from (at text i == 125) _ (other 125 (leaf_no text in_brackets i 125 r h refl))
          (or_from (at text i == 58) false (other 58 (λ e. no_some r (sym (no_leaf_colon text i e) ∙ h))) refl)));
    }

pub found_apart : (text : List ℕ) (i : ℕ) (leaf : code.Leaf) → IsLeaf text in_brackets i leaf → IsApart text i
found_apart text i leaf (whole_plain kind begins stops low read) =
    leaf_apart text i (in_style style.Plain (slice_range text i leaf.end), leaf.end)
    (plain_read text in_brackets i leaf.end (slice_range text i leaf.end) low read)
found_apart text i leaf (whole_alias star a) = apart_by text i 42 star refl refl
found_apart text i leaf (whole_quotes Single byte q shut) = apart_by text i 39 byte refl refl
found_apart text i leaf (whole_quotes Double byte q shut) = apart_by text i 34 byte refl refl

-- no bracket is one of these
pub no_open_end : (c : ℕ) → ends_names c ≡ true → opens c ≡ true → ⊥
no_open_end c e o = elim (or_cases (c == 91) (c == 123) o) [
  | inl h ↦ false≢true (sym (ap ends_names (eqb-true c 91 h)) ∙ e)
  | inr h ↦ false≢true (sym (ap ends_names (eqb-true c 123 h)) ∙ e)
]

-- a leaf that was found ends where the leaf does that is defined
quoted_kind : (text : List ℕ) (quote : Quote) (begin stop end n : ℕ) (said : List ℕ) (kind : LeafKind)
    → HasKind text quote begin stop end kind → (kind ≡ Open quote → ⊥) → begin ≤ end
    → ◌≡◌ {A = Rest} (quoted_from text quote begin) (Some (n, said)) → begin + n ≡ end
quoted_kind text quote begin stop end n said Plain h shut low read = absurd h
quoted_kind text quote begin stop end n said Alias h shut low read = absurd h
quoted_kind text quote begin stop end n said (Quoted q) h shut low read =
    let size = (pair_is (end - begin) n (slice_range text begin stop) said (sym h.1 ∙ read)).0 in
    omega (arith, size, low)
quoted_kind text quote begin stop end n said (Escaped q) h shut low read =
    quote_end text quote begin stop n said h.1.1 read ∙ sym h.1.0
quoted_kind text quote begin stop end n said (Open q) h shut low read = absurd (shut (ap Open h))

pub leaf_end : (text : List ℕ) (i e : ℕ) (leaf : code.Leaf) (x : Leaf) → IsLeaf text in_brackets i leaf
    → leaf.begin ≤ leaf.end → leaf_at text in_brackets i ≡ Some (x, e) → e ≡ leaf.end
leaf_end text i e leaf x (whole_plain kind begins stops low read) part h =
    sym (pair_is (in_style style.Plain (slice_range text i leaf.end)) x leaf.end e
    (sym (plain_read text in_brackets i leaf.end (slice_range text i leaf.end) low read) ∙ h)).1
leaf_end text i e leaf x (whole_alias star a) part h =
    sym (pair_is (to_anchor (slice_range text (i + 1) leaf.end)) x leaf.end e
    (sym (star_at text in_brackets i leaf.end star a.name) ∙ h)).1
leaf_end text i e leaf x (whole_quotes quote byte q shut) part h =
    let t = map_some (quoted_from text quote (i + 1)) _ (x, e) (sym (quotes_at text in_brackets quote i byte) ∙ h) in
    let there : i + 1 + t.0.0 ≡ e =
    (pair_is (in_style (style_of quote) t.0.1) x (i + 1 + t.0.0) e (ap Some t.2)).1 in
    let read = subst (λ b. ◌≡◌ {A = Rest} (quoted_from text quote b) (Some t.0)) (sym q.begins) t.1 in
    let size = quoted_kind text quote leaf.begin leaf.stop leaf.end t.0.0 t.0.1 leaf.kind q.kind shut part read in
    omega (arith, there, size, q.begins)

-- so a node that begins with it ends there too
pub node_end : (text : List ℕ) (r : Reader) (leaf : code.Leaf) → IsFlowLeaf text r leaf → leaf.begin ≤ leaf.end
    → OnlyEnd text r.start.index leaf.end
node_end text r leaf (behind_names place b l line) part = λ d j n x.
    let apart = subst (λ k. IsApart text k) b.there (found_apart text place leaf l) in
    by_kind d j apart (node_is text d r.start.index b.end j (names_of r) n b.names x).1
  where
    by_kind : (d j : ℕ) → IsApart text (next text b.end) → NodeIs text d r.start.index (names_of r) b.end j → j ≡ leaf.end
    by_kind d j apart (is_leaf x n h is) =
        leaf_end text place j leaf x l part (ap (leaf_at text in_brackets) b.there ∙ h)
    by_kind d j apart (is_collection n c) = absurd (false≢true (sym apart.bracket ∙ bracket_opens text c))
    by_kind d j apart (is_names some ends there) = absurd (false≢true (sym apart.alone ∙ ends))
node_end text r leaf (names_alone names some early kind begins stops ends line) part = λ d j n x.
    by_kind d j (node_is text d r.start.index leaf.end j (names_of r) n names x).1
  where
    by_kind : (d j : ℕ) → NodeIs text d r.start.index (names_of r) leaf.end j → j ≡ leaf.end
    by_kind d j (is_leaf x n h is) =
        absurd (false≢true (sym (leaf_apart text (next text leaf.end) (x, j) h).alone ∙ ends))
    by_kind d j (is_collection n c) =
        absurd (no_open_end (at text (next text leaf.end)) ends (bracket_opens text c))
    by_kind d j (is_names some ends there) = there

-- no node stands where no leaf does
pub no_node : (text : List ℕ) (i p : ℕ) (names : Names) → names_at text true i ≡ Some (names, p)
    → HasNoLeaf text in_brackets names (next text p) → opens (at text (next text p)) ≡ false
    → (ends_names (at text (next text p)) ≡ false) ⊎ (p ≡ i) → NoNode text i
no_node text i p names h none shut other d j n x =
    by_kind (node_is text d i p j names n h x).1
  where
    by_kind : NodeIs text d i names p j → ⊥
    by_kind (is_leaf y m leaf is) = no_some m (sym (none y j leaf i) ∙ is)
    by_kind (is_collection m c) = false≢true (sym shut ∙ bracket_opens text c)
    by_kind (is_names some ends there) = elim other [
      | inl apart ↦ false≢true (sym apart ∙ ends)
      | inr same ↦ omega (arith, some, same)
    ]

pub broken_node : (text : List ℕ) (i p : ℕ) (names : Names) → names_at text true i ≡ Some (names, p)
    → breaks text p ≡ true → NoNode text i
broken_node text i p names h broken d j n x =
    false≢true (sym (node_is text d i p j names n h x).0 ∙ broken)

pub nameless : (text : List ℕ) (i : ℕ) → names_at text true i ≡ None → NoNode text i
nameless text i h d j n (flow_leaf g line leaf is) = no_some _ (sym h ∙ g)
nameless text i h d j n (flow_collection g line b) = no_some _ (sym h ∙ g)
nameless text i h d j n (flow_names g some line ends) = no_some _ (sym h ∙ g)

-- whether a collection begins
pub leaf_begins : (text : List ℕ) (r : Reader) (leaf : code.Leaf) → IsFlowLeaf text r leaf
    → begins_collection text r.start.index ≡ false
leaf_begins text r leaf (behind_names place b l line) =
    ap (opens_behind text) b.names ∙ ap (λ k. opens (at text k)) (sym b.there) ∙ (found_apart text place leaf l).bracket
leaf_begins text r leaf (names_alone names some early kind begins stops ends line) =
    ap (opens_behind text) names ∙ no_open (opens (at text (next text leaf.end))) (no_open_end (at text (next text leaf.end)) ends)
  where
    no_open : (b : Bool) → (b ≡ true → ⊥) → b ≡ false
    no_open true h = absurd (h refl)
    no_open false h = refl

pub bracket_begins : (text : List ℕ) (r : Reader) (place : ℕ) → IsBehindNames text true r place
    → opens (at text place) ≡ true → begins_collection text r.start.index ≡ true
bracket_begins text r place b opened =
    ap (opens_behind text) b.names ∙ ap (λ k. opens (at text k)) (sym b.there) ∙ opened

-- no node stands where a collection would that does not
pub no_collection : (text : List ℕ) (r : Reader) (d place : ℕ) → IsBehindNames text true r place
    → opens (at text place) ≡ true
    → ((i j : ℕ) (names : Names) (n : Node) → Brackets text d i names place j n → ⊥)
    → (j : ℕ) (n : Node) → FlowNode text d r.start.index j n → ⊥
no_collection text r d place b opened none j n x =
    by_kind (node_is text d r.start.index b.end j (names_of r) n b.names x).1
  where
    by_kind : NodeIs text d r.start.index (names_of r) b.end j → ⊥
    by_kind (is_leaf y m leaf is) =
        false≢true (sym (leaf_apart text (next text b.end) (y, j) leaf).bracket
        ∙ (ap (λ k. opens (at text k)) (sym b.there) ∙ opened))
    by_kind (is_collection m c) =
        none r.start.index j (names_of r) m (subst (λ k. Brackets text d r.start.index (names_of r) k j m) (sym b.there) c)
    by_kind (is_names some ends there) =
        no_open_end (at text (next text b.end)) ends (ap (λ k. opens (at text k)) (sym b.there) ∙ opened)
