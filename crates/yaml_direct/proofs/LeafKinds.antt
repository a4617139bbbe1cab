-- A leaf that was found, by its kind.
use Rattle.std.proofs.Common.{ℕ, ◌+◌, ◌-◌, ◌≡◌, ◌≤◌, false, List, Option}
use Rattle.std.proofs.Common.{Some, None, sym, subst, ap, ap₂, ◌∙◌, arith, slice_range}
use Rattle.std.specs.Prelude.{IfSome}
use Rattle.yaml_base.specs.declared.event.ScalarStyle.{ScalarStyle}
use Rattle.yaml_base.specs.declared.event.ScalarStyle.TheVariants as style
use Rattle.yaml_direct.specs.Added.{AddsLeaf, AddsScalar}
use Rattle.yaml_direct.specs.Leaves.{IsLeaf, whole_alias, whole_plain, whole_quotes}
use Rattle.yaml_direct.specs.Quoted.{AddsQuoted, ClosesInLine, HasKind, IsQuotedLeaf, quote_of, quoted_from, style_of}
use Rattle.yaml_direct.specs.declared.leaf.Leaf.{Leaf as Found}
use Rattle.yaml_direct.specs.declared.leaf.LeafKind.{LeafKind}
use Rattle.yaml_direct.specs.declared.leaf.LeafKind.TheVariants as kind
use Rattle.yaml_direct.specs.declared.quote.Quote.{Quote}
use Rattle.yaml_direct.specs.declared.reader.Reader.{Reader}
use Rattle.yaml_grammar.specs.Bytes.{at}
use Rattle.yaml_grammar.specs.Leaves.{leaf_at, to_anchor}
use Rattle.yaml_grammar.specs.Plain.{Context}
use Rattle.yaml_direct.proofs.AddedLeaves.{plain_read, quoted_read, scalar_leaf, star_at}

-- a leaf of each kind
pub leaf_plain : (old new : Reader) (context : Context) (i : ℕ) (leaf : Found) → leaf.kind ≡ kind.Plain
    → IsLeaf old.text.now context i leaf → old.start.late ≡ false
    → AddsScalar old new (slice_range old.text.now leaf.begin leaf.stop) style.Plain leaf.end
    → AddsLeaf old new context i leaf.end
leaf_plain old new context i leaf is (whole_plain k begins stops low read) late h =
    let same : slice_range old.text.now leaf.begin leaf.stop ≡ slice_range old.text.now i leaf.end
    = ap₂ (slice_range old.text.now) begins stops in
    scalar_leaf old new context i leaf.end (slice_range old.text.now i leaf.end) style.Plain
    (plain_read old.text.now context i leaf.end (slice_range old.text.now i leaf.end) low read) late
    (subst (λ s. AddsScalar old new s style.Plain leaf.end) same h)
leaf_plain old new context i leaf is (whole_alias star a) late h = absurd (other_kind leaf.kind is a.kind)
  where
    other_kind : (k : LeafKind) → k ≡ kind.Plain → k ≡ kind.Alias → ⊥
    other_kind k e f = cc
leaf_plain old new context i leaf is (whole_quotes quote e q open') late h =
    absurd (subst (HasKind old.text.now quote leaf.begin leaf.stop leaf.end) is q.kind)

pub leaf_quoted : (old new : Reader) (context : Context) (quote : Quote) (i : ℕ) (leaf : Found)
    → at old.text.now i ≡ quote_of quote → leaf.begin ≡ i + 1 → leaf.begin ≤ leaf.end → old.start.late ≡ false
    → AddsQuoted old new quote leaf.begin leaf.end → AddsLeaf old new context i leaf.end
leaf_quoted old new context quote i leaf e begins low late h =
    scalar_leaf old new context i leaf.end h.said (style_of quote)
    (quoted_read old.text.now context quote i leaf.end h.said e (omega (arith, begins, low))
    (subst (λ b. quoted_from old.text.now quote b ≡ Some (leaf.end - b, h.said)) begins h.read)) late h.added

-- quotes around what stands for itself
pub whole_quoted : (old new : Reader) (quote q : Quote) (leaf : Found) (how : ScalarStyle) → leaf.kind ≡ kind.Quoted q
    → HasKind old.text.now quote leaf.begin leaf.stop leaf.end leaf.kind → how ≡ style_of q
    → AddsScalar old new (slice_range old.text.now leaf.begin leaf.stop) how leaf.end
    → AddsQuoted old new quote leaf.begin leaf.end
whole_quoted old new quote q leaf how is has styled' h =
    let both = subst (HasKind old.text.now quote leaf.begin leaf.stop leaf.end) is has in record {
      said = slice_range old.text.now leaf.begin leaf.stop;
      read = both.1;
      added = subst (λ s. AddsScalar old new (slice_range old.text.now leaf.begin leaf.stop) s leaf.end)
          (styled' ∙ ap style_of both.0) h;
    }

-- the quotes of a leaf that is between some
pub record InQuotes (text : List ℕ) (i : ℕ) (leaf : Found) : Type 0 where
  pub quote : Quote
  pub here : at text i ≡ quote_of quote
  pub leaf_is : IsQuotedLeaf text quote i leaf

pub leaf_in_quotes : (text : List ℕ) (context : Context) (i : ℕ) (leaf : Found) → (leaf.kind ≡ kind.Plain → ⊥)
    → (leaf.kind ≡ kind.Alias → ⊥) → IsLeaf text context i leaf → InQuotes text i leaf
leaf_in_quotes text context i leaf plain alias' (whole_plain k begins stops low read) = absurd (plain k)
leaf_in_quotes text context i leaf plain alias' (whole_alias star a) = absurd (alias' a.kind)
leaf_in_quotes text context i leaf plain alias' (whole_quotes quote e q open') =
    record { quote = quote; here = e; leaf_is = q }

pub leaf_alias : (text : List ℕ) (context : Context) (i : ℕ) (leaf : Found) → leaf.kind ≡ kind.Alias
    → IsLeaf text context i leaf
    → leaf_at text context i ≡ Some (to_anchor (slice_range text leaf.begin leaf.stop), leaf.end)
leaf_alias text context i leaf is (whole_plain k begins stops low read) = absurd (other_kind leaf.kind k is)
  where
    other_kind : (k : LeafKind) → k ≡ kind.Plain → k ≡ kind.Alias → ⊥
    other_kind k e f = cc
leaf_alias text context i leaf is (whole_alias star a) =
    star_at text context i leaf.end star a.name
    ∙ ap (λ s. Some (to_anchor s, leaf.end)) (sym (ap₂ (slice_range text) a.begins a.stops))
leaf_alias text context i leaf is (whole_quotes quote e q open') =
    absurd (subst (HasKind text quote leaf.begin leaf.stop leaf.end) is q.kind)

pub leaf_open : (text : List ℕ) (context : Context) (i : ℕ) (leaf : Found) (q : Quote) → leaf.kind ≡ kind.Open q
    → IsLeaf text context i leaf → ⊥
leaf_open text context i leaf q is (whole_plain k begins stops low read) = other_kind leaf.kind k is
  where
    other_kind : (k : LeafKind) → k ≡ kind.Plain → k ≡ kind.Open q → ⊥
    other_kind k e f = cc
leaf_open text context i leaf q is (whole_alias star a) = other_kind leaf.kind a.kind is
  where
    other_kind : (k : LeafKind) → k ≡ kind.Alias → k ≡ kind.Open q → ⊥
    other_kind k e f = cc
leaf_open text context i leaf q is (whole_quotes quote e l open') =
    let same : q ≡ quote = subst (HasKind text quote leaf.begin leaf.stop leaf.end) is l.kind in
    open' (is ∙ ap (λ x. kind.Open x) same)

-- what was found is a leaf
pub if_some : {P Q : Found → Type 0} (o : Option Found) → ((x : Found) → P x → Q x) → IfSome o P → IfSome o Q
if_some None f h = h
if_some (Some x) f h = f x h

pub quoted_no_plain : (k : LeafKind) (q : Quote) → k ≡ kind.Quoted q → k ≡ kind.Plain → ⊥
quoted_no_plain k q e f = cc

pub quoted_no_alias : (k : LeafKind) (q : Quote) → k ≡ kind.Quoted q → k ≡ kind.Alias → ⊥
quoted_no_alias k q e f = cc

escaped_no_plain : (k : LeafKind) (q : Quote) → k ≡ kind.Escaped q → k ≡ kind.Plain → ⊥
escaped_no_plain k q e f = cc

escaped_no_alias : (k : LeafKind) (q : Quote) → k ≡ kind.Escaped q → k ≡ kind.Alias → ⊥
escaped_no_alias k q e f = cc

-- quotes around what some stands for something else
pub record IsEscaped (text : List ℕ) (i : ℕ) (leaf : Found) (q : Quote) : Type 0 where
  pub here : at text i ≡ quote_of q
  pub begins : leaf.begin ≡ i + 1
  pub ends : leaf.end ≡ leaf.stop + 1
  pub closes : ClosesInLine text q leaf.begin leaf.stop

pub escaped_is : (text : List ℕ) (context : Context) (i : ℕ) (leaf : Found) (q : Quote) → leaf.kind ≡ kind.Escaped q
    → IsLeaf text context i leaf → IsEscaped text i leaf q
escaped_is text context i leaf q is l =
    let found = leaf_in_quotes text context i leaf (escaped_no_plain leaf.kind q is) (escaped_no_alias leaf.kind q is) l in
    let has = subst (HasKind text found.quote leaf.begin leaf.stop leaf.end) is found.leaf_is.kind in
    record {
      here = found.here ∙ ap quote_of (sym has.0);
      begins = found.leaf_is.begins;
      ends = has.1.0;
      closes = subst (λ x. ClosesInLine text x leaf.begin leaf.stop) (sym has.0) has.1.1;
    }
