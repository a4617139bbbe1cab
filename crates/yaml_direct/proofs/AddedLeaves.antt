-- Leaves that were added, as nodes of the grammar.
use Rattle.std.proofs.Common.{ℕ, suc, ◌+◌, ◌-◌, ◌≡◌, ◌≢◌, ◌≤◌, ◌==◌, not, Bool, true, false, List, [], ◌∷◌, ◌++◌, Option}
use Rattle.std.proofs.Common.{Some, None, refl, sym, ap, ◌∙◌, arith, slice_range}
use Rattle.std.proofs.lemmas.Bool.{and_parts, false≢true, ne_eqb}
use Rattle.std.specs.Option.{option_map}
use Rattle.yaml_base.specs.PlainEvent.{alias, scalar}
use Rattle.yaml_base.specs.declared.event.ScalarStyle.{ScalarStyle}
use Rattle.yaml_base.specs.declared.event.ScalarStyle.TheVariants as style
use Rattle.yaml_direct.specs.Added.{Adds, AddsLeaf, AddsNode, AddsScalar, HasNoLeaf}
use Rattle.yaml_direct.specs.Held.{IsUnnamed, names_of}
use Rattle.yaml_direct.specs.Quoted.{quote_of, quoted_from, style_of}
use Rattle.yaml_direct.specs.declared.quote.Quote.{Quote}
use Rattle.yaml_direct.specs.declared.quote.Quote.TheVariants.{Double, Single}
use Rattle.yaml_direct.specs.declared.reader.Reader.{Reader}
use Rattle.yaml_grammar.specs.Bytes.{at, is_gap, is_indicator}
use Rattle.yaml_grammar.specs.Folding.{Rest}
use Rattle.yaml_grammar.specs.Leaves.{Leaf, alias_at, in_style, leaf_at, leaf_node, styled, to_anchor}
use Rattle.yaml_grammar.specs.Names.{Names, name_end, unnamed}
use Rattle.yaml_grammar.specs.Nodes.{Node, mark, node_events, scalar_at}
use Rattle.yaml_grammar.specs.Nodes as nodes
use Rattle.yaml_grammar.specs.Plain.{Context, begins_plain, is_flow, plain_at}
use Rattle.yaml_tape.specs.OnTape.{position_at}
use Rattle.yaml_tape.specs.Pushes.{marked_on}

early : (text : List ℕ) (i : ℕ) (late : Bool) → late ≡ false → position_at text i late ≡ mark text i
early text i late e = ap (position_at text i) e

-- a scalar is a node
pub scalar_node : (old new : Reader) (said : List ℕ) (how : ScalarStyle) (end : ℕ) → old.start.late ≡ false
    → AddsScalar old new said how end
    → AddsNode old new (scalar_at old.text.now old.start.index (names_of old) how said end)
scalar_node old new said how end late h = record {
  events = h.added ∙ ap (λ p. marked_on old.tape ++ (
    scalar (record {
      anchor = old.names.anchor;
      tag = old.names.tag;
      text = said;
      style = how;
      source = Some (slice_range old.text.now old.start.index end);
    }),
    p,
  ) ∷ []) (early old.text.now old.start.index old.start.late late);
  unnamed = h.unnamed;
}

-- what is read as a text in a style is a leaf
pub scalar_leaf : (old new : Reader) (context : Context) (from end : ℕ) (said : List ℕ) (how : ScalarStyle)
    → leaf_at old.text.now context from ≡ Some (in_style how said, end) → old.start.late ≡ false
    → AddsScalar old new said how end → AddsLeaf old new context from end
scalar_leaf old new context from end said how read late h = record {
  leaf = in_style how said;
  node = scalar_at old.text.now old.start.index (names_of old) how said end;
  read = read;
  is = refl;
  added = scalar_node old new said how end late h;
}

-- an alias is one before which nothing stands
pub alias_leaf : (old new : Reader) (context : Context) (from end : ℕ) (name : List ℕ)
    → leaf_at old.text.now context from ≡ Some (to_anchor name, end) → old.start.late ≡ false → IsUnnamed old
    → IsUnnamed new → Adds old new (alias name) old.start → AddsLeaf old new context from end
alias_leaf old new context from end name read late none after added = record {
  leaf = to_anchor name;
  node = nodes.alias (mark old.text.now old.start.index) name;
  read = read;
  is = ap (λ n. leaf_node old.text.now old.start.index n (to_anchor name) end) none;
  added = record {
    events = added ∙ ap (λ p. marked_on old.tape ++ (alias name, p) ∷ []) (early old.text.now old.start.index
        old.start.late late);
    unnamed = after;
  };
}

-- which leaf begins with a byte
pub star_at : (text : List ℕ) (context : Context) (i end : ℕ) → at text i ≡ 42
    → name_end text (is_flow context) (i + 1) ≡ Some end
    → leaf_at text context i ≡ Some (to_anchor (slice_range text (i + 1) end), end)
star_at text context i end star name =
    let one : suc i ≡ i + 1 = omega arith in
    by_star (at text i) star
    ∙ ap (alias_at text (is_flow context)) one
    ∙ ap (option_map (λ e. (to_anchor (slice_range text (i + 1) e), e))) name
  where
    by_star : (c : ℕ) → c ≡ 42 → leaf_at text context i ≡ alias_at text (is_flow context) (suc i)
    by_star c e = rw star refl

pub no_star_at : (text : List ℕ) (context : Context) (i : ℕ) → at text i ≡ 42
    → name_end text (is_flow context) (i + 1) ≡ None → leaf_at text context i ≡ None
no_star_at text context i star name =
    let one : suc i ≡ i + 1 = omega arith in
    by_star ∙ ap (alias_at text (is_flow context)) one
    ∙ ap (option_map (λ e. (to_anchor (slice_range text (i + 1) e), e))) name
  where
    by_star : leaf_at text context i ≡ alias_at text (is_flow context) (suc i)
    by_star = rw star refl

pub quotes_at : (text : List ℕ) (context : Context) (quote : Quote) (i : ℕ) → at text i ≡ quote_of quote
    → leaf_at text context i ≡ styled (style_of quote) (i + 1) (quoted_from text quote (i + 1))
quotes_at text context Single i e =
    let one : suc i ≡ i + 1 = omega arith in
    by_quote ∙ ap (λ k. styled style.SingleQuoted k (quoted_from text Single k)) one
  where
    by_quote : leaf_at text context i ≡ styled style.SingleQuoted (suc i) (quoted_from text Single (suc i))
    by_quote = rw e refl
quotes_at text context Double i e =
    let one : suc i ≡ i + 1 = omega arith in
    by_quote ∙ ap (λ k. styled style.DoubleQuoted k (quoted_from text Double k)) one
  where
    by_quote : leaf_at text context i ≡ styled style.DoubleQuoted (suc i) (quoted_from text Double (suc i))
    by_quote = rw e refl

-- no other byte begins plain text
plain_byte : (c : ℕ) → is_indicator c ≡ false → ((c == 42) ≡ false) × (((c == 39) ≡ false) × ((c == 34) ≡ false))
plain_byte c h = (grind (arith, h), (grind (arith, h), grind (arith, h)))

dark : (x : Bool) → not x ≡ true → x ≡ false
dark false e = refl
dark true e = absurd (false≢true e)

pub plain_at_is : (text : List ℕ) (context : Context) (i : ℕ)
    → ((at text i == 42) ≡ false) × (((at text i == 39) ≡ false) × ((at text i == 34) ≡ false))
    → leaf_at text context i ≡ styled style.Plain i (plain_at text context i)
plain_at_is text context i h = rw (h.0, h.1.0, h.1.1) refl

pub begun_plain : (text : List ℕ) (flow : Bool) (i : ℕ) → begins_plain text flow i ≡ true
    → ((at text i == 42) ≡ false) × (((at text i == 39) ≡ false) × ((at text i == 34) ≡ false))
begun_plain text flow i h =
    plain_byte (at text i) (dark (is_indicator (at text i))
    (and_parts (not (is_indicator (at text i))) _ (and_parts (not (is_gap (at text i))) _ h).1).0)

some_begins : (text : List ℕ) (context : Context) (i : ℕ) (r : ℕ × List ℕ)
    → ◌≡◌ {A = Rest} (plain_at text context i) (Some r) → begins_plain text (is_flow context) i ≡ true
some_begins text context i r h = by_begin (begins_plain text (is_flow context) i) refl
  where
    by_begin : (b : Bool) → begins_plain text (is_flow context) i ≡ b → b ≡ true
    by_begin true e = refl
    by_begin false e = absurd (no_some r (sym (none_begins e) ∙ h))
      where
        no_some : (x : ℕ × List ℕ) → ◌≡◌ {A = Rest} None (Some x) → ⊥
        no_some x f = cc

        none_begins : begins_plain text (is_flow context) i ≡ false → ◌≡◌ {A = Rest} (plain_at text context i) None
        none_begins f = rw f refl

pub plain_read : (text : List ℕ) (context : Context) (i end : ℕ) (said : List ℕ) → i ≤ end
    → ◌≡◌ {A = Rest} (plain_at text context i) (Some (end - i, said))
    → leaf_at text context i ≡ Some (in_style style.Plain said, end)
plain_read text context i end said low h =
    let there : i + (end - i) ≡ end = omega (arith, low) in
    plain_at_is text context i (begun_plain text (is_flow context) i (some_begins text context i (end - i, said) h))
    ∙ ap (styled style.Plain i) h
    ∙ ap (λ n. Some (in_style style.Plain said, n)) there

-- no plain text begins, and nothing else does
pub no_plain : (text : List ℕ) (context : Context) (i : ℕ) → at text i ≢ 42 → at text i ≢ 39 → at text i ≢ 34
    → begins_plain text (is_flow context) i ≡ false → leaf_at text context i ≡ None
no_plain text context i star single double h =
    plain_at_is text context i (ne_eqb (at text i) 42 star, (ne_eqb (at text i) 39 single, ne_eqb (at text i) 34 double))
    ∙ ap (styled style.Plain i) none_begins
  where
    none_begins : ◌≡◌ {A = Rest} (plain_at text context i) None
    none_begins = rw h refl

-- quotes that were read
pub quoted_read : (text : List ℕ) (context : Context) (quote : Quote) (i end : ℕ) (said : List ℕ)
    → at text i ≡ quote_of quote → i + 1 ≤ end
    → ◌≡◌ {A = Rest} (quoted_from text quote (i + 1)) (Some (end - (i + 1), said))
    → leaf_at text context i ≡ Some (in_style (style_of quote) said, end)
quoted_read text context quote i end said e low h =
    let there : i + 1 + (end - (i + 1)) ≡ end = omega (arith, low) in
    quotes_at text context quote i e ∙ ap (styled (style_of quote) (i + 1)) h
    ∙ ap (λ n. Some (in_style (style_of quote) said, n)) there

pub quoted_none : (text : List ℕ) (context : Context) (quote : Quote) (i : ℕ) → at text i ≡ quote_of quote
    → ◌≡◌ {A = Rest} (quoted_from text quote (i + 1)) None → leaf_at text context i ≡ None
quoted_none text context quote i e h =
    quotes_at text context quote i e ∙ ap (styled (style_of quote) (i + 1)) h

-- no leaf is no leaf behind any names
pub none_leaf : (text : List ℕ) (context : Context) (names : Names) (from : ℕ) → leaf_at text context from ≡ None
    → HasNoLeaf text context names from
none_leaf text context names from h leaf end e start = absurd (no_some (leaf, end) (sym h ∙ e))
  where
    no_some : (x : Leaf × ℕ) → ◌≡◌ {A = Option (Leaf × ℕ)} None (Some x) → ⊥
    no_some x f = cc

-- and an alias is none behind some
pub named_alias : (text : List ℕ) (context : Context) (names : Names) (from end : ℕ) (name : List ℕ)
    → leaf_at text context from ≡ Some (to_anchor name, end) → (names ≡ unnamed → ⊥)
    → HasNoLeaf text context names from
named_alias text context names from end name read some leaf e h start =
    let same : leaf ≡ to_anchor name = ap (leaf_or leaf) (sym h ∙ read) in
    ap (λ l. leaf_node text start names l e) same ∙ by_names names.anchor names.tag (λ f. some f)
  where
    leaf_or : Leaf → Option (Leaf × ℕ) → Leaf
    leaf_or l None = l
    leaf_or l (Some found) = found.0

    by_names : (anchor tag : Option (List ℕ)) → (record { anchor = anchor; tag = tag } ≡ unnamed → ⊥)
        → leaf_node text start (record { anchor = anchor; tag = tag }) (to_anchor name) e ≡ None
    by_names None None f = absurd (f refl)
    by_names (Some a) tag f = refl
    by_names None (Some t) f = refl
