-- The steps of a reader in brackets.
use Rattle.std.proofs.Common.{ℕ, ◌+◌, ◌-◌, ◌<◌, ◌≤◌, ◌≡◌, ◌≢◌, ◌==◌, ◌||◌, Bool, true, false, List, Some}
use Rattle.std.proofs.Common.{refl, sym, subst, ap, ◌∙◌, arith, inl, inr, codes, drop, not, ◌++◌, append-nil}
use Rattle.std.proofs.lemmas.Bool.{and_left, eqb-true, false≢true, or_cases, or_parts}
use Rattle.std.specs.Prelude.{nat_le, slice_range, length}
use denote.Enum.Bare.{sameb}
use Rattle.yaml_direct.specs.contracts.flow.Slot.{the_type}
use Rattle.yaml_direct.specs.Gaps.{InLine}
use Rattle.yaml_direct.specs.Held.{names_of}
use Rattle.yaml_direct.specs.InBrackets.{Has, IsBehindNames, IsFlowElement, IsFlowPart, IsOf, alone_events, opens, quotes}
use Rattle.yaml_direct.specs.InBrackets.{IsFlowLeaf, behind_names, names_alone}
use Rattle.yaml_direct.specs.Leaves.{is_open, whole_plain}
use Rattle.yaml_direct.specs.declared.leaf.Leaf as code
use Rattle.yaml_direct.specs.declared.leaf.LeafKind.{LeafKind}
use Rattle.yaml_direct.specs.declared.leaf.LeafKind.TheVariants.{Alias, Escaped, Open, Plain, Quoted}
use Rattle.yaml_direct.specs.declared.quote.Quote.{Quote}
use Rattle.yaml_direct.specs.Bytes as code_bytes
use Rattle.yaml_direct.specs.Lines.{PlainLine}
use Rattle.yaml_direct.specs.PlainTexts.{IsFirstLine, flow_line, is_tight}
use Rattle.yaml_direct.specs.Tokens.{IsAtNext}
use Rattle.yaml_direct.specs.declared.flow.Slot.{Slot}
use Rattle.yaml_direct.specs.declared.flow.Slot.TheVariants.{Entry, Item, Value}
use Rattle.yaml_direct.specs.declared.reader.Reader.{Reader}
use Rattle.yaml_direct.proofs.BracketLeaves.{behind_some}
use Rattle.yaml_direct.proofs.BracketReads.{element_alone, has_from, line_of, next_of, of_allowed}
use Rattle.yaml_direct.proofs.LineLaws.{colon_by, line_on, next_line, no_dash, one_line}
use Rattle.yaml_direct.proofs.NextLaws.{token_here}
use Rattle.yaml_grammar.specs.Brackets.{has_colon, nothing_here}
use Rattle.yaml_grammar.specs.Bytes.{at, is_one_of, is_over, is_text, parts_documents}
use Rattle.yaml_grammar.specs.Folding.{Rest}
use Rattle.yaml_grammar.specs.Gaps.{before, breaks, gap, next}
use Rattle.yaml_grammar.specs.Names.{Names, names_at}
use Rattle.yaml_grammar.specs.Nodes.{node_events}
use Rattle.yaml_tape.specs.Pushes.{marked_on}
use Rattle.yaml_grammar.specs.Plain.{begins_plain, in_brackets, plain_at}
use Rattle.yaml_reading.proofs.Begins.{wanders}

-- a bracket, a quote or `*` stands here, and no names
opens_stays : (c : ℕ) → opens c ≡ true → wanders c ≡ false
opens_stays c h = elim (or_cases (c == 91) (c == 123) h) [
  | inl e ↦ ap wanders (eqb-true c 91 e)
  | inr e ↦ ap wanders (eqb-true c 123 e)
]

pub bracket_stays : (text : List ℕ) (i : ℕ) → opens (at text i) ≡ true → wanders (at text i) ≡ false
bracket_stays text i h = opens_stays (at text i) h

pub quote_by : (P : ℕ → Bool) → P 34 ≡ false → P 39 ≡ false → P 42 ≡ false → (c : ℕ) → quotes c ≡ true → P c ≡ false
quote_by P a b x c h = elim (or_cases (c == 34) _ h) [
  | inl e ↦ ap P (eqb-true c 34 e) ∙ a
  | inr h ↦ elim (or_cases (c == 39) (c == 42) h) [
    | inl e ↦ ap P (eqb-true c 39 e) ∙ b
    | inr e ↦ ap P (eqb-true c 42 e) ∙ x
  ]
]

pub quote_stays : (text : List ℕ) (i : ℕ) → quotes (at text i) ≡ true → wanders (at text i) ≡ false
quote_stays text i h = quote_by wanders refl refl refl (at text i) h

-- a part of a reader that has begun
pub part_begun : (text : List ℕ) (slot : Slot) (old m new : Reader) (d i j : ℕ) → m.tape ≡ old.tape → m.start.index ≡ i
    → Has m new (IsFlowPart text slot d m.start.index j) → Has old new (IsFlowPart text slot d i j)
part_begun text slot old m new d i j tape there x =
    subst (λ k. Has old new (IsFlowPart text slot d k j)) there
    (has_from old m new (IsFlowPart text slot d m.start.index j) tape x)

pub element_has : (text : List ℕ) (slot : Slot) (old new : Reader) (d i k : ℕ) → slot ≢ Value
    → (slot ≡ Entry → at text k ≡ 58 → ⊥) → Has old new (IsFlowPart text slot d i k)
    → Has old new (IsFlowElement text slot d i k)
element_has text slot old new d i k some other x = record {
  events = x.events;
  what = element_alone text slot d i k x.events some other x.what;
  added = x.added;
  unnamed = x.unnamed;
}

-- names were read, and the next token stands in their line
pub named_behind : (text : List ℕ) (old p g : Reader) (place end next' : ℕ) → IsOf text old → p.text.now ≡ old.text.now
    → names_at old.text.now true place ≡ Some (names_of p, end) → p.start ≡ old.start → g.start ≡ p.start
    → g.names ≡ p.names → old.start.index ≡ place → old.start.late ≡ false → IsAtNext p g end next' → g.line ≡ p.line
    → InLine text place end → IsBehindNames text true g next'
named_behind text old p g place end next' of same names ps gs kept there early n line whole =
    let of_p : IsOf text p = record { same = same ∙ of.same; allowed = of.allowed } in
    let index : g.start.index ≡ place = ap (λ s. s.index) (gs ∙ ps) ∙ there in
    behind_some text true g end next'
    (ap (names_at text true) index ∙ ap (λ t. names_at t true place) (sym of.same) ∙ names
    ∙ ap (λ k. let r : Names = record { anchor = k.anchor; tag = k.tag } in Some (r, end)) (sym kept))
    (line_of text p g end next' of_p n line) (next_of text p g end next' of_p n)
    (ap (λ s. s.late) (gs ∙ ps) ∙ early)
    (subst (λ i. InLine text i end) (sym index) whole)

-- the `:` of a key
pub key_colon : (text : List ℕ) (i e k : ℕ) → k ≡ next text e → at text k ≡ 58 → i ≤ k → k ≤ i + 1024 → InLine text i k
    → has_colon text i e ≡ true
key_colon text i e k there byte low near line =
    colon_by text i e (subst (λ q. i ≤ q) there low) (ap (at text) (sym there) ∙ byte)
    (one_line text i (next text e) (subst (λ q. i ≤ q) there low) (subst (λ q. InLine text i q) there line))
    (subst (λ q. q ≤ i + 1024) there near)

pub line_to : (text : List ℕ) (i e k : ℕ) → InLine text i e → breaks text e ≡ false → k ≡ next text e → InLine text i k
line_to text i e k line whole there =
    line_on text i e k line (subst (λ q. InLine text e q) (sym there) (next_line text e whole))

-- plain text that goes on in no later line, where no `:` stands right behind it
pub plain_whole : (text : List ℕ) (from end : ℕ)
    → ◌≡◌ {A = Rest} (plain_at text in_brackets from) (flow_line text from end) → is_tight text (next text end) ≡ false
    → ◌≡◌ {A = Rest} (plain_at text in_brackets from) (Some (end - from, slice_range text from end))
plain_whole text from end h loose = h ∙ rw loose refl

-- what ends a part stands right here
pub ends_here : (text : List ℕ) (i : ℕ) → is_one_of (codes ",]}") (at text i) ≡ true → (next text i ≡ i)
    × ((breaks text i ≡ false) × (is_tight text i ≡ false))
ends_here text i h = elim (or_cases (44 == at text i) _ (swapped (at text i) h)) [
  | inl e ↦ by_byte 44 (sym (eqb-true 44 (at text i) e)) (λ f. omega (arith, f)) (λ f. omega (arith, f)) (λ f. omega (arith, f)) refl
  | inr h ↦ elim (or_cases (93 == at text i) (125 == at text i) h) [
    | inl e ↦ by_byte 93 (sym (eqb-true 93 (at text i) e)) (λ f. omega (arith, f)) (λ f. omega (arith, f)) (λ f. omega (arith, f)) refl
    | inr e ↦ by_byte 125 (sym (eqb-true 125 (at text i) e)) (λ f. omega (arith, f)) (λ f. omega (arith, f)) (λ f. omega (arith, f)) refl
  ]
]
  where
    swapped : (c : ℕ) → is_one_of (codes ",]}") c ≡ true → (44 == c || (93 == c || 125 == c)) ≡ true
    swapped c h = grind (arith, h)

    by_byte : (c : ℕ) → at text i ≡ c → c ≢ 10 → c ≢ 32 → c ≢ 35 → (c == 58) ≡ false
        → (next text i ≡ i) × ((breaks text i ≡ false) × (is_tight text i ≡ false))
    by_byte c e feed space sharp colon =
        let here = token_here text i (λ f. feed (sym e ∙ f)) (λ f. space (sym e ∙ f)) (λ f. sharp (sym e ∙ f)) in
        (here.there, (here.lines, and_left (at text i == 58) _ (ap (λ x. x == 58) e ∙ colon)))

pub item_no_entry : Item ≢ Entry
item_no_entry e = cc

pub value_no_entry : Value ≢ Entry
value_no_entry e = cc

-- names alone
pub names_behind : (text : List ℕ) (old p g : Reader) (place e : ℕ) → IsOf text old
    → names_at old.text.now true place ≡ Some (names_of p, e) → p.start ≡ old.start → g.start ≡ p.start
    → g.names ≡ p.names → old.start.index ≡ place → names_at text true g.start.index ≡ Some (names_of g, e)
names_behind text old p g place e of names ps gs kept there =
    let index : g.start.index ≡ place = ap (λ s. s.index) (gs ∙ ps) ∙ there in
    ap (names_at text true) index ∙ ap (λ t. names_at t true place) (sym of.same) ∙ names
    ∙ ap (λ k. let r : Names = record { anchor = k.anchor; tag = k.tag } in Some (r, e)) (sym kept)

pub names_only : (text : List ℕ) (r : Reader) (leaf : code.Leaf) (e k : ℕ)
    → names_at text true r.start.index ≡ Some (names_of r, e) → r.start.index < e → r.start.late ≡ false
    → leaf.kind ≡ Plain → leaf.begin ≡ e → leaf.stop ≡ e → leaf.end ≡ e → k ≡ next text e
    → is_one_of (codes ",]}:") (at text k) ≡ true → InLine text r.start.index e → IsFlowLeaf text r leaf
names_only text r leaf e k names some early kind begin stop end there ends line =
    names_alone (names ∙ ap (λ q. Some (names_of r, q)) (sym end)) (subst (λ q. r.start.index < q) (sym end) some) early
    kind (begin ∙ sym end) (stop ∙ sym end)
    (ap (λ q. is_one_of (codes ",]}:") (at text (next text q))) end
    ∙ ap (λ q. is_one_of (codes ",]}:") (at text q)) (sym there) ∙ ends)
    (subst (λ q. InLine text r.start.index q) (sym end) line)

-- plain text in its line
pub plain_behind : (text : List ℕ) (r : Reader) (leaf : code.Leaf) (place e : ℕ) → IsBehindNames text true r place
    → leaf.kind ≡ Plain → leaf.begin ≡ place → leaf.stop ≡ e → leaf.end ≡ e → place ≤ e
    → ◌≡◌ {A = Rest} (plain_at text in_brackets place) (Some (e - place, slice_range text place e))
    → InLine text place e → IsFlowLeaf text r leaf
plain_behind text r leaf place e b kind begin stop end low read line =
    let here : leaf.end - place ≡ e - place = ap (λ q. q - place) end in
    behind_names place b
    (whole_plain kind begin (stop ∙ sym end) (subst (λ q. place ≤ q) (sym end) low)
    (subst (λ q. ◌≡◌ {A = Rest} (plain_at text in_brackets place) (Some (q - place, slice_range text place q))) (sym end)
    read))
    (subst (λ q. InLine text r.start.index q) (sym end) (line_on text r.start.index place e b.line line))

pub next_low : (text : List ℕ) (e k : ℕ) → k ≡ next text e → e ≤ k
next_low text e k there =
    let far : next text e ≡ e + (gap (before text e) (drop e text)).0 = refl in
    omega (arith, there, far)

pub leaf_early : (text : List ℕ) (r : Reader) (leaf : code.Leaf) → IsFlowLeaf text r leaf → r.start.late ≡ false
leaf_early text r leaf (behind_names place b l line) = b.early
leaf_early text r leaf (names_alone names some early kind begins stops ends line) = early

-- no documents are parted where none is over
pub no_parts : (text : List ℕ) (i : ℕ) → is_over text i ≡ false → parts_documents text i ≡ false
no_parts text i over = (or_parts (nat_le (length text) i) _ over).1

-- plain text that begins here, as far as its first line goes
pub first_line : (text : List ℕ) (r : Reader) (place e : ℕ) → IsOf text r → (begins : Bool)
    → (begins ≡ true → code_bytes.stops_plain r.text.now true place ≡ false)
    → (begins ≡ true → at r.text.now place ≢ 32)
    → (is_text r.text.now ≡ true → parts_documents r.text.now place ≡ false
    → begins ≡ begins_plain r.text.now true place)
    → is_over text place ≡ false → begins ≡ true → PlainLine r.text.now true place e → IsFirstLine text true place e
first_line text r place e of begins goes some same over b line =
    let h = of_allowed text r of in
    let apart = ap (λ t. parts_documents t place) of.same ∙ no_parts text place over in
    record {
      begins = ap (λ t. begins_plain t true place) (sym of.same) ∙ (sym (same h apart) ∙ b);
      goes = ap (λ t. code_bytes.stops_plain t true place) (sym of.same) ∙ goes b;
      some = λ e. some b (ap (λ t. at t place) of.same ∙ e);
      line = subst (λ t. PlainLine t true place e) of.same line;
    }

-- what stands in the place of a value
pub alone_none : (text : List ℕ) (slot : Slot) (r : Reader) (k : ℕ) → slot ≢ Entry
    → marked_on r.tape ≡ marked_on r.tape ++ alone_events text slot k
alone_none text Item r k other = sym (append-nil (marked_on r.tape))
alone_none text Entry r k other = absurd (other refl)
alone_none text Value r k other = sym (append-nil (marked_on r.tape))

pub alone_entry : (text : List ℕ) (slot : Slot) (old m new : Reader) (k : ℕ) → slot ≡ Entry → m.tape ≡ old.tape
    → marked_on new.tape ≡ marked_on m.tape ++ node_events (nothing_here text k)
    → marked_on new.tape ≡ marked_on old.tape ++ alone_events text slot k
alone_entry text slot old m new k is tape added =
    added ∙ ap (λ t. marked_on t ++ node_events (nothing_here text k)) tape
    ∙ ap (λ s. marked_on old.tape ++ alone_events text s k) (sym is)

-- where a quote or `*` stands no documents are parted
pub quote_parts : (text : List ℕ) (i : ℕ) → quotes (at text i) ≡ true → parts_documents text i ≡ false
quote_parts text i h =
    no_dash text i (at text i) refl (quote_by (λ c. c == 45) refl refl refl (at text i) h)
    (quote_by (λ c. c == 46) refl refl refl (at text i) h)

pub not_open : (kind : LeafKind) → ((quote : Quote) → kind ≡ Open quote → ⊥) → is_open kind ≡ false
not_open (Open quote) h = absurd (h quote refl)
not_open Plain h = refl
not_open (Quoted quote) h = refl
not_open (Escaped quote) h = refl
not_open Alias h = refl

-- what the tests of a slot say
pub ne_entry : (s : Slot) (b : Bool) → b ≡ not (sameb the_type s Entry) → b ≡ true → s ≢ Entry
ne_entry Item b h t e = cc
ne_entry Entry b h t e = false≢true (sym h ∙ t)
ne_entry Value b h t e = cc

pub is_entry : (s : Slot) (b : Bool) → b ≡ not (sameb the_type s Entry) → b ≡ false → s ≡ Entry
is_entry Item b h t = absurd (false≢true (sym t ∙ h))
is_entry Entry b h t = refl
is_entry Value b h t = absurd (false≢true (sym t ∙ h))

pub eq_item : (s : Slot) (b : Bool) → b ≡ sameb the_type s Item → b ≡ true → s ≡ Item
eq_item Item b h t = refl
eq_item Entry b h t = absurd (false≢true (sym h ∙ t))
eq_item Value b h t = absurd (false≢true (sym h ∙ t))

pub no_item : (s : Slot) (b : Bool) → b ≡ sameb the_type s Item → b ≡ false → s ≢ Item
no_item Item b h t e = false≢true (sym t ∙ h)
no_item Entry b h t e = cc
no_item Value b h t e = cc

pub no_value : (s : Slot) (b : Bool) → b ≡ sameb the_type s Value → b ≡ false → s ≢ Value
no_value Item b h t e = cc
no_value Entry b h t e = cc
no_value Value b h t e = false≢true (sym t ∙ h)

pub no_entry : (s : Slot) (b : Bool) → b ≡ sameb the_type s Entry → b ≡ false → s ≢ Entry
no_entry Item b h t e = cc
no_entry Entry b h t e = false≢true (sym t ∙ h)
no_entry Value b h t e = cc
