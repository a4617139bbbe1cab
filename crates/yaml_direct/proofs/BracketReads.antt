-- What was read in brackets, put together.
use Rattle.std.proofs.Common.{ℕ, zero, suc, ◌+◌, ◌-◌, ◌<◌, ◌≤◌, ◌≡◌, ◌≢◌, ◌⊎◌, ◌++◌, ◌∷◌, ◌==◌, Bool, true, false}
use Rattle.std.proofs.Common.{List, [], Some, refl, sym, subst, ap, ap₂, ◌∙◌, arith, inl, inr, append_assoc, append-nil}
use Rattle.std.proofs.Common.{codes, drop, length, not, take}
use Rattle.std.specs.Prelude.{None, if◌then◌else◌, slice_range}
use Rattle.std.proofs.lemmas.Bool.{and_parts, eq-eqb, eqb-true, lt-ltb, ne_eqb, or_cases}
use Rattle.yaml_base.specs.PlainEvent.{PlainEvent, mapping_end, mapping_start, scalar, sequence_end, sequence_start}
use Rattle.yaml_base.specs.Position.{Position}
use Rattle.yaml_base.specs.declared.event.ScalarStyle.{ScalarStyle}
use Rattle.yaml_base.specs.declared.event.ScalarStyle.TheVariants as style
use Rattle.yaml_direct.specs.Added.{Adds, AddsLeaf, AddsScalar}
use Rattle.yaml_direct.specs.Gaps.{InLine}
use Rattle.yaml_direct.specs.Held.{IsUnnamed, names_of}
use Rattle.yaml_direct.specs.InBrackets.{AreFlowEntries, AreFlowItems, AreFlowParts, Has, IsAlone, IsBehindNames}
use Rattle.yaml_direct.specs.InBrackets.{IsBrackets, IsFlowElement, IsFlowEntry, IsFlowItem, IsFlowLeaf}
use Rattle.yaml_direct.specs.InBrackets.{IsFlowNode, IsFlowPart, IsFlowValue, IsOf, alone_events, behind_names, closing_of}
use Rattle.yaml_direct.specs.InBrackets.{opens}
use Rattle.yaml_direct.specs.InBrackets.{names_alone}
use Rattle.yaml_direct.specs.Tokens.{IsAtNext}
use Rattle.yaml_direct.specs.declared.flow.Slot.{Slot}
use Rattle.yaml_direct.specs.declared.flow.Slot.TheVariants.{Entry, Item, Value}
use Rattle.yaml_direct.specs.Leaves.{IsLeaf}
use Rattle.yaml_direct.specs.declared.leaf.Leaf as code
use Rattle.yaml_direct.specs.declared.leaf.LeafKind.TheVariants.{Plain}
use Rattle.yaml_direct.specs.declared.reader.Reader.{Reader}
use Rattle.yaml_direct.proofs.BracketOnly.{alone_only, pair_only, single_only, whole_only}
use Rattle.yaml_grammar.specs.Brackets.{FlowEntry, FlowValue}
use Rattle.yaml_grammar.specs.Brackets.{Brackets, FlowEntries, FlowItems, FlowNode, a_flow_entry, a_flow_item, a_flow_value}
use Rattle.yaml_grammar.specs.Brackets.{a_pair, a_single, curly, flow_collection, flow_key_alone, flow_leaf, flow_names}
use Rattle.yaml_grammar.specs.Brackets.{begins_collection, has_colon, key_and_value, no_flow_entry, no_flow_item, no_flow_value}
use Rattle.yaml_grammar.specs.Brackets.{nothing_here, part_after, square, whole_entry}
use Rattle.yaml_grammar.specs.Bytes.{at, is_one_of, is_text}
use Rattle.yaml_grammar.specs.Gaps.{breaks, next}
use Rattle.yaml_grammar.specs.Leaves.{leaf_at, leaf_node}
use Rattle.yaml_grammar.specs.Names.{Names, names_at, unnamed}
use Rattle.yaml_grammar.specs.Nodes.{Marked, Node, mapping, mark, no_content, no_nodes, no_pairs, node, node_events}
use Rattle.yaml_grammar.specs.Nodes.{nodes_events, scalar_at, pair, pairs_events, sequence}
use Rattle.yaml_grammar.specs.Plain.{Context, in_brackets}
use Rattle.yaml_tape.specs.OnTape.{position_at}
use Rattle.yaml_tape.specs.Pushes.{marked_on}
use Rattle.yaml_tape.specs.declared.entry.Spot.{Spot}

one_more : (i : ℕ) → suc i ≡ i + 1
one_more i = omega arith

less_one : (d : ℕ) → suc d - 1 ≡ d
less_one d = omega arith

no_bytes : (text : List ℕ) (i j : ℕ) → i ≡ j → slice_range text i j ≡ []
no_bytes text i j same =
    let none : j - i ≡ 0 = omega (arith, same) in
    ap (λ n. take n (drop i text)) none

-- the events of a collection between those that begin and end it
between : (es xs : List Marked) (a b : Marked) → ((es ++ a ∷ []) ++ xs) ++ b ∷ [] ≡ es ++ (a ∷ (xs ++ b ∷ []))
between es xs a b = ap (λ l. l ++ b ∷ []) (append_assoc es (a ∷ []) xs) ∙ append_assoc es (a ∷ xs) (b ∷ [])

pub around : (es xs ys zs ws : List Marked) (a b : Marked) → xs ≡ es ++ a ∷ [] → ys ≡ xs ++ ws → zs ≡ ys ++ b ∷ []
    → zs ≡ es ++ (a ∷ (ws ++ b ∷ []))
around es xs ys zs ws a b p q r = r ∙ ap (λ l. l ++ b ∷ []) (q ∙ ap (λ l. l ++ ws) p) ∙ between es ws a b

-- an event more, with the mark of its place
pub added_at : (text : List ℕ) (old new : Reader) (e : PlainEvent) (s : Spot) (i : ℕ) → old.text.now ≡ text
    → s.index ≡ i → s.late ≡ false → Adds old new e s → marked_on new.tape ≡ marked_on old.tape ++ (e, mark text i) ∷ []
added_at text old new e s i same there early adds =
    let place : position_at old.text.now s.index s.late ≡ mark text i =
    ap (λ t. position_at t s.index s.late) same ∙ ap (λ b. position_at text s.index b) early
    ∙ ap (λ k. mark text k) there in
    adds ∙ ap (λ p. marked_on old.tape ++ (e, p) ∷ []) place

-- no names are held still
pub unnamed_kept : (a b : Reader) → b.names ≡ a.names → IsUnnamed a → IsUnnamed b
unnamed_kept a b same h =
    ap (λ n. let r : Names = record { anchor = n.anchor; tag = n.tag } in r) same ∙ h

-- a collection
pub square_read : (text : List ℕ) (old a b new : Reader) (d k j : ℕ) (s : Spot) → IsOf text old → old.start.late ≡ false
    → d ≢ 0 → at text k ≡ 91 → Adds old a (sequence_start old.names.anchor old.names.tag) old.start
    → b.text.now ≡ text → Has a b (AreFlowParts text Item (d - 1) (next text (k + 1)) j)
    → s.index ≡ j → s.late ≡ false → Adds b new sequence_end s → IsUnnamed new
    → Has old new (IsBrackets text d old.start.index (names_of old) k (j + 1))
square_read text old a b new zero k j s of early some byte begun same parts there end ended gone = absurd (some refl)
square_read text old a b new (suc d) k j s of early some byte begun same parts there end ended gone =
    let i = old.start.index in
    let p = subst (λ m. AreFlowItems text m (next text (k + 1)) j parts.events) (less_one d) parts.what in
    let inner = subst (λ q. FlowItems text d (next text q) j p.nodes) (sym (one_more k)) p.stand in
    let n = sequence (mark text i) (names_of old) p.nodes (mark text j) in
    record {
      events = node_events n;
      what = record {
        node = n;
        stands = subst (λ e. Brackets text (suc d) i (names_of old) k e n) (one_more j) (square byte inner);
        events = refl;
      };
      added = around (marked_on old.tape) (marked_on a.tape) (marked_on b.tape) (marked_on new.tape)
          (nodes_events p.nodes) (sequence_start old.names.anchor old.names.tag, mark text i) (sequence_end, mark text j)
          (added_at text old a (sequence_start old.names.anchor old.names.tag) old.start i of.same refl early begun)
          (parts.added ∙ ap (λ l. marked_on a.tape ++ l) p.events)
          (added_at text b new sequence_end s j same there end ended);
      unnamed = gone;
    }

pub curly_read : (text : List ℕ) (old a b new : Reader) (d k j : ℕ) (s : Spot) → IsOf text old → old.start.late ≡ false
    → d ≢ 0 → at text k ≡ 123 → Adds old a (mapping_start old.names.anchor old.names.tag) old.start
    → b.text.now ≡ text → Has a b (AreFlowParts text Entry (d - 1) (next text (k + 1)) j)
    → s.index ≡ j → s.late ≡ false → Adds b new mapping_end s → IsUnnamed new
    → Has old new (IsBrackets text d old.start.index (names_of old) k (j + 1))
curly_read text old a b new zero k j s of early some byte begun same parts there end ended gone = absurd (some refl)
curly_read text old a b new (suc d) k j s of early some byte begun same parts there end ended gone =
    let i = old.start.index in
    let p = subst (λ m. AreFlowEntries text m (next text (k + 1)) j parts.events) (less_one d) parts.what in
    let inner = subst (λ q. FlowEntries text d (next text q) j p.pairs) (sym (one_more k)) p.stand in
    let n = mapping (mark text i) (names_of old) p.pairs (mark text j) in
    record {
      events = node_events n;
      what = record {
        node = n;
        stands = subst (λ e. Brackets text (suc d) i (names_of old) k e n) (one_more j) (curly byte inner);
        events = refl;
      };
      added = around (marked_on old.tape) (marked_on a.tape) (marked_on b.tape) (marked_on new.tape)
          (pairs_events p.pairs) (mapping_start old.names.anchor old.names.tag, mark text i) (mapping_end, mark text j)
          (added_at text old a (mapping_start old.names.anchor old.names.tag) old.start i of.same refl early begun)
          (parts.added ∙ ap (λ l. marked_on a.tape ++ l) p.events)
          (added_at text b new mapping_end s j same there end ended);
      unnamed = gone;
    }

-- what is left of a collection gives the whole of it behind what was read
pub record PartsLeft (text : List ℕ) (slot : Slot) (d from i : ℕ) (before : List Marked) : Type 0 where
  pub rest : (e : ℕ) (es : List Marked) → AreFlowParts text slot d i e es
      → AreFlowParts text slot d from e (before ++ es)

pub parts_begun : (text : List ℕ) (slot : Slot) (d i : ℕ) → PartsLeft text slot d i i []
parts_begun text slot d i = record { rest = λ e es p. p }

pub parts_more : (text : List ℕ) (slot : Slot) (d from i k j : ℕ) (before es : List Marked)
    → PartsLeft text slot d from i before → IsFlowElement text slot d i k es → part_after text (closing_of slot) k ≡ Some j
    → PartsLeft text slot d from j (before ++ es)
parts_more text Item d from i k j before es left x after = record {
  rest = λ e xs p.
      let whole : AreFlowItems text d i e (es ++ xs) = record {
        nodes = node x.node p.nodes;
        stand = a_flow_item x.stands (ap (part_after text 93) (sym x.there) ∙ after) p.stand;
        events = ap₂ (λ a b. a ++ b) x.events p.events;
      } in
      subst (λ l. AreFlowItems text d from e l) (sym (append_assoc before es xs)) (left.rest e (es ++ xs) whole);
}
parts_more text Entry d from i k j before es left x after = record {
  rest = λ e xs p.
      let whole : AreFlowEntries text d i e (es ++ xs) = record {
        pairs = pair x.key x.value p.pairs;
        stand = a_flow_entry x.stands (ap (part_after text 125) (sym x.there) ∙ after) p.stand;
        events = ap₂ (λ a b. a ++ b) x.events p.events
            ∙ append_assoc (node_events x.key) (node_events x.value) (pairs_events p.pairs);
      } in
      subst (λ l. AreFlowEntries text d from e l) (sym (append_assoc before es xs)) (left.rest e (es ++ xs) whole);
}
parts_more text Value d from i k j before es left x after = absurd x

pub parts_closed : (text : List ℕ) (slot : Slot) (d from i : ℕ) (before : List Marked) → slot ≢ Value
    → PartsLeft text slot d from i before → at text i ≡ closing_of slot → AreFlowParts text slot d from i before
parts_closed text Item d from i before some left byte =
    subst (λ l. AreFlowItems text d from i l) (append-nil before)
    (left.rest i [] (record { nodes = no_nodes; stand = no_flow_item byte; events = refl }))
parts_closed text Entry d from i before some left byte =
    subst (λ l. AreFlowEntries text d from i l) (append-nil before)
    (left.rest i [] (record { pairs = no_pairs; stand = no_flow_entry byte; events = refl }))
parts_closed text Value d from i before some left byte = absurd (some refl)

-- what was read up to a place
pub record PartsRead (text : List ℕ) (slot : Slot) (d from i : ℕ) (old new : Reader) : Type 0 where
  pub before : List Marked
  pub left : PartsLeft text slot d from i before
  pub added : marked_on new.tape ≡ marked_on old.tape ++ before
  pub unnamed : IsUnnamed new

pub parts_first : (text : List ℕ) (slot : Slot) (d i j : ℕ) (old new : Reader) → j ≡ i → new.tape ≡ old.tape
    → new.names ≡ old.names → IsUnnamed old → PartsRead text slot d i j old new
parts_first text slot d i j old new there tape names none = record {
  before = [];
  left = subst (λ k. PartsLeft text slot d i k []) (sym there) (parts_begun text slot d i);
  added = ap marked_on tape ∙ sym (append-nil (marked_on old.tape));
  unnamed = unnamed_kept old new names none;
}

pub parts_turn : (text : List ℕ) (slot : Slot) (d from i k j : ℕ) (old a b new : Reader)
    → PartsRead text slot d from i old a → Has a b (IsFlowElement text slot d i k)
    → part_after text (closing_of slot) k ≡ Some j → new.tape ≡ b.tape → new.names ≡ b.names
    → PartsRead text slot d from j old new
parts_turn text slot d from i k j old a b new x y after tape names = record {
  before = x.before ++ y.events;
  left = parts_more text slot d from i k j x.before y.events x.left y.what after;
  added = ap marked_on tape ∙ y.added ∙ ap (λ l. l ++ y.events) x.added
      ∙ append_assoc (marked_on old.tape) x.before y.events;
  unnamed = unnamed_kept b new names y.unnamed;
}

pub parts_whole : (text : List ℕ) (slot : Slot) (d from i : ℕ) (old new : Reader) → slot ≢ Value
    → PartsRead text slot d from i old new → at text i ≡ closing_of slot
    → Has old new (AreFlowParts text slot d from i)
parts_whole text slot d from i old new some x byte = record {
  events = x.before;
  what = parts_closed text slot d from i x.before some x.left byte;
  added = x.added;
  unnamed = x.unnamed;
}

-- how many turns may be left
abbrev pub turns_left : List ℕ → (closing i : ℕ) → ℕ
turns_left text closing i =
    (length text - i) + ((length text - i) + (if at text i == closing then 0 else 1))

-- an element, by whether a `:` follows it
colon_is : (text : List ℕ) (i end : ℕ) → has_colon text i end ≡ true → at text (next text end) ≡ 58
colon_is text i end h =
    eqb-true (at text (next text end)) 58 (and_parts (at text (next text end) == 58) _ h).0

pub element_alone : (text : List ℕ) (slot : Slot) (d i k : ℕ) (es : List Marked) → slot ≢ Value
    → (slot ≡ Entry → at text k ≡ 58 → ⊥) → IsFlowPart text slot d i k es → IsFlowElement text slot d i k es
element_alone text Item d i k es some other x = x
element_alone text Entry d i k es some other (inl x) =
    absurd (other refl (ap (at text) x.there ∙ colon_is text i x.end x.colon))
element_alone text Entry d i k es some other (inr x) = x.1
element_alone text Value d i k es some other x = absurd (some refl)

entry_value : (text : List ℕ) (d i k j : ℕ) (es xs : List Marked) → at text k ≡ 58 → IsFlowPart text Entry d i k es
    → IsFlowValue text d (next text (k + 1)) j xs → IsFlowEntry text d i j (es ++ xs)
entry_value text d i k j es xs colon (inr x) v = absurd (x.0 colon)
entry_value text d i k j es xs colon (inl x) v =
    let there : next text (k + 1) ≡ next text (suc (next text x.end)) =
    ap (next text) (sym (one_more k)) ∙ ap (λ q. next text (suc q)) x.there in
    record {
      end = v.end;
      key = x.node;
      value = v.node;
      stands = whole_entry (key_and_value x.stands x.colon (subst (λ q. FlowValue text d q v.end v.node) there v.stands));
      only = λ a m n y ends. whole_only text d d d i a v.end x.end m n x.node v.node x.stands x.colon
          (subst (λ q. FlowValue text d q v.end v.node) there v.stands) y ends;
      there = v.there;
      events = ap₂ (λ a b. a ++ b) x.events v.events;
    }

pub element_value : (text : List ℕ) (slot : Slot) (old mid new : Reader) (d i k j : ℕ) → slot ≡ Entry → at text k ≡ 58
    → Has old mid (IsFlowPart text slot d i k) → Has mid new (IsFlowValue text d (next text (k + 1)) j)
    → Has old new (IsFlowElement text slot d i j)
element_value text Entry old mid new d i k j is colon x v = record {
  events = x.events ++ v.events;
  what = entry_value text d i k j x.events v.events colon x.what v.what;
  added = v.added ∙ ap (λ l. l ++ v.events) x.added ∙ append_assoc (marked_on old.tape) x.events v.events;
  unnamed = v.unnamed;
}
element_value text Item old mid new d i k j is colon x v = absurd (not_entry is)
  where
    not_entry : Item ≡ Entry → ⊥
    not_entry e = cc
element_value text Value old mid new d i k j is colon x v = absurd (not_entry is)
  where
    not_entry : Value ≡ Entry → ⊥
    not_entry e = cc

-- a node that is no key
pub part_alone : (text : List ℕ) (slot : Slot) (d i k : ℕ) (es : List Marked) → IsFlowNode text d i k es
    → at text k ≢ 58 → IsFlowPart text slot d i k (es ++ alone_events text slot k)
part_alone text Item d i k es x other =
    subst (λ l. IsFlowItem text d i k l) (sym (append-nil es))
    (record {
      end = x.end;
      node = x.node;
      stands = a_single x.stands;
      only = λ j n y ends. single_only text d d i j x.end n x.node x.stands
          (λ e. other (ap (at text) x.there ∙ e)) y ends;
      there = x.there;
      events = x.events;
    })
part_alone text Entry d i k es x other = inr (
  other,
  record {
    end = x.end;
    key = x.node;
    value = nothing_here text (next text x.end);
    stands = whole_alone;
    only = λ j m n y ends. alone_only text d d i j x.end m n x.node x.stands
        (λ e. other (ap (at text) x.there ∙ e)) y ends;
    there = x.there;
    events = ap₂ (λ a b. a ++ b) x.events (ap (λ q. node_events (nothing_here text q)) x.there);
  },
)
  where
    whole_alone : FlowEntry text d i x.end x.node (nothing_here text (next text x.end))
    whole_alone = flow_key_alone x.stands
part_alone text Value d i k es x other = subst (λ l. IsFlowNode text d i k l) (sym (append-nil es)) x

pub has_alone : (text : List ℕ) (slot : Slot) (old mid new : Reader) (d i k j : ℕ) → Has old mid (IsFlowNode text d i k)
    → IsAlone text slot mid new k j → Has old new (IsFlowPart text slot d i j)
has_alone text slot old mid new d i k j x a =
    let es = x.events ++ alone_events text slot k in
    record {
      events = es;
      what = subst (λ q. IsFlowPart text slot d i q es) (sym a.there)
          (part_alone text slot d i k x.events x.what a.other);
      added = a.added ∙ ap (λ l. l ++ alone_events text slot k) x.added
          ∙ append_assoc (marked_on old.tape) x.events (alone_events text slot k);
      unnamed = a.unnamed;
    }

-- a node that was read, and where it ends
pub record NodeRead (text : List ℕ) (old new : Reader) (d i e : ℕ) : Type 0 where
  pub node : Node
  pub stands : FlowNode text d i e node
  pub added : marked_on new.tape ≡ marked_on old.tape ++ node_events node
  pub unnamed : IsUnnamed new

pub node_has : (text : List ℕ) (old new : Reader) (d i e k : ℕ) → NodeRead text old new d i e → k ≡ next text e
    → Has old new (IsFlowNode text d i k)
node_has text old new d i e k x there = record {
  events = node_events x.node;
  what = record { end = e; node = x.node; stands = x.stands; there = there; events = refl };
  added = x.added;
  unnamed = x.unnamed;
}

pub key_has : (text : List ℕ) (slot : Slot) (old new : Reader) (d i e k : ℕ) → NodeRead text old new d i e
    → k ≡ next text e → has_colon text i e ≡ true → slot ≢ Item → slot ≢ Value
    → Has old new (IsFlowPart text slot d i k)
key_has text Entry old new d i e k x there colon item value = record {
  events = node_events x.node;
  what = inl (record {
    end = e;
    node = x.node;
    stands = x.stands;
    colon = colon;
    there = there;
    events = refl;
  });
  added = x.added;
  unnamed = x.unnamed;
}
key_has text Item old new d i e k x there colon item value = absurd (item refl)
key_has text Value old new d i e k x there colon item value = absurd (value refl)

-- a step that adds nothing
pub read_kept : (text : List ℕ) (old mid new : Reader) (d i e : ℕ) → NodeRead text old mid d i e → new.tape ≡ mid.tape
    → new.names ≡ mid.names → NodeRead text old new d i e
read_kept text old mid new d i e x tape names = record {
  node = x.node;
  stands = x.stands;
  added = ap marked_on tape ∙ x.added;
  unnamed = unnamed_kept mid new names x.unnamed;
}

-- what begins the same
pub behind_kept : (text : List ℕ) (flow : Bool) (a b : Reader) (place : ℕ) → b.start ≡ a.start → b.names ≡ a.names
    → IsBehindNames text flow a place → IsBehindNames text flow b place
behind_kept text flow a b place start names h = record {
  end = h.end;
  names = ap (λ s. names_at text flow s.index) start ∙ h.names
      ∙ ap (λ n. let r : Names = record { anchor = n.anchor; tag = n.tag } in Some (r, h.end)) (sym names);
  in_line = h.in_line;
  there = h.there;
  early = ap (λ s. s.late) start ∙ h.early;
  line = subst (λ s. InLine text s.index place) (sym start) h.line;
}

-- a collection as a node
pub brackets_read : (text : List ℕ) (old new : Reader) (d place e : ℕ) → IsBehindNames text true old place
    → Has old new (IsBrackets text d old.start.index (names_of old) place e)
    → NodeRead text old new d old.start.index e
brackets_read text old new d place e b x = record {
  node = x.what.node;
  stands = flow_collection b.names b.in_line
      (subst (λ q. Brackets text d old.start.index (names_of old) q e x.what.node) b.there x.what.stands);
  added = x.added ∙ ap (λ l. marked_on old.tape ++ l) x.what.events;
  unnamed = x.unnamed;
}

-- a scalar as a node
pub scalar_is : (text : List ℕ) (old new : Reader) (said told : List ℕ) (how : ScalarStyle) (e i : ℕ) → IsOf text old
    → old.start.late ≡ false → old.start.index ≡ i → told ≡ said → AddsScalar old new told how e
    → marked_on new.tape ≡ marked_on old.tape ++ node_events (scalar_at text i (names_of old) how said e)
scalar_is text old new said told how e i of early there same a =
    a.added ∙ ap (λ x. marked_on old.tape ++ x ∷ [])
    (ap₂ (λ (t : List ℕ) (p : Position). event_of told (slice_range t old.start.index e) p) of.same
    (ap (λ t. position_at t old.start.index old.start.late) of.same ∙ ap (λ b. position_at text old.start.index b) early)
    ∙ ap (λ k. event_of told (slice_range text k e) (mark text k)) there
    ∙ ap (λ l. event_of l (slice_range text i e) (mark text i)) same)
  where
    event_of : List ℕ → List ℕ → Position → Marked
    event_of said source p = (
      scalar (record {
        anchor = old.names.anchor;
        tag = old.names.tag;
        text = said;
        style = how;
        source = Some source;
      }),
      p,
    )

-- nothing as a node
pub nothing_is : (text : List ℕ) (old new : Reader) (i : ℕ) → IsOf text old → old.start.late ≡ false
    → old.start.index ≡ i → IsUnnamed old → AddsScalar old new [] style.Plain i
    → marked_on new.tape ≡ marked_on old.tape ++ node_events (nothing_here text i)
nothing_is text old new i of early there none a =
    scalar_is text old new [] [] style.Plain i i of early there refl a
    ∙ ap₂ (λ (n : Names) (l : List ℕ). marked_on old.tape ++ node_events (no_content (mark text i) n l)) none
    (no_bytes text i i refl)

-- a leaf, or names alone
pub leaf_line : (text : List ℕ) (r : Reader) (leaf : code.Leaf) → IsFlowLeaf text r leaf → InLine text r.start.index leaf.end
leaf_line text r leaf (behind_names place b l line) = line
leaf_line text r leaf (names_alone names some early kind begins stops ends line) = line

pub behind_read : (text : List ℕ) (old new : Reader) (d place : ℕ) (leaf : code.Leaf) → IsOf text old
    → IsBehindNames text true old place → IsLeaf text in_brackets place leaf
    → ((context : Context) (i : ℕ) → IsLeaf old.text.now context i leaf → old.start.late ≡ false
    → AddsLeaf old new context i leaf.end)
    → NodeRead text old new d old.start.index leaf.end
behind_read text old new d place leaf of b l found =
    let a = found in_brackets place (subst (λ t. IsLeaf t in_brackets place leaf) (sym of.same) l) b.early in
    record {
      node = a.node;
      stands = flow_leaf b.names b.in_line
          (ap (leaf_at text in_brackets) (sym b.there) ∙ ap (λ t. leaf_at t in_brackets place) (sym of.same) ∙ a.read)
          (ap (λ t. leaf_node t old.start.index (names_of old) a.leaf leaf.end) (sym of.same) ∙ a.is);
      added = a.added.events;
      unnamed = a.added.unnamed;
    }

pub leaf_read : (text : List ℕ) (old new : Reader) (d : ℕ) (leaf : code.Leaf) → IsOf text old → IsFlowLeaf text old leaf
    → breaks text leaf.end ≡ false
    → ((context : Context) (i : ℕ) → IsLeaf old.text.now context i leaf → old.start.late ≡ false
    → AddsLeaf old new context i leaf.end)
    → (leaf.kind ≡ Plain → AddsScalar old new (slice_range old.text.now leaf.begin leaf.stop) style.Plain leaf.end)
    → NodeRead text old new d old.start.index leaf.end
leaf_read text old new d leaf of (behind_names place b l line) whole found plain =
    behind_read text old new d place leaf of b l found
leaf_read text old new d leaf of (names_alone names some early kind begins stops ends line) whole found plain =
    let i = old.start.index in
    let a = plain kind in
    let n = no_content (mark text i) (names_of old) (slice_range text i leaf.end) in
    record {
      node = n;
      stands = flow_names names (lt-ltb i leaf.end some) whole ends;
      added = scalar_is text old new [] (slice_range old.text.now leaf.begin leaf.stop) style.Plain leaf.end i of early
          refl (no_bytes old.text.now leaf.begin leaf.stop (begins ∙ sym stops)) a;
      unnamed = a.unnamed;
    }

-- a pair as an item
pub pair_has : (text : List ℕ) (old a b c new : Reader) (d i e k j : ℕ) (s : Spot) → d ≢ 0
    → marked_on a.tape ≡ marked_on old.tape ++ (mapping_start None None, mark text i) ∷ []
    → begins_collection text i ≡ false → NodeRead text a b (d - 1) i e → has_colon text i e ≡ true → k ≡ next text e
    → Has b c (IsFlowValue text (d - 1) (next text (k + 1)) j) → c.text.now ≡ text → s.index ≡ j → s.late ≡ false
    → Adds c new mapping_end s → IsUnnamed new → Has old new (IsFlowItem text d i j)
pair_has text old a b c new zero i e k j s some begun none x colon there v same at_end end ended gone = absurd (some refl)
pair_has text old a b c new (suc d) i e k j s some begun none x colon there v same at_end end ended gone =
    let x' : FlowNode text d i e x.node = subst (λ m. FlowNode text m i e x.node) (less_one d) x.stands in
    let place : next text (k + 1) ≡ next text (suc (next text e)) =
    ap (next text) (sym (one_more k)) ∙ ap (λ q. next text (suc q)) there in
    let v' = subst (λ m. FlowValue text m (next text (k + 1)) v.what.end v.what.node) (less_one d) v.what.stands in
    let v'' = subst (λ q. FlowValue text d q v.what.end v.what.node) place v' in
    let n = mapping (mark text i) unnamed (pair x.node v.what.node no_pairs) (mark text (next text v.what.end)) in
    let inner = node_events x.node ++ (node_events v.what.node ++ []) in
    record {
      events = node_events n;
      what = record {
        end = v.what.end;
        node = n;
        stands = a_pair none (key_and_value x' colon v'');
        only = λ a m y ends. pair_only text (suc d) d d i a v.what.end e m x.node v.what.node x' colon v'' y ends;
        there = v.what.there;
        events = refl;
      };
      added = around (marked_on old.tape) (marked_on a.tape) (marked_on c.tape) (marked_on new.tape) inner
          (mapping_start None None, mark text i) (mapping_end, mark text (next text v.what.end)) begun
          (v.added ∙ ap₂ (λ l m. l ++ m) x.added v.what.events
          ∙ append_assoc (marked_on a.tape) (node_events x.node) (node_events v.what.node)
          ∙ ap (λ l. marked_on a.tape ++ (node_events x.node ++ l)) (sym (append-nil (node_events v.what.node))))
          (added_at text c new mapping_end s (next text v.what.end) same (at_end ∙ v.what.there) end ended);
      unnamed = gone;
    }

-- a value
pub value_none : (text : List ℕ) (old new : Reader) (d i : ℕ) → is_one_of (codes ",]}") (at text i) ≡ true
    → next text i ≡ i → marked_on new.tape ≡ marked_on old.tape ++ node_events (nothing_here text i) → IsUnnamed new
    → Has old new (IsFlowValue text d i i)
value_none text old new d i ends here added gone = record {
  events = node_events (nothing_here text i);
  what = record {
    end = i;
    node = nothing_here text i;
    stands = no_flow_value ends;
    there = sym here;
    events = refl;
  };
  added = added;
  unnamed = gone;
}

pub value_some : (text : List ℕ) (old new : Reader) (d i k : ℕ) → Has old new (IsFlowNode text d i k)
    → Has old new (IsFlowValue text d i k)
value_some text old new d i k x = record {
  events = x.events;
  what = record {
    end = x.what.end;
    node = x.what.node;
    stands = a_flow_value x.what.stands;
    there = x.what.there;
    events = x.what.events;
  };
  added = x.added;
  unnamed = x.unnamed;
}

pub has_from : (a b c : Reader) (What : List Marked → Type 0) → b.tape ≡ a.tape → Has b c What → Has a c What
has_from a b c What tape x = record {
  events = x.events;
  what = x.what;
  added = x.added ∙ ap (λ t. marked_on t ++ x.events) tape;
  unnamed = x.unnamed;
}

-- the same text
pub of_allowed : (text : List ℕ) (r : Reader) → IsOf text r → is_text r.text.now ≡ true
of_allowed text r of = ap is_text of.same ∙ of.allowed

pub of_kept : (text : List ℕ) (a b : Reader) → IsOf text a → b.text.now ≡ a.text.now → IsOf text b
of_kept text a b of same = record { same = same ∙ of.same; allowed = of.allowed }

-- where the next token stands
pub next_of : (text : List ℕ) (a b : Reader) (from to : ℕ) → IsOf text a → IsAtNext a b from to → to ≡ next text from
next_of text a b from to of n = n.there ∙ ap (λ t. next t from) of.same

pub line_of : (text : List ℕ) (a b : Reader) (from to : ℕ) → IsOf text a → IsAtNext a b from to → b.line ≡ a.line
    → breaks text from ≡ false
line_of text a b from to of n same =
    ap (λ t. breaks t from) (sym of.same) ∙ (sym n.lines ∙ ap not (eq-eqb b.line a.line same))

pub broken_of : (text : List ℕ) (a b : Reader) (from to : ℕ) → IsOf text a → IsAtNext a b from to → b.line ≢ a.line
    → breaks text from ≡ true
broken_of text a b from to of n other =
    ap (λ t. breaks t from) (sym of.same) ∙ (sym n.lines ∙ ap not (ne_eqb b.line a.line other))

pub item_no_value : Item ≢ Value
item_no_value e = cc

pub entry_no_value : Entry ≢ Value
entry_no_value e = cc

-- a bracket that is no square one
pub opened_curly : (text : List ℕ) (i : ℕ) → opens (at text i) ≡ true → at text i ≢ 91 → at text i ≡ 123
opened_curly text i h other =
    elim (or_cases (at text i == 91) _ h) [
      | inl e ↦ absurd (other (eqb-true (at text i) 91 e))
      | inr e ↦ eqb-true (at text i) 123 e
    ]

-- the next part, or the bracket that closes all
pub part_here : (text : List ℕ) (close i : ℕ) → at text i ≡ close → part_after text close i ≡ Some i
part_here text close i e =
    let here : (at text i == close) ≡ true = eq-eqb (at text i) close e in
    rw here refl

pub part_comma : (text : List ℕ) (close i j : ℕ) → at text i ≢ close → at text i ≡ 44 → j ≡ next text (i + 1)
    → part_after text close i ≡ Some j
part_comma text close i j other e there =
    let closes : (at text i == close) ≡ false = ne_eqb (at text i) close other in
    let comma : (at text i == 44) ≡ true = eq-eqb (at text i) 44 e in
    let place : next text (suc i) ≡ j = ap (next text) (one_more i) ∙ sym there in
    rw (closes, comma) (ap (λ k. Some k) place)

at_most : (b : Bool) → (if b then 0 else 1) ≤ 1
at_most true = omega arith
at_most false = omega arith

pub turns_fall : (text : List ℕ) (closing i k j : ℕ) → at text i ≢ closing → i ≤ k → i < length text
    → ((j ≡ k) × (at text j ≡ closing)) ⊎ (k < j) → turns_left text closing j < turns_left text closing i
turns_fall text closing i k j other low inside (inl e) =
    let one : ◌≡◌ {A = ℕ} (if at text i == closing then 0 else 1) 1 =
    ap {B = ℕ} (λ (b : Bool). if b then 0 else 1) (ne_eqb (at text i) closing other) in
    let gone : ◌≡◌ {A = ℕ} (if at text j == closing then 0 else 1) 0 =
    ap {B = ℕ} (λ (b : Bool). if b then 0 else 1) (eq-eqb (at text j) closing e.1) in
    omega (arith, one, gone, low, inside, e.0)
turns_fall text closing i k j other low inside (inr less) =
    let one : ◌≡◌ {A = ℕ} (if at text i == closing then 0 else 1) 1 =
    ap {B = ℕ} (λ (b : Bool). if b then 0 else 1) (ne_eqb (at text i) closing other) in
    let most = at_most (at text j == closing) in
    omega (arith, one, most, low, inside, less)
