-- What is left in brackets.
use Rattle.std.proofs.Common.{ℕ, suc, ◌≡◌, ◌≢◌, true, false, List, Some}
use Rattle.std.proofs.Common.{refl, sym, subst, ap, ◌∙◌}
use Rattle.std.proofs.lemmas.Bool.{false≢true}
use Rattle.yaml_direct.specs.InBrackets.{IsFlowElement, IsFlowEntry, IsFlowItem, closing_of}
use Rattle.yaml_direct.specs.LeftInBrackets.{HasNothing, IsCutOff, LeavesEntry, LeavesItem, LeavesNode, LeavesPart}
use Rattle.yaml_direct.specs.LeftInBrackets.{LeavesParts, LeavesNodeWithin, LeavesValue, ends_part}
use Rattle.yaml_direct.specs.declared.flow.Slot.{Slot}
use Rattle.yaml_direct.specs.declared.flow.Slot.TheVariants.{Entry, Item, Value}
use Rattle.yaml_direct.proofs.BracketMisses.{NoNode, OnlyEnd}
use Rattle.yaml_direct.proofs.BracketOnly.{after_ends}
use Rattle.yaml_grammar.specs.Brackets.{FlowEntries, FlowEntry, FlowItem, FlowItems, FlowNode, FlowValue}
use Rattle.yaml_grammar.specs.Brackets.{a_flow_entry, a_flow_item, a_flow_value, a_pair, a_single, begins_collection}
use Rattle.yaml_grammar.specs.Brackets.{flow_key_alone, key_and_value, no_flow_entry, no_flow_item}
use Rattle.yaml_grammar.specs.Brackets.{no_flow_value, part_after, whole_entry}
use Rattle.yaml_grammar.specs.Bytes.{at}
use Rattle.yaml_grammar.specs.Gaps.{next}
use Rattle.yaml_grammar.specs.Nodes.{Marked, Node, Nodes, Pairs}

-- a node that is cut off, or none
pub none_left : (text : List ℕ) (i : ℕ) → NoNode text i → LeavesNode text i
none_left text i h = record { cut = λ d j n x. absurd (h d j n x) }

pub cut_left : (text : List ℕ) (i e : ℕ) → OnlyEnd text i e → IsCutOff text i e → LeavesNode text i
cut_left text i e only c = record { cut = λ d j n x. subst (λ k. IsCutOff text i k) (sym (only d j n x)) c }

-- so is each part that begins with it
item_cut : (text : List ℕ) (d i j : ℕ) (n : Node) → LeavesNode text i → FlowItem text d i j n
    → ends_part (at text (next text j)) ≡ false
item_cut text d i j n l (a_single x) = (l.cut d j n x).part
item_cut text d i j n l (a_pair {d = e} none (key_and_value {k = k} {m = m} x c v)) =
    absurd (false≢true (sym (l.cut e k m x).key ∙ c))

entry_cut : (text : List ℕ) (d i j : ℕ) (m n : Node) → LeavesNode text i → FlowEntry text d i j m n
    → ends_part (at text (next text j)) ≡ false
entry_cut text d i j m n l (flow_key_alone x) = (l.cut d j m x).part
entry_cut text d i j m n l (whole_entry (key_and_value {k = k} x c v)) = absurd (false≢true (sym (l.cut d k m x).key ∙ c))

pub part_left : (text : List ℕ) (slot : Slot) (d i : ℕ) → LeavesNode text i → LeavesPart text slot d i
part_left text Item d i l = record { cut = λ j n x. item_cut text d i j n l x }
part_left text Entry d i l = record { cut = λ j m n x. entry_cut text d i j m n l x }
part_left text Value d i l = record { cut = λ j n x. (l.cut d j n x).part }

-- where `:` follows a value
pub value_left : (text : List ℕ) (d i e : ℕ) → OnlyEnd text i e → ends_part (at text (next text e)) ≡ false
    → LeavesNodeWithin text d i
value_left text d i e only apart =
    record { cut = λ j n x. ap (λ k. ends_part (at text (next text k))) (only d j n x) ∙ apart }

-- where a collection stands as an item, or would, and is no key
collection_cut : (text : List ℕ) (d i j : ℕ) (n : Node) → begins_collection text i ≡ true
    → ((k : ℕ) (m : Node) → FlowNode text d i k m → ends_part (at text (next text k)) ≡ false) → FlowItem text d i j n
    → ends_part (at text (next text j)) ≡ false
collection_cut text d i j n begins cut (a_single x) = cut j n x
collection_cut text d i j n begins cut (a_pair none p) = absurd (false≢true (sym none ∙ begins))

pub collection_left : (text : List ℕ) (slot : Slot) (d i : ℕ) → slot ≢ Entry → begins_collection text i ≡ true
    → ((k : ℕ) (m : Node) → FlowNode text d i k m → ends_part (at text (next text k)) ≡ false)
    → LeavesPart text slot d i
collection_left text Item d i other begins cut = record { cut = λ j n x. collection_cut text d i j n begins cut x }
collection_left text Entry d i other begins cut = absurd (other refl)
collection_left text Value d i other begins cut = record { cut = cut }

-- and where none stands
none_entry : (text : List ℕ) (d i j : ℕ) (m n : Node) → ((k : ℕ) (m : Node) → FlowNode text d i k m → ⊥)
    → FlowEntry text d i j m n → ⊥
none_entry text d i j m n none (flow_key_alone x) = none j m x
none_entry text d i j m n none (whole_entry (key_and_value {k = k} x c v)) = none k m x

pub no_collection_left : (text : List ℕ) (slot : Slot) (d i : ℕ) → begins_collection text i ≡ true
    → ((k : ℕ) (m : Node) → FlowNode text d i k m → ⊥) → LeavesPart text slot d i
no_collection_left text Item d i begins none =
    record { cut = λ j n x. collection_cut text d i j n begins (λ k m y. absurd (none k m y)) x }
no_collection_left text Entry d i begins none = record { cut = λ j m n x. absurd (none_entry text d i j m n none x) }
no_collection_left text Value d i begins none = record { cut = λ j n x. absurd (none j n x) }

-- a pair whose value is none
pair_cut : (text : List ℕ) (d i e j : ℕ) (n : Node) → OnlyEnd text i e → ends_part (at text (next text e)) ≡ false
    → ((c : ℕ) → d ≡ suc c → LeavesValue text c (next text (suc (next text e)))) → FlowItem text d i j n
    → ends_part (at text (next text j)) ≡ false
pair_cut text d i e j n only apart left (a_single x) =
    ap (λ k. ends_part (at text (next text k))) (only d j n x) ∙ apart
pair_cut text d i e j n only apart left (a_pair {d = c} none (key_and_value {k = k} {m = m} {n = v} x colon w)) =
    (left c refl).cut j v
    (subst (λ q. FlowValue text c (next text (suc (next text q))) j v) (only c k m x) w)

pub pair_left : (text : List ℕ) (d i e : ℕ) → OnlyEnd text i e → ends_part (at text (next text e)) ≡ false
    → ((c : ℕ) → d ≡ suc c → LeavesValue text c (next text (suc (next text e)))) → LeavesItem text d i
pair_left text d i e only apart left = record { cut = λ j n x. pair_cut text d i e j n only apart left x }

-- an entry whose value is none
whole_cut : (text : List ℕ) (d i e j : ℕ) (m n : Node) → OnlyEnd text i e → ends_part (at text (next text e)) ≡ false
    → LeavesValue text d (next text (suc (next text e))) → FlowEntry text d i j m n
    → ends_part (at text (next text j)) ≡ false
whole_cut text d i e j m n only apart left (flow_key_alone x) =
    ap (λ k. ends_part (at text (next text k))) (only d j m x) ∙ apart
whole_cut text d i e j m n only apart left (whole_entry (key_and_value {k = k} x colon w)) =
    left.cut j n (subst (λ q. FlowValue text d (next text (suc (next text q))) j n) (only d k m x) w)

pub entry_left : (text : List ℕ) (d i e : ℕ) → OnlyEnd text i e → ends_part (at text (next text e)) ≡ false
    → LeavesValue text d (next text (suc (next text e))) → LeavesEntry text d i
entry_left text d i e only apart left = record { cut = λ j m n x. whole_cut text d i e j m n only apart left x }

-- a value where no node stands and none ends
value_cut : (text : List ℕ) (d i j : ℕ) (n : Node) → LeavesNodeWithin text d i → ends_part (at text i) ≡ false
    → FlowValue text d i j n → ends_part (at text (next text j)) ≡ false
value_cut text d i j n l apart (a_flow_value x) = l.cut j n x
value_cut text d i j n l apart (no_flow_value ends) = absurd (false≢true (sym apart ∙ ends))

pub no_value_left : (text : List ℕ) (d i : ℕ) → LeavesNodeWithin text d i → ends_part (at text i) ≡ false
    → LeavesValue text d i
no_value_left text d i l apart = record { cut = λ j n x. value_cut text d i j n l apart x }

pub nothing_value : (text : List ℕ) (d i : ℕ) → HasNothing text i → LeavesValue text d i
nothing_value text d i h = no_value_left text d i (part_left text Value d i h.node) h.part

-- parts of which the first is none
items_none : (text : List ℕ) (d i e : ℕ) (ns : Nodes) → at text i ≢ 93 → LeavesItem text d i → FlowItems text d i e ns → ⊥
items_none text d i e ns other l (no_flow_item byte) = other byte
items_none text d i e ns other l (a_flow_item {j = j} {k = k} {n = n} x after rest) =
    false≢true (sym (l.cut j n x) ∙ after_ends text 93 (next text j) k refl after)

entries_none : (text : List ℕ) (d i e : ℕ) (ps : Pairs) → at text i ≢ 125 → LeavesEntry text d i
    → FlowEntries text d i e ps → ⊥
entries_none text d i e ps other l (no_flow_entry byte) = other byte
entries_none text d i e ps other l (a_flow_entry {j = j} {k = k} {m = m} {n = n} x after rest) =
    false≢true (sym (l.cut j m n x) ∙ after_ends text 125 (next text j) k refl after)

pub parts_left : (text : List ℕ) (slot : Slot) (d i : ℕ) → slot ≢ Value → at text i ≢ closing_of slot
    → LeavesPart text slot d i → LeavesParts text slot d i
parts_left text Item d i some other l = λ e ns x. items_none text d i e ns other l x
parts_left text Entry d i some other l = λ e ps x. entries_none text d i e ps other l x
parts_left text Value d i some other l = some refl

pub nothing_parts : (text : List ℕ) (slot : Slot) (d i : ℕ) → slot ≢ Value → HasNothing text i
    → LeavesParts text slot d i
nothing_parts text slot d i some h =
    parts_left text slot d i some (no_closing slot some) (part_left text slot d i h.node)
  where
    no_closing : (slot : Slot) → slot ≢ Value → at text i ≢ closing_of slot
    no_closing Item some e = false≢true (sym h.part ∙ ap ends_part e)
    no_closing Entry some e = false≢true (sym h.part ∙ ap ends_part e)
    no_closing Value some e = some refl

-- and parts behind one that stands
items_on : (text : List ℕ) (d i k e : ℕ) (es : List Marked) (ns : Nodes) → at text i ≢ 93 → IsFlowItem text d i k es
    → ((q : ℕ) → part_after text 93 k ≡ Some q → LeavesParts text Item d q) → FlowItems text d i e ns → ⊥
items_on text d i k e es ns other y left (no_flow_item byte) = other byte
items_on text d i k e es ns other y left (a_flow_item {j = j} {k = q} {n = n} {ns = ms} x after rest) =
    let same = y.only j n x (after_ends text 93 (next text j) q refl after) in
    left q (ap (part_after text 93) (y.there ∙ ap (next text) (sym same)) ∙ after) e ms rest

entries_on : (text : List ℕ) (d i k e : ℕ) (es : List Marked) (ps : Pairs) → at text i ≢ 125
    → IsFlowEntry text d i k es → ((q : ℕ) → part_after text 125 k ≡ Some q → LeavesParts text Entry d q)
    → FlowEntries text d i e ps → ⊥
entries_on text d i k e es ps other y left (no_flow_entry byte) = other byte
entries_on text d i k e es ps other y left (a_flow_entry {j = j} {k = q} {m = m} {n = n} {ps = qs} x after rest) =
    let same = y.only j m n x (after_ends text 125 (next text j) q refl after) in
    left q (ap (part_after text 125) (y.there ∙ ap (next text) (sym same)) ∙ after) e qs rest

pub parts_on : (text : List ℕ) (slot : Slot) (d i k : ℕ) (es : List Marked) → at text i ≢ closing_of slot
    → IsFlowElement text slot d i k es
    → ((q : ℕ) → part_after text (closing_of slot) k ≡ Some q → LeavesParts text slot d q) → LeavesParts text slot d i
parts_on text Item d i k es other y left = λ e ns x. items_on text d i k e es ns other y left x
parts_on text Entry d i k es other y left = λ e ps x. entries_on text d i k e es ps other y left x
parts_on text Value d i k es other y left = y
