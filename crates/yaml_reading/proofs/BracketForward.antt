-- What stands in brackets ends further on, and begins with no bracket that closes.
use Rattle.std.proofs.Common.{◌≡◌, ◌≢◌, ℕ, suc, ◌<◌, ◌≤◌, ◌==◌, ◌||◌, ◌⊎◌, Bool, true, false, List}
use Rattle.std.proofs.Common.{Some, None, refl, sym, ap, ◌∙◌, arith, subst, inl, inr}
use Rattle.std.specs.Prelude.{if◌then◌else◌}
use Rattle.std.proofs.lemmas.Bool.{false≢true, ltb-true, eqb-true, or_cases}
use Rattle.yaml_grammar.specs.Brackets.{Brackets, FlowEntries, FlowEntry, FlowItem, FlowItems, FlowNode, FlowPair}
use Rattle.yaml_grammar.specs.Brackets.{FlowValue, a_flow_entry, a_flow_item, a_flow_value, a_pair, a_single, curly}
use Rattle.yaml_grammar.specs.Brackets.{flow_collection, flow_key_alone, flow_leaf, flow_names, key_and_value}
use Rattle.yaml_grammar.specs.Brackets.{no_flow_entry, no_flow_item, no_flow_value, part_after, square, whole_entry}
use Rattle.yaml_grammar.specs.Bytes.{at}
use Rattle.yaml_grammar.specs.Gaps.{next}
use Rattle.yaml_grammar.specs.Names.{Names, names_at, unnamed}
use Rattle.yaml_grammar.specs.Nodes.{Node, Nodes, Pairs}
use Rattle.yaml_grammar.specs.Plain.{in_brackets}
use Rattle.yaml_reading.specs.Readers.{opens}
use Rattle.yaml_reading.proofs.Begins.{leaf_no, no_leaf_byte, stays_at, wanders}
use Rattle.yaml_reading.proofs.Forward.{leaf_ahead, names_ahead}
use Rattle.yaml_reading.proofs.Options.{either, no_some, pair_is, same_some}

-- a place that cannot begin a node in brackets: the text's end, or the bracket or `,` behind a node
abbrev pub ends_part : ℕ → Bool
ends_part c = c == 0 || (c == 44 || (c == 93 || c == 125))

four : (P : ℕ → Type 0) → P 0 → P 44 → P 93 → P 125 → (c : ℕ) → ends_part c ≡ true → P c
four P a b x y c h = elim (or_cases (c == 0) _ h) [
  | inl e ↦ subst P (sym (eqb-true c 0 e)) a
  | inr h ↦ elim (or_cases (c == 44) _ h) [
    | inl e ↦ subst P (sym (eqb-true c 44 e)) b
    | inr h ↦ elim (or_cases (c == 93) _ h) [
      | inl e ↦ subst P (sym (eqb-true c 93 e)) x
      | inr e ↦ subst P (sym (eqb-true c 125 e)) y
    ]
  ]
]

no_wander : (c : ℕ) → ends_part c ≡ true → wanders c ≡ false
no_wander = four (λ c. wanders c ≡ false) refl refl refl refl

no_leaf_of : (c : ℕ) → ends_part c ≡ true → no_leaf_byte c ≡ true
no_leaf_of = four (λ c. no_leaf_byte c ≡ true) refl refl refl refl

no_bracket : (c : ℕ) → ends_part c ≡ true → opens c ≡ true → ⊥
no_bracket c h o = false≢true (sym (four (λ c. opens c ≡ false) refl refl refl refl c h) ∙ o)

or_inl : (c : ℕ) → c ≡ 91 → opens c ≡ true
or_inl c e = rw e refl

or_inr : (c : ℕ) → c ≡ 123 → opens c ≡ true
or_inr c e = rw e refl

module _ (text : List ℕ) where
  pub next_ahead : (i : ℕ) → i ≤ next text i
  next_ahead i = omega arith

  pub names_forward : {i p : ℕ} {names : Names} (flow : Bool) → names_at text flow i ≡ Some (names, p) → i ≤ p
  names_forward {i} {p} {names} flow h = names_ahead text flow i (names, p) h

  pub part_ahead : (close : ℕ) {i k : ℕ} → part_after text close i ≡ Some k → i ≤ k
  part_ahead close {i} {k} h =
      either (λ o. o ≡ Some k → i ≤ k) (at text i == close) (Some i)
      (if at text i == 44 then Some (next text (suc i)) else None)
      (λ e. omega (arith, same_some i k e))
      (either (λ o. o ≡ Some k → i ≤ k) (at text i == 44) (Some (next text (suc i))) None
      (λ e. subst (λ x. i ≤ x) (same_some (next text (suc i)) k e) (omega arith))
      (λ e. absurd (no_some k e))) h

  mutual
    pub flow_forward : {d i j : ℕ} {n : Node} → FlowNode text d i j n → i ≤ j
    flow_forward (flow_leaf {i = i} {p = p} {e = e} {x = x} names line leaf is) =
        omega (arith, names_forward true names, next_ahead p, leaf_ahead text in_brackets (next text p) (x, e) leaf)
    flow_forward (flow_collection {p = p} names line b) =
        omega (arith, names_forward true names, next_ahead p, brackets_forward b)
    flow_forward (flow_names names some line ends) = omega (arith, names_forward true names)

    pub brackets_forward : {d i k j : ℕ} {names : Names} {n : Node} → Brackets text d i names k j n → k < j
    brackets_forward (square {k = k} o items) = omega (arith, next_ahead (suc k), items_forward items)
    brackets_forward (curly {k = k} o entries) = omega (arith, next_ahead (suc k), entries_forward entries)

    pub items_forward : {d i e : ℕ} {ns : Nodes} → FlowItems text d i e ns → i ≤ e
    items_forward (no_flow_item o) = omega arith
    items_forward (a_flow_item {j = j} n a ns) =
        omega (arith, item_forward n, next_ahead j, part_ahead 93 a, items_forward ns)

    pub item_forward : {d i j : ℕ} {n : Node} → FlowItem text d i j n → i ≤ j
    item_forward (a_single n) = flow_forward n
    item_forward (a_pair b p) = pair_forward p

    pub pair_forward : {d i j : ℕ} {m n : Node} → FlowPair text d i j m n → i ≤ j
    pair_forward (key_and_value {k = k} m c n) =
        omega (arith, flow_forward m, next_ahead k, next_ahead (suc (next text k)), value_forward n)

    pub value_forward : {d i j : ℕ} {n : Node} → FlowValue text d i j n → i ≤ j
    value_forward (a_flow_value n) = flow_forward n
    value_forward (no_flow_value e) = omega arith

    pub entries_forward : {d i e : ℕ} {ps : Pairs} → FlowEntries text d i e ps → i ≤ e
    entries_forward (no_flow_entry o) = omega arith
    entries_forward (a_flow_entry {j = j} n a ps) =
        omega (arith, entry_forward n, next_ahead j, part_ahead 125 a, entries_forward ps)

    pub entry_forward : {d i j : ℕ} {m n : Node} → FlowEntry text d i j m n → i ≤ j
    entry_forward (whole_entry p) = pair_forward p
    entry_forward (flow_key_alone m) = flow_forward m

  -- behind a part the next one stands further on, or the bracket that closes
  pub part_behind : (close : ℕ) {i k : ℕ} → part_after text close i ≡ Some k
      → (at text k ≡ close) ⊎ (i < k)
  part_behind close {i} {k} h = by_close (at text i == close) refl h
    where
      by_comma : (b : Bool) → (if b then Some (next text (suc i)) else None) ≡ Some k → i < k
      by_comma true e = subst (λ x. i < x) (same_some (next text (suc i)) k e) (omega arith)
      by_comma false e = absurd (no_some k e)

      by_close : (b : Bool) → (at text i == close) ≡ b
          → (if b then Some i else if at text i == 44 then Some (next text (suc i)) else None) ≡ Some k
          → (at text k ≡ close) ⊎ (i < k)
      by_close true c e = inl (subst (λ x. at text x ≡ close) (same_some i k e) (eqb-true (at text i) close c))
      by_close false c e = inr (by_comma (at text i == 44) e)

  -- names stay where a byte ends a part
  ended_names : (i c p : ℕ) (names : Names) → at text i ≡ c → ends_part c ≡ true
      → names_at text true i ≡ Some (names, p) → (p ≡ i) × (next text p ≡ i)
  ended_names i c p names e w h =
      let s = stays_at text i c e (no_wander c w) in
      let same = (pair_is unnamed names i p (sym (s.names true) ∙ h)).1 in
      (sym same, subst (λ x. next text x ≡ i) same s.here)

  bracket_not : {d i k j : ℕ} {names : Names} {n : Node} (c : ℕ) → ends_part c ≡ true → Brackets text d i names k j n
      → at text k ≢ c
  bracket_not c w (square {k = k} o items) byte = absurd (no_bracket c w (or_inl c (sym byte ∙ o)))
  bracket_not c w (curly {k = k} o entries) byte = absurd (no_bracket c w (or_inr c (sym byte ∙ o)))

  -- so does no node in brackets begin
  pub flow_not : {d i j : ℕ} {n : Node} (c : ℕ) → ends_part c ≡ true → FlowNode text d i j n → at text i ≢ c
  flow_not c w (flow_leaf {i = i} {p = p} {e = e} {names = names} {x = x} h line leaf is) byte =
      let place = ended_names i c p names byte w h in
      leaf_no text in_brackets (next text p) c (x, e) leaf (no_leaf_of c w) (ap (at text) place.1 ∙ byte)
  flow_not c w (flow_collection {i = i} {p = p} {names = names} h line b) byte =
      let place = ended_names i c p names byte w h in
      bracket_not c w b (ap (at text) place.1 ∙ byte)
  flow_not c w (flow_names {i = i} {p = p} {names = names} h some line ends) byte =
      let place = ended_names i c p names byte w h in
      absurd (omega (arith, place.0, ltb-true i p some))

  pub pair_not : {d i j : ℕ} {m n : Node} (c : ℕ) → ends_part c ≡ true → FlowPair text d i j m n → at text i ≢ c
  pair_not c w (key_and_value m h n) = flow_not c w m

  pub item_not : {d i j : ℕ} {n : Node} (c : ℕ) → ends_part c ≡ true → FlowItem text d i j n → at text i ≢ c
  item_not c w (a_single n) = flow_not c w n
  item_not c w (a_pair b p) = pair_not c w p

  pub entry_not : {d i j : ℕ} {m n : Node} (c : ℕ) → ends_part c ≡ true → FlowEntry text d i j m n → at text i ≢ c
  entry_not c w (whole_entry p) = pair_not c w p
  entry_not c w (flow_key_alone m) = flow_not c w m
