-- Pairs of a mapping where they are printed.
use Rattle.std.proofs.Common.{◌≡◌, ℕ, suc, ◌+◌, Bool, true, false, ◌==◌, ◌&&◌, refl, sym}
use Rattle.std.proofs.Common.{subst, ap, ap₂, ◌∙◌, arith, List, [], ◌∷◌, ◌++◌, length, replicate, nat_le}
use Rattle.std.proofs.Common.{append_assoc}
use Rattle.std.proofs.lemmas.Bool.{false≢true}
use Rattle.std.proofs.lemmas.List.{get_or-drop}
use Rattle.yaml_base.specs.EmitTree.{EmitNode, EmitPairs, emit_pair, emit_node_events, emit_pairs_events}
use Rattle.yaml_base.specs.MarkedEvents.{events_in}
use Rattle.yaml_base.specs.Renders.{Renders}
use Rattle.yaml_emit.specs.Places.{far_place, key_place, value_place}
use Rattle.yaml_emit.specs.StreamTexts.{is_simple_key, node_text, pairs_text}
use Rattle.yaml_emit.specs.declared.open.Lead.TheVariants.{Fresh, Indicator, Text}
use Rattle.yaml_grammar.specs.Blocks.{part, value, Key, Entry, an_entry, in_line, with_marks}
use Rattle.yaml_grammar.specs.Bytes.{at, column, is_gap, is_mark, is_over, parts}
use Rattle.yaml_grammar.specs.Gaps.{is_at, is_item}
use Rattle.yaml_grammar.specs.Nodes.{Node, pair, node_events, pairs_events}
use Rattle.yaml_printed.proofs.Aheads.{Ahead, further_out}
use Rattle.yaml_printed.proofs.Finds.{BehindIs, PairsAre, PairsFound, renders_append}
use Rattle.yaml_printed.proofs.Rests.{Rest, rest_is, rest_on, rest_at, rest_skip, rest_in, rest_inside, begins_token}
use Rattle.yaml_printed.proofs.Rests.{column_in}
use Rattle.yaml_printed.proofs.Rests.{a_colon, a_question, column_step}
use Rattle.yaml_printed.proofs.TreeEnds.{Line, begins_gap, rest_gap, more_gap, node_gap, node_feed, line_behind}
use Rattle.yaml_printed.proofs.TreeEnds.{line_column}
use Rattle.yaml_printed.proofs.TreeEnds.{behind_indicator, behind_text, pair_feed, pair_text}
use Rattle.yaml_printed.proofs.Words.{and_no, equal_self}

-- these bytes begin a token that begins no document and is no item's `-`
pub record Begins (xs : List ℕ) : Type 0 where
  pub some : xs ≡ [] → ⊥
  pub token : begins_token xs ≡ true
  pub whole : parts xs ≡ false
  pub no_dash : (at xs 0 == 45 && is_gap (at xs 1)) ≡ false

pub rest_byte : {text : List ℕ} {i : ℕ} {xs : List ℕ} (k : ℕ) → Rest text i xs → at text (i + k) ≡ at xs k
rest_byte {text = text} {i = i} k r = sym (get_or-drop i text k 0) ∙ ap (λ l. at l k) r.same

inside : {text : List ℕ} {i : ℕ} (xs : List ℕ) → (xs ≡ [] → ⊥) → Rest text i xs → nat_le (length text) i ≡ false
inside [] some r = absurd (some refl)
inside (c ∷ cs) some r = rest_inside r

module _ {text : List ℕ} {i : ℕ} {xs : List ℕ} (b : Begins xs) (r : Rest text i xs) where
  pub begins_inside : nat_le (length text) i ≡ false
  begins_inside = inside xs b.some r

  pub no_over : is_over text i ≡ false
  no_over = rw (begins_inside, r.same, b.whole) (and_no (column text i == 0))

  pub no_item_mark : is_mark text 45 i ≡ false
  no_item_mark =
      let same : i ≡ i + 0 = omega arith in
      ap₂ (λ x y. x == 45 && is_gap y) (ap (at text) same ∙ rest_byte 0 r) (rest_byte 1 r) ∙ b.no_dash

  pub at_column : (c : ℕ) → column text i ≡ c → is_at text c i ≡ true
  at_column c e = rw (no_over, e) (equal_self c)

-- a key in a line where it is printed
pub record KeyFound (text : List ℕ) (d i : ℕ) (n : EmitNode) (after : List ℕ) : Type 0 where
  pub colon : ℕ
  pub node : Node
  pub key : Key text d i colon node
  pub same : Renders (emit_node_events n) (events_in (node_events node))
  pub rest : Rest text (suc colon) after

pub record KeyIs (text : List ℕ) (d c : ℕ) (n : EmitNode) : Type 0 where
  pub found : (i : ℕ) (after : List ℕ) → Rest text i (node_text (key_place c) n ++ after) → begins_gap after ≡ true
      → KeyFound text d i n after
  pub begins : (after : List ℕ) → begins_gap after ≡ true → Begins (node_text (key_place c) n ++ after)

-- an entry where it is printed
pub record EntryFound (text : List ℕ) (d c i j : ℕ) (k v : EmitNode) : Type 0 where
  pub key : Node
  pub value : Node
  pub entry : Entry text d c i j key value
  pub same_key : Renders (emit_node_events k) (events_in (node_events key))
  pub same_value : Renders (emit_node_events v) (events_in (node_events value))

abbrev pub EntryFrom : List ℕ → (d c : ℕ) → (k v : EmitNode) → (simple : Bool) → Type 0
EntryFrom text d c k v simple = (i e j : ℕ) (after : List ℕ) → Rest text i (pair_text c k v simple ++ after)
    → column text i ≡ c → Ahead text (suc c) e j after → is_item text c j ≡ false → EntryFound text d c i j k v

pub record EntryIs (text : List ℕ) (d c : ℕ) (k v : EmitNode) (simple : Bool) : Type 0 where
  pub found : EntryFrom text d c k v simple
  pub begins : (after : List ℕ) → Begins (pair_text c k v simple ++ after)

module _ (text : List ℕ) (d c : ℕ) (k v : EmitNode) where
  -- a key in a line, and its value
  simple_entry : KeyIs text d c k → BehindIs text d c value v → EntryFrom text d c k v true
  simple_entry one two i e j after r col a no_dash =
      let own = node_text (value_place c) v in
      let gap : begins_gap (own ++ after) ≡ true
      = more_gap own after (node_gap Text (c + 2) c v behind_text) in
      let r1 : Rest text i (node_text (key_place c) k ++ (own ++ after))
      = rest_is (append_assoc (node_text (key_place c) k) own after) r in
      let x = one.found i (own ++ after) r1 gap in
      let y = two (suc x.colon) e j after x.rest (λ h. absurd (false≢true h)) a (λ h. no_dash) in
      record {
        key = x.node;
        value = y.node;
        entry = in_line {m = x.node} {n = y.node} x.key y.behind;
        same_key = x.same;
        same_value = y.same;
      }

  simple_begins : KeyIs text d c k → (after : List ℕ) → Begins (pair_text c k v true ++ after)
  simple_begins one after =
      let own = node_text (value_place c) v in
      subst Begins (sym (append_assoc (node_text (key_place c) k) own after))
      (one.begins (own ++ after) (more_gap own after (node_gap Text (c + 2) c v behind_text)))

  pub simple_is : KeyIs text d c k → BehindIs text d c value v → EntryIs text d c k v true
  simple_is one two = record { found = simple_entry one two; begins = simple_begins one }

  value_ahead : (e : ℕ) (xs : List ℕ) → Rest text e (replicate c 32 ++ (58 ∷ xs)) → Line text e
      → Ahead text (suc c) e (e + c) (replicate c 32 ++ (58 ∷ xs))
  value_ahead e xs r l = record {
    blanks = c;
    token = 58 ∷ xs;
    rest = r;
    is = refl;
    begins = refl;
    start = l;
    there = refl;
    stops = further_out (omega arith);
  }

  colon_begins : (xs : List ℕ) → Begins (58 ∷ xs)
  colon_begins xs = record { some = λ e. absurd (cc); token = refl; whole = refl; no_dash = refl }

  question_begins : (xs : List ℕ) → Begins (63 ∷ xs)
  question_begins xs = record { some = λ e. absurd (cc); token = refl; whole = refl; no_dash = refl }

  far_gap : (n : EmitNode) (after : List ℕ) → begins_gap (node_text (far_place c) n ++ after) ≡ true
  far_gap n after = more_gap (node_text (far_place c) n) after (node_gap Indicator (c + 2) c n behind_indicator)

  mark_here : (b i : ℕ) (n : EmitNode) (after : List ℕ) → Rest text i (b ∷ (node_text (far_place c) n ++ after))
      → is_gap (at text (i + 1)) ≡ true
  mark_here b i n after r =
      let next : i + 1 ≡ suc i = omega arith in
      ap (λ k. is_gap (at text k)) next
      ∙ rest_gap (node_text (far_place c) n) after (node_gap Indicator (c + 2) c n behind_indicator) (rest_on r)

  -- a key behind `?`, and its value behind `:`
  marked_entry : BehindIs text d c part k → BehindIs text d c part v → EntryFrom text d c k v false
  marked_entry one two i e j after r col a no_dash =
      let first = node_text (far_place c) k in
      let second = node_text (far_place c) v in
      let colon = 58 ∷ (second ++ after) in
      let r1 : Rest text i (63 ∷ (first ++ (replicate c 32 ++ colon)))
      = rest_is (ap (λ l. 63 ∷ l) (append_assoc first (replicate c 32 ++ (58 ∷ second)) after
      ∙ ap (λ l. first ++ l) (append_assoc (replicate c 32) (58 ∷ second) after))) r in
      let r2 : Rest text (suc i) (first ++ (replicate c 32 ++ colon)) = rest_on r1 in
      let m = suc i + length first in
      let r3 : Rest text m (replicate c 32 ++ colon) = rest_skip first r2 in
      let l : Line text m = line_behind first (replicate c 32 ++ colon) (suc i) r2
      (node_feed k (far_place c) refl false) in
      let q = m + c in
      let r4 : Rest text q colon = rest_in c colon r3 in
      let col1 : column text (suc i) ≡ suc c = column_step a_question r1 ∙ omega (arith, col) in
      let col2 : column text q ≡ c = column_in c colon r3 ∙ omega (arith, line_column l) in
      let col3 : column text (suc q) ≡ suc c = column_step a_colon r4 ∙ omega (arith, col2) in
      let b = colon_begins (second ++ after) in
      let no_dash1 : is_item text c q ≡ false = ap (λ x. x && column text q == c) (no_item_mark b r4) in
      let x = one (suc i) m q (replicate c 32 ++ colon) r2 (λ h. col1) (value_ahead m (second ++ after) r3 l)
      (λ h. no_dash1) in
      let y = two (suc q) e j after (rest_on r4) (λ h. col3) a (λ h. no_dash) in
      let mark1 : is_mark text 63 i ≡ true = rw (rest_at r1) (mark_here 63 i k (replicate c 32 ++ colon) r1) in
      let mark2 : is_mark text 58 q ≡ true = rw (rest_at r4) (mark_here 58 q v after r4) in
      record {
        key = x.node;
        value = y.node;
        entry = with_marks {m = x.node} {n = y.node} mark1 x.behind (rw mark2 (at_column b r4 c col2)) y.behind;
        same_key = x.same;
        same_value = y.same;
      }

  pub marked_is : BehindIs text d c part k → BehindIs text d c part v → EntryIs text d c k v false
  marked_is one two = record { found = marked_entry one two; begins = λ after. question_begins _ }

-- the line of a pair from its key on, and the further pairs
abbrev pub pairs_line : (c : ℕ) → (k v : EmitNode) → EmitPairs → List ℕ
pairs_line c k v ps = pair_text c k v (is_simple_key k) ++ pairs_text Fresh c ps

pub line_begins : {text : List ℕ} {d c : ℕ} {k v : EmitNode} (ps : EmitPairs) (after : List ℕ)
    → EntryIs text d c k v (is_simple_key k) → Begins (pairs_line c k v ps ++ after)
line_begins {c = c} {k = k} {v = v} ps after one =
    subst Begins (sym (append_assoc (pair_text c k v (is_simple_key k)) (pairs_text Fresh c ps) after))
    (one.begins (pairs_text Fresh c ps ++ after))

-- a pair, and those behind it
pub pairs_stand : (text : List ℕ) (d c : ℕ) (k v : EmitNode) (ps : EmitPairs)
    → EntryIs text d c k v (is_simple_key k) → PairsAre text d c ps → (i e j : ℕ) (after : List ℕ)
    → Rest text i (pairs_line c k v ps ++ after) → column text i ≡ c → Ahead text (suc c) e j after
    → is_at text c j ≡ false → is_item text c j ≡ false → PairsFound text d c i j (emit_pair k v ps)
pairs_stand text d c k v ps one more i e j after r col a un no_dash =
    let own = pair_text c k v (is_simple_key k) in
    let rest = pairs_text Fresh c ps ++ after in
    let r1 : Rest text i (own ++ rest) = rest_is (append_assoc own (pairs_text Fresh c ps) after) r in
    let m = i + length own in
    let r2 : Rest text m rest = rest_skip own r1 in
    let line : Line text m = line_behind own rest i r1 (pair_feed c k v (is_simple_key k) (node_feed v) false) in
    let x = more m e j after r2 line a un no_dash in
    let y = one.found i m x.k rest r1 col x.ahead x.no_dash in
    record {
      pairs = pair y.key y.value x.found.pairs;
      entries =
          an_entry {m = y.key} {n = y.value} {ps = x.found.pairs} (at_column (line_begins ps after one) r c col)
          y.entry x.found.entries;
      same = renders_append (emit_node_events k) (emit_node_events v ++ emit_pairs_events ps) (node_events y.key)
          (node_events y.value ++ pairs_events x.found.pairs) y.same_key
          (renders_append (emit_node_events v) (emit_pairs_events ps) (node_events y.value) (pairs_events x.found.pairs)
          y.same_value x.found.same);
    }
