-- What stands by columns in one place is one of its kinds alone.
use Rattle.std.proofs.lemmas.Bool.{ltb-true}
use Rattle.yaml_grammar.specs.Blocks.{names_key}
use Rattle.std.proofs.Common.{◌≡◌, ◌≢◌, ℕ, suc, ◌+◌, ◌-◌, ◌≤◌, ◌==◌, ◌||◌, not, Bool, true, false, List}
use Rattle.std.proofs.Common.{length, Some, None, refl, sym, ap, ◌∙◌, arith, subst, drop, inl, inr, ne_eqb}
use Rattle.std.specs.Prelude.{if◌then◌else◌, nat_le, nat_lt}
use Rattle.std.proofs.lemmas.Bool.{false≢true, and_parts, and_right, eq-eqb, eqb-true, false_from_ne_true}
use Rattle.std.proofs.lemmas.Bool.{leb-true, or_cases, or_from}
use Rattle.yaml_grammar.specs.BlockTexts.{block_at, block_lines, header_of, lines_of}
use Rattle.yaml_grammar.specs.Blocks.{Key, Room, block_style, collection_key, ends_key}
use Rattle.yaml_grammar.specs.Blocks.{is_of_mapping, is_own}
use Rattle.yaml_grammar.specs.Blocks.{leaf_key}
use Rattle.yaml_grammar.specs.Brackets.{Brackets, curly, has_colon, square}
use Rattle.yaml_grammar.specs.Bytes.{at, column, is_mark, is_over}
use Rattle.yaml_grammar.specs.Gaps.{breaks, ends_its_line, is_within, next}
use Rattle.yaml_grammar.specs.Leaves.{Leaf, leaf_at, leaf_node}
use Rattle.yaml_grammar.specs.Names.{Names, names_at, unnamed}
use Rattle.yaml_grammar.specs.Nodes.{Node, scalar_at}
use Rattle.yaml_grammar.specs.Plain.{Context, as_key, by_columns}
use Rattle.yaml_reading.specs.Readers.{opens}
use Rattle.yaml_reading.proofs.Begins.{Stays, byte_behind, is_dash, leaf_no, leaf_stays, no_leaf_mark}
use Rattle.yaml_reading.proofs.Begins.{stays_at, wanders}
use Rattle.yaml_reading.proofs.BracketComplete.{bracket_opens}
use Rattle.yaml_reading.proofs.BracketForward.{brackets_forward, names_forward, next_ahead}
use Rattle.yaml_reading.proofs.BracketReading.{one_collection}
use Rattle.yaml_reading.proofs.Forward.{leaf_ahead}
use Rattle.yaml_reading.proofs.KeyLines.{key_as_leaf, key_ends_no_line, key_goes_on}
use Rattle.yaml_reading.proofs.Options.{no_some, pair_is}

-- a block of lines begins with this byte
abbrev pub lines_byte : ℕ → Bool
lines_byte c = c == 124 || c == 62

both : {b : Bool} → b ≡ true → b ≡ false → ⊥
both t f = false≢true (sym f ∙ t)

module _ (text : List ℕ) where
  -- the names where none begin
  pub record Unnamed (i p : ℕ) (names : Names) : Type 0 where
    pub place : p ≡ i
    pub next_place : next text p ≡ i
    pub none : names ≡ unnamed

  pub own_names : {i p : ℕ} {names : Names} (flow : Bool) → Stays text i → names_at text flow i ≡ Some (names, p)
      → Unnamed i p names
  own_names {i} {p} {names} flow s h =
      let q = pair_is unnamed names i p (sym (s.names flow) ∙ h) in
      record { place = sym q.1; next_place = ap (next text) (sym q.1) ∙ s.here; none = sym q.0 }

  mark_byte : (c i : ℕ) → is_mark text c i ≡ true → at text i ≡ c
  mark_byte c i m = eqb-true (at text i) c (and_parts (at text i == c) _ m).0

  dash_by : (P : ℕ → Type 0) → P 45 → P 63 → P 58 → (c : ℕ) → is_dash c ≡ true → P c
  dash_by P a b x c d = elim (or_cases (c == 45) _ d) [
    | inl e ↦ subst P (sym (eqb-true c 45 e)) a
    | inr h ↦ elim (or_cases (c == 63) (c == 58) h) [
      | inl e ↦ subst P (sym (eqb-true c 63 e)) b
      | inr e ↦ subst P (sym (eqb-true c 58 e)) x
    ]
  ]

  pub dash_stays : (c i : ℕ) → is_dash c ≡ true → is_mark text c i ≡ true → Stays text i
  dash_stays c i d m = stays_at text i c (mark_byte c i m) (dash_by (λ c. wanders c ≡ false) refl refl refl c d)

  pub dash_inside : (c i : ℕ) → is_dash c ≡ true → is_mark text c i ≡ true → at text i ≢ 0
  dash_inside c i d m e =
      both (eq-eqb 0 0 refl)
      (ap (λ b. b == 0) (sym e ∙ mark_byte c i m) ∙ dash_by (λ c. (c == 0) ≡ false) refl refl refl c d)

  dash_no_open : (c i : ℕ) → is_dash c ≡ true → is_mark text c i ≡ true → opens (at text i) ≡ true → ⊥
  dash_no_open c i d m o =
      both o (ap opens (mark_byte c i m) ∙ dash_by (λ c. opens c ≡ false) refl refl refl c d)

  dash_no_lines : (c i : ℕ) → is_dash c ≡ true → is_mark text c i ≡ true → lines_byte (at text i) ≡ true → ⊥
  dash_no_lines c i d m o =
      both o (ap lines_byte (mark_byte c i m) ∙ dash_by (λ c. lines_byte c ≡ false) refl refl refl c d)

  -- a block of lines begins with `|` or `>`
  pub block_byte : (least q : ℕ) (r : ℕ × List ℕ) → block_at text least q ≡ Some r → lines_byte (at text q) ≡ true
  block_byte least q r h = by_byte (lines_byte (at text q)) h
    where
      by_byte : (b : Bool)
          → (if b then block_lines (at text q == 62) (header_of (drop (suc q) text)) least
          (suc q + (header_of (drop (suc q) text)).size)
          (lines_of (drop (suc q + (header_of (drop (suc q) text)).size) text)) else None) ≡ Some r → b ≡ true
      by_byte true h = refl
      by_byte false h = absurd (no_some r h)

  pub leaf_no_open : (context : Context) (q : ℕ) (r : Leaf × ℕ) → leaf_at text context q ≡ Some r
      → opens (at text q) ≡ false
  leaf_no_open context q r h =
      or_from (at text q == 91) (at text q == 123) (ne_eqb (at text q) 91 (leaf_no text context q 91 r h refl))
      (ne_eqb (at text q) 123 (leaf_no text context q 123 r h refl))

  pub leaf_no_lines : (context : Context) (q : ℕ) (r : Leaf × ℕ) → leaf_at text context q ≡ Some r
      → lines_byte (at text q) ≡ false
  leaf_no_lines context q r h =
      or_from (at text q == 124) (at text q == 62) (ne_eqb (at text q) 124 (leaf_no text context q 124 r h refl))
      (ne_eqb (at text q) 62 (leaf_no text context q 62 r h refl))

  open_no_lines : (c : ℕ) → opens c ≡ true → lines_byte c ≡ false
  open_no_lines c o = elim (or_cases (c == 91) (c == 123) o) [
    | inl e ↦ ap lines_byte (eqb-true c 91 e)
    | inr e ↦ ap lines_byte (eqb-true c 123 e)
  ]

  pub lines_no_open : (c : ℕ) → lines_byte c ≡ true → opens c ≡ false
  lines_no_open c o = elim (or_cases (c == 124) (c == 62) o) [
    | inl e ↦ ap opens (eqb-true c 124 e)
    | inr e ↦ ap opens (eqb-true c 62 e)
  ]

  -- what is no collection by columns
  pub data Content (d least i : ℕ) (names : Names) (q : ℕ) : (j : ℕ) → Node → Type 0 where
    of_leaf : {e : ℕ} {x : Leaf} {n : Node} → leaf_at text (by_columns least) q ≡ Some (x, e)
        → leaf_node text i names x e ≡ Some n → ends_its_line text e ≡ true → Content d least i names q (next text e) n
    of_lines : {e : ℕ} {said : List ℕ} → block_at text least q ≡ Some (e, said)
        → Content d least i names q (next text e) (scalar_at text i names (block_style (at text q)) said e)
    of_collection : {e : ℕ} {n : Node} → Brackets text d i names q e n → ends_its_line text e ≡ true
        → Content d least i names q (next text e) n

  open_stays : (q : ℕ) → opens (at text q) ≡ true → Stays text q
  open_stays q o = elim (or_cases (at text q == 91) (at text q == 123) o) [
    | inl e ↦ stays_at text q 91 (eqb-true (at text q) 91 e) refl
    | inr e ↦ stays_at text q 123 (eqb-true (at text q) 123 e) refl
  ]

  lines_stays : (q : ℕ) → lines_byte (at text q) ≡ true → Stays text q
  lines_stays q o = elim (or_cases (at text q == 124) (at text q == 62) o) [
    | inl e ↦ stays_at text q 124 (eqb-true (at text q) 124 e) refl
    | inr e ↦ stays_at text q 62 (eqb-true (at text q) 62 e) refl
  ]

  pub content_stays : {d least i q j : ℕ} {names : Names} {n : Node} → Content d least i names q j n → Stays text q
  content_stays {d} {least} {i} {q} (of_leaf {e = e} {x = x} h is ends) = leaf_stays text (by_columns least) q (x, e) h
  content_stays {d} {least} {i} {q} (of_lines {e = e} {said = said} h) =
      lines_stays q (block_byte least q (e, said) h)
  content_stays {d} {least} {i} {q} (of_collection b ends) = open_stays q (bracket_opens text b)

  -- it begins with no dash
  pub content_no_dash : {d least i q j : ℕ} {names : Names} {n : Node} (c : ℕ) → is_dash c ≡ true
      → Content d least i names q j n → is_mark text c q ≡ true → ⊥
  content_no_dash {d} {least} {i} {q} c dash (of_leaf {e = e} {x = x} h is ends) m =
      no_some (x, e) (sym (no_leaf_mark text (by_columns least) q c dash m) ∙ h)
  content_no_dash {d} {least} {i} {q} c dash (of_lines {e = e} {said = said} h) m =
      dash_no_lines c q dash m (block_byte least q (e, said) h)
  content_no_dash {d} {least} {i} {q} c dash (of_collection b ends) m = dash_no_open c q dash m (bracket_opens text b)

  -- a collection in brackets behind other names
  renamed : {d i i' k j : ℕ} {names names' : Names} {n : Node} → Brackets text d i names k j n
      → (m : Node) × Brackets text d i' names' k j m
  renamed (square o items) = (_, square o items)
  renamed (curly o entries) = (_, curly o entries)

  one_end : {d d' i i' k j j' : ℕ} {names names' : Names} {n n' : Node} → Brackets text d i names k j n
      → Brackets text d' i' names' k j' n' → j ≡ j'
  one_end x y = (one_collection text x (renamed y).1).0

  moved : {d i k k' j : ℕ} {names : Names} {n : Node} → k ≡ k' → Brackets text d i names k j n
      → Brackets text d i names k' j n
  moved {d} {i} {k} {k'} {j} {names} {n} e b = subst (λ k. Brackets text d i names k j n) e b

  -- a key's `:` is an indicator
  pub key_colon : (i e : ℕ) → ends_key text i e ≡ true → is_mark text 58 (next text e) ≡ true
  key_colon i e h = (and_parts (has_colon text i e) _ h).1

  -- a key is none of it
  leaf_key_apart : {d least i q j : ℕ} {names : Names} {n : Node} (s e : ℕ) (x : Leaf) → s ≤ q
      → leaf_at text as_key q ≡ Some (x, e) → ends_key text s e ≡ true → Content d least i names q j n → ⊥
  leaf_key_apart {d} {least} {i} {q} s e x on key ends (of_leaf {e = f} {x = y} h is line) =
      let far : s ≤ e = omega (arith, on, leaf_ahead text as_key q (x, e) key) in
      let in_line = key_goes_on text s e far (and_parts (has_colon text s e) _ ends).0 in
      let same = (pair_is x y e f (sym (key_as_leaf text least q e x in_line key) ∙ h)).1 in
      both line (ap (ends_its_line text) (sym same) ∙ key_ends_no_line text s e far ends)
  leaf_key_apart {d} {least} {i} {q} s e x on key ends (of_lines {e = f} {said = said} h) =
      both (block_byte least q (f, said) h) (leaf_no_lines as_key q (x, e) key)
  leaf_key_apart {d} {least} {i} {q} s e x on key ends (of_collection b line) =
      both (bracket_opens text b) (leaf_no_open as_key q (x, e) key)

  collection_key_apart : {d d' least i i' q e j : ℕ} {names names' : Names} {m n : Node} (s : ℕ) → s ≤ q
      → Brackets text d' i' names' q e m → ends_key text s e ≡ true → Content d least i names q j n → ⊥
  collection_key_apart {d} {d'} {least} {i} {i'} {q} {e} s on b ends (of_leaf {e = f} {x = y} h is line) =
      both (bracket_opens text b) (leaf_no_open (by_columns least) q (y, f) h)
  collection_key_apart {d} {d'} {least} {i} {i'} {q} {e} s on b ends (of_lines {e = f} {said = said} h) =
      both (block_byte least q (f, said) h) (open_no_lines (at text q) (bracket_opens text b))
  collection_key_apart {d} {d'} {least} {i} {i'} {q} {e} s on b ends (of_collection a line) =
      let same = one_end a b in
      both (ap (ends_its_line text) (sym same) ∙ line)
      (key_ends_no_line text s e (omega (arith, on, brackets_forward text b)) ends)

  pub key_apart : {d d' least i s p q k j : ℕ} {names own : Names} {m n : Node}
      → names_at text false s ≡ Some (own, p) → next text p ≡ q → Key text d' s k m → Content d least i names q j n → ⊥
  key_apart {d} {d'} {least} {i} {s} {p} {q} {own = own} h there
      (leaf_key {p = p'} {e = e} {names = names'} {x = x} h' line leaf is ends) content =
      let same = (pair_is own names' p p' (sym h ∙ h')).1 in
      let there' : next text p' ≡ q = ap (next text) (sym same) ∙ there in
      leaf_key_apart s e x (omega (arith, names_forward text false h, next_ahead text p, there))
      (ap (leaf_at text as_key) (sym there') ∙ leaf) ends content
  key_apart {d} {d'} {least} {i} {s} {p} {q} {own = own} h there
      (collection_key {p = p'} {e = e} {names = names'} h' line b ends) content =
      let same = (pair_is own names' p p' (sym h ∙ h')).1 in
      let there' : next text p' ≡ q = ap (next text) (sym same) ∙ there in
      collection_key_apart s (omega (arith, names_forward text false h, next_ahead text p, there)) (moved there' b) ends
      content
  key_apart {d} {d'} {least} {i} {s} {p} {q} {own = own} h there (names_key {p = p'} {names = names'} h' some line ends)
      content =
      let same = (pair_is own names' p p' (sym h ∙ h')).1 in
      let there' : next text p' ≡ q = ap (next text) (sym same) ∙ there in
      content_no_dash 58 refl content (subst (λ q. is_mark text 58 q ≡ true) there' (key_colon s p' ends))

  -- nor does it begin with a dash
  pub key_no_dash : {d i k : ℕ} {m : Node} (c : ℕ) → is_dash c ≡ true → Key text d i k m → is_mark text c i ≡ true → ⊥
  key_no_dash c dash (leaf_key {i = i} {p = p} {e = e} {x = x} h line leaf is ends) m =
      let own = own_names false (dash_stays c i dash m) h in
      no_some (x, e)
      (sym (no_leaf_mark text as_key i c dash m) ∙ ap (leaf_at text as_key) (sym own.next_place) ∙ leaf)
  key_no_dash c dash (collection_key {i = i} h line b ends) m =
      let own = own_names false (dash_stays c i dash m) h in
      dash_no_open c i dash m (bracket_opens text (moved own.next_place b))
  key_no_dash c dash (names_key {i = i} {p = p} h some line ends) m =
      let own = own_names false (dash_stays c i dash m) h in
      omega (arith, own.place, ltb-true i p some)

  -- the line goes on where a byte stands that may begin a token
  pub goes_on : (p : ℕ) → breaks text p ≡ false → at text (next text p) ≢ 0 → ends_its_line text p ≡ false
  goes_on p line some =
      or_from (breaks text p) (nat_le (length text) (next text p)) line
      (false_from_ne_true (nat_le (length text) (next text p))
      (λ past. some (byte_behind text (next text p) (leb-true (length text) (next text p) past))))

  pub open_some : (c : ℕ) → opens c ≡ true → c ≢ 0
  open_some c o e = both o (ap opens e)

  -- what stands in the mapping's own column stands no further in
  pub own_no_within : (room : Room) (c k : ℕ) → is_own text room (suc c) k ≡ true → is_within text (suc c) k ≡ false
  own_no_within room c k h =
      let own = and_parts (is_of_mapping room) _ h in
      let item = and_parts (nat_lt 0 (suc c)) _ own.1 in
      let place = eqb-true (column text k) (suc c - 1) (and_parts (is_mark text 45 k) _ item.1).1 in
      and_right (not (is_over text k)) (nat_le (suc c) (column text k)) (less (column text k) place)
    where
      less : (n : ℕ) → n ≡ suc c - 1 → nat_le (suc c) n ≡ false
      less n e = grind (arith, e)
