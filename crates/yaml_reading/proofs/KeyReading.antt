-- A key that stands is read, and what is read as one stands.
use Rattle.yaml_reading.specs.Readers.{alone, opens}
use Rattle.yaml_reading.proofs.Begins.{no_leaf_mark}
use Rattle.std.proofs.lemmas.Bool.{and_from, and_parts, eqb-true, false_from_ne_true}
use Rattle.yaml_reading.proofs.BlockApart.{key_colon}
use Rattle.yaml_grammar.specs.Blocks.{names_key}
use Rattle.yaml_grammar.specs.Bytes.{at}
use Rattle.std.proofs.Common.{◌==◌, ◌≡◌, ℕ, ◌≤◌, ◌&&◌, ◌||◌, not, Bool, true, false, List, [], Option}
use Rattle.std.proofs.Common.{Some, None, refl, sym, ap, ◌∙◌, subst}
use Rattle.std.specs.Prelude.{is_some, nat_lt}
use Rattle.yaml_grammar.specs.Blocks.{Key, collection_key, ends_key, leaf_key}
use Rattle.yaml_grammar.specs.Bytes.{is_mark, is_over}
use Rattle.yaml_grammar.specs.Gaps.{breaks, next}
use Rattle.yaml_grammar.specs.Leaves.{Leaf, leaf_at, leaf_node}
use Rattle.yaml_grammar.specs.Names.{Names, names_at}
use Rattle.yaml_grammar.specs.Nodes.{Marked, Node}
use Rattle.yaml_grammar.specs.Plain.{as_key}
use Rattle.yaml_reading.specs.BlockReader.{begins_entry, colon_step, key_step, with_colon}
use Rattle.yaml_reading.specs.BracketReader.{brackets_at}
use Rattle.yaml_reading.specs.Readers.{Read, and_node, with_leaf, with_node}
use Rattle.yaml_reading.proofs.BlockApart.{Content, content_no_dash, key_apart, leaf_no_open, own_names, dash_stays}
use Rattle.yaml_reading.proofs.BlockSteps.{begins_is, key_behind_is, key_is, key_within}
use Rattle.yaml_reading.proofs.BracketComplete.{bracket_opens, brackets_of}
use Rattle.yaml_reading.proofs.BracketSound.{brackets_sound, leaf_read}
use Rattle.yaml_reading.proofs.Options.{no_some, pair_is, then_some}

module _ (text : List ℕ) where
  pub leaf_is : (es : List Marked) (i : ℕ) (names : Names) (leaf : Option (Leaf × ℕ)) (x : Leaf) (e : ℕ) (n : Node)
      → leaf ≡ Some (x, e) → leaf_node text i names x e ≡ Some n
      → with_leaf text es i names leaf ≡ Some (and_node es n, e)
  leaf_is es i names leaf x e n h is = ap (with_leaf text es i names) h ∙ ap (with_node es e) is

  -- a leaf begins with no `:`
  pub leaf_no_colon : (i p : ℕ) (r : Leaf × ℕ) → leaf_at text as_key (next text p) ≡ Some r
      → (nat_lt i p && ends_key text i p) ≡ false
  leaf_no_colon i p r leaf =
      false_from_ne_true (nat_lt i p && ends_key text i p)
      (λ both. no_some r
      (sym (no_leaf_mark text as_key (next text p) 58 refl (key_colon text i p (and_parts (nat_lt i p) _ both).1))
      ∙ leaf))

  dash_opens : (q : ℕ) → is_mark text 58 q ≡ true → opens (at text q) ≡ false
  dash_opens q m = ap opens (eqb-true (at text q) 58 (and_parts (at text q == 58) _ m).0)

  -- a key that stands is read within so many nestings and more
  pub key_of : {d i k : ℕ} {n : Node} → Key text d i k n → (m : ℕ) → d ≤ m → (es : List Marked)
      → key_within text m es i ≡ Some (and_node es n, k)
  key_of (leaf_key {i = i} {p = p} {e = e} {names = names} {x = x} {n = n} h line leaf is ends) m le es =
      key_is text (brackets_at text m) es i (Some (names, p)) h
      ∙ key_behind_is text (brackets_at text m) es i names p false false false line
      (leaf_no_open text as_key (next text p) (x, e) leaf)
      (leaf_no_colon i p (x, e) leaf)
      ∙ ap (with_colon text i) (leaf_is es i names (leaf_at text as_key (next text p)) x e n leaf is)
      ∙ ap (colon_step text (and_node es n) e) ends
  key_of (collection_key {i = i} {p = p} {e = e} {names = names} {n = n} h line b ends) m le es =
      key_is text (brackets_at text m) es i (Some (names, p)) h
      ∙ key_behind_is text (brackets_at text m) es i names p false true _ line (bracket_opens text b) refl
      ∙ ap (with_colon text i) (brackets_of text b m le es)
      ∙ ap (colon_step text (and_node es n) e) ends
  key_of (names_key {i = i} {p = p} {names = names} h some line ends) m le es =
      key_is text (brackets_at text m) es i (Some (names, p)) h
      ∙ key_behind_is text (brackets_at text m) es i names p false false true line
      (dash_opens (next text p) (key_colon text i p ends)) (and_from (nat_lt i p) (ends_key text i p) some ends)

  pub record IsKey (d i k : ℕ) (es es' : List Marked) : Type 0 where
    pub n : Node
    pub stands : Key text d i k n
    pub said : es' ≡ and_node es n

  -- the `:` of what was read
  record IsColon (i : ℕ) (r : Read) (es' : List Marked) (k : ℕ) : Type 0 where
    e : ℕ
    read : r ≡ Some (es', e)
    ends : ends_key text i e ≡ true
    place : next text e ≡ k

  colon_by : (i : ℕ) (es : List Marked) (e : ℕ) (es' : List Marked) (k : ℕ) (x : Bool) → ends_key text i e ≡ x
      → colon_step text es e x ≡ Some (es', k) → IsColon i (Some (es, e)) es' k
  colon_by i es e es' k true c h =
      let q = pair_is es es' (next text e) k h in
      record { e = e; read = ap (λ l. Some (l, e)) q.0; ends = c; place = q.1 }
  colon_by i es e es' k false c h = absurd (no_some (es', k) h)

  colon_read : (i : ℕ) (r : Read) (es' : List Marked) (k : ℕ) → with_colon text i r ≡ Some (es', k) → IsColon i r es' k
  colon_read i None es' k h = absurd (no_some (es', k) h)
  colon_read i (Some (es, e)) es' k h = colon_by i es e es' k (ends_key text i e) refl h

  key_by : (d : ℕ) (es : List Marked) (i : ℕ) (names : Names) (p : ℕ) (es' : List Marked) (k : ℕ) (x y z : Bool)
      → names_at text false i ≡ Some (names, p) → breaks text p ≡ x → (nat_lt i p && ends_key text i p) ≡ z
      → key_step text (brackets_at text d) es i names p x y z ≡ Some (es', k) → IsKey d i k es es'
  key_by d es i names p es' k true y z h line ends r = absurd (no_some (es', k) r)
  key_by d es i names p es' k false true z h line ends r =
      let c = colon_read i (brackets_at text d names i es (next text p)) es' k r in
      let b = brackets_sound text d names i es (next text p) es' c.e c.read in
      record {
        n = b.n;
        stands = subst (λ k. Key text d i k b.n) c.place (collection_key h line b.stands c.ends);
        said = b.said;
      }
  key_by d es i names p es' k false false true h line ends r =
      let both = and_parts (nat_lt i p) (ends_key text i p) ends in
      let n = alone text i p names in
      let q = pair_is (and_node es n) es' (next text p) k r in
      record {
        n = n;
        stands = subst (λ k. Key text d i k n) q.1 (names_key h both.0 line both.1);
        said = sym q.0;
      }
  key_by d es i names p es' k false false false h line ends r =
      let leaf = leaf_at text as_key (next text p) in
      let c = colon_read i (with_leaf text es i names leaf) es' k r in
      let l = leaf_read text es i names leaf es' c.e c.read in
      record {
        n = l.n;
        stands = subst (λ k. Key text d i k l.n) c.place (leaf_key h line l.found l.is c.ends);
        said = l.said;
      }

  pub key_sound : (d : ℕ) (es : List Marked) (i : ℕ) (es' : List Marked) (k : ℕ)
      → key_within text d es i ≡ Some (es', k) → IsKey d i k es es'
  key_sound d es i es' k h =
      let t = then_some (names_at text false i) _ (es', k) (sym (key_is text (brackets_at text d) es i _ refl) ∙ h) in
      key_by d es i t.0.0 t.0.1 es' k _ _ _ t.1 refl refl
      (sym (key_behind_is text (brackets_at text d) es i t.0.0 t.0.1 _ _ _ refl refl refl) ∙ t.2)

  -- an entry begins with a key, or with `?`
  pub begins_key : {d i k : ℕ} {n : Node} → is_over text i ≡ false → Key text d i k n → (m : ℕ) → d ≤ m
      → begins_entry text (brackets_at text m) i ≡ true
  begins_key {d} {i} {k} {n} inside key m le =
      begins_is text (brackets_at text m) i false _ (Some (and_node [] n, k)) inside refl (key_of key m le [])
      ∙ either_true (is_mark text 63 i)
    where
      either_true : (b : Bool) → (true && (b || true)) ≡ true
      either_true true = refl
      either_true false = refl

  pub begins_marked : (i m : ℕ) → is_over text i ≡ false → is_mark text 63 i ≡ true
      → begins_entry text (brackets_at text m) i ≡ true
  begins_marked i m inside mark = begins_is text (brackets_at text m) i false true _ inside mark refl

  -- what else stands there begins no entry
  pub no_entry_by : {d least i q j : ℕ} {names own : Names} {n : Node} (s p m : ℕ)
      → names_at text false s ≡ Some (own, p)
      → next text p ≡ q → Content text d least i names q j n → begins_entry text (brackets_at text m) s ≡ false
  no_entry_by {d} {least} {i} {q} {j} {names} {own} {n} s p m h there content =
      begins_is text (brackets_at text m) s (is_over text s) (is_mark text 63 s) (key_within text m [] s) refl refl refl
      ∙ no_way (is_over text s) (is_mark text 63 s) (key_within text m [] s)
      (λ mark. let own = own_names text false (dash_stays text 63 s refl mark) h in
      content_no_dash text 63 refl content (subst (λ q. is_mark text 63 q ≡ true) (sym own.next_place ∙ there) mark))
      (λ r e. key_apart text h there (key_sound m [] s r.0 r.1 e).stands content)
    where
      no_way : (x y : Bool) (r : Read) → (y ≡ true → ⊥) → ((v : List Marked × ℕ) → r ≡ Some v → ⊥)
          → (not x && (y || is_some r)) ≡ false
      no_way true y r f g = refl
      no_way false true r f g = absurd (f refl)
      no_way false false None f g = refl
      no_way false false (Some v) f g = absurd (g v refl)
