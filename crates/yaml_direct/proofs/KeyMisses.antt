-- Where no key stands.
use Rattle.std.proofs.Common.{ℕ, ◌+◌, ◌<◌, ◌≤◌, ◌≡◌, ◌==◌, ◌&&◌, not, true, false, List}
use Rattle.std.proofs.Common.{Some, None, refl, sym, subst, ap, ◌∙◌}
use Rattle.std.proofs.lemmas.Bool.{and_from, and_left, and_parts, eqb-true, false≢true, false_from_ne_true}
use Rattle.std.proofs.lemmas.Bool.{ltb-true}
use Rattle.yaml_direct.specs.Added.{HasNoLeaf}
use Rattle.yaml_direct.specs.InBrackets.{opens}
use Rattle.yaml_direct.specs.LeftByColumns.{LeavesKey}
use Rattle.yaml_direct.proofs.BracketFails.{no_key_far, no_key_lines}
use Rattle.yaml_grammar.specs.Blocks.{Key, collection_key, ends_key, leaf_key, names_key}
use Rattle.yaml_grammar.specs.Brackets.{Brackets, has_colon}
use Rattle.yaml_grammar.specs.Bytes.{at, is_mark, is_one_line}
use Rattle.yaml_grammar.specs.Gaps.{breaks, next}
use Rattle.yaml_grammar.specs.Leaves.{Leaf, leaf_at, leaf_node}
use Rattle.yaml_grammar.specs.Names.{Names, names_at}
use Rattle.yaml_grammar.specs.Nodes.{Node}
use Rattle.yaml_grammar.specs.Plain.{as_key}
use Rattle.yaml_reading.specs.Readers.{Read}
use Rattle.yaml_reading.proofs.Begins.{no_leaf_mark}
use Rattle.yaml_reading.proofs.BlockApart.{key_colon, leaf_no_open}
use Rattle.yaml_reading.proofs.BlockSteps.{key_within}
use Rattle.yaml_reading.proofs.BracketComplete.{bracket_opens}
use Rattle.yaml_reading.proofs.KeyLines.{key_goes_on}
use Rattle.yaml_reading.proofs.KeyReading.{key_sound}
use Rattle.yaml_reading.proofs.Options.{no_some, pair_is}

-- no key stands here
abbrev pub NoKey : List ℕ → (d i : ℕ) → Type 0
NoKey text d i = (k : ℕ) (n : Node) → Key text d i k n → ⊥

-- what does not stand is not read
pub key_none : (text : List ℕ) (d i : ℕ) → NoKey text d i → LeavesKey text d i
key_none text d i none es = by_answer (key_within text d es i) refl
  where
    by_answer : (r : Read) → key_within text d es i ≡ r → ◌≡◌ {A = Read} (key_within text d es i) None
    by_answer None h = h
    by_answer (Some x) h = let s = key_sound text d es i x.0 x.1 h in absurd (none x.1 s.n s.stands)

-- a key behind names that are known
pub data KeyIs (text : List ℕ) (d i : ℕ) (names : Names) (p : ℕ) : Type 0 where
  is_leaf : (e : ℕ) (x : Leaf) (n : Node) → leaf_at text as_key (next text p) ≡ Some (x, e)
      → leaf_node text i names x e ≡ Some n → ends_key text i e ≡ true → KeyIs text d i names p
  is_collection : (e : ℕ) (n : Node) → Brackets text d i names (next text p) e n → ends_key text i e ≡ true
      → KeyIs text d i names p
  is_names : i < p → ends_key text i p ≡ true → KeyIs text d i names p

pub key_is : (text : List ℕ) (d i p k : ℕ) (names : Names) (n : Node) → names_at text false i ≡ Some (names, p)
    → Key text d i k n → (breaks text p ≡ false) × KeyIs text d i names p
key_is text d i p k names n h (leaf_key {p = q} {e = e} {names = ms} {x = x} g line leaf is ends) =
    let same = pair_is ms names q p (sym g ∙ h) in (
      subst (λ k. breaks text k ≡ false) same.1 line,
      is_leaf e x n (ap (λ k. leaf_at text as_key (next text k)) (sym same.1) ∙ leaf)
          (ap (λ m. leaf_node text i m x e) (sym same.0) ∙ is) ends,
    )
key_is text d i p k names n h (collection_key {p = q} {e = e} {names = ms} g line b ends) =
    let same = pair_is ms names q p (sym g ∙ h) in (
      subst (λ k. breaks text k ≡ false) same.1 line,
      is_collection e n (subst (λ k. Brackets text d i names (next text k) e n) same.1
          (subst (λ m. Brackets text d i m (next text q) e n) same.0 b)) ends,
    )
key_is text d i p k names n h (names_key {p = q} {names = ms} g some line ends) =
    let same = pair_is ms names q p (sym g ∙ h) in (
      subst (λ k. breaks text k ≡ false) same.1 line,
      is_names (subst (λ k. i < k) same.1 (ltb-true i q some)) (subst (λ k. ends_key text i k ≡ true) same.1 ends),
    )

pub nameless_key : (text : List ℕ) (d i : ℕ) → names_at text false i ≡ None → NoKey text d i
nameless_key text d i h k n (leaf_key g line leaf is ends) = no_some _ (sym h ∙ g)
nameless_key text d i h k n (collection_key g line b ends) = no_some _ (sym h ∙ g)
nameless_key text d i h k n (names_key g some line ends) = no_some _ (sym h ∙ g)

pub broken_key : (text : List ℕ) (d i p : ℕ) (names : Names) → names_at text false i ≡ Some (names, p)
    → breaks text p ≡ true → NoKey text d i
broken_key text d i p names h broken k n x = false≢true (sym (key_is text d i p k names n h x).0 ∙ broken)

-- where no leaf stands behind the names, and they are none alone
pub no_leaf_key : (text : List ℕ) (d i p : ℕ) (names : Names) → names_at text false i ≡ Some (names, p)
    → HasNoLeaf text as_key names (next text p) → opens (at text (next text p)) ≡ false
    → (i < p → ends_key text i p ≡ false) → NoKey text d i
no_leaf_key text d i p names h none shut alone k n x = by_kind (key_is text d i p k names n h x).1
  where
    by_kind : KeyIs text d i names p → ⊥
    by_kind (is_leaf e y m leaf is ends) = no_some m (sym (none y e leaf i) ∙ is)
    by_kind (is_collection e m b ends) = false≢true (sym shut ∙ bracket_opens text b)
    by_kind (is_names some ends) = false≢true (sym (alone some) ∙ ends)

-- where a leaf stands behind which no `:` does
pub leaf_no_key : (text : List ℕ) (d i p e : ℕ) (names : Names) (x : Leaf) → names_at text false i ≡ Some (names, p)
    → leaf_at text as_key (next text p) ≡ Some (x, e) → ends_key text i e ≡ false → NoKey text d i
leaf_no_key text d i p e names x h leaf other k n y = by_kind (key_is text d i p k names n h y).1
  where
    by_kind : KeyIs text d i names p → ⊥
    by_kind (is_leaf f z m read is ends) =
        false≢true (sym other ∙ subst (λ q. ends_key text i q ≡ true) (pair_is z x f e (sym read ∙ leaf)).1 ends)
    by_kind (is_collection f m b ends) =
        false≢true (sym (leaf_no_open text as_key (next text p) (x, e) leaf) ∙ bracket_opens text b)
    by_kind (is_names some ends) =
        no_some (x, e) (sym (no_leaf_mark text as_key (next text p) 58 refl (key_colon text i p ends)) ∙ leaf)

-- where a collection would stand
open_no_mark : (text : List ℕ) (q : ℕ) → opens (at text q) ≡ true → is_mark text 58 q ≡ true → ⊥
open_no_mark text q opened m =
    false≢true (sym (ap opens (eqb-true (at text q) 58 (and_parts (at text q == 58) _ m).0)) ∙ opened)

pub brackets_no_key : (text : List ℕ) (d i p : ℕ) (names : Names) → names_at text false i ≡ Some (names, p)
    → opens (at text (next text p)) ≡ true
    → ((e : ℕ) (n : Node) → Brackets text d i names (next text p) e n → ends_key text i e ≡ false) → NoKey text d i
brackets_no_key text d i p names h opened other k n y = by_kind (key_is text d i p k names n h y).1
  where
    by_kind : KeyIs text d i names p → ⊥
    by_kind (is_leaf f z m read is ends) =
        false≢true (sym (leaf_no_open text as_key (next text p) (z, f) read) ∙ opened)
    by_kind (is_collection f m b ends) = false≢true (sym (other f m b) ∙ ends)
    by_kind (is_names some ends) = open_no_mark text (next text p) opened (key_colon text i p ends)

-- where `:` stands behind the names
pub names_no_key : (text : List ℕ) (d i p : ℕ) (names : Names) → names_at text false i ≡ Some (names, p)
    → is_mark text 58 (next text p) ≡ true → ends_key text i p ≡ false → NoKey text d i
names_no_key text d i p names h colon other k n y = by_kind (key_is text d i p k names n h y).1
  where
    by_kind : KeyIs text d i names p → ⊥
    by_kind (is_leaf f z m read is ends) =
        no_some (z, f) (sym (no_leaf_mark text as_key (next text p) 58 refl colon) ∙ read)
    by_kind (is_collection f m b ends) = open_no_mark text (next text p) (bracket_opens text b) colon
    by_kind (is_names some ends) = false≢true (sym other ∙ ends)

-- where no key ends
pub ends_no_colon : (text : List ℕ) (i e : ℕ) → i ≤ e → (not (breaks text e) && is_mark text 58 (next text e)) ≡ false
    → ends_key text i e ≡ false
ends_no_colon text i e low h = false_from_ne_true (ends_key text i e) (λ ends.
    false≢true (sym h ∙ and_from (not (breaks text e)) (is_mark text 58 (next text e))
    (ap not (key_goes_on text i e low (and_parts (has_colon text i e) _ ends).0)) (key_colon text i e ends)))

pub ends_far : (text : List ℕ) (i e k : ℕ) → k ≡ next text e → i + 1024 < k → ends_key text i e ≡ false
ends_far text i e k there far = and_left (has_colon text i e) _ (no_key_far text i e k there far)

pub ends_lines : (text : List ℕ) (i e : ℕ) → is_one_line text i (next text e) ≡ false → ends_key text i e ≡ false
ends_lines text i e lines = and_left (has_colon text i e) _ (no_key_lines text i e lines)
