-- Where the root of a document stands, and what documents stand behind it.
use Rattle.std.proofs.Common.{ℕ, ◌+◌, ◌<◌, ◌≤◌, ◌≡◌, ◌==◌, ◌&&◌, ◌||◌, ◌∷◌, Bool, true, false, List, length}
use Rattle.std.proofs.Common.{Option, Some, None, refl, sym, subst, ap, ◌∙◌, arith, drop, inl, inr}
use Rattle.std.specs.Prelude.{if◌then◌else◌, nat_le}
use Rattle.std.proofs.lemmas.Bool.{and_from, and_parts, false≢true, leb-true, lt-leb, or_left}
use Rattle.yaml_direct.specs.Standing.{HasRoot, bare_root, document_at, marked_root}
use Rattle.yaml_grammar.specs.Blocks.{BlockNode, anything, value}
use Rattle.yaml_grammar.specs.Bytes.{column, is_over, is_triple, parts_documents}
use Rattle.yaml_grammar.specs.Documents.{Documents, Earlier, Root, a_document, an_end, bare_document, begins_document}
use Rattle.yaml_grammar.specs.Documents.{behind_directive, directive_end, end_marker, ends_document, has_document}
use Rattle.yaml_grammar.specs.Documents.{marked_document, marker_at, most_nestings, no_document, no_root}
use Rattle.yaml_grammar.specs.Documents.{root_in_a_later_line, root_in_its_line, takes_directive}
use Rattle.yaml_grammar.specs.Gaps.{ends_its_line, next}
use Rattle.yaml_grammar.specs.Nodes.{Document, Node}
use Rattle.yaml_reading.proofs.Begins.{byte_behind}
use Rattle.yaml_reading.proofs.BlockForward.{node_forward}
use Rattle.yaml_reading.proofs.BlockReading.{one_block_node}
use Rattle.yaml_reading.proofs.BracketForward.{next_ahead}
use Rattle.yaml_reading.proofs.DocumentSteps.{begins_byte, ends_byte, marker_is, node_no_percent}
use Rattle.yaml_reading.proofs.Options.{no_some, same_some}

both : {b : Bool} → b ≡ true → b ≡ false → ⊥
both t f = false≢true (sym f ∙ t)

-- before any documents that stand behind it, a document is one more
pub before_more : (text : List ℕ) (earlier : Earlier) (i j : ℕ) (root : Node) → HasRoot text earlier i root j
    → (ds : List Document) → Documents text a_document j ds
    → Documents text earlier i (document_at text i root j ∷ ds)
before_more text earlier i j root (bare_root first inside x over) ds rest =
    subst (λ e. Documents text e i (document_at text i root j ∷ ds)) (sym first) (bare_document inside x over rest)
before_more text earlier i j root (marked_root m marker x over) ds rest = marked_document marker x over rest

-- how `---` begins a document
pub data MarkedBy (text : List ℕ) (earlier : Earlier) (i m : ℕ) : Type 0 where
  by_dashes : begins_document text i ≡ true → m ≡ i → MarkedBy text earlier i m
  by_directive : (e : ℕ) → takes_directive earlier ≡ true → directive_end text i ≡ Some e
      → ends_its_line text e ≡ true → begins_document text m ≡ true → m ≡ next text e → MarkedBy text earlier i m

pub marked_by : (text : List ℕ) (earlier : Earlier) (i m : ℕ) → marker_at text earlier i ≡ Some m
    → MarkedBy text earlier i m
marked_by text earlier i m h = by_test (begins_document text i) (takes_directive earlier) refl refl h
  where
    by_end : takes_directive earlier ≡ true → (e : ℕ) → directive_end text i ≡ Some e → (x : Bool)
        → (ends_its_line text e && begins_document text (next text e)) ≡ x
        → (if x then Some (next text e) else None) ≡ Some m → MarkedBy text earlier i m
    by_end takes e d false both h = absurd (no_some m h)
    by_end takes e d true both h =
        let p = and_parts (ends_its_line text e) (begins_document text (next text e)) both in
        let there = sym (same_some (next text e) m h) in
        by_directive e takes d p.0 (ap (begins_document text) there ∙ p.1) there

    by_directive_end : takes_directive earlier ≡ true → (o : Option ℕ) → directive_end text i ≡ o
        → behind_directive text o ≡ Some m → MarkedBy text earlier i m
    by_directive_end takes None d h = absurd (no_some m h)
    by_directive_end takes (Some e) d h = by_end takes e d _ refl h

    by_test : (x y : Bool) → begins_document text i ≡ x → takes_directive earlier ≡ y
        → (if x then Some i else if y then behind_directive text (directive_end text i) else None) ≡ Some m
        → MarkedBy text earlier i m
    by_test true y b t h = by_dashes b (sym (same_some i m h))
    by_test false true b t h = by_directive_end t (directive_end text i) refl h
    by_test false false b t h = absurd (no_some m h)

-- a root has one end
pub one_root : (text : List ℕ) (i j k : ℕ) (m n : Node) → Root text i j m → Root text i k n → j ≡ k
one_root text i j k m n (root_in_its_line line x) (root_in_its_line line' y) =
    (one_block_node text most_nestings most_nestings 0 value (next text i) j k m n x y).0
one_root text i j k m n (root_in_a_later_line line over x) (root_in_a_later_line line' over' y) =
    (one_block_node text most_nestings most_nestings 0 anything (next text i) j k m n x y).0
one_root text i j k m n (no_root line over) (no_root line' over') = refl
one_root text i j k m n (root_in_its_line line x) (root_in_a_later_line line' over' y) = absurd (both line' line)
one_root text i j k m n (root_in_its_line line x) (no_root line' over') = absurd (both line' line)
one_root text i j k m n (root_in_a_later_line line over x) (root_in_its_line line' y) = absurd (both line line')
one_root text i j k m n (root_in_a_later_line line over x) (no_root line' over') = absurd (both over' over)
one_root text i j k m n (no_root line over) (root_in_its_line line' y) = absurd (both line line')
one_root text i j k m n (no_root line over) (root_in_a_later_line line' over' y) = absurd (both over over')

second : (a b : Bool) → b ≡ true → (a || b) ≡ true
second true b h = refl
second false b h = h

-- `---` or `...` that begins the line ends a document
parts_over : (text : List ℕ) (i : ℕ) (a b : Bool) → parts_documents text i ≡ (column text i == 0 && (a || b))
    → (column text i == 0) ≡ true → (a || b) ≡ true → is_over text i ≡ true
parts_over text i a b same first part =
    second (nat_le (length text) i) (parts_documents text i) (same ∙ and_from (column text i == 0) (a || b) first part)

pub begins_over : (text : List ℕ) (i : ℕ) → begins_document text i ≡ true → is_over text i ≡ true
begins_over text i b =
    let p = and_parts (column text i == 0) (is_triple 45 (drop i text)) b in
    parts_over text i (is_triple 45 (drop i text)) (is_triple 46 (drop i text)) refl p.0
    (or_left (is_triple 45 (drop i text)) (is_triple 46 (drop i text)) p.1)

pub ends_over : (text : List ℕ) (i : ℕ) → ends_document text i ≡ true → is_over text i ≡ true
ends_over text i b =
    let p = and_parts (column text i == 0) (is_triple 46 (drop i text)) b in
    parts_over text i (is_triple 45 (drop i text)) (is_triple 46 (drop i text)) refl p.0
    (second (is_triple 45 (drop i text)) (is_triple 46 (drop i text)) p.1)

-- no node begins where `---` begins a document
node_no_marker : (text : List ℕ) (earlier : Earlier) (i j m : ℕ) (n : Node) → is_over text i ≡ false
    → BlockNode text most_nestings 0 anything i j n → marker_at text earlier i ≡ Some m → ⊥
node_no_marker text earlier i j m n inside x marker = elim (marker_is text earlier i m marker) [
  | inl b ↦ both (begins_over text i b.0) inside
  | inr b ↦ node_no_percent text x b.0
]

-- a document has one end
pub one_end : (text : List ℕ) (earlier : Earlier) (i j k : ℕ) (m n : Node) → HasRoot text earlier i m j
    → HasRoot text earlier i n k → j ≡ k
one_end text earlier i j k m n (bare_root first inside x over) (bare_root first' inside' y over') =
    (one_block_node text most_nestings most_nestings 0 anything i j k m n x y).0
one_end text earlier i j k m n (bare_root first inside x over) (marked_root q marker y over') =
    absurd (node_no_marker text earlier i j q m inside x marker)
one_end text earlier i j k m n (marked_root p marker x over) (bare_root first inside y over') =
    absurd (node_no_marker text earlier i k p n inside y marker)
one_end text earlier i j k m n (marked_root p marker x over) (marked_root q marker' y over') =
    one_root text (p + 3) j k m n x
    (subst (λ t. Root text (t + 3) k n) (sym (same_some p q (sym marker ∙ marker'))) y)

-- a document, and those behind it
pub record Splits (text : List ℕ) (earlier : Earlier) (i : ℕ) : Type 0 where
  pub root : Node
  pub end : ℕ
  pub has : HasRoot text earlier i root end
  pub rest : List Document
  pub stand : Documents text a_document end rest

pub splits : (text : List ℕ) (earlier : Earlier) (i : ℕ) → i < length text → ends_document text i ≡ false
    → (ds : List Document) → Documents text earlier i ds → Splits text earlier i
splits text earlier i inside content ds (no_document past) =
    absurd (both past (lt-leb (length text) i inside))
splits text earlier i inside content ds (end_marker has ends line rest) = absurd (both ends content)
splits text earlier i inside content ds (bare_document {j = j} {n = n} {ds = es} within x over rest) =
    record { root = n; end = j; has = bare_root refl within x over; rest = es; stand = rest }
splits text earlier i inside content ds (marked_document {m = m} {j = j} {n = n} {ds = es} marker x over rest) =
    record { root = n; end = j; has = marked_root m marker x over; rest = es; stand = rest }

-- documents that stand behind one
pub record Behind (text : List ℕ) (j : ℕ) : Type 0 where
  pub rest : List Document
  pub stand : Documents text a_document j rest

pub goes_on : (text : List ℕ) (earlier : Earlier) (i j : ℕ) (root : Node) → HasRoot text earlier i root j
    → i < length text → ends_document text i ≡ false → (ds : List Document) → Documents text earlier i ds
    → Behind text j
goes_on text earlier i j root x inside content ds all =
    let s = splits text earlier i inside content ds all in
    record {
      rest = s.rest;
      stand = subst (λ k. Documents text a_document k s.rest)
          (one_end text earlier i s.end j s.root root s.has x) s.stand;
    }

-- `...` that stands behind a document ends its line, and documents stand behind it
pub record EndsOn (text : List ℕ) (earlier : Earlier) (i : ℕ) (ds : List Document) : Type 0 where
  pub had : has_document earlier ≡ true
  pub line : ends_its_line text (i + 3) ≡ true
  pub rest : Documents text an_end (next text (i + 3)) ds

pub end_on : (text : List ℕ) (earlier : Earlier) (i : ℕ) → ends_document text i ≡ true → (ds : List Document)
    → Documents text earlier i ds → EndsOn text earlier i ds
end_on text earlier i ends ds (no_document past) =
    absurd (omega (arith, ends_byte text i ends, byte_behind text i (leb-true (length text) i past)))
end_on text earlier i ends ds (end_marker has ends' line rest) = record { had = has; line = line; rest = rest }
end_on text earlier i ends ds (bare_document within x over rest) = absurd (both (ends_over text i ends) within)
end_on text earlier i ends ds (marked_document {m = m} marker x over rest) =
    elim (marker_is text earlier i m marker) [
      | inl b ↦ absurd (omega (arith, begins_byte text i b.0, ends_byte text i ends))
      | inr b ↦ absurd (omega (arith, b.0, ends_byte text i ends))
    ]

-- a document goes forward
root_forward : (text : List ℕ) (i j : ℕ) (n : Node) → Root text i j n → i ≤ j
root_forward text i j n (root_in_its_line line x) = omega (arith, next_ahead text i, node_forward text x)
root_forward text i j n (root_in_a_later_line line inside x) = omega (arith, next_ahead text i, node_forward text x)
root_forward text i j n (no_root line over) = next_ahead text i

less : (i j : ℕ) → i ≤ j → (i ≡ j → ⊥) → i < j
less i j on other = grind (arith, on, other)

marker_forward : (text : List ℕ) (earlier : Earlier) (i m : ℕ) → marker_at text earlier i ≡ Some m → i ≤ m
marker_forward text earlier i m h = elim (marker_is text earlier i m h) [ inl b ↦ b.1 | inr b ↦ b.1 ]

pub further : (text : List ℕ) (earlier : Earlier) (i j : ℕ) (root : Node) → HasRoot text earlier i root j → i < j
further text earlier i j root (bare_root first inside x over) =
    less i j (node_forward text x) (λ same. both over (ap (is_over text) (sym same) ∙ inside))
further text earlier i j root (marked_root m marker x over) =
    omega (arith, marker_forward text earlier i m marker, root_forward text (m + 3) j root x)
