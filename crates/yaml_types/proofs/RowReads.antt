-- How what is read of nodes in a row, each of a type of its own, is put together.
use Rattle.std.proofs.Common.{ℕ, suc, List, [], ◌∷◌, ◌++◌, ◌+◌, ◌≡◌, ◌≤◌, refl, ap, sym, ◌∙◌, subst, arith, map, max}
use Rattle.std.proofs.Common.{All, append_assoc, length, length-append, replicate, false}
use Rattle.std.specs.Prelude.{None, Some}
use Rattle.std.proofs.lemmas.List.{append-nil}
use Rattle.yaml_base.specs.DocTree.{DocNode, list, no_nodes, node, events_of, events_of_nodes}
use Rattle.yaml_base.specs.PlainDocEvent.{sequence_begins, sequence_ends}
use Rattle.yaml_shape.specs.PlainData.{PlainData, PlainItems, no_items, item, tuple_data}
use Rattle.yaml_shape.specs.PlainShape.{PlainShape}
use Rattle.yaml_meaning.specs.Meaning.{Means, MeanRow, means_node, means_list, means_row, means_no_elements}
use Rattle.yaml_meaning.specs.Meaning.{means_element}
use Rattle.yaml_tape.specs.OnDocs.{docs_from}
use Rattle.yaml_tape.specs.declared.tape.Tape.{Tape}
use Rattle.yaml_types.specs.BuiltParts.{BuiltItems}
use Rattle.yaml_types.specs.NodeMeans.{NodeMeans}
use Rattle.yaml_types.specs.RowMeans.{AreShapesIn, RowMeans, ElementsFront}
use Rattle.yaml_types.specs.Rows.{BuiltElements, BuiltNothing, BuiltRow}
use Rattle.yaml_types.specs.Start.{Start, IsClosed, tuple_start}
use Rattle.yaml_types.specs.Tables.{IsShapeIn}
use Rattle.yaml_types.proofs.NodeReads.{two, closed}
use Rattle.yaml_types.proofs.RowTables.{tuple_shaped}

-- no nodes
pub row_none : {R : Type 0} (built : PlainItems → R → Type 0) (t : Tape) (p depth : ℕ) (x : R) → built no_items x
    → RowMeans [] built t p p depth x
row_none built t p depth x b = record {
  nodes = no_nodes;
  found = no_items;
  nestings = 0;
  events = refl;
  means = means;
  within = omega arith;
  value = b;
}
  where
    means : (table : List PlainShape) (ids : List ℕ) (root : DocNode) → AreShapesIn [] table ids
        → MeanRow table root ids no_nodes no_items 0 0
    means table [] root k = means_no_elements
    means table (id ∷ ids) root k = absurd k

-- and one more in front
pub row_more : {A R Z : Type 0} (start : Start) (starts : List Start) (first : PlainData → A → Type 0)
    (others : PlainItems → R → Type 0) (whole : PlainItems → Z → Type 0) (t : Tape) (p q r depth : ℕ) (x : A) (y : R)
    (z : Z) → ((d : PlainData) (ds : PlainItems) → first d x → others ds y → whole (item d ds) z)
    → NodeMeans (IsShapeIn start) first t p q depth x → RowMeans starts others t q r depth y
    → RowMeans (start ∷ starts) whole t p r depth z
row_more start starts first others whole t p q r depth x y z f n m = record {
  nodes = node n.node m.nodes;
  found = item n.found m.found;
  nestings = max n.nestings m.nestings;
  events = n.events ∙ ap (λ l. map Some (events_of n.node) ++ l) m.events
      ∙ two (events_of n.node) (events_of_nodes m.nodes) (docs_from t r);
  means = means;
  within = omega (arith, n.within, m.within);
  value = f n.found m.found n.value m.value;
}
  where
    means : (table : List PlainShape) (ids : List ℕ) (root : DocNode) → AreShapesIn (start ∷ starts) table ids
        → MeanRow table root ids (node n.node m.nodes) (item n.found m.found) (max n.nestings m.nestings) 0
    means table [] root k = absurd k
    means table (id ∷ ids) root k =
        let ((s, at, part), rest) = k in means_element at (n.means table s root part) (m.means table ids root rest)

-- the last
pub row_last : {A : Type 0} (start : Start) (built : PlainData → A → Type 0) (t : Tape) (p q depth : ℕ) (x : A)
    → NodeMeans (IsShapeIn start) built t p q depth x
    → RowMeans (start ∷ []) (λ ds y. BuiltRow {R = Unit {0}} built BuiltNothing ds (y, tt)) t p q depth x
row_last start built t p q depth x n =
    row_more start [] built (BuiltNothing {T = Unit {0}})
    (λ ds y. BuiltRow {R = Unit {0}} built BuiltNothing ds (y, tt)) t p q q depth x tt x (λ d ds b h. (b, h)) n
    (row_none BuiltNothing t q depth tt tt)

-- elements of one type, as a loop reads them
module _ {T : Type 0} (start : Start) (built : PlainData → T → Type 0) (t : Tape) where
  pub elements_start : (p depth : ℕ) → ElementsFront start built t p p depth []
  elements_start p depth more to ys m =
      let none : more ≡ 0 + more = omega arith in
      subst (λ k. RowMeans (replicate k start) (BuiltItems built) t p to depth ys) none m

  pub elements_next : (from p q depth : ℕ) (x : T) (xs : List T) → ElementsFront start built t from p depth xs
      → NodeMeans (IsShapeIn start) built t p q depth x → ElementsFront start built t from q depth (xs ++ x ∷ [])
  elements_next from p q depth x xs f n more to ys m =
      let one : length (xs ++ x ∷ []) ≡ length xs + 1 = length-append xs (x ∷ []) in
      let count : length xs + suc more ≡ length (xs ++ x ∷ []) + more = omega (arith, one) in
      subst (λ k. RowMeans (replicate k start) (BuiltItems built) t from to depth ((xs ++ x ∷ []) ++ ys)) count
      (subst (λ l. RowMeans (replicate (length xs + suc more) start) (BuiltItems built) t from to depth l)
      (sym (append_assoc xs (x ∷ []) ys))
      (f (suc more) to (x ∷ ys) (row_more start (replicate more start) built (BuiltItems built) (BuiltItems built) t p q
      to depth x ys (x ∷ ys) (λ d ds b c. (b, c)) n m)))

  pub elements_all : (from p depth count : ℕ) (xs : List T) → length xs ≡ count
      → ElementsFront start built t from p depth xs
      → RowMeans (replicate count start) (BuiltItems built) t from p depth xs
  elements_all from p depth count xs many f =
      let none_more : length xs + 0 ≡ count = omega (arith, many) in
      subst (λ k. RowMeans (replicate k start) (BuiltItems built) t from p depth xs) none_more
      (subst (λ l. RowMeans (replicate (length xs + 0) start) (BuiltItems built) t from p depth l) (append-nil xs)
      (f 0 p [] (row_none (BuiltItems built) t p depth [] tt)))

-- a tuple
pub tuple_means : {R Z : Type 0} (starts : List Start) → All IsClosed starts → (row : PlainItems → R → Type 0)
    (other : PlainData → Z → Type 0) (t : Tape) (from first last to depth inner : ℕ) (x : R) (z : Z)
    → docs_from t from ≡ Some (sequence_begins None) ∷ docs_from t first → RowMeans starts row t first last inner x
    → docs_from t last ≡ Some sequence_ends ∷ docs_from t to → suc inner ≤ depth
    → ((d : PlainData) → BuiltElements row d x → other d z)
    → NodeMeans (IsShapeIn (tuple_start starts)) other t from to depth z
tuple_means starts c row other t from first last to depth inner x z b m e d f = record {
  node = list None m.nodes;
  found = tuple_data m.found;
  nestings = suc m.nestings;
  events = b ∙ ap (λ y. Some (sequence_begins None) ∷ y)
      (m.events ∙ ap (λ y. map Some (events_of_nodes m.nodes) ++ y) e
      ∙ closed (events_of_nodes m.nodes) sequence_ends (docs_from t to));
  means = λ table s root k. let (ids, is, are) = tuple_shaped starts c table s k in
      subst (λ y. Means table root y (list None m.nodes) false (tuple_data m.found) (suc m.nestings) 0) (sym is)
      (means_node refl refl (means_list (means_row (m.means table ids root are))));
  within = omega (arith, m.within, d);
  value = f (tuple_data m.found) m.value;
}
