-- A tree whose events have no merge key has none.
use Rattle.std.proofs.Common.{◌≡◌, ℕ, ◌+◌, Bool, true, false, ◌&&◌, ◌||◌, if◌then◌else◌, Option, Some, None}
use Rattle.std.proofs.Common.{List, [], ◌∷◌, ◌++◌}
use Rattle.std.proofs.Common.{refl, sym, ap, ◌∙◌, subst}
use Rattle.std.specs.Prelude.{map}
use Rattle.yaml_base.specs.DocTree.{DocNode, nothing, reference, word, list, mapping, DocNodes, no_nodes, node}
use Rattle.yaml_base.specs.DocTree.{DocPairs, no_pairs, pair, IsTreeOf, events_of, events_of_nodes, events_of_pairs}
use Rattle.yaml_base.specs.PlainDocEvent.{PlainDocEvent, alias_to, a_void, a_scalar, sequence_begins, sequence_ends}
use Rattle.yaml_base.specs.PlainDocEvent.{mapping_begins, mapping_ends}
use Rattle.yaml_base.specs.PlainDocument.{PlainDocument}
use Rattle.yaml_base.specs.declared.open.Open.{Open}
use Rattle.yaml_base.specs.declared.open.Open.TheVariants.{Sequence, Key, Value}
use Rattle.yaml_merge.specs.MergeKeys.{Events, awaits_key, first_key_from, first_merge_key, is_merge_node}
use Rattle.yaml_merge.specs.MergeKeys.{is_merge_word}
use Rattle.yaml_merge.specs.MergeKeys.{open_behind, turned}
use Rattle.yaml_merge.specs.MergedTree.{Sameness, are_merging, has_merge_key, have_merge_keys, is_merge_key, merged}
use Rattle.yaml_merge.proofs.MergedLaws.{stays}

-- among these events no word of a merge key stands as a key
abbrev free : List Open → List PlainDocEvent → Bool
free opened [] = true
free opened (e ∷ es) = if awaits_key opened && is_merge_word e then false else free (open_behind e opened) es

free_if : (b c d : Bool) (place : ℕ) (o : Option ℕ) → (c ≡ true → b ≡ true) → (o ≡ None → d ≡ true)
    → (if b then Some place else o) ≡ None → (if c then false else d) ≡ true
free_if true c d place o h rest none = absurd cc
free_if false true d place o h rest none = h refl
free_if false false d place o h rest none = rest none

and_of : (a b c : Bool) → (b ≡ true → c ≡ true) → (a && b) ≡ true → (a && c) ≡ true
and_of true b c h s = h s
and_of false b c h s = s

no_word : (b : Bool) → false ≡ true → b ≡ true
no_word b h = absurd cc

word_node : (document : Events) (e : PlainDocEvent) → is_merge_word e ≡ true → is_merge_node document e ≡ true
word_node document (alias_to target) h = no_word _ h
word_node document a_void h = h
word_node document (a_scalar s) h = h
word_node document (sequence_begins tag) h = h
word_node document sequence_ends h = h
word_node document (mapping_begins tag) h = h
word_node document mapping_ends h = h

pub free_of : (document : Events) (place : ℕ) (opened : List Open) (events : Events)
    → first_key_from document place opened events ≡ None → free opened (map (λ e. e.0) events) ≡ true
free_of document place opened [] none = refl
free_of document place opened (e ∷ events) none =
    free_if (awaits_key opened && is_merge_node document e.0) (awaits_key opened && is_merge_word e.0)
    (free (open_behind e.0 opened) (map (λ x. x.0) events)) place
    (first_key_from document (place + 1) (open_behind e.0 opened) events)
    (and_of (awaits_key opened) (is_merge_word e.0) (is_merge_node document e.0) (word_node document e.0))
    (free_of document (place + 1) (open_behind e.0 opened) events) none

-- an event that is gone over is no merge key, and what follows has none
gone_over : (a b c : Bool) → (if a && b then false else c) ≡ true → (a ≡ true → b ≡ false) × (c ≡ true)
gone_over true true c h = absurd cc
gone_over true false c h = (λ x. refl, h)
gone_over false b c h = (λ x. absurd cc, h)

append_append : {T : Type 0} (xs ys zs : List T) → ((xs ++ ys) ++ zs) ≡ (xs ++ (ys ++ zs))
append_append [] ys zs = refl
append_append (x ∷ xs) ys zs = ap (λ l. x ∷ l) (append_append xs ys zs)

or_none : (a b : Bool) → a ≡ false → b ≡ false → (a || b) ≡ false
or_none true b h k = absurd cc
or_none false b h k = k

-- what is known of a node whose events, with others behind them, have no merge key
record Free (n : DocNode) (opened : List Open) (rest : List PlainDocEvent) : Type 0 where
  pub key : awaits_key opened ≡ true → is_merge_key n ≡ false
  pub within : has_merge_key n ≡ false
  pub behind : free (turned opened) rest ≡ true

mutual
  free_node : (n : DocNode) (opened : List Open) (rest : List PlainDocEvent)
      → free opened (events_of n ++ rest) ≡ true → Free n opened rest
  free_node nothing opened rest h =
      let over = gone_over (awaits_key opened) (is_merge_word a_void) (free (turned opened) rest) h in
      record { key = over.0; within = refl; behind = over.1 }
  free_node (reference target) opened rest h =
      let over = gone_over (awaits_key opened) (is_merge_word (alias_to target)) (free (turned opened) rest) h in
      record { key = over.0; within = refl; behind = over.1 }
  free_node (word s) opened rest h =
      let over = gone_over (awaits_key opened) (is_merge_word (a_scalar s)) (free (turned opened) rest) h in
      record { key = over.0; within = refl; behind = over.1 }
  free_node (list tag nodes) opened rest h =
      let inner = (events_of_nodes nodes ++ sequence_ends ∷ []) ++ rest in
      let over = gone_over (awaits_key opened) (is_merge_word (sequence_begins tag))
      (free (Sequence ∷ turned opened) inner) h in
      let parts = free_nodes nodes (turned opened) (sequence_ends ∷ rest)
      (subst (λ l. free (Sequence ∷ turned opened) l ≡ true)
      (append_append (events_of_nodes nodes) (sequence_ends ∷ []) rest) over.1) in
      record { key = over.0; within = parts.0; behind = parts.1 }
  free_node (mapping tag ps) opened rest h =
      let inner = (events_of_pairs ps ++ mapping_ends ∷ []) ++ rest in
      let over = gone_over (awaits_key opened) (is_merge_word (mapping_begins tag))
      (free (Key ∷ turned opened) inner) h in
      let parts = free_pairs ps (turned opened) (mapping_ends ∷ rest)
      (subst (λ l. free (Key ∷ turned opened) l ≡ true)
      (append_append (events_of_pairs ps) (mapping_ends ∷ []) rest) over.1) in
      record { key = over.0; within = parts.0; behind = parts.1 }

  free_nodes : (nodes : DocNodes) (opened : List Open) (rest : List PlainDocEvent)
      → free (Sequence ∷ opened) (events_of_nodes nodes ++ rest) ≡ true
      → (have_merge_keys nodes ≡ false) × (free (Sequence ∷ opened) rest ≡ true)
  free_nodes no_nodes opened rest h = (refl, h)
  free_nodes (node n nodes) opened rest h =
      let first = free_node n (Sequence ∷ opened) (events_of_nodes nodes ++ rest)
      (subst (λ l. free (Sequence ∷ opened) l ≡ true) (append_append (events_of n) (events_of_nodes nodes) rest) h) in
      let others = free_nodes nodes opened rest first.behind in
      (or_none (has_merge_key n) (have_merge_keys nodes) first.within others.0, others.1)

  free_pairs : (ps : DocPairs) (opened : List Open) (rest : List PlainDocEvent)
      → free (Key ∷ opened) (events_of_pairs ps ++ rest) ≡ true
      → (are_merging ps ≡ false) × (free (Key ∷ opened) rest ≡ true)
  free_pairs no_pairs opened rest h = (refl, h)
  free_pairs (pair k v ps) opened rest h =
      let first = free_node k (Key ∷ opened) ((events_of v ++ events_of_pairs ps) ++ rest)
      (subst (λ l. free (Key ∷ opened) l ≡ true)
      (append_append (events_of k) (events_of v ++ events_of_pairs ps) rest) h) in
      let second = free_node v (Value ∷ opened) (events_of_pairs ps ++ rest)
      (subst (λ l. free (Value ∷ opened) l ≡ true)
      (append_append (events_of v) (events_of_pairs ps) rest) first.behind) in
      let others = free_pairs ps opened rest second.behind in (
        or_none (is_merge_key k) (has_merge_key k || (has_merge_key v || are_merging ps)) (first.key refl)
            (or_none (has_merge_key k) (has_merge_key v || are_merging ps) first.within
            (or_none (has_merge_key v) (are_merging ps) second.within others.0)),
        others.1,
      )

append_none : {T : Type 0} (xs : List T) → (xs ++ []) ≡ xs
append_none [] = refl
append_none (x ∷ xs) = ap (λ l. x ∷ l) (append_none xs)

-- the tree of a document without merge keys is merged as it stands
pub stays_whole : (same : Sameness) (document : PlainDocument) (root : DocNode) → IsTreeOf document root
    → first_merge_key document.events ≡ None → merged same root ≡ root
stays_whole same document root is none =
    let h = free_of document.events 0 [] document.events none in
    let all : free [] (events_of root ++ []) ≡ true =
    subst (λ l. free [] l ≡ true) (is.events ∙ sym (append_none (events_of root))) h in
    stays same root (free_node root [] [] all).within

-- so has that document its merged tree
pub has_merged_tree : (same : Sameness) (document treated : PlainDocument) (root : DocNode) → IsTreeOf document root
    → first_merge_key document.events ≡ None → treated ≡ document → IsTreeOf treated (merged same root)
has_merged_tree same document treated root is none stays =
    subst (λ d. IsTreeOf d (merged same root)) (sym stays)
    (subst (IsTreeOf document) (sym (stays_whole same document root is none)) is)
