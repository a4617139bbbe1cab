-- Lists of values and entries that are seen alike: they stay so with one more at the end of each, and copies are
-- indexed as what they are copied from.
use Rattle.std.specs.Prelude.{◌≡◌, ℕ, ◌+◌, ◌<◌, ◌≤◌, true, List, [], ◌∷◌, ◌++◌, length, map, refl}
use Rattle.std.proofs.Common.{ap, sym, ◌∙◌, subst, get_or, take}
use Rattle.std.proofs.lemmas.List.{length-map, map_push, take_all, take_more}
use Rattle.yaml_tree.specs.Entries.{SameEntry}
use Rattle.yaml_tree.specs.Hash.{hash_of}
use Rattle.yaml_tree.specs.Index.{IsIndexed, lasts_of, earliers_of, hashes_of}
use Rattle.yaml_tree.specs.Mapping.{keys_distinct}
use Rattle.yaml_tree.specs.Tree.{Tree, Trees, no_trees, tree, Pairs, no_pairs, pair}
use Rattle.yaml_tree.specs.View.{tree_of, trees_of, entry_pairs}
use Rattle.yaml_tree.specs.declared.mapping.Entry.{Entry}
use Rattle.yaml_tree.specs.declared.value.Value.{Value}
use Rattle.yaml_tree.proofs.Indexed.{indexed-alike}

-- ---- values
first_tree : {a b : Tree} {xs ys : Trees} → tree a xs ≡ tree b ys → a ≡ b
first_tree e = cc

other_trees : {a b : Tree} {xs ys : Trees} → tree a xs ≡ tree b ys → xs ≡ ys
other_trees e = cc

trees_of-alike : (vs ws : List Value) (v w : Value) → trees_of vs ≡ trees_of ws → tree_of v ≡ tree_of w
    → trees_of (vs ++ v ∷ []) ≡ trees_of (ws ++ w ∷ [])
trees_of-alike [] [] v w e f = ap (λ t. tree t no_trees) f
trees_of-alike [] (y ∷ ws) v w e f = absurd (cc)
trees_of-alike (x ∷ vs) [] v w e f = absurd (cc)
trees_of-alike (x ∷ vs) (y ∷ ws) v w e f = λ i. tree (first_tree e i) (trees_of-alike vs ws v w (other_trees e) f i)

-- copies of the first values, with a copy of the next one
pub trees_of-more : (copies vs : List Value) (i : ℕ) (v w : Value) → trees_of copies ≡ trees_of (take i vs)
    → i < length vs → w ≡ get_or vs i w → tree_of v ≡ tree_of w
    → trees_of (copies ++ v ∷ []) ≡ trees_of (take (i + 1) vs)
trees_of-more copies vs i v w e lt is f =
    trees_of-alike copies (take i vs) v w e f
    ∙ ap trees_of (ap (λ x. take i vs ++ x ∷ []) is ∙ sym (take_more vs i w lt))

-- ---- what the index keeps
-- the hashes of the keys of pairs
abbrev pair_hashes : Pairs → List ℕ
pair_hashes no_pairs = []
pair_hashes (pair k v ps) = hash_of k ∷ pair_hashes ps

hashes_of-pairs : (es : List Entry) → hashes_of es ≡ pair_hashes (entry_pairs es)
hashes_of-pairs [] = refl
hashes_of-pairs (e ∷ es) = ap (λ hs. hash_of (tree_of e.key) ∷ hs) (hashes_of-pairs es)

-- the same pairs, and the same that is kept for the index
abbrev pub SameEntries : List Entry → List Entry → Type 0
SameEntries es fs =
    (entry_pairs es ≡ entry_pairs fs) × (lasts_of es ≡ lasts_of fs) × (earliers_of es ≡ earliers_of fs)

-- copies of entries are in their chains as the entries are
pub indexed-copies : (es fs : List Entry) → SameEntries fs es → IsIndexed es → IsIndexed fs
indexed-copies es fs same indexed =
    let len = sym (length-map es (λ e. e.last)) ∙ (ap length (sym same.1) ∙ length-map fs (λ e. e.last)) in
    let hashes = hashes_of-pairs es ∙ (ap pair_hashes (sym same.0) ∙ sym (hashes_of-pairs fs)) in
    indexed-alike es fs (len, sym same.1, sym same.2, hashes) indexed

-- so are entries that are equal to copies
pub same-is : (xs ys zs : List Entry) → xs ≡ ys → SameEntries ys zs → SameEntries xs zs
same-is xs ys zs is same = subst (λ es. SameEntries es zs) (sym is) same

-- ---- entries
first_key : {k l v w : Tree} {ps qs : Pairs} → pair k v ps ≡ pair l w qs → k ≡ l
first_key e = cc

first_value : {k l v w : Tree} {ps qs : Pairs} → pair k v ps ≡ pair l w qs → v ≡ w
first_value e = cc

other_pairs : {k l v w : Tree} {ps qs : Pairs} → pair k v ps ≡ pair l w qs → ps ≡ qs
other_pairs e = cc

entry_pairs-alike : (vs ws : List Entry) (v w : Entry) → entry_pairs vs ≡ entry_pairs ws → SameEntry v w
    → entry_pairs (vs ++ v ∷ []) ≡ entry_pairs (ws ++ w ∷ [])
entry_pairs-alike [] [] v w e f = λ i. pair (f.0 i) (f.1 i) no_pairs
entry_pairs-alike [] (y ∷ ws) v w e f = absurd (cc)
entry_pairs-alike (x ∷ vs) [] v w e f = absurd (cc)
entry_pairs-alike (x ∷ vs) (y ∷ ws) v w e f =
    λ i. pair (first_key e i) (first_value e i) (entry_pairs-alike vs ws v w (other_pairs e) f i)

numbers-alike : (f : Entry → ℕ) (vs ws : List Entry) (v w : Entry) → map f vs ≡ map f ws → f v ≡ f w
    → map f (vs ++ v ∷ []) ≡ map f (ws ++ w ∷ [])
numbers-alike f vs ws v w e g = map_push f vs v ∙ ((λ i. e i ++ g i ∷ []) ∙ sym (map_push f ws w))

-- copies of the first entries, with a copy of the next one
pub entries-more : (copies es : List Entry) (i : ℕ) (v w : Entry) → SameEntries copies (take i es)
    → i < length es → w ≡ get_or es i w → SameEntry v w
    → SameEntries (copies ++ v ∷ []) (take (i + 1) es)
entries-more copies es i v w e lt is f =
    let more : take i es ++ w ∷ [] ≡ take (i + 1) es =
    ap (λ x. take i es ++ x ∷ []) is ∙ sym (take_more es i w lt) in (
      entry_pairs-alike copies (take i es) v w e.0 f ∙ ap entry_pairs more,
      numbers-alike (λ x. x.last) copies (take i es) v w e.1 f.2 ∙ ap lasts_of more,
      numbers-alike (λ x. x.earlier) copies (take i es) v w e.2 f.3 ∙ ap earliers_of more,
    )

-- copies of all entries have distinct keys and are in their chains, as the entries are
pub copied-all : (copies xs es : List Entry) (i : ℕ) → xs ≡ es → length xs ≤ i → SameEntries copies (take i xs)
    → (keys_distinct (entry_pairs es) ≡ true) × IsIndexed es
    → (keys_distinct (entry_pairs copies) ≡ true) × IsIndexed copies
copied-all copies xs es i is end same kept =
    let whole : SameEntries copies es = subst (SameEntries copies) (take_all i xs end ∙ is) same in
    (ap keys_distinct whole.0 ∙ kept.0, indexed-copies es copies whole kept.1)
