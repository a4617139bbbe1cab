-- The key that is found is the first of what is left.
use Rattle.std.proofs.Common.{◌≡◌, ℕ, ◌+◌, List, ◌∷◌, Some, true, if◌then◌else◌, option_map, suc}
use Rattle.std.proofs.Common.{ap, arith, sym, ◌∙◌, get_or, drop}
use Rattle.std.proofs.lemmas.List.{drop_more}
use Rattle.yaml_tree.specs.Equal.{tree_eq}
use Rattle.yaml_tree.specs.Lookup.{place_of_key}
use Rattle.yaml_tree.specs.Tree.{Tree, string}
use Rattle.yaml_tree.specs.View.{entry_pairs, tree_of}
use Rattle.yaml_tree.specs.declared.mapping.Entry.{Entry}
use Rattle.yaml_tree.proofs.value.text.find_in_order.Goals as goal

found_first : (i : ℕ) (k : Tree) (e : Entry) (es : List Entry) → tree_eq k (tree_of e.key) ≡ true
    → option_map (λ n. i + n) (place_of_key k (entry_pairs (e ∷ es))) ≡ Some i
found_first i k e es same =
    ap (λ b. option_map (λ n. i + n) (if b then Some 0 else option_map suc (place_of_key k (entry_pairs es)))) same
    ∙ ap Some (omega arith)

pub returns-then-is_text-clause-place : goal.returns-then-is_text-clause-place
returns-then-is_text-clause-place c =
    let k = string c.args.text.now in
    let es = c.args.entries.now in
    let i = c.loop-i.i in
    let e = c.index-entries-i.result in
    let same = ap (λ x. tree_eq k (tree_of x.key)) (sym c.index-entries-i.is)
    ∙ (sym c.is_text.ensures ∙ c.if-is_text.true) in
    sym (c.loop-i.invariant
    ∙ (ap (λ xs. option_map (λ n. i + n) (place_of_key k (entry_pairs xs))) (drop_more es i e c.loop-i-test.true)
    ∙ found_first i k (get_or es i e) (drop (i + 1) es) same))
