-- Keys stay distinct, and the pairs are those of the entries.
use Rattle.std.proofs.Common.{◌≡◌, ap, ◌∙◌, true, List, Option, Result, Ok, Err, OnOk, OnErr}
use Rattle.std.proofs.lemmas.Result.{on_ok_weaker, on_err_weaker}
use Rattle.yaml_tree.specs.Mapping.{keys_distinct, with_pair}
use Rattle.yaml_tree.specs.Tree.{Tree}
use Rattle.yaml_tree.specs.Valid.{value_pairs, pairs_of-value_pairs}
use Rattle.yaml_tree.specs.View.{tree_of, entry_pairs, are_pairs-entry_pairs}
use Rattle.yaml_tree.specs.declared.fault.TreeFault.{TreeFault}
use Rattle.yaml_tree.specs.declared.mapping.Entry.{Entry}
use Rattle.yaml_tree.specs.declared.value.Value.{Value}
use Rattle.yaml_tree.proofs.Lookups.{keys_distinct-with_pair}
use Rattle.yaml_tree.proofs.Views.{pairs_of-view}
use Rattle.yaml_tree.proofs.mapping.Mapping.insert.Goals as goal

distinct : (r : Result (Option Value) TreeFault) (old new : List Entry) (k v : Tree)
    → keys_distinct (entry_pairs old) ≡ true → OnOk r (entry_pairs new ≡ with_pair k v (entry_pairs old))
    → OnErr r (new ≡ old) → keys_distinct (entry_pairs new) ≡ true
distinct (Ok o) old new k v d ok err = ap keys_distinct ok ∙ keys_distinct-with_pair k v (entry_pairs old) d
distinct (Err f) old new k v d ok err = ap (λ es. keys_distinct (entry_pairs es)) err ∙ d

still_distinct : (c : goal.After-put) → keys_distinct (entry_pairs c.put.new.entries.items) ≡ true
still_distinct c =
    distinct c.put.result c.self.inside.entries.items c.put.new.entries.items
    (tree_of c.args.key) (tree_of c.args.value) c.self.invariant.0 c.put.ensures.ok c.put.ensures.err

pub invariant_of-self : goal.invariant_of-self
invariant_of-self c = (still_distinct c, c.put.ensures.still_indexed)

pub returns-clause-ok : goal.returns-clause-ok
returns-clause-ok c =
    let es = c.put.new.entries.items in
    let k = tree_of c.args.key in
    let v = tree_of c.args.value in
    on_ok_weaker c.put.result
    (λ e. pairs_of-value_pairs (entry_pairs es) (are_pairs-entry_pairs es) (still_distinct c)
    ∙ (e ∙ ap (with_pair k v) (pairs_of-view _ _ c.self.view_is c.self.invariant.0)))
    c.put.ensures.ok

pub returns-clause-err : goal.returns-clause-err
returns-clause-err c =
    on_err_weaker c.put.result
    (λ e. ap (λ es. value_pairs (entry_pairs es) (are_pairs-entry_pairs es)) e ∙ c.self.view_is) c.put.ensures.err
