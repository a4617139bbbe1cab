-- The place of the key says which value is there.
use Rattle.std.proofs.Common.{ap, sym, ◌∙◌, refl, Some, None}
use Rattle.yaml_tree.specs.Mapping.{value_at}
use Rattle.yaml_tree.specs.Tree.{string}
use Rattle.yaml_tree.specs.View.{entry_pairs}
use Rattle.yaml_tree.proofs.Lookups.{holds_at_found}
use Rattle.yaml_tree.proofs.Views.{pairs_of-view}
use Rattle.yaml_tree.proofs.mapping.Mapping.value_of_text.Goals as goal

pub returns-in-Some : goal.returns-in-Some
returns-in-Some c =
    let k = string c.args.text.now in
    let es = c.as_slice-entries.result.now in
    let held = holds_at_found k es es (Some c.in-Some.i) refl c.in-Some.ensures.place in
    let seen = ap entry_pairs c.as_slice-entries.ensures.value ∙ pairs_of-view _ _ c.self.view_is c.self.invariant.0 in
    sym (held c.index-entries-i.result).0 ∙ ap (value_at k) seen

pub returns-in-None : goal.returns-in-None
returns-in-None c =
    let k = string c.args.text.now in
    let es = c.as_slice-entries.result.now in
    let held = holds_at_found k es es None refl c.in-None.ensures.place in
    let seen = ap entry_pairs c.as_slice-entries.ensures.value ∙ pairs_of-view _ _ c.self.view_is c.self.invariant.0 in
    sym held.0 ∙ ap (value_at k) seen
