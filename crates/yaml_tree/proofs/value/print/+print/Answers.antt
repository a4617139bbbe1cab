-- The texts in a row are those of the trees and pairs that a sequence and a mapping are seen as.
use Rattle.std.specs.Prelude.{codes}
use Rattle.std.proofs.Common.{◌++◌, ap, ◌∙◌, rules}
use Rattle.std.proofs.Output.{has_written_append, has_written_of_eq}
use Rattle.yaml_tree.specs.Listed.{listed}
use Rattle.yaml_tree.specs.TreeText.{pair_texts, tree_texts}
use Rattle.yaml_tree.specs.View.{entry_pairs, trees_of}
use Rattle.yaml_tree.proofs.Shown.{entries-listed, values-listed}
use Rattle.yaml_tree.proofs.Views.{pairs_of-view, values_of-view}
use Rattle.yaml_tree.proofs.value.print.+print.Goals as goal

pub write_items-returns : goal.write_items-returns
write_items-returns g t c = λ plain ok.
    let row = values-listed c.as_slice.result.now ∙ ap (λ ts. listed (tree_texts ts))
    (ap trees_of c.as_slice.ensures.value ∙ values_of-view _ _ c.items.view_is) in
    let one = c.write_str.ensures.writes plain (search rules) in
    let two = c.write_values.ensures one.plain (search rules) in
    let three = c.write_str-2.ensures.writes two.plain ok in
    has_written_of_eq _ _ _ _ _ (ap (λ text. codes "[" ++ (text ++ codes "]")) row)
    (has_written_append _ _ _ _ _ _ (has_written_append _ _ _ _ _ _ one two) three)

pub write_pairs-returns : goal.write_pairs-returns
write_pairs-returns g t c = λ plain ok.
    let row = entries-listed c.as_slice.result.now ∙ ap (λ ps. listed (pair_texts ps))
    (ap entry_pairs c.as_slice.ensures.value ∙ pairs_of-view _ _ c.pairs.view_is c.pairs.invariant.0) in
    let one = c.write_str.ensures.writes plain (search rules) in
    let two = c.write_entries.ensures one.plain (search rules) in
    let three = c.write_str-2.ensures.writes two.plain ok in
    has_written_of_eq _ _ _ _ _ (ap (λ text. codes "{" ++ (text ++ codes "}")) row)
    (has_written_append _ _ _ _ _ _ (has_written_append _ _ _ _ _ _ one two) three)
