-- The fields are the name, and the data of the folders.
use Rattle.std.proofs.Common.{◌∙◌, ap, map, true}
use Rattle.std.proofs.lemmas.List.{take_all}
use Rattle.yaml_shape.specs.DataView.{items_of}
use Rattle.yaml_shape.specs.PlainData.{text_data, seq_data}
use Rattle.yaml_types.proofs.FoundLaws.{data_of-Seq}
use Rattle.uses.specs.Folders.{folder_data}
use Rattle.uses.proofs.FolderShown.{data_of-Str, folder_shown}
use Rattle.uses.proofs.folder.+written_folder.Goals as goal

pub returns-clause-ok : goal.returns-clause-ok
returns-clause-ok t c =
    folder_shown c.args.folder.now c.in_ok-vec.field-0 _ _ c.in_ok-vec.ensures.items
    (data_of-Str c.as_str.result ∙ ap (text_data true) c.as_str.ensures.value)
    (data_of-Seq c.loop-inner.folders
    ∙ ap (λ ds. seq_data (items_of ds))
    (c.loop-inner.invariant
    ∙ ap (map folder_data)
    (take_all c.loop-inner.inner-index c.deref-inner-items.result.now c.loop-inner-test.false
    ∙ c.deref-inner-items.ensures.value)))
