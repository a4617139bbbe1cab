-- An entry that keeps another place is the same pair.
use Rattle.std.proofs.Common.{ap, set, ◌∙◌}
use Rattle.std.proofs.Math.Seq.{map-set_same}
use Rattle.std.proofs.lemmas.List.{length-set, map-set}
use Rattle.yaml_value.specs.Index.{earliers_of}
use Rattle.yaml_value.specs.View.{plain_entry}
use Rattle.yaml_value.proofs.Views.{entry_pairs-set}
use Rattle.yaml_value.proofs.index.set_earlier.Goals as goal

pub returns-clause-pairs : goal.returns-clause-pairs
returns-clause-pairs c =
    entry_pairs-set c.args.entries.now.items c.args.i c.keep_earlier.new.entry c.index_mut.result.now
    (c.keep_earlier.ensures.pair ∙ ap plain_entry c.index_mut.ensures.value)

pub returns-clause-earliers : goal.returns-clause-earliers
returns-clause-earliers c =
    map-set (λ e. e.earlier) c.args.entries.now.items c.args.i c.keep_earlier.new.entry
    ∙ ap (set (earliers_of c.args.entries.now.items) c.args.i) c.keep_earlier.ensures.earlier

pub returns-clause-lasts : goal.returns-clause-lasts
returns-clause-lasts c =
    map-set_same (λ e. e.last) c.args.entries.now.items c.args.i c.keep_earlier.new.entry c.index_mut.result.now
    (c.keep_earlier.ensures.last ∙ ap (λ e. e.last) c.index_mut.ensures.value)

pub returns-clause-len : goal.returns-clause-len
returns-clause-len c = length-set c.args.entries.now.items c.args.i c.keep_earlier.new.entry
