-- An entry that keeps another place is the same pair.
use Rattle.std.proofs.Common.{ap, set, ◌∙◌}
use Rattle.std.proofs.Math.Seq.{map-set_same}
use Rattle.std.proofs.lemmas.List.{length-set, map-set}
use Rattle.yaml_value.specs.Index.{lasts_of}
use Rattle.yaml_value.specs.View.{plain_entry}
use Rattle.yaml_value.proofs.Views.{entry_pairs-set}
use Rattle.yaml_value.proofs.index.set_last.Goals as goal

pub returns-clause-pairs : goal.returns-clause-pairs
returns-clause-pairs c =
    entry_pairs-set c.args.entries.now.items c.args.i c.keep_last.new.entry c.index_mut.result.now
    (c.keep_last.ensures.pair ∙ ap plain_entry c.index_mut.ensures.value)

pub returns-clause-lasts : goal.returns-clause-lasts
returns-clause-lasts c =
    map-set (λ e. e.last) c.args.entries.now.items c.args.i c.keep_last.new.entry
    ∙ ap (set (lasts_of c.args.entries.now.items) c.args.i) c.keep_last.ensures.last

pub returns-clause-earliers : goal.returns-clause-earliers
returns-clause-earliers c =
    map-set_same (λ e. e.earlier) c.args.entries.now.items c.args.i c.keep_last.new.entry c.index_mut.result.now
    (c.keep_last.ensures.earlier ∙ ap (λ e. e.earlier) c.index_mut.ensures.value)

pub returns-clause-len : goal.returns-clause-len
returns-clause-len c = length-set c.args.entries.now.items c.args.i c.keep_last.new.entry
