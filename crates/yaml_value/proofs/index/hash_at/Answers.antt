-- The key there has this hash.
use Rattle.std.proofs.Common.{ap, sym, ◌∙◌}
use Rattle.yaml_value.specs.Hash.{hash_of}
use Rattle.yaml_value.specs.View.{plain}
use Rattle.yaml_value.proofs.Indexed.{hash-at}
use Rattle.yaml_value.proofs.index.hash_at.Goals as goal

pub returns : goal.returns
returns c =
    let es = c.args.entries.now in
    let d = c.index-entries-place.result in
    c.hash_value.ensures
    ∙ (ap (λ e. hash_of (plain e.key)) (sym c.index-entries-place.is)
    ∙ sym (hash-at es c.args.place d c.requires c.index-entries-place.is))
