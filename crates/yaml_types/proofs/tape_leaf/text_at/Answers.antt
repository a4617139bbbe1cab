use Rattle.std.proofs.Common.{◌≡◌, rules}
use Rattle.std.specs.Str.{IsUtf8}
use Rattle.yaml_tape.specs.OnDocs.{bare}
use Rattle.yaml_types.proofs.LeafReads.{text_gives}
use Rattle.yaml_types.proofs.tape_leaf.text_at.Goals as goal

pub returns-clause-gives : goal.returns-clause-gives
returns-clause-gives c =
    let text = (bare c.args.tape.now c.in_ok-entry.entry).text in
    let utf8 : IsUtf8 text = search rules in
    let same : c.in_ok-found.found.now ≡ text = search rules in
    text_gives c.args.tape.now c.args.place c.in_ok-entry.entry c.in_ok-found.found.now c.in_ok-entry.ensures.scalar
    utf8 same
