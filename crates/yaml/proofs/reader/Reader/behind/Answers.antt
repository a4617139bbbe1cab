-- The place behind a node is behind the number of its first event.
use Rattle.std.proofs.Common.{arith, refl, sym, length, ◌<◌}
use Rattle.std.proofs.lemmas.Bool.{ltb-false, ltb-true}
use Rattle.std.proofs.lemmas.Option.{slice_get_past, slice_get_read}
use Rattle.yaml.proofs.BehindLaws.{behind_nothing, behind_number, end_within}
use Rattle.yaml.proofs.reader.Reader.behind.Goals as goal

pub returns-in-Some : goal.returns-in-Some
returns-in-Some c =
    let ends = c.ends.result.now in
    let document = c.args.self.now.document.now in
    let place = c.args.place in
    let end = c.in-Some.end.now in
    let look = c.in-Some.ensures.lookup in
    let within : place < length ends = ltb-true place (length ends) (sym look.0) in
    let found = slice_get_read ends (length ends) place end refl within look.1 in
    let high = end_within ends document place end c.ends.ensures found in
    let small = c.ends.type_inv.1 in
    let sum = c.saturating_add.ensures in
    omega (arith, sum, behind_number ends document place end c.ends.ensures found)

pub returns-in-None : goal.returns-in-None
returns-in-None c =
    let ends = c.ends.result.now in
    let place = c.args.place in
    let past = slice_get_past ends place (ltb-false place (length ends) (sym c.in-None.ensures.lookup.0)) in
    sym (behind_nothing ends c.args.self.now.document.now c.args.place c.ends.ensures past)
