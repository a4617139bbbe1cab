-- The names of other entries stay as these are taken.
use Rattle.std.proofs.Common.{arith, refl}
use Rattle.yaml_checked.proofs.NameLaws.{taken_as_far}
use Rattle.yaml_checked.proofs.rest.Rest.names.Goals as goal

pub returns-then-self-clause-stays : goal.returns-then-self-clause-stays
returns-then-self-clause-stays c =
    let taken = c.take_names.ensures in
    taken_as_far c.args.self.now _ c.args.number (omega (arith, c.if-number-eq0.false)) (c.requires.behind c.if-self.true)
    taken.text taken.entries taken.arena taken.names refl refl
