-- The node ends where the walk over it ended.
use Rattle.std.proofs.Common.{refl}
use Rattle.std.specs.Prelude.{Some}
use Rattle.yaml_base.specs.PlainDocEvent.{sequence_ends}
use Rattle.yaml_types.proofs.BehindLaws.{ends_there, place_there}
use Rattle.yaml_types.proofs.RowReads.{row_last}
use Rattle.yaml_types.proofs.last.Tuple1ReadRow.read_row.Goals as goal

pub returns-clause-row : goal.returns-clause-row
returns-clause-row g c =
    let m = row_last g.A.Deserialize.start g.A.Deserialize.built c.args.tape.now c.args.place.now
    c.read_node.new.place c.args.depth c.in_ok-last.last c.in_ok-last.ensures.read in
    record {
      nodes = m.nodes;
      found = m.found;
      nestings = m.nestings;
      events = m.events;
      means = m.means;
      within = m.within;
      value = m.value;
    }

pub returns-clause-ended : goal.returns-clause-ended
returns-clause-ended g c =
    ends_there c.args.tape.now c.args.place.now c.read_node.new.place c.in_ok-place_behind.field-0
    c.in_ok-last.ensures.read.node (Some sequence_ends) c.in_ok-last.ensures.read.events c.in_ok-place_behind.ensures
    (c.if-not-ends_sequence.ensures refl)

pub returns-clause-there : goal.returns-clause-there
returns-clause-there g c =
    place_there c.args.tape.now c.read_node.new.place (Some sequence_ends) _ (returns-clause-ended g c)
