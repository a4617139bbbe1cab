use Rattle.yaml_types.specs.Rows.{BuiltRow}
use Rattle.yaml_types.proofs.RowReads.{row_more}
use Rattle.yaml_types.proofs.row.Tuple2ReadRow.read_row.Goals as goal

pub returns-clause-row : goal.returns-clause-row
returns-clause-row g c =
    row_more g.A.Deserialize.start g.R.ReadRow.starts g.A.Deserialize.built g.R.ReadRow.built
    (BuiltRow g.A.Deserialize.built g.R.ReadRow.built) c.args.tape.now c.args.place.now c.read_node.new.place
    c.read_row.new.place c.args.depth c.in_ok-first.first c.in_ok-rest.rest
    (c.in_ok-first.first, c.in_ok-rest.rest) (λ d ds b h. (b, h)) c.in_ok-first.ensures.read
    c.in_ok-rest.ensures.row
