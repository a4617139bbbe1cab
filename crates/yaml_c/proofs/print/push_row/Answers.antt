-- The event is the row's.
use Rattle.std.proofs.Common.{ap, option_map}
use Rattle.yaml_base.specs.EmitEvents.{emit_document_end, emit_document_start, emit_mapping_end, emit_mapping_start}
use Rattle.yaml_base.specs.EmitEvents.{emit_sequence_end, emit_sequence_start}
use Rattle.yaml_emit.specs.Emitted.{Emitted}
use Rattle.yaml_c.proofs.EachLaws.{mapping_begins_row, sequence_begins_row}
use Rattle.yaml_c.proofs.print.push_row.Goals as goal
use Rattle.yaml_c.specs.RowEvents.{a_document, its_end, its_last, the_end}

pub returns-in_ok-begin_sequence-in-10-clause-added : goal.returns-in_ok-begin_sequence-in-10-clause-added
returns-in_ok-begin_sequence-in-10-clause-added c = record {
  event = emit_sequence_start (option_map (λ t. t.now) c.in-Some.tag);
  of_row = sequence_begins_row c.args.texts.source.now c.args.texts.texts.now c.args.row.now _ c.in-10.is
      c.in-Some.ensures.tag;
  added = c.in_ok-begin_sequence-in-10.ensures;
}

pub returns-in_ok-push-in-11-clause-added : goal.returns-in_ok-push-in-11-clause-added
returns-in_ok-push-in-11-clause-added c = record {
  event = emit_sequence_end;
  of_row = its_end c.in-11.is;
  added = ap (λ (e : Emitted). e.taken) c.in_ok-push-in-11.ensures.taken;
}

pub returns-in_ok-begin_mapping-in-12-clause-added : goal.returns-in_ok-begin_mapping-in-12-clause-added
returns-in_ok-begin_mapping-in-12-clause-added c = record {
  event = emit_mapping_start (option_map (λ t. t.now) c.in-Some.tag);
  of_row = mapping_begins_row c.args.texts.source.now c.args.texts.texts.now c.args.row.now _ c.in-12.is
      c.in-Some.ensures.tag;
  added = c.in_ok-begin_mapping-in-12.ensures;
}

pub returns-in_ok-push-in-13-clause-added : goal.returns-in_ok-push-in-13-clause-added
returns-in_ok-push-in-13-clause-added c = record {
  event = emit_mapping_end;
  of_row = the_end c.in-13.is;
  added = ap (λ (e : Emitted). e.taken) c.in_ok-push-in-13.ensures.taken;
}

pub returns-in_ok-push-in-14-clause-added : goal.returns-in_ok-push-in-14-clause-added
returns-in_ok-push-in-14-clause-added c = record {
  event = emit_document_start;
  of_row = a_document c.in-14.is;
  added = ap (λ (e : Emitted). e.taken) c.in_ok-push-in-14.ensures.taken;
}

pub returns-in_ok-push-in-15-clause-added : goal.returns-in_ok-push-in-15-clause-added
returns-in_ok-push-in-15-clause-added c = record {
  event = emit_document_end;
  of_row = its_last c.in-15.is;
  added = ap (λ (e : Emitted). e.taken) c.in_ok-push-in-15.ensures.taken;
}
