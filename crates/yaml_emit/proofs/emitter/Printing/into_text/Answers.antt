-- What was taken is a stream with this text, or none.
use Rattle.std.proofs.Common.{sym, ◌∙◌, subst, None, Some, string_bytes}
use Rattle.yaml_emit.specs.Emitting.{StandsFor, held_events}
use Rattle.yaml_emit.specs.LayoutMachine.{laid, printed_from}
use Rattle.yaml_emit.specs.declared.emitter.Progress.TheVariants.{Going, Wrong}
use Rattle.yaml_emit.proofs.EmitterLaws.{ends_wrong, none_so, text_so}
use Rattle.yaml_emit.proofs.StreamLaws.{no_stream, whole_text}
use Rattle.yaml_emit.proofs.emitter.Printing.into_text.Goals as goal

pub returns-in-Wrong-clause-no_stream : goal.returns-in-Wrong-clause-no_stream
returns-in-Wrong-clause-no_stream c = λ known taken h.
    let wrong : StandsFor (Wrong c.in-Wrong.place) taken c.args.self.count (laid c.args.self.layout)
    (held_events c.args.self.held) =
    subst (λ p. StandsFor p taken c.args.self.count (laid c.args.self.layout) (held_events c.args.self.held))
    c.in-Wrong.is h in
    none_so taken wrong.1

pub returns-in-Err-clause-no_stream : goal.returns-in-Err-clause-no_stream
returns-in-Err-clause-no_stream c = λ known taken h.
    let going : StandsFor Going taken c.args.self.count (laid c.args.self.layout) (held_events c.args.self.held) =
    subst (λ p. StandsFor p taken c.args.self.count (laid c.args.self.layout) (held_events c.args.self.held))
    c.in-Going.is h in
    no_stream taken (text_so taken (held_events c.args.self.held) (laid c.args.self.layout) None going.1
    (ends_wrong (printed_from (Some (laid c.args.self.layout)) (held_events c.args.self.held))
    (laid c.take_last.new.layout) c.in-Err.stop c.in-Err.ensures (c.fault.ensures.out_of_place known)))

pub returns-in-Some-clause-printed : goal.returns-in-Some-clause-printed
returns-in-Some-clause-printed c = λ taken h.
    let going : StandsFor Going taken c.args.self.count (laid c.args.self.layout) (held_events c.args.self.held) =
    subst (λ p. StandsFor p taken c.args.self.count (laid c.args.self.layout) (held_events c.args.self.held))
    c.in-Going.is h in
    whole_text taken (string_bytes c.in-Some.text)
    (text_so taken (held_events c.args.self.held) (laid c.args.self.layout)
    (Some (string_bytes c.in-Some.text)) going.1 (c.in-Ok.ensures ∙ sym c.in-Some.ensures))

pub returns-clause-no_stream : goal.returns-clause-no_stream
returns-clause-no_stream c = λ known taken h.
    let going : StandsFor Going taken c.args.self.count (laid c.args.self.layout) (held_events c.args.self.held) =
    subst (λ p. StandsFor p taken c.args.self.count (laid c.args.self.layout) (held_events c.args.self.held))
    c.in-Going.is h in
    no_stream taken (text_so taken (held_events c.args.self.held) (laid c.args.self.layout) None going.1
    (c.in-Ok.ensures ∙ sym c.in-None.ensures))
