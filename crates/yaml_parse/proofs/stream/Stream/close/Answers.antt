-- The events lead behind a collection, into the one around it if there is one.
use Rattle.std.proofs.Common.{◌≡◌, ◌∷◌, ◌++◌, [], ◌∙◌, ap, sym, subst, Some, arith}
use Rattle.yaml_base.specs.PlainEvent.{event_of}
use Rattle.yaml_base.specs.Position.{Position}
use Rattle.yaml_base.specs.StreamMachine.{within}
use Rattle.yaml_base.specs.declared.event.Event.{Event}
use Rattle.yaml_parse.specs.declared.frame.Frame.{Frame}
use Rattle.yaml_parse.specs.Frames.{opens, state_of}
use Rattle.yaml_parse.specs.Shown.{IsShown}
use Rattle.yaml_parse.proofs.Streams.{goes_to, marks_to, moves_still, placed_to, reached_to, said_to, shown_there}
use Rattle.yaml_parse.proofs.Streams.{shown_to, left_none, left_open}
use Rattle.yaml_parse.proofs.stream.Stream.close.Goals as goal

pub invariant_of-self-in-Some : goal.invariant_of-self-in-Some
invariant_of-self-in-Some c =
    let old = c.args.self.now in
    let now = c.reach.new.self in
    let said = c.args.mark in
    let begins = c.in_ok-begins.begins in
    let x : Event × Position = (c.args.event, begins) in
    let grown : c.push_reserved.new.self.made.items ≡ now.events.made.items ++ x ∷ [] =
    c.push_reserved.ensures.made ∙ ap (λ es. es ++ x ∷ []) c.reserve.ensures.made in
    let shown =
    shown_there now.text.now (event_of c.args.event) said begins c.in_ok-begins.ensures.index
    (subst (λ t. IsShown t (event_of c.args.event) said) (sym c.in_ok-begins.ensures.kept.0) c.requires.shown) in
    let moves =
    moves_still old.phase now.phase old.outer.items now.outer.items (event_of c.args.event) (λ os. within (opens os))
    c.in_ok-begins.ensures.phase c.in_ok-begins.ensures.outer c.requires.moves in
    let index = c.in_ok-begins.ensures.index in
    let here = c.in_ok-begins.ensures.here in
    let around : Frame × Position = (c.in-Some.frame, c.in-Some.start) in
    record {
      ran = goes_to now.events.made.items c.push_reserved.new.self.made.items x (state_of now.phase now.outer.items) _
          grown
          now.ran moves
          ∙ ap Some (left_open now.outer.items c.pop.new.self.items around c.in-Some.ensures.items);
      shown = shown_to now.text.now now.events.made.items c.push_reserved.new.self.made.items x grown now.shown shown;
      plain = said_to now.events.made.items c.push_reserved.new.self.made.items x grown now.plain c.requires.plain;
      marks = marks_to now.text.now now.events.made.items c.push_reserved.new.self.made.items x now.reached.index grown
          now.marks
          now.last (omega (arith, index, here)) (omega (arith, index, c.in_ok-begins.ensures.within));
      last = reached_to now.events.made.items c.push_reserved.new.self.made.items x now.reached.index now.reached.index
          grown
          now.last (omega (arith, index, here)) (omega (arith, index, here));
      places = placed_to now.text.now now.events.made.items c.push_reserved.new.self.made.items x grown now.places
          c.in_ok-begins.ensures.place;
      here = now.here;
    }

pub invariant_of-self-in-None : goal.invariant_of-self-in-None
invariant_of-self-in-None c =
    let old = c.args.self.now in
    let now = c.reach.new.self in
    let said = c.args.mark in
    let begins = c.in_ok-begins.begins in
    let x : Event × Position = (c.args.event, begins) in
    let grown : c.push_reserved.new.self.made.items ≡ now.events.made.items ++ x ∷ [] =
    c.push_reserved.ensures.made ∙ ap (λ es. es ++ x ∷ []) c.reserve.ensures.made in
    let shown =
    shown_there now.text.now (event_of c.args.event) said begins c.in_ok-begins.ensures.index
    (subst (λ t. IsShown t (event_of c.args.event) said) (sym c.in_ok-begins.ensures.kept.0) c.requires.shown) in
    let moves =
    moves_still old.phase now.phase old.outer.items now.outer.items (event_of c.args.event) (λ os. within (opens os))
    c.in_ok-begins.ensures.phase c.in_ok-begins.ensures.outer c.requires.moves in
    let index = c.in_ok-begins.ensures.index in
    let here = c.in_ok-begins.ensures.here in
    record {
      ran = goes_to now.events.made.items c.push_reserved.new.self.made.items x (state_of now.phase now.outer.items) _
          grown
          now.ran moves
          ∙ ap Some (left_none now.outer.items (omega (arith, now.outer.ok, c.in-None.ensures.cases.0)));
      shown = shown_to now.text.now now.events.made.items c.push_reserved.new.self.made.items x grown now.shown shown;
      plain = said_to now.events.made.items c.push_reserved.new.self.made.items x grown now.plain c.requires.plain;
      marks = marks_to now.text.now now.events.made.items c.push_reserved.new.self.made.items x now.reached.index grown
          now.marks
          now.last (omega (arith, index, here)) (omega (arith, index, c.in_ok-begins.ensures.within));
      last = reached_to now.events.made.items c.push_reserved.new.self.made.items x now.reached.index now.reached.index
          grown
          now.last (omega (arith, index, here)) (omega (arith, index, here));
      places = placed_to now.text.now now.events.made.items c.push_reserved.new.self.made.items x grown now.places
          c.in_ok-begins.ensures.place;
      here = now.here;
    }
