-- The innermost collection of what has begun is closed.
use Rattle.std.proofs.Common.{◌≡◌, ◌++◌, sym, ap, ◌∙◌, subst, arith}
use Rattle.yaml_write.specs.Begun.{IsBegun}
use Rattle.yaml_write.specs.CollectionView.{open_collections}
use Rattle.yaml_write.specs.Opened.{CanEnd}
use Rattle.yaml_write.specs.Writing.{Writing, closing_events, outer_of}
use Rattle.yaml_write.proofs.BegunLaws.{closed, last_gone}
use Rattle.yaml_write.proofs.PlaceLaws.{added-is}
use Rattle.yaml_write.proofs.ser.Serializer.close.Goals as goal

pub invariant_of-self-2 : goal.invariant_of-self-2
invariant_of-self-2 c =
    let before : Writing =
    record { events = c.self.inside.written; opened = open_collections c.self.inside.opened.items } in
    let is : c.args.self.now ≡ before = sym c.self.view_is in
    let can : CanEnd before.opened = subst (λ (w : Writing). CanEnd w.opened) is c.requires in
    let events : before.events ++ closing_events before.opened ≡ c.add_end.new.out =
    ap (λ os. before.events ++ closing_events (open_collections os)) (sym c.deref.ensures.value)
    ∙ added-is (λ events. events) (closing_events (open_collections c.deref.result.now)) before.events c.add_end.new.out
    c.in_ok-add_end.ensures in
    let rest : outer_of before.opened ≡ open_collections c.pop-closed.new.self.items =
    last_gone c.self.inside.opened.items c.pop-closed.new.self.items c.pop-closed.result c.pop-closed.ensures.items
    (λ e. let none = rw e at c.pop-closed.ensures.cases in omega (arith, none.0)) in
    subst IsBegun (λ k. record { events = events k; opened = rest k }) (closed before can c.self.invariant)
