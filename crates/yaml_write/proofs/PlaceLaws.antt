-- Nodes that are placed where something is open, or nothing.
use Rattle.std.proofs.Common.{◌≡◌, ◌≢◌, ◌++◌, ◌∷◌, ◌<◌, [], List, length, Result, Ok, Err, refl, ap, ◌∙◌, arith}
use Rattle.std.proofs.Common.{append_assoc, reverse}
use Rattle.std.proofs.lemmas.List.{append-nil, length-map, length-reverse}
use Rattle.yaml_base.specs.EmitEvents.{PlainEmit, emit_document_start, emit_document_end}
use Rattle.yaml_base.specs.EmitTree.{EmitNode, emit_node_events}
use Rattle.yaml_base.specs.declared.error.Cause.{Cause}
use Rattle.yaml_write.specs.Adds.{Adds}
use Rattle.yaml_write.specs.CollectionView.{open_collection, open_collections}
use Rattle.yaml_write.specs.Collections.{OpenCollection}
use Rattle.yaml_write.specs.Outcomes.{Outcome, made}
use Rattle.yaml_write.specs.Writing.{Writing, part_events, with_both, with_begun, with_node}
use Rattle.yaml_write.specs.WrittenEvents.{pair_events}
use Rattle.yaml_write.specs.declared.open.Open.{Open}
use Rattle.yaml_write.proofs.AddLaws.{adds-between}

-- as many collections are open as lie in memory
pub length-open_collections : (os : List Open) → length (open_collections os) ≡ length os
length-open_collections os = length-map (reverse os) open_collection ∙ length-reverse os

part-inside : (opened : List OpenCollection) (node : EmitNode) → 0 < length opened → part_events opened node
    ≡ emit_node_events node
part-inside [] node h = absurd (omega arith)
part-inside (o ∷ outer) node h = append-nil (emit_node_events node)

-- a node was added where something is open
pub adds-inside : {X : Type 0} (opened : List OpenCollection) (given : Outcome) (old new : List PlainEmit)
    (r : Result X Cause) → 0 < length opened
    → Adds emit_node_events given old new r → Adds (part_events opened) given old new r
adds-inside opened given old new (Err cause) h e = e
adds-inside opened (Err c) old new (Ok x) h e = absurd (cc)
adds-inside opened (Ok node) old new (Ok x) h e = ap (λ es. Ok (old ++ es)) (part-inside opened node h) ∙ e

-- a node was added in a document of its own
pub adds-alone : {X : Type 0} (opened : List OpenCollection) (given : Outcome) (old begun mid new : List PlainEmit)
    (r : Result X Cause) → length opened ≡ 0
    → made (λ e. old ++ e ∷ []) (Ok emit_document_start) ≡ Ok begun
    → made (λ part. begun ++ emit_node_events part) given ≡ Ok mid
    → Adds (λ e. e ∷ []) (Ok emit_document_end) mid new r → Adds (part_events opened) given old new r
adds-alone (o ∷ outer) given old begun mid new r h s e a = absurd (omega arith)
adds-alone [] (Err c) old begun mid new r h s e a = absurd (cc)
adds-alone [] (Ok node) old begun mid new r h s e a =
    adds-between (λ (n : EmitNode). n) emit_node_events (part_events []) emit_document_start emit_document_end
    (λ n. refl) (Ok node) old begun mid new r s e a

-- what was added stands behind what was there
pub added-is : {B : Type 0} (view : B → List PlainEmit) (part : B) (old new : List PlainEmit)
    → made (λ p. old ++ view p) (Ok part) ≡ Ok new → old ++ view part ≡ new
added-is view part old new e = cc

-- what was added is placed
pub placed-one : (w : Writing) (given : Outcome) (new : List PlainEmit)
    → made (λ node. w.events ++ part_events w.opened node) given ≡ Ok new
    → made (with_node w) given ≡ Ok (record { events = new; opened = with_begun w.opened })
placed-one w (Err c) new e = absurd (cc)
placed-one w (Ok node) new e =
    let is : w.events ++ part_events w.opened node ≡ new = cc in
    ap (λ es. Ok (record { events = es; opened = with_begun w.opened })) is

-- two nodes, where something is open
both : (events : List PlainEmit) (opened : List OpenCollection) (a b : EmitNode) → opened ≢ []
    → with_both (record { events = events; opened = opened }) (a, b)
    ≡ record { events = events ++ (emit_node_events a ++ emit_node_events b); opened = with_begun (with_begun opened) }
both events [] a b some = absurd (some refl)
both events (o ∷ outer) a b some =
    let first = emit_node_events a in
    let second = emit_node_events b in
    ap (λ es. record { events = es; opened = with_begun (with_begun (o ∷ outer)) })
    (ap (λ es. (events ++ es) ++ (second ++ [])) (append-nil first)
    ∙ (ap (λ es. (events ++ first) ++ es) (append-nil second) ∙ append_assoc events first second))

-- both were added, and then placed
pub placed-both : (w : Writing) (given : Result (EmitNode × EmitNode) Cause) (new : List PlainEmit) → w.opened ≢ []
    → made (λ part. w.events ++ pair_events part) given ≡ Ok new
    → made (with_both w) given ≡ Ok (record { events = new; opened = with_begun (with_begun w.opened) })
placed-both w (Err c) new some e = absurd (cc)
placed-both w (Ok p) new some e =
    let is : w.events ++ pair_events p ≡ new = cc in
    ap Ok (both w.events w.opened p.0 p.1 some
    ∙ ap (λ es. record { events = es; opened = with_begun (with_begun w.opened) }) is)
