-- A stream of one document that was written reads back.
use Rattle.std.proofs.Common.{◌≡◌, ℕ, List, [], ◌∷◌, ◌++◌, Some, None, refl}
use Rattle.std.proofs.Common.{ap, ◌∙◌, subst, arith, append-nil}
use Rattle.std.proofs.lemmas.List.{append_assoc}
use Rattle.std.specs.Prelude.{IsTrue}
use Rattle.yaml_base.specs.DocTree.{DocNode}
use Rattle.yaml_base.specs.EmitEvents.{emit_stream_start, emit_stream_end, emit_document_start}
use Rattle.yaml_base.specs.EmitEvents.{emit_document_end}
use Rattle.yaml_base.specs.EmitTree.{EmitNode, emit_node_events, emit_document_events}
use Rattle.yaml_base.specs.PlainEvent.{PlainEvent, stream_end, document_end}
use Rattle.yaml_base.specs.Renders.{Renders}
use Rattle.yaml_base.specs.Stream.{stream_events}
use Rattle.yaml_base.specs.Tree.{Node, node_events}
use Rattle.yaml_shape.specs.PlainData.{PlainData}
use Rattle.yaml_shape.specs.PlainShape.{PlainShape, shape_at}
use Rattle.yaml_shape.specs.Validity.{IsValidSchema}
use Rattle.yaml_read.specs.Documents.{Input}
use Rattle.yaml_read.specs.MarkedEvents.{events_in}
use Rattle.yaml_read.specs.Resolved.{resolved}
use Rattle.yaml_read.specs.TreeReader.{PlainLimits}
use Rattle.serde_yaml.specs.Headline.{one_document}
use Rattle.serde_yaml.specs.TypedWrites.{written_stream}
use Rattle.yaml_round.specs.Fits.{Fits}
use Rattle.yaml_shape.specs.Held.{IsHeld, is_table}
use Rattle.yaml_printed.specs.Nestings.{nestings}
use Rattle.yaml_round.specs.ReadsBack.{ComesBack, ReadsBack}
use Rattle.yaml_round.proofs.DataReturn.{data_returns}
use Rattle.yaml_round.proofs.RenderedTrees.{first_of, comes, IsRendered}

-- the tree that a stream of one document is, and that comes back of it
record DocumentComes (e : EmitNode) (events : List PlainEvent) : Type 0 where
  pub root : Node
  pub tree : DocNode
  pub stream : events ≡ stream_events (root ∷ [])
  pub resolves : resolved root ≡ Some tree
  pub rendered : IsRendered e tree

-- the events of the stream, one after another
in_a_row : (e : EmitNode)
    → written_stream e
    ≡ emit_stream_start ∷ emit_document_start
    ∷ (emit_node_events e ++ emit_document_end ∷ emit_stream_end ∷ [])
in_a_row e =
    ap (λ l. emit_stream_start ∷ (l ++ emit_stream_end ∷ [])) (append-nil (emit_document_events e))
    ∙ ap (λ l. emit_stream_start ∷ emit_document_start ∷ l)
    (append_assoc (emit_node_events e) (emit_document_end ∷ []) (emit_stream_end ∷ []))

-- nothing comes back of nothing
pub nothing_left : (events : List PlainEvent) → Renders [] events → events ≡ []
nothing_left [] h = refl
nothing_left (e ∷ events) h = absurd h

document_comes : (e : EmitNode) (events : List PlainEvent) → Renders (written_stream e) events → DocumentComes e events
document_comes e events h =
    let h = subst (λ l. Renders l events) (in_a_row e) h in
    let ends = emit_document_end ∷ emit_stream_end ∷ [] in
    let a = first_of emit_stream_start (emit_document_start ∷ (emit_node_events e ++ ends)) events h in
    let b = first_of emit_document_start (emit_node_events e ++ ends) a.later a.renders in
    let c = comes e ends b.later b.renders in
    let f = first_of emit_document_end (emit_stream_end ∷ []) c.later c.renders in
    let g = first_of emit_stream_end [] f.later f.renders in
    let end : c.later ≡ document_end ∷ stream_end ∷ [] =
    f.split ∙ (λ i. f.is i ∷ (g.split ∙ (λ j. g.is j ∷ nothing_left g.later g.renders j)) i) in
    record {
      root = c.root;
      tree = c.tree;
      stream = a.split ∙ (λ i. a.is i ∷ (b.split ∙ (λ j. b.is j ∷ (c.split ∙ ap (node_events c.root) end) j)) i);
      resolves = c.resolves _ 0;
      rendered = c.rendered;
    }

-- it reads back
pub reads_back : (limits : PlainLimits) (table : List PlainShape) (id : ℕ) (s : PlainShape) (d : PlainData)
    (input : Input) → IsValidSchema table → IsTrue (is_table table) → shape_at table id ≡ Some s → IsHeld d
    → Fits limits.nesting table id d → ComesBack table id d input → ReadsBack limits table s input d
reads_back limits table id s d input valid named is held fits back =
    let c = document_comes back.root (events_in input) back.rendered in
    let r = data_returns table c.tree valid named d id s None back.root c.tree is fits.typed held fits.returns
    back.is_written c.rendered in
    record {
      found = r.found;
      reads = one_document c.root c.tree c.stream c.resolves (record {
        nestings = nestings d;
        followed = 0;
        means = r.means;
        nests_within = fits.nests_within;
        follows_within = omega arith;
      });
      same = r.same;
    }
