-- Which events are printed so that their text stands in the grammar for them, and what that is.
use Rattle.std.specs.Prelude.{◌≡◌, ◌≢◌, ℕ, suc, ◌==◌, ◌&&◌, not, Bool, true, false, List, [], ◌∷◌, Option, None, Some}
use Rattle.std.specs.Prelude.{length}
use Rattle.std.specs.Prelude.{nat_eq}
use Rattle.std.specs.List.{list_any}
use Rattle.std.specs.Str.{IsUtf8}
use Rattle.yaml_base.specs.EmitEvents.{PlainEmit}
use Rattle.yaml_base.specs.EmitTree.{EmitNode, emit_scalar_node, emit_sequence_node, emit_mapping_node}
use Rattle.yaml_base.specs.EmitTree.{EmitNodes, no_emit_nodes, emit_node, EmitPairs, no_emit_pairs, emit_pair}
use Rattle.yaml_base.specs.MarkedEvents.{events_in}
use Rattle.yaml_base.specs.Renders.{Renders}
use Rattle.yaml_base.specs.declared.emitter.AskedStyle.{AskedStyle}
use Rattle.yaml_base.specs.declared.emitter.AskedStyle.TheVariants as asked
use Rattle.yaml_emit.specs.Places.{root_place}
use Rattle.yaml_emit.specs.StreamTexts.{emit_stream_events, is_simple_key, node_text}
use Rattle.yaml_emit.specs.Styles.{fits_plain}
use Rattle.yaml_emit.specs.declared.open.Lead.TheVariants.{Fresh}
use Rattle.yaml_grammar.specs.Documents.{Stands, most_nestings}
use Rattle.yaml_grammar.specs.Nodes.{Document, events_of}

-- a tag, if there is one, is a text that is not empty and has no character 0
pub data IsTag : Option (List ℕ) → Type 0 where
  no_tag : IsTag None
  a_tag : {c : ℕ} {cs : List ℕ} → IsUtf8 (c ∷ cs) → list_any (nat_eq 0) (c ∷ cs) ≡ false → IsTag (Some (c ∷ cs))

-- the style may be asked for the text, as a key in a line or not: plain only where it may stand so
abbrev pub may_ask : AskedStyle → (key : Bool) → (text : List ℕ) → Bool
may_ask asked.Any key text = true
may_ask asked.Plain key text = fits_plain text && not (key && length text == 0)
may_ask asked.SingleQuoted key text = true
may_ask asked.Literal key text = true

mutual
  -- a node that may be printed, as a key in a line or not, within so many open collections
  pub data IsPrintable : (nestings : ℕ) → (key : Bool) → EmitNode → Type 0 where
    a_scalar : {d : ℕ} {key : Bool} {tag : Option (List ℕ)} {text : List ℕ} {style : AskedStyle} → IsTag tag
        → IsUtf8 text → may_ask style key text ≡ true → IsPrintable d key (emit_scalar_node tag text style)
    a_sequence : {d : ℕ} {key : Bool} {tag : Option (List ℕ)} {ns : EmitNodes} → IsTag tag → ArePrintable d ns
        → IsPrintable (suc d) key (emit_sequence_node tag ns)
    a_mapping : {d : ℕ} {key : Bool} {tag : Option (List ℕ)} {ps : EmitPairs} → IsTag tag → PairsPrintable d ps
        → IsPrintable (suc d) key (emit_mapping_node tag ps)

  pub data ArePrintable : (nestings : ℕ) → EmitNodes → Type 0 where
    no_items : {d : ℕ} → ArePrintable d no_emit_nodes
    an_item : {d : ℕ} {n : EmitNode} {ns : EmitNodes} → IsPrintable d false n → ArePrintable d ns
        → ArePrintable d (emit_node n ns)

  pub data PairsPrintable : (nestings : ℕ) → EmitPairs → Type 0 where
    no_pairs : {d : ℕ} → PairsPrintable d no_emit_pairs
    a_pair : {d : ℕ} {k v : EmitNode} {ps : EmitPairs} → IsPrintable d (is_simple_key k) k → IsPrintable d false v
        → PairsPrintable d ps → PairsPrintable d (emit_pair k v ps)

-- each may be printed
pub data RootsPrintable : List EmitNode → Type 0 where
  no_roots : RootsPrintable []
  a_root : {root : EmitNode} {roots : List EmitNode} → IsPrintable most_nestings false root → RootsPrintable roots
      → RootsPrintable (root ∷ roots)

-- of the first, more is printed than the end of its line
abbrev pub FirstIsSomething : List EmitNode → Type 0
FirstIsSomething [] = Unit {0}
FirstIsSomething (root ∷ roots) = node_text (root_place Fresh) root ≢ 10 ∷ []

-- the events are a stream that may be printed
pub record MayBePrinted (events : List PlainEmit) : Type 0 where
  pub roots : List EmitNode
  pub stream : events ≡ emit_stream_events roots
  pub each : RootsPrintable roots
  pub first : FirstIsSomething roots

-- the text has documents, and their events are what those that were written may come back as
pub record StandsFor (events : List PlainEmit) (text : List ℕ) : Type 0 where
  pub documents : List Document
  pub stand : Stands text documents
  pub same : Renders events (events_in (events_of text documents))
