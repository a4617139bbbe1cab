-- Trees, and the texts that are printed of them.
use Rattle.std.specs.Prelude.{◌≡◌, ℕ, List, [], ◌∷◌, ◌++◌, codes, None, Some}
use Rattle.yaml_base.specs.EmitTree.{EmitNode, emit_scalar_node, emit_sequence_node, emit_mapping_node}
use Rattle.yaml_base.specs.EmitTree.{no_emit_nodes, emit_node, no_emit_pairs, emit_pair}
use Rattle.yaml_base.specs.declared.emitter.AskedStyle.{AskedStyle}
use Rattle.yaml_base.specs.declared.emitter.AskedStyle.TheVariants as asked
use Rattle.yaml_emit.specs.StreamTexts.{emit_stream_events, stream_text}
use Rattle.yaml_printed.specs.Printable.{MayBePrinted}

-- a text without a tag, in a style that is asked for
abbrev pub asked_text : AskedStyle → List ℕ → EmitNode
asked_text style text = emit_scalar_node None text style

-- in any style
abbrev pub plain_text : List ℕ → EmitNode
plain_text = asked_text asked.Any

-- scalars in each style, as values of keys in lines
abbrev pub scalars : EmitNode
scalars =
    emit_mapping_node None (emit_pair (plain_text (codes "name")) (asked_text asked.Plain (codes "web 2"))
    (emit_pair (plain_text (codes "on")) (asked_text asked.SingleQuoted (codes "yes"))
    (emit_pair (plain_text (codes "it's")) (asked_text asked.SingleQuoted (codes "it's\n\nso"))
    (emit_pair (plain_text (codes "a: b")) (plain_text (codes "\tx\\"))
    (emit_pair (plain_text (codes "")) (plain_text (codes ""))
    (emit_pair (plain_text (codes "clip")) (asked_text asked.Literal (codes "one\n\n  two\n"))
    (emit_pair (plain_text (codes "strip")) (asked_text asked.Literal (codes " in"))
    (emit_pair (plain_text (codes "keep")) (asked_text asked.Literal (codes "end\n\n")) no_emit_pairs))))))))

-- collections in each other, with tags, without parts, and as keys
abbrev pub collections : EmitNode
collections =
    emit_sequence_node None (emit_node (emit_sequence_node None (emit_node (plain_text (codes "x")) (emit_node
    (emit_sequence_node None no_emit_nodes) no_emit_nodes)))
    (emit_node (emit_mapping_node None (emit_pair (emit_sequence_node None
    (emit_node (plain_text (codes "k")) no_emit_nodes))
    (emit_sequence_node None (emit_node (plain_text (codes "v")) no_emit_nodes))
    (emit_pair (plain_text (codes "own")) (emit_sequence_node None (emit_node (plain_text (codes "w")) no_emit_nodes))
    no_emit_pairs)))
    (emit_node (emit_mapping_node (Some (codes "!m")) (emit_pair (emit_mapping_node None no_emit_pairs)
    (emit_scalar_node (Some (codes "tag:yaml.org,2002:int")) (codes "7") asked.Any)
    (emit_pair (plain_text (codes "s")) (emit_sequence_node (Some (codes "x y")) (emit_node (plain_text (codes "z"))
    no_emit_nodes)) no_emit_pairs))) no_emit_nodes)))

-- a document of nothing
abbrev pub nothing_at_all : EmitNode
nothing_at_all = plain_text (codes "")

-- the text of the three
abbrev pub printed_three : List ℕ
printed_three =
    codes "name: web 2\n"
    ++ codes "on: 'yes'\n"
    ++ codes "it's: 'it''s\n"
    ++ codes "\n"
    ++ codes "\n"
    ++ codes "  so'\n"
    ++ codes "'a: b': \"\\tx\\\\\"\n"
    ++ codes "'':\n"
    ++ codes "clip: |\n"
    ++ codes "  one\n"
    ++ codes "\n"
    ++ codes "    two\n"
    ++ codes "strip: |2-\n"
    ++ codes "   in\n"
    ++ codes "keep: |+\n"
    ++ codes "  end\n"
    ++ codes "\n"
    ++ codes "---\n"
    ++ codes "- - x\n"
    ++ codes "  - []\n"
    ++ codes "- ? - k\n"
    ++ codes "  : - v\n"
    ++ codes "  own:\n"
    ++ codes "  - w\n"
    ++ codes "- !m\n"
    ++ codes "  {}: !!int 7\n"
    ++ codes "  s: !<x%20y>\n"
    ++ codes "  - z\n"
    ++ codes "---\n"

-- the text is printed of these, and they are among the trees of which the text stands
pub record ThreeArePrinted : Type 0 where
  pub text : stream_text (scalars ∷ collections ∷ nothing_at_all ∷ []) ≡ printed_three
  pub may : MayBePrinted (emit_stream_events (scalars ∷ collections ∷ nothing_at_all ∷ []))
