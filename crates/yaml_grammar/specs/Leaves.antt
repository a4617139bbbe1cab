-- Leaves: aliases and scalars, but for blocks of lines.
use Rattle.std.specs.Prelude.{ℕ, suc, ◌+◌, Bool, false, ◌==◌, if◌then◌else◌, List, Option, Some, None, drop}
use Rattle.std.specs.Prelude.{slice_range}
use Rattle.std.specs.Option.{option_map}
use Rattle.yaml_base.specs.QuotedLines.{none}
use Rattle.yaml_base.specs.declared.event.ScalarStyle.{ScalarStyle}
use Rattle.yaml_base.specs.declared.event.ScalarStyle.TheVariants as style
use Rattle.yaml_grammar.specs.Bytes.{at}
use Rattle.yaml_grammar.specs.Folding.{Rest, nothing_passed}
use Rattle.yaml_grammar.specs.Names.{Names, is_unnamed, name_end}
use Rattle.yaml_grammar.specs.Nodes.{Node, alias, mark, scalar_at}
use Rattle.yaml_grammar.specs.Plain.{Context, is_flow, plain_at}
use Rattle.yaml_grammar.specs.Quotes.{double_rest, single_rest}

-- an alias, or a text in a style
pub data Leaf : Type 0 where
  to_anchor : List ℕ → Leaf
  in_style : ScalarStyle → List ℕ → Leaf

-- a text in a style, and the place behind it
abbrev pub styled : ScalarStyle → (place : ℕ) → Rest → Option (Leaf × ℕ)
styled how place rest = option_map (λ r. (in_style how r.1, place + r.0)) rest

-- an alias whose name begins here, and the place behind it
abbrev pub alias_at : List ℕ → (flow : Bool) → ℕ → Option (Leaf × ℕ)
alias_at text flow i = option_map (λ end. (to_anchor (slice_range text i end), end)) (name_end text flow i)

-- the leaf that begins here, and the place behind it
abbrev pub leaf_at : List ℕ → Context → ℕ → Option (Leaf × ℕ)
leaf_at text context i =
    if at text i == 42 then alias_at text (is_flow context) (suc i)
    else if at text i == 39 then
    styled style.SingleQuoted (suc i) (single_rest false false nothing_passed (drop (suc i) text))
    else if at text i == 34 then
    styled style.DoubleQuoted (suc i) (double_rest none false nothing_passed (drop (suc i) text))
    else styled style.Plain i (plain_at text context i)

-- the node that begins here and is this leaf behind its names; an alias has none
abbrev pub leaf_node : List ℕ → (i : ℕ) → Names → Leaf → (end : ℕ) → Option Node
leaf_node text i names (to_anchor anchor) end = if is_unnamed names then Some (alias (mark text i) anchor) else None
leaf_node text i names (in_style how said) end = Some (scalar_at text i names how said end)
