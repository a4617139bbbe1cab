-- A float that a node's text is was read.
use Rattle.std.proofs.Common.{◌≡◌, ◌∙◌, sym, Option, Some, ℕ, List}
use Rattle.std.specs.Float.Ieee.{Float, Format}
use Rattle.std.specs.Prelude.{IsTrue}
use Rattle.yaml.specs.Around.{standing}
use Rattle.yaml.specs.FloatSteps.{TookFloat, asks_for_float}
use Rattle.yaml.specs.NodeSteps.{TookText}
use Rattle.yaml.specs.declared.leaf.Leaf.TheVariants as leaf
use Rattle.yaml.specs.declared.reader.Reader.{Reader}
use Rattle.yaml_float.specs.Float.{float_of}

pub took_float : (f : Format) (x : Float) (old new : Reader) (s : List ℕ) (found : Option Float)
    → IsTrue (asks_for_float (standing old)) → TookText leaf.Str s (standing old) (standing new)
    → found ≡ float_of f s → found ≡ Some x → TookFloat f x (standing old) (standing new)
took_float f x old new s found asks took is some =
    record { asks = asks; text = s; took = took; is_float = sym is ∙ some }
