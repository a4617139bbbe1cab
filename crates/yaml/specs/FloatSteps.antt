-- A step that reads a float.
use Rattle.std.specs.Prelude.{◌≡◌, ℕ, List, Bool, false, Some, IsTrue, codes}
use Rattle.std.specs.Option.{option_map_or}
use Rattle.std.specs.Float.Ieee.{Float, Format}
use Rattle.yaml.specs.Around.{Standing, next_event}
use Rattle.yaml.specs.NodeSteps.{TookText}
use Rattle.yaml.specs.declared.leaf.Leaf.TheVariants as leaf
use Rattle.yaml_base.specs.PlainDocEvent.{PlainDocEvent, a_scalar}
use Rattle.yaml_float.specs.Float.{float_of}
use Rattle.yaml_meaning.specs.ScalarShapes.{is_plain_or_tagged_literal}

-- the event is a scalar that is asked for a float: a plain one, or a literal one with the float's tag, not yet taken
abbrev pub is_asked_for_float : (taken : Bool) → PlainDocEvent → Bool
is_asked_for_float taken (a_scalar s) = is_plain_or_tagged_literal (codes "tag:yaml.org,2002:float") taken s
is_asked_for_float taken _ = false

-- the next node, or the one that it stands for, is such a scalar
abbrev pub asks_for_float : Standing → Bool
asks_for_float r = option_map_or (λ e. is_asked_for_float r.spot.taken e) (next_event r) false

-- a float was read: the one of this format that the node's text is, and the node asks for one
pub record TookFloat (f : Format) (x : Float) (old new : Standing) : Type 0 where
  pub asks : IsTrue (asks_for_float old)
  pub text : List ℕ
  pub took : TookText leaf.Str text old new
  pub is_float : float_of f text ≡ Some x
