-- Which name a step picks: of a key, or of a variant.
use Rattle.std.specs.Prelude.{◌≡◌, ◌⊎◌, ℕ, List, Some, None, Bool, true, false, ◌&&◌}
use Rattle.serde.specs.Names.{Finds}
use Rattle.serde.specs.declared.name.Name.{Name}
use Rattle.yaml.specs.Around.{Standing, standing, next_tag, next_target, LeftFollowing, frame_here, Opens}
use Rattle.yaml.specs.Collections.{ReachesEntry}
use Rattle.yaml.specs.NodeSteps.{TookText}
use Rattle.yaml.specs.TagSteps.{TookMark}
use Rattle.yaml.specs.declared.frame.Kind.TheVariants as kind
use Rattle.yaml.specs.declared.leaf.Leaf.TheVariants as leaf
use Rattle.yaml.specs.declared.reader.Reader.{Reader}
use Rattle.yaml_with.specs.Asks.{asks_for_variants}

-- the next node's text was read as the name of a field or of a variant
abbrev pub TookName : List ℕ → Standing → Standing → Type 0
TookName name old new = TookText leaf.Identifier name old new

-- The reading stands before the next node, or before the one that it stands for, with its tag taken, within a variant.
pub record TakesTag (old new : Standing) : Type 0 where
  pub opened : Standing
  pub opens : Opens (frame_here kind.Tag old) old opened
  pub within : new ≡ record opened {
    spot = record opened.spot { place = next_target old; taken = true; begun = false };
    follows = new.follows;
  }
  pub follows : LeftFollowing old new.follows

-- the next node has a local tag of this name, which is taken
pub record TookTag (name : List ℕ) (old new : Standing) : Type 0 where
  pub tagged : next_tag old ≡ Some name
  pub takes : TakesTag old new

-- The next node has no such tag, and its text is the name. The reading stands behind it, within a variant that has no
-- content.
pub record TookBare (name : List ℕ) (old new : Standing) : Type 0 where
  pub untagged : next_tag old ≡ None
  pub behind : Standing
  pub took : TookName name old behind
  pub opens : Opens (frame_here kind.Named old) behind new

-- an entry came, and the text of its key is the name
pub record TookKey (name : List ℕ) (old new : Standing) : Type 0 where
  pub key : Standing
  pub reaches : ReachesEntry old key
  pub took : TookName name key new

-- the name was read of a variant, or of the next key
abbrev pub TookKeyOr : (variant : Bool) → List ℕ → Standing → Standing → Type 0
TookKeyOr true name old new = TookTag name old new ⊎ TookBare name old new
TookKeyOr false name old new = TookKey name old new

-- The text that was read as a name. The first key of a map that is only begun is a variant, where variants are asked
-- for. Or nothing but the tag of the node was asked for, by a name of its own, and was taken.
abbrev pub TookAs : (is_key : Bool) → List Name → List ℕ → Standing → Standing → Type 0
TookAs true names name old new =
    TookKeyOr (old.spot.begun && asks_for_variants names) name old new ⊎ TookMark names name old new
TookAs false names name old new = TookName name old new

-- A step read a name in this way, and the number is that of the first of the names for which it stands, or `usize::MAX`
-- where it stands for none.
pub record Chooses (Reads : List ℕ → Type 0) (names : List Name) (at : ℕ) : Type 0 where
  pub name : List ℕ
  pub reads : Reads name
  pub finds : Finds names name at

-- what a step picked, whatever its input is
abbrev pub Picks : Reader → List ℕ → (is_key : Bool) → List Name → ℕ → Reader → Type 0
Picks old input is_key names at new =
    Chooses (λ name. TookAs is_key names name (standing old) (standing new)) names at
