-- Steps that a value of any kind takes at a node with a local tag: it asks for the tag, and reads the tag's name.
use Rattle.std.specs.Prelude.{◌≡◌, ℕ, List, Bool, true, false, ◌&&◌, Option, Some}
use Rattle.std.specs.Option.{option_and_then}
use Rattle.serde.specs.Names.{Finds}
use Rattle.serde.specs.declared.name.Name.{Name}
use Rattle.yaml.specs.Around.{Standing, next_event, next_tag, next_target, LeftFollowing, frame_here, Opens}
use Rattle.yaml.specs.declared.frame.Kind.TheVariants as kind
use Rattle.yaml_base.specs.LocalName.{local_name}
use Rattle.yaml_base.specs.PlainDocEvent.{PlainDocEvent}
use Rattle.yaml_meaning.specs.NodeTags.{tag_in}
use Rattle.yaml_value.specs.TagMark.{tag_mark}

-- the name of the local tag of the node that begins with an event, taken or not
abbrev pub tag_name_in : PlainDocEvent → Option (List ℕ)
tag_name_in event = option_and_then local_name (tag_in event)

-- the name of a tag that was taken comes next
abbrev pub at_mark : Standing → Bool
at_mark r = r.spot.begun && r.spot.taken

-- A map was begun at a node with a local tag. The reading stands before the node, or before the one that it stands for,
-- with the tag taken, and its name comes next.
pub record TakesMark (old new : Standing) : Type 0 where
  pub begun : old.spot.begun ≡ true
  pub tag : List ℕ
  pub tagged : next_tag old ≡ Some tag
  pub opened : Standing
  pub opens : Opens (frame_here kind.Tag old) old opened
  pub within : new ≡ record opened {
    spot = record opened.spot { place = next_target old; taken = true; begun = true };
    follows = new.follows;
  }
  pub follows : LeftFollowing old new.follows

-- of the names that were asked for the mark is the first, and the tag was taken for it
pub record TookMark (names : List Name) (name : List ℕ) (old new : Standing) : Type 0 where
  pub asked : Finds names tag_mark 0
  pub mark : name ≡ tag_mark
  pub takes : TakesMark old new

-- the name of the tag that was taken was read, and the node without the tag comes next
pub record TookTagName (name : List ℕ) (old new : Standing) : Type 0 where
  pub marked : at_mark old ≡ true
  pub named : option_and_then tag_name_in (next_event old) ≡ Some name
  pub goes_on : new ≡ record old { spot = record old.spot { begun = false } }
