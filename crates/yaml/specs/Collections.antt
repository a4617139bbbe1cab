-- Steps into collections and out of them.
use Rattle.std.specs.Prelude.{◌≡◌, ◌≢◌, ◌⊎◌, ℕ, suc, ◌+◌, min, List, Option, Some, Bool, true, false, ⊤}
use Rattle.yaml.specs.Around.{Standing, event_at, next_target, next_event, LeftFollowing, innermost_frame, open_kind}
use Rattle.yaml.specs.Around.{frame_here, Opens}
use Rattle.yaml.specs.NodeSteps.{Took}
use Rattle.yaml.specs.declared.frame.Frame.{Frame}
use Rattle.yaml.specs.declared.frame.Kind.{Kind}
use Rattle.yaml.specs.declared.frame.Kind.TheVariants as kind
use Rattle.yaml.specs.declared.leaf.Leaf.{Leaf}
use Rattle.yaml.specs.declared.leaf.Leaf.TheVariants as leaf
use Rattle.yaml_base.specs.PlainDocEvent.{PlainDocEvent, sequence_begins, sequence_ends, mapping_begins, mapping_ends}
use Rattle.yaml_shape.specs.PlainData.{PlainData, seq_data, map_data, no_items, no_entries}

-- the event begins such a collection
abbrev pub Begins : Kind → PlainDocEvent → Type 0
Begins kind.Items e = (tag : Option (List ℕ)) × (e ≡ sequence_begins tag)
Begins kind.Entries e = (tag : Option (List ℕ)) × (e ≡ mapping_begins tag)
Begins _ e = ⊥

-- The next node, or the one that it stands for, is such a collection, and the reading stands within it, before its
-- first part.
pub record GoesInto (k : Kind) (old new : Standing) : Type 0 where
  pub event : PlainDocEvent
  pub stands : next_event old ≡ Some event
  pub begins : Begins k event
  pub opened : Standing
  pub opens : Opens (frame_here k old) old opened
  pub into : new ≡ record opened {
    spot = record {
      place = suc (next_target old);
      top = opened.spot.top;
      nestings = new.spot.nestings;
      taken = false;
      begun = false;
    };
    follows = new.follows;
  }
  pub nestings : suc new.spot.nestings ≡ old.spot.nestings
  pub follows : LeftFollowing old new.follows

-- The next node means this empty collection, and the reading stands behind it, in what has no part.
pub record TakesEmpty (l : Leaf) (d : PlainData) (old new : Standing) : Type 0 where
  pub behind : Standing
  pub took : Took l d old behind
  pub opens : Opens (frame_here kind.Empty old) behind new

-- a sequence was gone into
abbrev pub BeginsSeq : Standing → Standing → Type 0
BeginsSeq old new = GoesInto kind.Items old new ⊎ TakesEmpty leaf.Seq (seq_data no_items) old new

-- a mapping was gone into
abbrev pub BeginsMap : Standing → Standing → Type 0
BeginsMap old new = GoesInto kind.Entries old new ⊎ TakesEmpty leaf.Map (map_data no_entries) old new

-- a mapping is gone into by the next step
abbrev pub once_begun : Standing → Standing
once_begun r = record r { spot = record r.spot { begun = true } }

-- what is open is a mapping in which another entry comes
pub record AtEntry (r : Standing) : Type 0 where
  pub around : open_kind r ≡ Some kind.Entries
  pub event : PlainDocEvent
  pub comes : event_at r.document r.spot.place ≡ Some event
  pub is_entry : event ≢ mapping_ends

-- a mapping that was begun is gone into
abbrev pub IsWithin : (begun : Bool) → Standing → Standing → Type 0
IsWithin true old new = BeginsMap old new
IsWithin false old new = new ≡ old

-- an entry comes; a mapping that was begun is gone into first
pub record ReachesEntry (old new : Standing) : Type 0 where
  pub within : IsWithin old.spot.begun old new
  pub entry : AtEntry new

-- the collection ends here: a sequence, or one without a part
abbrev pub EndsSeq : Kind → Option PlainDocEvent → Type 0
EndsSeq kind.Items e = e ≡ Some sequence_ends
EndsSeq kind.Empty e = ⊤
EndsSeq _ e = ⊥

-- the same of a mapping, or of what is around the content of a variant
abbrev pub EndsMap : Kind → Option PlainDocEvent → Type 0
EndsMap kind.Items e = ⊥
EndsMap kind.Entries e = e ≡ Some mapping_ends
EndsMap _ e = ⊤

-- how many nestings are left behind what has a kind, of so many within it
abbrev pub nestings_behind : Kind → ℕ → ℕ
nestings_behind kind.Items n = min (n + 1) 255
nestings_behind kind.Entries n = min (n + 1) 255
nestings_behind _ n = n

-- behind what a frame is around
abbrev pub behind_frame : Frame → Standing → Standing
behind_frame frame r = record r {
  spot = record {
    place = frame.back;
    top = frame.outer;
    nestings = nestings_behind frame.kind r.spot.nestings;
    taken = false;
    begun = false;
  };
}

-- what was innermost open has ended, and the reading stands behind it, in what is around it
pub record LeavesCollection (Ends : Kind → Option PlainDocEvent → Type 0) (old new : Standing) : Type 0 where
  pub frame : Frame
  pub inside : innermost_frame old ≡ Some frame
  pub ends : Ends frame.kind (event_at old.document old.spot.place)
  pub behind : new ≡ behind_frame frame old

-- the sequence has ended
abbrev pub LeavesSeq : Standing → Standing → Type 0
LeavesSeq old new = LeavesCollection EndsSeq old new

-- the mapping, or the variant, has ended; a mapping that was begun is gone into first
pub record LeavesMap (old new : Standing) : Type 0 where
  pub inside : Standing
  pub within : IsWithin old.spot.begun old inside
  pub leaves : LeavesCollection EndsMap inside new
