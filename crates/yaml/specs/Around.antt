-- Where a reading stands: the next node, and what is open around it.
use Rattle.std.specs.Prelude.{◌≡◌, ℕ, zero, suc, ◌+◌, ◌<◌, ◌==◌, if◌then◌else◌, List, map, slice_get, Option}
use Rattle.std.specs.Prelude.{Some, None}
use Rattle.std.specs.Option.{option_and_then, option_map, option_map_or}
use Rattle.yaml_base.specs.PlainDocEvent.{PlainDocEvent}
use Rattle.yaml_base.specs.PlainDocument.{PlainDocument}
use Rattle.yaml.specs.declared.frame.Frame.{Frame}
use Rattle.yaml.specs.declared.frame.Kind.{Kind}
use Rattle.yaml.specs.declared.frame.Spot.{Spot}
use Rattle.yaml.specs.declared.reader.Reader.{Reader}
use Rattle.yaml_load.specs.Ends.{ends_of}
use Rattle.yaml_meaning.specs.NodeTags.{untaken_name}
use Rattle.yaml_read.specs.Places.{text_place}

-- in which document, within what, where, and how many aliases may still be followed
pub record Standing : Type 0 where
  pub document : PlainDocument
  pub frames : List Frame
  pub spot : Spot
  pub follows : ℕ

-- of a reading
abbrev pub standing : Reader → Standing
standing r = record { document = r.document.now; frames = r.frames.items; spot = r.spot; follows = r.follows }

-- the event in a place
abbrev pub event_at : PlainDocument → ℕ → Option PlainDocEvent
event_at document place = option_map (λ e. e.0) (slice_get document.events place)

-- the place of the node in a place, or of the one that it stands for as an alias
abbrev pub target_of : PlainDocument → ℕ → ℕ
target_of document place = option_map_or (λ e. text_place e place) (event_at document place) place

-- the place behind the node in a place
abbrev pub place_behind_node : PlainDocument → ℕ → ℕ
place_behind_node document place =
    option_map_or (λ end. end + 1) (slice_get (ends_of (map (λ e. e.0) document.events)) place) place

-- where the next node begins, or the one that it stands for
abbrev pub next_target : Standing → ℕ
next_target r = target_of r.document r.spot.place

-- the event that it begins with
abbrev pub next_event : Standing → Option PlainDocEvent
next_event r = event_at r.document (next_target r)

-- the name of its tag, where that is local and not taken
abbrev pub next_tag : Standing → Option (List ℕ)
next_tag r = option_and_then (untaken_name r.spot.taken) (next_event r)

-- going to it leaves so many follows: one less, where it is behind an alias
abbrev pub LeftFollowing : Standing → (left : ℕ) → Type 0
LeftFollowing r left = left + (if next_target r == r.spot.place then 0 else 1) ≡ r.follows

-- the uppermost of so many frames
abbrev pub top_frame : ℕ → List Frame → Option Frame
top_frame zero frames = None
top_frame (suc n) frames = slice_get frames n

-- what is innermost open
abbrev pub innermost_frame : Standing → Option Frame
innermost_frame r = top_frame r.spot.top r.frames

-- its kind
abbrev pub open_kind : Standing → Option Kind
open_kind r = option_map (λ f. f.kind) (innermost_frame r)

-- the frame of a kind around the next node
abbrev pub frame_here : Kind → Standing → Frame
frame_here k r = record {
  kind = k;
  start = next_target r;
  at = r.spot.place;
  back = place_behind_node r.document r.spot.place;
  outer = r.spot.top;
}

-- A frame was put around what comes next, and those around it are as they were.
pub record Opens (frame : Frame) (old new : Standing) : Type 0 where
  pub inside : innermost_frame new ≡ Some frame
  pub around : (k : ℕ) (f : Frame) → k < old.spot.top → slice_get old.frames k ≡ Some f
      → slice_get new.frames k ≡ Some f
  pub rest : new ≡ record old { frames = new.frames; spot = record old.spot { top = new.spot.top } }
