-- Where the events of a text come from: the direct parser, as far as it takes the text, or its tokens.
use Rattle.std.specs.Prelude.{◌≡◌, Bool, List, false, true, ℕ}
use Rattle.yaml_base.specs.MarkedEvents.{plain_events, plain_marked}
use Rattle.yaml_base.specs.Position.{Position}
use Rattle.yaml_base.specs.Stream.{IsStream}
use Rattle.yaml_base.specs.declared.event.Event.{Event}
use Rattle.yaml_checked.specs.OfText.{AreTextsOwn, IsOfText, MayBeLeft}
use Rattle.yaml_documents.specs.declared.source.Source.{Source}
use Rattle.yaml_documents.specs.declared.source.Source.TheVariants.{Tape, Tokens}
use Rattle.yaml_documents.specs.inner.Places.{IsPlaceIn, given_before}
use Rattle.yaml_reading.specs.Refused.{NothingStands}

-- The text, the events that were handed out, and those before the place that may be gone back to; whether they come
-- from the direct parser, whether that left the text, and whether it was said that no more come.
pub record PlainSource : Type 0 where
  pub text : List ℕ
  pub given : List (Event × Position)
  pub back : List (Event × Position)
  pub by_tape : Bool
  pub left : Bool
  pub over : Bool

abbrev pub text_of : Source → List ℕ
text_of (Tape taped) = taped.events.text
text_of (Tokens events) = events.text

abbrev pub given_of : Source → List (Event × Position)
given_of (Tape taped) = taped.events.given
given_of (Tokens events) = events.given

abbrev pub back_of : Source → List (Event × Position)
back_of (Tape taped) = given_before taped.back
back_of (Tokens events) = events.given

abbrev pub is_tape : Source → Bool
is_tape (Tape taped) = true
is_tape (Tokens events) = false

abbrev pub left_of : Source → Bool
left_of (Tape taped) = taped.left
left_of (Tokens events) = false

-- the place to go back to lies in the text
abbrev pub IsBackIn : Source → Type 0
IsBackIn (Tape taped) = IsPlaceIn taped.events.text taped.back
IsBackIn (Tokens events) = Unit {0}

-- where it was said that no more events come, none do, and where documents stand in the text all were theirs
abbrev pub IsOver : Source → Type 0
IsOver (Tape taped) = taped.left ≡ false → IsStream (plain_events taped.events.given)
    × AreTextsOwn taped.events.text (plain_marked taped.events.given)
IsOver (Tokens events) = events.over ≡ true

-- Where documents stand in the text, the direct parser gives their events, and does not leave it; so tokens are asked
-- for the events of other texts alone, and of those of 2^32 bytes.
abbrev pub IsOfItsText : Source → Type 0
IsOfItsText (Tape taped) = IsOfText taped.events × (taped.left ≡ true → NothingStands taped.events.text)
IsOfItsText (Tokens events) = MayBeLeft events.text

-- the text stays, and where its events come from, with the place to go back to
pub record Stays (old new : PlainSource) : Type 0 where
  pub text : new.text ≡ old.text
  pub by_tape : new.by_tape ≡ old.by_tape
  pub back : old.by_tape ≡ true → new.back ≡ old.back
