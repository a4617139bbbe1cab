-- The comments of a text whose events are known: each begins with a `#` at the start of a line or behind a blank, which
-- stands in no scalar's own text, and ends with its line.
use Rattle.std.specs.Prelude.{ℕ, ◌==◌, if◌then◌else◌, List, [], ◌∷◌, ◌++◌}
use Rattle.yaml_base.specs.Position.{Position}
use Rattle.yaml_base.specs.declared.event.Event.{Event}
use Rattle.yaml_layout.specs.OwnText.{ends_line, is_blank, outside}
use Rattle.yaml_layout.specs.declared.comments.Place.{Place}
use Rattle.yaml_layout.specs.declared.comments.Place.TheVariants.{Amid, Comment, Gap}

-- where the byte behind one stands
abbrev pub next_in_line : Place → ℕ → Place
next_in_line Comment b = Comment
next_in_line Gap b = if b == 0x23 then Comment else if is_blank b then Gap else Amid
next_in_line Amid b = if is_blank b then Gap else Amid

abbrev pub next : Place → ℕ → Place
next place b = if ends_line b then Gap else next_in_line place b

-- what a byte adds to the comments, behind blanks that were held back: they are no part of a comment that ends there
abbrev pub shown : Place → (blanks : List ℕ) → ℕ → List ℕ
shown Comment blanks b = if ends_line b then 10 ∷ [] else if is_blank b then [] else blanks ++ b ∷ []
shown Gap blanks b = if b == 0x23 then b ∷ [] else []
shown Amid blanks b = []

-- the blanks that are held back behind a byte
abbrev pub held : Place → (blanks : List ℕ) → ℕ → List ℕ
held Comment blanks b = if ends_line b then [] else if is_blank b then blanks ++ b ∷ [] else []
held Gap blanks b = []
held Amid blanks b = []

-- the line feed behind a comment that the text ends with
abbrev pub last_feed : Place → List ℕ
last_feed Comment = 10 ∷ []
last_feed Gap = []
last_feed Amid = []

-- the comments of bytes that stand outside of scalars: each without the blanks at its end, and with a line feed behind
-- it
abbrev pub comments_from : Place → (blanks : List ℕ) → List ℕ → List ℕ
comments_from place blanks [] = last_feed place
comments_from place blanks (b ∷ bytes) =
    shown place blanks b ++ comments_from (next place b) (held place blanks b) bytes

-- the comments of a text whose events these are, in their order
abbrev pub comments_of : List ℕ → List (Event × Position) → List ℕ
comments_of text events = comments_from Gap [] (outside text 0 events)
