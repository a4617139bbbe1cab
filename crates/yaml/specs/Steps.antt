-- What the steps of a reading read: each what a node of the document means under a shape, or a way into a collection
-- or out of it.
use Rattle.std.specs.Prelude.{◌≡◌, ◌⊎◌, ℕ, List}
use Rattle.std.specs.Float.{binary32, binary64}
use Rattle.serde.specs.Event.{Event, boolean, signed, unsigned, single, double, character, text, octets}
use Rattle.serde.specs.Event.{nothing, seq_begins, seq_ends, map_begins, map_ends, key_begins}
use Rattle.yaml.specs.Around.{Standing, standing}
use Rattle.yaml.specs.Collections.{BeginsSeq, BeginsMap, once_begun, ReachesEntry, LeavesSeq, LeavesMap}
use Rattle.yaml.specs.FloatSteps.{TookFloat}
use Rattle.yaml.specs.NodeSteps.{Took, TookText, TookNothing}
use Rattle.yaml.specs.PlaceSteps.{TookPlace}
use Rattle.yaml.specs.TagSteps.{TookTagName}
use Rattle.yaml.specs.declared.leaf.Leaf.TheVariants as leaf
use Rattle.yaml.specs.declared.reader.Reader.{Reader}
use Rattle.yaml_shape.specs.PlainData.{bool_data, char_data, signed_data, unsigned_data}

-- What a step read. Bytes are read of the name of a tag or of a place alone, and what is only written never.
abbrev pub ReadsBy : Event → Standing → Standing → Type 0
ReadsBy (boolean b) old new = Took leaf.Bool (bool_data b) old new
ReadsBy (signed z) old new = Took leaf.I64 (signed_data z) old new ⊎ Took leaf.I128 (signed_data z) old new
ReadsBy (unsigned n) old new = Took leaf.U64 (unsigned_data n) old new ⊎ Took leaf.U128 (unsigned_data n) old new
ReadsBy (single x) old new = TookFloat binary32 x old new
ReadsBy (double x) old new = TookFloat binary64 x old new
ReadsBy (character c) old new = Took leaf.Char (char_data c) old new
ReadsBy (text s) old new = TookText leaf.Str s old new
ReadsBy (octets bytes) old new = TookTagName bytes old new ⊎ TookPlace bytes old new
ReadsBy nothing old new = TookNothing leaf.Unit old new ⊎ TookNothing leaf.Option old new
ReadsBy (seq_begins size) old new = BeginsSeq old new
ReadsBy seq_ends old new = LeavesSeq old new
ReadsBy (map_begins size) old new = (new ≡ once_begun old) ⊎ BeginsMap old new
ReadsBy map_ends old new = LeavesMap old new
ReadsBy key_begins old new = ReachesEntry old new
ReadsBy _ old new = ⊥

-- what a step read, whatever its input is
abbrev pub StepReads : Reader → List ℕ → Event → Reader → Type 0
StepReads old input e new = ReadsBy e (standing old) (standing new)

-- a step only looked
abbrev pub Stays : Reader → Reader → Type 0
Stays old new = standing new ≡ standing old
