-- What was copied so far is the texts so far.
use Rattle.std.proofs.Common.{◌≡◌, take}
use Rattle.yaml_base.proofs.words.WordList.copy.Given as goal

abbrev pub invariant-loop-words : goal.invariant-loop-words
invariant-loop-words l = l.entries.items ≡ take l.words-index l.words-items
