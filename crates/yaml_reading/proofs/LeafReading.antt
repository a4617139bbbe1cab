-- What holds of names, leaves and blocks of lines.
use Rattle.std.proofs.Common.{◌≡◌, ℕ, ◌≤◌, Bool, true, false, List, Some}
use Rattle.std.proofs.lemmas.Bool.{and_parts}
use Rattle.yaml_grammar.specs.BlockTexts.{block_at}
use Rattle.yaml_grammar.specs.Blocks.{ends_key}
use Rattle.yaml_grammar.specs.Brackets.{has_colon}
use Rattle.yaml_grammar.specs.Gaps.{ends_its_line}
use Rattle.yaml_grammar.specs.Leaves.{Leaf, leaf_at}
use Rattle.yaml_grammar.specs.Names.{Names, names_at}
use Rattle.yaml_grammar.specs.Plain.{Context, as_key, by_columns}
use Rattle.yaml_reading.proofs.Forward.{block_ahead, leaf_ahead, names_ahead}
use Rattle.yaml_reading.proofs.KeyLines.{key_as_leaf, key_ends_no_line, key_goes_on}

pub names_forward : (text : List ℕ) (flow : Bool) (i j : ℕ) (names : Names) → names_at text flow i ≡ Some (names, j)
    → i ≤ j
names_forward text flow i j names h = names_ahead text flow i (names, j) h

pub leaf_forward : (text : List ℕ) (context : Context) (i j : ℕ) (leaf : Leaf)
    → leaf_at text context i ≡ Some (leaf, j) → i ≤ j
leaf_forward text context i j leaf h = leaf_ahead text context i (leaf, j) h

pub block_forward : (text : List ℕ) (least i j : ℕ) (said : List ℕ) → block_at text least i ≡ Some (j, said) → i ≤ j
block_forward text least i j said h = block_ahead text least i (j, said) h

pub key_same : (text : List ℕ) (least i q e : ℕ) (leaf : Leaf) → i ≤ e → ends_key text i e ≡ true
    → leaf_at text as_key q ≡ Some (leaf, e) → leaf_at text (by_columns least) q ≡ Some (leaf, e)
key_same text least i q e leaf le ends h =
    key_as_leaf text least q e leaf (key_goes_on text i e le (and_parts (has_colon text i e) _ ends).0) h

pub key_in_line : (text : List ℕ) (i e : ℕ) → i ≤ e → ends_key text i e ≡ true → ends_its_line text e ≡ false
key_in_line text i e le ends = key_ends_no_line text i e le ends
