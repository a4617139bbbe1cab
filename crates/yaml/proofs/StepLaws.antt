-- Steps of a reading, one behind the other.
use Rattle.std.proofs.Common.{◌≡◌, ◌∙◌, ℕ, List, Bool, Ok, ap, subst}
use Rattle.yaml.specs.Around.{standing}
use Rattle.yaml.specs.Leaves.{leaf_shape, leaf_table}
use Rattle.yaml.specs.NodeSteps.{Gave, Took, TookText, gone_on, node_at}
use Rattle.yaml.specs.declared.leaf.Leaf.{Leaf}
use Rattle.yaml.specs.declared.reader.Reader.{Reader}
use Rattle.yaml_read.specs.NodeReads.{NodeGives}
use Rattle.yaml_read.specs.Places.{Way}
use Rattle.yaml_read.specs.declared.node_place.NodePlace.{NodePlace}
use Rattle.yaml_shape.specs.PlainData.{PlainData, text_data}

-- what a node gives under a leaf's shape, it gave
pub gave : (leaf : Leaf) (reader : Reader) (d : PlainData) (at behind : NodePlace) (way : Way)
    → at ≡ node_at (standing reader)
    → NodeGives leaf_table (leaf_shape leaf) reader.document.now way at behind (Ok d)
    → Gave leaf (standing reader) d behind
gave leaf reader d at behind way is gives = record {
  way = way;
  gives = subst (λ p. NodeGives leaf_table (leaf_shape leaf) reader.document.now way p behind (Ok d)) is gives;
}

-- a node that gave data after a look, and that the reading goes on behind, was taken
pub took : (leaf : Leaf) (old mid new : Reader) (d : PlainData) (behind : NodePlace) → standing mid ≡ standing old
    → Gave leaf (standing mid) d behind → standing new ≡ gone_on behind (standing mid)
    → Took leaf d (standing old) (standing new)
took leaf old mid new d behind same g is = record {
  behind = behind;
  gave = subst (λ r. Gave leaf r d behind) same g;
  goes_on = is ∙ ap (gone_on behind) same;
}

-- a look behind it changes nothing of that
pub took_stays : (leaf : Leaf) (old mid new : Reader) (d : PlainData) → Took leaf d (standing old) (standing mid)
    → standing new ≡ standing mid → Took leaf d (standing old) (standing new)
took_stays leaf old mid new d t same =
    record { behind = t.behind; gave = t.gave; goes_on = same ∙ t.goes_on }

-- a text was taken, whether it is lent or not
pub took_text : (leaf : Leaf) (old new : Reader) (lent : Bool) (s : List ℕ)
    → Took leaf (text_data lent s) (standing old) (standing new) → TookText leaf s (standing old) (standing new)
took_text leaf old new lent s t = (lent, t)
