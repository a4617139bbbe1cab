-- Steps that read a name and look for it.
use Rattle.std.proofs.Common.{◌≡◌, ◌∙◌, ℕ, List, Result, Ok, Err, Some, IfOk, true, false, ap, subst, sym}
use Rattle.std.proofs.Common.{inl, inr, refl, rules}
use Rattle.serde.specs.Names.{Finds}
use Rattle.serde.specs.declared.name.Name.{Name}
use Rattle.yaml.specs.Around.{Standing, next_tag}
use Rattle.yaml.specs.NodeSteps.{Took, TookText}
use Rattle.yaml.specs.Picks.{Chooses, TakesTag, TookAs, TookKeyOr, TookName}
use Rattle.yaml.specs.TagSteps.{TakesMark}
use Rattle.yaml_value.specs.TagMark.{tag_mark}
use Rattle.yaml.specs.declared.leaf.Leaf.{Leaf}
use Rattle.yaml.specs.declared.leaf.Leaf.TheVariants as leaf
use Rattle.yaml_base.specs.declared.error.Cause.{Cause}
use Rattle.yaml_shape.specs.DataView.{data_of, text_data_of}
use Rattle.yaml_shape.specs.TextView.{text_bytes}
use Rattle.yaml_shape.specs.declared.data.Data.{Data, Str, the_lemmas}
use Rattle.yaml_shape.specs.declared.text.Text.{Text}
use Rattle.yaml_shape.specs.declared.text.Text.TheVariants.{Borrowed, Owned}

took_bytes : (l : Leaf) (text : Text) (old new : Standing) → Took l (text_data_of text) old new
    → TookText l (text_bytes text) old new
took_bytes l (Borrowed s) old new t = (true, t)
took_bytes l (Owned s) old new t = (false, t)

data_of-Str : (text : Text) → data_of (Str text) ≡ text_data_of text
data_of-Str text = search (rules, the_lemmas)

-- the name that was found is the text that was read
pub named : (old mid new : Standing) (names : List Name) (key : List ℕ) (d : Data) (text : Text)
    (found : Result ℕ Cause) → Took leaf.Identifier (data_of d) old mid → d ≡ Str text → key ≡ text_bytes text
    → new ≡ mid → IfOk found (λ at. Finds names key at)
    → IfOk found (λ at. Chooses (λ name. TookName name old new) names at)
named old mid new names key d text (Ok at) t of is same f = record {
  name = key;
  reads = subst (λ name. TookName name old new) (sym is)
      (subst (λ r. TookText leaf.Identifier (text_bytes text) old r) (sym same)
      (took_bytes leaf.Identifier text old mid
      (subst (λ x. Took leaf.Identifier x old mid) (ap data_of of ∙ data_of-Str text) t)));
  finds = f;
}
named old mid new names key d text (Err cause) t of is same f = tt

-- the tag that was found is the one that was taken
pub picked_tag : (old mid new : Standing) (names : List Name) (at : ℕ) (name : List ℕ) → next_tag old ≡ Some name
    → Finds names name at → mid ≡ old → TakesTag mid new → Chooses (λ name. TookKeyOr true name old new) names at
picked_tag old mid new names at name tagged f same takes = record {
  name = name;
  reads = inl (record { tagged = tagged; takes = subst (λ r. TakesTag r new) same takes });
  finds = f;
}

-- the tag was asked for by its own name, and taken
pub picked_mark : (old new : Standing) (names : List Name) → Finds names tag_mark 0 → TakesMark old new
    → Chooses (λ name. TookAs true names name old new) names 0
picked_mark old new names finds takes = record {
  name = tag_mark;
  reads = inr (record { asked = finds; mark = refl; takes = takes });
  finds = finds;
}
