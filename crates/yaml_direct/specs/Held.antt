-- What a reader holds for the node that it reads: what stands before it.
use Rattle.std.specs.Prelude.{ℕ, ◌≡◌, Bool, List, Some}
use Rattle.yaml_direct.specs.declared.reader.Reader.{Reader}
use Rattle.yaml_grammar.specs.Names.{Names, tag_at, unnamed}

-- the anchor and the tag that a reader holds
abbrev pub names_of : Reader → Names
names_of r = record { anchor = r.names.anchor; tag = r.names.tag }

-- it holds neither
abbrev pub IsUnnamed : Reader → Type 0
IsUnnamed r = names_of r ≡ unnamed

-- a tag that stands in a place and ends before another is held too
pub record ReadsTag (old new : Reader) (flow : Bool) (from to : ℕ) : Type 0 where
  pub tag : List ℕ
  pub read : tag_at old.text.now flow from ≡ Some (tag, to)
  pub held : names_of new ≡ record { anchor = old.names.anchor; tag = Some tag }
