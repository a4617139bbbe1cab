-- The text that a `Tag` has.
use Rattle.std.specs.Prelude.{◌≡◌, ℕ, List, true, ◌&&◌, string_bytes}
use Rattle.std.proofs.lemmas.Str.{IsUtf8-string_bytes, is_utf8-from_IsUtf8}
use Rattle.yaml_tree.specs.Tag.{is_tag}
use Rattle.yaml_tree.specs.Valid.{TagText}
use Rattle.yaml_tree.specs.declared.tag.Tag.{Tag}

-- the text of a tag
abbrev pub tag_text : Tag → List ℕ
tag_text t = string_bytes t.text

-- it is a text that a tag can have
pub is_tag-tag_text : (t : Tag) → is_tag (tag_text t) ≡ true
is_tag-tag_text t = λ i. t.filled i && is_utf8-from_IsUtf8 (tag_text t) (IsUtf8-string_bytes t.text) i

-- the text, as a tag is seen in a value
abbrev pub text_of_tag : Tag → TagText
text_of_tag t = (tag_text t, is_tag-tag_text t)
