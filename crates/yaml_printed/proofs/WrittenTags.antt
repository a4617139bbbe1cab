-- The tags that data is written with are texts, and not empty; without a character 0 they are tags.
use Rattle.std.proofs.Common.{◌≡◌, ℕ, zero, suc, Bool, true, false, ◌==◌, if◌then◌else◌, refl, arith, List, [], ◌∷◌}
use Rattle.std.proofs.Common.{Option, None, Some, nat_eq}
use Rattle.std.proofs.lemmas.Bool.{and_parts}
use Rattle.std.proofs.lemmas.Bool.Decides.{Decides-eqb}
use Rattle.std.proofs.lemmas.Str.{IsUtf8-append, IsUtf8-from_ascii, IsUtf8-from_is_utf8, IsUtf8-past_char, encode_ascii}
use Rattle.std.specs.List.{list_any}
use Rattle.std.specs.Str.{IsAscii, IsUtf8, is_utf8}
use Rattle.yaml_grammar.proofs.PlainLaws.{not_true}
use Rattle.yaml_tree.specs.Tag.{is_filled, is_tag, tag_name}
use Rattle.yaml_write.specs.LocalTags.{local_tag, value_tag}
use Rattle.yaml_printed.specs.Printable.{IsTag, no_tag, a_tag}
use Rattle.yaml_printed.specs.WholeTags.{is_whole_tag}

-- a tag, if there is one, is a text that is not empty
pub data IsText : Option (List ℕ) → Type 0 where
  no_text : IsText None
  a_text : {c : ℕ} {cs : List ℕ} → IsUtf8 (c ∷ cs) → IsText (Some (c ∷ cs))

pub tag_of_text : {tag : Option (List ℕ)} → IsText tag → is_whole_tag tag ≡ true → IsTag tag
tag_of_text no_text w = no_tag
tag_of_text (a_text {c = c} {cs = cs} u) w = a_tag u (not_true (list_any (nat_eq 0) (c ∷ cs)) w)

-- `!` is a text, and before a text it makes one
low_mark : IsAscii (33 ∷ [])
low_mark zero = omega arith
low_mark (suc i) = omega arith

mark_text : IsUtf8 (33 ∷ [])
mark_text = IsUtf8-from_ascii (33 ∷ []) low_mark

pub local_is_text : (name : List ℕ) → IsUtf8 name → IsText (Some (local_tag name))
local_is_text [] u = a_text mark_text
local_is_text (c ∷ cs) u = by (c == 33)
  where
    by : (b : Bool) → IsText (Some (if b then c ∷ cs else 33 ∷ c ∷ cs))
    by true = a_text u
    by false = a_text (IsUtf8-append (33 ∷ []) (c ∷ cs) mark_text u)

-- what follows an ASCII byte in a text is a text
name_is_text : (s : List ℕ) → IsUtf8 s → IsUtf8 (tag_name s)
name_is_text [] u = u
name_is_text (c ∷ []) u = u
name_is_text (c ∷ d ∷ cs) u = by (c == 33) refl
  where
    by : (b : Bool) → (c == 33) ≡ b → IsUtf8 (if b then d ∷ cs else c ∷ d ∷ cs)
    by true e = IsUtf8-past_char (c ∷ d ∷ cs) (d ∷ cs) 33 u
        (rw ((Decides-eqb c 33).0 e, encode_ascii 33 (omega arith)) refl)
    by false e = u

pub value_is_text : (s : List ℕ) → is_tag s ≡ true → IsText (Some (value_tag s))
value_is_text s h =
    local_is_text (tag_name s) (name_is_text s (IsUtf8-from_is_utf8 s (and_parts (is_filled s) (is_utf8 s) h).1))
