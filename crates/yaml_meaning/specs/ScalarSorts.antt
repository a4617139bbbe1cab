-- Which of seven rows a scalar is in, the first that applies: what its bytes, its tag and its style make of it.
use Rattle.std.specs.Prelude.{ℕ, List, [], ◌∷◌, Option, Some, None, Bool, true, false, not, ◌&&◌, ◌||◌, ◌==◌}
use Rattle.std.specs.Prelude.{if◌then◌else◌, bytes_eq}
use Rattle.std.specs.Option.{is_none}
use Rattle.std.specs.Str.{is_utf8}
use Rattle.yaml_base.specs.PlainEvent.{PlainScalar}
use Rattle.yaml_base.specs.declared.event.ScalarStyle.{ScalarStyle}
use Rattle.yaml_base.specs.declared.event.ScalarStyle.TheVariants.{Plain, Literal}
use Rattle.yaml_meaning.specs.CoreTags.{bool_tag, int_tag, float_tag, null_tag}

-- the rows, in their order
pub data PlainSort : Type 0 where
  -- the bytes are not UTF-8
  without_text : PlainSort
  -- the tag is that of booleans, of integers, of floats or of null, and not taken
  tagged_bool : PlainSort
  tagged_int : PlainSort
  tagged_float : PlainSort
  tagged_null : PlainSort
  -- the scalar is plain, and has no tag that says what it is: its text does
  by_its_text : PlainSort
  -- all else is a string
  as_string : PlainSort

-- the scalar stands without quotes
abbrev pub is_plain : ScalarStyle → Bool
is_plain Plain = true
is_plain _ = false

-- the scalar stands as a literal block
abbrev pub is_literal : ScalarStyle → Bool
is_literal Literal = true
is_literal _ = false

-- the tag is this one
abbrev pub is_tag_named : (name : List ℕ) → Option (List ℕ) → Bool
is_tag_named name None = false
is_tag_named name (Some tag) = bytes_eq tag name

-- the tag begins with `!`
abbrev pub is_local : Option (List ℕ) → Bool
is_local None = false
is_local (Some []) = false
is_local (Some (c ∷ cs)) = c == 33

-- the scalar has this tag, and it is not taken
abbrev pub has_untaken : (name : List ℕ) → (taken : Bool) → PlainScalar → Bool
has_untaken name taken s = not taken && is_tag_named name s.tag

-- the scalar is plain, and it has no tag, a taken one, or one that begins with `!`
abbrev pub is_resolved : (taken : Bool) → PlainScalar → Bool
is_resolved taken s = is_plain s.style && (taken || (is_none s.tag || is_local s.tag))

-- the row of a scalar; the flag says whether its tag is taken
abbrev pub sort_of : (taken : Bool) → PlainScalar → PlainSort
sort_of taken s =
    if not (is_utf8 s.text) then without_text
    else (if has_untaken bool_tag taken s then tagged_bool
    else (if has_untaken int_tag taken s then tagged_int
    else (if has_untaken float_tag taken s then tagged_float
    else (if has_untaken null_tag taken s then tagged_null
    else (if is_resolved taken s then by_its_text else as_string)))))
