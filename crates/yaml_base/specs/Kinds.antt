-- What a plain text is: null, a boolean, an integer, a float or a string.
use Rattle.std.specs.Prelude.{◌≡◌, ◌≢◌, ℕ, ◌-◌, ◌^◌, ◌<◌, Bool, false, IsTrue, not, ◌==◌, ◌&&◌, ◌||◌, codes, nat_eq}
use Rattle.std.specs.Prelude.{if◌then◌else◌, List, [], ◌∷◌, length, Some, ℤ, pos, neg_ℤ, ◌≤ℤ◌}
use Rattle.std.specs.Char.{is_ascii_digit}
use Rattle.std.specs.List.{list_any}
use Rattle.std.specs.Option.{option_map_or}
use Rattle.yaml_base.specs.Floats.{IsFloatText, HasLeadingZero, is_float, has_leading_zero}
use Rattle.yaml_base.specs.Integers.{Base, IsInteger, IsIntegerText, IsUnsignedText, integer_of, unsigned_of, in_range}
use Rattle.yaml_base.specs.Integers.{up_to}
use Rattle.yaml_base.specs.PlainWords.{is_null_word, boolean_of}
use Rattle.yaml_base.specs.Signs.{minus}
use Rattle.yaml_base.specs.declared.resolver.kind.Kind.{Kind}
use Rattle.yaml_base.specs.declared.resolver.kind.Kind.TheVariants.{Null, Bool as Boolean, Unsigned, Signed, Float, Str}

-- the text is empty or a word for null
abbrev pub is_null_text : List ℕ → Bool
is_null_text text = length text == 0 || is_null_word text

-- the text is neither null nor a boolean nor an integer of 128 bits
pub record IsOther (text : List ℕ) : Type 0 where
  pub no_null : ¬ (IsTrue (is_null_text text))
  pub no_boolean : (value : Bool) → boolean_of text ≢ Some value
  pub no_integer : (z : ℤ) → neg_ℤ (pos (2 ^ 127)) ≤ℤ z → z ≤ℤ pos (2 ^ 128 - 1) → ¬ (IsIntegerText text z)

-- the text is of the kind
abbrev pub HasKind : List ℕ → Kind → Type 0
HasKind text Null = IsTrue (is_null_text text)
HasKind text (Boolean value) = boolean_of text ≡ Some value
HasKind text (Unsigned n) = IsUnsignedText text n × (n < 2 ^ 128)
HasKind text (Signed z) = ((base : Base) × IsInteger minus base text z) × (neg_ℤ (pos (2 ^ 127)) ≤ℤ z)
HasKind text Float = IsOther text × (IsFloatText text × ¬ (HasLeadingZero text))
HasKind text Str = IsOther text × ¬ (IsFloatText text × ¬ (HasLeadingZero text))

-- the one kind of the text
abbrev pub kind_of : List ℕ → Kind
kind_of text =
    if is_null_text text then Null else
    option_map_or (λ value. Boolean value) (boolean_of text)
    (option_map_or (λ n. Unsigned n) (up_to (2 ^ 128 - 1) (unsigned_of text))
    (option_map_or (λ z. Signed z) (in_range (neg_ℤ (pos (2 ^ 127))) (pos (2 ^ 127 - 1)) (integer_of text))
    (if is_float text && not (has_leading_zero text) then Float else Str)))

-- the text begins with no digit, no sign, no point and no first letter of a word: it is a string
abbrev pub begins_as_string : List ℕ → Bool
begins_as_string [] = false
begins_as_string (c ∷ cs) = not (is_ascii_digit c || list_any (nat_eq c) (codes "+-.~nNtTfF"))
