-- What a scalar is whose bytes are a text.
use Rattle.std.proofs.Common.{◌≡◌, ℕ, ◌∙◌, ap, refl, sym, Bool, true, false, List, [], Some, None}
use Rattle.std.proofs.lemmas.Bool.{false≢true}
use Rattle.std.specs.Option.{is_some}
use Rattle.std.specs.Prelude.{if◌then◌else◌, unwrap_or}
use Rattle.std.specs.Str.{is_utf8}
use Rattle.yaml_base.specs.PlainEvent.{PlainScalar}
use Rattle.yaml_c.specs.Numbers.{ScalarNumbers, core_numbers, is_core, numbers_under, plain_numbers}
use Rattle.yaml_meaning.specs.ScalarShapes.{utf8_text}
use Rattle.yaml_meaning.specs.ScalarSorts.{is_plain}

-- the bytes are UTF-8, and the text
there : (u : Bool) (bytes text : List ℕ) → Some text ≡ (if u then Some bytes else None)
    → (u ≡ true) × (text ≡ bytes)
there true bytes text e = (refl, ap (λ o. unwrap_or o []) e)
there false bytes text e = absurd (false≢true (sym (ap is_some e)))

-- its tag says what it is
pub core_sorted : (tag : ℕ) (s : PlainScalar) (text : List ℕ) (n : ScalarNumbers) → Some text ≡ utf8_text s.text
    → is_core tag ≡ true
    → n ≡ core_numbers tag text → n ≡ numbers_under tag s
core_sorted tag s text n found core is =
    let both = there (is_utf8 s.text) s.text text found in
    rw (both.0, core) (is ∙ ap (core_numbers tag) both.1)

-- it is plain, and its tag does not say what it is
pub plain_sorted : (tag : ℕ) (s : PlainScalar) (text : List ℕ) (n : ScalarNumbers) → Some text ≡ utf8_text s.text
    → is_core tag ≡ false
    → is_plain s.style ≡ true
    → n ≡ plain_numbers tag text → n ≡ numbers_under tag s
plain_sorted tag s text n found core plain is =
    let both = there (is_utf8 s.text) s.text text found in
    rw (both.0, core, plain) (is ∙ ap (plain_numbers tag) both.1)
