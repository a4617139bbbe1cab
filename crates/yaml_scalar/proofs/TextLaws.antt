-- Texts that a source shows: they are its end, and they are lent where they are UTF-8.
use Rattle.std.proofs.Common.{◌≡◌, ℕ, List, Bool, true, false, refl, sym, subst}
use Rattle.std.specs.Prelude.{Some, None, if◌then◌else◌, Ok, Err}
use Rattle.std.specs.Option.{option_map_or}
use Rattle.std.specs.Str.{IsUtf8, is_utf8}
use Rattle.std.proofs.lemmas.Str.{is_utf8-from_IsUtf8, IsUtf8-from_is_utf8}
use Rattle.yaml_base.specs.Borrowable.{is_borrowable}
use Rattle.yaml_base.specs.PlainEvent.{PlainScalar}
use Rattle.yaml_shape.specs.PlainData.{PlainData, text_data}
use Rattle.yaml_meaning.specs.ReadFault.{ReadFault}
use Rattle.yaml_meaning.specs.ScalarShapes.{lent_text, text_of, utf8_text}

-- bytes that are UTF-8 are a text
pub bytes-there : (bytes : List ℕ) → IsUtf8 bytes → Some bytes ≡ utf8_text bytes
bytes-there bytes utf8 = rw (is_utf8-from_IsUtf8 bytes utf8) refl

-- others are none
pub bytes-missing : (bytes : List ℕ) → (IsUtf8 bytes → ⊥) → None ≡ utf8_text bytes
bytes-missing bytes bad = chosen (is_utf8 bytes) refl
  where
    chosen : (b : Bool) → is_utf8 bytes ≡ b → None ≡ (if b then Some bytes else None)
    chosen true e = absurd (bad (IsUtf8-from_is_utf8 bytes e))
    chosen false e = refl

-- the text of a scalar whose bytes the source shows
pub text-shown : (s : PlainScalar) (part : List ℕ) → part ≡ s.text → IsUtf8 part → text_of s ≡ Some s.text
text-shown s part same utf8 = sym (bytes-there s.text (subst IsUtf8 same utf8))

pub text-unshown : (s : PlainScalar) (part : List ℕ) → part ≡ s.text → (IsUtf8 part → ⊥) → text_of s ≡ None
text-unshown s part same bad = sym (bytes-missing s.text (λ utf8. bad (subst IsUtf8 (sym same) utf8)))

-- what the source shows is lent, where it is UTF-8
pub lent-shown : (s : PlainScalar) (fault : ReadFault) (part text : List ℕ) (d : PlainData) → part ≡ s.text
    → text ≡ part
    → IsUtf8 part → is_borrowable s.text s.source s.style ≡ true → d ≡ text_data true text
    → option_map_or (λ t. Ok (lent_text s t)) (text_of s) (Err fault) ≡ Ok d
lent-shown s fault part text d same is utf8 shown seen =
    rw (text-shown s part same utf8, shown, seen, is, same) refl

-- what the source shows is a fault, where it is not UTF-8
pub unlent-shown : (s : PlainScalar) (fault : ReadFault) (part : List ℕ) → part ≡ s.text → (IsUtf8 part → ⊥)
    → option_map_or (λ t. Ok (lent_text s t)) (text_of s) (Err fault) ≡ Err fault
unlent-shown s fault part same bad = rw (text-unshown s part same bad) refl
