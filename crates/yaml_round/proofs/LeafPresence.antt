-- A scalar that comes back as it was asked for, and that is not null, stands under an optional for its content.
use Rattle.std.specs.Prelude.{Option, Some, Bool, true, false, not, ◌&&◌, ◌||◌, decimal}
use Rattle.std.specs.Prelude.{ℤ, pos, neg_ℤ, ◌≤ℤ◌}
use Rattle.std.specs.Fmt.{signed_decimal}
use Rattle.std.specs.Option.{is_some}
use Rattle.std.proofs.Common.{◌≡◌, inl, inr, ℕ, ◌-◌, ◌^◌, ◌<◌, List, [], ◌∷◌, refl, sym, ◌∙◌}
use Rattle.std.proofs.lemmas.Bool.Decides.{Decides-eqb}
use Rattle.std.proofs.lemmas.Option.{none-some}
use Rattle.yaml_base.proofs.WordLaws.{null_integer, null_unsigned}
use Rattle.yaml_base.specs.AskedStyles.{asked_style}
use Rattle.yaml_base.specs.Integers.{integer_of, unsigned_of}
use Rattle.yaml_base.specs.Kinds.{is_null_text, kind_of}
use Rattle.yaml_base.specs.PlainEvent.{PlainScalar}
use Rattle.yaml_base.specs.Renders.{RendersScalar}
use Rattle.yaml_base.specs.declared.emitter.AskedStyle.TheVariants.{Plain, SingleQuoted}
use Rattle.yaml_base.specs.declared.resolver.kind.Kind.TheVariants as kind
use Rattle.yaml_meaning.specs.CoreTags.{null_tag}
use Rattle.yaml_meaning.specs.Presence.{is_present}
use Rattle.yaml_meaning.specs.ScalarSorts.{is_plain, is_local, has_untaken}
use Rattle.yaml_write.specs.WrittenValue.{truth_text}
use Rattle.yaml_round.proofs.Decimals.{unsigned_of-decimal, integer_of-signed_decimal}
use Rattle.yaml_round.proofs.RenderedScalars.{plain-back, quoted-back, string-back, no-untaken, taken-or-none}

-- a text that is a string or an integer is not null
not_null : (text : List ℕ) → (is_null_text text ≡ true → ⊥) → is_null_text text ≡ false
not_null text h = by (is_null_text text) refl
  where
    by : (b : Bool) → is_null_text text ≡ b → b ≡ false
    by true e = absurd (h e)
    by false e = refl

string_not_null : (text : List ℕ) → kind_of text ≡ kind.Str → is_null_text text ≡ false
string_not_null text str = not_null text (λ e. let k : kind.Null ≡ kind.Str = rw e at str in absurd cc)

pub integer_not_null : (text : List ℕ) (z : ℤ) → integer_of text ≡ Some z → is_null_text text ≡ false
integer_not_null text z i = not_null text (λ e. none-some z (sym (null_integer text e) ∙ i))

pub unsigned_not_null : (text : List ℕ) (n : ℕ) → unsigned_of text ≡ Some n → is_null_text text ≡ false
unsigned_not_null text n u = not_null text (λ e. none-some n (sym (null_unsigned text e) ∙ u))

-- no tag of the core schema is local
local_untaken : (own : List ℕ) (w : PlainScalar) → w.tag ≡ Some own → is_local (Some own) ≡ true
    → has_untaken null_tag false w ≡ false
unfolding null_tag
local_untaken [] w tagged local = absurd cc
local_untaken (c ∷ cs) w tagged local = rw (tagged, (Decides-eqb c 33).0 local) refl

-- a scalar with a local tag of its own, whatever its text
pub local_present : (own : List ℕ) (w : PlainScalar) → w.tag ≡ Some own → is_local (Some own) ≡ true
    → is_present false w ≡ true
local_present own w tagged local = rw (local_untaken own w tagged local, tagged) (by (is_plain w.style))
  where
    by : (b : Bool) → not ((b && false || b && false) || b && false) ≡ true
    by true = refl
    by false = refl

module _ (tag : Option (List ℕ)) (w : PlainScalar) where
  -- what is not plain, and what is plain with a text that is not null
  quoted_present : is_plain w.style ≡ false → is_present (is_some tag) w ≡ true
  quoted_present p = rw p refl

  plain_present : (text : List ℕ) → w.tag ≡ tag → w.text ≡ text → is_plain w.style ≡ true
      → is_null_text text ≡ false → is_present (is_some tag) w ≡ true
  plain_present text t e p n = rw (p, taken-or-none tag w t, no-untaken null_tag tag w t, e, n) refl

  -- strings
  pub string_present : (text : List ℕ) → RendersScalar tag text (asked_style text) w → is_present (is_some tag) w ≡ true
  string_present text r = elim (string-back tag w text r) [
    | inl other ↦ quoted_present other
    | inr string_kind ↦ by (is_plain w.style) refl string_kind
  ]
    where
      by : (b : Bool) → is_plain w.style ≡ b → kind_of text ≡ kind.Str → is_present (is_some tag) w ≡ true
      by true plain str = plain_present text r.same_tag r.same_text plain (string_not_null text str)
      by false other str = quoted_present other

  -- booleans
  pub bool_present : (b : Bool) → RendersScalar tag (truth_text b) Plain w → is_present (is_some tag) w ≡ true
  bool_present true r =
      plain_present (truth_text true) r.same_tag r.same_text (plain-back tag w (truth_text true) r) refl
  bool_present false r =
      plain_present (truth_text false) r.same_tag r.same_text (plain-back tag w (truth_text false) r) refl

  -- integers
  pub signed_present : (z : ℤ) → neg_ℤ (pos (2 ^ 127)) ≤ℤ z → z ≤ℤ pos (2 ^ 128 - 1)
      → RendersScalar tag (signed_decimal z) Plain w → is_present (is_some tag) w ≡ true
  signed_present z low high r =
      plain_present (signed_decimal z) r.same_tag r.same_text (plain-back tag w (signed_decimal z) r)
      (integer_not_null (signed_decimal z) z (integer_of-signed_decimal z low high))

  pub unsigned_present : (n : ℕ) → n < 2 ^ 128 → RendersScalar tag (decimal n) Plain w
      → is_present (is_some tag) w ≡ true
  unsigned_present n small r =
      plain_present (decimal n) r.same_tag r.same_text (plain-back tag w (decimal n) r)
      (unsigned_not_null (decimal n) n (unsigned_of-decimal n small))

  -- characters
  pub char_present : (text : List ℕ) → RendersScalar tag text SingleQuoted w → is_present (is_some tag) w ≡ true
  char_present text r = quoted_present (quoted-back tag w text r)
