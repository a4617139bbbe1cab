-- A scalar that comes back as it was asked for gives under its shape the data that it was written of.
use Rattle.std.specs.Prelude.{Option, Bool, true, false, not, ◌&&◌, codes, decimal, Ok}
use Rattle.std.specs.Prelude.{ℤ, pos, negsuc, neg_ℤ, ◌≤ℤ◌, int_le, nat_le}
use Rattle.std.specs.Char.{IsScalar, encode_utf8}
use Rattle.std.specs.Fmt.{signed_decimal}
use Rattle.std.specs.Option.{is_some}
use Rattle.std.specs.Str.{is_utf8, chars}
use Rattle.std.proofs.Common.{◌≡◌, inl, inr, ℕ, ◌-◌, ◌^◌, ◌<◌, ◌≤◌, List, [], refl, sym, arith}
use Rattle.std.proofs.Common.{append-nil}
use Rattle.std.proofs.lemmas.Bool.Decides.{Decides-and, nat_tests}
use Rattle.std.proofs.lemmas.Int.{ints}
use Rattle.std.proofs.lemmas.Str.{IsUtf8-encode, is_utf8-from_IsUtf8}
use Rattle.yaml_base.proofs.RangeLaws.{in_range-inside, up_to-inside, int_le-Decides, le-Decides}
use Rattle.yaml_base.specs.AskedStyles.{asked_style}
use Rattle.yaml_base.specs.Kinds.{kind_of}
use Rattle.yaml_base.specs.PlainEvent.{PlainScalar}
use Rattle.yaml_base.specs.Renders.{RendersScalar}
use Rattle.yaml_base.specs.declared.emitter.AskedStyle.{AskedStyle}
use Rattle.yaml_base.specs.declared.emitter.AskedStyle.TheVariants.{Plain, SingleQuoted}
use Rattle.yaml_base.specs.declared.resolver.kind.Kind.TheVariants as kind
use Rattle.yaml_shape.specs.HasShape.{takes_signed, takes_unsigned}
use Rattle.yaml_shape.specs.IntegerTypes.{bits_of, has_sign, least, greatest, is_of_type}
use Rattle.yaml_shape.specs.PlainData.{any_data, bool_data, char_data, signed_data, unsigned_data, none_data, unit_data}
use Rattle.yaml_shape.specs.PlainShape.{IntegerType, i8, i16, i32, i64, i128, isize, u8, u16, u32, u64, u128, usize}
use Rattle.yaml_shape.specs.PlainShape.{any_shape, bool_shape, char_shape, integer_shape, str_shape, identifier_shape}
use Rattle.yaml_shape.specs.PlainShape.{option_shape, unit_shape, unit_struct_shape, enum_shape}
use Rattle.yaml_tree.specs.Integer.{is_number}
use Rattle.yaml_tree.specs.Tree.{Tree, null, boolean, number, string}
use Rattle.yaml_meaning.specs.CoreTags.{bool_tag, int_tag}
use Rattle.yaml_meaning.specs.Presence.{is_absent}
use Rattle.yaml_meaning.specs.ScalarAny.{any_found}
use Rattle.yaml_meaning.specs.ScalarFound.{found_kind}
use Rattle.yaml_meaning.specs.ScalarShapes.{scalar_answer, lent_text, widest}
use Rattle.yaml_meaning.specs.ScalarSorts.{is_plain}
use Rattle.yaml_meaning.specs.Variants.{Variants, named_variant}
use Rattle.yaml_scalar.proofs.CharacterLaws.{one-character}
use Rattle.yaml_write.specs.WrittenValue.{truth_text}
use Rattle.yaml_round.proofs.Decimals.{unsigned_of-decimal, integer_of-signed_decimal, is_utf8-decimal}
use Rattle.yaml_round.proofs.Decimals.{is_utf8-signed_decimal, kind_of-decimal, kind_of-negative}
use Rattle.yaml_round.proofs.RenderedScalars.{plain-back, string-back, text-back, plain_text-back}
use Rattle.yaml_round.proofs.RenderedScalars.{any-plain, any-other, taken-or-none}

-- the words that are written are UTF-8
is_utf8-truth : (b : Bool) → is_utf8 (truth_text b) ≡ true
unfolding is_utf8 chars encode_utf8
is_utf8-truth true = refl
is_utf8-truth false = refl

is_utf8-null : is_utf8 (codes "null") ≡ true
unfolding is_utf8 chars encode_utf8
is_utf8-null = refl

-- what a conjunction and a denial tell
both : (a b : Bool) → (a && b) ≡ true → (a ≡ true) × (b ≡ true)
both true b e = (refl, e)
both false b e = absurd cc

denied : (b : Bool) → not b ≡ true → b ≡ false
denied true e = absurd cc
denied false e = refl

-- an integer of a type with a sign is one of the type as which it is read, and of 128 bits
between : (low high z : ℤ) → (int_le low z && int_le z high) ≡ true → (low ≤ℤ z) × (z ≤ℤ high)
between low high z e = (Decides-and _ _ (int_le-Decides low z) (int_le-Decides z high)).0 e

widest-signed : (i : IntegerType) (z : ℤ) → has_sign i ≡ true → (least i ≤ℤ z) × (z ≤ℤ greatest i)
    → (least (widest i) ≤ℤ z) × (z ≤ℤ greatest (widest i))
widest-signed i8 z sign h = (omega (arith, ints, h.0), omega (arith, ints, h.1))
widest-signed i16 z sign h = (omega (arith, ints, h.0), omega (arith, ints, h.1))
widest-signed i32 z sign h = (omega (arith, ints, h.0), omega (arith, ints, h.1))
widest-signed i64 z sign h = h
widest-signed i128 z sign h = h
widest-signed isize z sign h = h
widest-signed _ z sign h = absurd cc

signed-128 : (i : IntegerType) (z : ℤ) → has_sign i ≡ true → (least i ≤ℤ z) × (z ≤ℤ greatest i)
    → (neg_ℤ (pos (2 ^ 127)) ≤ℤ z) × (z ≤ℤ pos (2 ^ 128 - 1))
signed-128 i8 z sign h = (omega (arith, ints, h.0), omega (arith, ints, h.1))
signed-128 i16 z sign h = (omega (arith, ints, h.0), omega (arith, ints, h.1))
signed-128 i32 z sign h = (omega (arith, ints, h.0), omega (arith, ints, h.1))
signed-128 i64 z sign h = (omega (arith, ints, h.0), omega (arith, ints, h.1))
signed-128 i128 z sign h = (omega (arith, ints, h.0), omega (arith, ints, h.1))
signed-128 isize z sign h = (omega (arith, ints, h.0), omega (arith, ints, h.1))
signed-128 _ z sign h = absurd cc

-- the same of a type without a sign
unsigned-up : (i : IntegerType) (n : ℕ) → has_sign i ≡ false → is_of_type i (pos n) ≡ true
    → nat_le n (2 ^ bits_of i - 1) ≡ true
unsigned-up u8 n sign h = (both _ _ h).1
unsigned-up u16 n sign h = (both _ _ h).1
unsigned-up u32 n sign h = (both _ _ h).1
unsigned-up u64 n sign h = (both _ _ h).1
unsigned-up u128 n sign h = (both _ _ h).1
unsigned-up usize n sign h = (both _ _ h).1
unsigned-up _ n sign h = absurd cc

widest-unsigned : (i : IntegerType) (n : ℕ) → has_sign i ≡ false → n ≤ 2 ^ bits_of i - 1
    → n ≤ 2 ^ bits_of (widest i) - 1
widest-unsigned u8 n sign h = omega (arith, h)
widest-unsigned u16 n sign h = omega (arith, h)
widest-unsigned u32 n sign h = omega (arith, h)
widest-unsigned u64 n sign h = h
widest-unsigned u128 n sign h = h
widest-unsigned usize n sign h = h
widest-unsigned _ n sign h = absurd cc

bits-128 : (i : IntegerType) (n : ℕ) → n ≤ 2 ^ bits_of (widest i) - 1 → n < 2 ^ 128
bits-128 i8 n h = omega (arith, h)
bits-128 i16 n h = omega (arith, h)
bits-128 i32 n h = omega (arith, h)
bits-128 i64 n h = omega (arith, h)
bits-128 i128 n h = omega (arith, h)
bits-128 isize n h = omega (arith, h)
bits-128 _ n h = omega (arith, h)

module _ (tag : Option (List ℕ)) (w : PlainScalar) where
  -- booleans
  pub bool_leaf : (b : Bool) → RendersScalar tag (truth_text b) Plain w
      → scalar_answer bool_shape (is_some tag) w ≡ Ok (bool_data b)
  bool_leaf true r = rw (plain_text-back tag w (truth_text true) bool_tag r (is_utf8-truth true)) refl
  bool_leaf false r = rw (plain_text-back tag w (truth_text false) bool_tag r (is_utf8-truth false)) refl

  -- integers
  pub signed_leaf : (i : IntegerType) (z : ℤ) → takes_signed z (integer_shape i) ≡ true
      → RendersScalar tag (signed_decimal z) Plain w
      → scalar_answer (integer_shape i) (is_some tag) w ≡ Ok (signed_data z)
  signed_leaf i z takes r =
      let t = both (has_sign i) (is_of_type i z) takes in
      let type = between (least i) (greatest i) z t.1 in
      let wide = widest-signed i z t.0 type in
      let all = signed-128 i z t.0 type in
      rw (
        t.0,
        plain_text-back tag w (signed_decimal z) int_tag r (is_utf8-signed_decimal z all.0 all.1),
        integer_of-signed_decimal z all.0 all.1,
        in_range-inside (least (widest i)) (greatest (widest i)) z wide.0 wide.1,
        rw t.0 at t.1,
      ) refl

  pub unsigned_leaf : (i : IntegerType) (n : ℕ) → takes_unsigned n (integer_shape i) ≡ true
      → RendersScalar tag (decimal n) Plain w
      → scalar_answer (integer_shape i) (is_some tag) w ≡ Ok (unsigned_data n)
  unsigned_leaf i n takes r =
      let t = both (not (has_sign i)) (is_of_type i (pos n)) takes in
      let sign = denied (has_sign i) t.0 in
      let up = unsigned-up i n sign t.1 in
      let wide = widest-unsigned i n sign ((le-Decides n (2 ^ bits_of i - 1)).0 up) in
      let all = bits-128 i n wide in
      rw (
        sign,
        plain_text-back tag w (decimal n) int_tag r (is_utf8-decimal n all),
        unsigned_of-decimal n all,
        up_to-inside (2 ^ bits_of (widest i) - 1) n wide,
        up,
      ) refl

  -- characters
  pub char_leaf : (c : ℕ) → IsScalar c → RendersScalar tag (encode_utf8 c) SingleQuoted w
      → scalar_answer char_shape (is_some tag) w ≡ Ok (char_data c)
  char_leaf c is r =
      let utf8 = IsUtf8-encode c is in
      let one = one-character (encode_utf8 c) (encode_utf8 c) [] c utf8 refl (sym (append-nil (encode_utf8 c))) refl in
      rw (text-back tag w (encode_utf8 c) r.same_text (is_utf8-from_IsUtf8 (encode_utf8 c) utf8), sym one) refl

  -- texts and names
  pub text_leaf : (text : List ℕ) (style : AskedStyle) → is_utf8 text ≡ true → RendersScalar tag text style w
      → scalar_answer str_shape (is_some tag) w ≡ Ok (lent_text w text)
  text_leaf text style utf8 r = rw (text-back tag w text r.same_text utf8) refl

  pub name_leaf : (text : List ℕ) (style : AskedStyle) → is_utf8 text ≡ true → RendersScalar tag text style w
      → scalar_answer identifier_shape (is_some tag) w ≡ Ok (lent_text w text)
  name_leaf text style utf8 r = rw (text-back tag w text r.same_text utf8) refl

  -- nothing
  null_absent : RendersScalar tag (codes "null") Plain w → is_absent (is_some tag) w ≡ true
  null_absent r = rw (plain-back tag w (codes "null") r, taken-or-none tag w r.same_tag, r.same_text) refl

  pub none_leaf : (c : ℕ) → RendersScalar tag (codes "null") Plain w
      → scalar_answer (option_shape c) (is_some tag) w ≡ Ok none_data
  none_leaf c r = rw (null_absent r) refl

  pub unit_leaf : RendersScalar tag (codes "null") Plain w
      → scalar_answer unit_shape (is_some tag) w ≡ Ok unit_data
  unit_leaf r = rw (null_absent r) refl

  pub unit_struct_leaf : (name : List ℕ) → RendersScalar tag (codes "null") Plain w
      → scalar_answer (unit_struct_shape name) (is_some tag) w ≡ Ok unit_data
  unit_struct_leaf name r = rw (null_absent r) refl

  -- values
  plain-found : (text : List ℕ) (t : Tree) → RendersScalar tag text Plain w → is_utf8 text ≡ true
      → any_found (found_kind text (kind_of text)) ≡ Ok t
      → scalar_answer any_shape (is_some tag) w ≡ Ok (any_data t)
  plain-found text t r utf8 e =
      rw (any-plain tag w text r.same_tag r.same_text utf8 (plain-back tag w text r), e) refl

  pub any_null : RendersScalar tag (codes "null") Plain w
      → scalar_answer any_shape (is_some tag) w ≡ Ok (any_data null)
  any_null r = plain-found (codes "null") null r is_utf8-null refl

  pub any_bool : (b : Bool) → RendersScalar tag (truth_text b) Plain w
      → scalar_answer any_shape (is_some tag) w ≡ Ok (any_data (boolean b))
  any_bool true r = plain-found (truth_text true) (boolean true) r (is_utf8-truth true) refl
  any_bool false r = plain-found (truth_text false) (boolean false) r (is_utf8-truth false) refl

  pub any_number : (z : ℤ) → is_number z ≡ true → RendersScalar tag (signed_decimal z) Plain w
      → scalar_answer any_shape (is_some tag) w ≡ Ok (any_data (number z))
  any_number (pos n) is r =
      let small : n < 2 ^ 64 = grind (arith, nat_tests, is) in
      let wide : n < 2 ^ 128 = omega (arith, small) in
      plain-found (decimal n) (number (pos n)) r (is_utf8-decimal n wide) (rw (kind_of-decimal n wide, is) refl)
  any_number (negsuc n) is r =
      let small : n < 2 ^ 63 = grind (arith, nat_tests, is) in
      let wide : n < 2 ^ 127 = omega (arith, small) in
      plain-found (signed_decimal (negsuc n)) (number (negsuc n)) r
      (is_utf8-signed_decimal (negsuc n) (omega (arith, ints, wide)) (omega (arith, ints)))
      (rw (kind_of-negative n wide, is) refl)

  pub any_string : (text : List ℕ) → is_utf8 text ≡ true → RendersScalar tag text (asked_style text) w
      → scalar_answer any_shape (is_some tag) w ≡ Ok (any_data (string text))
  any_string text utf8 r = elim (string-back tag w text r) [
    | inl other ↦ otherwise other
    | inr string_kind ↦ by (is_plain w.style) refl string_kind
  ]
    where
      otherwise : is_plain w.style ≡ false → scalar_answer any_shape (is_some tag) w ≡ Ok (any_data (string text))
      otherwise other = rw (any-other tag w text r.same_tag r.same_text utf8 other) refl

      by : (b : Bool) → is_plain w.style ≡ b → kind_of text ≡ kind.Str
          → scalar_answer any_shape (is_some tag) w ≡ Ok (any_data (string text))
      by true plain e = rw (any-plain tag w text r.same_tag r.same_text utf8 plain, e) refl
      by false other e = otherwise other

  -- a name that stands alone
  pub variant_leaf : (name : List ℕ) (variants : Variants) (text : List ℕ) (style : AskedStyle) → is_utf8 text ≡ true
      → RendersScalar tag text style w
      → scalar_answer (enum_shape name variants) (is_some tag) w ≡ named_variant variants text
  variant_leaf name variants text style utf8 r = rw (text-back tag w text r.same_text utf8) refl

-- the integers of a type, and the numbers of values, have at most 128 bits
pub signed_within : (i : IntegerType) (z : ℤ) → takes_signed z (integer_shape i) ≡ true
    → (neg_ℤ (pos (2 ^ 127)) ≤ℤ z) × (z ≤ℤ pos (2 ^ 128 - 1))
signed_within i z takes =
    let t = both (has_sign i) (is_of_type i z) takes in
    signed-128 i z t.0 (between (least i) (greatest i) z t.1)

pub unsigned_within : (i : IntegerType) (n : ℕ) → takes_unsigned n (integer_shape i) ≡ true → n < 2 ^ 128
unsigned_within i n takes =
    let t = both (not (has_sign i)) (is_of_type i (pos n)) takes in
    let sign = denied (has_sign i) t.0 in
    bits-128 i n (widest-unsigned i n sign ((le-Decides n (2 ^ bits_of i - 1)).0 (unsigned-up i n sign t.1)))

pub number_within : (z : ℤ) → is_number z ≡ true → (neg_ℤ (pos (2 ^ 127)) ≤ℤ z) × (z ≤ℤ pos (2 ^ 128 - 1))
number_within (pos n) is =
    let small : n < 2 ^ 64 = grind (arith, nat_tests, is) in
    (omega (arith, ints), omega (arith, ints, small))
number_within (negsuc n) is =
    let small : n < 2 ^ 63 = grind (arith, nat_tests, is) in
    (omega (arith, ints, small), omega (arith, ints))
