-- What is known of a scalar that comes back as it was asked for: its style, its tag, its text, and the row it is in.
use Rattle.std.specs.Prelude.{Option, Some, None, Bool, true, false, not, ◌&&◌, ◌||◌, IsTrue, if◌then◌else◌}
use Rattle.std.specs.List.{list_any}
use Rattle.std.specs.Option.{is_some, is_none}
use Rattle.std.specs.Str.{is_utf8}
use Rattle.std.proofs.Common.{◌≡◌, ◌⊎◌, inl, inr, ℕ, List, refl, ◌==◌}
use Rattle.yaml_base.specs.AskedStyles.{asked_style, is_string}
use Rattle.yaml_base.specs.Floats.{has_leading_zero}
use Rattle.yaml_base.specs.Kinds.{kind_of}
use Rattle.yaml_base.specs.PlainEvent.{PlainScalar}
use Rattle.yaml_base.specs.Renders.{permits, RendersScalar}
use Rattle.yaml_base.specs.declared.emitter.AskedStyle.TheVariants as asked
use Rattle.yaml_base.specs.declared.event.ScalarStyle.{ScalarStyle}
use Rattle.yaml_base.specs.declared.event.ScalarStyle.TheVariants as style
use Rattle.yaml_base.specs.declared.found.Found.TheVariants as found
use Rattle.yaml_base.specs.declared.resolver.kind.Kind.{Kind}
use Rattle.yaml_base.specs.declared.resolver.kind.Kind.TheVariants.{Str}
use Rattle.yaml_meaning.specs.CoreTags.{bool_tag, int_tag, float_tag, null_tag}
use Rattle.yaml_meaning.specs.ScalarAny.{any_found, any_scalar}
use Rattle.yaml_meaning.specs.ScalarFound.{found_kind}
use Rattle.yaml_meaning.specs.ScalarShapes.{plain_text, text_of}
use Rattle.yaml_meaning.specs.ScalarSorts.{is_plain, is_local, has_untaken}

-- what is asked plain comes back plain, and what is asked in quotes or as a block does not
plain-style : (s : ScalarStyle) → IsTrue (permits asked.Plain s) → is_plain s ≡ true
plain-style style.Plain h = refl
plain-style _ h = absurd cc

quoted-style : (s : ScalarStyle) → IsTrue (permits asked.SingleQuoted s) → is_plain s ≡ false
quoted-style style.Plain h = absurd cc
quoted-style _ h = refl

literal-style : (s : ScalarStyle) → IsTrue (permits asked.Literal s) → is_plain s ≡ false
literal-style style.Plain h = absurd cc
literal-style _ h = refl

-- a string that comes back plain has the kind of a string
string-style : (text : List ℕ) (s : ScalarStyle) → IsTrue (permits (asked_style text) s)
    → (is_plain s ≡ false) ⊎ (kind_of text ≡ Str)
string-style text s h = by (list_any (λ c. c == 10) text) (not (has_leading_zero text)) (kind_of text) refl h
  where
    by : (line zero : Bool) (k : Kind) → kind_of text ≡ k
        → IsTrue (permits (if line then asked.Literal else (if zero && is_string k then asked.Any
        else asked.SingleQuoted)) s)
        → (is_plain s ≡ false) ⊎ (kind_of text ≡ Str)
    by true zero k e h = inl (literal-style s h)
    by false false k e h = inl (quoted-style s h)
    by false true Str e h = inr e
    by false true _ e h = inl (quoted-style s h)

-- a tag from above is taken, and without one there is none
pub no-untaken : (name : List ℕ) (tag : Option (List ℕ)) (w : PlainScalar) → w.tag ≡ tag
    → has_untaken name (is_some tag) w ≡ false
no-untaken name None w e = rw e refl
no-untaken name (Some t) w e = refl

pub taken-or-none : (tag : Option (List ℕ)) (w : PlainScalar) → w.tag ≡ tag → (is_some tag || is_none w.tag) ≡ true
taken-or-none None w e = rw e refl
taken-or-none (Some t) w e = refl

-- so a plain scalar is resolved
to-resolve : (tag : Option (List ℕ)) (w : PlainScalar) → w.tag ≡ tag
    → (is_some tag || (is_none w.tag || is_local w.tag)) ≡ true
to-resolve None w e = rw e refl
to-resolve (Some t) w e = refl

module _ (tag : Option (List ℕ)) (w : PlainScalar) (text : List ℕ) where
  -- the style of the scalar
  pub plain-back : RendersScalar tag text asked.Plain w → is_plain w.style ≡ true
  plain-back r = plain-style w.style r.permitted

  pub quoted-back : RendersScalar tag text asked.SingleQuoted w → is_plain w.style ≡ false
  quoted-back r = quoted-style w.style r.permitted

  pub string-back : RendersScalar tag text (asked_style text) w → (is_plain w.style ≡ false) ⊎ (kind_of text ≡ Str)
  string-back r = string-style text w.style r.permitted

  -- the text of the scalar
  pub text-back : w.text ≡ text → is_utf8 text ≡ true → text_of w ≡ Some text
  text-back e u = rw (e, u) refl

  pub plain_text-back : (name : List ℕ) → RendersScalar tag text asked.Plain w → is_utf8 text ≡ true
      → plain_text name (is_some tag) w ≡ Some text
  plain_text-back name r u = rw (plain-back r, r.same_text, u) refl

  -- what the scalar is under the shape of any value
  pub any-plain : w.tag ≡ tag → w.text ≡ text → is_utf8 text ≡ true → is_plain w.style ≡ true
      → any_scalar (is_some tag) w ≡ any_found (found_kind text (kind_of text))
  any-plain t e u p =
      rw (
        e,
        u,
        no-untaken bool_tag tag w t,
        no-untaken int_tag tag w t,
        no-untaken float_tag tag w t,
        no-untaken null_tag tag w t,
        p,
        to-resolve tag w t,
      ) refl

  pub any-other : w.tag ≡ tag → w.text ≡ text → is_utf8 text ≡ true → is_plain w.style ≡ false
      → any_scalar (is_some tag) w ≡ any_found (found.Str text)
  any-other t e u p =
      rw (
        e,
        u,
        no-untaken bool_tag tag w t,
        no-untaken int_tag tag w t,
        no-untaken float_tag tag w t,
        no-untaken null_tag tag w t,
        p,
      ) refl
