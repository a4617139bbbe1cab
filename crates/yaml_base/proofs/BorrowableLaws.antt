-- A text at the end of a source: the test says what the definition says.
use Rattle.std.specs.Prelude.{Option, Some, None, is_some, IsSome, Bool}
use Rattle.std.specs.Prelude.{true, nat_eq, nat_lt, ◌&&◌}
use Rattle.std.specs.Bool.{Decides}
use Rattle.std.specs.List.{ends_with}
use Rattle.std.proofs.Common.{◌≡◌, ℕ, ◌+◌, ◌-◌, ◌<◌, List, [], ◌∷◌, ◌++◌, length, take, drop, refl, sym, ap, ◌∙◌, arith}
use Rattle.std.proofs.Common.{length-append, length-drop}
use Rattle.std.proofs.lemmas.Bool.Decides.{Decides-eqb, Decides-ltb, nat_tests}
use Rattle.std.proofs.lemmas.List.{take-append-drop}
use Rattle.std.proofs.lemmas.Slice.Eq.{slice_eq-Decides, ends_is}
use Rattle.std.proofs.Math.Seq.{take-length, take-append_seam}
use Rattle.yaml_base.specs.Borrowable.{EndsIn, EndsInQuoted, IsBorrowable, is_borrowable}
use Rattle.yaml_base.specs.declared.event.ScalarStyle.{ScalarStyle}
use Rattle.yaml_base.specs.declared.event.ScalarStyle.TheVariants.{Plain, SingleQuoted, DoubleQuoted, Literal, Folded}

-- the slice from k on is the list from k on
range_to_end : (s : List ℕ) (k : ℕ) → take (length s - k) (drop k s) ≡ drop k s
range_to_end s k = rw (← length-drop k s) (take-length (drop k s))

-- the part of the source that is cut off is the text
pub part-text : (s t : List ℕ) → ends_with nat_eq s t ≡ true
    → take (length s - (length s - length t)) (drop (length s - length t) s) ≡ t
part-text s t e =
    range_to_end s (length s - length t)
    ∙ sym ((slice_eq-Decides Decides-eqb t (drop (length s - length t) s) _ refl).0 e)

pub ends_with-Decides : (s t : List ℕ) → Decides (ends_with nat_eq s t) (EndsIn s t)
ends_with-Decides s t = let d = ends_is Decides-eqb s t (ends_with nat_eq s t) refl in
    ((λ e. (_, d.0 e)), (λ h. d.1 h.0 h.1))

-- a list of one element
alone : (xs : List ℕ) → length xs ≡ 1 → (x : ℕ) × (xs ≡ x ∷ [])
alone [] e = absurd (omega (arith, e))
alone (x ∷ []) e = (x, refl)
alone (x ∷ (y ∷ ys)) e = absurd (omega (arith, e))

both : {a b : Bool} → a ≡ true → b ≡ true → a && b ≡ true
both p q = rw (p, q) refl

when : {n : ℕ} → 0 < n → nat_lt 0 n ≡ true
when {n} h = (Decides-ltb 0 n).1 h

-- the text before the closing byte of a source
quoted-Decides : (s t : List ℕ)
    → Decides (nat_lt 0 (length s) && ends_with nat_eq (take (length s - 1) s) t) (EndsInQuoted s t)
quoted-Decides s t = (
  (λ e.
      let some : 0 < length s = grind (arith, nat_tests) in
      let test : ends_with nat_eq (take (length s - 1) s) t ≡ true = grind (arith, nat_tests) in
      let rest = alone (drop (length s - 1) s) (length-drop (length s - 1) s ∙ omega (arith, some)) in
      let split = sym (take-append-drop (length s - 1) s) ∙ ap (λ l. take (length s - 1) s ++ l) rest.1 in
      (_, rest.0, split, (ends_with-Decides (take (length s - 1) s) t).0 test)),
  (λ h.
      let l : length s ≡ length h.0 + 1 = ap length h.2 ∙ length-append h.0 (h.1 ∷ []) in
      let n : length s - 1 ≡ length h.0 = omega (arith, l) in
      let body : take (length s - 1) s ≡ h.0 = rw n (ap (take (length h.0)) h.2 ∙ take-append_seam h.0 (h.1 ∷ [])) in
      let test : ends_with nat_eq (take (length s - 1) s) t ≡ true = rw body ((ends_with-Decides h.0 t).1 h.3) in
      let some : 0 < length s = omega (arith, l) in
      both (when some) test),
)

-- the test says what the definition says
pub is_borrowable-Decides : (text : List ℕ) (source : Option (List ℕ)) (style : ScalarStyle)
    → Decides (is_borrowable text source style) (IsBorrowable text source style)
is_borrowable-Decides text None style = ((λ e. cc), (λ h. absurd h))
is_borrowable-Decides text (Some source) Plain = ends_with-Decides source text
is_borrowable-Decides text (Some source) SingleQuoted = quoted-Decides source text
is_borrowable-Decides text (Some source) DoubleQuoted = quoted-Decides source text
is_borrowable-Decides text (Some source) Literal = ((λ e. cc), (λ h. absurd h))
is_borrowable-Decides text (Some source) Folded = ((λ e. cc), (λ h. absurd h))

pub borrowed-exact : {A : Type 0} (text : List ℕ) (source : Option (List ℕ)) (style : ScalarStyle) (r : Option A)
    → is_some r ≡ is_borrowable text source style
    → (IsSome r → IsBorrowable text source style) × (IsBorrowable text source style → IsSome r)
borrowed-exact text source style r e =
    let d = is_borrowable-Decides text source style in ((λ s. d.0 (sym e ∙ s)), (λ h. e ∙ d.1 h))
