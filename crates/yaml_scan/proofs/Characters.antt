-- The first character of a text that is not allowed ends the longest beginning that is.
use Rattle.std.proofs.Common.{◌≡◌, ℕ, ◌+◌, ◌<◌, ◌≤◌, Bool, true, false, List, [], ◌∷◌, ◌++◌, length, take, drop, refl}
use Rattle.std.proofs.Common.{sym, ap, subst, ◌∙◌, append_assoc, arith, not, ◌&&◌, min, Option, MatchOption}
use Rattle.std.proofs.Common.{length-append, ◌⊎◌, inl, inr, unwrap_or, zero, suc, eq-or-lt_of_le}
use Rattle.std.specs.Prelude.{Some, None}
use Rattle.std.specs.List.{list_all}
use Rattle.std.specs.Char.{encode_utf8, IsScalar, len_utf8}
use Rattle.std.specs.Str.{IsAscii, IsUtf8, IsCharBoundary, IsValidUpTo, NoCharPasses, NonePass, chars, encode_utf8_all}
use Rattle.std.specs.Str.Pattern.{FindsBy}
use Rattle.std.proofs.lemmas.List.{take-take, take-append-drop, drop-append-le, length-take, length-drop, take_all}
use Rattle.std.proofs.lemmas.List.Folds.{list_all-append}
use Rattle.std.proofs.lemmas.Str.{IsUtf8-from_ascii, chars-IsAscii, IsCharBoundary-from_take, IsUtf8-drop, IsUtf8-take}
use Rattle.std.proofs.lemmas.Str.{chars-append, chars_from_encodes, chars_past_char, len_utf8_bounds, length-encode}
use Rattle.yaml_scan.specs.AllowedText.{IsAllowed, IsAllowedUpTo, is_allowed}

abbrev pub is_forbidden : ℕ → Bool
is_forbidden c = not (is_allowed c)

both : (a b : Bool) → (a && b) ≡ true → (a ≡ true) × (b ≡ true)
both true b e = (refl, e)
both false b e = (e, absurd (clash e))
  where
    clash : false ≡ true → ⊥
    clash q = absurd (cc)

flips : (a : Bool) → not a ≡ false → a ≡ true
flips true e = refl
flips false e = absurd (cc)

against : (a : Bool) → a ≡ true → not a ≡ true → ⊥
against true p q = cc
against false p q = cc

each : (cs : List ℕ) → NonePass is_forbidden cs → list_all is_allowed cs ≡ true
each [] n = refl
each (c ∷ cs) n = let here : is_allowed c ≡ true = flips (is_allowed c) n.0 in
    let more : list_all is_allowed cs ≡ true = each cs n.1 in rw (here, more) refl

pub none_forbidden : (text : List ℕ) → IsUtf8 text → NoCharPasses is_forbidden text → IsAllowed text
none_forbidden text u n =
    let same : n.0 ≡ chars text = chars_from_encodes n.0 text u n.1 in
    (u, subst (λ cs. list_all is_allowed cs ≡ true) same (each n.0 n.2))

-- in a text of ASCII the characters are the bytes
pub ascii_allowed : (text : List ℕ) → IsAscii text → list_all is_allowed text ≡ true → IsAllowed text
ascii_allowed text a all =
    (IsUtf8-from_ascii text a, subst (λ cs. list_all is_allowed cs ≡ true) (sym (chars-IsAscii text a)) all)

-- a text that begins with a character has no other there
first_is : (bs rest more : List ℕ) (h c : ℕ) → IsUtf8 bs → bs ≡ encode_utf8 h ++ rest → bs ≡ encode_utf8 c ++ more
    → h ≡ c
first_is bs rest more h c u p q =
    let one : chars bs ≡ h ∷ chars rest = chars_past_char bs rest h u p in
    let two : chars bs ≡ c ∷ chars more = chars_past_char bs more c u q in
    cc

-- of a text that goes on with more and begins with c, a beginning that is not empty begins with c too
begins : (t more rest : List ℕ) (c : ℕ) → IsUtf8 t → 0 < length t → IsUtf8 (t ++ more)
    → t ++ more ≡ encode_utf8 c ++ rest → list_all is_allowed (chars t) ≡ true → is_allowed c ≡ true
begins t more rest c ([], (s, e)) some u q all = absurd (omega (arith, ap length e))
begins t more rest c (h ∷ hs, (s, e)) some u q all =
    let p : t ++ more ≡ encode_utf8 h ++ (encode_utf8_all hs ++ more) = ap (λ l. l ++ more) (sym e)
    ∙ append_assoc (encode_utf8 h) (encode_utf8_all hs) more in
    let same : h ≡ c = first_is (t ++ more) (encode_utf8_all hs ++ more) rest h c u p q in
    let here : h ∷ hs ≡ chars t = chars_from_encodes (h ∷ hs) t (h ∷ hs, (s, e)) e in
    let every : list_all is_allowed (h ∷ hs) ≡ true = subst (λ cs. list_all is_allowed cs ≡ true) (sym here) all in
    subst (λ k. is_allowed k ≡ true) same (both (is_allowed h) (list_all is_allowed hs) every).0

module _ (text : List ℕ) (i c : ℕ) (rest : List ℕ) (u : IsUtf8 text) (at : IsCharBoundary text i)
    (split : drop i text ≡ encode_utf8 c ++ rest) (bad : is_forbidden c ≡ true) where
  some : i < length text
  some =
      let long : length (drop i text) ≡ length (encode_utf8 c ++ rest) = ap length split in
      let one = len_utf8_bounds c in
      let wide = length-encode c in
      let sum = length-append (encode_utf8 c) rest in
      let cut = length-drop i text in
      omega arith

  longest : (m : ℕ) → i < m → IsAllowed (take m text) → ⊥
  longest m h a =
      let t : List ℕ = take m text in
      let size : length t ≡ min m (length text) = length-take m text in
      let front : take i t ≡ take i text = take-take i m text (omega arith) in
      let front_utf8 : IsUtf8 (take i t) = subst IsUtf8 (sym front) (IsUtf8-take text i u at) in
      let left : i ≤ length t = let k = some in omega arith in
      let cut : IsCharBoundary t i = IsCharBoundary-from_take t i a.0 left front_utf8 in
      let tail : IsUtf8 (drop i t) = IsUtf8-drop t i a.0 cut in
      let parts : chars t ≡ chars (take i t) ++ chars (drop i t) = ap chars (sym (take-append-drop i t))
      ∙ chars-append (take i t) (drop i t) front_utf8 in
      let every : (list_all is_allowed (chars (take i t)) && list_all is_allowed (chars (drop i t))) ≡ true =
      sym (list_all-append is_allowed (chars (take i t)) (chars (drop i t))) ∙ ap (list_all is_allowed) (sym parts)
      ∙ a.1 in
      let whole : drop i text ≡ drop i t ++ drop m text = ap (drop i) (sym (take-append-drop m text))
      ∙ drop-append-le i t (drop m text) left in
      let is_some : 0 < length (drop i t) = let k = some in let d = length-drop i t in omega arith in
      let there : is_allowed c ≡ true =
      begins (drop i t) (drop m text) rest c tail is_some (subst IsUtf8 whole (IsUtf8-drop text i u at))
      (sym whole ∙ split) (both _ _ every).1 in
      against (is_allowed c) there bad

  pub first_at : NoCharPasses is_forbidden (take i text) → IsAllowedUpTo text i
  first_at n =
      record { short = some; front = none_forbidden (take i text) (IsUtf8-take text i u at) n; longest = longest }

-- where `find` finds nothing, the text is allowed, and what it finds is the first that is not
pub finds : (text : List ℕ) (M : (ℕ → Bool) → Type 0) → IsUtf8 text → (result : Option ℕ)
    → MatchOption result ((k : ℕ → Bool) → M k → FindsBy k text None)
    (λ i. (j : ℕ) × ((k : ℕ → Bool) → M k → FindsBy k text (Some (i, j))) × (i ≤ j) × IsCharBoundary text i
    × IsCharBoundary text j)
    → M is_forbidden → MatchOption result (IsAllowed text) (IsAllowedUpTo text)
finds text M u None m by = none_forbidden text u (m is_forbidden by)
finds text M u (Some i) (j, f, le, start, end) by =
    let found = f is_forbidden by in
    first_at text i found.1.0 (drop j text) u start found.1.2.split found.1.1 found.0

order : (m n : ℕ) → (m ≤ n) ⊎ (n < m)
order zero n = inl (omega arith)
order (suc m) n = step (order m n)
  where
    last : (m ≡ n) ⊎ (m < n) → (suc m ≤ n) ⊎ (n < suc m)
    last (inl e) = inr (omega arith)
    last (inr h) = inl (omega arith)

    step : (m ≤ n) ⊎ (n < m) → (suc m ≤ n) ⊎ (n < suc m)
    step (inl h) = last (eq-or-lt_of_le h)
    step (inr h) = inr (omega arith)

-- what holds of the part that is UTF-8 holds of the whole text
module _ (text : List ℕ) (valid : ℕ) (v : IsValidUpTo text valid) where
  pub whole_front : IsAllowed (take valid text) → IsAllowedUpTo text valid
  whole_front a = record { short = v.short; front = a; longest = λ m h u. v.longest m h u.0 }

  pub part_front : (i : ℕ) → IsAllowedUpTo (take valid text) i → IsAllowedUpTo text i
  part_front i a =
      let size : length (take valid text) ≡ min valid (length text) = length-take valid text in
      let less : i < valid = let s = a.short in omega arith in
      record {
        short = let s = a.short in omega arith;
        front = subst IsAllowed (take-take i valid text (omega arith)) a.front;
        longest = λ m h u. by m h u (order m valid);
      }
    where
      by : (m : ℕ) → i < m → IsAllowed (take m text) → (m ≤ valid) ⊎ (valid < m) → ⊥
      by m h u (inl le) = a.longest m h (subst IsAllowed (sym (take-take m valid text le)) u)
      by m h u (inr lt) = v.longest m lt u.0

  pub in_front : (result : Option ℕ)
      → MatchOption result (IsAllowed (take valid text)) (IsAllowedUpTo (take valid text))
      → IsAllowedUpTo text (unwrap_or result valid)
  in_front None a = whole_front a
  in_front (Some i) a = part_front i a
