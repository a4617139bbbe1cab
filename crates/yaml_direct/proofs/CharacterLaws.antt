-- Which bytes of UTF-8 begin no character of the grammar.
use lib.Utf8.{encode, encodes, next}
use Rattle.std.proofs.Common.{ℕ, zero, suc, ◌+◌, ◌-◌, ◌/◌, ◌%◌, ◌≡◌, ◌≢◌, ◌<◌, ◌≤◌, ◌==◌, ◌&&◌, ◌||◌, Bool, true}
use Rattle.std.proofs.Common.{false, List, [], ◌∷◌, ◌++◌, length, refl, subst, ap, ◌∙◌, arith, inl, inr, get_or}
use Rattle.std.proofs.Common.{cond, drop, ltb, nat_le}
use Rattle.std.specs.List.{list_all}
use Rattle.std.specs.Prelude.{Err, MatchResult, Ok, Result, slice_range}
use Rattle.std.specs.Result.{is_ok}
use Rattle.std.specs.Str.{chars}
use Rattle.std.proofs.lemmas.Bool.{and_parts, cases_lt, eqb-true, false_from_ne_true, leb-true, ltb-true}
use Rattle.std.proofs.lemmas.Bool.{ne_eqb, or_cases}
use Rattle.std.proofs.lemmas.List.{get_or-drop, get_or_append_left, length-drop, take_all}
use Rattle.std.proofs.lemmas.Str.{IsUtf8-from_is_utf8, encodes-chars}
use Rattle.std.proofs.Math.Seq.{drop-append-add, drop-nil}
use Rattle.yaml_direct.specs.Bytes.{begins_forbidden, is_forbidden}
use Rattle.yaml_grammar.specs.Bytes.{at, is_character, is_text}

-- the first byte is none of three
no_first : (a b c : ℕ) → a ≢ 0xC2 → a ≢ 0xE2 → a ≢ 0xEF → is_forbidden a b c ≡ false
no_first a b c x y z = rw (ne_eqb a 0xC2 x, ne_eqb a 0xE2 y, ne_eqb a 0xEF z) refl

control : (c : ℕ) → is_character c ≡ true → 0x80 ≤ c → c ≤ 0x9F → ⊥
control c h low high = grind (arith, h, low, high)

line_end : (c : ℕ) → is_character c ≡ true → 0x2028 ≤ c → c ≤ 0x2029 → ⊥
line_end c h low high = grind (arith, h, low, high)

order_mark : (c : ℕ) → is_character c ≡ true → c ≡ 0xFEFF → ⊥
order_mark c h is = grind (arith, h, is)

no_character : (c : ℕ) → is_character c ≡ true → 0xFFFE ≤ c → c ≤ 0xFFFF → ⊥
no_character c h low high = grind (arith, h, low, high)

-- the three ways in which bytes are forbidden
data Forbidden (a b c : ℕ) : Type 0 where
  by_control : a ≡ 0xC2 → b ≤ 0x9F → Forbidden a b c
  by_line_end : a ≡ 0xE2 → b ≡ 0x80 → 0xA8 ≤ c → c ≤ 0xA9 → Forbidden a b c
  by_order_mark : a ≡ 0xEF → b ≡ 0xBB → c ≡ 0xBF → Forbidden a b c
  by_last : a ≡ 0xEF → b ≡ 0xBF → 0xBE ≤ c → c ≤ 0xBF → Forbidden a b c

forbidden : (a b c : ℕ) → is_forbidden a b c ≡ true → Forbidden a b c
forbidden a b c h = elim (or_cases (a == 0xC2 && (nat_le 0x80 b && nat_le b 0x9F)) _ h) [
  | inl one ↦
      let p = and_parts (a == 0xC2) _ one in
      by_control (eqb-true a 0xC2 p.0) (leb-true b 0x9F (and_parts (nat_le 0x80 b) (nat_le b 0x9F) p.1).1)
  | inr others ↦ elim (or_cases (a == 0xE2 && (b == 0x80 && (c == 0xA8 || c == 0xA9))) _ others) [
    | inl two ↦
        let p = and_parts (a == 0xE2) _ two in
        let q = and_parts (b == 0x80) _ p.1 in
        elim (or_cases (c == 0xA8) (c == 0xA9) q.1) [
          | inl e ↦ let last = eqb-true c 0xA8 e in
              by_line_end (eqb-true a 0xE2 p.0) (eqb-true b 0x80 q.0) (omega (arith, last)) (omega (arith, last))
          | inr e ↦ let last = eqb-true c 0xA9 e in
              by_line_end (eqb-true a 0xE2 p.0) (eqb-true b 0x80 q.0) (omega (arith, last)) (omega (arith, last))
        ]
    | inr three ↦
        let p = and_parts (a == 0xEF) _ three in
        elim (or_cases (b == 0xBB && c == 0xBF) (b == 0xBF && (c == 0xBE || c == 0xBF)) p.1) [
          | inl mark ↦
              let q = and_parts (b == 0xBB) (c == 0xBF) mark in
              by_order_mark (eqb-true a 0xEF p.0) (eqb-true b 0xBB q.0) (eqb-true c 0xBF q.1)
          | inr last ↦
              let q = and_parts (b == 0xBF) _ last in
              elim (or_cases (c == 0xBE) (c == 0xBF) q.1) [
                | inl e ↦ let is = eqb-true c 0xBE e in
                    by_last (eqb-true a 0xEF p.0) (eqb-true b 0xBF q.0) (omega (arith, is)) (omega (arith, is))
                | inr e ↦ let is = eqb-true c 0xBF e in
                    by_last (eqb-true a 0xEF p.0) (eqb-true b 0xBF q.0) (omega (arith, is)) (omega (arith, is))
              ]
        ]
  ]
]

-- a character of two bytes
two_bytes : (c x : ℕ) → is_character c ≡ true → c < 2048 → is_forbidden (192 + c / 64) (128 + c % 64) x ≡ false
two_bytes c x h small = false_from_ne_true _ (λ is. by_kind (forbidden (192 + c / 64) (128 + c % 64) x is))
  where
    by_kind : Forbidden (192 + c / 64) (128 + c % 64) x → ⊥
    by_kind (by_control a b) = control c h (omega (arith, a)) (omega (arith, a, b))
    by_kind (by_line_end a b low high) = omega (arith, a, small)
    by_kind (by_order_mark a b e) = omega (arith, a, small)
    by_kind (by_last a b low high) = omega (arith, a, small)

-- a character of three bytes
three_bytes : (c : ℕ) → is_character c ≡ true
    → is_forbidden (224 + c / 4096) (128 + (c / 64) % 64) (128 + c % 64) ≡ false
three_bytes c h = false_from_ne_true _
    (λ is. by_kind (forbidden (224 + c / 4096) (128 + (c / 64) % 64) (128 + c % 64) is))
  where
    by_kind : Forbidden (224 + c / 4096) (128 + (c / 64) % 64) (128 + c % 64) → ⊥
    by_kind (by_control a b) = omega (arith, a)
    by_kind (by_line_end a b low high) = line_end c h (omega (arith, a, b, low, high)) (omega (arith, a, b, low, high))
    by_kind (by_order_mark a b e) = order_mark c h (omega (arith, a, b, e))
    by_kind (by_last a b low high) = no_character c h (omega (arith, a, b, low, high)) (omega (arith, a, b, low, high))

-- the bytes of a character, by their number
abbrev bytes_by : ℕ → (one two three : Bool) → List ℕ
bytes_by c one two three =
    cond one (c ∷ []) (cond two ((192 + c / 64) ∷ next c ∷ [])
    (cond three ((224 + c / 4096) ∷ next (c / 64) ∷ next c ∷ [])
    ((240 + c / 262144) ∷ next (c / 4096) ∷ next (c / 64) ∷ next c ∷ [])))

-- the first byte of a character
first_byte : (c : ℕ) (rest : List ℕ) → is_character c ≡ true → begins_forbidden (encode c ++ rest) ≡ false
unfolding encode
first_byte c rest h = by_size (ltb c 128) (ltb c 2048) (ltb c 65536) refl refl
  where
    by_size : (x y z : Bool) → ltb c 128 ≡ x → ltb c 2048 ≡ y
        → begins_forbidden (bytes_by c x y z ++ rest) ≡ false
    by_size true y z e f =
        let low = ltb-true c 128 e in
        no_first c (at rest 0) (at rest 1) (λ i. omega (arith, i, low)) (λ i. omega (arith, i, low))
        (λ i. omega (arith, i, low))
    by_size false true z e f = two_bytes c (at rest 0) h (ltb-true c 2048 f)
    by_size false false true e f = three_bytes c h
    by_size false false false e f =
        no_first (240 + c / 262144) (next (c / 4096)) (next (c / 64)) (λ i. omega (arith, i)) (λ i. omega (arith, i))
        (λ i. omega (arith, i))

-- a further byte of a character
low_next : (bits : ℕ) → next bits < 192
low_next bits = omega arith

further_byte : (c k : ℕ) → 1 ≤ k → k < length (encode c) → get_or (encode c) k 0 < 192
unfolding encode
further_byte c k = by_size k (ltb c 128) (ltb c 2048) (ltb c 65536)
  where
    by_size : (k : ℕ) (x y z : Bool) → 1 ≤ k → k < length (bytes_by c x y z) → get_or (bytes_by c x y z) k 0 < 192
    by_size zero x y z some inside = absurd (omega (arith, some))
    by_size (suc k) true y z some inside = absurd (omega (arith, inside))
    by_size (suc zero) false true z some inside = low_next c
    by_size (suc (suc k)) false true z some inside = absurd (omega (arith, inside))
    by_size (suc zero) false false true some inside = low_next (c / 64)
    by_size (suc (suc zero)) false false true some inside = low_next c
    by_size (suc (suc (suc k))) false false true some inside = absurd (omega (arith, inside))
    by_size (suc zero) false false false some inside = low_next (c / 4096)
    by_size (suc (suc zero)) false false false some inside = low_next (c / 64)
    by_size (suc (suc (suc zero))) false false false some inside = low_next c
    by_size (suc (suc (suc (suc k)))) false false false some inside = absurd (omega (arith, inside))

-- none begins in any place of the characters
amid : (c : ℕ) (rest : List ℕ) (k : ℕ) → is_character c ≡ true → k < length (encode c)
    → begins_forbidden (drop k (encode c ++ rest)) ≡ false
amid c rest zero h inside = first_byte c rest h
amid c rest (suc k) h inside =
    let bytes = encode c ++ rest in
    let there : suc k + 0 ≡ suc k = omega arith in
    let byte = get_or-drop (suc k) bytes 0 0 ∙ ap (λ n. get_or bytes n 0) there
    ∙ get_or_append_left (encode c) rest 0 (suc k) inside in
    let low = further_byte c (suc k) (omega arith) inside in
    no_first (at (drop (suc k) bytes) 0) (at (drop (suc k) bytes) 1) (at (drop (suc k) bytes) 2)
    (λ e. omega (arith, e, byte, low)) (λ e. omega (arith, e, byte, low)) (λ e. omega (arith, e, byte, low))

nowhere : (cs : List ℕ) (k : ℕ) → list_all is_character cs ≡ true → begins_forbidden (drop k (encodes cs)) ≡ false
nowhere [] k all = ap begins_forbidden (drop-nil k)
nowhere (c ∷ cs) k all =
    let both = and_parts (is_character c) _ all in
    elim (cases_lt k (length (encode c))) [
      | inl inside ↦ amid c (encodes cs) k both.0 inside
      | inr behind ↦
          let far : k ≡ length (encode c) + (k - length (encode c)) = omega (arith, behind) in
          ap (λ n. begins_forbidden (drop n (encode c ++ encodes cs))) far
          ∙ ap begins_forbidden (drop-append-add (encode c) (encodes cs) (k - length (encode c)))
          ∙ nowhere cs (k - length (encode c)) both.1
    ]

-- none begins in a text of the grammar's characters
pub nothing_forbidden : (text : List ℕ) (k : ℕ) → is_text text ≡ true → begins_forbidden (drop k text) ≡ false
nothing_forbidden text k h =
    let both = and_parts _ _ h in
    let same = encodes-chars text (IsUtf8-from_is_utf8 text both.0) in
    subst (λ t. begins_forbidden (drop k t) ≡ false) same (nowhere (chars text) k both.1)

pub nothing_in_rest : (text rest : List ℕ) (k : ℕ) → is_text text ≡ true → rest ≡ slice_range text k (length text)
    → begins_forbidden rest ≡ false
nothing_in_rest text rest k h there =
    ap begins_forbidden (there ∙ take_all (length text - k) (drop k text) (omega (arith, length-drop k text)))
    ∙ nothing_forbidden text k h

-- a text is all that stands from its beginning on
pub text_from_first : (text : List ℕ) (i : ℕ) → i ≡ 0 → is_text text ≡ true
    → is_text (slice_range text i (length text)) ≡ true
text_from_first text i first h =
    ap (λ n. is_text (slice_range text n (length text))) first
    ∙ ap is_text (take_all (length text - 0) text (omega arith)) ∙ h

-- a call that fails only where a fact is wanting does not fail
pub always_ok : {S E : Type 0} (P : S → Type 0) (Q : E → Type 0) (U : Type 0) (r : Result S E)
    → MatchResult r P (λ e. (¬ U) × Q e) → U → is_ok r ≡ true
always_ok P Q U (Ok s) m u = refl
always_ok P Q U (Err e) m u = absurd (m.0 u)
