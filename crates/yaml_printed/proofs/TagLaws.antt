-- What is printed of a tag is read as the tag.
use Rattle.std.proofs.Common.{◌≡◌, ℕ, suc, ◌+◌, ◌-◌, ◌*◌, ◌/◌, ◌%◌, ◌<◌, Bool, true, false, not, ◌==◌, ◌&&◌, ◌||◌}
use Rattle.std.proofs.Common.{refl, sym, subst, ap, ap₂, ◌∙◌, arith, List, [], ◌∷◌, ◌++◌, length, drop, take, get_or}
use Rattle.std.proofs.Common.{append-nil, Option, None, Some}
use Rattle.std.proofs.Common.{nat_eq, nat_lt, codes, append_assoc}
use Rattle.std.proofs.lemmas.Bool.{and_from, and_parts, eqb-true, false≢true, lt-ltb, ltb-true, ne_eqb}
use Rattle.std.proofs.lemmas.List.{length-append, length-drop}
use Rattle.std.specs.Fmt.{digit_glyph}
use Rattle.std.specs.List.{flat_map, list_all, list_any, starts_with}
use Rattle.std.specs.Prelude.{if◌then◌else◌, option_map}
use Rattle.std.specs.Str.{IsUtf8}
use Rattle.std.specs.Prelude.{slice_range}
use Rattle.std.proofs.lemmas.Str.{IsCharBoundary-after_ascii, IsUtf8-drop, is_utf8-from_IsUtf8}
use Rattle.std.proofs.Math.Seq.{take-append_seam}
use Rattle.yaml_base.specs.QuotedLines.{none}
use Rattle.yaml_grammar.specs.Bytes.{at, is_gap, is_one_of}
use Rattle.yaml_emit.specs.PrintedTexts.{hex_digits}
use Rattle.yaml_emit.specs.Tags.{closing, goes_on, is_tag_byte, opening, printed_tag, suffix_of, tag_byte}
use Rattle.yaml_emit.specs.declared.tag.Handle.{Handle}
use Rattle.yaml_emit.specs.declared.tag.Handle.TheVariants.{Local, Core, Verbatim}
use Rattle.yaml_grammar.specs.Names.{Handle as Way, checked, core, count_while, decoded, ends_tag, is_local}
use Rattle.yaml_grammar.specs.Names.{is_name_byte, is_whole, local}
use Rattle.yaml_grammar.specs.Names.{opening_size, prefix_of, tag_at, tag_end, tag_of, verbatim}
use Rattle.yaml_grammar.specs.Names as grammar
use Rattle.yaml_printed.specs.Printable.{IsTag, a_tag}
use Rattle.yaml_printed.proofs.Rests.{Rest, rest_at, rest_is, rest_on, rest_skip}
use Rattle.yaml_printed.proofs.ByteLaws.{all_append}
use Rattle.yaml_printed.proofs.TagBytes.{BehindTag, a_line, a_word, is_byte, text_bytes, all_drop, none_drop, tag_read}
use Rattle.yaml_printed.proofs.TagBytes.{tag_no_percent, digit_read, digit_is}

or_assoc_true : (x y z : Bool) → (x || y) ≡ true → (x || (y || z)) ≡ true
or_assoc_true true y z h = refl
or_assoc_true false true z h = refl
or_assoc_true false false z h = absurd (false≢true h)

or_left : (x y : Bool) → x ≡ true → (x || y) ≡ true
or_left x y h = rw h refl

byte_read : (w : Bool) (c : ℕ) → c < 256 → list_all (grammar.is_tag_byte w) (tag_byte c) ≡ true
byte_read w c h = either (is_tag_byte c) refl
  where
    either : (b : Bool) → is_tag_byte c ≡ b → list_all (grammar.is_tag_byte w)
        (if b then c ∷ [] else 37 ∷ hex_digits c) ≡ true
    either true e =
        and_from (grammar.is_tag_byte w c) true
        (or_assoc_true (is_name_byte c) (is_one_of (codes ";/?:@&=+$.~*'()%") c) (w && is_one_of (codes ",[]!") c)
        (tag_read c e)) refl
    either false e =
        let one : grammar.is_tag_byte w (digit_glyph true (c / 16)) ≡ true
        = or_left (is_name_byte (digit_glyph true (c / 16))) _ (digit_read (c / 16) (omega arith)) in
        let two : grammar.is_tag_byte w (digit_glyph true (c % 16)) ≡ true
        = or_left (is_name_byte (digit_glyph true (c % 16))) _ (digit_read (c % 16) (omega arith)) in
        and_from (grammar.is_tag_byte w (digit_glyph true (c / 16))) _ one
        (and_from (grammar.is_tag_byte w (digit_glyph true (c % 16))) true two refl)

body_read : (w : Bool) (xs : List ℕ) → list_all is_byte xs ≡ true
    → list_all (grammar.is_tag_byte w) (flat_map tag_byte xs) ≡ true
body_read w [] h = refl
body_read w (x ∷ xs) h =
    let p = and_parts (is_byte x) (list_all is_byte xs) h in
    all_append (grammar.is_tag_byte w) (tag_byte x) (flat_map tag_byte xs) (byte_read w x (ltb-true x 256 p.0))
    (body_read w xs p.1)

count_front : (p : ℕ → Bool) (xs : List ℕ) (z : ℕ) (zs : List ℕ) → list_all p xs ≡ true → p z ≡ false
    → count_while p (xs ++ (z ∷ zs)) ≡ length xs
count_front p [] z zs h e = rw e refl
count_front p (x ∷ xs) z zs h e =
    let q = and_parts (p x) (list_all p xs) h in
    rw q.0 (ap suc (count_front p xs z zs q.1 e))

decoded_byte : (c : ℕ) (rest said : List ℕ) → c < 256 → decoded none rest ≡ Some said
    → decoded none (tag_byte c ++ rest) ≡ Some (c ∷ said)
decoded_byte c rest said h e = either (is_tag_byte c) refl
  where
    value : 16 * (16 * 0 + c / 16) + c % 16 ≡ c
    value = omega arith

    either : (b : Bool) → is_tag_byte c ≡ b → decoded none ((if b then c ∷ [] else 37 ∷ hex_digits c) ++ rest)
        ≡ Some (c ∷ said)
    either true f = rw (tag_no_percent c f, e) refl
    either false f =
        rw (
          digit_is (c / 16) (omega arith),
          digit_is (c % 16) (omega arith),
          lt-ltb (c / 16) 16 (omega arith),
          lt-ltb (c % 16) 16 (omega arith),
          e,
          value,
        ) refl

body_decoded : (xs : List ℕ) → list_all is_byte xs ≡ true → decoded none (flat_map tag_byte xs) ≡ Some xs
body_decoded [] h = refl
body_decoded (x ∷ xs) h =
    let p = and_parts (is_byte x) (list_all is_byte xs) h in
    decoded_byte x (flat_map tag_byte xs) xs (ltb-true x 256 p.0) (body_decoded xs p.1)

-- a part of the tag behind a prefix
tag_said : (prefix xs : List ℕ) → list_all is_byte xs ≡ true → IsUtf8 xs → list_any (nat_eq 0) xs ≡ false
    → tag_of prefix (flat_map tag_byte xs) ≡ Some (prefix ++ xs)
tag_said prefix xs h u z = rw (body_decoded xs h, is_utf8-from_IsUtf8 xs u, z) refl

-- what follows is no byte of a tag
stops : (w : Bool) (ys : List ℕ) → BehindTag ys → (z : ℕ) × (zs : List ℕ) × (ys ≡ z ∷ zs) ×
    (grammar.is_tag_byte w z ≡ false) × (is_gap z ≡ true)
stops true _ (a_line {xs = xs}) = (10, xs, refl, refl, refl)
stops false _ (a_line {xs = xs}) = (10, xs, refl, refl, refl)
stops true _ (a_word {c = c} {cs = cs} w) = (32, c ∷ cs, refl, refl, refl)
stops false _ (a_word {c = c} {cs = cs} w) = (32, c ∷ cs, refl, refl, refl)

-- what begins no other kind of tag
plain_local : (b : ℕ) → (b == 60) ≡ false → (b == 33) ≡ false → grammar.handle_of b ≡ local
plain_local b x y = rw (x, y) refl

no_byte : (w : Bool) (k b : ℕ) → grammar.is_tag_byte w k ≡ false → grammar.is_tag_byte w b ≡ true → (b == k) ≡ false
no_byte w k b h g = ne_eqb b k (λ e. absurd (false≢true (sym h ∙ (ap (grammar.is_tag_byte w) (sym e) ∙ g))))

local_first : {text : List ℕ} {i : ℕ} (xs ys : List ℕ) → list_all (grammar.is_tag_byte false) xs ≡ true → BehindTag ys
    → Rest text i (xs ++ ys) → grammar.handle_of (at text i) ≡ local
local_first [] _ h (a_line {xs = xs}) r = plain_local _ (ap (λ b. b == 60) (rest_at r)) (ap (λ b. b == 33) (rest_at r))
local_first [] _ h (a_word {c = c} {cs = cs} w) r =
    plain_local _ (ap (λ b. b == 60) (rest_at r)) (ap (λ b. b == 33) (rest_at r))
local_first (x ∷ xs) ys h b r =
    let p = and_parts (grammar.is_tag_byte false x) (list_all (grammar.is_tag_byte false) xs) h in
    plain_local _ (ap (λ b. b == 60) (rest_at r) ∙ no_byte false 60 x refl p.0)
    (ap (λ b. b == 33) (rest_at r) ∙ no_byte false 33 x refl p.0)

prefix_is : (p xs : List ℕ) → starts_with nat_eq xs p ≡ true → xs ≡ p ++ drop (length p) xs
prefix_is [] xs h = refl
prefix_is (a ∷ p) [] h = absurd (false≢true h)
prefix_is (a ∷ p) (x ∷ xs) h =
    let q = and_parts (nat_eq a x) (starts_with nat_eq xs p) h in
    ap₂ (λ c l. c ∷ l) (sym (eqb-true a x q.0)) (prefix_is p xs q.1)

-- a tag whose text ends where it does
abbrev tag_by : List ℕ → (i : ℕ) → (way : Way) → (start stop : ℕ) → Option (List ℕ × ℕ)
tag_by text i way start stop =
    let end = tag_end way stop in
    if (is_local way || nat_lt start stop) && ((not (is_whole way) || at text stop == 62)
    && ends_tag false (at text end))
    then option_map (λ t. (t, end)) (tag_of (prefix_of way) (slice_range text start stop)) else None

abbrev tag_from : List ℕ → (i : ℕ) → (way : Way) → Option (List ℕ × ℕ)
tag_from text i way =
    tag_by text i way (i + opening_size way)
    (i + opening_size way + count_while (grammar.is_tag_byte (is_whole way)) (drop (i + opening_size way) text))

way_is : (text : List ℕ) (i : ℕ) (way : Way) → grammar.handle_of (at text (suc i)) ≡ way
    → tag_at text false i ≡ tag_from text i way
way_is text i way e = ap (tag_from text i) e

slice_front : {text : List ℕ} {start : ℕ} (xs ys : List ℕ) → Rest text start (xs ++ ys)
    → slice_range text start (start + length xs) ≡ xs
slice_front {start = start} xs ys r =
    let size : start + length xs - start ≡ length xs = omega arith in
    ap (take (start + length xs - start)) r.same ∙ (ap (λ n. take n (xs ++ ys)) size ∙ take-append_seam xs ys)

counted : {text : List ℕ} {start : ℕ} (w : Bool) (xs : List ℕ) (z : ℕ) (zs : List ℕ)
    → list_all (grammar.is_tag_byte w) xs ≡ true → grammar.is_tag_byte w z ≡ false → Rest text start (xs ++ (z ∷ zs))
    → count_while (grammar.is_tag_byte w) (drop start text) ≡ length xs
counted w xs z zs h e r =
    ap (count_while (grammar.is_tag_byte w)) r.same ∙ count_front (grammar.is_tag_byte w) xs z zs h e

tag_local : (text : List ℕ) (i : ℕ) (xs : List ℕ) (z : ℕ) (zs t : List ℕ) → Rest text (i + 1) (xs ++ (z ∷ zs))
    → is_gap z ≡ true
    → tag_of (codes "!") xs ≡ Some t → tag_by text i local (i + 1) (i + 1 + length xs) ≡ Some (t, i + 1 + length xs)
tag_local text i xs z zs t r gap said =
    rw (rest_at (rest_skip xs r), gap, slice_front xs (z ∷ zs) r, said) refl

tag_core : (text : List ℕ) (i : ℕ) (xs : List ℕ) (z : ℕ) (zs t : List ℕ) → Rest text (i + 2) (xs ++ (z ∷ zs))
    → is_gap z ≡ true
    → 0 < length xs → tag_of (codes "tag:yaml.org,2002:") xs ≡ Some t
    → tag_by text i core (i + 2) (i + 2 + length xs) ≡ Some (t, i + 2 + length xs)
tag_core text i xs z zs t r gap some said =
    rw (
      lt-ltb (i + 2) (i + 2 + length xs) (omega arith),
      rest_at (rest_skip xs r),
      gap,
      slice_front xs (z ∷ zs) r,
      said,
    ) refl

tag_whole : (text : List ℕ) (i : ℕ) (xs : List ℕ) (z : ℕ) (zs t : List ℕ) → Rest text (i + 2) (xs ++ (62 ∷ z ∷ zs))
    → is_gap z ≡ true → 0 < length xs → tag_of [] xs ≡ Some t
    → tag_by text i verbatim (i + 2) (i + 2 + length xs) ≡ Some (t, suc (i + 2 + length xs))
tag_whole text i xs z zs t r gap some said =
    rw (
      lt-ltb (i + 2) (i + 2 + length xs) (omega arith),
      rest_at (rest_skip xs r),
      rest_at (rest_on (rest_skip xs r)),
      gap,
      slice_front xs (62 ∷ z ∷ zs) r,
      said,
    ) refl

body_size : (xs : List ℕ) → 0 < length xs → 0 < length (flat_map tag_byte xs)
body_size [] h = absurd (omega (arith, h))
body_size (x ∷ xs) h = either (is_tag_byte x)
  where
    either : (b : Bool) → 0 < length ((if b then x ∷ [] else 37 ∷ hex_digits x) ++ flat_map tag_byte xs)
    either true = omega arith
    either false = omega arith

rest_from : {text : List ℕ} {i j : ℕ} {xs : List ℕ} → i ≡ j → Rest text i xs → Rest text j xs
rest_from {text = text} {xs = xs} e r = subst (λ k. Rest text k xs) e r

same_tag : (t s : List ℕ) (m n : ℕ) → t ≡ s → m ≡ n → ◌≡◌ {A = Option (List ℕ × ℕ)} (Some (t, m)) (Some (s, n))
same_tag t s m n e f = ap₂ (λ x y. Some (x, y)) e f

module _ {text : List ℕ} {i : ℕ} (t ys : List ℕ) (bytes : list_all is_byte t ≡ true) (u : IsUtf8 t)
    (z : list_any (nat_eq 0) t ≡ false) (b : BehindTag ys) where
  local_is : t ≡ 33 ∷ drop 1 t → IsUtf8 (drop 1 t) → (xs : List ℕ) → xs ≡ flat_map tag_byte (drop 1 t)
      → Rest text i (33 ∷ (xs ++ ys)) → tag_at text false i ≡ Some (t, i + 1 + length xs)
  local_is begins u1 xs e r =
      let read : list_all (grammar.is_tag_byte false) xs ≡ true
      = ap (list_all (grammar.is_tag_byte false)) e ∙ body_read false (drop 1 t) (all_drop is_byte 1 t bytes) in
      let s = stops false ys b in
      let r1 : Rest text (i + 1) (xs ++ ys) = rest_from (omega arith) (rest_on r) in
      let r2 : Rest text (i + 1) (xs ++ (s.0 ∷ s.1)) = rest_is (ap (λ l. xs ++ l) s.2) r1 in
      let said : tag_of (codes "!") xs ≡ Some (33 ∷ drop 1 t)
      = ap (tag_of (codes "!")) e ∙ tag_said (codes "!") (drop 1 t) (all_drop is_byte 1 t bytes) u1
      (none_drop (nat_eq 0) 1 t z) in
      way_is text i local (local_first xs ys read b (rest_on r))
      ∙ (ap (λ n. tag_by text i local (i + 1) (i + 1 + n)) (counted false xs s.0 s.1 read s.3 r2)
      ∙ (tag_local text i xs s.0 s.1 (33 ∷ drop 1 t) r2 s.4 said ∙ same_tag (33 ∷ drop 1 t) t _ _ (sym begins) refl))

  core_is : t ≡ codes "tag:yaml.org,2002:" ++ drop 18 t → IsUtf8 (drop 18 t) → 0 < length (drop 18 t) → (xs : List ℕ)
      → xs ≡ flat_map tag_byte (drop 18 t) → Rest text i (33 ∷ 33 ∷ (xs ++ ys))
      → tag_at text false i ≡ Some (t, i + 2 + length xs)
  core_is begins u1 some xs e r =
      let read : list_all (grammar.is_tag_byte false) xs ≡ true
      = ap (list_all (grammar.is_tag_byte false)) e ∙ body_read false (drop 18 t) (all_drop is_byte 18 t bytes) in
      let s = stops false ys b in
      let r1 : Rest text (i + 2) (xs ++ ys) = rest_from (omega arith) (rest_on (rest_on r)) in
      let r2 : Rest text (i + 2) (xs ++ (s.0 ∷ s.1)) = rest_is (ap (λ l. xs ++ l) s.2) r1 in
      let said : tag_of (codes "tag:yaml.org,2002:") xs ≡ Some (codes "tag:yaml.org,2002:" ++ drop 18 t)
      = ap (tag_of (codes "tag:yaml.org,2002:")) e
      ∙ tag_said (codes "tag:yaml.org,2002:") (drop 18 t) (all_drop is_byte 18 t bytes) u1
      (none_drop (nat_eq 0) 18 t z) in
      let size : 0 < length xs = subst (λ l. 0 < length l) (sym e) (body_size (drop 18 t) some) in
      way_is text i core (ap grammar.handle_of (rest_at (rest_on r)))
      ∙ (ap (λ n. tag_by text i core (i + 2) (i + 2 + n)) (counted false xs s.0 s.1 read s.3 r2)
      ∙ (tag_core text i xs s.0 s.1 (codes "tag:yaml.org,2002:" ++ drop 18 t) r2 s.4 size said
      ∙ same_tag (codes "tag:yaml.org,2002:" ++ drop 18 t) t _ _ (sym begins) refl))

  whole_is : 0 < length t → (xs : List ℕ) → xs ≡ flat_map tag_byte t → Rest text i (33 ∷ 60 ∷ (xs ++ (62 ∷ ys)))
      → tag_at text false i ≡ Some (t, suc (i + 2 + length xs))
  whole_is some xs e r =
      let read : list_all (grammar.is_tag_byte true) xs ≡ true
      = ap (list_all (grammar.is_tag_byte true)) e ∙ body_read true t bytes in
      let s = stops true ys b in
      let r1 : Rest text (i + 2) (xs ++ (62 ∷ ys)) = rest_from (omega arith) (rest_on (rest_on r)) in
      let r2 : Rest text (i + 2) (xs ++ (62 ∷ s.0 ∷ s.1)) = rest_is (ap (λ l. xs ++ (62 ∷ l)) s.2) r1 in
      let said : tag_of [] xs ≡ Some t = ap (tag_of []) e ∙ tag_said [] t bytes u z in
      let size : 0 < length xs = subst (λ l. 0 < length l) (sym e) (body_size t some) in
      way_is text i verbatim (ap grammar.handle_of (rest_at (rest_on r)))
      ∙ (ap (λ n. tag_by text i verbatim (i + 2) (i + 2 + n)) (counted true xs 62 (s.0 ∷ s.1) read refl r2)
      ∙ tag_whole text i xs s.0 s.1 t r2 s.4 size said)

abbrev printed_by : (h : Handle) → (t : List ℕ) → List ℕ
printed_by h t = opening h ++ (flat_map tag_byte (suffix_of h t) ++ closing h)

ascii_drop : (n : ℕ) (t : List ℕ) → IsUtf8 t → n < length t → get_or t n 0 < 128 → IsUtf8 (drop (n + 1) t)
ascii_drop n t u l a = IsUtf8-drop t (n + 1) u (IsCharBoundary-after_ascii t n u l a)

length_drop_some : (n : ℕ) (t : List ℕ) → n < length t → 0 < length (drop n t)
length_drop_some n t l = omega (arith, length-drop n t)

handle_reads : {text : List ℕ} {i : ℕ} (t ys : List ℕ) → list_all is_byte t ≡ true → IsUtf8 t
    → list_any (nat_eq 0) t ≡ false
    → BehindTag ys → 0 < length t → (x y : Bool) → goes_on (codes "!") t ≡ x
    → goes_on (codes "tag:yaml.org,2002:") t ≡ y
    → Rest text i (printed_by (if x then Local else if y then Core else Verbatim) t ++ ys)
    → tag_at text false i ≡ Some (t, i + length (printed_by (if x then Local else if y then Core else Verbatim) t))
handle_reads {text = text} {i = i} t ys bytes u z b some true y e f r =
    let p = and_parts (nat_lt 1 (length t)) (starts_with nat_eq t (codes "!")) e in
    let begins : t ≡ 33 ∷ drop 1 t = prefix_is (codes "!") t p.1 in
    let first : get_or t 0 0 ≡ 33 = ap (λ l. get_or l 0 0) begins in
    let xs = flat_map tag_byte (drop 1 t) ++ [] in
    local_is t ys bytes u z b begins (ascii_drop 0 t u some (omega (arith, first))) xs
    (append-nil (flat_map tag_byte (drop 1 t))) r
    ∙ same_tag t t _ _ refl (omega arith)
handle_reads {text = text} {i = i} t ys bytes u z b some false true e f r =
    let p = and_parts (nat_lt 18 (length t)) (starts_with nat_eq t (codes "tag:yaml.org,2002:")) f in
    let begins : t ≡ codes "tag:yaml.org,2002:" ++ drop 18 t = prefix_is (codes "tag:yaml.org,2002:") t p.1 in
    let last : get_or t 17 0 ≡ 58 = ap (λ l. get_or l 17 0) begins in
    let long = ltb-true 18 (length t) p.0 in
    let xs = flat_map tag_byte (drop 18 t) ++ [] in
    core_is t ys bytes u z b begins (ascii_drop 17 t u (omega (arith, long)) (omega (arith, last)))
    (length_drop_some 18 t long) xs (append-nil (flat_map tag_byte (drop 18 t))) r
    ∙ same_tag t t _ _ refl (omega arith)
handle_reads {text = text} {i = i} t ys bytes u z b some false false e f r =
    let xs = flat_map tag_byte t in
    let r1 : Rest text i (33 ∷ 60 ∷ (xs ++ (62 ∷ ys)))
    = rest_is (ap (λ l. 33 ∷ 60 ∷ l) (append_assoc xs (62 ∷ []) ys)) r in
    whole_is t ys bytes u z b some xs refl r1 ∙ same_tag t t _ _ refl (omega (arith, length-append xs (62 ∷ [])))

-- the tag is read
pub tag_is : {text : List ℕ} {i : ℕ} {ys : List ℕ} (t : List ℕ) → IsTag (Some t) → Rest text i (printed_tag t ++ ys)
    → BehindTag ys → tag_at text false i ≡ Some (t, i + length (printed_tag t))
tag_is {ys = ys} _ (a_tag {c = c} {cs = cs} u z) r b =
    handle_reads (c ∷ cs) ys (text_bytes (c ∷ cs) u) u z b (omega arith) (goes_on (codes "!") (c ∷ cs))
    (goes_on (codes "tag:yaml.org,2002:") (c ∷ cs)) refl refl r
