-- The tag before a node, as it is written and as it is read.
use Rattle.std.proofs.Common.{ℕ, zero, suc, ◌+◌, ◌*◌, ◌<◌, ◌≤◌, ◌≡◌, ◌≢◌, ◌==◌, ◌&&◌, ◌||◌, inl, inr, Bool, true}
use Rattle.std.proofs.Common.{false, List, [], ◌∷◌, ◌++◌, Option, Some, None, refl, sym, ap, ap₂, ◌∙◌, arith}
use Rattle.std.proofs.Common.{append_assoc, append-nil, drop, get_or, length, not, nat_eq, nat_lt, slice_range}
use Rattle.std.proofs.lemmas.Bool.{cases_lt, eq-eqb, eqb-true, false_from_ne_true, lt-ltb}
use Rattle.std.proofs.lemmas.Bool.{ne_eqb}
use Rattle.std.proofs.lemmas.List.{get_or_past}
use Rattle.std.proofs.lemmas.List.Folds.{list_any_none}
use Rattle.std.proofs.lemmas.Str.{IsUtf8-from_ascii, IsUtf8-from_is_utf8, is_utf8-from_IsUtf8}
use Rattle.std.proofs.lemmas.Str.Ascii.{IsAscii-from_all}
use Rattle.std.specs.Char.{digit_value}
use Rattle.std.specs.List.{list_any}
use Rattle.std.specs.Option.{is_some, option_and_then, option_map}
use Rattle.std.specs.Prelude.{if◌then◌else◌}
use Rattle.std.specs.Str.{IsUtf8, is_utf8}
use Rattle.memchr.specs.Find.{Nowhere, Passes, is_byte}
use Rattle.yaml_base.specs.QuotedLines.{before, digits, none}
use Rattle.yaml_direct.specs.Bytes.{at}
use Rattle.yaml_direct.specs.Tags.{IsSimple, closed_end}
use Rattle.yaml_direct.proofs.NextLaws.{bytes_at}
use Rattle.yaml_grammar.specs.Names.{Handle, checked, core, count_while, decoded, ends_tag, handle_of, is_local}
use Rattle.yaml_grammar.specs.Names.{is_tag_byte, is_whole, local, opening_size, prefix_of, tag_at, tag_end, tag_of}
use Rattle.yaml_grammar.specs.Names.{verbatim}

-- two digits say an octet
first_digit : (c : ℕ) (cs : List ℕ) → nat_lt (digit_value c) 16 ≡ true
    → decoded (digits 2 0) (c ∷ cs) ≡ decoded (digits 1 (16 * 0 + digit_value c)) cs
first_digit c cs e = rw e refl

last_digit : (code c : ℕ) (cs : List ℕ) → nat_lt (digit_value c) 16 ≡ true
    → decoded (digits 1 code) (c ∷ cs) ≡ before ((16 * code + digit_value c) ∷ []) (decoded none cs)
last_digit code c cs e = rw e refl

digit_inside : (text : List ℕ) (i : ℕ) → digit_value (at text i) < 16 → i < length text
digit_inside text i less =
    elim (cases_lt i (length text)) [
      | inl inside ↦ inside
      | inr behind ↦ absurd (no_digit (ap digit_value (get_or_past text i 0 behind)))
    ]
  where
    no_digit : digit_value (at text i) ≡ 36 → ⊥
    no_digit e = omega (arith, less, e)

pub octet_read : (text : List ℕ) (place a b : ℕ) → a ≡ digit_value (at text place) → a < 16
    → b ≡ digit_value (at text (place + 1)) → b < 16
    → decoded (digits 2 0) (drop place text)
    ≡ before ((a * 16 + b) ∷ []) (decoded none (drop (place + 2) text))
octet_read text place a b first few second less =
    let one : place + 1 ≡ suc place = omega arith in
    let two : suc (suc place) ≡ place + 2 = omega arith in
    let c = at text place in
    let d = at text (suc place) in
    let second' : b ≡ digit_value d = second ∙ ap (λ k. digit_value (at text k)) one in
    let sum : 16 * (16 * 0 + digit_value c) + digit_value d ≡ a * 16 + b = omega (arith, first, second') in
    ap (decoded (digits 2 0)) (bytes_at text place (digit_inside text place (omega (arith, first, few))))
    ∙ first_digit c (drop (suc place) text) (lt-ltb (digit_value c) 16 (omega (arith, first, few)))
    ∙ ap (decoded (digits 1 (16 * 0 + digit_value c)))
    (bytes_at text (suc place) (digit_inside text (suc place) (omega (arith, second', less))))
    ∙ last_digit (16 * 0 + digit_value c) d (drop (suc (suc place)) text)
    (lt-ltb (digit_value d) 16 (omega (arith, second', less)))
    ∙ ap₂ (λ n k. before (n ∷ []) (decoded none (drop k text))) sum two

-- what was read of a tag's bytes up to a place was put behind a text
pub record UnescapedTo (written : List ℕ) (place : ℕ) (old now : List ℕ) : Type 0 where
  pub said : List ℕ
  pub added : now ≡ old ++ said
  pub read : decoded none written ≡ before said (decoded none (drop place written))

before_none : (o : Option (List ℕ)) → o ≡ before [] o
before_none None = refl
before_none (Some t) = refl

before_twice : (a b : List ℕ) (o : Option (List ℕ)) → before a (before b o) ≡ before (a ++ b) o
before_twice a b None = refl
before_twice a b (Some t) = ap (λ x. Some x) (sym (append_assoc a b t))

pub unescaped_none : (written old now : List ℕ) → now ≡ old → UnescapedTo written 0 old now
unescaped_none written old now e =
    record { said = []; added = e ∙ sym (append-nil old); read = before_none (decoded none written) }

own_byte : (c : ℕ) (cs : List ℕ) → c ≢ 37 → decoded none (c ∷ cs) ≡ before (c ∷ []) (decoded none cs)
own_byte c cs e = rw (ne_eqb c 37 e) refl

percent : (cs : List ℕ) → decoded none (37 ∷ cs) ≡ decoded (digits 2 0) cs
percent cs = refl

pub unescaped_byte : (written : List ℕ) (place : ℕ) (old now more : List ℕ) (c : ℕ) → place < length written
    → c ≡ at written place → c ≢ 37 → more ≡ now ++ c ∷ [] → UnescapedTo written place old now
    → UnescapedTo written (place + 1) old more
unescaped_byte written place old now more c inside is other added u =
    let one : suc place ≡ place + 1 = omega arith in record {
      said = u.said ++ c ∷ [];
      added = added ∙ ap (λ x. x ++ c ∷ []) u.added ∙ append_assoc old u.said (c ∷ []);
      read = u.read
          ∙ ap (before u.said) (ap (decoded none) (bytes_at written place inside
          ∙ ap (λ b. b ∷ drop (suc place) written) (sym is))
          ∙ own_byte c (drop (suc place) written) other
          ∙ ap (λ k. before (c ∷ []) (decoded none (drop k written))) one)
          ∙ before_twice u.said (c ∷ []) (decoded none (drop (place + 1) written));
    }

percent_at : (written : List ℕ) (place : ℕ) → place < length written → at written place ≡ 37
    → decoded none (drop place written) ≡ decoded (digits 2 0) (drop (place + 1) written)
percent_at written place inside is =
    let one : suc place ≡ place + 1 = omega arith in
    ap (decoded none) (bytes_at written place inside ∙ ap (λ b. b ∷ drop (suc place) written) is)
    ∙ percent (drop (suc place) written)
    ∙ ap (λ k. decoded (digits 2 0) (drop k written)) one

pub unescaped_octet : (written : List ℕ) (place : ℕ) (old now more : List ℕ) (o : ℕ) → place < length written
    → at written place ≡ 37 → more ≡ now ++ o ∷ []
    → decoded (digits 2 0) (drop (place + 1) written)
    ≡ before (o ∷ []) (decoded none (drop (place + 1 + 2) written)) → UnescapedTo written place old now
    → UnescapedTo written (place + 3) old more
unescaped_octet written place old now more o inside is added read u =
    let three : place + 1 + 2 ≡ place + 3 = omega arith in record {
      said = u.said ++ o ∷ [];
      added = added ∙ ap (λ x. x ++ o ∷ []) u.added ∙ append_assoc old u.said (o ∷ []);
      read = u.read
          ∙ ap (before u.said) (percent_at written place inside is ∙ read
          ∙ ap (λ k. before (o ∷ []) (decoded none (drop k written))) three)
          ∙ before_twice u.said (o ∷ []) (decoded none (drop (place + 3) written));
    }

pub checked_text : (bytes : List ℕ) → Nowhere (Passes (is_byte 0) bytes) 0 (length bytes) → IsUtf8 bytes
    → checked bytes ≡ Some bytes
checked_text bytes nowhere u =
    let utf8 = is_utf8-from_IsUtf8 bytes u in
    let zero_free : list_any (nat_eq 0) bytes ≡ false =
    list_any_none (nat_eq 0) bytes (λ k d inside. ap (nat_eq 0) (same_item bytes k d inside)
    ∙ other (at bytes k) (λ e. nowhere k (omega arith) inside (eq-eqb (at bytes k) 0 e))) in
    rw (utf8, zero_free) refl
  where
    other : (c : ℕ) → c ≢ 0 → nat_eq 0 c ≡ false
    other c e = ne_eqb 0 c (λ f. e (sym f))

    same_item : (xs : List ℕ) (k d : ℕ) → k < length xs → get_or xs k d ≡ get_or xs k 0
    same_item [] k d h = absurd (omega (arith, h))
    same_item (x ∷ xs) zero d h = refl
    same_item (x ∷ xs) (suc k) d h = same_item xs k d (omega (arith, h))

pub checked_other : (bytes : List ℕ) → (IsUtf8 bytes → ⊥) → false ≡ is_some (checked bytes)
checked_other bytes refused =
    let none_here : is_utf8 bytes ≡ false =
    false_from_ne_true (is_utf8 bytes) (λ e. refused (IsUtf8-from_is_utf8 bytes e)) in
    rw none_here refl

-- a tag whose bytes stand for themselves
plain_bytes : (bytes : List ℕ) → Nowhere (Passes (is_byte 37) bytes) 0 (length bytes)
    → ◌≡◌ {A = Option (List ℕ)} (decoded none bytes) (Some bytes)
plain_bytes [] nowhere = refl
plain_bytes (c ∷ cs) nowhere =
    own_byte c cs (λ e. nowhere 0 (omega arith) (omega arith) (eq-eqb c 37 e))
    ∙ ap (before (c ∷ [])) (plain_bytes cs (λ k low high. nowhere (suc k) (omega arith) (omega (arith, high))))

pub tag_plain : (prefix suffix : List ℕ) → Nowhere (Passes (is_byte 37) suffix) 0 (length suffix) → IsSimple suffix
    → tag_of prefix suffix ≡ Some (prefix ++ suffix)
tag_plain prefix suffix nowhere simple =
    let utf8 = IsUtf8-from_ascii suffix (IsAscii-from_all suffix (λ k d h. (simple k d h).1)) in
    let some = checked_text suffix (λ k low high e. absurd (omega (
      arith,
      (simple k 0 high).0,
      eqb-true
          (at suffix k) 0 e,
    ))) utf8 in
    ap (λ o. option_map (λ t. prefix ++ t) (option_and_then checked o)) (plain_bytes suffix nowhere)
    ∙ ap (option_map (λ t. prefix ++ t)) some

-- the tag that is written so
abbrev pub tag_by : List ℕ → (flow : Bool) → Handle → (start stop : ℕ) → Option (List ℕ × ℕ)
tag_by text flow handle start stop =
    let end = tag_end handle stop in
    if (is_local handle || nat_lt start stop) && ((not (is_whole handle) || at text stop == 62)
    && ends_tag flow (at text end))
    then option_map (λ t. (t, end)) (tag_of (prefix_of handle) (slice_range text start stop)) else None

pub tag_is : (text : List ℕ) (flow : Bool) (from start stop : ℕ) (handle : Handle)
    → handle ≡ handle_of (at text (from + 1)) → start ≡ from + opening_size handle
    → stop ≡ start + count_while (is_tag_byte (is_whole handle)) (drop start text)
    → tag_at text flow from ≡ tag_by text flow handle start stop
tag_is text flow from start stop handle is begins ends =
    let one : from + 1 ≡ suc from = omega arith in
    let same : handle_of (at text (suc from)) ≡ handle = sym (is ∙ ap (λ k. handle_of (at text k)) one) in
    by_handle (handle_of (at text (suc from))) same
  where
    by_handle : (h : Handle) → h ≡ handle
        → tag_by text flow h (from + opening_size h)
        (from + opening_size h + count_while (is_tag_byte (is_whole h)) (drop (from + opening_size h) text))
        ≡ tag_by text flow handle start stop
    by_handle h e =
        ap (λ x. tag_by text flow x (from + opening_size x)
        (from + opening_size x + count_while (is_tag_byte (is_whole x)) (drop (from + opening_size x) text))) e
        ∙ ap (λ k. tag_by text flow handle k (k + count_while (is_tag_byte (is_whole handle)) (drop k text))) (sym begins)
        ∙ ap (tag_by text flow handle start) (sym ends)

some_text : (handle : Handle) (start stop : ℕ) → (stop ≡ start → is_local handle ≡ true) → start ≤ stop
    → (is_local handle || nat_lt start stop) ≡ true
some_text handle start stop some low =
    elim (cases_lt start stop) [
      | inl less ↦ by_local (is_local handle) (nat_lt start stop) (lt-ltb start stop less)
      | inr over ↦ (let e = some (omega (arith, over, low)) in rw e refl)
    ]
  where
    by_local : (a b : Bool) → b ≡ true → (a || b) ≡ true
    by_local true b e = refl
    by_local false b e = e

-- a tag that ends, or does not
pub record IsClosed (text : List ℕ) (handle : Handle) (stop end : ℕ) : Type 0 where
  pub end_is : end ≡ tag_end handle stop
  pub closed : (not (is_whole handle) || at text stop == 62) ≡ true

pub closed_is : (text : List ℕ) (handle : Handle) (stop end : ℕ) → closed_end text handle stop ≡ Some end
    → IsClosed text handle stop end
closed_is text verbatim stop end e = by_close (at text stop == 62) refl
  where
    same : (a b : ℕ) → ◌≡◌ {A = Option ℕ} (Some a) (Some b) → a ≡ b
    same a b f = cc

    no_none : (b : ℕ) → ◌≡◌ {A = Option ℕ} None (Some b) → ⊥
    no_none b f = cc

    by_close : (b : Bool) → (at text stop == 62) ≡ b → IsClosed text verbatim stop end
    by_close true f =
        let there = same (stop + 1) end (sym (ap (λ (c : Bool). if c then Some (stop + 1) else None) f) ∙ e) in
        record { end_is = omega (arith, there); closed = f }
    by_close false f = absurd (no_none end (sym (ap (λ (c : Bool). if c then Some (stop + 1) else None) f) ∙ e))
closed_is text core stop end e = record { end_is = same end stop (sym e); closed = refl }
  where
    same : (a b : ℕ) → ◌≡◌ {A = Option ℕ} (Some a) (Some b) → a ≡ b
    same a b f = cc
closed_is text local stop end e = record { end_is = same end stop (sym e); closed = refl }
  where
    same : (a b : ℕ) → ◌≡◌ {A = Option ℕ} (Some a) (Some b) → a ≡ b
    same a b f = cc

pub ended_tag : (text : List ℕ) (flow : Bool) (handle : Handle) (start stop end : ℕ) (ends : Bool)
    → (stop ≡ start → is_local handle ≡ true) → start ≤ stop → IsClosed text handle stop end
    → ends_tag flow (at text end) ≡ ends
    → tag_by text flow handle start stop ≡ (if ends then option_map {U = List ℕ × ℕ} (λ t. (t, end))
    (tag_of (prefix_of handle) (slice_range text start stop)) else None)
ended_tag text flow handle start stop end ends some low c e =
    by_end (tag_end handle stop) (sym c.end_is)
  where
    by_end : (k : ℕ) → k ≡ end
        → (if (is_local handle || nat_lt start stop) && ((not (is_whole handle) || at text stop == 62)
        && ends_tag flow (at text k))
        then option_map {U = List ℕ × ℕ} (λ t. (t, k)) (tag_of (prefix_of handle) (slice_range text start stop)) else None)
        ≡ (if ends then option_map {U = List ℕ × ℕ} (λ t. (t, end)) (tag_of (prefix_of handle) (slice_range text start stop)) else None)
    by_end k same = rw (some_text handle start stop some low, c.closed, same, e) refl
