-- A text that the emitter prints without quotes is plain text of the grammar.
use Rattle.std.proofs.Common.{◌≡◌, ℕ, suc, ◌+◌, ◌-◌, ◌<◌, ◌≤◌, Bool, true, false, not, ◌==◌, ◌&&◌, ◌||◌, refl, sym}
use Rattle.std.proofs.Common.{ap, ◌∙◌, arith, List, [], ◌∷◌, ◌++◌, length, codes, nat_eq, drop, Some}
use Rattle.std.proofs.lemmas.Bool.{and_from, and_parts, or_parts, or_from, false≢true, ne_eqb}
use Rattle.std.specs.List.{list_all, starts_with}
use Rattle.std.specs.Prelude.{slice_get}
use Rattle.std.specs.Str.{IsUtf8, chars}
use Rattle.yaml_base.specs.declared.event.ScalarStyle.TheVariants as style
use Rattle.yaml_emit.specs.Characters.{is_printable}
use Rattle.yaml_emit.specs.Styles.{begins_otherwise, ends_with_byte, fits_plain, has_behind, is_byte, is_dash, is_first}
use Rattle.yaml_emit.specs.Styles.{stand_side_by_side}
use Rattle.yaml_emit.specs.Styles as emit
use Rattle.yaml_grammar.specs.Bytes.{at, column, is_gap, is_indicator, is_one_of, is_triple, parts}
use Rattle.yaml_grammar.specs.Folding.{nothing_passed}
use Rattle.yaml_grammar.specs.Folding as folding
use Rattle.yaml_grammar.specs.Leaves.{in_style, leaf_at}
use Rattle.yaml_grammar.specs.Plain.{Context, begins_plain, is_flow, plain_rest}
use Rattle.yaml_grammar.specs.PlainLines.{fits_line}
use Rattle.std.proofs.lemmas.List.{get_or-drop}
use Rattle.yaml_grammar.proofs.LineLaws.{IsWord, word_is}
use Rattle.yaml_grammar.proofs.PlainLaws.{Ends, not_true, plain_some}
use Rattle.yaml_grammar.proofs.RestLaws.{some_rest}
use Rattle.yaml_printed.proofs.ByteLaws.{text_all}
use Rattle.yaml_printed.proofs.Rests.{Rest, rest_at}
use Rattle.yaml_printed.proofs.Words.{and_no}

-- no tab, no line feed and no byte 0
abbrev pub is_shown : ℕ → Bool
is_shown b = not (b == 9 || (b == 10 || b == 0))

pub beyond_shown : (b : ℕ) → 128 ≤ b → b < 256 → is_shown b ≡ true
beyond_shown b h top =
    rw (
      ne_eqb b 9 (λ e. absurd (omega arith)),
      ne_eqb b 10 (λ e. absurd (omega arith)),
      ne_eqb b 0
          (λ e. absurd (omega arith)),
    ) refl

pub printable_shown : (c : ℕ) → is_printable c ≡ true → c < 128 → is_shown c ≡ true
printable_shown c h lt =
    let no : (k : ℕ) → is_printable k ≡ false → (c == k) ≡ false
    = λ k none. ne_eqb c k (λ e. absurd (false≢true (sym none ∙ (ap is_printable (sym e) ∙ h)))) in
    rw (no 9 refl, no 10 refl, no 0 refl) refl

pub shown_gap : (c : ℕ) → is_shown c ≡ true → is_gap c ≡ (c == 32)
shown_gap c h =
    let none : (c == 9 || (c == 10 || c == 0)) ≡ false = not_true (c == 9 || (c == 10 || c == 0)) h in
    let p = or_parts (c == 9) (c == 10 || c == 0) none in
    let q = or_parts (c == 10) (c == 0) p.1 in
    rw (p.0, q.0, q.1) (or_no (c == 32))
  where
    or_no : (x : Bool) → ((x || false) || false) ≡ x
    or_no true = refl
    or_no false = refl

pub last_on : (b c d : ℕ) (ds : List ℕ) → ends_with_byte b (c ∷ d ∷ ds) ≡ ends_with_byte b (d ∷ ds)
last_on b c d ds =
    ap (λ i. is_byte b (slice_get (c ∷ d ∷ ds) i)) (two (length ds))
    ∙ ap (λ i. is_byte b (slice_get (d ∷ ds) i)) (sym (one (length ds)))
  where
    one : (n : ℕ) → suc n - 1 ≡ n
    one n = omega arith

    two : (n : ℕ) → suc (suc n) - 1 ≡ suc n
    two n = omega arith

or_second : (x y : Bool) → y ≡ true → (x || y) ≡ true
or_second true y h = refl
or_second false y h = h

swap : (x y : Bool) → (y && x) ≡ false → (x && y) ≡ false
swap true true h = h
swap true false h = refl
swap false y h = refl

not_of : (x : Bool) → x ≡ false → not x ≡ true
not_of x e = rw e refl

-- a byte that is a space, or none that ends plain text
byte_fits : (b : Bool) (c d : ℕ) → is_shown c ≡ true → is_shown d ≡ true → (c == 58 && d == 32) ≡ false
    → (b && c == 35) ≡ false
    → (c == 32 || (not (is_gap c) && (not (c == 58 && is_gap d) && not (c == 35 && b)))) ≡ true
byte_fits b c d h g colon hash =
    rw (shown_gap c h, shown_gap d g, colon, swap (c == 35) b hash) (either (c == 32))
  where
    either : (x : Bool) → (x || (not x && true)) ≡ true
    either true = refl
    either false = refl

last_fits : (b : Bool) (c : ℕ) → is_shown c ≡ true → (c == 32) ≡ false → (c == 58) ≡ false → (b && c == 35) ≡ false
    → fits_line b (c ∷ []) ≡ true
last_fits b c h space colon hash = rw (shown_gap c h, space, colon, swap (c == 35) b hash) refl

line_fits : (b : Bool) (c : ℕ) (cs : List ℕ) → list_all is_shown (c ∷ cs) ≡ true → ends_with_byte 32 (c ∷ cs) ≡ false
    → ends_with_byte 58 (c ∷ cs) ≡ false → has_behind 58 32 false (c ∷ cs) ≡ false → has_behind 32 35 b (c ∷ cs) ≡ false
    → fits_line b (c ∷ cs) ≡ true
line_fits b c [] all l m p q =
    last_fits b c (and_parts (is_shown c) true all).0 l m (or_parts (b && c == 35) false q).0
line_fits b c (d ∷ ds) all l m p q =
    let x = and_parts (is_shown c) (list_all is_shown (d ∷ ds)) all in
    let y = and_parts (is_shown d) (list_all is_shown ds) x.1 in
    let p' = or_parts ((c == 58) && d == 32) (has_behind 58 32 (d == 58) ds) p in
    let q' = or_parts (b && c == 35) (has_behind 32 35 (c == 32) (d ∷ ds)) q in
    and_from (c == 32 || (not (is_gap c) && (not (c == 58 && is_gap d) && not (c == 35 && b))))
    (fits_line (c == 32) (d ∷ ds))
    (byte_fits b c d x.0 y.0 p'.0 q'.0)
    (line_fits (c == 32) d ds x.1 (sym (last_on 32 c d ds) ∙ l) (sym (last_on 58 c d ds) ∙ m) p'.1 q'.1)

eq_swap : (a b : ℕ) → (a == b) ≡ (b == a)
eq_swap a b = grind arith

-- three dashes or dots do not begin what is printed
triple_no : (k c : ℕ) (cs : List ℕ) (b : ℕ) (ys : List ℕ) → (b == k) ≡ false
    → starts_with nat_eq (c ∷ cs) (k ∷ k ∷ k ∷ []) ≡ false → is_triple k ((c ∷ cs) ++ (b ∷ ys)) ≡ false
triple_no k c [] b ys other h = rw other (and_no (c == k))
triple_no k c (d ∷ []) b ys other h = rw other (and_no (c == k) (d == k))
  where
    and_no : (x y : Bool) → (x && (y && false)) ≡ false
    and_no true true = refl
    and_no true false = refl
    and_no false y = refl
triple_no k c (d ∷ e ∷ ds) b ys other h =
    rw (eq_swap c k, eq_swap d k, eq_swap e k) (three (k == c) (k == d) (k == e) (is_gap (at (ds ++ (b ∷ ys)) 0)) h)
  where
    three : (x y z w : Bool) → (x && (y && (z && true))) ≡ false → (x && (y && (z && w))) ≡ false
    three true true true w h = absurd (false≢true (sym h))
    three true true false w h = refl
    three true false z w h = refl
    three false y z w h = refl

-- the emitter's indicators are the grammar's
same_indicator : (c : ℕ) → emit.is_indicator c ≡ false → is_indicator c ≡ false
same_indicator c h = grind (arith, h)

-- what is known of a text that fits
pub record PlainText (c : ℕ) (cs : List ℕ) : Type 0 where
  pub shown : list_all is_shown (c ∷ cs) ≡ true
  pub fits : fits_line false (c ∷ cs) ≡ true
  pub no_gap : is_gap c ≡ false
  pub no_mark : is_indicator c ≡ false
  pub whole : (b : ℕ) (ys : List ℕ) → (b == 45) ≡ false → (b == 46) ≡ false → parts ((c ∷ cs) ++ (b ∷ ys)) ≡ false
  pub letters : list_all is_printable (chars (c ∷ cs)) ≡ true
  pub no_dash : (is_dash c && (length cs == 0 || is_first 32 cs)) ≡ false

pub plain_text : (c : ℕ) (cs : List ℕ) → IsUtf8 (c ∷ cs) → fits_plain (c ∷ cs) ≡ true → PlainText c cs
plain_text c cs u h =
    let text = c ∷ cs in
    let a6 = and_parts (not (begins_otherwise text) && not (is_first 32 text) && not (ends_with_byte 32 text)
    && not (ends_with_byte 58 text) && not (stand_side_by_side 58 32 text) && not (stand_side_by_side 32 35 text))
    (list_all is_printable (chars text)) h in
    let a5 = and_parts (not (begins_otherwise text) && not (is_first 32 text) && not (ends_with_byte 32 text)
    && not (ends_with_byte 58 text) && not (stand_side_by_side 58 32 text)) (not (stand_side_by_side 32 35 text))
    a6.0 in
    let a4 = and_parts (not (begins_otherwise text) && not (is_first 32 text) && not (ends_with_byte 32 text)
    && not (ends_with_byte 58 text)) (not (stand_side_by_side 58 32 text)) a5.0 in
    let a3 = and_parts (not (begins_otherwise text) && not (is_first 32 text) && not (ends_with_byte 32 text))
    (not (ends_with_byte 58 text)) a4.0 in
    let a2 = and_parts (not (begins_otherwise text) && not (is_first 32 text)) (not (ends_with_byte 32 text)) a3.0 in
    let a1 = and_parts (not (begins_otherwise text)) (not (is_first 32 text)) a2.0 in
    let o3 = or_parts (emit.is_indicator c || starts_with nat_eq text (codes "---") || starts_with nat_eq text
    (codes "..."))
    (is_dash c && (length cs == 0 || is_first 32 cs)) (not_true (begins_otherwise text) a1.0) in
    let o2 = or_parts (emit.is_indicator c || starts_with nat_eq text (codes "---"))
    (starts_with nat_eq text (codes "...")) o3.0 in
    let o1 = or_parts (emit.is_indicator c) (starts_with nat_eq text (codes "---")) o2.0 in
    let all = text_all is_shown beyond_shown is_printable printable_shown text u a6.1 in
    record {
      shown = all;
      fits = line_fits false c cs all (not_true (ends_with_byte 32 text) a2.1) (not_true (ends_with_byte 58 text) a3.1)
          (not_true (stand_side_by_side 58 32 text) a4.1) (not_true (stand_side_by_side 32 35 text) a5.1);
      no_gap = shown_gap c (and_parts (is_shown c) (list_all is_shown cs) all).0 ∙ not_true (c == 32) a1.1;
      no_mark = same_indicator c o1.0;
      whole = λ b ys dash dot. or_from (is_triple 45 (text ++ (b ∷ ys))) (is_triple 46 (text ++ (b ∷ ys)))
          (triple_no 45 c cs b ys dash o1.1) (triple_no 46 c cs b ys dot o2.1);
      letters = a6.1;
      no_dash = o3.1;
    }

-- ---- where it stands

module _ {c : ℕ} {cs : List ℕ} (x : PlainText c cs) where
  pub plain_word : IsWord c
  plain_word = word_is c x.no_gap x.no_mark

  pub plain_first : (k : ℕ) → is_indicator k ≡ true → (c == k) ≡ false
  plain_first k is = ne_eqb c k (λ e. absurd (false≢true (sym x.no_mark ∙ (ap is_indicator e ∙ is))))

-- behind `-`, `?` or `:` no gap follows
no_dash_gap : (c : ℕ) (cs : List ℕ) (b : ℕ) (ys : List ℕ) → list_all is_shown cs ≡ true
    → (is_dash c && (length cs == 0 || is_first 32 cs)) ≡ false
    → (not (is_one_of (codes "-?:") c) || (not (is_gap (at (cs ++ (b ∷ ys)) 0)) && true)) ≡ true
no_dash_gap c [] b ys all h = alone (c == 45) (c == 63) (c == 58) h
  where
    alone : (x y z : Bool) → ((x || y || z) && (true || false)) ≡ false
        → (not (x || (y || (z || false))) || (not (is_gap b) && true)) ≡ true
    alone true y z h = absurd (false≢true (sym h))
    alone false true z h = absurd (false≢true (sym h))
    alone false false true h = absurd (false≢true (sym h))
    alone false false false h = refl
no_dash_gap c (d ∷ ds) b ys all h =
    let g = shown_gap d (and_parts (is_shown d) (list_all is_shown ds) all).0 in
    rw g (beside (c == 45) (c == 63) (c == 58) (d == 32) (ap (λ w. is_dash c && (w || d == 32))
    (sym (ne_eqb (suc (length ds)) 0 (λ e. absurd (omega (arith, e))))) ∙ h))
  where
    beside : (x y z w : Bool) → ((x || y || z) && (false || w)) ≡ false
        → (not (x || (y || (z || false))) || (not w && true)) ≡ true
    beside true y z true h = absurd (false≢true (sym h))
    beside true y z false h = refl
    beside false true z true h = absurd (false≢true (sym h))
    beside false true z false h = refl
    beside false false true true h = absurd (false≢true (sym h))
    beside false false true false h = refl
    beside false false false w h = refl

plain_begins : {text : List ℕ} {i c : ℕ} {cs : List ℕ} (b : ℕ) (ys : List ℕ) → PlainText c cs → (b == 45) ≡ false
    → (b == 46) ≡ false
    → Rest text i ((c ∷ cs) ++ (b ∷ ys)) → begins_plain text false i ≡ true
plain_begins {text = text} {i = i} {c = c} {cs = cs} b ys x dash dot r =
    let second : at text (i + 1) ≡ at (cs ++ (b ∷ ys)) 0
    = sym (get_or-drop i text 1 0) ∙ ap (λ l. at l 1) r.same in
    rw (rest_at r, second, r.same, x.whole b ys dash dot, and_no (column text i == 0), x.no_gap, x.no_mark)
    (no_dash_gap c cs b ys (and_parts (is_shown c) (list_all is_shown cs) x.shown).1 x.no_dash)

pub plain_leaf : {text : List ℕ} {i c : ℕ} {cs : List ℕ} (b : ℕ) (ys : List ℕ) (context : Context) → PlainText c cs
    → is_flow context ≡ false
    → (b == 45) ≡ false → (b == 46) ≡ false → Rest text i ((c ∷ cs) ++ (b ∷ ys)) → Ends context (b ∷ ys)
    → leaf_at text context i ≡ Some (in_style style.Plain (c ∷ cs), i + length (c ∷ cs))
plain_leaf {text = text} {i = i} {c = c} {cs = cs} b ys context x flow dash dot r ends =
    let said : ◌≡◌ {A = folding.Rest} (plain_rest context (column text i) 0 nothing_passed (drop i text))
    (Some (length (c ∷ cs), c ∷ cs))
    = ap (plain_rest context (column text i) 0 nothing_passed) r.same
    ∙ (plain_some context (b ∷ ys) flow ends c cs [] 0 (column text i) x.fits ∙ some_rest (omega arith) refl) in
    rw (
      flow,
      plain_begins b ys x dash dot r,
      said,
      rest_at r,
      plain_first x 42 refl,
      plain_first x 39 refl,
      plain_first x 34 refl,
    ) refl

-- the first byte of what is printed otherwise
pub quote_word : (c : ℕ) → (c == 39 || (c == 34 || (c == 124 || (c == 91 || c == 123)))) ≡ true → IsWord c
quote_word c e = record {
  no_feed = grind (arith, e);
  no_space = grind (arith, e);
  no_hash = grind (arith, e);
  no_anchor = grind (arith, e);
  no_tag = grind (arith, e);
}
