-- A text between single quotes, with line feeds or without, is read.
use Rattle.std.proofs.Common.{◌≡◌, ℕ, suc, ◌+◌, ◌<◌, ◌≤◌, Bool, true, false, not, ◌==◌, ◌&&◌, ◌||◌, refl, sym}
use Rattle.std.proofs.Common.{ap, ap₂, ◌∙◌, arith, List, [], ◌∷◌, ◌++◌, length, Some, append_assoc}
use Rattle.std.proofs.Common.{inl, inr, nat_le}
use Rattle.std.proofs.lemmas.Bool.{and_parts, cases_lt, le-leb, leb-true, ne_eqb}
use Rattle.std.proofs.lemmas.List.{length-append}
use Rattle.std.proofs.lemmas.Str.{encode_ascii, encodes-chars, scalars-chars}
use Rattle.std.specs.List.{list_all}
use Rattle.std.specs.Str.{IsUtf8, chars}
use lib.Utf8.{encode, encodes, scalar, scalars}
use Rattle.yaml_base.specs.declared.event.ScalarStyle.TheVariants as style
use Rattle.yaml_emit.specs.Characters.{is_line_text}
use Rattle.yaml_emit.specs.PrintedTexts.{quote_doubled, single_quoted, single_piece}
use Rattle.yaml_emit.specs.PrintedTexts as emit
use Rattle.yaml_emit.specs.Styles.{fits_single_quotes, has_behind, stand_side_by_side}
use Rattle.yaml_emit.proofs.ByItself.{top_of}
use Rattle.yaml_grammar.specs.Leaves.{in_style, leaf_at}
use Rattle.yaml_grammar.specs.Plain.{Context}
use Rattle.yaml_grammar.proofs.PlainLaws.{not_true}
use Rattle.yaml_printed.proofs.ByteLaws.{encode_all}
use Rattle.yaml_printed.proofs.Escapes.{len_one}
use Rattle.yaml_printed.proofs.Rests.{Rest, rest_at, rest_is, rest_on}
use Rattle.yaml_printed.proofs.SingleRuns.{in_line}
use Rattle.yaml_printed.proofs.Words.{and_no}

abbrev is_high : ℕ → Bool
is_high b = nat_le 128 b

module _ (a b : ℕ) (la : a < 128) (lb : b < 128) where
  high_run : (x : ℕ) (xs : List ℕ) (before : Bool) (rest : List ℕ) → list_all is_high (x ∷ xs) ≡ true
      → has_behind a b before ((x ∷ xs) ++ rest) ≡ has_behind a b false rest
  high_run x xs before rest h =
      let p = and_parts (is_high x) (list_all is_high xs) h in
      let high = leb-true 128 x p.0 in
      let no_a : (x == a) ≡ false = ne_eqb x a (λ e. absurd (omega (arith, high, e, la))) in
      let no_b : (x == b) ≡ false = ne_eqb x b (λ e. absurd (omega (arith, high, e, lb))) in
      rw (no_a, no_b, and_no before) (more xs p.1)
    where
      more : (xs : List ℕ) → list_all is_high xs ≡ true → has_behind a b false (xs ++ rest) ≡ has_behind a b false rest
      more [] h = refl
      more (y ∷ ys) h =
          let p = and_parts (is_high y) (list_all is_high ys) h in
          let high = leb-true 128 y p.0 in
          let no_a : (y == a) ≡ false = ne_eqb y a (λ e. absurd (omega (arith, high, e, la))) in
          rw no_a (more ys p.1)

  high_bytes : (xs : List ℕ) (before : Bool) (rest : List ℕ) → 1 ≤ length xs → list_all is_high xs ≡ true
      → has_behind a b before (xs ++ rest) ≡ has_behind a b false rest
  high_bytes [] before rest some h = absurd (omega (arith, some))
  high_bytes (x ∷ xs) before rest some h = high_run x xs before rest h

  behind_encode : (before : Bool) (c : ℕ) (rest : List ℕ) → scalar c ≡ true
      → has_behind a b before (encode c ++ rest) ≡ ((before && c == b) || has_behind a b (c == a) rest)
  behind_encode before c rest s = elim (cases_lt c 0x80) [
    | inl one ↦ ap (λ l. has_behind a b before (l ++ rest)) (encode_ascii c one)
    | inr more ↦
        let no_a : (c == a) ≡ false = ne_eqb c a (λ e. absurd (omega (arith, more, e, la))) in
        let no_b : (c == b) ≡ false = ne_eqb c b (λ e. absurd (omega (arith, more, e, lb))) in
        rw (no_a, no_b) (high_bytes (encode c) before rest (len_one c)
        (encode_all is_high (λ x h top. le-leb 128 x h) c (omega (arith, top_of c s))
        (λ low. absurd (omega (arith, low, more))))
        ∙ or_skip before (has_behind a b false rest))
  ]
    where
      or_skip : (x y : Bool) → y ≡ ((x && false) || y)
      or_skip true y = refl
      or_skip false y = refl

  behind_all : (before : Bool) (cs : List ℕ) → scalars cs ≡ true
      → has_behind a b before (encodes cs) ≡ has_behind a b before cs
  behind_all before [] s = refl
  behind_all before (c ∷ cs) s =
      let p = and_parts (scalar c) (scalars cs) s in
      behind_encode before c (encodes cs) p.0
      ∙ ap (λ x. (before && c == b) || x) (behind_all (c == a) cs p.1)

  pair_of : (t : List ℕ) → IsUtf8 t → not (stand_side_by_side a b t) ≡ true → has_behind a b false (chars t) ≡ false
  pair_of t u h =
      sym (behind_all false (chars t) (scalars-chars t u))
      ∙ (ap (has_behind a b false) (encodes-chars t u) ∙ not_true (stand_side_by_side a b t) h)

pub single_leaf_lines : {text : List ℕ} (context : Context) (k b : ℕ) (after t : List ℕ) (i : ℕ) → IsUtf8 t
    → fits_single_quotes t ≡ true → (b == 39) ≡ false → Rest text i (single_quoted (suc k) t ++ (b ∷ after))
    → leaf_at text context i ≡ Some (in_style style.SingleQuoted t, i + length (single_quoted (suc k) t))
single_leaf_lines {text = text} context k b after t i u fits other r =
    let p = and_parts (not (stand_side_by_side 32 10 t) && not (stand_side_by_side 10 32 t))
    (list_all is_line_text (chars t)) fits in
    let q = and_parts (not (stand_side_by_side 32 10 t)) (not (stand_side_by_side 10 32 t)) p.0 in
    let inside = emit.single_rest (suc k) false (chars t) in
    let r1 : Rest text i (39 ∷ (inside ++ (39 ∷ b ∷ after)))
    = rest_is (ap (λ l. 39 ∷ l) (append_assoc inside (39 ∷ []) (b ∷ after))) r in
    let read = in_line (b ∷ after) other k (chars t) (scalars-chars t u) p.1 []
    (pair_of 32 10 (omega arith) (omega arith) t u q.0) (pair_of 10 32 (omega arith) (omega arith) t u q.1) in
    rw (rest_at r1, (rest_on r1).same, read)
    (ap₂ (λ m l. Some (in_style style.SingleQuoted l, m)) (omega (arith, length-append inside (39 ∷ [])))
    (encodes-chars t u))
