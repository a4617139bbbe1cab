-- What stands between quotes, or fits plainly, in one line is a leaf.
use Rattle.std.proofs.Common.{◌≡◌, ◌≢◌, ℕ, suc, ◌+◌, ◌==◌, false, List, [], ◌∷◌, ◌++◌, length, Some, refl, sym, ap, ◌∙◌}
use Rattle.std.proofs.Common.{arith, ne_eqb, drop, get_or, true, true≢false}
use Rattle.std.proofs.lemmas.Bool.{and_parts}
use Rattle.std.proofs.lemmas.List.{get_or-drop, drop-drop}
use Rattle.yaml_base.specs.QuotedLines.{none, undoubled, unescaped}
use Rattle.yaml_base.specs.declared.event.ScalarStyle.TheVariants as style
use Rattle.yaml_grammar.specs.Bytes.{at, column, is_gap, is_indicator}
use Rattle.yaml_grammar.specs.Folding.{Rest, nothing_passed}
use Rattle.yaml_grammar.specs.Leaves.{in_style, leaf_at}
use Rattle.yaml_grammar.specs.Plain.{Context, as_key, begins_plain, by_columns, is_flow, plain_rest}
use Rattle.yaml_grammar.specs.PlainLines.{fits_line, is_less_in}
use Rattle.yaml_grammar.proofs.DoubleLaws.{double_all}
use Rattle.yaml_grammar.proofs.PlainLaws.{Ends, ends_at_colon, ends_at_line, not_true, plain_some}
use Rattle.yaml_grammar.proofs.RestLaws.{some_rest}
use Rattle.yaml_grammar.proofs.SingleLaws.{single_all}

-- the first of the bytes from a place on, and those behind it
pub first_is : (source : List ℕ) (i c : ℕ) (cs : List ℕ) → drop i source ≡ c ∷ cs → at source i ≡ c
first_is source i c cs e =
    ap (λ k. at source k) (omega arith) ∙ sym (get_or-drop i source 0 0) ∙ ap (λ l. get_or l 0 0) e

pub later_are : (source : List ℕ) (i c : ℕ) (cs : List ℕ) → drop i source ≡ c ∷ cs → drop (suc i) source ≡ cs
later_are source i c cs e =
    let there : suc i ≡ i + 1 = omega arith in
    ap (λ k. drop k source) there ∙ sym (drop-drop 1 i source) ∙ ap (λ l. drop 1 l) e

pub single_leaf : (source inside after text : List ℕ) (context : Context) (i : ℕ)
    → drop i source ≡ 39 ∷ (inside ++ 39 ∷ after) → at after 0 ≢ 39 → undoubled inside ≡ Some text
    → leaf_at source context i ≡ Some (in_style style.SingleQuoted text, i + length inside + 2)
single_leaf source inside after text context i e ends said =
    rw (
      first_is source i 39 _ e,
      later_are source i 39 _ e,
      single_all after inside (ne_eqb (at after 0) 39 ends) false [] text said,
    )
    (ap (λ k. Some (in_style style.SingleQuoted text, k)) (omega arith))

pub double_leaf : (source inside after text : List ℕ) (context : Context) (i : ℕ)
    → drop i source ≡ 34 ∷ (inside ++ 34 ∷ after) → unescaped inside ≡ Some text
    → leaf_at source context i ≡ Some (in_style style.DoubleQuoted text, i + length inside + 2)
double_leaf source inside after text context i e said =
    rw (first_is source i 34 _ e, later_are source i 34 _ e, double_all after inside none [] text said)
    (ap (λ k. Some (in_style style.DoubleQuoted text, k)) (omega arith))

-- what begins plain text begins nothing else
no_indicator : (text : List ℕ) (i b : ℕ) → is_indicator b ≡ true → begins_plain text false i ≡ true
    → (at text i == b) ≡ false
no_indicator text i b is begins =
    let other = not_true _ (and_parts _ _ (and_parts _ _ begins).1).0 in
    ne_eqb (at text i) b (λ e. true≢false (sym is ∙ ap is_indicator (sym e) ∙ other))

plain_is_leaf : (source : List ℕ) (context : Context) (i : ℕ) (size : ℕ) (said : List ℕ) → is_flow context ≡ false
    → begins_plain source false i ≡ true
    → ◌≡◌ {A = Rest} (plain_rest context (column source i) 0 nothing_passed (drop i source)) (Some (size, said))
    → leaf_at source context i ≡ Some (in_style style.Plain said, i + size)
plain_is_leaf source context i size said flow begins e =
    rw (
      flow,
      begins,
      e,
      no_indicator source i 42 refl begins,
      no_indicator source i 39 refl begins,
      no_indicator source i 34 refl begins,
    ) refl

-- a text that fits, up to where it ends
plain_leaf : (source after text : List ℕ) (context : Context) (i : ℕ) → is_flow context ≡ false
    → drop i source ≡ text ++ after → begins_plain source false i ≡ true → fits_line false text ≡ true
    → Ends context after
    → leaf_at source context i ≡ Some (in_style style.Plain text, i + length text)
plain_leaf source after [] context i flow e begins fits ends =
    plain_is_leaf source context i 0 [] flow begins
    (ap (plain_rest context (column source i) 0 nothing_passed) e ∙ ends _ 0)
plain_leaf source after (c ∷ cs) context i flow e begins fits ends =
    plain_is_leaf source context i (length (c ∷ cs)) (c ∷ cs) flow begins
    (ap (plain_rest context (column source i) 0 nothing_passed) e
    ∙ (plain_some context after flow ends c cs [] 0 (column source i) fits ∙ some_rest (omega arith) refl))

pub key_leaf : (source after text : List ℕ) (d i : ℕ) → drop i source ≡ text ++ 58 ∷ d ∷ after → is_gap d ≡ true
    → begins_plain source false i ≡ true → fits_line false text ≡ true
    → leaf_at source as_key i ≡ Some (in_style style.Plain text, i + length text)
key_leaf source after text d i e gap begins fits =
    plain_leaf source (58 ∷ d ∷ after) text as_key i refl e begins fits (ends_at_colon as_key d after gap)

pub line_leaf : (source after text : List ℕ) (least i : ℕ) → drop i source ≡ text ++ 10 ∷ after
    → is_less_in least 0 after ≡ true → begins_plain source false i ≡ true → fits_line false text ≡ true
    → leaf_at source (by_columns least) i ≡ Some (in_style style.Plain text, i + length text)
line_leaf source after text least i e less begins fits =
    plain_leaf source (10 ∷ after) text (by_columns least) i refl e begins fits (ends_at_line least after less)
