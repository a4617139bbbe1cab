-- Whether the `:` of a key stands behind a place.
use Rattle.std.proofs.Common.{ℕ, suc, ◌+◌, ◌-◌, ◌≡◌, ◌≢◌, ◌≤◌, ◌⊎◌, ◌==◌, ◌&&◌, ◌||◌, not, Bool, true, false, List, []}
use Rattle.std.proofs.Common.{◌∷◌, length, refl, sym, ap, ◌∙◌, arith, inl, inr, drop}
use Rattle.std.proofs.lemmas.Bool.{and_left, and_right, cases_Bool, cases_eq, false≢true, ne_eqb}
use Rattle.std.proofs.lemmas.List.{get_or_past, length-drop}
use Rattle.yaml_direct.specs.Bytes.{AreBlanks}
use Rattle.yaml_direct.specs.Tokens.{EndsKey}
use Rattle.yaml_direct.proofs.NextLaws.{Here, before_apart, before_token, bytes_are, feed_goes, sharp_here}
use Rattle.yaml_direct.proofs.NextLaws.{sharp_turn, spaces_go, token_here}
use Rattle.yaml_grammar.specs.Bytes.{at, is_mark}
use Rattle.yaml_grammar.specs.Gaps.{apart, before, breaks, comment, gap, next}

pub colon_found : (text : List ℕ) (i j : ℕ) → i ≤ j → AreBlanks text i j → at text j ≡ 58 → is_mark text 58 j ≡ true
    → EndsKey text i j
colon_found text i j low blank colon mark =
    let goes = spaces_go text i j low blank in
    let here = token_here text j (λ e. omega (arith, colon, e)) (λ e. omega (arith, colon, e))
    (λ e. omega (arith, colon, e)) in
    record {
      there = sym (goes.there ∙ here.there);
      in_line = goes.lines ∙ here.lines;
      mark = mark;
    }

comment_step : (c : ℕ) (cs : List ℕ) (feed : Bool) → (c == 10) ≡ feed
    → ((gap comment cs).1 ≡ true) ⊎ ((gap comment cs).0 ≡ length cs)
    → ((gap comment (c ∷ cs)).1 ≡ true) ⊎ ((gap comment (c ∷ cs)).0 ≡ suc (length cs))
comment_step c cs true e later = inl (rw e refl)
comment_step c cs false e (inl broken) = inl (rw e broken)
comment_step c cs false e (inr whole) = inr (rw e (ap suc whole))

-- a comment goes to the end of its line
comment_line : (cs : List ℕ) → ((gap comment cs).1 ≡ true) ⊎ ((gap comment cs).0 ≡ length cs)
comment_line [] = inr refl
comment_line (c ∷ cs) = comment_step c cs (c == 10) refl (comment_line cs)

-- or of the text
pub comment_over : (text : List ℕ) (j : ℕ) → at text j ≡ 35 → before text j ≡ apart → breaks text j ≡ false
    → length text ≤ next text j
comment_over text j sharp near whole =
    let turn = ap (gap (before text j)) (bytes_are text j 34 sharp)
    ∙ sharp_turn (before text j) (drop (suc j) text) near in
    elim (comment_line (drop (suc j) text)) [
      | inl broken ↦ absurd (false≢true (sym whole ∙ ap (λ r. r.1) turn ∙ broken))
      | inr all ↦
          let size = length-drop (suc j) text in
          let there : next text j ≡ j + suc (gap comment (drop (suc j) text)).0 = ap (λ r. j + r.0) turn in
          omega (arith, there, all, size)
    ]

no_mark_at : (text : List ℕ) (k : ℕ) → length text ≤ k → is_mark text 58 k ≡ false
no_mark_at text k over =
    let none : at text k ≡ 0 = get_or_past text k 0 over in
    and_left (at text k == 58) _ (ne_eqb (at text k) 58 (λ e. omega (arith, none, e)))

not_here : (b m : Bool) → b ≡ true → (not b && m) ≡ false
not_here b m e = and_left (not b) m (ap not e)

-- no mark follows where none stands behind the spaces
pub colon_missed : (text : List ℕ) (i j : ℕ) → i ≤ j → AreBlanks text i j → at text j ≢ 32 → is_mark text 58 j ≡ false
    → (not (breaks text i) && is_mark text 58 (next text i)) ≡ false
colon_missed text i j low blank space none =
    let goes = spaces_go text i j low blank in
    let stays : Here text j → (not (breaks text i) && is_mark text 58 (next text i)) ≡ false =
    λ here. and_right (not (breaks text i)) _ (ap (is_mark text 58) (goes.there ∙ here.there) ∙ none) in
    elim (cases_eq (at text j) 10) [
      | inl feed ↦ not_here (breaks text i) _ (goes.lines ∙ (feed_goes text j feed).lines)
      | inr other ↦ elim (cases_eq (at text j) 35) [
        | inr token ↦ stays (token_here text j other space token)
        | inl sharp ↦ elim (cases_Bool (j == 0 || (at text (j - 1) == 32 || at text (j - 1) == 10))) [
          | inr close ↦ stays (sharp_here text j sharp (before_token text j close))
          | inl near ↦ elim (cases_Bool (breaks text j)) [
            | inl broken ↦ not_here (breaks text i) _ (goes.lines ∙ broken)
            | inr whole ↦ and_right (not (breaks text i)) _ (ap (is_mark text 58) goes.there
                ∙ no_mark_at text (next text j) (comment_over text j sharp (before_apart text j near) whole))
          ]
        ]
      ]
    ]
