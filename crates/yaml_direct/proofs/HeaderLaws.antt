-- The rest of a block's first line, behind its sign and its digit.
use Rattle.std.proofs.Common.{ℕ, zero, suc, ◌+◌, ◌-◌, ◌<◌, ◌≤◌, ◌≡◌, ◌≢◌, ◌⊎◌, ◌==◌, ◌||◌, inl, inr, Bool}
use Rattle.std.proofs.Common.{true, false, List}
use Rattle.std.proofs.Common.{◌∷◌, refl, sym, subst, ap, ◌∙◌, arith, length, slice_range}
use Rattle.std.proofs.lemmas.Bool.{and_left, cases_lt, eq-eqb, ne_eqb, or_right}
use Rattle.std.proofs.lemmas.List.{get_or_past}
use Rattle.yaml_direct.specs.Bytes.{AreBlanks, at}
use Rattle.yaml_direct.specs.BlockHeads.{HasNoRemark, IsCommented, IsRemark, IsSpaced}
use Rattle.yaml_direct.specs.Gaps.{InLine, IsLineEnd}
use Rattle.yaml_direct.proofs.PlainRest.{slice_more, slice_none}
use Rattle.yaml_direct.proofs.TextLaws.{no_return, zero_is_end}
use Rattle.yaml_grammar.specs.BlockTexts.{is_remark}
use Rattle.yaml_grammar.specs.Bytes.{is_text}

or_none : (x : Bool) → (x || false) ≡ x
or_none true = refl
or_none false = refl

-- spaces before what is a remark, or before a comment
spaces_by : (text : List ℕ) (p j : ℕ) → p ≤ j → j ≤ length text → (n i : ℕ) → i + suc n ≡ p → AreBlanks text i p
    → is_remark (slice_range text i j) ≡ (is_remark (slice_range text p j) || at (slice_range text p j) 0 == 35)
spaces_by text p j high within zero i e blank =
    let there : suc i ≡ p = omega (arith, e) in
    ap is_remark (slice_more text i j (omega (arith, e, high)) (omega (arith, e, high, within))
    ∙ ap (λ c. c ∷ slice_range text (suc i) j) (blank i (omega arith) (omega (arith, e))))
    ∙ ap (λ k. is_remark (slice_range text k j) || at (slice_range text k j) 0 == 35) there
spaces_by text p j high within (suc n) i e blank =
    let later = suc i in
    let more = spaces_by text p j high within n later (omega (arith, e)) (λ k low to. blank k (omega
    (arith, low)) to) in
    let space : at (slice_range text later j) 0 ≡ 32 =
    ap (λ s. at s 0) (slice_more text later j (omega (arith, e, high)) (omega (arith, e, high, within)))
    ∙ blank later (omega arith) (omega (arith, e)) in
    ap is_remark (slice_more text i j (omega (arith, e, high)) (omega (arith, e, high, within))
    ∙ ap (λ c. c ∷ slice_range text later j) (blank i (omega arith) (omega (arith, e))))
    ∙ ap (λ c. is_remark (slice_range text later j) || c == 35) space
    ∙ or_none (is_remark (slice_range text later j))
    ∙ more

spaces_are : (text : List ℕ) (i p j : ℕ) → i < p → p ≤ j → j ≤ length text → AreBlanks text i p
    → is_remark (slice_range text i j) ≡ (is_remark (slice_range text p j) || at (slice_range text p j) 0 == 35)
spaces_are text i p j some high within blank =
    spaces_by text p j high within (p - suc i) i (omega (arith, some)) blank

first_of : (text : List ℕ) (p j : ℕ) → p < j → j ≤ length text → at (slice_range text p j) 0 ≡ at text p
first_of text p j some within = ap (λ s. at s 0) (slice_more text p j some (omega (arith, some, within)))

-- no line ends where such a byte stands
inside : (text : List ℕ) (p j c : ℕ) → at text p ≡ suc c → suc c ≢ 10 → p ≤ j → IsLineEnd text j → p < j
inside text p j c here feed low ends =
    elim (cases_lt p j) [
      | inl less ↦ less
      | inr over ↦
          let same : j ≡ p = omega (arith, low, over) in
          elim ends [
            | inl is ↦ absurd (feed (sym here ∙ (ap (at text) (sym same) ∙ is)))
            | inr past ↦ absurd (omega (arith, here, get_or_past text p 0 (omega (arith, past, same))))
          ]
    ]

-- a comment behind spaces
pub comment_remark : (text : List ℕ) (i p j : ℕ) → i < p → AreBlanks text i p → at text p ≡ 35 → p ≤ j
    → j ≤ length text → InLine text p j → IsLineEnd text j → IsRemark text i j
comment_remark text i p j some blank sharp low within line ends =
    let more = inside text p j 34 sharp (λ e. omega (arith, e)) low ends in
    record {
      forward = omega (arith, some, low);
      line = λ k from to e. elim (cases_lt k p) [
        | inl less ↦ absurd (omega (arith, e, blank k from less))
        | inr past ↦ line k past to e
      ];
      ends = ends;
      remark = spaces_are text i p j some low within blank
          ∙ or_right (is_remark (slice_range text p j)) _
          (eq-eqb (at (slice_range text p j) 0) 35 (first_of text p j more within ∙ sharp));
    }

-- spaces alone
pub spaces_remark : (text : List ℕ) (i p : ℕ) → i ≤ p → p ≤ length text → AreBlanks text i p → IsLineEnd text p
    → IsRemark text i p
spaces_remark text i p low within blank ends = record {
  forward = low;
  line = λ k from to e. omega (arith, e, blank k from to);
  ends = ends;
  remark = elim (cases_lt i p) [
    | inl some ↦ spaces_are text i p p some (omega arith) within blank
        ∙ ap (λ s. is_remark s || at s 0 == 35) (slice_none text p)
    | inr over ↦
        let same : i ≡ p = omega (arith, low, over) in
        ap (λ k. is_remark (slice_range text k p)) same ∙ ap is_remark (slice_none text p)
  ];
}

-- another byte behind them
pub no_remark : (text : List ℕ) (i p : ℕ) → i ≤ p → p < length text → AreBlanks text i p → at text p ≢ 32
    → at text p ≢ 10 → (i < p → at text p ≢ 35) → HasNoRemark text i
no_remark text i p low here blank space feed sharp j from within line ends =
    let more : p < j = elim (cases_lt p j) [
      | inl less ↦ less
      | inr over ↦ elim ends [
        | inl is ↦ elim (cases_lt j p) [
          | inl before ↦ absurd (omega (arith, is, blank j from before))
          | inr past ↦
              let same : j ≡ p = omega (arith, over, past) in
              absurd (feed (ap (at text) (sym same) ∙ is))
        ]
        | inr past ↦ absurd (omega (arith, past, over, here))
      ]
    ] in
    let other : is_remark (slice_range text p j) ≡ false =
    ap is_remark (slice_more text p j more here) ∙ and_left (at text p == 32) _ (ne_eqb (at text p) 32 space) in
    elim (cases_lt i p) [
      | inl some ↦ spaces_are text i p j some (omega (arith, more)) within blank
          ∙ ap (λ x. x || at (slice_range text p j) 0 == 35) other
          ∙ ne_eqb (at (slice_range text p j) 0) 35 (λ e. sharp some (sym (first_of text p j more within) ∙ e))
      | inr over ↦
          let same : i ≡ p = omega (arith, low, over) in
          ap (λ k. is_remark (slice_range text k j)) same ∙ other
    ]

-- the rest of the line, by where spaces and a comment end
pub remark_found : (text : List ℕ) (i j feed : ℕ) → is_text text ≡ true → i ≤ j → j ≤ length text
    → IsCommented text i j ⊎ IsSpaced text i j → (at text j ≢ 13 → feed ≡ j)
    → (at text feed ≡ 10) ⊎ (at text feed ≡ 0) → IsRemark text i feed
remark_found text i j feed h low within (inl c) there ends =
    subst (λ k. IsRemark text i k) (sym (there (no_return text j h)))
    (comment_remark text i c.place j c.some c.blanks c.sharp c.forward within c.line c.ends)
remark_found text i j feed h low within (inr s) there ends =
    let same = there (no_return text j h) in
    let here : IsLineEnd text j = elim ends [
      | inl is ↦ inl (ap (at text) (sym same) ∙ is)
      | inr nothing ↦ inr (zero_is_end text j h (ap (at text) (sym same) ∙ nothing))
    ] in
    subst (λ k. IsRemark text i k) (sym same) (spaces_remark text i j low within s.blanks here)

pub remark_missed : (text : List ℕ) (i j feed : ℕ) → is_text text ≡ true → i ≤ j → j ≤ length text
    → IsCommented text i j ⊎ IsSpaced text i j → (at text j ≢ 13 → feed ≡ j) → at text feed ≢ 10 → at text feed ≢ 0
    → HasNoRemark text i
remark_missed text i j feed h low within (inl c) there line some =
    absurd (no_end c.ends)
  where
    no_end : IsLineEnd text j → ⊥
    no_end (inl is) = line (ap (at text) (there (no_return text j h)) ∙ is)
    no_end (inr over) = some (ap (at text) (there (no_return text j h)) ∙ get_or_past text j 0 over)
remark_missed text i j feed h low within (inr s) there line some =
    let same = there (no_return text j h) in
    let inside' : j < length text = elim (cases_lt j (length text)) [
      | inl less ↦ less
      | inr over ↦ absurd (some (ap (at text) same ∙ get_or_past text j 0 over))
    ] in
    no_remark text i j low inside' s.blanks s.space (λ is. line (ap (at text) same ∙ is)) s.sharp
