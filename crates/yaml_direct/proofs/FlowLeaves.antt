-- Plain text over lines in brackets as it was read, or left.
use Rattle.std.proofs.Common.{ℕ, ◌+◌, ◌-◌, ◌≡◌, ◌≢◌, ◌≤◌, ◌⊎◌, ◌==◌, ◌&&◌, not, Bool, true, false, List}
use Rattle.std.proofs.Common.{length, refl}
use Rattle.std.proofs.Common.{sym, ap, subst, ◌∙◌, arith, inl, inr, None, Some, codes, drop, nat_le, slice_range}
use Rattle.std.specs.Prelude.{if◌then◌else◌}
use Rattle.std.proofs.lemmas.Bool.{and_cases, and_left, and_parts, eqb-true, false≢true, leb-true, ne_eqb}
use Rattle.std.proofs.lemmas.Bool.{not-false, or_cases}
use Rattle.std.proofs.lemmas.List.{get_or-drop, get_or_past}
use Rattle.yaml_direct.specs.Bytes as code
use Rattle.yaml_direct.specs.PlainTexts.{HasNoLine, IsBrokenLine, IsFurtherLine, LeavesFlow, is_tight}
use Rattle.yaml_direct.specs.Tokens.{HasNoToken}
use Rattle.yaml_direct.proofs.FeedPlaces.{broken_lines}
use Rattle.yaml_direct.proofs.FlowSays.{bracket_stops, flow_cut, flow_further, flow_whole}
use Rattle.yaml_direct.proofs.FurtherLines.{over_stops}
use Rattle.yaml_direct.proofs.PlainEnds.{stops_later}
use Rattle.yaml_direct.proofs.PlainSays.{SaysSoFar, says_first}
use Rattle.yaml_direct.proofs.TextLaws.{bracket_same}
use Rattle.yaml_grammar.specs.Bytes.{at, column, is_bracket, is_one_of, is_over, is_text, is_triple}
use Rattle.yaml_grammar.specs.Folding.{Rest}
use Rattle.yaml_grammar.specs.Gaps.{before, breaks, gap, next}
use Rattle.yaml_grammar.specs.Plain.{in_brackets, plain_at}

-- plain text that begins in a place, whose line that was read last ends in another, and the token behind it
pub record FlowSoFar (text : List ℕ) (from end next' : ℕ) (broken : Bool) (said : List ℕ) : Type 0 where
  pub says : SaysSoFar in_brackets text from end said
  pub there : next' ≡ next text end
  pub lines : broken ≡ breaks text end
  pub here : broken ≡ true → is_over text next' ≡ false

either : (text : List ℕ) (from end : ℕ) (said : List ℕ) (t : Bool)
    → ◌≡◌ {A = Rest} (plain_at text in_brackets from) (if t then None else Some (end - from, said))
    → (◌≡◌ {A = Rest} (plain_at text in_brackets from) None)
    ⊎ (◌≡◌ {A = Rest} (plain_at text in_brackets from) (Some (end - from, said)))
either text from end said true e = inl e
either text from end said false e = inr e

-- what a text leaves whose first line is broken
left_by : (text : List ℕ) (from first second end : ℕ) (said : List ℕ) (t : Bool) → IsBrokenLine text from first second
    → from ≤ first → from ≤ end → second ≤ next text end
    → ◌≡◌ {A = Rest} (plain_at text in_brackets from) (if t then None else Some (end - from, said))
    → is_one_of (codes ",]}") (at text (next text end)) ≡ false → LeavesFlow text from
left_by text from first second end said t b low forward high read left = record {
  end = end;
  said = said;
  low = forward;
  read = either text from end said t read;
  lines = broken_lines text from first (next text end) low b.broken (omega (arith, b.there, high));
  left = left;
}

no_end : (c : ℕ) → code.is_bracket c ≡ false → is_one_of (codes ",]}") c ≡ false
no_end c e = grind (arith, e)

-- a byte that ends no part, and is no `:`
record IsOther (text : List ℕ) (k : ℕ) : Type 0 where
  left : is_one_of (codes ",]}") (at text k) ≡ false
  loose : is_tight text k ≡ false

other_by : (text : List ℕ) (k c : ℕ) → at text k ≡ c → is_one_of (codes ",]}") c ≡ false → (c == 58) ≡ false
    → IsOther text k
other_by text k c e left colon = record {
  left = ap (is_one_of (codes ",]}")) e ∙ left;
  loose = and_left (at text k == 58) _ (ap (λ x. x == 58) e ∙ colon);
}

first_of : (text : List ℕ) (k : ℕ) → at (drop k text) 0 ≡ at text k
first_of text k = let same : k + 0 ≡ k = omega arith in get_or-drop k text 0 0 ∙ ap (at text) same

-- such a one stands where a document ends
over_other : (text : List ℕ) (k : ℕ) → is_over text k ≡ true → IsOther text k
over_other text k over =
    elim (or_cases (nat_le (length text) k) _ over) [
      | inl past ↦ other_by text k 0 (get_or_past text k 0 (leb-true (length text) k past)) refl refl
      | inr both ↦ elim (or_cases (is_triple 45 (drop k text)) _ (and_parts (column text k == 0) _ both).1) [
        | inl dashes ↦
            other_by text k 45 (sym (first_of text k)
            ∙ eqb-true (at (drop k text) 0) 45 (and_parts _ _ dashes).0) refl refl
        | inr dots ↦
            other_by text k 46 (sym (first_of text k)
            ∙ eqb-true (at (drop k text) 0) 46 (and_parts _ _ dots).0) refl refl
      ]
    ]

pub flow_first : (text : List ℕ) (from first second : ℕ) → is_text text ≡ true → IsBrokenLine text from first second
    → from ≤ first → first ≤ length text
    → FlowSoFar text from first second true (slice_range text from first)
flow_first text from first second h b low within = record {
  says = says_first in_brackets text from first h b.first low within;
  there = b.there;
  lines = sym b.broken;
  here = λ _. b.here;
}

-- a further line
pub flow_on : (text : List ℕ) (from end k stop : ℕ) (said more : List ℕ) (broken : Bool) → is_text text ≡ true
    → FlowSoFar text from end k broken said → broken ≡ true → IsFurtherLine text true end k stop said more → k ≤ stop
    → stop ≤ length text → SaysSoFar in_brackets text from stop more
flow_on text from end k stop said more broken h s is f low within =
    flow_further text from end k stop said more h s.says s.there (sym s.lines ∙ is) (s.here is) f low within

-- none
pub cut_left : (text : List ℕ) (from first second end k : ℕ) (said : List ℕ) (broken : Bool) → is_text text ≡ true
    → IsBrokenLine text from first second → from ≤ first → second ≤ k → FlowSoFar text from end k broken said
    → code.is_bracket (at text k) ≡ false → HasNoLine text true end k → LeavesFlow text from
cut_left text from first second end k said broken h b low high s other n =
    let here = subst (λ j. HasNoLine text true end j) s.there n in
    left_by text from first second end said (is_tight text here.stop) b low s.says.low
    (omega (arith, high, s.there)) (flow_cut text from end said h s.says here)
    (no_end (at text (next text end)) (subst (λ j. code.is_bracket (at text j) ≡ false) s.there other))

-- no token of brackets
pub gap_left : (text : List ℕ) (from first second end : ℕ) (said : List ℕ) → is_text text ≡ true
    → IsBrokenLine text from first second → from ≤ first → second ≤ end → SaysSoFar in_brackets text from end said
    → HasNoToken text end ⊎ (is_over text (next text end) ≡ true) → LeavesFlow text from
gap_left text from first second end said h b low high s (inl n) =
    let o = other_by text (next text end) 35 (ap (at text) n.here ∙ n.sharp) refl refl in
    left_by text from first second end said false b low s.low (omega (arith, n.here, high))
    (flow_whole text from end said h s (λ broken. absurd (false≢true (sym n.in_line ∙ broken))) false (λ _. o.loose)
    (λ _. refl))
    o.left
gap_left text from first second end said h b low high s (inr over) =
    let o = over_other text (next text end) over in
    let there : next text end ≡ end + (gap (before text end) (drop end text)).0 = refl in
    left_by text from first second end said false b low s.low (omega (arith, there, high))
    (flow_whole text from end said h s (λ _. over_stops in_brackets text (next text end) over) false (λ _. o.loose)
    (λ _. refl))
    o.left

-- where it has ended
later_stops : (text : List ℕ) (from end k : ℕ) (said : List ℕ) (broken : Bool) → FlowSoFar text from end k broken said
    → (broken && not (code.is_bracket (at text k))) ≡ false → breaks text end ≡ true
    → stops_later in_brackets text (next text end) ≡ true
later_stops text from end k said broken s over later =
    elim (and_cases broken _ over) [
      | inl whole ↦ absurd (false≢true (sym whole ∙ s.lines ∙ later))
      | inr bracket ↦ bracket_stops text (next text end)
          (ap (λ j. is_bracket (at text j)) (sym s.there)
          ∙ sym (bracket_same (at text k)) ∙ not-false (code.is_bracket (at text k)) bracket)
    ]

pub flow_read : (text : List ℕ) (from end k : ℕ) (said : List ℕ) (broken : Bool) → is_text text ≡ true
    → FlowSoFar text from end k broken said → (broken && not (code.is_bracket (at text k))) ≡ false → at text k ≢ 58
    → ◌≡◌ {A = Rest} (plain_at text in_brackets from) (Some (end - from, said))
flow_read text from end k said broken h s over other =
    let loose : is_tight text (next text end) ≡ false =
    subst (λ j. is_tight text j ≡ false) s.there (and_left (at text k == 58) _ (ne_eqb (at text k) 58 other)) in
    flow_whole text from end said h s.says (later_stops text from end k said broken s over) false (λ _. loose)
    (λ _. refl)

pub colon_left : (text : List ℕ) (from first second end k : ℕ) (said : List ℕ) (broken : Bool) → is_text text ≡ true
    → IsBrokenLine text from first second → from ≤ first → second ≤ k → FlowSoFar text from end k broken said
    → (broken && not (code.is_bracket (at text k))) ≡ false → at text k ≡ 58 → LeavesFlow text from
colon_left text from first second end k said broken h b low high s over colon =
    let tight = is_tight text (next text end) in
    let whole : breaks text end ≡ false = elim (and_cases broken _ over) [
      | inl line ↦ sym s.lines ∙ line
      | inr bracket ↦ absurd (false≢true (sym (colon_is (at text k) colon)
          ∙ not-false (code.is_bracket (at text k)) bracket))
    ] in
    left_by text from first second end said tight b low s.says.low (omega (arith, high, s.there))
    (flow_whole text from end said h s.says (λ broken. absurd (false≢true (sym whole ∙ broken))) tight (λ _. refl)
    (λ broken. absurd (false≢true (sym whole ∙ broken))))
    (ap (λ j. is_one_of (codes ",]}") (at text j)) (sym s.there) ∙ ap (is_one_of (codes ",]}")) colon)
  where
    colon_is : (c : ℕ) → c ≡ 58 → code.is_bracket c ≡ false
    colon_is c e = rw e refl
