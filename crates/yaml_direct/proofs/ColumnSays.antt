-- Plain text by columns.
use Rattle.std.proofs.Common.{ℕ, suc, ◌-◌, ◌≡◌, ◌≢◌, ◌<◌, ◌≤◌, ◌⊎◌, true, false, List, [], length, refl}
use Rattle.std.proofs.Common.{sym, ap}
use Rattle.std.proofs.Common.{◌∙◌, arith, drop, inl, inr, nat_le, not, Some}
use Rattle.std.proofs.lemmas.Bool.{and_parts, cases_lt, false≢true, not-true, or_left}
use Rattle.std.proofs.lemmas.List.{drop_all}
use Rattle.yaml_direct.specs.Bytes as code
use Rattle.yaml_direct.specs.PlainTexts.{HasNoLine, IsFurtherLine}
use Rattle.yaml_direct.proofs.FurtherLines.{further_goes, less_stops}
use Rattle.yaml_direct.proofs.NextLaws.{bytes_at, feed_goes, goes_on, spaces_go}
use Rattle.yaml_direct.proofs.PlainEnds.{both_stop, line_ends, no_loose, sharp_stop}
use Rattle.yaml_direct.proofs.PlainRest.{stop_turn}
use Rattle.yaml_direct.proofs.PlainSays.{SaysSoFar, line_some, none_more, says_cut, says_further, says_whole}
use Rattle.yaml_direct.proofs.PlainSays.{whole_said}
use Rattle.yaml_grammar.specs.Bytes.{at, column, is_over, is_text}
use Rattle.yaml_grammar.specs.Folding.{Passed, Rest, is_some_passed}
use Rattle.yaml_grammar.specs.Gaps.{breaks, ends_its_line, is_within, next}
use Rattle.yaml_grammar.specs.Plain.{by_columns, plain_at, plain_rest}

-- a line feed ends the line
feed_ends : (text : List ℕ) (i j : ℕ) → i ≤ j → ((k : ℕ) → i ≤ k → k < j → at text k ≡ 32) → at text j ≡ 10
    → ends_its_line text i ≡ true
feed_ends text i j low blank feed =
    or_left (breaks text i) _ (goes_on text i j (suc j) false true (spaces_go text i j low blank)
    (feed_goes text j feed)).lines

-- where a token stands behind it in its line, or less far in than its lines
pub says_all : (text : List ℕ) (least from end : ℕ) (said : List ℕ) → is_text text ≡ true
    → SaysSoFar (by_columns least) text from end said
    → (ends_its_line text end ≡ false) ⊎ (is_within text least (next text end) ≡ false)
    → ◌≡◌ {A = Rest} (plain_at text (by_columns least) from) (Some (end - from, said))
says_all text least from end said h s (inl whole) =
    says_whole (by_columns least) text from end said s
    (line_ends (by_columns least) text s.start end h s.line refl s.some
    (λ feed. absurd (false≢true (sym whole ∙ feed_ends text end s.line.stop s.line.forward s.line.blanks feed))))
says_all text least from end said h s (inr less) =
    says_whole (by_columns least) text from end said s
    (line_ends (by_columns least) text s.start end h s.line refl s.some
    (λ _. less_stops text least (next text end) less))

-- where it stops by the code's test nothing more is said
column_stop : (text : List ℕ) (least i col s : ℕ) (p : Passed) → is_text text ≡ true → at text i ≢ 32 → at text i ≢ 10
    → (at text i ≡ 35) ⊎ (code.stops_plain text false i ≡ true) → (at text i ≡ 35 → is_some_passed p ≡ true)
    → ◌≡◌ {A = Rest} (plain_rest (by_columns least) col s p (drop i text)) (Some (0, []))
column_stop text least i col s p h space feed stops sharp =
    elim (cases_lt i (length text)) [
      | inr over ↦ ap (plain_rest (by_columns least) col s p) (drop_all i text over)
      | inl inside ↦ ap (plain_rest (by_columns least) col s p) (bytes_at text i inside)
          ∙ stop_turn (by_columns least) col s p (at text i) (drop (suc i) text) space feed
          (elim stops [
            | inl comment ↦ sharp_stop (by_columns least) p col (at text i) (drop (suc i) text) comment (sharp comment)
            | inr here ↦ both_stop (by_columns least) text false i p col h refl feed here (no_loose text i) sharp
          ])
    ]

-- where no further line stands
pub column_cut : (text : List ℕ) (least from end : ℕ) (said : List ℕ) → is_text text ≡ true
    → SaysSoFar (by_columns least) text from end said → HasNoLine text false end (next text end)
    → ◌≡◌ {A = Rest} (plain_at text (by_columns least) from) (Some (end - from, said))
column_cut text least from end said h s n =
    says_cut (by_columns least) text from end said none_more h s n
    (λ p col q stops sharp. column_stop text least n.stop col q p h n.feeds.no_space n.feeds.no_feed stops sharp)
    ∙ whole_said (end - from) said

-- and where one does
pub column_further : (text : List ℕ) (least from end k stop : ℕ) (said more : List ℕ) → is_text text ≡ true
    → SaysSoFar (by_columns least) text from end said → k ≡ next text end → ends_its_line text end ≡ true
    → is_within text least k ≡ true → IsFurtherLine text false end k stop said more → k ≤ stop → stop ≤ length text
    → SaysSoFar (by_columns least) text from stop more
column_further text least from end k stop said more h s there ends within f low inside =
    let some = line_some text false k stop f.line low f.goes f.some in
    let here = and_parts (not (is_over text k)) (nat_le least (column text k)) within in
    says_further (by_columns least) text from end k stop said more h s there ends f low inside
    (λ n sharp. further_goes (by_columns least) text false k n h refl f.goes f.some sharp here.1
    (not-true (is_over text k) here.0) (omega (arith, some, inside)))
