-- Where a line ends before the next token.
use Rattle.std.proofs.Common.{ℕ, suc, ◌+◌, ◌-◌, ◌≡◌, ◌<◌, ◌≤◌, ◌==◌, not, Bool, true, false, List, [], ◌∷◌, length}
use Rattle.std.proofs.Common.{refl, sym}
use Rattle.std.proofs.Common.{ap, ◌∙◌, arith, inl, inr, drop, nat_eq, slice_range}
use Rattle.std.proofs.lemmas.Bool.{cases_lt, eqb-true, false≢true}
use Rattle.std.proofs.lemmas.List.{get_or-drop, get_or-take, get_or_past}
use Rattle.std.proofs.lemmas.List.Folds.{list_any_at}
use Rattle.yaml_grammar.specs.Bytes.{at, is_one_line}
use Rattle.yaml_grammar.specs.Gaps.{Before, apart, before, breaks, comment, gap, next, token}

-- a line feed stands among so many bytes
record FeedIn (bytes : List ℕ) (count : ℕ) : Type 0 where
  place : ℕ
  few : place < count
  feed : at bytes place ≡ 10

one_later : (c n : ℕ) (cs : List ℕ) → FeedIn cs n → FeedIn (c ∷ cs) (suc n)
one_later c n cs f = record { place = suc f.place; few = omega (arith, f.few); feed = f.feed }

first_is : (c n : ℕ) (cs : List ℕ) → (c == 10) ≡ true → FeedIn (c ∷ cs) (suc n)
first_is c n cs e = record { place = 0; few = omega arith; feed = eqb-true c 10 e }

abbrev Feeds : Before → List ℕ → Type 0
Feeds b cs = (gap b cs).1 ≡ true → FeedIn cs (gap b cs).0

comment_by : (c : ℕ) (cs : List ℕ) (feed : Bool) → (c == 10) ≡ feed → Feeds comment cs → Feeds comment (c ∷ cs)
comment_by c cs true e f h = rw e (first_is c (gap apart cs).0 cs e)
comment_by c cs false e f h = rw e (one_later c (gap comment cs).0 cs (f (rw e at h)))

token_by : (c : ℕ) (cs : List ℕ) (feed space : Bool) → (c == 10) ≡ feed → (c == 32) ≡ space → Feeds apart cs
    → Feeds token (c ∷ cs)
token_by c cs true space e g f h = rw e (first_is c (gap apart cs).0 cs e)
token_by c cs false true e g f h = rw (e, g) (one_later c (gap apart cs).0 cs (f (rw (e, g) at h)))
token_by c cs false false e g f h = absurd (false≢true (rw (e, g) at h))

apart_by : (c : ℕ) (cs : List ℕ) (feed space sharp : Bool) → (c == 10) ≡ feed → (c == 32) ≡ space → (c == 35) ≡ sharp
    → Feeds apart cs → Feeds comment cs → Feeds apart (c ∷ cs)
apart_by c cs true space sharp e g i f k h = rw e (first_is c (gap apart cs).0 cs e)
apart_by c cs false true sharp e g i f k h = rw (e, g) (one_later c (gap apart cs).0 cs (f (rw (e, g) at h)))
apart_by c cs false false true e g i f k h = rw (e, g, i) (one_later c (gap comment cs).0 cs (k (rw (e, g, i) at h)))
apart_by c cs false false false e g i f k h = absurd (false≢true (rw (e, g, i) at h))

gap_feeds : (b : Before) (cs : List ℕ) → Feeds b cs
gap_feeds apart [] = λ h. absurd (false≢true h)
gap_feeds token [] = λ h. absurd (false≢true h)
gap_feeds comment [] = λ h. absurd (false≢true h)
gap_feeds comment (c ∷ cs) = comment_by c cs (c == 10) refl (gap_feeds comment cs)
gap_feeds token (c ∷ cs) = token_by c cs (c == 10) (c == 32) refl refl (gap_feeds apart cs)
gap_feeds apart (c ∷ cs) =
    apart_by c cs (c == 10) (c == 32) (c == 35) refl refl refl (gap_feeds apart cs) (gap_feeds comment cs)

-- two places with a line feed between them are not in one line
pub two_lines : (text : List ℕ) (i j k : ℕ) → i ≤ k → k < j → at text k ≡ 10 → is_one_line text i j ≡ false
two_lines text i j k low high feed =
    let bytes = slice_range text i j in
    let place : i + (k - i) ≡ k = omega (arith, low) in
    let here : at bytes (k - i) ≡ 10 =
    get_or-take (j - i) (drop i text) (k - i) 0 (omega (arith, low, high)) ∙ get_or-drop i text (k - i) 0
    ∙ ap (at text) place ∙ feed in
    let inside : k - i < length bytes = elim (cases_lt (k - i) (length bytes)) [
      | inl less ↦ less
      | inr past ↦ absurd (omega (arith, here, get_or_past bytes (k - i) 0 past))
    ] in
    ap not (list_any_at (nat_eq 10) bytes (k - i) 0 inside (ap (nat_eq 10) here))

-- so are those before and behind a token where a line ends
pub broken_lines : (text : List ℕ) (i j k : ℕ) → i ≤ j → breaks text j ≡ true → next text j ≤ k
    → is_one_line text i k ≡ false
broken_lines text i j k low broken high =
    let f = gap_feeds (before text j) (drop j text) broken in
    let there : next text j ≡ j + (gap (before text j) (drop j text)).0 = refl in
    two_lines text i k (j + f.place) (omega (arith, low)) (omega (arith, f.few, there, high))
    (sym (get_or-drop j text f.place 0) ∙ f.feed)
