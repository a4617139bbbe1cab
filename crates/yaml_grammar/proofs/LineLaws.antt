-- Where tokens stand in lines of items.
use Rattle.std.proofs.Common.{◌≡◌, ℕ, suc, ◌+◌, ◌-◌, ◌==◌, ◌||◌, Bool, true, false, List, [], ◌∷◌, ◌++◌}
use Rattle.std.proofs.Common.{length, refl, sym, ap, ap₂, ◌∙◌, arith, drop, nat_le, true≢false, ne_eqb, if◌then◌else◌}
use Rattle.std.proofs.lemmas.Bool.{or_parts}
use Rattle.std.proofs.lemmas.List.{drop-drop, drop_at, length-drop}
use Rattle.yaml_base.specs.Places.{place_behind, place_of}
use Rattle.yaml_grammar.specs.Bytes.{at, column, is_gap, is_indicator}
use Rattle.yaml_grammar.specs.Gaps.{apart, before, breaks, ends_its_line, gap, next, token}

-- a byte that begins a token and is no anchor's or tag's
pub record IsWord (c : ℕ) : Type 0 where
  pub no_feed : (c == 10) ≡ false
  pub no_space : (c == 32) ≡ false
  pub no_hash : (c == 35) ≡ false
  pub no_anchor : (c == 38) ≡ false
  pub no_tag : (c == 33) ≡ false

none_of : (c b : ℕ) → is_indicator b ≡ true → is_indicator c ≡ false → (c == b) ≡ false
none_of c b is other = ne_eqb c b (λ e. true≢false (sym is ∙ ap is_indicator (sym e) ∙ other))

pub word_is : (c : ℕ) → is_gap c ≡ false → is_indicator c ≡ false → IsWord c
word_is c gap other = record {
  no_feed = (or_parts _ _ (or_parts _ _ gap).1).0;
  no_space = (or_parts _ _ (or_parts _ _ gap).0).0;
  no_hash = none_of c 35 refl other;
  no_anchor = none_of c 38 refl other;
  no_tag = none_of c 33 refl other;
}

-- `-` is a word too
pub dash_word : IsWord 45
dash_word = record { no_feed = refl; no_space = refl; no_hash = refl; no_anchor = refl; no_tag = refl }

-- what is left behind some bytes
pub later_of : (text : List ℕ) (i : ℕ) (ws xs : List ℕ) → drop i text ≡ ws ++ xs → drop (i + length ws) text ≡ xs
later_of text i ws xs e =
    sym (drop-drop (length ws) i text) ∙ (ap (drop (length ws)) e ∙ drop_at ws xs (length ws) refl)

pub is_inside : (text : List ℕ) (i c : ℕ) (cs : List ℕ) → drop i text ≡ c ∷ cs → nat_le (length text) i ≡ false
is_inside text i c cs e =
    let left = sym (length-drop i text) ∙ ap length e in
    grind (arith, left)

pub is_end : (text : List ℕ) (i : ℕ) → drop i text ≡ [] → nat_le (length text) i ≡ true
is_end text i e =
    let left = sym (length-drop i text) ∙ ap length e in
    grind (arith, left)

-- a gap ends at a word
gap_word : (b : Bool) (c : ℕ) (cs : List ℕ) → IsWord c → gap (if b then apart else token) (c ∷ cs) ≡ (0, false)
gap_word true c cs w = rw (w.no_feed, w.no_space, w.no_hash) refl
gap_word false c cs w = rw (w.no_feed, w.no_space) refl

gap_space : (b : Bool) (c : ℕ) (cs : List ℕ) → IsWord c → gap (if b then apart else token) (32 ∷ c ∷ cs) ≡ (1, false)
gap_space true c cs w = rw (w.no_feed, w.no_space, w.no_hash) refl
gap_space false c cs w = rw (w.no_feed, w.no_space, w.no_hash) refl

-- nothing follows, or a word
pub data Follows : List ℕ → Type 0 where
  nothing_more : Follows []
  a_word : {c : ℕ} {cs : List ℕ} → IsWord c → Follows (c ∷ cs)

gap_feed : (b : Bool) (rest : List ℕ) → Follows rest → gap (if b then apart else token) (10 ∷ rest) ≡ (1, true)
gap_feed true [] f = refl
gap_feed false [] f = refl
gap_feed true (c ∷ cs) (a_word w) = rw (w.no_feed, w.no_space, w.no_hash) refl
gap_feed false (c ∷ cs) (a_word w) = rw (w.no_feed, w.no_space, w.no_hash) refl

-- where the next token stands, and whether a line ends before it
pub record Next (text : List ℕ) (i size : ℕ) (broken : Bool) : Type 0 where
  pub there : next text i ≡ i + size
  pub breaks_is : breaks text i ≡ broken

next_is : (text : List ℕ) (i : ℕ) (cs : List ℕ) (size : ℕ) (broken : Bool) → drop i text ≡ cs
    → gap (before text i) cs ≡ (size, broken) → Next text i size broken
next_is text i cs size broken e g =
    let all = ap (gap (before text i)) e ∙ g in
    record { there = ap (λ r. i + r.0) all; breaks_is = ap (λ r. r.1) all }

pub next_word : (text : List ℕ) (i c : ℕ) (cs : List ℕ) → drop i text ≡ c ∷ cs → IsWord c → Next text i 0 false
next_word text i c cs e w =
    next_is text i (c ∷ cs) 0 false e (gap_word (i == 0 || (at text (i - 1) == 32 || at text (i - 1) == 10)) c cs w)

pub next_space : (text : List ℕ) (i c : ℕ) (cs : List ℕ) → drop i text ≡ 32 ∷ c ∷ cs → IsWord c → Next text i 1 false
next_space text i c cs e w =
    next_is text i (32 ∷ c ∷ cs) 1 false e
    (gap_space (i == 0 || (at text (i - 1) == 32 || at text (i - 1) == 10)) c cs w)

pub next_feed : (text : List ℕ) (i : ℕ) (rest : List ℕ) → drop i text ≡ 10 ∷ rest → Follows rest → Next text i 1 true
next_feed text i rest e f =
    next_is text i (10 ∷ rest) 1 true e
    (gap_feed (i == 0 || (at text (i - 1) == 32 || at text (i - 1) == 10)) rest f)

-- the column behind a line feed
pub behind_feed : (text : List ℕ) (i : ℕ) → at text i ≡ 10 → column text (suc i) ≡ 0
behind_feed text i e = ap (λ q. q.1) (line_behind (place_of text i))
  where
    line_behind : (q : ℕ × ℕ) → place_behind text i q ≡ (q.0 + 1, 0)
    line_behind q = rw e refl

-- the column behind a space that is not the first byte
pub behind_space_column : (text : List ℕ) (i : ℕ) → at text (suc i) ≡ 32 → (column text (suc (suc i)) == 0) ≡ false
behind_space_column text i e =
    ne_eqb (column text (suc (suc i))) 0
    (λ z. absurd (omega (arith, z, ap (λ q. q.1) (next_column (place_of text (suc i))))))
  where
    next_column : (q : ℕ × ℕ) → place_behind text (suc i) q ≡ (q.0, q.1 + 1)
    next_column q = rw (e, ne_eqb (suc i) 0 (λ z. absurd (omega (arith, z)))) refl

pub ends_is : (text : List ℕ) (i size : ℕ) (broken : Bool) → Next text i size broken
    → ends_its_line text i ≡ (broken || nat_le (length text) (i + size))
ends_is text i size broken n = ap₂ (λ b k. b || nat_le (length text) k) n.breaks_is n.there
