-- Where no line feed stands.
use Rattle.std.proofs.Common.{ℕ, zero, suc, ◌+◌, ◌-◌, ◌<◌, ◌≤◌, ◌≡◌, ◌≢◌, ◌==◌, ◌||◌, not, Bool, true, false, List, []}
use Rattle.std.proofs.Common.{◌∷◌, length, refl, sym, subst, ap, ◌∙◌, arith, inl, inr, drop, take}
use Rattle.std.proofs.lemmas.Bool.{and_left, and_right, cases_lt, eq-eqb, false≢true, le-leb, ne_eqb}
use Rattle.std.proofs.lemmas.List.{drop_all, get_or-drop}
use Rattle.std.specs.List.{list_any}
use Rattle.std.specs.Prelude.{if◌then◌else◌, nat_eq, nat_le}
use Rattle.yaml_direct.specs.Bytes as code
use Rattle.yaml_direct.specs.Gaps.{InLine}
use Rattle.yaml_direct.specs.Lines.{PlainLine}
use Rattle.yaml_direct.specs.Quoted.{IsRun}
use Rattle.yaml_direct.specs.declared.quote.Quote.{Quote}
use Rattle.yaml_direct.specs.declared.quote.Quote.TheVariants.{Double, Single}
use Rattle.yaml_direct.proofs.ColumnLaws.{column_on}
use Rattle.yaml_direct.proofs.NextLaws.{bytes_at}
use Rattle.yaml_direct.proofs.TextLaws.{no_return}
use Rattle.yaml_grammar.specs.Brackets.{has_colon}
use Rattle.yaml_grammar.specs.Bytes.{at, column, is_one_line, is_text, parts, parts_documents}
use Rattle.yaml_grammar.specs.Gaps.{Before, apart, before, breaks, comment, gap, next, one_feed_more, one_more, token}

pub line_none : (text : List ℕ) (i : ℕ) → InLine text i i
line_none text i k low high = absurd (omega (arith, low, high))

pub line_on : (text : List ℕ) (i j k : ℕ) → InLine text i j → InLine text j k → InLine text i k
line_on text i j k f g m low high =
    elim (cases_lt m j) [ inl before ↦ f m low before | inr behind ↦ g m behind high ]

-- a line is one line
taken : (text : List ℕ) (n i : ℕ) → InLine text i (i + n) → list_any (nat_eq 10) (take n (drop i text)) ≡ false
taken text zero i h = refl
taken text (suc n) i h =
    elim (cases_lt i (length text)) [
      | inl inside ↦
          let there : suc i + n ≡ i + suc n = omega arith in
          ap (λ l. list_any (nat_eq 10) (take (suc n) l)) (bytes_at text i inside)
          ∙ both (nat_eq 10 (at text i)) _ (ne_eqb 10 (at text i) (λ e. h i (omega arith) (omega arith) (sym e)))
          (taken text n (suc i) (λ k low high. h k (omega (arith, low)) (omega (arith, high, there))))
      | inr over ↦ ap (λ l. list_any (nat_eq 10) (take (suc n) l)) (drop_all i text over)
    ]
  where
    both : (x y : Bool) → x ≡ false → y ≡ false → (x || y) ≡ false
    both false y p q = q
    both true y p q = absurd (false≢true (sym p))

pub one_line : (text : List ℕ) (i j : ℕ) → i ≤ j → InLine text i j → is_one_line text i j ≡ true
one_line text i j le h =
    let there : i + (j - i) ≡ j = omega (arith, le) in
    ap not (taken text (j - i) i (subst (λ k. InLine text i k) (sym there) h))

-- no line ends in a gap that is in its line
abbrev NoFeed : List ℕ → ℕ × Bool → Type 0
NoFeed cs g = g.1 ≡ false → (k : ℕ) → k < g.0 → at cs k ≢ 10

no_gap_line : (cs : List ℕ) → NoFeed cs (0, false)
no_gap_line cs h k less = absurd (omega (arith, less))

feed_line : (cs : List ℕ) (g : ℕ × Bool) → NoFeed cs (one_feed_more g)
feed_line cs g h = absurd (false≢true (sym h))

behind_line : (c : ℕ) (cs : List ℕ) (g : ℕ × Bool) → c ≢ 10 → NoFeed cs g → NoFeed (c ∷ cs) (one_more g)
behind_line c cs g other f h zero less e = other e
behind_line c cs g other f h (suc k) less e = f h k (omega (arith, less)) e

either_by : {A : Type 0} (P : A → Type 0) (b : Bool) (x y : A) → (b ≡ true → P x) → (b ≡ false → P y)
    → P (if b then x else y)
either_by P true x y p q = p refl
either_by P false x y p q = q refl

other_than : (c : ℕ) → (c == 10) ≡ false → c ≢ 10
other_than c h e = false≢true (sym h ∙ eq-eqb c 10 e)

gap_line : (b : Before) (cs : List ℕ) → NoFeed cs (gap b cs)
gap_line b [] = no_gap_line []
gap_line comment (c ∷ cs) =
    either_by (NoFeed (c ∷ cs)) (c == 10) (one_feed_more (gap apart cs)) (one_more (gap comment cs))
    (λ e. feed_line (c ∷ cs) (gap apart cs))
    (λ e. behind_line c cs (gap comment cs) (other_than c e) (gap_line comment cs))
gap_line token (c ∷ cs) =
    either_by (NoFeed (c ∷ cs)) (c == 10) (one_feed_more (gap apart cs))
    (if c == 32 then one_more (gap apart cs) else (0, false)) (λ e. feed_line (c ∷ cs) (gap apart cs))
    (λ e. either_by (NoFeed (c ∷ cs)) (c == 32) (one_more (gap apart cs)) (0, false)
    (λ s. behind_line c cs (gap apart cs) (other_than c e) (gap_line apart cs)) (λ s. no_gap_line (c ∷ cs)))
gap_line apart (c ∷ cs) =
    either_by (NoFeed (c ∷ cs)) (c == 10) (one_feed_more (gap apart cs))
    (if c == 32 then one_more (gap apart cs) else if c == 35 then one_more (gap comment cs) else (0, false))
    (λ e. feed_line (c ∷ cs) (gap apart cs))
    (λ e. either_by (NoFeed (c ∷ cs)) (c == 32) (one_more (gap apart cs))
    (if c == 35 then one_more (gap comment cs) else (0, false))
    (λ s. behind_line c cs (gap apart cs) (other_than c e) (gap_line apart cs))
    (λ s. either_by (NoFeed (c ∷ cs)) (c == 35) (one_more (gap comment cs)) (0, false)
    (λ h. behind_line c cs (gap comment cs) (other_than c e) (gap_line comment cs)) (λ h. no_gap_line (c ∷ cs))))

at_behind : (text : List ℕ) (i k : ℕ) → at (drop i text) k ≡ at text (i + k)
at_behind text i k = get_or-drop i text k 0

pub next_line : (text : List ℕ) (i : ℕ) → breaks text i ≡ false → InLine text i (next text i)
next_line text i h k low high e =
    let there : i + (k - i) ≡ k = omega (arith, low) in
    gap_line (before text i) (drop i text) h (k - i) (omega (arith, low, high))
    (at_behind text i (k - i) ∙ ap (at text) there ∙ e)

-- the line of a plain text, and of a scalar between quotes
pub plain_line : (text : List ℕ) (flow : Bool) (i j : ℕ) → PlainLine text flow i j → InLine text i j
plain_line text flow i j l k low high e =
    feed_stops (at text k) e (l.goes_on k low (omega (arith, high, l.forward)))
  where
    feed_stops : (c : ℕ) → c ≡ 10 → code.stops_plain text flow k ≡ false → ⊥
    feed_stops c is goes =
        let first : (at text k == 10) ≡ true = eq-eqb (at text k) 10 e in
        false≢true (sym goes ∙ rw first refl)

pub run_line : (text : List ℕ) (quote : Quote) (i j : ℕ) → IsRun text quote i j → InLine text i j
run_line text Single i j r k low high e =
    let feed : (at text k == 10) ≡ true = eq-eqb (at text k) 10 e in
    let quote : (at text k == 39) ≡ false = ne_eqb (at text k) 39 (λ q. omega (arith, q, e)) in
    false≢true (sym (r k low high) ∙ rw (quote, feed) refl)
run_line text Double i j r k low high e =
    let feed : (at text k == 10) ≡ true = eq-eqb (at text k) 10 e in
    let quote : (at text k == 34) ≡ false = ne_eqb (at text k) 34 (λ q. omega (arith, q, e)) in
    let slash : (at text k == 92) ≡ false = ne_eqb (at text k) 92 (λ q. omega (arith, q, e)) in
    false≢true (sym (r k low high) ∙ rw (quote, slash, feed) refl)

-- the `:` of a key in its line
pub colon_by : (text : List ℕ) (i end : ℕ) → i ≤ next text end → at text (next text end) ≡ 58
    → is_one_line text i (next text end) ≡ true → next text end ≤ i + 1024 → has_colon text i end ≡ true
colon_by text i end le colon line near =
    let byte : (at text (next text end) == 58) ≡ true = eq-eqb (at text (next text end)) 58 colon in
    let short : nat_le (next text end) (i + 1024) ≡ true = le-leb (next text end) (i + 1024) near in
    rw (byte, line, short) refl

-- documents are parted where a line begins
pub amid_parts : (text : List ℕ) (i : ℕ) → is_text text ≡ true → i ≢ 0 → at text (i - 1) < 128 → at text (i - 1) ≢ 10
    → parts_documents text i ≡ false
amid_parts text i h some low feed =
    let there : suc (i - 1) ≡ i = omega (arith, some) in
    let one = column_on text (i - 1) low feed (no_return text (i - 1) h) in
    let behind : column text i ≡ column text (i - 1) + 1 = ap (column text) (sym there) ∙ one in
    and_left (column text i == 0) _ (ne_eqb (column text i) 0 (λ z. omega (arith, z, behind)))

pub no_dash : (text : List ℕ) (i c : ℕ) → at text i ≡ c → (c == 45) ≡ false → (c == 46) ≡ false
    → parts_documents text i ≡ false
no_dash text i c e dash dot =
    let first : at (drop i text) 0 ≡ c = at_behind text i 0 ∙ ap (at text) (zero_more i) ∙ e in
    and_right (column text i == 0) _
    (no_parts (drop i text) (ap (λ x. x == 45) first ∙ dash) (ap (λ x. x == 46) first ∙ dot))
  where
    zero_more : (i : ℕ) → i + 0 ≡ i
    zero_more i = omega arith

    no_parts : (bytes : List ℕ) → (at bytes 0 == 45) ≡ false → (at bytes 0 == 46) ≡ false → parts bytes ≡ false
    no_parts bytes p q = rw (p, q) refl
