-- Plain text in one line says what stands there.
use Rattle.std.proofs.Common.{◌≡◌, ◌≢◌, ℕ, suc, ◌+◌, ◌-◌, ◌<◌, ◌≤◌, ◌==◌, ◌⊎◌, Bool, false, List, [], ◌∷◌, ◌++◌}
use Rattle.std.proofs.Common.{Option, Some, None, arith, ap, subst, sym, refl, ◌∙◌, drop, length, take, inl, inr, ap₂}
use Rattle.std.proofs.Common.{subst₂, length-append, append_assoc}
use Rattle.std.specs.Prelude.{if◌then◌else◌, slice_range}
use Rattle.std.proofs.lemmas.Bool.{eqb-true}
use Rattle.std.proofs.lemmas.List.{get_or-append-add, get_or-drop, get_or_at}
use Rattle.yaml_base.specs.QuotedLines.{none}
use Rattle.yaml_base.specs.declared.event.ScalarStyle.{ScalarStyle}
use Rattle.yaml_base.specs.declared.event.ScalarStyle.TheVariants as style
use Rattle.yaml_grammar.specs.Bytes.{at, column}
use Rattle.yaml_grammar.specs.Folding.{Passed, Rest, and_blank, and_feed, blanks, nothing_passed, said_by, with_bytes}
use Rattle.yaml_grammar.specs.Leaves.{Leaf, alias_at, in_style, leaf_at, styled, to_anchor}
use Rattle.yaml_grammar.specs.Names.{name_end}
use Rattle.yaml_grammar.specs.Plain.{Context, begins_plain, column_behind, is_flow, is_refused, plain_at, plain_rest}
use Rattle.yaml_grammar.specs.Plain.{stops_plain}
use Rattle.yaml_grammar.specs.Quotes.{double_rest, single_rest}
use Rattle.yaml_reading.proofs.Options.{either, map_some, no_some, same_some}
use Rattle.yaml_checked.proofs.WithinText.{by_test}

-- either nothing more is said, or all that was passed counts
abbrev CountsAll : ℕ → Rest → Type 0
CountsAll skipped o = (r : ℕ × List ℕ) → o ≡ Some r → ((r.0 ≡ 0) × (r.1 ≡ [])) ⊎ (skipped < r.0)

stops_there : (skipped : ℕ) → CountsAll skipped (Some (0, []))
stops_there skipped r h =
    let nothing : ℕ × List ℕ = (0, []) in
    let same = same_some nothing r h in
    inl (sym (ap (λ (x : ℕ × List ℕ). x.0) same), sym (ap (λ (x : ℕ × List ℕ). x.1) same))

counts_more : (skipped : ℕ) (o : Rest) → CountsAll (suc skipped) o → CountsAll skipped o
counts_more skipped o f r h = elim (f r h) [ inl e ↦ inl e | inr less ↦ inr (omega (arith, less)) ]

counts_all : (context : Context) (col skipped : ℕ) (passed : Passed) (cs : List ℕ)
    → CountsAll skipped (plain_rest context col skipped passed cs)
counts_all context col skipped passed [] = stops_there skipped
counts_all context col skipped passed (c ∷ cs) =
    let space = plain_rest context (suc col) (suc skipped) (and_blank passed c) cs in
    let later = plain_rest context 0 (suc skipped) (and_feed passed) cs in
    let rest = plain_rest context (column_behind col c) 0 nothing_passed cs in
    let byte = with_bytes (suc skipped) (said_by passed ++ c ∷ []) rest in
    let stop : Rest = Some (0, []) in
    either (CountsAll skipped) (c == 32) space
    (if c == 10 then later else if stops_plain context col passed c cs then stop
    else if is_refused context c cs then None else byte)
    (counts_more skipped space (counts_all context (suc col) (suc skipped) (and_blank passed c) cs))
    (either (CountsAll skipped) (c == 10) later
    (if stops_plain context col passed c cs then stop else if is_refused context c cs then None else byte)
    (counts_more skipped later (counts_all context 0 (suc skipped) (and_feed passed) cs))
    (either (CountsAll skipped) (stops_plain context col passed c cs) stop
    (if is_refused context c cs then None else byte)
    (stops_there skipped)
    (either (CountsAll skipped) (is_refused context c cs) None byte
    (λ r h. absurd (no_some r h))
    (λ r h.
    let m = map_some rest (λ (x : ℕ × List ℕ). (suc skipped + x.0, (said_by passed ++ c ∷ []) ++ x.1)) r h in
    inr (subst (λ (x : ℕ × List ℕ). skipped < x.0) m.2 (omega arith))))))

-- what is said is the first of these bytes, if no line feed is among them
abbrev SaysFirst : List ℕ → Rest → Type 0
SaysFirst cs o = (r : ℕ × List ℕ) → o ≡ Some r → ((k : ℕ) → k < r.0 → at cs k ≢ 10) → r.1 ≡ take r.0 cs

says_nothing : (cs : List ℕ) → SaysFirst cs (Some (0, []))
says_nothing cs r h one = subst (λ (x : ℕ × List ℕ). x.1 ≡ take x.0 cs) (same_some _ r h) refl

says_none : (cs : List ℕ) → SaysFirst cs None
says_none cs r h one = absurd (no_some r h)

take_front : (p q : List ℕ) (n : ℕ) → take (length p + n) (p ++ q) ≡ p ++ take n q
take_front [] q n = let same : 0 + n ≡ n = omega arith in ap (λ k. take k q) same
take_front (x ∷ p) q n =
    let same : suc (length p) + n ≡ suc (length p + n) = omega arith in
    ap (λ k. take k (x ∷ (p ++ q))) same ∙ ap (λ l. x ∷ l) (take_front p q n)

-- a byte behind others, and then the first of the rest
byte_first : (bs cs : List ℕ) (c : ℕ) (x : ℕ × List ℕ)
    → ((k : ℕ) → k < suc (length bs) + x.0 → at (bs ++ (c ∷ cs)) k ≢ 10)
    → (((k : ℕ) → k < x.0 → at cs k ≢ 10) → x.1 ≡ take x.0 cs)
    → (bs ++ (c ∷ [])) ++ x.1 ≡ take (suc (length bs) + x.0) (bs ++ (c ∷ cs))
byte_first bs cs c x one first =
    let more = bs ++ (c ∷ []) in
    let joined : more ++ cs ≡ bs ++ (c ∷ cs) = append_assoc bs (c ∷ []) cs in
    let long : length more ≡ suc (length bs) = omega (arith, length-append bs (c ∷ [])) in
    let said = first (λ k less feed.
    let there : suc (length bs) + k ≡ length more + k = omega (arith, long) in
    one (suc (length bs) + k) (omega (arith, less))
    (ap (at (bs ++ (c ∷ cs))) there ∙ ap (λ l. at l (length more + k)) (sym joined) ∙ get_or-append-add more cs k 0
    ∙ feed)) in
    let size : length more + x.0 ≡ suc (length bs) + x.0 = omega (arith, long) in
    ap (λ l. more ++ l) said ∙ sym (take_front more cs x.0) ∙ ap₂ take size joined

-- by the blanks that were passed in this line
says_first : (context : Context) (cs : List ℕ) (col : ℕ) (bs : List ℕ)
    → SaysFirst (bs ++ cs) (plain_rest context col (length bs) (blanks bs) cs)
says_first context [] col bs = says_nothing (bs ++ [])
says_first context (c ∷ cs) col bs =
    let skipped = length bs in
    let all = bs ++ (c ∷ cs) in
    let more = bs ++ (c ∷ []) in
    let space = plain_rest context (suc col) (suc skipped) (blanks more) cs in
    let later = plain_rest context 0 (suc skipped) (and_feed (blanks bs)) cs in
    let rest = plain_rest context (column_behind col c) 0 nothing_passed cs in
    let byte = with_bytes (suc skipped) more rest in
    let stop : Rest = Some (0, []) in
    let long : length more ≡ suc skipped = omega (arith, length-append bs (c ∷ [])) in
    either (SaysFirst all) (c == 32) space
    (if c == 10 then later else if stops_plain context col (blanks bs) c cs then stop
    else if is_refused context c cs then None else byte)
    (subst₂ (λ l n. SaysFirst l (plain_rest context (suc col) n (blanks more) cs)) (append_assoc bs (c ∷ []) cs) long
    (says_first context cs (suc col) more))
    (by_test (SaysFirst all) (c == 10) later
    (if stops_plain context col (blanks bs) c cs then stop else if is_refused context c cs then None else byte)
    (λ feed r h one. elim (counts_all context 0 (suc skipped) (and_feed (blanks bs)) cs r h) [
      | inl nothing ↦ nothing.1 ∙ ap (λ n. take n all) (sym nothing.0)
      | inr past ↦ absurd (one skipped (omega (arith, past)) (get_or_at bs c cs 0 skipped refl ∙ eqb-true c 10 feed))
    ])
    (λ _. either (SaysFirst all) (stops_plain context col (blanks bs) c cs) stop
    (if is_refused context c cs then None else byte)
    (says_nothing all)
    (either (SaysFirst all) (is_refused context c cs) None byte
    (says_none all)
    (λ r h.
    let m = map_some rest (λ (x : ℕ × List ℕ). (suc skipped + x.0, more ++ x.1)) r h in
    subst (λ (x : ℕ × List ℕ). ((k : ℕ) → k < x.0 → at all k ≢ 10) → x.1 ≡ take x.0 all) m.2
    (λ one. byte_first bs cs c m.0 one (says_first context cs (column_behind col c) [] m.0 m.1))))))

-- what a leaf says, if it is plain text in one line
abbrev SaysLine : List ℕ → (i : ℕ) → Leaf × ℕ → Type 0
SaysLine text i (to_anchor anchor, e) = Unit {0}
SaysLine text i (in_style how said, e) =
    how ≡ style.Plain → ((k : ℕ) → i ≤ k → k < e → at text k ≢ 10) → said ≡ slice_range text i e

abbrev EachSaysLine : List ℕ → ℕ → Option (Leaf × ℕ) → Type 0
EachSaysLine text i o = (r : Leaf × ℕ) → o ≡ Some r → SaysLine text i r

other_style : (text : List ℕ) (i place : ℕ) (how : ScalarStyle) (rest : Rest) → (how ≡ style.Plain → ⊥)
    → EachSaysLine text i (styled how place rest)
other_style text i place how rest other r h =
    let m = map_some rest (λ (x : ℕ × List ℕ). (in_style how x.1, place + x.0)) r h in
    subst (SaysLine text i) m.2 (λ plain one. absurd (other plain))

an_alias : (text : List ℕ) (flow : Bool) (i : ℕ) → EachSaysLine text i (alias_at text flow (suc i))
an_alias text flow i r h =
    let m = map_some (name_end text flow (suc i)) _ r h in
    subst (SaysLine text i) m.2 tt

plain_style : (text : List ℕ) (context : Context) (i : ℕ)
    → EachSaysLine text i (styled style.Plain i (plain_at text context i))
plain_style text context i r h =
    let bytes = drop i text in
    let rest = plain_rest context (column text i) 0 nothing_passed bytes in
    let m = map_some (plain_at text context i) (λ (x : ℕ × List ℕ). (in_style style.Plain x.1, i + x.0)) r h in
    let first : SaysFirst bytes (plain_at text context i) =
    either (SaysFirst bytes) (begins_plain text (is_flow context) i) rest None
    (says_first context bytes (column text i) []) (says_none bytes) in
    let size : m.0.0 ≡ i + m.0.0 - i = omega arith in
    subst (SaysLine text i) m.2 (λ plain one.
    first m.0 m.1 (λ k less feed. one (i + k) (omega arith) (omega (arith, less)) (sym (get_or-drop i text k 0) ∙ feed))
    ∙ ap (λ n. take n bytes) size)

pub leaf_says : (text : List ℕ) (context : Context) (i : ℕ) → EachSaysLine text i (leaf_at text context i)
leaf_says text context i =
    let single = single_rest false false nothing_passed (drop (suc i) text) in
    let double = double_rest none false nothing_passed (drop (suc i) text) in
    let first = alias_at text (is_flow context) (suc i) in
    let second = styled style.SingleQuoted (suc i) single in
    let third = styled style.DoubleQuoted (suc i) double in
    let fourth = styled style.Plain i (plain_at text context i) in
    let says : Option (Leaf × ℕ) → Type 0 = EachSaysLine text i in
    either says (at text i == 42) first (if at text i == 39 then second else if at text i == 34 then third else fourth)
    (an_alias text (is_flow context) i)
    (either says (at text i == 39) second (if at text i == 34 then third else fourth)
    (other_style text i (suc i) style.SingleQuoted single (λ e. cc))
    (either says (at text i == 34) third fourth
    (other_style text i (suc i) style.DoubleQuoted double (λ e. cc)) (plain_style text context i)))
