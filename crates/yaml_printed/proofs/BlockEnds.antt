-- How a literal block ends says how its text does.
use Rattle.std.proofs.Common.{◌≡◌, ℕ, suc, ◌-◌, Bool, true, false, ◌==◌, ◌||◌, refl, sym}
use Rattle.std.proofs.Common.{subst, ap, ◌∙◌, arith, List, [], ◌∷◌, ◌++◌, length}
use Rattle.std.proofs.Common.{take}
use Rattle.std.proofs.lemmas.Bool.{or_parts, false≢true, eqb-true}
use Rattle.std.specs.Prelude.{if◌then◌else◌}
use Rattle.yaml_emit.specs.Styles.{ends_with_byte}
use Rattle.yaml_grammar.specs.BlockTexts.{Chomping, Row, chomped, clip, deep, flat}
use Rattle.yaml_grammar.specs.BlockTexts.{into_first, keep, lines_of, no_row, row_of}
use Rattle.yaml_grammar.specs.BlockTexts.{strip}
use Rattle.yaml_grammar.specs.Bytes.{is_blank}
use Rattle.yaml_printed.proofs.BlockLines.{into_some}
use Rattle.yaml_printed.proofs.BlockRows.{Fine, before_row}
use Rattle.yaml_printed.proofs.BlockLines.{lined}
use Rattle.yaml_printed.proofs.PlainFits.{last_on}
use Rattle.yaml_printed.proofs.TreeEnds.{ends_feed}

-- ---- how the text ends

abbrev last_empty : Bool → List (List ℕ) → Bool
last_empty b [] = b
last_empty b ([] ∷ []) = b
last_empty b ((c ∷ cs) ∷ []) = false
last_empty b (l ∷ (m ∷ ms)) = last_empty true (m ∷ ms)

into_last : (b : Bool) (c : ℕ) (l : List ℕ) (ms : List (List ℕ))
    → last_empty b ((c ∷ l) ∷ ms) ≡ last_empty false (l ∷ ms)
into_last b c [] [] = refl
into_last b c (x ∷ xs) [] = refl
into_last b c l (m ∷ ms) = refl

last_before : (b : Bool) (c : ℕ) (cs : List ℕ) (x : Bool) → (c == 10) ≡ x
    → ((b : Bool) → last_empty b (lines_of cs) ≡ ends_feed b cs) → last_empty b (lines_of (c ∷ cs)) ≡ ends_feed x cs
last_before b c cs true e h =
    let l = lined cs in
    rw e (ap (λ ls. last_empty b ([] ∷ ls)) l.is ∙ (ap (last_empty true) (sym l.is) ∙ h true))
last_before b c cs false e h =
    let l = lined cs in
    rw e (ap (last_empty b) (into_some c (lines_of cs) l.first l.more l.is)
    ∙ (into_last b c l.first l.more ∙ (ap (last_empty false) (sym l.is) ∙ h false)))

last_is : (t : List ℕ) (b : Bool) → last_empty b (lines_of t) ≡ ends_feed b t
last_is [] b = refl
last_is (c ∷ cs) b = last_before b c cs (c == 10) refl (last_is cs)

ends_is : (x : ℕ) (xs : List ℕ) (b : Bool) → ends_with_byte 10 (x ∷ xs) ≡ ends_feed b (x ∷ xs)
ends_is x [] b = refl
ends_is x (y ∷ ys) b = last_on 10 x y ys ∙ ends_is y ys (x == 10)

-- ---- the end of the block

fine_strip : (ls : List (List ℕ)) (last : Row) (e : ℕ) → last_empty true ls ≡ false → Fine strip last e ls
fine_strip [] last e h = tt
fine_strip ([] ∷ []) last e h = absurd (false≢true (sym h))
fine_strip ((c ∷ cs) ∷ []) last e h = refl
fine_strip ([] ∷ (m ∷ ms)) last e h = fine_strip (m ∷ ms) last (suc e) h
fine_strip ((c ∷ cs) ∷ (m ∷ ms)) last e h = fine_strip (m ∷ ms) (row_of c) 0 h

keep_is : (last : Row) (e : ℕ) → chomped keep last e ≡ before_row last e
keep_is no_row e = refl
keep_is flat e = refl
keep_is deep e = refl

fine_keep : (ls : List (List ℕ)) (last : Row) (e : ℕ) → last_empty true ls ≡ true → Fine keep last e ls
fine_keep [] last e h = tt
fine_keep ([] ∷ []) last e h = keep_is last e
fine_keep ((c ∷ cs) ∷ []) last e h = absurd (false≢true h)
fine_keep ([] ∷ (m ∷ ms)) last e h = fine_keep (m ∷ ms) last (suc e) h
fine_keep ((c ∷ cs) ∷ (m ∷ ms)) last e h = fine_keep (m ∷ ms) (row_of c) 0 h

clip_is : (c : ℕ) → chomped clip (row_of c) 0 ≡ before_row (row_of c) 0
clip_is c = either (is_blank c)
  where
    either : (b : Bool) → chomped clip (if b then deep else flat) 0 ≡ before_row (if b then deep else flat) 0
    either true = refl
    either false = refl

fine_clip : (ls : List (List ℕ)) (last : Row) (e : ℕ) → last_empty true ls ≡ false → Fine clip last e (ls ++ ([] ∷ []))
fine_clip [] last e h = absurd (false≢true (sym h))
fine_clip ([] ∷ []) last e h = absurd (false≢true (sym h))
fine_clip ((c ∷ cs) ∷ []) last e h = clip_is c
fine_clip ([] ∷ (m ∷ ms)) last e h = fine_clip (m ∷ ms) last (suc e) h
fine_clip ((c ∷ cs) ∷ (m ∷ ms)) last e h = fine_clip (m ∷ ms) (row_of c) 0 h

feed_before : (c : ℕ) (cs : List ℕ) (b : Bool) → (c == 10) ≡ b → lines_of (cs ++ (10 ∷ [])) ≡ lines_of cs ++ ([] ∷ [])
    → lines_of ((c ∷ cs) ++ (10 ∷ [])) ≡ lines_of (c ∷ cs) ++ ([] ∷ [])
feed_before c cs true e h = rw e (ap (λ ls. [] ∷ ls) h)
feed_before c cs false e h =
    let l = lined cs in
    rw e (ap (into_first c) (h ∙ ap (λ ls. ls ++ ([] ∷ [])) l.is) ∙ ap (λ ls. into_first c ls ++ ([] ∷ [])) (sym l.is))

lines_feed_last : (s : List ℕ) → lines_of (s ++ (10 ∷ [])) ≡ lines_of s ++ ([] ∷ [])
lines_feed_last [] = refl
lines_feed_last (c ∷ cs) = feed_before c cs (c == 10) refl (lines_feed_last cs)

front_is : (x : ℕ) (xs : List ℕ) (b : Bool) → ends_feed b (x ∷ xs) ≡ true
    → x ∷ xs ≡ take (length xs) (x ∷ xs) ++ (10 ∷ [])
front_is x [] b h = ap (λ c. c ∷ []) (eqb-true x 10 h)
front_is x (y ∷ ys) b h = ap (λ l. x ∷ l) (front_is y ys (x == 10) h)

abbrev pub chomping_by : (feed more : Bool) → Chomping
chomping_by false more = strip
chomping_by true true = keep
chomping_by true false = clip

one_less : (n : ℕ) → suc n - 1 ≡ n
one_less n = omega arith

pub fine_all : (x : ℕ) (xs : List ℕ) (feed more : Bool) → ends_with_byte 10 (x ∷ xs) ≡ feed
    → (length (x ∷ xs) == 1 || ends_with_byte 10 (take (length (x ∷ xs) - 1) (x ∷ xs))) ≡ more
    → Fine (chomping_by feed more) no_row 0 (lines_of (x ∷ xs))
fine_all x xs false more e f =
    fine_strip (lines_of (x ∷ xs)) no_row 0 (last_is (x ∷ xs) true ∙ (sym (ends_is x xs true) ∙ e))
fine_all x xs true true e f =
    fine_keep (lines_of (x ∷ xs)) no_row 0 (last_is (x ∷ xs) true ∙ (sym (ends_is x xs true) ∙ e))
fine_all x [] true false e f = absurd (false≢true (sym f))
fine_all x (y ∷ ys) true false e f =
    let s = x ∷ take (length ys) (y ∷ ys) in
    let front : x ∷ y ∷ ys ≡ s ++ (10 ∷ []) = front_is x (y ∷ ys) true (sym (ends_is x (y ∷ ys) true) ∙ e) in
    let calm : ends_with_byte 10 s ≡ false
    = ap (λ n. ends_with_byte 10 (take n (x ∷ y ∷ ys))) (sym (one_less (length (y ∷ ys))))
    ∙ (or_parts (length (x ∷ y ∷ ys) == 1) (ends_with_byte 10 (take (length (x ∷ y ∷ ys) - 1) (x ∷ y ∷ ys))) f).1 in
    subst (Fine clip no_row 0) (sym (lines_feed_last s) ∙ ap lines_of (sym front))
    (fine_clip (lines_of s) no_row 0 (last_is s true ∙ (sym (ends_is x (take (length ys) (y ∷ ys)) true) ∙ calm)))
