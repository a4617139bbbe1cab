-- The lines of a text, and what a literal block prints of them.
use Rattle.std.proofs.Common.{◌≡◌, ℕ, zero, suc, ◌<◌, ◌≤◌, Bool, true, false, not, ◌==◌, refl, sym}
use Rattle.std.proofs.Common.{ap, ap₂, ◌∙◌, arith, List, [], ◌∷◌, ◌++◌, length, replicate, append_assoc}
use Rattle.std.proofs.Common.{append-nil}
use Rattle.std.proofs.lemmas.Bool.{and_parts, ne_eqb, eqb-true}
use Rattle.std.proofs.lemmas.Str.{encode_ascii, encodes-chars, scalars-chars}
use Rattle.std.specs.List.{list_all}
use Rattle.std.specs.Str.{IsUtf8, chars}
use lib.Utf8.{encode, encodes, scalar, scalars}
use Rattle.yaml_emit.specs.PrintedTexts.{block_rest}
use Rattle.yaml_emit.proofs.ByItself.{top_of}
use Rattle.yaml_grammar.specs.BlockTexts.{into_first, lines_of}
use Rattle.yaml_grammar.proofs.PlainLaws.{not_true}
use Rattle.yaml_printed.proofs.ByteLaws.{encode_all}
use Rattle.yaml_printed.proofs.Escapes.{len_one}
use Rattle.yaml_printed.proofs.Words.{and_no}

abbrev pub is_in_line : ℕ → Bool
is_in_line b = not (b == 10)

-- ---- the lines of a text

pub record Lined (xs : List ℕ) : Type 0 where
  pub first : List ℕ
  pub more : List (List ℕ)
  pub is : lines_of xs ≡ first ∷ more

pub into_some : (c : ℕ) (ls : List (List ℕ)) (first : List ℕ) (more : List (List ℕ)) → ls ≡ first ∷ more
    → into_first c ls ≡ (c ∷ first) ∷ more
into_some c ls first more e = ap (into_first c) e

line_before : (c : ℕ) (cs : List ℕ) (b : Bool) → (c == 10) ≡ b → Lined cs → Lined (c ∷ cs)
line_before c cs true e l = record { first = []; more = lines_of cs; is = rw e refl }
line_before c cs false e l =
    record { first = c ∷ l.first; more = l.more; is = rw e (into_some c (lines_of cs) l.first l.more l.is) }

pub lined : (xs : List ℕ) → Lined xs
lined [] = record { first = []; more = []; is = refl }
lined (c ∷ cs) = line_before c cs (c == 10) refl (lined cs)

lines_feed : (cs : List ℕ) → lines_of (10 ∷ cs) ≡ [] ∷ lines_of cs
lines_feed cs = refl

pub lines_front : (xs ys first : List ℕ) (more : List (List ℕ)) → list_all is_in_line xs ≡ true
    → lines_of ys ≡ first ∷ more
    → lines_of (xs ++ ys) ≡ (xs ++ first) ∷ more
lines_front [] ys first more h e = e
lines_front (x ∷ xs) ys first more h e =
    let p = and_parts (is_in_line x) (list_all is_in_line xs) h in
    rw (not_true (x == 10) p.0) (into_some x (lines_of (xs ++ ys)) (xs ++ first) more
    (lines_front xs ys first more p.1 e))

lines_line : (xs ys : List ℕ) → list_all is_in_line xs ≡ true → lines_of (xs ++ (10 ∷ ys)) ≡ xs ∷ lines_of ys
lines_line xs ys h = lines_front xs (10 ∷ ys) [] (lines_of ys) h refl ∙ ap (λ l. l ∷ lines_of ys) (append-nil xs)

-- no line has a line feed
abbrev pub are_lines : List (List ℕ) → Bool
are_lines ls = list_all (list_all is_in_line) ls

into_lines : (c : ℕ) (ls : List (List ℕ)) → (c == 10) ≡ false → are_lines ls ≡ true → are_lines (into_first c ls) ≡ true
into_lines c [] e h = rw e refl
into_lines c (l ∷ ls) e h = rw e h

lines_before : (c : ℕ) (cs : List ℕ) (b : Bool) → (c == 10) ≡ b → are_lines (lines_of cs) ≡ true
    → are_lines (lines_of (c ∷ cs)) ≡ true
lines_before c cs true e h = rw e h
lines_before c cs false e h = rw e (into_lines c (lines_of cs) e h)

pub lines_are : (t : List ℕ) → are_lines (lines_of t) ≡ true
lines_are [] = refl
lines_are (c ∷ cs) = lines_before c cs (c == 10) refl (lines_are cs)

-- lines as a text
abbrev pub join : List (List ℕ) → List ℕ
join [] = []
join (l ∷ []) = l
join (l ∷ (m ∷ ms)) = l ++ (10 ∷ join (m ∷ ms))

join_first : (c : ℕ) (l : List ℕ) (ls : List (List ℕ)) → join ((c ∷ l) ∷ ls) ≡ c ∷ join (l ∷ ls)
join_first c l [] = refl
join_first c l (m ∷ ms) = refl

join_before : (c : ℕ) (cs : List ℕ) (b : Bool) → (c == 10) ≡ b → join (lines_of cs) ≡ cs
    → join (lines_of (c ∷ cs)) ≡ c ∷ cs
join_before c cs true e h =
    let l = lined cs in
    rw e (ap (λ ls. join ([] ∷ ls)) l.is ∙ ap₂ (λ x xs. x ∷ xs) (sym (eqb-true c 10 e)) (ap join (sym l.is) ∙ h))
join_before c cs false e h =
    let l = lined cs in
    rw e (ap join (into_some c (lines_of cs) l.first l.more l.is)
    ∙ (join_first c l.first l.more ∙ ap (λ xs. c ∷ xs) (ap join (sym l.is) ∙ h)))

pub join_lines : (t : List ℕ) → join (lines_of t) ≡ t
join_lines [] = refl
join_lines (c ∷ cs) = join_before c cs (c == 10) refl (join_lines cs)

-- ---- what is printed of them

abbrev pub indented : ℕ → List ℕ → List ℕ
indented n [] = []
indented n (c ∷ cs) = replicate n 32 ++ (c ∷ cs)

-- in lines, without the last one where that is empty
abbrev pub blocks : ℕ → List (List ℕ) → List (List ℕ)
blocks n [] = []
blocks n ([] ∷ []) = []
blocks n ((c ∷ cs) ∷ []) = indented n (c ∷ cs) ∷ []
blocks n (l ∷ (m ∷ ms)) = indented n l ∷ blocks n (m ∷ ms)

abbrev pub block_of : ℕ → List (List ℕ) → List ℕ
block_of n [] = []
block_of n ([] ∷ []) = []
block_of n ((c ∷ cs) ∷ []) = indented n (c ∷ cs) ++ (10 ∷ [])
block_of n (l ∷ (m ∷ ms)) = indented n l ++ (10 ∷ block_of n (m ∷ ms))

-- where the first line has begun
abbrev tail_of : ℕ → List (List ℕ) → List ℕ
tail_of n [] = []
tail_of n (l ∷ []) = l ++ (10 ∷ [])
tail_of n (l ∷ (m ∷ ms)) = l ++ (10 ∷ block_of n (m ∷ ms))

block_some : (n x : ℕ) (xs : List ℕ) (ms : List (List ℕ))
    → block_of n ((x ∷ xs) ∷ ms) ≡ replicate n 32 ++ tail_of n ((x ∷ xs) ∷ ms)
block_some n x xs [] = append_assoc (replicate n 32) (x ∷ xs) (10 ∷ [])
block_some n x xs (m ∷ ms) = append_assoc (replicate n 32) (x ∷ xs) (10 ∷ block_of n (m ∷ ms))

tail_front : (n : ℕ) (xs l : List ℕ) (ms : List (List ℕ)) → tail_of n ((xs ++ l) ∷ ms) ≡ xs ++ tail_of n (l ∷ ms)
tail_front n xs l [] = append_assoc xs l (10 ∷ [])
tail_front n xs l (m ∷ ms) = append_assoc xs l (10 ∷ block_of n (m ∷ ms))

some_of : (n : ℕ) (xs l : List ℕ) (ms : List (List ℕ)) → 1 ≤ length xs
    → block_of n ((xs ++ l) ∷ ms) ≡ replicate n 32 ++ (xs ++ tail_of n (l ∷ ms))
some_of n [] l ms some = absurd (omega (arith, some))
some_of n (x ∷ xs) l ms some =
    block_some n x (xs ++ l) ms ∙ ap (λ r. replicate n 32 ++ r) (tail_front n (x ∷ xs) l ms)

abbrev printed_lines : ℕ → (begins : Bool) → List (List ℕ) → List ℕ
printed_lines n true ls = block_of n ls
printed_lines n false ls = tail_of n ls

after_feed : (n : ℕ) (b : Bool) (first : List ℕ) (more : List (List ℕ))
    → 10 ∷ block_of n (first ∷ more) ≡ printed_lines n b ([] ∷ (first ∷ more))
after_feed n true first more = refl
after_feed n false first more = refl

beyond_line : (b : ℕ) → 128 ≤ b → b < 256 → is_in_line b ≡ true
beyond_line b h top = rw (ne_eqb b 10 (λ e. absurd (omega arith))) refl

block_step : (n c : ℕ) (cs : List ℕ) (b feed : Bool) → (c == 10) ≡ feed → scalar c ≡ true
    → ((b : Bool) → block_rest n b cs ≡ printed_lines n b (lines_of (encodes cs)))
    → block_rest n b (c ∷ cs) ≡ printed_lines n b (lines_of (encodes (c ∷ cs)))
block_step n c cs b true e s ih =
    let l = lined (encodes cs) in
    let bytes : encode c ≡ 10 ∷ [] = ap encode (eqb-true c 10 e) ∙ encode_ascii 10 (omega arith) in
    rw (e, bytes, and_no b)
    (ap (λ r. 10 ∷ r) (ih true ∙ ap (block_of n) l.is) ∙ (after_feed n b l.first l.more ∙ ap
    (λ ls. printed_lines n b ([] ∷ ls)) (sym l.is)))
block_step n c cs true false e s ih =
    let l = lined (encodes cs) in
    let calm = encode_all is_in_line beyond_line c (omega (arith, top_of c s)) (λ low. rw e refl) in
    rw e (append_assoc (replicate n 32) (encode c) (block_rest n false cs)
    ∙ (ap (λ r. replicate n 32 ++ (encode c ++ r)) (ih false ∙ ap (tail_of n) l.is)
    ∙ (sym (some_of n (encode c) l.first l.more (len_one c))
    ∙ ap (block_of n) (sym (lines_front (encode c) (encodes cs) l.first l.more calm l.is)))))
block_step n c cs false false e s ih =
    let l = lined (encodes cs) in
    let calm = encode_all is_in_line beyond_line c (omega (arith, top_of c s)) (λ low. rw e refl) in
    rw e (ap (λ r. encode c ++ r) (ih false ∙ ap (tail_of n) l.is)
    ∙ (sym (tail_front n (encode c) l.first l.more)
    ∙ ap (tail_of n) (sym (lines_front (encode c) (encodes cs) l.first l.more calm l.is))))

block_prints : (n : ℕ) (cs : List ℕ) → scalars cs ≡ true → (b : Bool)
    → block_rest n b cs ≡ printed_lines n b (lines_of (encodes cs))
block_prints n [] s true = refl
block_prints n [] s false = refl
block_prints n (c ∷ cs) s b =
    let p = and_parts (scalar c) (scalars cs) s in
    block_step n c cs b (c == 10) refl p.0 (block_prints n cs p.1)

pub block_text : (n : ℕ) (t : List ℕ) → IsUtf8 t → block_rest n true (chars t) ≡ block_of n (lines_of t)
block_text n t u =
    block_prints n (chars t) (scalars-chars t u) true ∙ ap (λ x. block_of n (lines_of x)) (encodes-chars t u)

-- ---- the lines of what is printed

spaces_line : (n : ℕ) (xs : List ℕ) → list_all is_in_line xs ≡ true → list_all is_in_line (replicate n 32 ++ xs) ≡ true
spaces_line zero xs h = h
spaces_line (suc n) xs h = spaces_line n xs h

indented_line : (n : ℕ) (l : List ℕ) → list_all is_in_line l ≡ true → list_all is_in_line (indented n l) ≡ true
indented_line n [] h = refl
indented_line n (c ∷ cs) h = spaces_line n (c ∷ cs) h

pub lines_block : (n : ℕ) (ls : List (List ℕ)) (after : List ℕ) → are_lines ls ≡ true
    → lines_of (block_of n ls ++ after) ≡ blocks n ls ++ lines_of after
lines_block n [] after h = refl
lines_block n ([] ∷ []) after h = refl
lines_block n ((c ∷ cs) ∷ []) after h =
    let p = and_parts (list_all is_in_line (c ∷ cs)) true h in
    ap lines_of (append_assoc (indented n (c ∷ cs)) (10 ∷ []) after)
    ∙ lines_line (indented n (c ∷ cs)) after (indented_line n (c ∷ cs) p.0)
lines_block n (l ∷ (m ∷ ms)) after h =
    let p = and_parts (list_all is_in_line l) (are_lines (m ∷ ms)) h in
    ap lines_of (append_assoc (indented n l) (10 ∷ block_of n (m ∷ ms)) after)
    ∙ (lines_line (indented n l) (block_of n (m ∷ ms) ++ after) (indented_line n l p.0)
    ∙ ap (λ ls. indented n l ∷ ls) (lines_block n (m ∷ ms) after p.1))
