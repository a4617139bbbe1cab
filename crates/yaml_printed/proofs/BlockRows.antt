-- The rows of a literal block say its text.
use Rattle.std.proofs.Common.{◌≡◌, ℕ, zero, suc, ◌+◌, ◌<◌, Bool, true, false, not, ◌&&◌, refl, sym}
use Rattle.std.proofs.Common.{ap, ap₂, ◌∙◌, arith, List, [], ◌∷◌, ◌++◌, length, replicate, append_assoc}
use Rattle.std.proofs.Common.{append-nil, nat_le, nat_lt, drop}
use Rattle.std.proofs.lemmas.Bool.{le-leb, le-ltb, lt-leb, lt-ltb}
use Rattle.std.proofs.lemmas.List.{length-append, length-replicate, drop_at}
use Rattle.std.specs.Prelude.{if◌then◌else◌}
use Rattle.yaml_grammar.specs.BlockTexts.{Chomping, Row, chomped, deep, flat, is_last, is_spaces, joined}
use Rattle.yaml_grammar.specs.BlockTexts.{no_row, row_of, rows, spaces, with_line}
use Rattle.yaml_grammar.specs.Bytes.{is_blank}
use Rattle.yaml_printed.proofs.BlockLines.{block_of, blocks, indented, join}
use Rattle.yaml_printed.proofs.Words.{and_no, one_further}

abbrev pub before_row : Row → ℕ → List ℕ
before_row no_row e = replicate e 10
before_row flat e = 10 ∷ replicate e 10
before_row deep e = 10 ∷ replicate e 10

joined_is : (last now : Row) (e : ℕ) → joined false last now e ≡ before_row last e
joined_is no_row no_row e = refl
joined_is no_row flat e = refl
joined_is no_row deep e = refl
joined_is flat no_row e = refl
joined_is flat flat e = refl
joined_is flat deep e = refl
joined_is deep no_row e = refl
joined_is deep flat e = refl
joined_is deep deep e = refl

-- the end of the block says what its text has there
abbrev pub Fine : Chomping → Row → ℕ → List (List ℕ) → Type 0
Fine ch last e [] = Unit {0}
Fine ch last e ([] ∷ []) = chomped ch last e ≡ before_row last e
Fine ch last e ((c ∷ cs) ∷ []) = chomped ch (row_of c) 0 ≡ []
Fine ch last e ([] ∷ (m ∷ ms)) = Fine ch last (suc e) (m ∷ ms)
Fine ch last e ((c ∷ cs) ∷ (m ∷ ms)) = Fine ch (row_of c) 0 (m ∷ ms)

row_before : (c : ℕ) (e : ℕ) → before_row (row_of c) e ≡ 10 ∷ replicate e 10
row_before c e = either (is_blank c)
  where
    either : (b : Bool) → before_row (if b then deep else flat) e ≡ 10 ∷ replicate e 10
    either true = refl
    either false = refl

pub spaces_of : (n : ℕ) (xs : List ℕ) → spaces (replicate n 32 ++ xs) ≡ n + spaces xs
spaces_of zero xs = omega arith
spaces_of (suc n) xs = ap suc (spaces_of n xs) ∙ omega arith

-- a line behind which the block ends
pub record Stop (n : ℕ) (line : List ℕ) (lines : List (List ℕ)) : Type 0 where
  pub out : spaces line < n
  pub full : (is_spaces line && not (is_last lines)) ≡ false

shifted : (x y z : Bool) → (x && z) ≡ false → (x && (y && z)) ≡ false
shifted true true z h = h
shifted true false z h = refl
shifted false y z h = refl

stop_rows : (ch : Chomping) (n : ℕ) (last : Row) (e : ℕ) (line : List ℕ) (lines : List (List ℕ)) → Stop n line lines
    → ◌≡◌ {A = ℕ × List ℕ} (rows false ch n last e (line ∷ lines)) (0, chomped ch last e)
stop_rows ch n last e line lines s =
    let one = shifted (is_spaces line) (nat_le (length line) n) (not (is_last lines)) s.full in
    rw (one, lt-ltb (spaces line) n s.out) refl

empty_row : (ch : Chomping) (n : ℕ) (last : Row) (e : ℕ) (line : List ℕ) (lines : List (List ℕ))
    → rows false ch n last e ([] ∷ (line ∷ lines)) ≡ with_line [] [] (rows false ch n last (suc e) (line ∷ lines))
empty_row ch n last e line lines = rw (le-leb 0 n (omega arith)) refl

text_row : (ch : Chomping) (n : ℕ) (last : Row) (e c : ℕ) (cs line : List ℕ) (lines : List (List ℕ))
    → rows false ch n last e (indented n (c ∷ cs) ∷ (line ∷ lines))
    ≡ with_line (indented n (c ∷ cs)) (before_row last e ++ (c ∷ cs)) (rows false ch n (row_of c) 0 (line ∷ lines))
text_row ch n last e c cs line lines =
    let own = indented n (c ∷ cs) in
    let size : length own ≡ n + suc (length cs)
    = length-append (replicate n 32) (c ∷ cs) ∙ ap (λ m. m + suc (length cs)) (length-replicate {A = ℕ} n 32) in
    let long : nat_le (length own) n ≡ false = lt-leb (length own) n (omega (arith, size)) in
    let in' : nat_lt (spaces own) n ≡ false = le-ltb (spaces own) n (omega (arith, spaces_of n (c ∷ cs))) in
    let content : drop n own ≡ c ∷ cs = drop_at (replicate n 32) (c ∷ cs) n (length-replicate {A = ℕ} n 32) in
    let one : (is_spaces own && (nat_le (length own) n && true)) ≡ false = rw long (and_no (is_spaces own)) in
    rw (one, in', long, content)
    (ap (λ p. with_line own (p ++ (c ∷ cs)) (rows false ch n (row_of c) 0 (line ∷ lines)))
    (joined_is last (row_of c) e))

row_further : (last : Row) (e : ℕ) (xs : List ℕ) → before_row last (suc e) ++ xs ≡ before_row last e ++ (10 ∷ xs)
row_further no_row e xs = one_further e xs
row_further flat e xs = ap (λ l. 10 ∷ l) (one_further e xs)
row_further deep e xs = ap (λ l. 10 ∷ l) (one_further e xs)

pair_is : {m n : ℕ} {x y : List ℕ} → m ≡ n → x ≡ y → ◌≡◌ {A = ℕ × List ℕ} (m, x) (n, y)
pair_is p q = ap₂ (λ n x. (n, x)) p q

-- the blocks of at least one line begin with a line
pub record Blocks (n : ℕ) (ls : List (List ℕ)) (line : List ℕ) (lines : List (List ℕ)) : Type 0 where
  pub first : List ℕ
  pub more : List (List ℕ)
  pub is : blocks n ls ++ (line ∷ lines) ≡ first ∷ more

pub blocks_some : (n : ℕ) (ls : List (List ℕ)) (line : List ℕ) (lines : List (List ℕ)) → Blocks n ls line lines
blocks_some n [] line lines = record { first = line; more = lines; is = refl }
blocks_some n ([] ∷ []) line lines = record { first = line; more = lines; is = refl }
blocks_some n ((c ∷ cs) ∷ []) line lines = record { first = indented n (c ∷ cs); more = line ∷ lines; is = refl }
blocks_some n (l ∷ (m ∷ ms)) line lines =
    record { first = indented n l; more = blocks n (m ∷ ms) ++ (line ∷ lines); is = refl }

module _ (ch : Chomping) (n : ℕ) (line : List ℕ) (lines : List (List ℕ)) (s : Stop n line lines) where
  pub rows_are : (ls : List (List ℕ)) (last : Row) (e : ℕ) → (ls ≡ [] → ⊥) → Fine ch last e ls
      → ◌≡◌ {A = ℕ × List ℕ} (rows false ch n last e (blocks n ls ++ (line ∷ lines)))
      (length (block_of n ls), before_row last e ++ join ls)
  rows_are [] last e some f = absurd (some refl)
  rows_are ([] ∷ []) last e some f =
      stop_rows ch n last e line lines s ∙ pair_is refl (f ∙ sym (append-nil (before_row last e)))
  rows_are ((c ∷ cs) ∷ []) last e some f =
      text_row ch n last e c cs line lines
      ∙ (ap (with_line (indented n (c ∷ cs)) (before_row last e ++ (c ∷ cs))) (stop_rows ch n (row_of c) 0 line lines s)
      ∙ pair_is (omega (arith, length-append (indented n (c ∷ cs)) (10 ∷ [])))
      (ap (λ l. (before_row last e ++ (c ∷ cs)) ++ l) f ∙ append-nil (before_row last e ++ (c ∷ cs))))
  rows_are ([] ∷ (m ∷ ms)) last e some f =
      let b = blocks_some n (m ∷ ms) line lines in
      ap (λ ls. rows false ch n last e ([] ∷ ls)) b.is
      ∙ (empty_row ch n last e b.first b.more
      ∙ (ap (λ ls. with_line [] [] (rows false ch n last (suc e) ls)) (sym b.is)
      ∙ (ap (with_line [] []) (rows_are (m ∷ ms) last (suc e) (λ x. absurd (cc)) f)
      ∙ pair_is (omega arith) (row_further last e (join (m ∷ ms))))))
  rows_are ((c ∷ cs) ∷ (m ∷ ms)) last e some f =
      let b = blocks_some n (m ∷ ms) line lines in
      let own = indented n (c ∷ cs) in
      ap (λ ls. rows false ch n last e (own ∷ ls)) b.is
      ∙ (text_row ch n last e c cs b.first b.more
      ∙ (ap (λ ls. with_line own (before_row last e ++ (c ∷ cs)) (rows false ch n (row_of c) 0 ls)) (sym b.is)
      ∙ (ap (with_line own (before_row last e ++ (c ∷ cs))) (rows_are (m ∷ ms) (row_of c) 0 (λ x. absurd (cc)) f)
      ∙ pair_is (omega (arith, length-append own (10 ∷ block_of n (m ∷ ms))))
      (append_assoc (before_row last e) (c ∷ cs) (before_row (row_of c) 0 ++ join (m ∷ ms))
      ∙ ap (λ l. before_row last e ++ ((c ∷ cs) ++ (l ++ join (m ∷ ms)))) (row_before c 0)))))
