-- A line begins with a mark in one way.
use Rattle.std.specs.Char.{digit_value}
use Rattle.std.specs.Str.Parse.{AllDigits, digits_value}
use Rattle.std.proofs.Common.{◌≡◌, ℕ, ◌<◌, ◌≤◌, List, [], ◌∷◌, ◌++◌, sym, ap, ◌∙◌, subst, arith, lit≤}
use Rattle.std.specs.Str.{IsUtf8}
use Rattle.std.proofs.lemmas.Str.{IsUtf8-from_ascii}
use Rattle.std.proofs.lemmas.Fmt.{IsAscii-from_digits}
use Rattle.yaml_base.specs.Position.{Position}
use Rattle.yaml_lines.specs.Escape.{Lacks}
use Rattle.yaml_lines.proofs.CutLaws.{lacks-cons, cut-unique, cut_has}
use Rattle.yaml_lines.specs.Place.{IsDecimalNumber, HasNumber, IsMarked}

-- digits lack each byte that is no digit
pub digits-lack : (byte : ℕ) (digits : List ℕ) → 10 ≤ digit_value byte → AllDigits 10 digits → Lacks digits byte
digits-lack byte [] h d = λ k e l. absurd (omega arith)
digits-lack byte (x ∷ xs) h d =
    lacks-cons byte x xs (λ e. let d' = subst (λ c. digit_value c < 10) e d.0 in omega arith)
    (digits-lack byte xs h d.1)

-- a number and the byte behind it stand at the start of a text in one way
pub HasNumber-unique : (text : List ℕ) (byte n m : ℕ) (r s : List ℕ) → 10 ≤ digit_value byte → HasNumber text byte n r
    → HasNumber text byte m s → (n ≡ m) × (r ≡ s)
HasNumber-unique text byte n m r s h a b =
    let u = cut-unique byte a.digits b.digits r s (digits-lack byte a.digits h a.is_number.numeral.1)
    (digits-lack byte b.digits h b.is_number.numeral.1) (sym a.split ∙ b.split) in
    (sym a.is_number.value ∙ (ap (digits_value 10) u.0 ∙ b.is_number.value), u.1)

-- a text without the byte has no number before it
pub no_byte : (text : List ℕ) (byte n : ℕ) (rest : List ℕ) → Lacks text byte → ¬ (HasNumber text byte n rest)
no_byte text byte n rest l a = cut_has byte a.digits rest (subst (λ t. Lacks t byte) a.split l)

-- nor has one where no number stands before the byte
pub no_number : (text digits after : List ℕ) (byte n : ℕ) (rest : List ℕ) → 10 ≤ digit_value byte
    → text ≡ digits ++ byte ∷ after → Lacks digits byte
    → ((m : ℕ) → ¬ (IsDecimalNumber digits m)) → ¬ (HasNumber text byte n rest)
no_number text digits after byte n rest h e l none a =
    let u = cut-unique byte a.digits digits rest after (digits-lack byte a.digits h a.is_number.numeral.1) l
    (sym a.split ∙ e) in
    none n (subst (λ d. IsDecimalNumber d n) u.0 a.is_number)

-- digits are UTF-8
pub number-IsUtf8 : (digits : List ℕ) (n : ℕ) → IsDecimalNumber digits n → IsUtf8 digits
number-IsUtf8 digits n a = IsUtf8-from_ascii digits (IsAscii-from_digits digits a.numeral.1)

-- a line with no first number has no mark
pub no_index : (text : List ℕ) → ((n : ℕ) → (rest : List ℕ) → ¬ (HasNumber text 58 n rest)) → (mark : Position)
    → (rest : List ℕ) → ¬ (IsMarked text mark rest)
no_index text none mark rest m = none mark.index m.behind_index m.has_index

-- nor has one with no second number
pub no_line : (text after : List ℕ) (index : ℕ) → HasNumber text 58 index after
    → ((n : ℕ) → (rest : List ℕ) → ¬ (HasNumber after 58 n rest))
    → (mark : Position) → (rest : List ℕ) → ¬ (IsMarked text mark rest)
no_line text after index a none mark rest m =
    let u = HasNumber-unique text 58 mark.index index m.behind_index after (lit≤ tt) m.has_index a in
    none mark.line m.behind_line (subst (λ t. HasNumber t 58 mark.line m.behind_line) u.1 m.has_line)

-- the numbers of a mark are those that stand there
pub mark_numbers : (text after further left : List ℕ) (index line column : ℕ) → HasNumber text 58 index after
    → HasNumber after 58 line further → HasNumber further 32 column left
    → (mark : Position) → (rest : List ℕ) → IsMarked text mark rest → (index ≡ mark.index) × (line ≡ mark.line)
    × (column ≡ mark.column) × (left ≡ rest)
mark_numbers text after further left index line column a b d mark rest m =
    let u = HasNumber-unique text 58 index mark.index after m.behind_index (lit≤ tt) a m.has_index in
    let v = HasNumber-unique after 58 line mark.line further m.behind_line (lit≤ tt) b
    (subst (λ t. HasNumber t 58 mark.line m.behind_line) (sym u.1) m.has_line) in
    let w = HasNumber-unique further 32 column mark.column left rest (lit≤ tt) d
    (subst (λ t. HasNumber t 32 mark.column rest) (sym v.1) m.has_column) in
    (u.0, v.0, w.0, w.1)

-- nor has one with no third number
pub no_column : (text after further : List ℕ) (index line : ℕ) → HasNumber text 58 index after
    → HasNumber after 58 line further
    → ((n : ℕ) → (rest : List ℕ) → ¬ (HasNumber further 32 n rest)) → (mark : Position) → (rest : List ℕ)
    → ¬ (IsMarked text mark rest)
no_column text after further index line a b none mark rest m =
    let u = HasNumber-unique text 58 index mark.index after m.behind_index (lit≤ tt) a m.has_index in
    let v = HasNumber-unique after 58 line mark.line further m.behind_line (lit≤ tt) b
    (subst (λ t. HasNumber t 58 mark.line m.behind_line) (sym u.1) m.has_line) in
    none mark.column rest (subst (λ t. HasNumber t 32 mark.column rest) (sym v.1) m.has_column)

-- a mark is that of its numbers
pub IsMarked-unique : (text : List ℕ) (m n : Position) (r s : List ℕ) → IsMarked text m r → IsMarked text n s → (m ≡ n)
    × (r ≡ s)
IsMarked-unique text m n r s a b =
    let u = mark_numbers text a.behind_index a.behind_line r m.index m.line m.column a.has_index a.has_line a.has_column
    n s b in
    (same_position m n u.0 u.1 u.2, u.3) where
      same_position : (p q : Position) → p.index ≡ q.index → p.line ≡ q.line → p.column ≡ q.column → p ≡ q
      same_position p q i l c =
          let place : ℕ → ℕ → ℕ → Position = λ index line column.
          record { index = index; line = line; column = column } in
          ap (λ x. place x p.line p.column) i ∙ (ap (λ x. place q.index x p.column) l
          ∙ ap (λ x. place q.index q.line x) c)
