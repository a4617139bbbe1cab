-- How many characters the last line has, from its end.
use Rattle.std.proofs.Common.{ℕ, suc, ◌+◌, ◌-◌, ◌≡◌, ◌<◌, ◌≤◌, ◌==◌, ◌&&◌, not, Bool, true, false, List}
use Rattle.std.proofs.Common.{if◌then◌else◌, nat_le, refl, sym, ap, ◌∙◌, arith}
use Rattle.yaml_base.specs.Places.{begins_character, ends_line, place_behind, place_of}
use Rattle.yaml_grammar.specs.Bytes.{column}

behind_end : (text : List ℕ) (i : ℕ) (q : ℕ × ℕ) → ends_line text i ≡ true → (place_behind text i q).1 ≡ 0
behind_end text i q ends =
    ap (λ b. (if b then (q.0 + 1, 0) else (if begins_character text i then (q.0, q.1 + 1) else q)).1) ends

behind_character : (text : List ℕ) (i : ℕ) (q : ℕ × ℕ) (some : Bool) → ends_line text i ≡ false
    → begins_character text i ≡ some → (place_behind text i q).1 ≡ (if some then q.1 + 1 else q.1)
behind_character text i q some none begins =
    ap (λ b. (if b then (q.0 + 1, 0) else (if begins_character text i then (q.0, q.1 + 1) else q)).1) none
    ∙ ap (λ (b : Bool). (if b then (q.0, q.1 + 1) else q).1) begins ∙ moved some
  where
    moved : (b : Bool) → (if b then (q.0, q.1 + 1) else q).1 ≡ (if b then q.1 + 1 else q.1)
    moved true = refl
    moved false = refl

back : (k : ℕ) → 0 < k → suc (k - 1) ≡ k
back k some = omega (arith, some)

-- a line begins behind one that ends
pub begun_column : (text : List ℕ) (k : ℕ) → 0 < k → ends_line text (k - 1) ≡ true → column text k ≡ 0
begun_column text k some ends =
    sym (ap (column text) (back k some)) ∙ behind_end text (k - 1) (place_of text (k - 1)) ends

-- and a character takes a column
pub next_column : (text : List ℕ) (k : ℕ) → 0 < k → ends_line text (k - 1) ≡ false
    → begins_character text (k - 1) ≡ true → column text k ≡ column text (k - 1) + 1
next_column text k some none begins =
    sym (ap (column text) (back k some)) ∙ behind_character text (k - 1) (place_of text (k - 1)) true none begins

pub same_column : (text : List ℕ) (k : ℕ) → 0 < k → ends_line text (k - 1) ≡ false
    → begins_character text (k - 1) ≡ false → column text k ≡ column text (k - 1)
same_column text k some none begins =
    sym (ap (column text) (back k some)) ∙ behind_character text (k - 1) (place_of text (k - 1)) false none begins

-- how many characters are wanted
abbrev pub wanted : ℕ → ℕ
wanted least = if least == 0 then 1 else least

-- so many are there, or fewer
pub reaches : (n least : ℕ) → wanted least ≤ n → (not (n == 0) && nat_le least n) ≡ true
reaches n least h = grind (arith, h)

pub falls_short : (n least : ℕ) → n < wanted least → (not (n == 0) && nat_le least n) ≡ false
falls_short n least h = grind (arith, h)
