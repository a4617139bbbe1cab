-- What a step of a reader keeps of where the next token stands.
use Rattle.std.proofs.Common.{ℕ, suc, ◌+◌, ◌-◌, ◌≡◌, ◌≢◌, ◌<◌, ◌≤◌, ◌==◌, ◌||◌, Bool, true, false, List, length}
use Rattle.std.proofs.Common.{sym, subst, ap, ◌∙◌, arith, inl, inr}
use Rattle.std.proofs.lemmas.Bool.{or_left, or_right}
use Rattle.std.proofs.lemmas.List.{get_or_past}
use Rattle.yaml_direct.specs.Gaps.{InLine, IsLineEnd, is_apart}
use Rattle.yaml_direct.proofs.ColumnLaws.{feed_column, space_column}
use Rattle.yaml_direct.proofs.GapLaws.{or_false, or_true}
use Rattle.yaml_direct.proofs.NextLaws.{Goes, before_apart, comment_goes, feed_goes, goes_on, space_goes}
use Rattle.yaml_direct.proofs.TextLaws.{apart_same}
use Rattle.yaml_grammar.specs.Bytes.{at, column, is_text}

one_more : (i : ℕ) → suc i ≡ i + 1
one_more i = omega arith

pub goes_space : (text : List ℕ) (i j : ℕ) (b : Bool) → Goes text i j b → at text j ≡ 32 → Goes text i (j + 1) b
goes_space text i j b g e =
    subst (λ x. Goes text i (j + 1) x) (or_false b)
    (subst (λ k. Goes text i k (b || false)) (one_more j) (goes_on text i j (suc j) b false g (space_goes text j e)))

pub goes_feed : (text : List ℕ) (i j : ℕ) (b c : Bool) → Goes text i j b → at text j ≡ 10 → c ≡ true
    → Goes text i (j + 1) c
goes_feed text i j b c g e t =
    subst (λ x. Goes text i (j + 1) x) (or_true b ∙ sym t)
    (subst (λ k. Goes text i k (b || true)) (one_more j) (goes_on text i j (suc j) b true g (feed_goes text j e)))

pub goes_comment : (text : List ℕ) (i j k : ℕ) (b : Bool) → is_text text ≡ true → Goes text i j b → at text j ≡ 35
    → is_apart text j ≡ true → j + 1 ≤ k → k ≤ length text → InLine text (j + 1) k → IsLineEnd text k
    → Goes text i k b
goes_comment text i j k b h g e apart low within inside ends =
    subst (λ x. Goes text i k x) (or_false b)
    (goes_on text i j k b false g
    (comment_goes text j k e (before_apart text j (sym (apart_same text j h) ∙ apart)) (omega (arith, low)) within
    (subst (λ m. InLine text m k) (sym (one_more j)) inside) ends))

back : (i : ℕ) → i + 1 - 1 ≡ i
back i = omega arith

pub apart_behind : (text : List ℕ) (i : ℕ) → (at text i == 32 || at text i == 10) ≡ true → is_apart text (i + 1) ≡ true
apart_behind text i e =
    or_right (i + 1 == 0) _ (or_left (at text (i + 1 - 1) == 32 || at text (i + 1 - 1) == 10) _
    (subst (λ k. (at text k == 32 || at text k == 10) ≡ true) (sym (back i)) e))

-- no `#` stands where a line ends
pub no_sharp : (text : List ℕ) (k : ℕ) → IsLineEnd text k → at text k ≡ 35 → ⊥
no_sharp text k (inl e) f = omega (arith, e, f)
no_sharp text k (inr over) f = omega (arith, f, get_or_past text k 0 over)

-- nor a byte of a line
pub no_byte : (text : List ℕ) (k : ℕ) → IsLineEnd text k → k < length text → at text k ≢ 10 → ⊥
no_byte text k (inl e) inside f = f e
no_byte text k (inr over) inside f = omega (arith, over, inside)

pub space_on : (text : List ℕ) (i n : ℕ) → at text i ≡ 32 → column text i ≡ n → column text (i + 1) ≡ n + 1
space_on text i n e c = ap (column text) (sym (one_more i)) ∙ space_column text i e ∙ ap (λ k. k + 1) c

pub feed_on : (text : List ℕ) (i : ℕ) → at text i ≡ 10 → column text (i + 1) ≡ 0
feed_on text i e = ap (column text) (sym (one_more i)) ∙ feed_column text i e
