-- One event more of a list has its quotes.
use Rattle.std.proofs.Common.{◌≡◌, ℕ, suc, zero, ◌+◌, ◌<◌, List, [], ◌∷◌, ◌++◌, length, refl, sym, ap, ◌∙◌, map, arith}
use Rattle.std.proofs.Common.{take, drop, slice_set, get_or}
use Rattle.std.proofs.lemmas.List.{take_more_set, map-append, length-set}
use Rattle.std.proofs.lemmas.Grind.{take_at_read, drop_more_same}
use Rattle.std.proofs.lemmas.List.{drop-set-lt}

-- lists that are the same from a place on have the same there
same_here : {X : Type 0} → (i : ℕ) (xs ys : List X) (d : X) → i < length xs → i < length ys → drop i xs ≡ drop i ys
    → get_or xs i d ≡ get_or ys i d
same_here zero xs ys d l m q = ap (λ l. get_or l 0 d) q
same_here (suc i) [] ys d l m q = absurd (omega arith)
same_here (suc i) (x ∷ xs) [] d l m q = absurd (omega arith)
same_here (suc i) (x ∷ xs) (y ∷ ys) d l m q = same_here i xs ys d (omega arith) (omega arith) q

changed_once : {X A : Type 0} → (of : X → A) (changed : A → A) (i : ℕ) (xs ys : List X) (d e : X) → i < length xs
    → length xs ≡ length ys → of e ≡ changed (of (get_or xs i d)) → drop i xs ≡ drop i ys
    → map of (take i xs) ≡ map changed (map of (take i ys))
    → map of (take (i + 1) (slice_set xs i e)) ≡ map changed (map of (take (i + 1) ys))
changed_once of changed i xs ys d e within same made rest done =
    let inside : i < length ys = omega arith in
    let here : of e ≡ changed (of (get_or ys i d)) =
    made ∙ ap (λ x. changed (of x)) (same_here i xs ys d within inside rest) in
    ap (map of) (take_more_set xs i e within) ∙ (map-append of (take i xs) (e ∷ [])
    ∙ (ap (λ l. l ++ of e ∷ []) done ∙ (ap (λ x. map changed (map of (take i ys)) ++ x ∷ []) here
    ∙ (sym (map-append changed (map of (take i ys)) (of (get_or ys i d) ∷ []))
    ∙ (ap (map changed) (sym (map-append of (take i ys) (get_or ys i d ∷ [])))
    ∙ ap (λ l. map changed (map of l)) (sym (take_at_read ys i d inside).1))))))

-- the elements before a place are changed, and the others are as they were
abbrev pub ChangedTo : {X A : Type 0} → (of : X → A) (changed : A → A) (i : ℕ) (xs ys : List X) → Type 0
ChangedTo of changed i xs ys =
    (map of (take i xs) ≡ map changed (map of (take i ys))) × ((drop i xs ≡ drop i ys) × (length xs ≡ length ys))

pub one_more : {X A : Type 0} → (of : X → A) (changed : A → A) (i : ℕ) (xs ys : List X) (d e : X) → i < length xs
    → of e ≡ changed (of (get_or xs i d)) → ChangedTo of changed i xs ys
    → ChangedTo of changed (i + 1) (slice_set xs i e) ys
one_more of changed i xs ys d e within made (done, (rest, same)) = (
  changed_once of changed i xs ys d e within same made rest done,
  (drop-set-lt (i + 1) xs i e (omega arith) ∙ drop_more_same xs ys i rest, length-set xs i e ∙ same),
)
