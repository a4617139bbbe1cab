-- A list whose elements are replaced in turn, each seen as it was but raised.
use Rattle.std.proofs.Common.{◌≡◌, ◌<◌, ◌+◌, ℕ, zero, suc, List, [], ◌∷◌, ◌++◌, map, length, take, drop, get_or}
use Rattle.std.proofs.Common.{set, sym, ◌∙◌, ap, subst, All, arith}
use Rattle.std.proofs.lemmas.List.{take_more, take_more_set, map-append, length-set, get_or-drop}
use Rattle.std.proofs.lemmas.List.{drop-set-lt, drop-drop}

-- the elements before i are raised, and the others are as they were
pub record AreRaised {X Y : Type 0} (see : X → Y) (raise : Y → Y) (old new : List X) (i : ℕ) : Type 0 where
  pub size : length new ≡ length old
  pub done : map see (take i new) ≡ map raise (map see (take i old))
  pub left : drop i new ≡ drop i old

-- one more is raised
pub one_raised : {X Y : Type 0} (see : X → Y) (raise : Y → Y) (old new : List X) (i : ℕ) (d y : X) → i < length new
    → AreRaised see raise old new i
    → see y ≡ raise (see (get_or new i d)) → AreRaised see raise old (set new i y) (i + 1)
one_raised see raise old new i d y within are seen =
    let size : length (set new i y) ≡ length new = length-set new i y in
    let same : length new ≡ length old = are.size in
    let here : get_or new i d ≡ get_or old i d = sym (get_or_drop new i d)
    ∙ (ap (λ l. get_or l 0 d) are.left ∙ get_or_drop old i d) in
    let as_new : map see (take (i + 1) (set new i y)) ≡ map see (take i new) ++ (see y ∷ []) =
    ap (map see) (take_more_set new i y within) ∙ map-append see (take i new) (y ∷ []) in
    let as_old : map raise (map see (take (i + 1) old)) ≡ map raise (map see (take i old)) ++
    (raise (see (get_or old i d)) ∷ []) =
    ap (λ l. map raise (map see l)) (take_more old i d (omega arith))
    ∙ (ap (map raise) (map-append see (take i old) (get_or old i d ∷ []))
    ∙ map-append raise (map see (take i old)) (see (get_or old i d) ∷ [])) in
    record {
      size = size ∙ same;
      done = as_new ∙ (ap (λ l. l ++ (see y ∷ [])) are.done
          ∙ (ap (λ v. map raise (map see (take i old)) ++ (v ∷ [])) (seen ∙ ap (λ x. raise (see x)) here)
          ∙ sym as_old));
      left = drop-set-lt (i + 1) new i y (omega arith)
          ∙ (sym (drop-drop 1 i new) ∙ (ap (drop 1) are.left ∙ drop-drop 1 i old));
    }
  where
    get_or_drop : {A : Type 0} (xs : List A) (i : ℕ) (d : A) → get_or (drop i xs) 0 d ≡ get_or xs i d
    get_or_drop xs i d = get_or-drop i xs 0 d ∙ ap (λ k. get_or xs k d) (let e : i + 0 ≡ i = omega arith in e)

-- an element that isn't raised yet is as it was
pub as_before : {X Y : Type 0} (see : X → Y) (raise : Y → Y) (P : X → Type 0) (old new : List X) (i : ℕ) (x : X)
    → i < length new → AreRaised see raise old new i
    → x ≡ get_or new i x → All P old → P x
as_before see raise P old new i x within are here all =
    let same : length new ≡ length old = are.size in
    let e : get_or new i x ≡ get_or old i x =
    sym (get_or-drop i new 0 x ∙ ap (λ k. get_or new k x) (let z : i + 0 ≡ i = omega arith in z))
    ∙ (ap (λ l. get_or l 0 x) are.left ∙ (get_or-drop i old 0 x ∙ ap (λ k. get_or old k x) (let z : i + 0 ≡ i =
    omega arith in z))) in
    subst P (sym (here ∙ e)) (all i x (omega arith))

-- what two reads of one place gave
pub same_read : {X : Type 0} (xs : List X) (i : ℕ) (x y : X) → i < length xs → x ≡ get_or xs i x → y ≡ get_or xs i y
    → x ≡ y
same_read [] i x y within a b = absurd (omega arith)
same_read (z ∷ xs) zero x y within a b = a ∙ sym b
same_read (z ∷ xs) (suc i) x y within a b = same_read xs i x y (omega arith) a b
