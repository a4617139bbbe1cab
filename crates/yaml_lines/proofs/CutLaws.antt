-- A text is cut at a byte in one way.
use Rattle.std.proofs.Common.{◌≡◌, ◌≢◌, ℕ, zero, suc, List, [], ◌∷◌, ◌++◌, length, refl, sym, ap, ◌∙◌, arith, get_or}
use Rattle.std.proofs.Common.{drop}
use Rattle.yaml_lines.specs.Escape.{Lacks}
use Rattle.yaml_lines.specs.EventText.{IsBreak}

-- the parts of a text that lacks a byte
pub lacks-head : (byte x : ℕ) (xs : List ℕ) → Lacks (x ∷ xs) byte → x ≢ byte
lacks-head byte x xs l = l 0 x (omega arith)

pub lacks-tail : (byte x : ℕ) (xs : List ℕ) → Lacks (x ∷ xs) byte → Lacks xs byte
lacks-tail byte x xs l = λ k d h. l (suc k) d (omega arith)

pub lacks-cons : (byte x : ℕ) (xs : List ℕ) → x ≢ byte → Lacks xs byte → Lacks (x ∷ xs) byte
lacks-cons byte x xs not l zero d h = not
lacks-cons byte x xs not l (suc k) d h = l k d (omega arith)

-- a text is cut at the first such byte in one way
pub cut-unique : (byte : ℕ) (a b xs ys : List ℕ) → Lacks a byte → Lacks b byte → a ++ byte ∷ xs ≡ b ++ byte ∷ ys
    → (a ≡ b) × (xs ≡ ys)
cut-unique byte [] [] xs ys la lb e = (refl, ap (λ (l : List ℕ). drop 1 l) e)
cut-unique byte [] (y ∷ b) xs ys la lb e = absurd (lacks-head byte y b lb (sym (ap (λ (l : List ℕ). get_or l 0 0) e)))
cut-unique byte (x ∷ a) [] xs ys la lb e = absurd (lacks-head byte x a la (ap (λ (l : List ℕ). get_or l 0 0) e))
cut-unique byte (x ∷ a) (y ∷ b) xs ys la lb e =
    let h : x ≡ y = ap (λ (l : List ℕ). get_or l 0 0) e in
    let t : a ++ byte ∷ xs ≡ b ++ byte ∷ ys = ap (λ (l : List ℕ). drop 1 l) e in
    let rest = cut-unique byte a b xs ys (lacks-tail byte x a la) (lacks-tail byte y b lb) t in
    let same = rest.0 in
    ((cc), rest.1)

-- a text that has the byte doesn't lack it
pub cut_has : (byte : ℕ) (a xs : List ℕ) → Lacks (a ++ byte ∷ xs) byte → ⊥
cut_has byte [] xs l = lacks-head byte byte xs l refl
cut_has byte (x ∷ a) xs l = cut_has byte a xs (lacks-tail byte x (a ++ byte ∷ xs) l)

-- a text is cut before its first space, or at its end, in one way
pub break-unique : (a b r s : List ℕ) → Lacks a 32 → Lacks b 32 → IsBreak r → IsBreak s → a ++ r ≡ b ++ s → (a ≡ b)
    × (r ≡ s)
break-unique [] [] r s la lb br bs e = (refl, e)
break-unique [] (y ∷ b) [] s la lb br bs e = absurd (let l : 0 ≡ length (y ∷ (b ++ s)) = ap length e in omega arith)
break-unique [] (y ∷ b) (x ∷ r) s la lb br bs e =
    absurd (lacks-head 32 y b lb (sym (ap (λ (l : List ℕ). get_or l 0 0) e) ∙ br))
break-unique (x ∷ a) [] r [] la lb br bs e = absurd (let l : length (x ∷ (a ++ r)) ≡ 0 = ap length e in omega arith)
break-unique (x ∷ a) [] r (y ∷ s) la lb br bs e =
    absurd (lacks-head 32 x a la (ap (λ (l : List ℕ). get_or l 0 0) e ∙ bs))
break-unique (x ∷ a) (y ∷ b) r s la lb br bs e =
    let h : x ≡ y = ap (λ (l : List ℕ). get_or l 0 0) e in
    let t : a ++ r ≡ b ++ s = ap (λ (l : List ℕ). drop 1 l) e in
    let rest = break-unique a b r s (lacks-tail 32 x a la) (lacks-tail 32 y b lb) br bs t in
    let same = rest.0 in
    ((cc), rest.1)
