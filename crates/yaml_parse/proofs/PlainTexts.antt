-- What the rest of a source says.
use Rattle.std.proofs.Common.{◌≡◌, ℕ, ◌+◌, ◌-◌, ◌<◌, ◌≤◌, List, Option, None, length, drop, min, sym, ap, subst, ◌∙◌}
use Rattle.std.proofs.Common.{arith}
use Rattle.std.proofs.lemmas.List.{drop-drop, length-drop}
use Rattle.yaml_base.specs.LineBreaks.{IsOneLine, begins_with_break}

-- what has no line break has none behind any of its bytes
rest_has_none : (n : ℕ) (bytes : List ℕ) → IsOneLine bytes → IsOneLine (drop n bytes)
rest_has_none n bytes none k h =
    let inside : n + k < length bytes = let e = length-drop n bytes in omega arith in
    ap begins_with_break (drop-drop k n bytes) ∙ none (n + k) inside

-- the last bytes of a list, by how many they are
last_bytes : (n : ℕ) (bytes : List ℕ) → n ≤ length bytes
    → drop n bytes ≡ drop (length bytes - length (drop n bytes)) bytes
last_bytes n bytes h =
    let count : n ≡ length bytes - length (drop n bytes) = let e = length-drop n bytes in omega arith in
    ap (λ k. drop k bytes) count

-- a text that is its own bytes says them
pub says : (source own text : List ℕ) (front : ℕ) (anchor tag : Option (List ℕ)) (Q : Type 0)
    → own ≡ drop (min front (length source)) source → (IsOneLine own → text ≡ own)
    → (anchor ≡ None → tag ≡ None → front ≡ 0) → Q → IsOneLine source
    → (text ≡ drop (length source - length text) source) × (anchor ≡ None → tag ≡ None → text ≡ source)
says s own text front anchor tag Q is same bare = λ q line.
    let n : ℕ = min front (length s) in
    let own_line : IsOneLine own = subst IsOneLine (sym is) (rest_has_none n s line) in
    let all : text ≡ drop n s = same own_line ∙ is in (
      all ∙ last_bytes n s (omega arith) ∙ ap (λ t. drop (length s - length t) s) (sym all),
      λ a t. let zero : front ≡ 0 = bare a t in let none : n ≡ 0 = omega arith in all ∙ ap (λ k. drop k s) none,
    )
