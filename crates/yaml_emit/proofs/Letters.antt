-- A text that is printed letter by letter: what is printed, and what is left.
use Rattle.std.proofs.Common.{◌≡◌, ℕ, ◌+◌, ◌<◌, ◌≤◌, Bool, eqb, List, [], ◌∷◌, ◌++◌, length, get_or, drop, sym, ap, ◌∙◌}
use Rattle.std.proofs.Common.{append_assoc}
use Rattle.std.proofs.lemmas.List.{at_drop_more, at_drop_all, length_push}

-- one letter more, where the rest of a text is printed piece by piece and a flag tells whether a line feed went before
piece_more : (rest : Bool → List ℕ → List ℕ) (piece : Bool → ℕ → List ℕ)
    → ((b : Bool) (x : ℕ) (xs : List ℕ) → rest b (x ∷ xs) ≡ piece b x ++ rest (eqb x 10) xs)
    → (cs : List ℕ) (n c : ℕ) (flag : Bool) (out whole : List ℕ)
    → out ++ rest flag (drop n cs) ≡ whole → (n < length cs) × (c ≡ get_or cs n c)
    → (out ++ piece flag c) ++ rest (eqb c 10) (drop (n + 1) cs) ≡ whole
piece_more rest piece step cs n c flag out whole before h =
    append_assoc out (piece flag c) (rest (eqb c 10) (drop (n + 1) cs))
    ∙ (ap (λ t. out ++ t) (sym (step flag c (drop (n + 1) cs))
    ∙ (ap (λ x. rest flag (x ∷ drop (n + 1) cs)) h.1 ∙ sym (at_drop_more (rest flag) cs n c h.0))) ∙ before)

-- the same behind letters that were handed out
pub piece_kept : (rest : Bool → List ℕ → List ℕ) (piece : Bool → ℕ → List ℕ)
    → ((b : Bool) (x : ℕ) (xs : List ℕ) → rest b (x ∷ xs) ≡ piece b x ++ rest (eqb x 10) xs)
    → (cs ys : List ℕ) (c : ℕ) (flag : Bool) (out new whole : List ℕ)
    → new ≡ out ++ piece flag c → out ++ rest flag (drop (length ys) cs) ≡ whole
    → (length ys < length cs) × (c ≡ get_or cs (length ys) c)
    → new ++ rest (eqb c 10) (drop (length (ys ++ c ∷ [])) cs) ≡ whole
piece_kept rest piece step cs ys c flag out new whole added before h =
    ap (λ t. t ++ rest (eqb c 10) (drop (length (ys ++ c ∷ [])) cs)) added
    ∙ (ap (λ k. (out ++ piece flag c) ++ rest (eqb c 10) (drop k cs)) (length_push ys c)
    ∙ piece_more rest piece step cs (length ys) c flag out whole before h)

-- the end of the text
pub piece_end : (rest : Bool → List ℕ → List ℕ) (cs : List ℕ) (n : ℕ) (flag : Bool) (out whole : List ℕ)
    → out ++ rest flag (drop n cs) ≡ whole → length cs ≤ n → out ++ rest flag [] ≡ whole
piece_end rest cs n flag out whole before done = ap (λ t. out ++ t) (sym (at_drop_all (rest flag) cs n done)) ∙ before
