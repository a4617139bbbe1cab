-- Characters that are put behind a text, one by one.
use Rattle.std.proofs.Common.{◌≡◌, ℕ, List, [], ◌∷◌, ◌++◌, append_assoc, append-nil, ap, flat_map, sym, ◌∙◌}
use Rattle.std.proofs.lemmas.List.Concat.{flat_map-append}

-- with one more, those so far stand there
pub pushed : (f : ℕ → List ℕ) (start old new seen : List ℕ) (c : ℕ) → old ≡ start ++ flat_map f seen
    → new ≡ old ++ f c → new ≡ start ++ flat_map f (seen ++ c ∷ [])
pushed f start old new seen c before more =
    more ∙ ap (λ t. t ++ f c) before ∙ append_assoc start (flat_map f seen) (f c)
    ∙ ap (λ t. start ++ t) (ap (λ t. flat_map f seen ++ t) (sym (append-nil (f c)))
    ∙ sym (flat_map-append f seen (c ∷ [])))
