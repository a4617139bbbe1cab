-- Where the documents behind one begin.
use Rattle.std.specs.Prelude.{◌≡◌, ◌∷◌}
use Rattle.yaml_load.proofs.Words.{arith, [], refl, true, false, Input, after_starts, behind_document, is_ended}

-- behind a document that ends
pub starts_behind : (rest : Input) → is_ended rest ≡ true
    → after_starts true rest ≡ after_starts false (behind_document rest)
starts_behind [] h = absurd (cc)
starts_behind (e ∷ rest) h = grind (arith, starts_behind rest)

-- in a document that doesn't end
pub no_starts : (rest : Input) → is_ended rest ≡ false → after_starts true rest ≡ []
no_starts [] h = refl
no_starts (e ∷ rest) h = grind (arith, no_starts rest)
