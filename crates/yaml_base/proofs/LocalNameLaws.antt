-- The name that is computed of a tag is the one that its grammar gives.
use mathlib.Core.Bool.{true≢false}
use Rattle.std.specs.Prelude.{Option, None, Some, Result, Ok, Err, MatchResult, Bool, true, false, ◌==◌, if◌then◌else◌}
use Rattle.std.specs.Prelude.{codes}
use Rattle.std.specs.Bool.{Decides}
use Rattle.std.specs.Option.{option_copied, option_and_then}
use Rattle.std.specs.Result.{result_ok}
use Rattle.std.specs.Str.{IsUtf8, is_utf8}
use Rattle.std.proofs.Common.{◌≡◌, ◌≢◌, ℕ, List, [], ◌∷◌, length, Bor, refl, sym, ap, ◌∙◌, arith}
use Rattle.std.proofs.Common.{subst}
use Rattle.std.proofs.lemmas.Bool.Decides.{Decides-eqb}
use Rattle.std.proofs.lemmas.Option.{same_Some, none-some}
use Rattle.std.proofs.lemmas.Str.{IsUtf8-from_is_utf8, is_utf8-from_IsUtf8}
use Rattle.yaml_base.proofs.SignLaws.{unproved}
use Rattle.yaml_base.specs.LocalName.{HasLocalName, local_name}
use Rattle.yaml_base.specs.LocalName.HasLocalName.{bare, named}

utf8-Decides : (bs : List ℕ) → Decides (is_utf8 bs) (IsUtf8 bs)
utf8-Decides bs = (IsUtf8-from_is_utf8 bs, is_utf8-from_IsUtf8 bs)

-- the name of a tag whose name is UTF-8, and of one whose name isn't
pub local_name-read : {E : Type 0} (Q : E
    → Type 0) (tag rest : List ℕ) (r : Result (Bor (List ℕ)) E) (o : Option (Bor (List ℕ)))
    → tag ≡ 33 ∷ rest → length rest ≢ 0 → MatchResult r (λ s. (s.now ≡ rest) × IsUtf8 rest) (λ e. ¬ (IsUtf8 rest) × Q e)
    → o ≡ result_ok r → option_copied o ≡ local_name tag
local_name-read Q tag rest (Ok s) o e long h k =
    rw (k, e, unproved _ _ (Decides-eqb (length rest) 0) long, is_utf8-from_IsUtf8 rest h.1) (ap Some h.0)
local_name-read Q tag rest (Err x) o e long h k =
    rw (k, e, unproved _ _ (Decides-eqb (length rest) 0) long, unproved _ _ (utf8-Decides rest) h.0) refl

pub local_name-complete : (tag name : List ℕ) → HasLocalName tag name → local_name tag ≡ Some name
local_name-complete tag name (bare e n) = rw (e, n) refl
local_name-complete tag name (named e p u) =
    rw (e, unproved _ _ (Decides-eqb (length name) 0) (λ z. omega (arith, p, z)), is_utf8-from_IsUtf8 name u) refl

pub local_name-sound : (tag name : List ℕ) → local_name tag ≡ Some name → HasLocalName tag name
local_name-sound [] name e = absurd (none-some name e)
local_name-sound (c ∷ rest) name e =
    by (c == 33) (Decides-eqb c 33) (length rest == 0) (Decides-eqb (length rest) 0) (is_utf8 rest)
    (utf8-Decides rest) e
  where
    empty : (l : List ℕ) → length l ≡ 0 → l ≡ []
    empty [] z = refl
    empty (x ∷ xs) z = absurd (omega (arith, z))

    by : (b : Bool) → Decides b (c ≡ 33) → (z : Bool) → Decides z (length rest ≡ 0) → (u : Bool)
        → Decides u (IsUtf8 rest)
        → (if b then (if z then Some (codes "!") else (if u then Some rest else None)) else None) ≡ Some name
        → HasLocalName (c ∷ rest) name
    by false b z d u k h = absurd (none-some name h)
    by true b true d u k h =
        bare (ap (λ x. x ∷ rest) (b.0 refl) ∙ ap (λ l. 33 ∷ l) (empty rest (d.0 refl))) (sym (same_Some _ _ h))
    by true b false d false k h = absurd (none-some name h)
    by true b false d true k h =
        let n : rest ≡ name = same_Some _ _ h in
        let long : length rest ≢ 0 = λ q. true≢false (sym (d.1 q)) in
        named (ap (λ x. x ∷ rest) (b.0 refl)
        ∙ ap (λ l. 33 ∷ l) n) (omega (arith, long, ap length n)) (subst IsUtf8 n (k.0 refl))

-- what is read of a tag is its name
pub local_name-exact : (tag : Option (List ℕ)) (result : Option (Bor (List ℕ)))
    → option_copied result ≡ option_and_then local_name tag → (bytes name : List ℕ) → tag ≡ Some bytes
    → (option_copied result ≡ Some name → HasLocalName bytes name) × (HasLocalName bytes name
    → option_copied result ≡ Some name)
local_name-exact tag result e bytes name t =
    let s : option_copied result ≡ local_name bytes = e ∙ ap (option_and_then local_name) t in
    ((λ r. local_name-sound bytes name (sym s ∙ r)), (λ h. s ∙ local_name-complete bytes name h))
