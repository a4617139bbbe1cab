-- The parts of a path, and what they lead to.
use Rattle.std.proofs.Common.{◌≡◌, ◌≢◌, ◌==◌, ◌<◌, ◌∙◌, ℕ, List, [], ◌∷◌, ◌++◌, false, Option, Some, None}
use Rattle.std.proofs.Common.{ap, arith, get_or, if◌then◌else◌, length, refl, subst, suc}
use Rattle.std.specs.Prelude.{MatchOption}
use Rattle.std.proofs.lemmas.Bool.Decides.{nat_tests}
use Rattle.yaml_value.specs.Find.{get}
use Rattle.yaml_value.specs.Path.{Leads, LeadsToPlace, longer, parts_of}
use Rattle.yaml_value.specs.PlainValue.{PlainValue}

-- no byte is a slash
abbrev pub HasNoSlash : List ℕ → Type 0
HasNoSlash s = (i : ℕ) → i < length s → get_or s i 0 ≢ 47

no_slash-first : (c : ℕ) (cs : List ℕ) → HasNoSlash (c ∷ cs) → (c == 47) ≡ false
no_slash-first c cs free = let no : c ≢ 47 = free 0 (omega arith) in grind (arith, nat_tests)

no_slash-rest : (c : ℕ) (cs : List ℕ) → HasNoSlash (c ∷ cs) → HasNoSlash cs
no_slash-rest c cs free = λ i l. free (suc i) (omega (arith, l))

-- a text without a slash is one part
pub parts-one : (s : List ℕ) → HasNoSlash s → parts_of s ≡ s ∷ []
parts-one [] free = refl
parts-one (c ∷ cs) free =
    ap (λ b. if b then [] ∷ parts_of cs else longer c (parts_of cs)) (no_slash-first c cs free)
    ∙ ap (longer c) (parts-one cs (no_slash-rest c cs free))

-- what stands before the first slash is the first part
pub parts-cut : (xs ys : List ℕ) → HasNoSlash xs → parts_of (xs ++ (47 ∷ ys)) ≡ xs ∷ parts_of ys
parts-cut [] ys free = refl
parts-cut (c ∷ xs) ys free =
    let rest = parts_of (xs ++ (47 ∷ ys)) in
    ap (λ b. if b then [] ∷ rest else longer c rest) (no_slash-first c xs free)
    ∙ ap (longer c) (parts-cut xs ys (no_slash-rest c xs free))

-- a part leads so, where its key is looked for first
pub leads_by : (part : List ℕ) (v : PlainValue) (found o : Option PlainValue) → o ≡ get part v
    → MatchOption o (LeadsToPlace part v found) (λ w. found ≡ Some w) → Leads part v found
leads_by part v found o is h =
    subst (λ g. MatchOption g (LeadsToPlace part v found) (λ w. found ≡ Some w)) is h

-- nothing more is asked for behind the last part
pub same-end : (found : Option PlainValue) → MatchOption found (found ≡ None) (λ w. found ≡ Some w)
same-end None = refl
same-end (Some w) = refl
