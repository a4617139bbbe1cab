-- A line writes a fault in one way.
use Rattle.std.specs.Prelude.{false, ◌==◌}
use Rattle.std.specs.Str.{IsUtf8}
use Rattle.std.proofs.Common.{◌≡◌, ◌≢◌, ℕ, List, [], ◌∷◌, ◌++◌, refl, sym, ◌∙◌, subst, arith, lit≤}
use Rattle.std.proofs.lemmas.Bool.{eqb-false}
use Rattle.yaml_base.specs.PlainFault.{PlainFault}
use Rattle.yaml_base.specs.declared.fault.FaultKind.{FaultKind}
use Rattle.yaml_base.specs.declared.fault.FaultKind.TheVariants.{Memory, Reader, Scanner, Parser, Composer, Writer}
use Rattle.yaml_base.specs.declared.fault.FaultKind.TheVariants.{Emitter, Other}
use Rattle.yaml_lines.specs.Escape.{Lacks, Spells}
use Rattle.yaml_lines.specs.SpelledFault.{kind_name, IsSpelledFault}
use Rattle.yaml_lines.specs.Place.{HasNumber}
use Rattle.yaml_lines.proofs.CutLaws.{lacks-cons, cut-unique, cut_has}
use Rattle.yaml_lines.proofs.EscapeLaws.{Spells-unique}
use Rattle.yaml_lines.proofs.PlaceLaws.{HasNumber-unique}

-- each byte of the text passes a test against the space
abbrev IsUnspaced : List ℕ → Type 0
IsUnspaced [] = Unit {0}
IsUnspaced (c ∷ cs) = ((c == 32) ≡ false) × IsUnspaced cs

lacks_unspaced : (text : List ℕ) → IsUnspaced text → Lacks text 32
lacks_unspaced [] h = λ k d l. absurd (omega arith)
lacks_unspaced (c ∷ cs) h = lacks-cons 32 c cs (eqb-false c 32 h.0) (lacks_unspaced cs h.1)

-- no kind's name has a space
kind_unspaced : (kind : FaultKind) → IsUnspaced (kind_name kind)
kind_unspaced Memory = (refl, (refl, (refl, (refl, (refl, (refl, tt))))))
kind_unspaced Reader = (refl, (refl, (refl, (refl, (refl, (refl, tt))))))
kind_unspaced Scanner = (refl, (refl, (refl, (refl, (refl, (refl, (refl, tt)))))))
kind_unspaced Parser = (refl, (refl, (refl, (refl, (refl, (refl, tt))))))
kind_unspaced Composer = (refl, (refl, (refl, (refl, (refl, (refl, (refl, (refl, tt))))))))
kind_unspaced Writer = (refl, (refl, (refl, (refl, (refl, (refl, tt))))))
kind_unspaced Emitter = (refl, (refl, (refl, (refl, (refl, (refl, (refl, tt)))))))
kind_unspaced Other = (refl, (refl, (refl, (refl, (refl, tt)))))

pub kind_spaceless : (kind : FaultKind) → Lacks (kind_name kind) 32
kind_spaceless kind = lacks_unspaced _ (kind_unspaced kind)

-- a text with no space is no fault
pub no_space : (text : List ℕ) → Lacks text 32 → (fault : PlainFault) → ¬ (IsSpelledFault text fault)
no_space text l fault f = cut_has 32 (kind_name fault.kind) f.behind_kind (subst (λ t. Lacks t 32) f.split l)

-- what stands before the first space is the kind's name
pub kind_and_rest : (text name after : List ℕ) → text ≡ name ++ 32 ∷ after → Lacks name 32 → (fault : PlainFault)
    → (f : IsSpelledFault text fault)
    → (kind_name fault.kind ≡ name) × (f.behind_kind ≡ after)
kind_and_rest text name after e l fault f =
    cut-unique 32 (kind_name fault.kind) name f.behind_kind after (kind_spaceless fault.kind) l (sym f.split ∙ e)

-- a text whose first word is no kind's name is no fault
pub no_kind : (text name after : List ℕ) → text ≡ name ++ 32 ∷ after → Lacks name 32
    → ((kind : FaultKind) → kind_name kind ≢ name)
    → (fault : PlainFault) → ¬ (IsSpelledFault text fault)
no_kind text name after e l none fault f = none fault.kind (kind_and_rest text name after e l fault f).0

-- nor is one with no offset
pub no_offset : (text name after : List ℕ) → text ≡ name ++ 32 ∷ after → Lacks name 32
    → ((n : ℕ) → (rest : List ℕ) → ¬ (HasNumber after 32 n rest))
    → (fault : PlainFault) → ¬ (IsSpelledFault text fault)
no_offset text name after e l none fault f =
    none fault.offset f.behind_offset (subst (λ t. HasNumber t 32 fault.offset f.behind_offset)
    (kind_and_rest text name after e l fault f).1 f.has_offset)

-- nor one with no text
pub no_problem : (text name after rest : List ℕ) (n : ℕ) → text ≡ name ++ 32 ∷ after → Lacks name 32
    → HasNumber after 32 n rest
    → ((bytes : List ℕ) → Spells rest bytes → ¬ (IsUtf8 bytes)) → (fault : PlainFault) → ¬ (IsSpelledFault text fault)
no_problem text name after rest n e l h none fault f =
    let a = subst (λ t. HasNumber t 32 fault.offset f.behind_offset)
    (kind_and_rest text name after e l fault f).1 f.has_offset in
    let u = HasNumber-unique after 32 n fault.offset rest f.behind_offset (lit≤ tt) h a in
    none fault.problem (subst (λ t. Spells t fault.problem) (sym u.1) f.spelled) f.is_text

-- a text that isn't UTF-8 is no problem's
pub no_utf8 : (text bytes : List ℕ) → Spells text bytes → ¬ (IsUtf8 bytes) → (others : List ℕ) → Spells text others
    → ¬ (IsUtf8 others)
no_utf8 text bytes s none others t u = none (subst IsUtf8 (Spells-unique text others bytes t s) u)
