-- A line writes an event in one way.
use Rattle.std.specs.Prelude.{codes, Option, None, Some}
use Rattle.std.proofs.Common.{◌≡◌, ℕ, ◌<◌, List, [], ◌∷◌, ◌++◌, length, sym, ap, ◌∙◌, subst, arith, drop}
use Rattle.yaml_base.specs.PlainEvent.{PlainScalar}
use Rattle.yaml_base.specs.declared.event.ScalarStyle.{ScalarStyle}
use Rattle.yaml_lines.specs.Escape.{Lacks, Spells}
use Rattle.yaml_lines.specs.EventText.{IsAnchorName, IsBreak, HasAnchor, HasTag, HasProperties, IsScalarText}
use Rattle.yaml_lines.specs.EventText.{IsStyledText}
use Rattle.yaml_lines.proofs.CutLaws.{cut-unique, cut_has, break-unique}

-- a text whose first word is no anchor's name begins with no anchor
pub no_anchor : (text name after : List ℕ) → text ≡ codes " &" ++ (name ++ after) → Lacks name 32 → IsBreak after
    → ((anchor : List ℕ) → ¬ (IsAnchorName name anchor))
    → (anchor : Option (List ℕ)) → (rest : List ℕ) → ¬ (HasAnchor text anchor rest)
no_anchor text name after e l b none None rest h = h.1 (name ++ after) e
no_anchor text name after e l b none (Some anchor) rest h =
    let same : name ++ after ≡ h.0 ++ rest = ap (λ (t : List ℕ). drop 2 t) (sym e ∙ h.1) in
    let u = break-unique name h.0 after rest l h.2.unspaced b h.3 same in
    none anchor (subst (λ n. IsAnchorName n anchor) (sym u.0) h.2)

-- what follows the anchor
pub behind_anchor-unique : (text : List ℕ) (a b : Option (List ℕ)) (r s : List ℕ) → HasAnchor text a r
    → HasAnchor text b s → r ≡ s
behind_anchor-unique text None None r s f g = sym f.0 ∙ g.0
behind_anchor-unique text None (Some b) r s f g = absurd (f.1 (g.0 ++ s) g.1)
behind_anchor-unique text (Some a) None r s f g = absurd (g.1 (f.0 ++ r) f.1)
behind_anchor-unique text (Some a) (Some b) r s f g =
    (break-unique f.0 g.0 r s f.2.unspaced g.2.unspaced f.3 g.3 (ap (λ (t : List ℕ). drop 2 t) (sym f.1 ∙ g.1))).1

-- a text whose tag isn't closed begins with no tag
pub no_close : (text after : List ℕ) → text ≡ codes " <" ++ after → Lacks after 62 → (tag : Option (List ℕ))
    → (rest : List ℕ) → ¬ (HasTag text tag rest)
no_close text after e l None rest h = h.1 after e
no_close text after e l (Some tag) rest h =
    let same : after ≡ h.0 ++ 62 ∷ rest = ap (λ (t : List ℕ). drop 2 t) (sym e ∙ h.1) in
    cut_has 62 h.0 rest (subst (λ t. Lacks t 62) same l)

-- nor does one whose tag is no text with escapes
pub no_tag : (text name after : List ℕ) → text ≡ codes " <" ++ (name ++ 62 ∷ after) → Lacks name 62
    → ((bytes : List ℕ) → ¬ (Spells name bytes))
    → (tag : Option (List ℕ)) → (rest : List ℕ) → ¬ (HasTag text tag rest)
no_tag text name after e l none None rest h = h.1 (name ++ 62 ∷ after) e
no_tag text name after e l none (Some tag) rest h =
    let same : name ++ 62 ∷ after ≡ h.0 ++ 62 ∷ rest = ap (λ (t : List ℕ). drop 2 t) (sym e ∙ h.1) in
    let u = cut-unique 62 name h.0 after rest l h.2.closed same in
    none tag (subst (λ n. Spells n tag) (sym u.0) h.2.spelled)

-- what follows the tag
pub behind_tag-unique : (text : List ℕ) (a b : Option (List ℕ)) (r s : List ℕ) → HasTag text a r → HasTag text b s
    → r ≡ s
behind_tag-unique text None None r s f g = sym f.0 ∙ g.0
behind_tag-unique text None (Some b) r s f g = absurd (f.1 (g.0 ++ 62 ∷ s) g.1)
behind_tag-unique text (Some a) None r s f g = absurd (g.1 (f.0 ++ 62 ∷ r) f.1)
behind_tag-unique text (Some a) (Some b) r s f g =
    (cut-unique 62 f.0 g.0 r s f.2.closed g.2.closed (ap (λ (t : List ℕ). drop 2 t) (sym f.1 ∙ g.1))).1

-- where no tag can stand behind the anchor, the text has no such beginning
pub no_tag_behind : (text after : List ℕ) (a : Option (List ℕ)) → HasAnchor text a after
    → ((tag : Option (List ℕ)) → (rest : List ℕ) → ¬ (HasTag after tag rest))
    → (anchor tag : Option (List ℕ)) → (rest : List ℕ) → ¬ (HasProperties text anchor tag rest)
no_tag_behind text after a h none anchor tag rest p =
    none tag rest (subst (λ t. HasTag t tag rest) (sym
    (behind_anchor-unique text a anchor after p.behind_anchor h p.has_anchor)) p.has_tag)

-- what follows the anchor and the tag
pub behind-unique : (text : List ℕ) (a b s t : Option (List ℕ)) (q r : List ℕ) → HasProperties text a s q
    → HasProperties text b t r → q ≡ r
behind-unique text a b s t q r f g =
    behind_tag-unique g.behind_anchor s t q r
    (subst (λ x. HasTag x s q) (behind_anchor-unique text a b f.behind_anchor g.behind_anchor f.has_anchor g.has_anchor)
    f.has_tag) g.has_tag

-- where something follows them, they are not all
pub not_alone : (text after : List ℕ) (a s : Option (List ℕ)) → HasProperties text a s after → 0 < length after
    → (anchor tag : Option (List ℕ)) → ¬ (HasProperties text anchor tag [])
not_alone text after a s h some anchor tag p =
    let e : length after ≡ 0 = ap length (behind-unique text a anchor s tag after [] h p) in omega arith

-- a scalar begins with an anchor and a tag, or the lack of them
pub no_scalar : (text : List ℕ)
    → ((anchor tag : Option (List ℕ)) → (rest : List ℕ) → ¬ (HasProperties text anchor tag rest))
    → (value : PlainScalar) → ¬ (IsScalarText text value)
no_scalar text none value s = none value.anchor value.tag s.behind_tag s.has_properties

-- and has a style and a text behind them
pub no_content : (text after : List ℕ) (a t : Option (List ℕ)) → HasProperties text a t after
    → ((style : ScalarStyle) → (value : List ℕ) → ¬ (IsStyledText after style value))
    → (value : PlainScalar) → ¬ (IsScalarText text value)
no_content text after a t h none value s =
    none value.style value.text
    (subst (λ x. IsStyledText x value.style value.text)
    (sym (behind-unique text a value.anchor t value.tag after s.behind_tag h s.has_properties)) s.is_content)
