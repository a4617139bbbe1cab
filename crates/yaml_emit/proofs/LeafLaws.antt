-- A text behind what stands before it in the line.
use Rattle.std.proofs.Common.{◌≡◌, ℕ, List, [], ◌∷◌, ◌++◌, append_assoc, refl, ap, ◌∙◌}
use Rattle.yaml_emit.specs.Leaves.{gap, is_nothing}
use Rattle.yaml_emit.specs.Places.{in_line}
use Rattle.yaml_emit.specs.Scalars.{in_style}
use Rattle.yaml_emit.specs.declared.open.Lead.{Lead}
use Rattle.yaml_emit.specs.declared.style.Style.{Style}
use Rattle.yaml_emit.specs.declared.style.Style.TheVariants.{Plain, SingleQuoted, DoubleQuoted, Literal}

-- a text in a style stands in the line behind a gap, unless nothing is printed of it
gap-is : (lead : Lead) (style : Style) (indent : ℕ) (text : List ℕ)
    → gap lead (is_nothing style text) ++ in_style indent style text ≡ in_line lead (in_style indent style text)
gap-is lead Plain indent [] = refl
gap-is lead Plain indent (c ∷ cs) = refl
gap-is lead SingleQuoted indent text = refl
gap-is lead DoubleQuoted indent text = refl
gap-is lead Literal indent text = refl

-- a scalar is what is added part by part
pub scalar_is : (out tag : List ℕ) (lead : Lead) (style : Style) (indent : ℕ) (text ending : List ℕ)
    → (((out ++ tag) ++ gap lead (is_nothing style text)) ++ in_style indent style text) ++ ending
    ≡ out ++ (tag ++ (in_line lead (in_style indent style text) ++ ending))
scalar_is out tag lead style indent text ending =
    ap (λ x. x ++ ending) (append_assoc (out ++ tag) (gap lead (is_nothing style text)) (in_style indent style text)
    ∙ ap (λ x. (out ++ tag) ++ x) (gap-is lead style indent text))
    ∙ (append_assoc (out ++ tag) (in_line lead (in_style indent style text)) ending
    ∙ append_assoc out tag (in_line lead (in_style indent style text) ++ ending))
