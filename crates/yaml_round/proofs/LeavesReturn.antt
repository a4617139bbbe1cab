-- Scalars, and any values, mean what they were written of.
use Rattle.std.specs.Prelude.{Bool, true, false, not, option_and_then}
use Rattle.std.specs.Prelude.{◌⊎◌}
use Rattle.std.specs.Option.{is_some}
use Rattle.std.specs.Str.{is_utf8}
use Rattle.std.proofs.Common.{◌≡◌, ℕ, List, [], ◌∷◌, Option, Some, None, Ok}
use Rattle.std.proofs.Common.{refl, sym, ap, subst, inl, inr}
use Rattle.yaml_base.specs.AskedStyles.{asked_style}
use Rattle.yaml_base.specs.DocTree.{DocNode}
use Rattle.yaml_base.specs.EmitTree.{EmitNode, emit_scalar_node}
use Rattle.yaml_base.specs.LocalName.{local_name}
use Rattle.yaml_base.specs.PlainDocEvent.{a_scalar}
use Rattle.yaml_base.specs.PlainEvent.{PlainScalar}
use Rattle.yaml_base.specs.Renders.{RendersScalar}
use Rattle.yaml_base.specs.declared.emitter.AskedStyle.{AskedStyle}
use Rattle.yaml_shape.specs.PlainData.{PlainData, any_data, bool_data, char_data, signed_data}
use Rattle.yaml_shape.specs.PlainData.{unsigned_data, text_data, none_data, unit_data}
use Rattle.yaml_shape.specs.PlainShape.{PlainShape}
use Rattle.yaml_shape.specs.PlainShape.{any_shape, bool_shape, char_shape}
use Rattle.yaml_shape.specs.PlainShape.{integer_shape, str_shape, identifier_shape, option_shape, unit_shape}
use Rattle.yaml_shape.specs.PlainShape.{unit_struct_shape}
use Rattle.yaml_shape.specs.PlainShape.{enum_shape}
use Rattle.yaml_tree.specs.EqualLaws.{tree_eq-refl}
use Rattle.yaml_tree.specs.Tree.{boolean, number}
use Rattle.yaml_meaning.specs.Handing.{as_is, handed, early, enum_by}
use Rattle.yaml_meaning.specs.Meaning.{Means}
use Rattle.yaml_meaning.specs.Presence.{is_absent, is_empty}
use Rattle.yaml_meaning.specs.ScalarShapes.{scalar_answer, lent_text}
use Rattle.yaml_meaning.specs.Variants.{Variants}
use Rattle.yaml_write.specs.Outcomes.{Outcome}
use Rattle.yaml_round.specs.Fits.{is_variant_name}
use Rattle.yaml_round.proofs.ByPlace.{same_bytes}
use Rattle.yaml_round.proofs.Outcomes.{same_answer}
use Rattle.yaml_round.proofs.RenderedTrees.{IsRendered}
use Rattle.yaml_round.proofs.ScalarLeaves.{bool_leaf, signed_leaf, unsigned_leaf, char_leaf, text_leaf, name_leaf}
use Rattle.yaml_round.proofs.ScalarLeaves.{none_leaf, unit_leaf, unit_struct_leaf}
use Rattle.yaml_round.proofs.ShapesOfData.{any_is, bool_is, char_is, signed_is, unsigned_is}
use Rattle.yaml_round.proofs.ShapesOfData.{text_is, option_is, unit_is}
use Rattle.yaml_round.proofs.ValuesReturn.{value_returns, word_means}
use Rattle.std.specs.Char.{IsScalar, encode_utf8}
use Rattle.std.specs.Fmt.{signed_decimal}
use Rattle.std.specs.Prelude.{ℤ, decimal, codes}
use Rattle.yaml_base.specs.declared.emitter.AskedStyle.TheVariants.{Plain, SingleQuoted}
use Rattle.yaml_shape.specs.HasShape.{is_any, is_bool, is_char, takes_signed, takes_unsigned, is_text, is_unit}
use Rattle.yaml_shape.specs.HasShape.{on_option}
use Rattle.yaml_tree.specs.Tree.{Tree}
use Rattle.yaml_tree.specs.Valid.{is_value}
use Rattle.yaml_write.specs.WrittenValue.{written_value, truth_text}
use Rattle.yaml_round.specs.Fits.{tree_fits}
use Rattle.yaml_round.proofs.DataFound.{DataReturns, shaped}
use Rattle.yaml_round.proofs.DataFound.{same_number}

-- an absent optional is handed on as it is
absent_as_is : (c : ℕ) (taken : Bool) (w : PlainScalar) → scalar_answer (option_shape c) taken w ≡ Ok none_data
    → handed (option_shape c) taken (a_scalar w) ≡ as_is
absent_as_is c taken w h = by (is_absent taken w) refl h
  where
    by : (b : Bool) → is_absent taken w ≡ b → scalar_answer (option_shape c) taken w ≡ Ok none_data
        → handed (option_shape c) taken (a_scalar w) ≡ as_is
    by true e h = rw e refl
    by false e h = let bad = rw e at h in absurd cc

-- a name that is there
filled : (name : List ℕ) → is_variant_name name ≡ true → not (is_empty name) ≡ true
filled [] h = absurd cc
filled (c ∷ cs) h = refl

-- an enum's scalar is handed on as it is
pub name_as_is : (ename : List ℕ) (variants : Variants) (tag : Option (List ℕ)) (name : List ℕ) (w : PlainScalar)
    → is_variant_name name ≡ true → w.tag ≡ tag → w.text ≡ name
    → handed (enum_shape ename variants) (is_some tag) (a_scalar w) ≡ as_is
name_as_is ename variants None name w named t e =
    ap (λ o. enum_by ename variants (option_and_then local_name o)) t
name_as_is ename variants (Some own) name w named t e = rw (e, filled name named) refl

-- a scalar that is asked with this tag and text in this style
abbrev pub IsAsked : (tag : Option (List ℕ)) → (text : List ℕ) → AskedStyle → EmitNode → Type 0
IsAsked tag text style e = ◌≡◌ {A = Outcome} (Ok (emit_scalar_node tag text style)) (Ok e)

module _ (table : List PlainShape) (root : DocNode) where
  abbrev Returns : PlainShape → DocNode → (taken : Bool) → PlainData → Type 0
  Returns = DataReturns table root

  -- a scalar
  pub leaf : (s : PlainShape) (tag : Option (List ℕ)) (text : List ℕ) (style : AskedStyle) (e : EmitNode) (n : DocNode)
      (v : PlainScalar → PlainData) → early s ≡ None
      → ((w : PlainScalar) → RendersScalar tag text style w → handed s (is_some tag) (a_scalar w) ≡ as_is)
      → ((w : PlainScalar) → RendersScalar tag text style w → scalar_answer s (is_some tag) w ≡ Ok (v w))
      → IsAsked tag text style e → IsRendered e n
      → (w : PlainScalar) × Means table root s n (is_some tag) (v w) 0 0
  leaf s tag text style e n v none hands answer h r =
      let r : IsRendered (emit_scalar_node tag text style) n =
      subst (λ e. IsRendered e n) (sym (same_answer (emit_scalar_node tag text style) e h)) r in
      (r.0, word_means table root s (is_some tag) r.0 n (v r.0) none (hands r.0 r.2) (answer r.0 r.2) r.1)

  -- any value
  pub any_returns : (v : Tree) (s : PlainShape) (tag : Option (List ℕ)) (e : EmitNode) (n : DocNode)
      → is_any s ≡ true → is_value v ≡ true → tree_fits v ≡ true → written_value tag v ≡ Ok e → IsRendered e n
      → Returns s n (is_some tag) (any_data v)
  any_returns v s tag e n is held fits h r =
      let v' = value_returns table root tag v e n held fits h r in
      shaped table root s any_shape n (is_some tag) (any_data v) (any_is s is)
      (record { found = any_data v'.found; means = v'.means; same = v'.same })

  -- booleans, characters and integers
  pub bool_returns : (b : Bool) (s : PlainShape) (tag : Option (List ℕ)) (e : EmitNode) (n : DocNode)
      → is_bool s ≡ true → IsAsked tag (truth_text b) Plain e → IsRendered e n
      → Returns s n (is_some tag) (bool_data b)
  bool_returns b s tag e n is h r =
      let m = leaf bool_shape tag _ _ e n (λ w. bool_data b) refl (λ w k. refl) (λ w k. bool_leaf tag w b k) h r in
      shaped table root s bool_shape n (is_some tag) (bool_data b) (bool_is s is)
      (record { found = bool_data b; means = m.1; same = tree_eq-refl (boolean b) })

  pub char_returns : (c : ℕ) (s : PlainShape) (tag : Option (List ℕ)) (e : EmitNode) (n : DocNode)
      → is_char s ≡ true → IsScalar c → IsAsked tag (encode_utf8 c) SingleQuoted e → IsRendered e n
      → Returns s n (is_some tag) (char_data c)
  char_returns c s tag e n is held h r =
      let m = leaf char_shape tag _ _ e n (λ w. char_data c) refl (λ w k. refl) (λ w k. char_leaf tag w c held k) h r in
      shaped table root s char_shape n (is_some tag) (char_data c) (char_is s is)
      (record { found = char_data c; means = m.1; same = same_number c })

  pub signed_returns : (z : ℤ) (s : PlainShape) (tag : Option (List ℕ)) (e : EmitNode) (n : DocNode)
      → takes_signed z s ≡ true → IsAsked tag (signed_decimal z) Plain e → IsRendered e n
      → Returns s n (is_some tag) (signed_data z)
  signed_returns z s tag e n is h r =
      let i = signed_is z s is in
      let m = leaf (integer_shape i.0) tag _ _ e n (λ w. signed_data z) refl (λ w k. refl)
      (λ w k. signed_leaf tag w i.0 z i.2 k) h r in
      shaped table root s (integer_shape i.0) n (is_some tag) (signed_data z) i.1
      (record { found = signed_data z; means = m.1; same = tree_eq-refl (number z) })

  pub unsigned_returns : (u : ℕ) (s : PlainShape) (tag : Option (List ℕ)) (e : EmitNode) (n : DocNode)
      → takes_unsigned u s ≡ true → IsAsked tag (decimal u) Plain e → IsRendered e n
      → Returns s n (is_some tag) (unsigned_data u)
  unsigned_returns u s tag e n is h r =
      let i = unsigned_is u s is in
      let m = leaf (integer_shape i.0) tag _ _ e n (λ w. unsigned_data u) refl (λ w k. refl)
      (λ w k. unsigned_leaf tag w i.0 u i.2 k) h r in
      shaped table root s (integer_shape i.0) n (is_some tag) (unsigned_data u) i.1
      (record { found = unsigned_data u; means = m.1; same = same_number u })

  -- texts
  pub text_returns : (lent : Bool) (text : List ℕ) (s : PlainShape) (tag : Option (List ℕ)) (e : EmitNode)
      (n : DocNode) → is_text s ≡ true → is_utf8 text ≡ true → IsAsked tag text (asked_style text) e → IsRendered e n
      → Returns s n (is_some tag) (text_data lent text)
  text_returns lent text s tag e n is held h r = by (text_is s is)
    where
      by : (s ≡ str_shape) ⊎ (s ≡ identifier_shape) → Returns s n (is_some tag) (text_data lent text)
      by (inl eq) =
          let m = leaf str_shape tag _ _ e n (λ w. lent_text w text) refl (λ w k. refl)
          (λ w k. text_leaf tag w text (asked_style text) held k) h r in
          shaped table root s str_shape n (is_some tag) (text_data lent text) eq
          (record { found = lent_text m.0 text; means = m.1; same = same_bytes text })
      by (inr eq) =
          let m = leaf identifier_shape tag _ _ e n (λ w. lent_text w text) refl (λ w k. refl)
          (λ w k. name_leaf tag w text (asked_style text) held k) h r in
          shaped table root s identifier_shape n (is_some tag) (text_data lent text) eq
          (record { found = lent_text m.0 text; means = m.1; same = same_bytes text })

  -- nothing
  pub none_returns : (s : PlainShape) (tag : Option (List ℕ)) (e : EmitNode) (n : DocNode)
      → on_option (λ content. true) s ≡ true → IsAsked tag (codes "null") Plain e → IsRendered e n
      → Returns s n (is_some tag) none_data
  none_returns s tag e n is h r =
      let o = option_is (λ content. true) s is in
      let m = leaf (option_shape o.0) tag _ _ e n (λ w. none_data) refl
      (λ w k. absent_as_is o.0 (is_some tag) w (none_leaf tag w o.0 k)) (λ w k. none_leaf tag w o.0 k) h r in
      shaped table root s (option_shape o.0) n (is_some tag) none_data o.1
      (record { found = none_data; means = m.1; same = refl })

  pub unit_returns : (s : PlainShape) (tag : Option (List ℕ)) (e : EmitNode) (n : DocNode) → is_unit s ≡ true
      → IsAsked tag (codes "null") Plain e → IsRendered e n → Returns s n (is_some tag) unit_data
  unit_returns s tag e n is h r = by (unit_is s is)
    where
      by : (s ≡ unit_shape) ⊎ ((name : List ℕ) × (s ≡ unit_struct_shape name)) → Returns s n (is_some tag) unit_data
      by (inl eq) =
          let m = leaf unit_shape tag _ _ e n (λ w. unit_data) refl (λ w k. refl) (λ w k. unit_leaf tag w k) h r in
          shaped table root s unit_shape n (is_some tag) unit_data eq
          (record { found = unit_data; means = m.1; same = refl })
      by (inr (name, eq)) =
          let m = leaf (unit_struct_shape name) tag _ _ e n (λ w. unit_data) refl (λ w k. refl)
          (λ w k. unit_struct_leaf tag w name k) h r in
          shaped table root s (unit_struct_shape name) n (is_some tag) unit_data eq
          (record { found = unit_data; means = m.1; same = refl })
