-- Choices of variants are equal again where what the variants hold is.
use Rattle.std.specs.Prelude.{◌≡◌, ◌-◌, ◌<◌, ℕ, List, Bool, true, nat_eq}
use Rattle.std.proofs.Common.{inl, inr, sym, ◌∙◌, arith}
use Rattle.std.proofs.lemmas.Bool.{eqb-true}
use Rattle.yaml_tree.specs.TakeOut.{and_left, and_right}
use Rattle.yaml_shape.specs.EqualData.{EqualData}
use Rattle.yaml_shape.specs.PlainData.{PlainData, variant_data}
use Rattle.yaml_types.specs.ReturnLaws.{AreReturned, AreAccepted}
use Rattle.yaml_types.specs.Choices.{BuiltOneOf, RefusedOneOf, one_of_kept, one_of_place, one_of_written, BuiltVariant}
use Rattle.yaml_types.specs.Choices.{RefusedVariant}
use Rattle.yaml_types.specs.declared.choice.OneOf.{OneOf}
use Rattle.yaml_types.specs.declared.choice.OneOf.TheVariants.{First, Other}

-- of the number of a value's variant and of data equal to what it holds, only values equal to it are built
abbrev pub ChoiceReturned : {C : Type 0} → (C → Type 0) → (C → ℕ) → (C → PlainData) → (ℕ → PlainData → C → Type 0)
    → (C → C → Bool) → Type 0
ChoiceReturned {C} kept number written built eq =
    (x y : C) (place : ℕ) (d : PlainData) → kept x → number x ≡ place → EqualData (written x) d → built place d y
    → eq x y ≡ true

-- such data is not refused
abbrev pub ChoiceAccepted : {C : Type 0} → (C → ℕ) → (C → PlainData) → (ℕ → PlainData → List ℕ → Type 0) → Type 0
ChoiceAccepted {C} number written refused =
    (x : C) (place : ℕ) (d : PlainData) (message : List ℕ) → number x ≡ place → EqualData (written x) d
    → refused place d message → ⊥

module _ {V C : Type 0} where
  -- the first variant, or one of the others
  pub one_of_returned : (eq : OneOf V C → OneOf V C → Bool) (kept : V → Type 0) (written : V → PlainData)
      (built : PlainData → V → Type 0) (eq1 : V → V → Bool) → AreReturned kept written built eq1
      → (kept' : C → Type 0) (number : C → ℕ) (written' : C → PlainData) (built' : ℕ → PlainData → C → Type 0)
      (eq2 : C → C → Bool) → ChoiceReturned kept' number written' built' eq2
      → ((a b : V) → eq1 a b ≡ eq (First a) (First b)) → ((a b : C) → eq2 a b ≡ eq (Other a) (Other b))
      → (x y : OneOf V C) (place : ℕ) (d : PlainData) → one_of_kept kept kept' x → one_of_place number x ≡ place
      → EqualData (one_of_written written written' x) d → BuiltOneOf built built' place d y → eq x y ≡ true
  one_of_returned eq kept written built eq1 law kept' number written' built' eq2 law' firsts others (First x) (First y)
      place d k same e b = sym (firsts x y) ∙ law x y d k e b.1
  one_of_returned eq kept written built eq1 law kept' number written' built' eq2 law' firsts others (First x) (Other y)
      place d k same e b = let above : 0 < place = b.0 in absurd (omega arith)
  one_of_returned eq kept written built eq1 law kept' number written' built' eq2 law' firsts others (Other x) (First y)
      place d k same e b = let none : place ≡ 0 = b.0 in absurd (omega arith)
  one_of_returned eq kept written built eq1 law kept' number written' built' eq2 law' firsts others (Other x) (Other y)
      place d k same e b =
      let here : number x ≡ place - 1 = omega arith in sym (others x y) ∙ law' x y (place - 1) d k here e b.1

  pub one_of_accepted : (written : V → PlainData) (refused : PlainData → List ℕ → Type 0)
      → AreAccepted written refused → (number : C → ℕ) (written' : C → PlainData)
      (refused' : ℕ → PlainData → List ℕ → Type 0) → ChoiceAccepted number written' refused' → (x : OneOf V C)
      (place : ℕ) (d : PlainData) (message : List ℕ) → one_of_place number x ≡ place
      → EqualData (one_of_written written written' x) d → RefusedOneOf refused refused' place d message → ⊥
  one_of_accepted written refused law number written' refused' law' (First x) place d m same e (inl r) =
      law x d m e r.1
  one_of_accepted written refused law number written' refused' law' (First x) place d m same e (inr r) =
      let above : 0 < place = r.0 in absurd (omega arith)
  one_of_accepted written refused law number written' refused' law' (Other y) place d m same e (inl r) =
      let none : place ≡ 0 = r.0 in absurd (omega arith)
  one_of_accepted written refused law number written' refused' law' (Other y) place d m same e (inr r) =
      let here : number y ≡ place - 1 = omega arith in law' y (place - 1) d m here e r.1

module _ {C : Type 0} where
  -- the variant of an enum
  pub variant_returned : (kept : C → Type 0) (number : C → ℕ) (written : C → PlainData)
      (built : ℕ → PlainData → C → Type 0) (eq : C → C → Bool) → ChoiceReturned kept number written built eq
      → (x y : C) (d : PlainData) → kept x → EqualData (variant_data (number x) (written x)) d
      → BuiltVariant built d y → eq x y ≡ true
  variant_returned kept number written built eq law x y (variant_data place d) k e b =
      law x y place d k (eqb-true (number x) place (and_left _ _ e)) (and_right (nat_eq (number x) place) _ e) b
  variant_returned kept number written built eq law x y _ k e b = absurd b

  pub variant_accepted : (number : C → ℕ) (written : C → PlainData) (refused : ℕ → PlainData → List ℕ → Type 0)
      → ChoiceAccepted number written refused → (x : C) (d : PlainData) (message : List ℕ)
      → EqualData (variant_data (number x) (written x)) d → RefusedVariant refused d message → ⊥
  variant_accepted number written refused law x (variant_data place d) m e r =
      law x place d m (eqb-true (number x) place (and_left _ _ e)) (and_right (nat_eq (number x) place) _ e) r
  variant_accepted number written refused law x _ m e r = r
