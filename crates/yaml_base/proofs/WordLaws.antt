-- A word is no integer, and a word for null no boolean.
use Rattle.std.specs.Prelude.{None, Some, Bool, true, false}
use Rattle.std.specs.Prelude.{if◌then◌else◌, codes}
use Rattle.std.proofs.Common.{◌≡◌, ◌⊎◌, ℕ, List, [], ◌∷◌, length, refl, ap, ◌∙◌}
use Rattle.std.proofs.Common.{arith, inl, inr}
use Rattle.std.proofs.lemmas.Bool.Decides.{Decides-or, Decides-eqb}
use Rattle.std.proofs.lemmas.Option.{none-some}
use Rattle.std.proofs.lemmas.Slice.Eq.{bytes_eq-Decides}
use Rattle.yaml_base.specs.Integers.{integer_of, unsigned_of}
use Rattle.yaml_base.specs.Kinds.{is_null_text}
use Rattle.yaml_base.specs.PlainWords.{is_true_word, is_false_word, boolean_of}

-- the words, one by one
null_words : (text : List ℕ) → is_null_text text ≡ true
    → (text ≡ []) ⊎ ((text ≡ codes "null") ⊎ ((text ≡ codes "Null") ⊎ ((text ≡ codes "NULL") ⊎ (text ≡ codes "~"))))
null_words text e =
    let d = Decides-or _ _ (Decides-eqb (length text) 0)
    (Decides-or _ _ (bytes_eq-Decides text (codes "null")) (Decides-or _ _ (bytes_eq-Decides text (codes "Null"))
    (Decides-or _ _ (bytes_eq-Decides text (codes "NULL")) (bytes_eq-Decides text (codes "~"))))) in
    elim (d.0 e) [ inl z ↦ inl (empty text z) | inr w ↦ inr w ]
  where
    empty : (text : List ℕ) → length text ≡ 0 → text ≡ []
    empty [] z = refl
    empty (c ∷ cs) z = absurd (omega (arith, z))

-- a text of which a function of texts says the same as of each word for null
at_null : {A : Type 0} (f : List ℕ → A) (x : A) (text : List ℕ) → f [] ≡ x → f (codes "null") ≡ x
    → f (codes "Null") ≡ x → f (codes "NULL") ≡ x
    → f (codes "~") ≡ x → is_null_text text ≡ true → f text ≡ x
at_null f x text p q r s t e = elim (null_words text e) [
  | inl k ↦ ap f k ∙ p
  | inr m ↦ elim m [
    | inl k ↦ ap f k ∙ q
    | inr m ↦ elim m [
      | inl k ↦ ap f k ∙ r
      | inr m ↦ elim m [ inl k ↦ ap f k ∙ s | inr k ↦ ap f k ∙ t ]
    ]
  ]
]

-- null is no boolean and no integer
pub null_boolean : (text : List ℕ) → is_null_text text ≡ true → boolean_of text ≡ None
null_boolean text e = at_null boolean_of None text refl refl refl refl refl e

pub null_integer : (text : List ℕ) → is_null_text text ≡ true → integer_of text ≡ None
null_integer text e = at_null integer_of None text refl refl refl refl refl e

pub null_unsigned : (text : List ℕ) → is_null_text text ≡ true → unsigned_of text ≡ None
null_unsigned text e = at_null unsigned_of None text refl refl refl refl refl e

-- a boolean is no integer
true_words : (text : List ℕ) → is_true_word text ≡ true
    → (text ≡ codes "true") ⊎ ((text ≡ codes "True") ⊎ (text ≡ codes "TRUE"))
true_words text e =
    (Decides-or _ _ (bytes_eq-Decides text (codes "true"))
    (Decides-or _ _ (bytes_eq-Decides text (codes "True")) (bytes_eq-Decides text (codes "TRUE")))).0 e

false_words : (text : List ℕ) → is_false_word text ≡ true
    → (text ≡ codes "false") ⊎ ((text ≡ codes "False") ⊎ (text ≡ codes "FALSE"))
false_words text e =
    (Decides-or _ _ (bytes_eq-Decides text (codes "false"))
    (Decides-or _ _ (bytes_eq-Decides text (codes "False")) (bytes_eq-Decides text (codes "FALSE")))).0 e

at_three : {A : Type 0} (f : List ℕ → A) (x : A) (text a b c : List ℕ) → f a ≡ x → f b ≡ x → f c ≡ x
    → (text ≡ a) ⊎ ((text ≡ b) ⊎ (text ≡ c)) → f text ≡ x
at_three f x text a b c p q r (inl k) = ap f k ∙ p
at_three f x text a b c p q r (inr (inl k)) = ap f k ∙ q
at_three f x text a b c p q r (inr (inr k)) = ap f k ∙ r

at_boolean : {A : Type 0} (f : List ℕ → A) (x : A) (text : List ℕ) (value : Bool) → boolean_of text ≡ Some value
    → f (codes "true") ≡ x → f (codes "True") ≡ x → f (codes "TRUE") ≡ x
    → f (codes "false") ≡ x → f (codes "False") ≡ x → f (codes "FALSE") ≡ x → f text ≡ x
at_boolean f x text value e p q r s t u = by (is_true_word text) refl (is_false_word text) refl e
  where
    by : (a : Bool) → is_true_word text ≡ a → (b : Bool) → is_false_word text ≡ b
        → (if a then Some true else (if b then Some false else None)) ≡ Some value → f text ≡ x
    by true h b k g = at_three f x text _ _ _ p q r (true_words text h)
    by false h true k g = at_three f x text _ _ _ s t u (false_words text k)
    by false h false k g = absurd (none-some value g)

pub boolean_integer : (text : List ℕ) (value : Bool) → boolean_of text ≡ Some value → integer_of text ≡ None
boolean_integer text value e = at_boolean integer_of None text value e refl refl refl refl refl refl

pub boolean_unsigned : (text : List ℕ) (value : Bool) → boolean_of text ≡ Some value → unsigned_of text ≡ None
boolean_unsigned text value e = at_boolean unsigned_of None text value e refl refl refl refl refl refl
