-- Texts of other types than `String`: which are those of data, and that they are equal again.
use Rattle.std.specs.Prelude.{◌≡◌, ℕ, List, true, false, bytes_eq, string_bytes}
use Rattle.std.proofs.Common.{sym, subst}
use Rattle.std.specs.Cow.{cow_str_bytes}
use Rattle.std.specs.declared.alloc.Global.{Global}
use Rattle.std.specs.declared.borrow.CowStr.{CowStr}
use Rattle.std.specs.declared.borrow.CowStr.TheVariants.{Borrowed, Owned}
use Rattle.yaml_shape.specs.EqualData.{EqualData}
use Rattle.yaml_shape.specs.PlainData.{PlainData, text_data}

-- the bytes of the text, borrowed or not
abbrev pub BuiltText : PlainData → List ℕ → Type 0
BuiltText (text_data lent a) bytes = bytes ≡ a
BuiltText _ bytes = ⊥

-- the text, borrowed where the data borrows it
abbrev pub BuiltCow : PlainData → CowStr Global → Type 0
BuiltCow (text_data true a) (Borrowed text) = text.now ≡ a
BuiltCow (text_data false a) (Owned text) = string_bytes text ≡ a
BuiltCow _ c = ⊥

-- of equal data equal bytes are built
pub bytes_returned : (x y : List ℕ) (d : PlainData) → EqualData (text_data true x) d → BuiltText d y
    → bytes_eq x y ≡ true
bytes_returned x y (text_data lent a) e b = subst (λ z. bytes_eq x z ≡ true) (sym b) e
bytes_returned x y _ e b = absurd b

-- and an equal text, borrowed or not
pub cow_returned : (x y : CowStr Global) (d : PlainData) → EqualData (text_data true (cow_str_bytes x)) d
    → BuiltCow d y → bytes_eq (cow_str_bytes x) (cow_str_bytes y) ≡ true
cow_returned x (Borrowed text) (text_data true a) e b = subst (λ z. bytes_eq (cow_str_bytes x) z ≡ true) (sym b) e
cow_returned x (Owned text) (text_data true a) e b = absurd b
cow_returned x (Borrowed text) (text_data false a) e b = absurd b
cow_returned x (Owned text) (text_data false a) e b = subst (λ z. bytes_eq (cow_str_bytes x) z ≡ true) (sym b) e
cow_returned x _ _ e b = absurd b
