-- Values without parts are equal again.
use Rattle.std.specs.Prelude.{◌≡◌, ℕ, ℤ, Bool, true, string_bytes, nat_eq, bytes_eq, String}
use Rattle.std.proofs.Common.{sym, subst}
use Rattle.std.specs.Bool.{beq}
use Rattle.std.specs.Ordering.{int_eq}
use Rattle.std.specs.String.{string_eq}
use Rattle.std.specs.declared.alloc.Global.{Global}
use Rattle.yaml_tree.specs.Equal.{tree_eq}
use Rattle.yaml_tree.specs.View.{tree_of}
use Rattle.yaml_tree.specs.declared.value.Value.{Value}
use Rattle.yaml_shape.specs.EqualData.{EqualData}
use Rattle.yaml_shape.specs.PlainData.{PlainData, any_data, bool_data, char_data, signed_data, unsigned_data}
use Rattle.yaml_shape.specs.PlainData.{text_data}
use Rattle.yaml_types.specs.Built.{BuiltBool, BuiltChar, BuiltSigned, BuiltUnsigned, BuiltString, BuiltValue}

-- a boolean
pub bool_returned : (x y : Bool) (d : PlainData) → EqualData (bool_data x) d → BuiltBool d y → beq x y ≡ true
bool_returned x y (bool_data a) e b = subst (λ z. beq x z ≡ true) (sym b) e
bool_returned x y _ e b = absurd b

-- a character
pub char_returned : (x y : ℕ) (d : PlainData) → EqualData (char_data x) d → BuiltChar d y → nat_eq x y ≡ true
char_returned x y (char_data a) e b = subst (λ z. nat_eq x z ≡ true) (sym b) e
char_returned x y _ e b = absurd b

-- an integer with a sign
pub signed_returned : (x y : ℤ) (d : PlainData) → EqualData (signed_data x) d → BuiltSigned d y → int_eq x y ≡ true
signed_returned x y (signed_data a) e b = subst (λ z. int_eq x z ≡ true) (sym b) e
signed_returned x y _ e b = absurd b

-- an integer without a sign
pub unsigned_returned : (x y : ℕ) (d : PlainData) → EqualData (unsigned_data x) d → BuiltUnsigned d y
    → nat_eq x y ≡ true
unsigned_returned x y (unsigned_data a) e b = subst (λ z. nat_eq x z ≡ true) (sym b) e
unsigned_returned x y _ e b = absurd b

-- a text
pub text_returned : (x y : String Global) (d : PlainData) → EqualData (text_data true (string_bytes x)) d
    → BuiltString d y → string_eq x y ≡ true
text_returned x y (text_data lent a) e b = subst (λ z. bytes_eq (string_bytes x) z ≡ true) (sym b) e
text_returned x y _ e b = absurd b

-- a value of any kind
pub value_returned : (x y : Value) (d : PlainData) → EqualData (any_data (tree_of x)) d → BuiltValue d y
    → tree_eq (tree_of x) (tree_of y) ≡ true
value_returned x y (any_data a) e b = subst (λ z. tree_eq (tree_of x) z ≡ true) (sym b) e
value_returned x y _ e b = absurd b
