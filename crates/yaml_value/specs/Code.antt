-- A code for plain values, by which each is told from all others.
use Rattle.std.specs.Prelude.{◌≡◌, ℕ, suc, zero, ℤ, pos, negsuc, List, [], ◌∷◌, Bool, true, false, refl}
use Rattle.std.proofs.Common.{sym, ◌∙◌, ap}
use base.Stored.{Gv, gnil, gnum, gcons, Coded, num}
use lib.Ieee.{Float, nan, inf, fin}
use Rattle.yaml_value.specs.PlainValue.{PlainValue, null, boolean, integer, float, text, sequence, mapping, tagged}
use Rattle.yaml_value.specs.PlainValue.{PlainItems, no_items, item, PlainPairs, no_pairs, pair}

-- a boolean as a number
abbrev bit : Bool → ℕ
bit true = 1
bit false = 0

-- a number as a boolean
abbrev unbit : ℕ → Bool
unbit zero = false
unbit (suc n) = true

-- a boolean is read back
unbit-bit : (b : Bool) → unbit (bit b) ≡ b
unbit-bit true = refl
unbit-bit false = refl

-- the first part of a code
abbrev head_of : Gv → Gv
head_of gnil = gnil
head_of (gnum n) = gnil
head_of (gcons a b) = a

-- the other parts of a code
abbrev tail_of : Gv → Gv
tail_of gnil = gnil
tail_of (gnum n) = gnil
tail_of (gcons a b) = b

-- the code of an integer
abbrev code_integer : ℤ → Gv
code_integer (pos n) = gcons (gnum 0) (gnum n)
code_integer (negsuc n) = gcons (gnum 1) (gnum n)

-- the integer of a sign and a number
abbrev with_sign : ℕ → ℕ → ℤ
with_sign zero n = pos n
with_sign (suc k) n = negsuc n

-- the integer of a code
abbrev read_integer : Gv → ℤ
read_integer g = with_sign (num (head_of g)) (num (tail_of g))

-- an integer is read back
read_integer-code_integer : (z : ℤ) → read_integer (code_integer z) ≡ z
read_integer-code_integer (pos n) = refl
read_integer-code_integer (negsuc n) = refl

-- the code of a float
abbrev code_float : Float → Gv
code_float nan = gnil
code_float (inf s) = gnum (bit s)
code_float (fin s m e) = gcons (gnum (bit s)) (gcons (gnum m) (code_integer e))

-- the float of a code
abbrev read_float : Gv → Float
read_float gnil = nan
read_float (gnum n) = inf (unbit n)
read_float (gcons a b) = fin (unbit (num a)) (num (head_of b)) (read_integer (tail_of b))

-- a float is read back
read_float-code_float : (x : Float) → read_float (code_float x) ≡ x
read_float-code_float nan = refl
read_float-code_float (inf s) = ap inf (unbit-bit s)
read_float-code_float (fin s m e) = λ i. fin (unbit-bit s i) m (read_integer-code_integer e i)

-- the code of a text
abbrev code_text : List ℕ → Gv
code_text [] = gnil
code_text (n ∷ ns) = gcons (gnum n) (code_text ns)

-- the text of a code
abbrev read_text : Gv → List ℕ
read_text gnil = []
read_text (gnum n) = []
read_text (gcons a b) = num a ∷ read_text b

-- a text is read back
read_text-code_text : (ns : List ℕ) → read_text (code_text ns) ≡ ns
read_text-code_text [] = refl
read_text-code_text (n ∷ ns) = ap (λ r. n ∷ r) (read_text-code_text ns)

abbrev mutual
  -- the code of a value: its kind, then its parts
  pub code_value : PlainValue → Gv
  code_value null = gnil
  code_value (boolean b) = gcons (gnum 0) (gnum (bit b))
  code_value (integer z) = gcons (gnum 1) (code_integer z)
  code_value (float x) = gcons (gnum 2) (code_float x)
  code_value (text s) = gcons (gnum 3) (code_text s)
  code_value (sequence vs) = gcons (gnum 4) (code_items vs)
  code_value (mapping ps) = gcons (gnum 5) (code_pairs ps)
  code_value (tagged s v) = gcons (gnum 6) (gcons (code_text s) (code_value v))

  -- the code of a list of values
  pub code_items : PlainItems → Gv
  code_items no_items = gnil
  code_items (item v vs) = gcons (code_value v) (code_items vs)

  -- the code of a list of pairs
  pub code_pairs : PlainPairs → Gv
  code_pairs no_pairs = gnil
  code_pairs (pair k v ps) = gcons (code_value k) (gcons (code_value v) (code_pairs ps))

-- what a code reads as: a value, a list of values and a list of pairs, and the same of its parts
pub record Read : Type 0 where
  pub as_value : PlainValue
  pub as_items : PlainItems
  pub as_pairs : PlainPairs
  pub first : PlainValue
  pub second : PlainValue
  pub rest : PlainPairs

-- the value of a kind and of the code of its parts, which is read already
abbrev value_of_kind : ℕ → Gv → Read → PlainValue
value_of_kind zero g r = boolean (unbit (num g))
value_of_kind (suc zero) g r = integer (read_integer g)
value_of_kind (suc (suc zero)) g r = float (read_float g)
value_of_kind (suc (suc (suc zero))) g r = text (read_text g)
value_of_kind (suc (suc (suc (suc zero)))) g r = sequence r.as_items
value_of_kind (suc (suc (suc (suc (suc zero))))) g r = mapping r.as_pairs
value_of_kind (suc (suc (suc (suc (suc (suc n)))))) g r = tagged (read_text (head_of g)) r.second

-- what a code without parts reads as
abbrev read_nothing : Read
read_nothing = record {
  as_value = null;
  as_items = no_items;
  as_pairs = no_pairs;
  first = null;
  second = null;
  rest = no_pairs;
}

-- what a code reads as
abbrev read : Gv → Read
read gnil = read_nothing
read (gnum n) = read_nothing
read (gcons a b) = record {
  as_value = value_of_kind (num a) b (read b);
  as_items = item (read a).as_value (read b).as_items;
  as_pairs = pair (read a).as_value (read b).first (read b).rest;
  first = (read a).as_value;
  second = (read b).as_value;
  rest = (read b).as_pairs;
}

mutual
  -- a value is read back
  read-code_value : (v : PlainValue) → (read (code_value v)).as_value ≡ v
  read-code_value null = refl
  read-code_value (boolean b) = ap boolean (unbit-bit b)
  read-code_value (integer z) = ap integer (read_integer-code_integer z)
  read-code_value (float x) = ap float (read_float-code_float x)
  read-code_value (text s) = ap text (read_text-code_text s)
  read-code_value (sequence vs) = ap sequence (read-code_items vs)
  read-code_value (mapping ps) = ap mapping (read-code_pairs ps)
  read-code_value (tagged s v) = λ i. tagged (read_text-code_text s i) (read-code_value v i)

  -- so is a list of values
  read-code_items : (vs : PlainItems) → (read (code_items vs)).as_items ≡ vs
  read-code_items no_items = refl
  read-code_items (item v vs) = λ i. item (read-code_value v i) (read-code_items vs i)

  -- so is a list of pairs
  read-code_pairs : (ps : PlainPairs) → (read (code_pairs ps)).as_pairs ≡ ps
  read-code_pairs no_pairs = refl
  read-code_pairs (pair k v ps) = λ i. pair (read-code_value k i) (read-code_value v i) (read-code_pairs ps i)

-- values with one code are one value
pub code_value-injective : (x y : PlainValue) → code_value x ≡ code_value y → x ≡ y
code_value-injective x y p = sym (read-code_value x) ∙ (ap (λ g. (read g).as_value) p ∙ read-code_value y)

-- so are lists of values
pub code_items-injective : (x y : PlainItems) → code_items x ≡ code_items y → x ≡ y
code_items-injective x y p = sym (read-code_items x) ∙ (ap (λ g. (read g).as_items) p ∙ read-code_items y)

-- and lists of pairs
pub code_pairs-injective : (x y : PlainPairs) → code_pairs x ≡ code_pairs y → x ≡ y
code_pairs-injective x y p = sym (read-code_pairs x) ∙ (ap (λ g. (read g).as_pairs) p ∙ read-code_pairs y)

-- values have a code
abbrev pub value_code : Coded PlainValue
value_code = record { code = code_value; inj = code_value-injective }

-- so do lists of values
abbrev pub items_code : Coded PlainItems
items_code = record { code = code_items; inj = code_items-injective }

-- and lists of pairs
abbrev pub pairs_code : Coded PlainPairs
pairs_code = record { code = code_pairs; inj = code_pairs-injective }
