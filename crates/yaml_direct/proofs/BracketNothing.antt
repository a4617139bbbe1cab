-- Where nothing stands in brackets.
use Rattle.std.proofs.Common.{ℕ, suc, ◌+◌, ◌-◌, ◌≤◌, ◌≡◌, ◌≢◌, ◌⊎◌, ◌==◌, ◌&&◌, ◌||◌, not, Bool, true, false, List, Some}
use Rattle.std.proofs.Common.{None, refl, sym, subst, ap, ◌∙◌, arith, inl, inr, codes, drop, length, []}
use Rattle.std.proofs.lemmas.Bool.{and_left, and_parts, eqb-true, false≢true, leb-true, or_cases}
use Rattle.std.proofs.lemmas.List.{get_or-drop, get_or_past}
use Rattle.std.specs.Prelude.{Option, nat_eq, nat_le}
use Rattle.yaml_direct.specs.InBrackets.{opens}
use Rattle.yaml_direct.specs.LeftInBrackets.{HasNothing, IsCutOff, LeavesParts, ends_names, ends_part}
use Rattle.yaml_direct.specs.Tokens.{HasNoToken}
use Rattle.yaml_direct.specs.declared.flow.Slot.TheVariants.{Entry, Item}
use Rattle.yaml_direct.proofs.AddedLeaves.{no_plain, none_leaf}
use Rattle.yaml_direct.proofs.BracketLeft.{none_left}
use Rattle.yaml_direct.proofs.BracketMisses.{no_node}
use Rattle.yaml_direct.proofs.NextLaws.{bytes_are}
use Rattle.yaml_grammar.specs.Brackets.{Brackets, curly, square}
use Rattle.yaml_grammar.specs.Bytes.{at, column, is_gap, is_indicator, is_one_of, is_over, is_triple, parts_documents}
use Rattle.yaml_grammar.specs.Gaps.{next}
use Rattle.yaml_grammar.specs.Leaves.{leaf_at}
use Rattle.yaml_grammar.specs.Names.{Names, count_while, names_at, one_name, unnamed}
use Rattle.yaml_grammar.specs.Nodes.{Marked, Node}
use Rattle.yaml_grammar.specs.Plain.{in_brackets, is_safe}
use Rattle.yaml_reading.specs.BracketReader.{brackets_at}
use Rattle.yaml_reading.specs.Readers.{Read}
use Rattle.std.specs.Prelude.{option_and_then}
use Rattle.yaml_reading.proofs.Begins.{no_leaf_at, stays, wanders}
use Rattle.yaml_reading.proofs.BracketComplete.{brackets_of}
use Rattle.yaml_reading.proofs.BracketSound.{brackets_sound}
use Rattle.yaml_reading.proofs.Options.{no_some}

-- a byte that ends no part and is no `:`
pub record IsNoEnd (text : List ℕ) (k : ℕ) : Type 0 where
  pub part : ends_part (at text k) ≡ false
  pub colon : (at text k == 58) ≡ false

pub end_none : (text : List ℕ) (k c : ℕ) → at text k ≡ c → ends_part c ≡ false → (c == 58) ≡ false → IsNoEnd text k
end_none text k c e part colon = record { part = ap ends_part e ∙ part; colon = ap (λ x. x == 58) e ∙ colon }

pub cut_by : (text : List ℕ) (i e : ℕ) → IsNoEnd text (next text e) → IsCutOff text i e
cut_by text i e n = record { part = n.part; key = and_left (at text (next text e) == 58) _ n.colon }

first_of : (text : List ℕ) (k : ℕ) → at (drop k text) 0 ≡ at text k
first_of text k = let same : k + 0 ≡ k = omega arith in get_or-drop k text 0 0 ∙ ap (at text) same

-- the byte where documents are parted
pub parts_byte : (text : List ℕ) (k : ℕ) → parts_documents text k ≡ true → (at text k ≡ 45) ⊎ (at text k ≡ 46)
parts_byte text k both =
    elim (or_cases (is_triple 45 (drop k text)) _ (and_parts (column text k == 0) _ both).1) [
      | inl dashes ↦ inl (sym (first_of text k) ∙ eqb-true (at (drop k text) 0) 45 (and_parts _ _ dashes).0)
      | inr dots ↦ inr (sym (first_of text k) ∙ eqb-true (at (drop k text) 0) 46 (and_parts _ _ dots).0)
    ]

-- and where one is over
pub over_byte : (text : List ℕ) (k : ℕ) → is_over text k ≡ true
    → (at text k ≡ 0) ⊎ ((parts_documents text k ≡ true) × ((at text k ≡ 45) ⊎ (at text k ≡ 46)))
over_byte text k over =
    elim (or_cases (nat_le (length text) k) _ over) [
      | inl past ↦ inl (get_or_past text k 0 (leb-true (length text) k past))
      | inr both ↦ inr (both, parts_byte text k both)
    ]

over_end : (text : List ℕ) (k : ℕ) → is_over text k ≡ true → IsNoEnd text k
over_end text k over = elim (over_byte text k over) [
  | inl e ↦ end_none text k 0 e refl refl
  | inr h ↦ elim h.1 [ inl e ↦ end_none text k 45 e refl refl | inr e ↦ end_none text k 46 e refl refl ]
]

-- there no leaf begins
parted_plain : (x y p : Bool) (z : Bool) → p ≡ true → (x && (y && (not p && z))) ≡ false
parted_plain true true true z e = refl
parted_plain true false true z e = refl
parted_plain false y true z e = refl
parted_plain x y false z e = absurd (false≢true e)

over_leaf : (text : List ℕ) (k : ℕ) → is_over text k ≡ true → leaf_at text in_brackets k ≡ None
over_leaf text k over = elim (over_byte text k over) [
  | inl e ↦ no_leaf_at text in_brackets k 0 e refl
  | inr h ↦ elim h.1 [
    | inl e ↦ by_byte 45 e (λ f. omega (arith, f)) (λ f. omega (arith, f)) (λ f. omega (arith, f)) h.0
    | inr e ↦ by_byte 46 e (λ f. omega (arith, f)) (λ f. omega (arith, f)) (λ f. omega (arith, f)) h.0
  ]
]
  where
    by_byte : (c : ℕ) → at text k ≡ c → c ≢ 42 → c ≢ 39 → c ≢ 34 → parts_documents text k ≡ true
        → leaf_at text in_brackets k ≡ None
    by_byte c e star single double parts =
        no_plain text in_brackets k (λ f. star (sym e ∙ f)) (λ f. single (sym e ∙ f)) (λ f. double (sym e ∙ f))
        (parted_plain (not (is_gap (at text k))) (not (is_indicator (at text k))) (parts_documents text k)
        (not (is_one_of (codes "-?:") (at text k)) || is_safe true (at text k) (at text (k + 1))) parts)

over_stays : (text : List ℕ) (k : ℕ) → is_over text k ≡ true
    → (wanders (at text k) ≡ false) × (opens (at text k) ≡ false)
over_stays text k over = elim (over_byte text k over) [
  | inl e ↦ (ap wanders e, ap opens e)
  | inr h ↦ elim h.1 [ inl e ↦ (ap wanders e, ap opens e) | inr e ↦ (ap wanders e, ap opens e) ]
]

pub over_nothing : (text : List ℕ) (k : ℕ) → is_over text k ≡ true → HasNothing text k
over_nothing text k over =
    let b = over_stays text k over in
    let s = stays text k b.0 in
    record {
      node = none_left text k (no_node text k k unnamed (s.names true)
          (none_leaf text in_brackets unnamed (next text k)
          (ap (leaf_at text in_brackets) s.here ∙ over_leaf text k over))
          (ap (λ q. opens (at text q)) s.here ∙ b.1) (inr refl));
      part = (over_end text k over).part;
    }

-- nor does anything where `#` begins no comment
sharp_name : (text : List ℕ) (k : ℕ) → at text k ≡ 35 → one_name text true (unnamed, k) ≡ Some (unnamed, k)
sharp_name text k e =
    let none : count_while (nat_eq 32) (drop k text) ≡ 0 = ap (count_while (nat_eq 32)) (bytes_are text k 34 e) in
    let here : k + count_while (nat_eq 32) (drop k text) ≡ k = omega (arith, none) in
    let answer : Option (Names × ℕ) = Some (unnamed, k) in
    rw (here, e) (refl {a = answer})

pub sharp_nothing : (text : List ℕ) (k : ℕ) → at text k ≡ 35 → next text k ≡ k → HasNothing text k
sharp_nothing text k e here =
    let names : names_at text true k ≡ Some (unnamed, k) =
    ap (option_and_then (one_name text true)) (sharp_name text k e) ∙ sharp_name text k e in
    record {
      node = none_left text k (no_node text k k unnamed names
          (none_leaf text in_brackets unnamed (next text k)
          (ap (leaf_at text in_brackets) here ∙ no_leaf_at text in_brackets k 35 e refl))
          (ap (λ q. opens (at text q)) here ∙ ap opens e) (inr refl));
      part = ap ends_part e;
    }

-- behind what no token of brackets follows
pub gap_nothing : (text : List ℕ) (from : ℕ) → HasNoToken text from ⊎ (is_over text (next text from) ≡ true)
    → HasNothing text (next text from)
gap_nothing text from (inl n) =
    subst (λ k. HasNothing text k) (sym n.here) (sharp_nothing text from n.sharp n.here)
gap_nothing text from (inr over) = over_nothing text (next text from) over

pub gap_end : (text : List ℕ) (from : ℕ) → HasNoToken text from ⊎ (is_over text (next text from) ≡ true)
    → IsNoEnd text (next text from)
gap_end text from (inl n) = end_none text (next text from) 35 (ap (at text) n.here ∙ n.sharp) refl refl
gap_end text from (inr over) = over_end text (next text from) over

-- and nothing is a leaf there, nor begins a collection
pub gap_shut : (text : List ℕ) (from : ℕ) → HasNoToken text from ⊎ (is_over text (next text from) ≡ true)
    → (leaf_at text in_brackets (next text from) ≡ None) × ((opens (at text (next text from)) ≡ false)
    × (ends_names (at text (next text from)) ≡ false))
gap_shut text from (inl n) =
    let e = ap (at text) n.here ∙ n.sharp in
    (no_leaf_at text in_brackets (next text from) 35 e refl, (ap opens e, ap ends_names e))
gap_shut text from (inr over) =
    let k = next text from in (
      over_leaf text k over,
      (
        (over_stays text k over).1,
        elim (over_byte text k over) [
          | inl e ↦ ap ends_names e
          | inr h ↦ elim h.1 [ inl e ↦ ap ends_names e | inr e ↦ ap ends_names e ]
        ],
      ),
    )

-- a collection whose parts are none
less_one : (d : ℕ) → suc d - 1 ≡ d
less_one d = omega arith

pub no_square : (text : List ℕ) (d k i j : ℕ) (names : Names) (n : Node) → at text k ≡ 91
    → LeavesParts text Item (d - 1) (next text (k + 1)) → Brackets text d i names k j n → ⊥
no_square text d k i j names n byte left (square {d = c} {e = e} {ns = ns} o items) =
    let one : k + 1 ≡ suc k = omega arith in
    subst (λ q. LeavesParts text Item c (next text q)) one
    (subst (λ m. LeavesParts text Item m (next text (k + 1))) (less_one c) left) e ns items
no_square text d k i j names n byte left (curly o entries) = absurd (omega (arith, byte, o))

pub no_curly : (text : List ℕ) (d k i j : ℕ) (names : Names) (n : Node) → at text k ≡ 123
    → LeavesParts text Entry (d - 1) (next text (k + 1)) → Brackets text d i names k j n → ⊥
no_curly text d k i j names n byte left (curly {d = c} {e = e} {ps = ps} o entries) =
    let one : k + 1 ≡ suc k = omega arith in
    subst (λ q. LeavesParts text Entry c (next text q)) one
    (subst (λ m. LeavesParts text Entry m (next text (k + 1))) (less_one c) left) e ps entries
no_curly text d k i j names n byte left (square o items) = absurd (omega (arith, byte, o))

-- what does not stand is not read, and what is not read does not stand
pub brackets_none : (text : List ℕ) (d k : ℕ) → ((i j : ℕ) (names : Names) (n : Node) → Brackets text d i names k j n → ⊥)
    → (names : Names) (i : ℕ) (es : List Marked) → ◌≡◌ {A = Read} (brackets_at text d names i es k) None
brackets_none text d k none names i es = by_answer (brackets_at text d names i es k) refl
  where
    by_answer : (r : Read) → brackets_at text d names i es k ≡ r → ◌≡◌ {A = Read} (brackets_at text d names i es k) None
    by_answer None h = h
    by_answer (Some x) h =
        let s = brackets_sound text d names i es k x.0 x.1 h in absurd (none i x.1 names s.n s.stands)

pub none_brackets : (text : List ℕ) (d k : ℕ)
    → ((names : Names) (i : ℕ) (es : List Marked) → ◌≡◌ {A = Read} (brackets_at text d names i es k) None)
    → (i j : ℕ) (names : Names) (n : Node) → Brackets text d i names k j n → ⊥
none_brackets text d k none i j names n b =
    let le : d ≤ d = omega arith in
    no_some _ (sym (none names i []) ∙ brackets_of text b d le [])
