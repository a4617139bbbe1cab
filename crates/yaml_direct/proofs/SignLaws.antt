-- The sign and the digit of a block's first line.
use Rattle.std.proofs.Common.{ℕ, ◌+◌, ◌-◌, ◌≤◌, ◌≡◌, ◌≢◌, ◌==◌, ◌||◌, Bool, true, false, List, Option, Some, None}
use Rattle.std.proofs.Common.{refl, sym}
use Rattle.std.proofs.Common.{ap, ap₂, ◌∙◌, arith, drop, length}
use Rattle.std.specs.Int.{is_in_range}
use Rattle.std.specs.Prelude.{if◌then◌else◌}
use Rattle.std.proofs.lemmas.List.{get_or-drop}
use Rattle.yaml_direct.specs.Bytes.{at}
use Rattle.yaml_direct.specs.BlockHeads.{ReadsSigns, chomping_as}
use Rattle.yaml_direct.specs.declared.header.Signs.{Signs}
use Rattle.yaml_grammar.specs.BlockTexts.{Chomping, Header, chomping_of, clip, header_of, is_sign, is_step, keep}
use Rattle.yaml_grammar.specs.BlockTexts.{step_of, strip}

-- by the first two bytes
abbrev signs : (c d : ℕ) → Header
signs c d =
    if is_sign c then record { chomping = chomping_of c; step = step_of d; size = if is_step d then 2 else 1 }
    else if is_step c then record { chomping = chomping_of d; step = step_of c; size = if is_sign d then 2 else 1 }
    else record { chomping = clip; step = 0; size = 0 }

here : (text : List ℕ) (from c d : ℕ) → c ≡ at text from → d ≡ at text (from + 1)
    → header_of (drop from text) ≡ signs c d
here text from c d e f =
    let same : from + 0 ≡ from = omega arith in
    ap₂ signs (get_or-drop from text 0 0 ∙ (ap (at text) same ∙ sym e)) (get_or-drop from text 1 0 ∙ sym f)

reads : (text : List ℕ) (from c d : ℕ) (s : Signs) (h : Header) → c ≡ at text from → d ≡ at text (from + 1)
    → signs c d ≡ h → chomping_as s.chomping ≡ h.chomping → s.step ≡ h.step → s.end ≡ from + h.size
    → s.end ≤ length text → ReadsSigns text from s
reads text from c d s h e f same chomping step there within =
    let all = here text from c d e f ∙ same in
    record {
      chomping = chomping ∙ ap (λ x. x.chomping) (sym all);
      step = step ∙ ap (λ x. x.step) (sym all);
      there = there ∙ ap (λ x. from + x.size) (sym all);
      within = within;
    }

-- a sign was found, or none
abbrev Found : ℕ → Option Chomping → Type 0
Found c found = found ≡ (if is_sign c then Some (chomping_of c) else None)

record IsSign (c : ℕ) (x : Chomping) : Type 0 where
  sign : is_sign c ≡ true
  same : x ≡ chomping_of c

sign_by : (c : ℕ) (x : Chomping) (b : Bool) → is_sign c ≡ b → Found c (Some x) → IsSign c x
sign_by c x true e f = let g : ◌≡◌ {A = Option Chomping} (Some x) (Some
    (chomping_of c)) = rw e at f in record { sign = e; same = cc }
sign_by c x false e f = let g : ◌≡◌ {A = Option Chomping} (Some x) None = rw e at f in absurd cc

none_by : (c : ℕ) (b : Bool) → is_sign c ≡ b → Found c None → is_sign c ≡ false
none_by c true e f = let g : ◌≡◌ {A = Option Chomping} None (Some (chomping_of c)) = rw e at f in absurd cc
none_by c false e f = e

no_sign : (c : ℕ) → is_sign c ≡ false → chomping_of c ≡ clip
no_sign c e = by_two (c == 45) (c == 43) e
  where
    by_two : (a b : Bool) → (a || b) ≡ false → (if a then strip else if b then keep else clip) ≡ clip
    by_two true b e = absurd cc
    by_two false true e = absurd cc
    by_two false false e = refl

step_is : (c : ℕ) (b : Bool) → is_step c ≡ b → step_of c ≢ 0 → is_step c ≡ true
step_is c true e some = e
step_is c false e some = absurd (some (rw e refl))

above : (c : ℕ) → is_in_range 49 57 c ≡ true → c - 48 ≢ 0
above c e = grind (arith, e)

step_none : (c : ℕ) (b : Bool) → is_step c ≡ b → step_of c ≡ 0 → is_step c ≡ false
step_none c true e none = absurd (above c e (rw e at none))
step_none c false e none = e

pub sign_alone : (text : List ℕ) (from c d : ℕ) (s : Signs) → c ≡ at text from → d ≡ at text (from + 1)
    → Found c (Some (chomping_as s.chomping)) → s.step ≡ step_of d → s.step ≡ 0 → s.end ≡ from + 1
    → s.end ≤ length text → ReadsSigns text from s
sign_alone text from c d s e f found step none there within =
    let sign = sign_by c (chomping_as s.chomping) (is_sign c) refl found in
    let none_here = step_none d (is_step d) refl (sym step ∙ none) in
    reads text from c d s (record { chomping = chomping_of c; step = step_of d; size = 1 }) e f (rw
    (sign.sign, none_here) refl)
    sign.same step there within

pub sign_and_digit : (text : List ℕ) (from c d : ℕ) (s : Signs) → c ≡ at text from → d ≡ at text (from + 1)
    → Found c (Some (chomping_as s.chomping)) → s.step ≡ step_of d → s.step ≢ 0 → s.end ≡ from + 2
    → s.end ≤ length text → ReadsSigns text from s
sign_and_digit text from c d s e f found step some there within =
    let sign = sign_by c (chomping_as s.chomping) (is_sign c) refl found in
    let digit = step_is d (is_step d) refl (λ z. some (step ∙ z)) in
    reads text from c d s (record { chomping = chomping_of c; step = step_of d; size = 2 }) e f (rw
    (sign.sign, digit) refl)
    sign.same step there within

pub no_signs : (text : List ℕ) (from c : ℕ) (s : Signs) → c ≡ at text from → Found c None → s.step ≡ step_of c
    → s.step ≡ 0 → chomping_as s.chomping ≡ clip → s.end ≡ from → s.end ≤ length text → ReadsSigns text from s
no_signs text from c s e found step none chomping there within =
    let sign = none_by c (is_sign c) refl found in
    let digit = step_none c (is_step c) refl (sym step ∙ none) in
    let same : from ≡ from + 0 = omega arith in
    reads text from c (at text (from + 1)) s (record { chomping = clip; step = 0; size = 0 }) e refl (rw
    (sign, digit) refl)
    chomping none (there ∙ same) within

pub digit_and_sign : (text : List ℕ) (from c d : ℕ) (s : Signs) → c ≡ at text from → d ≡ at text (from + 1)
    → Found c None → s.step ≡ step_of c → s.step ≢ 0 → Found d (Some (chomping_as s.chomping)) → s.end ≡ from + 2
    → s.end ≤ length text → ReadsSigns text from s
digit_and_sign text from c d s e f found step some second there within =
    let sign = none_by c (is_sign c) refl found in
    let digit = step_is c (is_step c) refl (λ z. some (step ∙ z)) in
    let other = sign_by d (chomping_as s.chomping) (is_sign d) refl second in
    reads text from c d s (record { chomping = chomping_of d; step = step_of c; size = 2 }) e f
    (rw (sign, digit, other.sign) refl) other.same step there within

pub digit_alone : (text : List ℕ) (from c d : ℕ) (s : Signs) → c ≡ at text from → d ≡ at text (from + 1)
    → Found c None → s.step ≡ step_of c → s.step ≢ 0 → Found d None → chomping_as s.chomping ≡ clip
    → s.end ≡ from + 1 → s.end ≤ length text → ReadsSigns text from s
digit_alone text from c d s e f found step some second chomping there within =
    let sign = none_by c (is_sign c) refl found in
    let digit = step_is c (is_step c) refl (λ z. some (step ∙ z)) in
    let other = none_by d (is_sign d) refl second in
    reads text from c d s (record { chomping = chomping_of d; step = step_of c; size = 1 }) e f
    (rw (sign, digit, other) refl) (chomping ∙ sym (no_sign d other)) step there within
