-- An input has one reading: events and a fault, or a first bad line.
use Rattle.std.specs.Prelude.{Option, None, Some}
use Rattle.std.proofs.Common.{◌≡◌, ◌⊎◌, inl, inr, ℕ, ◌+◌, ◌<◌, ◌≤◌, List, [], ◌∷◌, ◌++◌, length, refl, sym, ap, ◌∙◌}
use Rattle.std.proofs.Common.{subst, arith}
use Rattle.std.proofs.lemmas.Bool.{cases_lt}
use Rattle.yaml_base.specs.Position.{Position}
use Rattle.yaml_base.specs.PlainEvent.{PlainEvent}
use Rattle.yaml_base.specs.PlainFault.{PlainFault}
use Rattle.yaml_lines.specs.InputText.{MarkedEvents, IsInput, IsFirstBadLine}
use Rattle.yaml_lines.specs.LineText.{Said, says_event, says_fault, IsLine}
use Rattle.yaml_lines.proofs.InputLaws.{head-same, tail-same, not_empty}
use Rattle.yaml_lines.proofs.LineLaws.{fault_or_event}
use Rattle.yaml_lines.proofs.OneReading.{IsLine-unique}

-- a line that says two events, or two faults, says the same one
marked-unique : (line : List ℕ) (e g : PlainEvent × Position) → IsLine line (says_event e.0 e.1)
    → IsLine line (says_event g.0 g.1) → e ≡ g
marked-unique line e g i j = ap said_event (IsLine-unique line (says_event e.0 e.1) (says_event g.0 g.1) i j) where
  said_event : Said → PlainEvent × Position
  said_event (says_event event mark) = (event, mark)
  said_event (says_fault fault) = e

fault-unique : (line : List ℕ) (a b : PlainFault) → IsLine line (says_fault a) → IsLine line (says_fault b) → a ≡ b
fault-unique line a b i j = ap said_fault (IsLine-unique line (says_fault a) (says_fault b) i j) where
  said_fault : Said → PlainFault
  said_fault (says_event event mark) = a
  said_fault (says_fault fault) = fault

-- lines are the input of one list of events and one fault
pub IsInput-unique : (lines : List (List ℕ)) (es es' : MarkedEvents) (f f' : Option PlainFault)
    → IsInput lines es f → IsInput lines es' f' → (es ≡ es') × (f ≡ f')
IsInput-unique lines [] [] None None i j = (refl, refl)
IsInput-unique lines [] [] None (Some b) i j = absurd (not_empty j.0 [] (sym i ∙ j.1))
IsInput-unique lines [] [] (Some a) None i j = absurd (not_empty i.0 [] (sym j ∙ i.1))
IsInput-unique lines [] [] (Some a) (Some b) i j =
    let same = head-same j.0 i.0 [] [] (sym j.1 ∙ i.1) in
    (refl, ap Some (fault-unique i.0 a b i.2 (subst (λ l. IsLine l (says_fault b)) same j.2)))
IsInput-unique lines [] (g ∷ es') None f' i j = absurd (not_empty j.0 j.1 (sym i ∙ j.2))
IsInput-unique lines [] (g ∷ es') (Some a) f' i j =
    let same = head-same j.0 i.0 j.1 [] (sym j.2 ∙ i.1) in
    absurd (fault_or_event i.0 a g.0 g.1 i.2 (subst (λ l. IsLine l (says_event g.0 g.1)) same j.3))
IsInput-unique lines (e ∷ es) [] f None i j = absurd (not_empty i.0 i.1 (sym j ∙ i.2))
IsInput-unique lines (e ∷ es) [] f (Some b) i j =
    let same = head-same i.0 j.0 i.1 [] (sym i.2 ∙ j.1) in
    absurd (fault_or_event j.0 b e.0 e.1 j.2 (subst (λ l. IsLine l (says_event e.0 e.1)) same i.3))
IsInput-unique lines (e ∷ es) (g ∷ es') f f' i j =
    let split = sym j.2 ∙ i.2 in
    let same = head-same j.0 i.0 j.1 i.1 split in
    let first = marked-unique i.0 e g i.3 (subst (λ l. IsLine l (says_event g.0 g.1)) same j.3) in
    let rest = IsInput-unique i.1 es es' f f' i.4 (subst (λ ls. IsInput ls es' f')
    (tail-same j.0 i.0 j.1 i.1 split) j.4) in
    (ap (λ x. x ∷ es) first ∙ ap (λ xs. g ∷ xs) rest.0, rest.1)

-- lines with one amid them are not none
not_none : (good rest : List (List ℕ)) (line : List ℕ) → good ++ line ∷ rest ≡ [] → ⊥
not_none [] rest line e = not_empty line rest (sym e)
not_none (x ∷ good) rest line e = not_empty x (good ++ line ∷ rest) (sym e)

-- the beginning of an input up to a line is an input
beginning : (good rest : List (List ℕ)) (line : List ℕ) (events : MarkedEvents) (fault : Option PlainFault)
    → IsInput (good ++ line ∷ rest) events fault
    → (es : MarkedEvents) × (f : Option PlainFault) × IsInput (good ++ line ∷ []) es f
beginning good rest line [] None i = absurd (not_none good rest line i)
beginning [] rest line [] (Some f) i =
    ([], Some f, (i.0, ap (λ l. l ∷ []) (head-same line i.0 rest [] i.1), i.2))
beginning (x ∷ good) rest line [] (Some f) i =
    absurd (not_none good rest line (tail-same x i.0 (good ++ line ∷ rest) [] i.1))
beginning [] rest line (e ∷ events) fault i =
    (e ∷ [], None, (i.0, [], ap (λ l. l ∷ []) (head-same line i.0 rest i.1 i.2), i.3, refl))
beginning (x ∷ good) rest line (e ∷ events) fault i =
    let found = beginning good rest line events fault
    (subst (λ ls. IsInput ls events fault) (sym (tail-same x i.0 (good ++ line ∷ rest) i.1 i.2)) i.4) in
    let same = head-same x i.0 (good ++ line ∷ rest) i.1 i.2 in
    (e ∷ found.0, found.1, (i.0, good ++ line ∷ [], ap (λ l. l ∷ (good ++ line ∷ [])) same, i.3, found.2))

-- an input has no bad line
pub no_bad_line : (lines : List (List ℕ)) (es : MarkedEvents) (f : Option PlainFault) (n : ℕ) → IsInput lines es f
    → ¬ (IsFirstBadLine lines n)
no_bad_line lines es f n i h =
    let found = beginning h.good h.others h.bad es f (subst (λ ls. IsInput ls es f) h.split i) in
    h.refused found.0 found.1 found.2

-- of two cuts at a line, the line of the shorter stands in the longer
shorter-cut : (good others good' others' : List (List ℕ)) (bad bad' : List ℕ)
    → good ++ bad ∷ others ≡ good' ++ bad' ∷ others'
    → length good < length good' → (rest : List (List ℕ)) × (good' ≡ good ++ bad ∷ rest)
shorter-cut good others [] others' bad bad' e l = absurd (omega (arith, l))
shorter-cut [] others (y ∷ good') others' bad bad' e l =
    (good', ap (λ x. x ∷ good') (sym (head-same bad y others (good' ++ bad' ∷ others') e)))
shorter-cut (x ∷ good) others (y ∷ good') others' bad bad' e l =
    let found = shorter-cut good others good' others' bad bad'
    (tail-same x y (good ++ bad ∷ others) (good' ++ bad' ∷ others') e) (omega (arith, l)) in (
      found.0,
      ap (λ z. z ∷ good') (sym (head-same x y (good ++ bad ∷ others) (good' ++ bad' ∷ others') e))
          ∙ ap (λ g. x ∷ g) found.1,
    )

-- no first bad line stands before another
not_before : (lines : List (List ℕ)) (m n : ℕ) (h : IsFirstBadLine lines m) (k : IsFirstBadLine lines n)
    → length h.good < length k.good → ⊥
not_before lines m n h k l =
    let cut = shorter-cut h.good h.others k.good k.others h.bad k.bad (sym h.split ∙ k.split) l in
    let found = beginning h.good cut.0 h.bad k.events k.fault
    (subst (λ ls. IsInput ls k.events k.fault) cut.1 k.before) in
    h.refused found.0 found.1 found.2

-- numbers of which none is below the other are the same
neither_below : (a b : ℕ) → (a < b) ⊎ (b ≤ a) → (b < a) ⊎ (a ≤ b) → (a < b → ⊥) → (b < a → ⊥) → a ≡ b
neither_below a b (inl l) o f g = absurd (f l)
neither_below a b (inr l) (inl m) f g = absurd (g m)
neither_below a b (inr l) (inr m) f g = omega (arith, l, m)

-- there is one first bad line
pub bad_line-unique : (lines : List (List ℕ)) (m n : ℕ) → IsFirstBadLine lines m → IsFirstBadLine lines n → m ≡ n
bad_line-unique lines m n h k =
    let a = length h.good in
    let b = length k.good in
    let same = neither_below a b (cases_lt a b) (cases_lt b a) (not_before lines m n h k) (not_before lines n m k h) in
    h.count ∙ (ap (λ c. c + 1) same ∙ sym k.count)
