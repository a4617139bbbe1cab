-- What the lines of an input say, line by line.
use Rattle.std.specs.Prelude.{Option, None, Some, is_some, true, false}
use Rattle.std.specs.List.{onto_first}
use Rattle.std.proofs.Common.{◌≡◌, ℕ, ◌+◌, ◌<◌, List, [], ◌∷◌, ◌++◌, length, refl, sym, ap, ◌∙◌, subst, get_or, drop}
use Rattle.std.proofs.Common.{arith, append_assoc, length-append}
use Rattle.std.proofs.lemmas.Bool.{ne_eqb, false≢true}
use Rattle.yaml_base.specs.Position.{Position}
use Rattle.yaml_base.specs.PlainEvent.{PlainEvent, event_of}
use Rattle.yaml_base.specs.declared.event.Event.{Event}
use Rattle.yaml_base.specs.declared.mark.Mark.{Mark}
use Rattle.yaml_base.specs.PlainFault.{PlainFault}
use Rattle.yaml_lines.specs.Escape.{Lacks}
use Rattle.yaml_lines.specs.InputText.{lines_of, MarkedEvents, IsInput, IsFirstBadLine, marked_events_of}
use Rattle.yaml_lines.specs.LineText.{Said, says_event, says_fault, IsLine}
use Rattle.yaml_lines.proofs.CutLaws.{lacks-head, lacks-tail}
use Rattle.yaml_lines.proofs.LineLaws.{fault_or_event}

-- a line with its line feed
pub lines_of-cut : (line rest : List ℕ) → Lacks line 10 → lines_of (line ++ 10 ∷ rest) ≡ line ∷ lines_of rest
lines_of-cut [] rest l = refl
lines_of-cut (x ∷ line) rest l =
    rw (ne_eqb x 10 (lacks-head 10 x line l), lines_of-cut line rest (lacks-tail 10 x line l)) refl

-- the last line, which lacks it
pub lines_of-whole : (line : List ℕ) → Lacks line 10 → 0 < length line → lines_of line ≡ line ∷ []
lines_of-whole [] l h = absurd (omega arith)
lines_of-whole (x ∷ []) l h = rw (ne_eqb x 10 (lacks-head 10 x [] l)) refl
lines_of-whole (x ∷ y ∷ line) l h =
    rw (ne_eqb x 10 (lacks-head 10 x (y ∷ line) l))
    (ap (onto_first x) (lines_of-whole (y ∷ line) (lacks-tail 10 x (y ∷ line) l) (omega arith)))

-- the heads and the tails of equal lists are equal
pub head-same : {X : Type 0} (x y : X) (xs ys : List X) → x ∷ xs ≡ y ∷ ys → x ≡ y
head-same x y xs ys e = ap (λ l. get_or l 0 x) e

pub tail-same : {X : Type 0} (x y : X) (xs ys : List X) → x ∷ xs ≡ y ∷ ys → xs ≡ ys
tail-same x y xs ys e = ap (drop 1) e

-- a list with an element is not empty, and one with two is not one with one
pushed_some : {X : Type 0} (xs : List X) (x : X) → xs ++ x ∷ [] ≡ [] → ⊥
pushed_some xs x e = let l : length (xs ++ x ∷ []) ≡ 0 = ap length e in omega (arith, length-append xs (x ∷ []))

pub not_empty : {X : Type 0} (x : X) (xs : List X) → [] ≡ x ∷ xs → ⊥
not_empty x xs e = let l : 0 ≡ length (x ∷ xs) = ap length e in omega arith

pushed_two : {X : Type 0} (x y z : X) (xs : List X) → x ∷ (xs ++ y ∷ []) ≡ z ∷ [] → ⊥
pushed_two x y z xs e = pushed_some xs y (tail-same x z (xs ++ y ∷ []) [] e)

-- the last line says something
pub last_taken : (good : List (List ℕ)) (line : List ℕ) (events : MarkedEvents) (fault : Option PlainFault)
    → IsInput (good ++ line ∷ []) events fault
    → (said : Said) × IsLine line said
last_taken good line [] None i = absurd (pushed_some good line i)
last_taken [] line [] (Some f) i =
    (says_fault f, subst (λ t. IsLine t (says_fault f)) (sym (head-same line i.0 [] [] i.1)) i.2)
last_taken (x ∷ good) line [] (Some f) i = absurd (pushed_two x line i.0 good i.1)
last_taken [] line (e ∷ events) fault i =
    (says_event e.0 e.1, subst (λ t. IsLine t (says_event e.0 e.1)) (sym (head-same line i.0 [] i.1 i.2)) i.3)
last_taken (x ∷ good) line (e ∷ events) fault i =
    last_taken good line events fault (subst (λ ls. IsInput ls events fault)
    (sym (tail-same x i.0 (good ++ line ∷ []) i.1 i.2)) i.4)

-- nothing stands behind a fault
pub after_fault : (good : List (List ℕ)) (line : List ℕ) (known events : MarkedEvents) (f : PlainFault)
    (fault : Option PlainFault)
    → IsInput good known (Some f) → IsInput (good ++ line ∷ []) events fault → ⊥
after_fault good line known [] f None i j = pushed_some good line j
after_fault [] line [] events f fault i j = not_empty i.0 [] i.1
after_fault (x ∷ good) line [] [] f (Some g) i j = pushed_two x line j.0 good j.1
after_fault (x ∷ good) line [] (e ∷ events) f fault i j =
    fault_or_event x f e.0 e.1 (subst (λ t. IsLine t (says_fault f)) (sym (head-same x i.0 good [] i.1)) i.2)
    (subst (λ t. IsLine t (says_event e.0 e.1)) (sym (head-same x j.0 (good ++ line ∷ []) j.1 j.2)) j.3)
after_fault [] line (k ∷ known) events f fault i j = not_empty i.0 i.1 i.2
after_fault (x ∷ good) line (k ∷ known) [] f (Some g) i j = pushed_two x line j.0 good j.1
after_fault (x ∷ good) line (k ∷ known) (e ∷ events) f fault i j =
    after_fault good line known events f fault
    (subst (λ ls. IsInput ls known (Some f)) (sym (tail-same x i.0 good i.1 i.2)) i.4)
    (subst (λ ls. IsInput ls events fault) (sym (tail-same x j.0 (good ++ line ∷ []) j.1 j.2)) j.4)

-- one event more
push_event : (good : List (List ℕ)) (line : List ℕ) (events : MarkedEvents) (e : PlainEvent × Position)
    → IsInput good events None → IsLine line (says_event e.0 e.1)
    → IsInput (good ++ line ∷ []) (events ++ e ∷ []) None
push_event good line [] e i t = (line, [], ap (λ ls. ls ++ line ∷ []) i, t, refl)
push_event good line (k ∷ events) e i t =
    (i.0, i.1 ++ line ∷ [], ap (λ ls. ls ++ line ∷ []) i.2, i.3, push_event i.1 line events e i.4 t)

-- the fault
push_fault : (good : List (List ℕ)) (line : List ℕ) (events : MarkedEvents) (f : PlainFault) → IsInput good events None
    → IsLine line (says_fault f)
    → IsInput (good ++ line ∷ []) events (Some f)
push_fault good line [] f i t = (line, ap (λ ls. ls ++ line ∷ []) i, t)
push_fault good line (k ∷ events) f i t =
    (i.0, i.1 ++ line ∷ [], ap (λ ls. ls ++ line ∷ []) i.2, i.3, push_fault i.1 line events f i.4 t)

-- so many lines are read, which say this, and the rest is to come
pub record HasRead (lines : List (List ℕ)) (number : ℕ) (events : MarkedEvents) (fault : Option PlainFault)
    (rest : List (List ℕ)) : Type 0 where
  pub good : List (List ℕ)
  pub split : lines ≡ good ++ rest
  pub count : number ≡ length good
  pub is_input : IsInput good events fault

-- at the start
pub read_nothing : (lines : List (List ℕ)) → HasRead lines 0 [] None lines
read_nothing lines = record { good = []; split = refl; count = refl; is_input = refl }

-- one more line
split_more : (lines good rest more : List (List ℕ)) (line : List ℕ) → lines ≡ good ++ rest → rest ≡ line ∷ more
    → lines ≡ (good ++ line ∷ []) ++ more
split_more lines good rest more line e f = e ∙ (ap (λ ls. good ++ ls) f ∙ sym (append_assoc good (line ∷ []) more))

-- one event more is read
pub read_event : (lines rest more : List (List ℕ)) (number : ℕ) (events : MarkedEvents) (fault : Option PlainFault)
    (line : List ℕ) (e : PlainEvent × Position)
    → is_some fault ≡ false → HasRead lines number events fault rest → rest ≡ line ∷ more
    → IsLine line (says_event e.0 e.1)
    → HasRead lines (number + 1) (events ++ e ∷ []) fault more
read_event lines rest more number events (Some f) line e is h r t = absurd (false≢true (sym is))
read_event lines rest more number events None line e is h r t = record {
  good = h.good ++ line ∷ [];
  split = split_more lines h.good rest more line h.split r;
  count = let c = h.count in omega (arith, length-append h.good (line ∷ []));
  is_input = push_event h.good line events e h.is_input t;
}

-- the fault is read
pub read_fault : (lines rest more : List (List ℕ)) (number : ℕ) (events : MarkedEvents) (fault : Option PlainFault)
    (line : List ℕ) (f : PlainFault)
    → is_some fault ≡ false → HasRead lines number events fault rest → rest ≡ line ∷ more → IsLine line (says_fault f)
    → HasRead lines (number + 1) events (Some f) more
read_fault lines rest more number events (Some g) line f is h r t = absurd (false≢true (sym is))
read_fault lines rest more number events None line f is h r t = record {
  good = h.good ++ line ∷ [];
  split = split_more lines h.good rest more line h.split r;
  count = let c = h.count in omega (arith, length-append h.good (line ∷ []));
  is_input = push_fault h.good line events f h.is_input t;
}

-- the next line is bad where it says nothing
pub bad_line : (lines rest more : List (List ℕ)) (number : ℕ) (events : MarkedEvents) (fault : Option PlainFault)
    (line : List ℕ)
    → HasRead lines number events fault rest → rest ≡ line ∷ more → ((said : Said) → ¬ (IsLine line said))
    → IsFirstBadLine lines (number + 1)
bad_line lines rest more number events fault line h r none = record {
  good = h.good;
  bad = line;
  others = more;
  events = events;
  fault = fault;
  split = h.split ∙ ap (λ ls. h.good ++ ls) r;
  count = ap (λ n. n + 1) h.count;
  before = h.is_input;
  refused = λ es f i. let t = last_taken h.good line es f i in none t.0 t.1;
}

-- or where a fault was read
pub bad_after_fault : (lines rest more : List (List ℕ)) (number : ℕ) (events : MarkedEvents)
    (fault : Option PlainFault) (line : List ℕ)
    → is_some fault ≡ true → HasRead lines number events fault rest → rest ≡ line ∷ more
    → IsFirstBadLine lines (number + 1)
bad_after_fault lines rest more number events None line is h r = absurd (false≢true is)
bad_after_fault lines rest more number events (Some f) line is h r = record {
  good = h.good;
  bad = line;
  others = more;
  events = events;
  fault = Some f;
  split = h.split ∙ ap (λ ls. h.good ++ ls) r;
  count = ap (λ n. n + 1) h.count;
  before = h.is_input;
  refused = λ es g i. after_fault h.good line events es f g h.is_input i;
}

-- the plain events with one more
pub marked_events_of-push : (xs : List (Event × Mark)) (e : Event × Mark)
    → marked_events_of (xs ++ e ∷ []) ≡ marked_events_of xs ++ (event_of e.0, e.1) ∷ []
marked_events_of-push [] e = refl
marked_events_of-push (x ∷ xs) e = ap (λ es. (event_of x.0, x.1) ∷ es) (marked_events_of-push xs e)
