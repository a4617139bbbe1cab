-- Each character is the next of the text.
use Rattle.std.proofs.Common.{◌≡◌, ℕ, ◌+◌, ◌<◌, ◌≤◌, List, length, get_or, drop, sym, ap, ◌∙◌, arith, Bool, true}
use Rattle.std.proofs.Common.{false, if◌then◌else◌}
use Rattle.std.proofs.Common.{Some, None, Ok, Err, rules}
use Rattle.std.proofs.lemmas.Iterator.{YieldsList-from_chars}
use Rattle.std.proofs.lemmas.List.{at_drop_more, at_drop_all, length_push}
use Rattle.std.proofs.lemmas.Iterator.Consumers.{YieldsList-turn, YieldsList-end}
use Rattle.std.specs.Str.{chars}
use Rattle.yaml_query.specs.PathText.{next, or_fault, perform, PlainReading, read_from, steps_at_end}
use Rattle.yaml_query.specs.PathText.{then_read}
use Rattle.yaml_query.specs.Reading.{plain_reading}
use Rattle.yaml_query.specs.Steps.{PlainStep}
use Rattle.yaml_query.specs.declared.reading.Act.{Act}
use Rattle.yaml_query.specs.declared.reading.Place.{Place}
use Rattle.yaml_query.proofs.parse.parse_path.Goals as goal

-- what is left, by its first character
turn : (column : ℕ) (p : Place) (r : PlainReading) (cs : List ℕ) (n c : ℕ) → (n < length cs) × (c ≡ get_or cs n c)
    → read_from column p r (drop n cs) ≡ then_read column (next p c)
    (λ m. then_read column (perform m.1 c r) (λ s. read_from (column + 1) m.0 s (drop (n + 1) cs)))
turn column p r cs n c h =
    at_drop_more (read_from column p r) cs n c h.0
    ∙ ap (λ x. then_read column (next p x) (λ m. then_read column (perform m.1 x r) (λ s. read_from (column + 1) m.0
    s (drop (n + 1) cs))))
    (sym h.1)

refused : (column : ℕ) (p : Place) (r : PlainReading) (cs : List ℕ) (n c : ℕ) → (n < length cs) × (c ≡ get_or cs n c)
    → next p c ≡ None → read_from column p r (drop n cs) ≡ Err column
refused column p r cs n c h e =
    turn column p r cs n c h
    ∙ ap (λ o. then_read column o (λ m. then_read column (perform m.1 c r) (λ s. read_from (column + 1) m.0 s (drop
    (n + 1) cs)))) e

begun : (column : ℕ) (p q : Place) (a : Act) (r : PlainReading) (cs : List ℕ) (n c : ℕ)
    → (n < length cs) × (c ≡ get_or cs n c) → next p c ≡ Some (q, a)
    → read_from column p r (drop n cs)
    ≡ then_read column (perform a c r) (λ s. read_from (column + 1) q s (drop (n + 1) cs))
begun column p q a r cs n c h e =
    turn column p r cs n c h
    ∙ ap (λ o. then_read column o (λ m. then_read column (perform m.1 c r) (λ s. read_from (column + 1) m.0 s (drop
    (n + 1) cs)))) e

undone : (column : ℕ) (p q : Place) (a : Act) (r s : PlainReading) (cs : List ℕ) (n c : ℕ) (b : Bool)
    → (n < length cs) × (c ≡ get_or cs n c) → next p c ≡ Some (q, a)
    → perform a c r ≡ (if b then Some s else None) → b ≡ false → read_from column p r (drop n cs) ≡ Err column
undone column p q a r s cs n c true h e f is = absurd (cc)
undone column p q a r s cs n c false h e f is =
    begun column p q a r cs n c h e
    ∙ ap (λ o. then_read column o (λ s. read_from (column + 1) q s (drop (n + 1) cs))) f

gone_on : (column : ℕ) (p q : Place) (a : Act) (r s : PlainReading) (cs : List ℕ) (n c : ℕ) (b : Bool)
    → (n < length cs) × (c ≡ get_or cs n c) → next p c ≡ Some (q, a)
    → perform a c r ≡ (if b then Some s else None) → b ≡ true
    → read_from column p r (drop n cs) ≡ read_from (column + 1) q s (drop (n + 1) cs)
gone_on column p q a r s cs n c false h e f is = absurd (cc)
gone_on column p q a r s cs n c true h e f is =
    begun column p q a r cs n c h e
    ∙ ap (λ o. then_read column o (λ s. read_from (column + 1) q s (drop (n + 1) cs))) f

ended : (column : ℕ) (p : Place) (r : PlainReading) (cs : List ℕ) (n : ℕ) (b : Bool) (ss : List PlainStep)
    → length cs ≤ n → steps_at_end p r ≡ (if b then Some ss else None)
    → read_from column p r (drop n cs) ≡ or_fault column (if b then Some ss else None)
ended column p r cs n b ss h e = at_drop_all (read_from column p r) cs n h ∙ ap (or_fault column) e

fault_at : (column : ℕ) (b : Bool) (ss : List PlainStep) → b ≡ false
    → or_fault column (if b then Some ss else None) ≡ Err column
fault_at column b ss e = ap (λ x. or_fault column (if x then Some ss else None)) e

found_at : (column : ℕ) (b : Bool) (ss : List PlainStep) → b ≡ true
    → or_fault column (if b then Some ss else None) ≡ Ok ss
found_at column b ss e = ap (λ x. or_fault column (if x then Some ss else None)) e

pub returns-in_default-clause-fault : goal.returns-in_default-clause-fault
returns-in_default-clause-fault c =
    let t = YieldsList-turn (YieldsList-from_chars c.args.text.now c.utf8.text cc) c.loop-c.yielded _
    c.loop-c.yielded_by _ _ c.in-Some.c c.in-Some.is c.next.ensures.steps in
    let none : next c.loop-c.place c.in-Some.c ≡ None = cc in
    sym c.loop-c.invariant.1 ∙ refused _ _ _ _ _ _ t none

pub returns-then-not-branch-clause-fault : goal.returns-then-not-branch-clause-fault
returns-then-not-branch-clause-fault c =
    let t = YieldsList-turn (YieldsList-from_chars c.args.text.now c.utf8.text cc) c.loop-c.yielded _
    c.loop-c.yielded_by _ _ c.in-Some.c c.in-Some.is c.next.ensures.steps in
    let some : next c.loop-c.place c.in-Some.c ≡ Some (c.in-Some-next.behind, c.in-Some-next.act) = cc in
    let off : c.in_ok-perform.field-0 ≡ false = search rules in
    sym c.loop-c.invariant.1 ∙ undone _ _ _ _ _ _ _ _ _ c.in_ok-perform.field-0 t some c.in_ok-perform.ensures off

pub loop-c-preserved : goal.loop-c-preserved
loop-c-preserved c =
    let t = YieldsList-turn (YieldsList-from_chars c.args.text.now c.utf8.text cc) c.loop-c.yielded _
    c.loop-c.yielded_by _ _ c.in-Some.c c.in-Some.is c.next.ensures.steps in
    let some : next c.loop-c.place c.in-Some.c ≡ Some (c.in-Some-next.behind, c.in-Some-next.act) = cc in
    let on : c.in_ok-perform.field-0 ≡ true = search rules in
    let n = length_push c.loop-c.yielded c.in-Some.c in
    let more = gone_on c.loop-c.column _ _ _ _ _ _ _ _ c.in_ok-perform.field-0 t some c.in_ok-perform.ensures on in (
      omega arith,
      ap (λ k. read_from (c.loop-c.column + 1) c.in-Some-next.behind (plain_reading c.perform.new.self) (drop k
          (chars c.args.text.now))) n
          ∙ (sym more ∙ c.loop-c.invariant.1),
    )

pub returns-then-not-branch-2-clause-fault : goal.returns-then-not-branch-2-clause-fault
returns-then-not-branch-2-clause-fault c =
    let t = YieldsList-end (YieldsList-from_chars c.args.text.now c.utf8.text cc) c.loop-c.yielded _
    c.loop-c.yielded_by _ _ c.in-None.is c.next.ensures.steps in
    let off : c.in_ok-finish.field-0 ≡ false = search rules in
    let le : length (chars c.args.text.now) ≤ length c.loop-c.yielded = omega (arith, t) in
    sym c.loop-c.invariant.1 ∙ (ended _ _ _ _ _ _ _ le c.in_ok-finish.ensures ∙ fault_at _ _ _ off)

pub returns-clause-path : goal.returns-clause-path
returns-clause-path c =
    let t = YieldsList-end (YieldsList-from_chars c.args.text.now c.utf8.text cc) c.loop-c.yielded _
    c.loop-c.yielded_by _ _ c.in-None.is c.next.ensures.steps in
    let on : c.in_ok-finish.field-0 ≡ true = search rules in
    let le : length (chars c.args.text.now) ≤ length c.loop-c.yielded = omega (arith, t) in
    sym c.loop-c.invariant.1 ∙ (ended _ _ _ _ _ _ _ le c.in_ok-finish.ensures ∙ found_at _ _ _ on)
