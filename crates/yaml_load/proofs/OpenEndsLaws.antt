-- The numbers of open collections are filled in as their events go by.
use Rattle.std.specs.Prelude.{◌≡◌, ◌+◌, ◌<◌, ◌≤◌, ◌∷◌, ◌++◌, ◌==◌, ◌&&◌}
use Rattle.std.proofs.lemmas.List.Elements.{All-pop, All-rest}
use Rattle.std.proofs.lemmas.List.Sorted.{All-permutation, IsPermutation-reverse}
use Rattle.yaml_load.proofs.Words.{ℕ, zero, suc, List, [], map, length, set, reverse, min, true, false, refl, sym, ◌∙◌}
use Rattle.yaml_load.proofs.Words.{ap, arith, append-nil, append_assoc, length-set, get_or, set-append_seam}
use Rattle.yaml_load.proofs.Words.{reverse-append, Some, end_place, ends_from, ends_of, is_closing, is_opening}
use Rattle.yaml_load.proofs.Words.{PlainDocEvent, EndsView, HasNumbers, bounded_from, numbers_ended, Bool, inner_after}
use Rattle.yaml_load.proofs.Words.{sequence_ends, mapping_ends, All, length-append, ne_eqb, set-append_left, All-tail}
use Rattle.yaml_load.proofs.Words.{sequence_begins, mapping_begins}

-- the starts lie within the numbers
abbrev pub AreIn : List ℕ → List ℕ → Type 0
AreIn numbers starts = All (λ s. s < length numbers) starts

pub in_set : (numbers starts : List ℕ) (at n : ℕ) → AreIn numbers starts → AreIn (set numbers at n) starts
in_set numbers starts at n h k d l = let i = h k d l in omega (arith, length-set numbers at n)

-- a number that is put behind stays there
filled_push : (starts : List ℕ) (inner place : ℕ) (later : List PlainDocEvent) (numbers : List ℕ) (n : ℕ)
    → AreIn numbers starts
    → numbers_ended starts inner place later (numbers ++ n ∷ []) ≡ numbers_ended starts inner place later numbers
    ++ n ∷ []
filled_push [] inner place later numbers n h = refl
filled_push (s ∷ starts) inner place later numbers n h =
    let v = end_place inner place later in
    let first = h 0 s (omega arith) in
    ap (numbers_ended starts (inner + 1) place later) (set-append_left numbers (n ∷ []) s v first)
    ∙ filled_push starts (inner + 1) place later (set numbers s v) n
    (in_set numbers starts s v (All-tail (λ (x : ℕ). x < length numbers) s starts h))

-- no event begins one collection and ends another
opens_alone : (e : PlainDocEvent) → is_opening e ≡ true → is_closing e ≡ false
opens_alone (sequence_begins t) h = refl
opens_alone (mapping_begins t) h = refl
opens_alone _ h = absurd cc

-- an event that ends none of the open collections leads on by one place
deeper : (e : PlainDocEvent) (inner : ℕ) → (is_closing e && (inner == 0)) ≡ false
    → inner_after e (inner + 1) ≡ inner_after e inner + 1
deeper sequence_ends zero h = absurd cc
deeper sequence_ends (suc inner) h = omega arith
deeper mapping_ends zero h = absurd cc
deeper mapping_ends (suc inner) h = omega arith
deeper _ inner h = refl

stays_open : (b : Bool) (inner : ℕ) → (b && (inner + 1 == 0)) ≡ false
stays_open true inner = ne_eqb (inner + 1) 0 (λ h. omega arith)
stays_open false inner = refl

filled_next : (e : PlainDocEvent) (later : List PlainDocEvent) (starts : List ℕ) (inner place : ℕ)
    (numbers : List ℕ) → (is_closing e && (inner == 0)) ≡ false
    → numbers_ended starts inner place (e ∷ later) numbers
    ≡ numbers_ended starts (inner_after e inner) (place + 1) later numbers
filled_next e later [] inner place numbers h = refl
filled_next e later (s ∷ starts) inner place numbers h =
    let v = end_place (inner_after e inner) (place + 1) later in
    rw h
    (filled_next e later starts (inner + 1) place (set numbers s v) (stays_open (is_closing e) inner)
    ∙ ap (λ i. numbers_ended starts i (place + 1) later (set numbers s v)) (deeper e inner h))

pub one_longer : {X : Type 0} (xs : List X) (x : X) → length (xs ++ x ∷ []) ≡ length xs + 1
one_longer xs x = length-append xs (x ∷ [])

-- where nothing comes later, it does not matter how many collections are open within
filled_at_end : (starts : List ℕ) (inner other place : ℕ) (numbers : List ℕ)
    → numbers_ended starts inner place [] numbers ≡ numbers_ended starts other place [] numbers
filled_at_end [] inner other place numbers = refl
filled_at_end (s ∷ starts) inner other place numbers =
    filled_at_end starts (inner + 1) (other + 1) place (set numbers s place)

module _ {front : List ℕ} {seen : List PlainDocEvent} {old : EndsView} (h : HasNumbers front seen old)
    (e : PlainDocEvent) where
  abbrev size : ℕ
  size = length seen

  longer : (numbers : List ℕ) (n : ℕ) → length numbers ≡ length old.numbers
      → length (numbers ++ n ∷ []) ≡ length front + length (seen ++ e ∷ [])
  longer numbers n l = omega (arith, l, h.long, one_longer numbers n, one_longer seen e)

  in_reverse : AreIn old.numbers old.unended → AreIn old.numbers (reverse old.unended)
  in_reverse = All-permutation (λ (s : ℕ). s < length old.numbers) _ _ (IsPermutation-reverse old.unended)

  -- the numbers behind one event more
  abbrev Counted : List ℕ → List ℕ → Type 0
  Counted numbers starts = (later : List PlainDocEvent)
      → numbers_ended starts 0 (size + 1) later numbers ++ ends_from (size + 1) later ≡ front
      ++ ends_of (seen ++ e ∷ later)

  made : (new : EndsView) (numbers unended : List ℕ) → new.numbers ≡ numbers → new.unended ≡ unended
      → length numbers ≡ length front + length (seen ++ e ∷ []) → Counted numbers (reverse unended)
      → HasNumbers front (seen ++ e ∷ []) new
  made new numbers unended n u l c = record {
    long = ap length n ∙ l;
    all = λ later. rw (n, u, one_longer seen e, append_assoc seen (e ∷ []) later) (c later);
  }

  pub passes : (new : EndsView) (place : ℕ) → place ≡ size → is_opening e ≡ false → is_closing e ≡ false
      → AreIn old.numbers old.unended
      → new.numbers ≡ old.numbers ++ place ∷ [] → new.unended ≡ old.unended → HasNumbers front (seen ++ e ∷ []) new
  passes new place p o c within n u =
      let inside = in_reverse within in
      made new (old.numbers ++ size ∷ []) old.unended (rw p at n) u (longer old.numbers size refl)
      (λ later.
      let next = rw (o, c) at (filled_next e later (reverse old.unended) 0 size old.numbers (rw c)) in
      rw (filled_push, append_assoc, ← next) (rw o at (h.all (e ∷ later))))

  pub begins : (new : EndsView) (place : ℕ) → place ≡ size → is_opening e ≡ true → AreIn old.numbers old.unended
      → new.numbers ≡ old.numbers ++ place ∷ [] → new.unended ≡ old.unended ++ length old.numbers ∷ []
      → HasNumbers front (seen ++ e ∷ []) new
  begins new place p o within n u =
      let inside = in_reverse within in
      made new (old.numbers ++ size ∷ []) (old.unended ++ length old.numbers ∷ []) (rw p at n) u
      (longer old.numbers size refl)
      (λ later.
      let v = end_place 0 (size + 1) later in
      let all : numbers_ended (reverse old.unended) 1 (size + 1) later
      (set (old.numbers ++ size ∷ []) (length old.numbers) v)
      ++ ends_from (size + 1) later ≡ front ++ ends_of (seen ++ e ∷ later) =
      let next = rw o at (filled_next e later (reverse old.unended) 0 size old.numbers (rw (opens_alone e o))) in
      rw (set-append_seam old.numbers size [] v, filled_push, append_assoc, ← next) (rw o at (h.all (e ∷ later))) in
      rw reverse-append all)

  pub ends : (new : EndsView) (place start : ℕ) (rest : List ℕ) → place ≡ size → is_opening e ≡ false
      → is_closing e ≡ true → AreIn old.numbers old.unended → old.unended ≡ rest ++ start ∷ []
      → new.numbers ≡ set old.numbers start place ++ place ∷ [] → new.unended ≡ rest
      → HasNumbers front (seen ++ e ∷ []) new
  ends new place start rest p o c within was n u =
      let numbers = set old.numbers start size in
      let turned : reverse old.unended ≡ start ∷ reverse rest = ap reverse was ∙ reverse-append rest (start ∷ []) in
      let inside = All-rest (λ (s : ℕ). s < length old.numbers) start (reverse rest) _ turned (in_reverse within) in
      let still = in_set old.numbers (reverse rest) start size inside in
      made new (numbers ++ size ∷ []) rest (rw p at n) u (longer numbers size (length-set old.numbers start size))
      (λ later.
      let all : numbers_ended (reverse rest) 1 size (e ∷ later) (set old.numbers start (end_place 0 size (e ∷ later)))
      ++ size ∷ ends_from (size + 1) later ≡ front ++ ends_of (seen ++ e ∷ later) =
      rw (turned, o) at (h.all (e ∷ later)) in
      let next = rw (o, c) at (filled_next e later (reverse rest) 1 size numbers (rw c)) in
      rw (filled_push, append_assoc, ← next) (rw c at all))

  -- a stray end, where nothing is open
  pub stray_ends : (new : EndsView) (place : ℕ) → place ≡ size → is_opening e ≡ false → old.unended ≡ []
      → new.numbers ≡ old.numbers ++ place ∷ [] → new.unended ≡ [] → HasNumbers front (seen ++ e ∷ []) new
  stray_ends new place p o was n u =
      made new (old.numbers ++ size ∷ []) [] (rw p at n) u (longer old.numbers size refl)
      (λ later. rw append_assoc (rw (was, o) at (h.all (e ∷ later))))

-- one open collection more is ended
pub finish_more : (old new rest : List ℕ) (start place : ℕ) (numbers set_ all : List ℕ) → old ≡ rest ++ start ∷ [] → new
    ≡ rest
    → set_ ≡ set numbers start place → numbers_ended (reverse old) 0 place [] numbers ≡ all
    → numbers_ended (reverse new) 0 place [] set_ ≡ all
finish_more old new rest start place numbers set_ all was is s found =
    rw (is, s, filled_at_end (reverse rest) 0 1 place (set numbers start place))
    (rw (was, reverse-append rest (start ∷ [])) at found)

-- and then the numbers are those of the events
pub finished : (front : List ℕ) (seen : List PlainDocEvent) (old : EndsView) (place : ℕ) (unended numbers : List ℕ)
    → HasNumbers front seen old → place ≡ length seen → unended ≡ []
    → numbers_ended (reverse unended) 0 place [] numbers ≡ numbers_ended (reverse old.unended) 0 place [] old.numbers
    → numbers ≡ front ++ ends_of seen
finished front seen old place unended numbers h p u found =
    ap (λ us. numbers_ended (reverse us) 0 place [] numbers) (sym u) ∙ found
    ∙ ap (λ n. numbers_ended (reverse old.unended) 0 n [] old.numbers) p
    ∙ sym (append-nil (numbers_ended (reverse old.unended) 0 (length seen) [] old.numbers))
    ∙ h.all [] ∙ ap (λ es. front ++ ends_of es) (append-nil seen)

-- before the first event
pub none_seen : (front : List ℕ) (ends_ : EndsView) → ends_.numbers ≡ front → ends_.unended ≡ []
    → HasNumbers front [] ends_
none_seen front ends_ n u = record {
  long = omega (arith, ap length n);
  all = λ later. rw (u, n);
}

-- the last start, and those in front of it, lie within the numbers
pub last_in : (numbers rest unended : List ℕ) (start : ℕ) → unended ≡ rest ++ start ∷ [] → AreIn numbers unended
    → AreIn numbers rest × (start < length numbers)
last_in numbers rest unended start is h = All-pop (λ (s : ℕ). s < length numbers) unended rest (Some start) is h

-- a number is bounded, and those behind it
pub bounded_more : (bound at : ℕ) (numbers : List ℕ) (n d : ℕ) → at < length numbers → n
    ≡ min (get_or numbers at d) bound
    → bounded_from bound (at + 1) (set numbers at n) ≡ bounded_from bound at numbers
bounded_more bound at [] n d l is = absurd (omega arith)
bounded_more bound zero (x ∷ numbers) n d l is = let e : n ≡ min bound x = omega (arith, is) in
    ap (λ m. m ∷ map (min bound) numbers) e
bounded_more bound (suc at) (x ∷ numbers) n d l is =
    let e : suc at + 1 ≡ suc (at + 1) = omega arith in
    ap (λ k. bounded_from bound k (x ∷ set numbers at n)) e
    ∙ ap (λ ns. x ∷ ns) (bounded_more bound at numbers n d (omega arith) is)

-- and then all are
pub bounded_all : (bound at : ℕ) (numbers : List ℕ) → length numbers ≤ at → bounded_from bound at numbers ≡ numbers
bounded_all bound zero [] l = refl
bounded_all bound zero (x ∷ numbers) l = absurd (omega arith)
bounded_all bound (suc at) [] l = refl
bounded_all bound (suc at) (x ∷ numbers) l = ap (λ ns. x ∷ ns) (bounded_all bound at numbers (omega arith))

-- where no collection is open, the numbers are those of the events
pub none_open : (front : List ℕ) (seen : List PlainDocEvent) (ends_ : EndsView) → HasNumbers front seen ends_
    → ends_.unended ≡ []
    → ends_.numbers ≡ front ++ ends_of seen
none_open front seen ends_ h u = finished front seen ends_ (length seen) ends_.unended ends_.numbers h refl u refl
