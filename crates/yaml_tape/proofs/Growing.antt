-- What stands on a tape stays as texts and names are added behind those that are there.
use Rattle.std.proofs.Common.{ℕ, zero, suc, List, [], ◌∷◌, ◌++◌, ◌≡◌, ◌≤◌, ◌<◌, ◌-◌, ◌+◌}
use Rattle.std.proofs.Common.{length, add-one, length-append}
use Rattle.std.proofs.Common.{ap₂, true≢false, refl, ap, sym, ◌∙◌, subst, arith, Bool, true, false, take, drop}
use Rattle.std.proofs.Common.{length-drop, map, set, get_or, replicate}
use Rattle.std.specs.Prelude.{slice_range, slice_get, All, Option, Some, None, IsTrue}
use Rattle.std.proofs.lemmas.List.{drop-append-le, drop-map, take-append-le, map-append, append-nil, take_all, take-map}
use Rattle.std.proofs.lemmas.List.Elements.{All-append, All-cons, All-drop, All-take}
use Rattle.std.specs.List.{insert}
use Rattle.std.proofs.Math.Seq.{map-set_same, drop-append_seam}
use Rattle.yaml_base.specs.PlainEvent.{PlainEvent}
use Rattle.yaml_base.specs.Position.{Position}
use Rattle.yaml_tape.specs.OnTape.{names_at, kept_in, text_on, event_by, marked_by, marked_of, IsInside, position_at}
use Rattle.yaml_tape.specs.OnTape.{bound_event, is_bound, starts}
use Rattle.yaml_tape.specs.declared.entry.Entry.{Entry}
use Rattle.yaml_tape.specs.declared.entry.EntryKind.{EntryKind}
use Rattle.yaml_tape.specs.declared.entry.EntryKind.TheVariants as kind
use Rattle.yaml_tape.specs.declared.entry.Names.{Names}

range_grows : (xs ys : List ℕ) (i j : ℕ) → i ≤ j → j ≤ length xs → slice_range (xs ++ ys) i j ≡ slice_range xs i j
range_grows xs ys i j le h =
    ap (take (j - i)) (drop-append-le i xs ys (omega (arith, le, h)))
    ∙ take-append-le (j - i) (drop i xs) ys (rw (length-drop i xs) (omega (arith, le, h)))

get_grows : (xs ys : List Names) (k : ℕ) → suc k ≤ length xs → slice_get (xs ++ ys) k ≡ slice_get xs k
get_grows [] ys k h = absurd (omega (arith, h))
get_grows (x ∷ xs) ys zero h = refl
get_grows (x ∷ xs) ys (suc k) h = get_grows xs ys k (omega (arith, h))

names_grow : (xs ys : List Names) (k : ℕ) → k ≤ length xs → names_at (xs ++ ys) k ≡ names_at xs k
names_grow xs ys zero h = refl
names_grow xs ys (suc k) h = get_grows xs ys k h

kept_grows : (text arena more : List ℕ) (stored : Bool) (i j : ℕ) → i ≤ j → j ≤ length (kept_in text arena stored)
    → slice_range (kept_in text (arena ++ more) stored) i j ≡ slice_range (kept_in text arena stored) i j
kept_grows text arena more true i j le h = range_grows arena more i j le h
kept_grows text arena more false i j le h = refl

-- the event of an entry stays
pub event_grows : (k : EntryKind) (text arena more : List ℕ) (names others : List Names) (e : Entry)
    → IsInside text arena names e
    → event_by k text (arena ++ more) (names ++ others) e ≡ event_by k text arena names e
event_grows kind.Scalar text arena more names others e h =
    rw (names_grow names others e.names h.named)
    (rw (kept_grows text arena more e.stored e.from e.to h.forward h.within) refl)
event_grows kind.Alias text arena more names others e h = rw (names_grow names others e.names h.named) refl
event_grows kind.SequenceStart text arena more names others e h = rw (names_grow names others e.names h.named) refl
event_grows kind.MappingStart text arena more names others e h = rw (names_grow names others e.names h.named) refl
event_grows kind.StreamStart text arena more names others e h = refl
event_grows kind.StreamEnd text arena more names others e h = refl
event_grows kind.DocumentStart text arena more names others e h = refl
event_grows kind.DocumentEnd text arena more names others e h = refl
event_grows kind.SequenceEnd text arena more names others e h = refl
event_grows kind.MappingEnd text arena more names others e h = refl

-- the events stay
pub marked_grow : (text arena more : List ℕ) (names others : List Names) (es : List Entry)
    → All (IsInside text arena names) es
    → marked_of text (arena ++ more) (names ++ others) es ≡ marked_of text arena names es
marked_grow text arena more names others [] h = refl
marked_grow text arena more names others (e ∷ es) h =
    rw (event_grows e.kind text arena more names others e (h 0 e (omega arith)))
    (ap (λ xs. marked_by text arena names e ∷ xs)
    (marked_grow text arena more names others es (λ k d lt. h (suc k) d (omega (arith, lt)))))

length_kept : (text arena more : List ℕ) (stored : Bool)
    → length (kept_in text arena stored) ≤ length (kept_in text (arena ++ more) stored)
length_kept text arena more true = rw (length-append arena more) (omega arith)
length_kept text arena more false = omega arith

inside_one : (text arena more : List ℕ) (names others : List Names) (e : Entry) → IsInside text arena names e
    → IsInside text (arena ++ more) (names ++ others) e
inside_one text arena more names others e h = record {
  index = h.index;
  forward = h.forward;
  within = omega (arith, h.within, length_kept text arena more e.stored);
  named = rw (length-append names others) (omega (arith, h.named));
}

-- what lay within lies within
pub inside_grow : (text arena more : List ℕ) (names others : List Names) (es : List Entry)
    → All (IsInside text arena names) es
    → All (IsInside text (arena ++ more) (names ++ others)) es
inside_grow text arena more names others es h k d lt =
    inside_one text arena more names others (get_or es k d) (h k d lt)

-- one entry more
pub pushed : (text arena : List ℕ) (names : List Names) (es : List Entry) (e : Entry)
    → marked_of text arena names (es ++ e ∷ []) ≡ marked_of text arena names es ++ marked_by text arena names e ∷ []
pushed text arena names es e = map-append (marked_by text arena names) es (e ∷ [])

all_one : (text arena : List ℕ) (names : List Names) (e : Entry) → IsInside text arena names e
    → (k : ℕ) (d : Entry) → k < 1 → IsInside text arena names (get_or (e ∷ []) k d)
all_one text arena names e i zero d lt = i
all_one text arena names e i (suc k) d lt = absurd (omega (arith, lt))

pub inside_pushed : (text arena : List ℕ) (names : List Names) (es : List Entry) (e : Entry)
    → All (IsInside text arena names) es → IsInside text arena names e → All (IsInside text arena names) (es ++ e ∷ [])
inside_pushed text arena names es e h i =
    All-append (IsInside text arena names) es (e ∷ []) h (all_one text arena names e i)

-- the event of a bound
pub of_bound : (k : EntryKind) (text arena : List ℕ) (names : List Names) (e : Entry) → IsTrue (is_bound k)
    → event_by k text arena names e ≡ bound_event k
of_bound kind.StreamStart text arena names e h = refl
of_bound kind.StreamEnd text arena names e h = refl
of_bound kind.DocumentStart text arena names e h = refl
of_bound kind.DocumentEnd text arena names e h = refl
of_bound kind.SequenceEnd text arena names e h = refl
of_bound kind.MappingEnd text arena names e h = refl
of_bound kind.Alias text arena names e h = absurd (true≢false (sym h))
of_bound kind.Scalar text arena names e h = absurd (true≢false (sym h))
of_bound kind.SequenceStart text arena names e h = absurd (true≢false (sym h))
of_bound kind.MappingStart text arena names e h = absurd (true≢false (sym h))

-- texts alone, or names alone, are added
pub marked_stay : (text arena more : List ℕ) (names : List Names) (es : List Entry)
    → All (IsInside text arena names) es → marked_of text (arena ++ more) names es ≡ marked_of text arena names es
marked_stay text arena more names es h =
    subst (λ n. marked_of text (arena ++ more) n es ≡ marked_of text arena names es) (append-nil names)
    (marked_grow text arena more names [] es h)

pub inside_stay : (text arena more : List ℕ) (names : List Names) (es : List Entry)
    → All (IsInside text arena names) es → All (IsInside text (arena ++ more) names) es
inside_stay text arena more names es h =
    subst (λ n. All (IsInside text (arena ++ more) n) es) (append-nil names) (inside_grow text arena more names [] es h)

pub marked_named : (text arena : List ℕ) (names others : List Names) (es : List Entry)
    → All (IsInside text arena names) es → marked_of text arena (names ++ others) es ≡ marked_of text arena names es
marked_named text arena names others es h =
    subst (λ a. marked_of text a (names ++ others) es ≡ marked_of text arena names es) (append-nil arena)
    (marked_grow text arena [] names others es h)

pub inside_named : (text arena : List ℕ) (names others : List Names) (es : List Entry)
    → All (IsInside text arena names) es → All (IsInside text arena (names ++ others)) es
inside_named text arena names others es h =
    subst (λ a. All (IsInside text a (names ++ others)) es) (append-nil arena)
    (inside_grow text arena [] names others es h)

-- what was added is where it was added
pub range_behind : (xs ys : List ℕ) (j : ℕ) → j ≡ length xs + length ys → slice_range (xs ++ ys) (length xs) j ≡ ys
range_behind xs ys j h =
    rw h (rw (drop-append_seam xs ys) (take_all (length xs + length ys - length xs) ys (omega arith)))

pub filled : (xs : List ℕ) (n y : ℕ)
    → take (length xs + n) xs ++ replicate (length xs + n - length xs) y ≡ xs ++ replicate n y
filled xs n y =
    let rest : length xs + n - length xs ≡ n = omega arith in
    rw rest (rw (take_all (length xs + n) xs (omega arith)) refl)

get_behind : (xs : List Names) (x : Names) → slice_get (xs ++ x ∷ []) (length xs) ≡ Some x
get_behind [] x = refl
get_behind (y ∷ xs) x = get_behind xs x

pub names_behind : (xs : List Names) (x : Names) (id : ℕ) → id ≡ length xs + 1
    → names_at (xs ++ x ∷ []) id ≡ Some x
names_behind xs x id h =
    let e : suc (length xs) ≡ id = omega (arith, h) in
    subst (λ k. names_at (xs ++ x ∷ []) k ≡ Some x) e (get_behind xs x)

-- where a collection ends is in no event
closed_event : (k : EntryKind) (text arena : List ℕ) (names : List Names) (e : Entry) (end : ℕ) → starts k ≡ true
    → event_by k text arena names (record e { end = end }) ≡ event_by k text arena names e
closed_event kind.SequenceStart text arena names e end h = refl
closed_event kind.MappingStart text arena names e end h = refl
closed_event kind.Alias text arena names e end h = refl
closed_event kind.StreamStart text arena names e end h = refl
closed_event kind.StreamEnd text arena names e end h = refl
closed_event kind.DocumentStart text arena names e end h = refl
closed_event kind.DocumentEnd text arena names e end h = refl
closed_event kind.SequenceEnd text arena names e end h = refl
closed_event kind.MappingEnd text arena names e end h = refl
closed_event kind.Scalar text arena names e end h = absurd (true≢false (sym h))

pub closed : (text arena : List ℕ) (names : List Names) (es : List Entry) (i : ℕ) (d : Entry) (end : ℕ)
    → starts (get_or es i d).kind ≡ true
    → marked_of text arena names (set es i (record (get_or es i d) { end = end })) ≡ marked_of text arena names es
closed text arena names es i d end h =
    map-set_same (marked_by text arena names) es i (record (get_or es i d) { end = end }) d
    (ap (λ x. (x, position_at text (get_or es i d).index (get_or es i d).late))
    (closed_event (get_or es i d).kind text arena names (get_or es i d) end h))

-- so many events of the first
pub cut : (text arena : List ℕ) (names : List Names) (es : List Entry) (count : ℕ)
    → marked_of text arena names (take count es) ≡ take count (marked_of text arena names es)
cut text arena names es count = sym (take-map (marked_by text arena names) count es)

pub inside_cut : (text arena : List ℕ) (names : List Names) (es : List Entry) (count : ℕ)
    → All (IsInside text arena names) es → All (IsInside text arena names) (take count es)
inside_cut text arena names es count h = All-take (IsInside text arena names) count es h

-- an entry between others
pub inserted : (text arena : List ℕ) (names : List Names) (es : List Entry) (i : ℕ) (e : Entry)
    → marked_of text arena names (insert es i e)
    ≡ insert (marked_of text arena names es) i (marked_by text arena names e)
inserted text arena names es i e =
    let f : Entry → PlainEvent × Position = marked_by text arena names in
    map-append f (take i es) (e ∷ drop i es)
    ∙ ap₂ (λ p q. p ++ f e ∷ q) (sym (take-map f i es)) (sym (drop-map f i es))

pub inside_inserted : (text arena : List ℕ) (names : List Names) (es : List Entry) (i : ℕ) (e : Entry)
    → All (IsInside text arena names) es → IsInside text arena names e → All (IsInside text arena names) (insert es i e)
inside_inserted text arena names es i e h n =
    let P : Entry → Type 0 = IsInside text arena names in
    All-append P (take i es) (e ∷ drop i es) (All-take P i es h) (All-cons P e (drop i es) n (All-drop P i es h))
