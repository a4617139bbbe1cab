-- Where collections end.
use Rattle.std.proofs.Common.{ℕ, zero, suc, List, [], ◌∷◌, ◌++◌, ◌≡◌, ◌≤◌, ◌<◌, ◌∙◌, ap, arith}
use Rattle.std.proofs.Common.{get_or, is_some, length, refl, set, subst, sym, true, false, true≢false}
use Rattle.std.specs.Prelude.{slice_get, IsTrue, Option, None, Some}
use Rattle.yaml_tape.specs.OnTape.{is_bound, starts}
use Rattle.yaml_tape.specs.Pushes.{EndsAt}
use Rattle.yaml_tape.specs.declared.entry.Entry.{Entry}
use Rattle.yaml_tape.specs.declared.entry.EntryKind.{EntryKind}
use Rattle.yaml_tape.specs.declared.entry.EntryKind.TheVariants as kind

-- the start of a collection that was given its end says so
set_there : (es : List Entry) (i : ℕ) (x : Entry) → i < length es → slice_get (set es i x) i ≡ Some x
set_there [] i x lt = absurd (omega (arith, lt))
set_there (e ∷ es) zero x lt = refl
set_there (e ∷ es) (suc i) x lt = set_there es i x (omega (arith, lt))

abbrev or_given : Entry → Option Entry → Entry
or_given d None = d
or_given d (Some e) = e

some_same : (x y : Entry) → Some x ≡ Some y → x ≡ y
some_same x y h = ap (or_given x) h

not_some : (e : Entry) (o : Option Entry) → o ≡ None → o ≡ Some e → ⊥
not_some e o none some = true≢false (sym (ap is_some some) ∙ ap is_some none)

pub ends_here : (es : List Entry) (i end : ℕ) (x : Entry) → i < length es → x.end ≡ end → EndsAt (set es i x) i end
ends_here es i end x lt h e there begins =
    subst (λ y. y.end ≡ end) (some_same x e (sym (set_there es i x lt) ∙ there)) h

-- what begins no collection says nothing
get_there : (es : List Entry) (i : ℕ) (d : Entry) → i < length es → slice_get es i ≡ Some (get_or es i d)
get_there [] i d lt = absurd (omega (arith, lt))
get_there (e ∷ es) zero d lt = refl
get_there (e ∷ es) (suc i) d lt = get_there es i d (omega (arith, lt))

pub ends_not : (es : List Entry) (i end : ℕ) (d : Entry) → i < length es → starts (get_or es i d).kind ≡ false
    → EndsAt es i end
ends_not es i end d lt h e there begins =
    let same : get_or es i d ≡ e = some_same (get_or es i d) e (sym (get_there es i d lt) ∙ there) in
    absurd (true≢false (sym begins ∙ subst (λ y. starts y.kind ≡ false) same h))

none_past : (es : List Entry) (i : ℕ) → length es ≤ i → slice_get es i ≡ None
none_past [] i le = refl
none_past (e ∷ es) zero le = absurd (omega (arith, le))
none_past (e ∷ es) (suc i) le = none_past es i (omega (arith, le))

pub ends_past : (es : List Entry) (i end : ℕ) → length es ≤ i → EndsAt es i end
ends_past es i end le e there begins = absurd (not_some e (slice_get es i) (none_past es i le) there)

-- what is added behind begins no collection
bound_not : (k : EntryKind) → IsTrue (is_bound k) → starts k ≡ false
bound_not kind.StreamStart h = refl
bound_not kind.StreamEnd h = refl
bound_not kind.DocumentStart h = refl
bound_not kind.DocumentEnd h = refl
bound_not kind.SequenceEnd h = refl
bound_not kind.MappingEnd h = refl
bound_not kind.Alias h = refl
bound_not kind.Scalar h = refl
bound_not kind.SequenceStart h = absurd (true≢false (sym h))
bound_not kind.MappingStart h = absurd (true≢false (sym h))

pub ends_behind : (es : List Entry) (i end : ℕ) (x : Entry) → IsTrue (is_bound x.kind) → EndsAt es i end
    → EndsAt (es ++ x ∷ []) i end
ends_behind [] zero end x bound h e there begins =
    absurd (true≢false (sym begins ∙ subst (λ y. starts y.kind ≡ false) (some_same x e there) (bound_not x.kind bound)))
ends_behind [] (suc i) end x bound h e there begins = absurd (not_some e None refl there)
ends_behind (y ∷ es) zero end x bound h e there begins = h e there begins
ends_behind (y ∷ es) (suc i) end x bound h e there begins = ends_behind es i end x bound h e there begins
