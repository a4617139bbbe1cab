-- Names that are taken off a tape leave those of the entries behind.
use Rattle.std.proofs.Common.{◌≡◌, ◌≢◌, ◌≤◌, ◌<◌, ◌+◌, ◌-◌, ◌∷◌, ◌++◌, ◌∙◌, ◌⊎◌, [], All, List, Option, Some, ap, arith, drop}
use Rattle.std.proofs.Common.{get_or, inl, inr, length, length-drop, refl, set, subst, suc, sym, zero, ℕ}
use Rattle.std.proofs.lemmas.List.{get_or-drop, get_or_default, length-set}
use Rattle.std.proofs.lemmas.Option.{get_or_from_slice_get, slice_get-get_or}
use Rattle.std.specs.Prelude.{slice_get}
use Rattle.yaml_grammar.specs.Documents.{Stands}
use Rattle.yaml_grammar.specs.Nodes.{Document, Marked}
use Rattle.yaml_tape.specs.OnTape.{IsInside, event_by, marked_by, marked_of, names_at}
use Rattle.yaml_tape.specs.declared.entry.Entry.{Entry}
use Rattle.yaml_tape.specs.declared.entry.EntryKind.{EntryKind}
use Rattle.yaml_tape.specs.declared.entry.EntryKind.TheVariants as kind
use Rattle.yaml_tape.specs.declared.entry.Names.{Names}
use Rattle.yaml_tape.specs.declared.tape.Tape.{Tape}
use Rattle.yaml_checked.specs.OfText.{AreAhead}
use Rattle.yaml_checked.specs.declared.rest.Rest.{Rest}
use Rattle.yaml_checked.specs.inner.EntryNames.{AreBehind, NamesRise, RiseTo, neither}
use Rattle.yaml_checked.specs.inner.OnWay.{IsAsFar, IsOnWay, marked_from, scalar_by}

-- all others stay where one is put in place of another
others_stay : (xs : List Names) (i j : ℕ) (x : Names) → i ≢ j → slice_get (set xs i x) j ≡ slice_get xs j
others_stay [] i j x other = refl
others_stay (y ∷ xs) zero zero x other = absurd (other refl)
others_stay (y ∷ xs) zero (suc j) x other = refl
others_stay (y ∷ xs) (suc i) zero x other = refl
others_stay (y ∷ xs) (suc i) (suc j) x other = others_stay xs i j x (λ same. other (ap suc same))

names_stay : (names : List Names) (number k : ℕ) → 1 ≤ number → (k ≢ 0 → number < k)
    → names_at (set names (number - 1) neither) k ≡ names_at names k
names_stay names number zero some behind = refl
names_stay names number (suc k) some behind =
    let low : number < suc k = behind (λ z. cc) in
    others_stay names (number - 1) k neither (λ same. absurd (omega (arith, low, some, same)))

-- the names with a number
pub names_there : (names : List Names) (number : ℕ) (other : Names) → 1 ≤ number → number ≤ length names
    → names_at names number ≡ Some (get_or names (number - 1) other)
names_there names zero other some named = absurd (omega (arith, some))
names_there names (suc k) other some named =
    let at : suc k - 1 ≡ k = omega arith in
    rw at (slice_get-get_or names k other (omega (arith, named)))

-- the event of an entry whose names stay
event_stays : (k : EntryKind) (text arena : List ℕ) (names others : List Names) (e : Entry)
    → names_at others e.names ≡ names_at names e.names → event_by k text arena others e ≡ event_by k text arena names e
event_stays kind.Scalar text arena names others e same = rw same refl
event_stays kind.Alias text arena names others e same = rw same refl
event_stays kind.SequenceStart text arena names others e same = rw same refl
event_stays kind.MappingStart text arena names others e same = rw same refl
event_stays kind.StreamStart text arena names others e same = refl
event_stays kind.StreamEnd text arena names others e same = refl
event_stays kind.DocumentStart text arena names others e same = refl
event_stays kind.DocumentEnd text arena names others e same = refl
event_stays kind.SequenceEnd text arena names others e same = refl
event_stays kind.MappingEnd text arena names others e same = refl

-- the events of entries behind the names that were taken
events_stay : (text arena : List ℕ) (names : List Names) (number : ℕ) (es : List Entry) → 1 ≤ number
    → AreBehind number es
    → marked_of text arena (set names (number - 1) neither) es ≡ marked_of text arena names es
events_stay text arena names number [] some behind = refl
events_stay text arena names number (e ∷ es) some behind =
    rw (event_stays e.kind text arena names (set names (number - 1) neither) e
    (names_stay names number e.names some (behind 0 e (omega arith))))
    (ap (λ xs. marked_by text arena names e ∷ xs)
    (events_stay text arena names number es some (λ k d lt. behind (suc k) d (omega (arith, lt)))))

-- entries lie within, whichever names were taken
pub inside_taken : (text arena : List ℕ) (names others : List Names) (i : ℕ) (x : Names) (es : List Entry)
    → others ≡ set names i x → All (IsInside text arena names) es → All (IsInside text arena others) es
inside_taken text arena names others i x es taken all k d lt =
    let e = get_or es k d in
    let long : length others ≡ length names = ap length taken ∙ length-set names i x in
    let there : IsInside text arena names e = all k d lt in
    record {
      index = there.index;
      forward = there.forward;
      within = there.within;
      named = omega (arith, there.named, long);
    }

-- what was not read yet stays as names are taken that stand before those of the entries behind
pub taken_as_far : (old new : Rest) (number : ℕ) → 1 ≤ number
    → AreBehind number (drop old.next old.tape.entries.items) → new.tape.text.now ≡ old.tape.text.now
    → new.tape.entries.items ≡ old.tape.entries.items → new.tape.arena.items ≡ old.tape.arena.items
    → new.tape.names.items ≡ set old.tape.names.items (number - 1) neither → new.next ≡ old.next
    → new.documents ≡ old.documents → IsAsFar old new
taken_as_far old new number some behind text entries arena names next documents =
    let t = old.tape in
    let rest = drop new.next new.tape.entries.items in
    record {
      text = text;
      ahead = ap (λ x. marked_of x new.tape.arena.items new.tape.names.items rest) text
          ∙ ap (λ x. marked_of t.text.now x new.tape.names.items rest) arena
          ∙ ap (λ x. marked_of t.text.now t.arena.items x rest) names
          ∙ ap (λ x. marked_of t.text.now t.arena.items (set t.names.items (number - 1) neither) (drop new.next x)) entries
          ∙ ap (λ x. marked_of t.text.now t.arena.items (set t.names.items (number - 1) neither) (drop x t.entries.items)) next
          ∙ events_stay t.text.now t.arena.items t.names.items number (drop old.next t.entries.items) some behind;
      documents = documents;
    }

pub stays_as_far : (r : Rest) → IsAsFar r r
stays_as_far r = record { text = refl; ahead = refl; documents = refl }

-- the documents stay on their way
pub on_as_far : {ds : List Document} {before : List Marked} {old new : Rest} → IsAsFar old new → IsOnWay ds before old
    → IsOnWay ds before new
on_as_far {ds} {before} {old} {new} far way =
    let rest = before ++ marked_from new.tape new.next in
    record {
      stand = subst (λ t. Stands t ds) (sym far.text) way.stand;
      ahead = subst (λ t. AreAhead t ds rest new.documents) (sym far.text)
          (subst (λ l. AreAhead old.tape.text.now ds (before ++ l) new.documents) (sym far.ahead)
          (subst (AreAhead old.tape.text.now ds (before ++ marked_from old.tape old.next)) (sym far.documents) way.ahead));
    }

-- a scalar with these names, whichever others were taken
pub scalar_as_far : (old new : Tape) (anchor tag : Option (List ℕ)) (e : Entry) → new.text.now ≡ old.text.now
    → new.arena.items ≡ old.arena.items → scalar_by new anchor tag e ≡ scalar_by old anchor tag e
scalar_as_far old new anchor tag e text arena = rw (text, arena) refl

-- behind an entry come those with greater numbers
pub come_behind : (es : List Entry) (i : ℕ) (e : Entry) → NamesRise es → slice_get es i ≡ Some e
    → AreBehind e.names (drop (i + 1) es)
come_behind es i e rise is k d lt some =
    let at : get_or (drop (i + 1) es) k d ≡ get_or es (i + 1 + k) d = get_or-drop (i + 1) es k d in
    let here : get_or es i d ≡ e = get_or_from_slice_get es i e d is in
    let within : i + 1 + k < length es = omega (arith, lt, length-drop (i + 1) es) in
    let up : (get_or es i d).names < (get_or es (i + 1 + k) d).names =
    rise i (i + 1 + k) d (omega arith) within (λ z. some (ap (λ (x : Entry). x.names) at ∙ z)) in
    subst (λ (x : Entry). e.names < x.names) (sym at)
    (subst (λ (x : Entry). x.names < (get_or es (i + 1 + k) d).names) here up)

below_or_last : (a b : ℕ) → a < b + 1 → (a < b) ⊎ (a ≡ b)
below_or_last zero zero lt = inr refl
below_or_last zero (suc b) lt = inl (omega arith)
below_or_last (suc a) zero lt = absurd (omega (arith, lt))
below_or_last (suc a) (suc b) lt = elim (below_or_last a b (omega (arith, lt))) [
  | inl w ↦ inl (omega (arith, w))
  | inr w ↦ inr (ap suc w)
]

-- one entry more has no names, or a greater number than all before it
rise_more : (es : List Entry) (count last next : ℕ) (f : Entry) → RiseTo es count last → count < length es
    → ((get_or es count f).names ≢ 0 → last < (get_or es count f).names) → last ≤ next
    → (get_or es count f).names ≤ next → RiseTo es (count + 1) next
rise_more es count last next f seen there some on here =
    let e = get_or es count f in
    let at : (d : Entry) → get_or es count d ≡ e = λ d. get_or_default es count d f there in
    record {
      rise = λ i j d lt within names. elim (below_or_last j count within) [
        | inl w ↦ seen.rise i j d lt w names
        | inr w ↦
            let is : get_or es j d ≡ e = ap (λ k. get_or es k d) w ∙ at d in
            let up : last < e.names = some (λ z. names (ap (λ (x : Entry). x.names) is ∙ z)) in
            let low : (get_or es i d).names ≤ last = seen.bound i d (omega (arith, lt, w)) in
            subst (λ (x : Entry). (get_or es i d).names < x.names) (sym is) (omega (arith, up, low))
      ];
      bound = λ i d within. elim (below_or_last i count within) [
        | inl w ↦ let low : (get_or es i d).names ≤ last = seen.bound i d w in omega (arith, low, on)
        | inr w ↦ subst (λ (x : Entry). x.names ≤ next) (sym (ap (λ k. get_or es k d) w ∙ at d)) here
      ];
    }

pub rise_up : {es : List Entry} {count last next : ℕ} (f : Entry) → RiseTo es count last → count < length es
    → last < (get_or es count f).names → next ≡ (get_or es count f).names → RiseTo es (count + 1) next
rise_up {es} {count} {last} {next} f seen there up is =
    rise_more es count last next f seen there (λ some. up) (omega (arith, up, is)) (omega (arith, is))

pub rise_by : {es : List Entry} {count last next : ℕ} (f : Entry) → RiseTo es count last → count < length es
    → (get_or es count f).names ≡ 0 → next ≡ last → RiseTo es (count + 1) next
rise_by {es} {count} {last} {next} f seen there none is =
    rise_more es count last next f seen there (λ some. absurd (some none)) (omega (arith, is)) (omega (arith, none))

pub all_rise : (es : List Entry) (count last : ℕ) → length es ≤ count → RiseTo es count last → NamesRise es
all_rise es count last over seen i j d lt within names = seen.rise i j d lt (omega (arith, within, over)) names
