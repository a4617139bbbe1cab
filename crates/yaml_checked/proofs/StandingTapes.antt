-- Events made of what stands on a tape.
use Rattle.std.proofs.Common.{◌≡◌, ◌≢◌, ◌≤◌, ◌<◌, ◌+◌, ◌-◌, ◌∷◌, ◌∙◌, [], Bool, List, None, Option, Some, ap, arith}
use Rattle.std.proofs.Common.{false, get_or, length, length-drop, map, refl, subst, sym, take, true, ℕ}
use Rattle.std.proofs.lemmas.Bool.{eq-eqb, ne_eqb}
use Rattle.std.proofs.lemmas.List.Elements.{All-cons, All-get_or, All-head, All-nil, All-push, All-tail, All-weaker}
use Rattle.std.proofs.lemmas.List.Sorted.{IsNonDecreasingBy-push}
use Rattle.std.proofs.lemmas.List.{get_or-map, length-map, length-take, take_all, take_more}
use Rattle.std.specs.Borrow.{Bor}
use Rattle.std.specs.List.Sorted.{IsNonDecreasingBy}
use Rattle.std.specs.Option.{option_map}
use Rattle.std.specs.Prelude.{◌^◌, ◌==◌, ◌&&◌, All, IfSome, if◌then◌else◌, not, slice_range}
use Rattle.std.specs.declared.alloc.Global.{Global}
use Rattle.std.specs.declared.vec.Vec.{Vec}
use Rattle.yaml_base.specs.MarkedEvents.{plain_marked}
use Rattle.yaml_base.specs.Places.{place_of}
use Rattle.yaml_base.specs.PlainEvent.{PlainEvent, alias, document_end, document_start, event_of}
use Rattle.yaml_base.specs.PlainEvent.{mapping_end, mapping_start, scalar, sequence_end, sequence_start}
use Rattle.yaml_base.specs.PlainEvent.{stream_end, stream_start}
use Rattle.yaml_base.specs.Position.{Position}
use Rattle.yaml_base.specs.declared.event.Event.{Event}
use Rattle.yaml_base.specs.declared.event.Event.TheVariants as event
use Rattle.yaml_parse.specs.Places.{AreInPlace, IsInPlace}
use Rattle.yaml_parse.specs.PlainText.{SaySources, SaysSource, scalar_in}
use Rattle.yaml_parse.specs.Shown.{AreShown, IsShown, StandsAt}
use Rattle.yaml_tape.specs.OnTape.{IsInside, event_by, kept_in, marked_by, marked_of, position_at, text_on}
use Rattle.yaml_tape.specs.declared.entry.Entry.{Entry}
use Rattle.yaml_tape.specs.declared.entry.EntryKind.{EntryKind}
use Rattle.yaml_tape.specs.declared.entry.EntryKind.TheVariants as kind
use Rattle.yaml_tape.specs.declared.tape.Tape.{Tape}
use Rattle.yaml_checked.specs.StandsInText.{StandsInText}
use Rattle.yaml_checked.specs.inner.EntryStands.{EntriesStand, EntryStands, ScalarStands}

-- a `Vec` of a text, somewhere in memory
bytes : Vec ℕ Global → (text : List ℕ) → length text < 2 ^ 32 → Vec ℕ Global
bytes other text short = record {
  ptr = other.ptr;
  len = length text;
  cap = length text;
  alloc = other.alloc;
  items = text;
  ok = (refl, omega arith);
  small = omega arith;
}

-- so a slice of a source
abbrev slice_of : List ℕ → Bor (List ℕ)
slice_of source = record { ref_ptr = (0, 0); now = source }

shown_again : (source : Option (List ℕ))
    → option_map (λ (r : Bor (List ℕ)). r.now) (option_map slice_of source) ≡ source
shown_again None = refl
shown_again (Some s) = refl

-- the text of a scalar is short
abbrev IsShort : PlainEvent → Type 0
IsShort p = IfSome (scalar_in p) (λ s. length s.text < 2 ^ 32)

-- each plain event is that of an event
event_for : Vec ℕ Global → (p : PlainEvent) → IsShort p → (e : Event) × (event_of e ≡ p)
unfolding bytes
event_for other stream_start short = (event.StreamStart, refl)
event_for other stream_end short = (event.StreamEnd, refl)
event_for other document_start short = (event.DocumentStart, refl)
event_for other document_end short = (event.DocumentEnd, refl)
event_for other (alias anchor) short = (event.Alias anchor, refl)
event_for other (scalar s) short = (
  event.Scalar (record {
    anchor = s.anchor;
    tag = s.tag;
    value = bytes other s.text short;
    style = s.style;
    repr = option_map slice_of s.source;
  }),
  ap (λ source. scalar (record {
    anchor = s.anchor;
    tag = s.tag;
    text = s.text;
    style = s.style;
    source = source;
  })) (shown_again s.source),
)
event_for other (sequence_start anchor tag) short =
    (event.SequenceStart (record { anchor = anchor; tag = tag }), refl)
event_for other sequence_end short = (event.SequenceEnd, refl)
event_for other (mapping_start anchor tag) short = (event.MappingStart (record { anchor = anchor; tag = tag }), refl)
event_for other mapping_end short = (event.MappingEnd, refl)

-- a range of a text
pub range_long : (xs : List ℕ) (i j : ℕ) → j ≤ length xs → length (slice_range xs i j) ≡ j - i
range_long xs i j le = grind (arith, length-take, length-drop)

pub range_stands : (text : List ℕ) (i j : ℕ) → i ≤ j → j ≤ length text → StandsAt text i (slice_range text i j)
range_stands text i j le within =
    let long : length (slice_range text i j) ≡ j - i = range_long text i j within in
    let there : i + length (slice_range text i j) ≡ j = omega arith in
    (omega arith, ap (slice_range text i) (sym there))

pub index_at : (text : List ℕ) (i : ℕ) (late : Bool) → (position_at text i late).index ≡ i
index_at text i true = refl
index_at text i false = refl

-- the text of an entry is short
text_short : (t : Tape) (e : Entry) → IsInside t.text.now t.arena.items t.names.items e
    → length (text_on t.text.now t.arena.items e) < 2 ^ 32
text_short t e inside = at e.stored inside.within
  where
    at : (stored : Bool) → e.to ≤ length (kept_in t.text.now t.arena.items stored)
        → length (slice_range (kept_in t.text.now t.arena.items stored) e.from e.to) < 2 ^ 32
    at true within =
        let long = range_long t.arena.items e.from e.to within in
        let few = t.few in
        omega arith
    at false within =
        let long = range_long t.text.now e.from e.to within in
        let few = t.short in
        omega arith

abbrev event_on : Tape → EntryKind → Entry → PlainEvent
event_on t k e = event_by k t.text.now t.arena.items t.names.items e

entry_short : (t : Tape) (k : EntryKind) (e : Entry) → IsInside t.text.now t.arena.items t.names.items e
    → IsShort (event_on t k e)
entry_short t kind.Scalar e inside = text_short t e inside
entry_short t kind.Alias e inside = tt
entry_short t kind.SequenceStart e inside = tt
entry_short t kind.MappingStart e inside = tt
entry_short t kind.StreamStart e inside = tt
entry_short t kind.StreamEnd e inside = tt
entry_short t kind.DocumentStart e inside = tt
entry_short t kind.DocumentEnd e inside = tt
entry_short t kind.SequenceEnd e inside = tt
entry_short t kind.MappingEnd e inside = tt

-- what is known of an entry is known of its event
shown_on : (t : Tape) (k : EntryKind) (e : Entry) → (k ≡ kind.Scalar → ScalarStands t e)
    → IsShown t.text.now (event_on t k e) (position_at t.text.now e.index e.late)
shown_on t kind.Scalar e stands =
    subst (λ i. StandsAt t.text.now i (slice_range t.text.now e.index e.end)) (sym (index_at t.text.now e.index e.late))
    (range_stands t.text.now e.index e.end (stands refl).forward (stands refl).within)
shown_on t kind.Alias e stands = tt
shown_on t kind.SequenceStart e stands = tt
shown_on t kind.MappingStart e stands = tt
shown_on t kind.StreamStart e stands = tt
shown_on t kind.StreamEnd e stands = tt
shown_on t kind.DocumentStart e stands = tt
shown_on t kind.DocumentEnd e stands = tt
shown_on t kind.SequenceEnd e stands = tt
shown_on t kind.MappingEnd e stands = tt

said_on : (t : Tape) (k : EntryKind) (e : Entry) → (k ≡ kind.Scalar → ScalarStands t e) → SaysSource (event_on t k e)
said_on t kind.Scalar e stands =
    λ plain one. (((stands refl).says plain).rest one, ((stands refl).says plain).whole one)
said_on t kind.Alias e stands = tt
said_on t kind.SequenceStart e stands = tt
said_on t kind.MappingStart e stands = tt
said_on t kind.StreamStart e stands = tt
said_on t kind.StreamEnd e stands = tt
said_on t kind.DocumentStart e stands = tt
said_on t kind.DocumentEnd e stands = tt
said_on t kind.SequenceEnd e stands = tt
said_on t kind.MappingEnd e stands = tt

-- the mark of an entry is in place
never : (a b : Bool) → (a && (b && not b)) ≡ false
never true true = refl
never true false = refl
never false b = refl

pub placed_at : (text : List ℕ) (i : ℕ) (late : Bool) → (late ≡ true → i ≡ length text)
    → (late ≡ true → (place_of text (length text)).1 ≢ 0) → IsInPlace text (position_at text i late)
placed_at text i true behind amid =
    let place = place_of text i in
    let at : (i == length text) ≡ true = eq-eqb i (length text) (behind refl) in
    let some : (place.1 == 0) ≡ false =
    ne_eqb place.1 0 (subst (λ k. (place_of text k).1 ≢ 0) (sym (behind refl)) (amid refl)) in
    let taken : (i == length text && (0 == 0 && not (place.1 == 0))) ≡ true =
    ap (λ b. b && (0 == 0 && not (place.1 == 0))) at ∙ ap (λ b. not b) some in
    ap (λ b. if b then (place.0 + 1, 0) else place) (sym taken)
placed_at text i false behind amid =
    let place = place_of text i in
    ap (λ b. if b then (place.0 + 1, 0) else place) (sym (never (i == length text) (place.1 == 0)))

-- the events of entries that stand in the text
record Made (t : Tape) (entries : List Entry) : Type 0 where
  events : List (Event × Position)
  same : plain_marked events ≡ marked_of t.text.now t.arena.items t.names.items entries
  indexes : map (λ (e : Event × Position). e.1.index) events ≡ map (λ (e : Entry). e.index) entries
  sources : AreShown t.text.now events
  plain : SaySources events
  within : All (λ (e : Event × Position). e.1.index ≤ length t.text.now) events
  places : AreInPlace t.text.now events

made : (t : Tape) (entries : List Entry) → All (IsInside t.text.now t.arena.items t.names.items) entries
    → All (EntryStands t) entries → Made t entries
made t [] inside stand = record {
  events = [];
  same = refl;
  indexes = refl;
  sources = All-nil _;
  plain = All-nil _;
  within = All-nil _;
  places = All-nil _;
}
made t (e ∷ entries) inside stand =
    let text = t.text.now in
    let is_inside : Entry → Type 0 = IsInside text t.arena.items t.names.items in
    let rest : Made t entries =
    made t entries (All-tail is_inside e entries inside) (All-tail (EntryStands t) e entries stand) in
    let held : is_inside e = All-head is_inside e entries inside in
    let here : EntryStands t e = All-head (EntryStands t) e entries stand in
    let mark : Position = position_at text e.index e.late in
    let found = event_for t.arena (event_on t e.kind e) (entry_short t e.kind e held) in
    let x : Event × Position = (found.0, mark) in
    record {
      events = x ∷ rest.events;
      same = ap (λ p. (p, mark) ∷ plain_marked rest.events) found.1
          ∙ ap (λ l. marked_by text t.arena.items t.names.items e ∷ l) rest.same;
      indexes = ap (λ i. i ∷ map (λ (y : Event × Position). y.1.index) rest.events) (index_at text e.index e.late)
          ∙ ap (λ l. e.index ∷ l) rest.indexes;
      sources = All-cons (λ (y : Event × Position). IsShown text (event_of y.0) y.1) x rest.events
          (subst (λ p. IsShown text p mark) (sym found.1) (shown_on t e.kind e here.scalar)) rest.sources;
      plain = All-cons (λ (y : Event × Position). SaysSource (event_of y.0)) x rest.events
          (subst SaysSource (sym found.1) (said_on t e.kind e here.scalar)) rest.plain;
      within = All-cons (λ (y : Event × Position). y.1.index ≤ length text) x rest.events
          (subst (λ i. i ≤ length text) (sym (index_at text e.index e.late)) held.index) rest.within;
      places = All-cons (λ (y : Event × Position). IsInPlace text y.1) x rest.events
          (placed_at text e.index e.late here.behind here.amid) rest.places;
    }

-- numbers that do not fall, by those of another list
rise_same : {X Y : Type 0} (f : X → ℕ) (g : Y → ℕ) (xs : List X) (ys : List Y) → map f xs ≡ map g ys
    → IsNonDecreasingBy g ys → IsNonDecreasingBy f xs
rise_same f g xs [] is rise i j d le lt =
    let none : length (map f xs) ≡ 0 = ap length is in
    absurd (omega (arith, length-map xs f))
rise_same f g xs (y ∷ ys) is rise i j d le lt =
    let long : length xs ≡ length (y ∷ ys) = sym (length-map xs f) ∙ ap length is ∙ length-map (y ∷ ys) g in
    let up : g (get_or (y ∷ ys) i y) ≤ g (get_or (y ∷ ys) j y) = rise i j y le (omega arith) in
    let at : (k : ℕ) → k < length xs → f (get_or xs k d) ≡ g (get_or (y ∷ ys) k y) =
    λ k inside. sym (get_or-map f xs k d 0 inside) ∙ ap (λ l. get_or l k 0) is
    ∙ get_or-map g (y ∷ ys) k y 0 (omega arith) in
    omega (arith, at i (omega arith), at j lt)

-- one entry more
one_more : (t : Tape) (last : ℕ) (es : List Entry) (i : ℕ) (d : Entry) → EntriesStand t last (take i es)
    → i < length es → EntryStands t (get_or es i d) → last ≤ (get_or es i d).index
    → EntriesStand t (get_or es i d).index (take (i + 1) es)
one_more t last es i d seen inside here on =
    let x = get_or es i d in
    let before = take i es in
    let low : (e : Entry) → e.index ≤ last → e.index ≤ x.index = λ e le. omega arith in
    subst (EntriesStand t x.index) (sym (take_more es i d inside)) (record {
      stand = All-push (EntryStands t) before x seen.stand here;
      rise = IsNonDecreasingBy-push (λ (e : Entry). e.index) before x seen.rise
          (λ e some.
          let long : length before - 1 < length before = omega arith in
          low (get_or before (length before - 1) e)
          (All-get_or (λ (y : Entry). y.index ≤ last) before (length before - 1) e long seen.last));
      last = All-push (λ (e : Entry). e.index ≤ x.index) before x
          (All-weaker (λ (e : Entry). e.index ≤ last) (λ (e : Entry). e.index ≤ x.index) low before seen.last)
          (omega arith);
    })

pub stand_more : (t : Tape) {last : ℕ} {es xs : List Entry} (i : ℕ) (d : Entry) → xs ≡ es → i < length xs
    → EntriesStand t last (take i es) → EntryStands t (get_or xs i d) → last ≤ (get_or xs i d).index
    → EntriesStand t (get_or xs i d).index (take (i + 1) es)
stand_more t {last} {es} {xs} i d same inside seen =
    subst (λ l. EntryStands t (get_or l i d) → last ≤ (get_or l i d).index
    → EntriesStand t (get_or l i d).index (take (i + 1) es))
    (sym same)
    (one_more t last es i d seen (subst (λ l. i < length l) same inside))

-- where all entries stand so, they are events of the text
pub stands_in_text : (t : Tape) {last : ℕ} {xs : List Entry} {i : ℕ} → xs ≡ t.entries.items → length xs ≤ i
    → EntriesStand t last (take i t.entries.items) → StandsInText t
stands_in_text t {last} {xs} {i} same over seen =
    let es = t.entries.items in
    let all : EntriesStand t last es =
    subst (EntriesStand t last) (take_all i es (subst (λ l. length l ≤ i) same over)) seen in
    let m : Made t es = made t es t.inside all.stand in
    record {
      events = m.events;
      same = m.same;
      sources = m.sources;
      plain = m.plain;
      marks = (
        m.within,
        rise_same (λ (e : Event × Position). e.1.index) (λ (e : Entry). e.index) m.events es m.indexes all.rise,
      );
      places = m.places;
    }
