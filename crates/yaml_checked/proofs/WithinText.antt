-- Names, leaves and blocks of lines end within the text.
use Rattle.std.proofs.Common.{◌≡◌, ℕ, suc, ◌+◌, ◌<◌, ◌≤◌, ◌==◌, ◌&&◌, ◌||◌, not, Bool, true, false, List, [], ◌∷◌}
use Rattle.std.proofs.Common.{Option, Some, None, arith, subst, refl, drop, length, length-drop, inl, inr}
use Rattle.std.specs.Prelude.{if◌then◌else◌, nat_eq, nat_lt, option_map, slice_range}
use Rattle.std.specs.Option.{is_none}
use Rattle.std.proofs.lemmas.Bool.{and_parts, cases_lt, eqb-true}
use Rattle.yaml_grammar.specs.Bytes.{at, is_mark}
use Rattle.yaml_grammar.specs.Gaps.{Before, apart, before, comment, gap, next, one_feed_more, one_more, token}
use Rattle.yaml_grammar.specs.Names.{Handle, Names, core, count_while, ends_name, ends_tag, handle_of, is_local}
use Rattle.yaml_grammar.specs.Names.{is_name_byte, is_tag_byte, is_whole, local, name_end, names_at, one_name}
use Rattle.yaml_grammar.specs.Names.{opening_size, prefix_of, tag_at, tag_end, tag_of, unnamed, verbatim}
use Rattle.yaml_reading.proofs.Begins.{byte_behind}
use Rattle.yaml_reading.proofs.Options.{either, map_some, no_some, same_some, then_some}

-- what holds of both ways, by the test
pub by_test : {A : Type 0} (P : A → Type 0) (b : Bool) (x y : A) → (b ≡ true → P x) → (b ≡ false → P y)
    → P (if b then x else y)
by_test P true x y p q = p refl
by_test P false x y p q = q refl

-- a byte of the text stands in it
pub byte_inside : (text : List ℕ) (i c : ℕ) → at text i ≡ suc c → i < length text
byte_inside text i c e =
    elim (cases_lt i (length text)) [
      | inl inside ↦ inside
      | inr over ↦ absurd (omega (arith, e, byte_behind text i over))
    ]

pub is_inside : (text : List ℕ) (i c : ℕ) → (at text i == suc c) ≡ true → i < length text
is_inside text i c e = byte_inside text i c (eqb-true (at text i) (suc c) e)

-- what is left behind a place
left_behind : (text : List ℕ) (i n : ℕ) → n ≤ length (drop i text) → i ≤ length text → i + n ≤ length text
left_behind text i n short within = omega (arith, length-drop i text)

count_short : (test : ℕ → Bool) (cs : List ℕ) → count_while test cs ≤ length cs
count_short test [] = omega arith
count_short test (c ∷ cs) =
    either (λ n. n ≤ length (c ∷ cs)) (test c) (suc (count_while test cs)) 0
    (omega (arith, count_short test cs)) (omega arith)

pub counted_within : (text : List ℕ) (test : ℕ → Bool) (i : ℕ) → i ≤ length text
    → i + count_while test (drop i text) ≤ length text
counted_within text test i within =
    left_behind text i (count_while test (drop i text)) (count_short test (drop i text)) within

gap_short : (b : Before) (cs : List ℕ) → (gap b cs).0 ≤ length cs
gap_short token [] = omega arith
gap_short apart [] = omega arith
gap_short comment [] = omega arith
gap_short comment (c ∷ cs) =
    either (λ (r : ℕ × Bool). r.0 ≤ length (c ∷ cs)) (c == 10) (one_feed_more (gap apart cs))
    (one_more (gap comment cs))
    (omega (arith, gap_short apart cs)) (omega (arith, gap_short comment cs))
gap_short token (c ∷ cs) =
    either (λ (r : ℕ × Bool). r.0 ≤ length (c ∷ cs)) (c == 10) (one_feed_more (gap apart cs))
    (if c == 32 then one_more (gap apart cs) else (0, false))
    (omega (arith, gap_short apart cs))
    (either (λ (r : ℕ × Bool). r.0 ≤ length (c ∷ cs)) (c == 32) (one_more (gap apart cs)) (0, false)
    (omega (arith, gap_short apart cs)) (omega arith))
gap_short apart (c ∷ cs) =
    either (λ (r : ℕ × Bool). r.0 ≤ length (c ∷ cs)) (c == 10) (one_feed_more (gap apart cs))
    (if c == 32 then one_more (gap apart cs) else if c == 35 then one_more (gap comment cs) else (0, false))
    (omega (arith, gap_short apart cs))
    (either (λ (r : ℕ × Bool). r.0 ≤ length (c ∷ cs)) (c == 32) (one_more (gap apart cs))
    (if c == 35 then one_more (gap comment cs) else (0, false))
    (omega (arith, gap_short apart cs))
    (either (λ (r : ℕ × Bool). r.0 ≤ length (c ∷ cs)) (c == 35) (one_more (gap comment cs)) (0, false)
    (omega (arith, gap_short comment cs)) (omega arith)))

pub next_within : (text : List ℕ) (i : ℕ) → i ≤ length text → next text i ≤ length text
next_within text i within =
    left_behind text i (gap (before text i) (drop i text)).0 (gap_short (before text i) (drop i text)) within

-- what is answered ends within the text
abbrev pub Inside : {A : Type 0} → List ℕ → Option (A × ℕ) → Type 0
Inside text o = (r : _) → o ≡ Some r → r.1 ≤ length text

none_inside : {A : Type 0} (text : List ℕ) → Inside {A = A} text None
none_inside text r h = absurd (no_some r h)

some_inside : {A : Type 0} (text : List ℕ) (a : A) (i : ℕ) → i ≤ length text → Inside text (Some (a, i))
some_inside {A} text a i le r h = subst (λ (x : A × ℕ). x.1 ≤ length text) (same_some {A = A × ℕ} (a, i) r h) le

pub name_within : (text : List ℕ) (flow : Bool) (i e : ℕ) → i ≤ length text → name_end text flow i ≡ Some e
    → e ≤ length text
name_within text flow i e within =
    let size = count_while is_name_byte (drop i text) in
    either (λ o. o ≡ Some e → e ≤ length text)
    (nat_lt 0 size && (ends_name flow (at text (i + size)) || is_mark text 58 (i + size))) (Some (i + size)) None
    (λ h. subst (λ x. x ≤ length text) (same_some _ _ h) (counted_within text is_name_byte i within))
    (λ h. absurd (no_some e h))

-- the opening of a tag
opening_within : (text : List ℕ) (i : ℕ) → i < length text
    → i + opening_size (handle_of (at text (suc i))) ≤ length text
opening_within text i less =
    let c = at text (suc i) in
    let fits : Handle → Type 0 = λ h. i + opening_size h ≤ length text in
    by_test fits (c == 60) verbatim (if c == 33 then core else local)
    (λ e. omega (arith, is_inside text (suc i) 59 e))
    (λ _. by_test fits (c == 33) core local (λ e. omega (arith, is_inside text (suc i) 32 e)) (λ _. omega arith))

-- the end of a tag whose text ends here
closed_within : (text : List ℕ) (handle : Handle) (stop : ℕ) → stop ≤ length text
    → (not (is_whole handle) || at text stop == 62) ≡ true → tag_end handle stop ≤ length text
closed_within text verbatim stop le h = omega (arith, is_inside text stop 61 h)
closed_within text core stop le h = le
closed_within text local stop le h = le

tag_within : (text : List ℕ) (flow : Bool) (i : ℕ) → i < length text → Inside text (tag_at text flow i)
tag_within text flow i less =
    let handle = handle_of (at text (suc i)) in
    let start = i + opening_size handle in
    let stop = start + count_while (is_tag_byte (is_whole handle)) (drop start text) in
    let end = tag_end handle stop in
    let closes = not (is_whole handle) || at text stop == 62 in
    let ends = ends_tag flow (at text end) in
    let some = is_local handle || nat_lt start stop in
    by_test (Inside text) (some && (closes && ends))
    (option_map (λ t. (t, end)) (tag_of (prefix_of handle) (slice_range text start stop))) None
    (λ all r h.
    let m = map_some (tag_of (prefix_of handle) (slice_range text start stop)) (λ t. (t, end)) r h in
    let within = counted_within text (is_tag_byte (is_whole handle)) start (opening_within text i less) in
    let closed = (and_parts closes ends (and_parts some (closes && ends) all).1).0 in
    subst (λ (x : List ℕ × ℕ). x.1 ≤ length text) m.2 (closed_within text handle stop within closed))
    (λ _. none_inside text)

one_within : (text : List ℕ) (flow : Bool) (names : Names) (i : ℕ) → i ≤ length text
    → Inside text (one_name text flow (names, i))
one_within text flow names i within =
    let place = i + count_while (nat_eq 32) (drop i text) in
    let anchored : Option (Names × ℕ) = option_map
    (λ end. (record { anchor = Some (slice_range text (suc place) end); tag = names.tag }, end))
    (name_end text flow (suc place)) in
    let tagged : Option (Names × ℕ) = option_map
    (λ (t : List ℕ × ℕ). (record { anchor = names.anchor; tag = Some t.0 }, t.1)) (tag_at text flow place) in
    by_test (Inside text) (at text place == 38 && is_none names.anchor) anchored
    (if at text place == 33 && is_none names.tag then tagged else Some (names, i))
    (λ all r h.
    let less = is_inside text place 37 (and_parts (at text place == 38) (is_none names.anchor) all).0 in
    let m = map_some (name_end text flow (suc place)) _ r h in
    subst (λ (x : Names × ℕ). x.1 ≤ length text) m.2 (name_within text flow (suc place) m.0 (omega (arith, less)) m.1))
    (λ _. by_test (Inside text) (at text place == 33 && is_none names.tag) tagged (Some (names, i))
    (λ all r h.
    let less = is_inside text place 32 (and_parts (at text place == 33) (is_none names.tag) all).0 in
    let m = map_some (tag_at text flow place) _ r h in
    subst (λ (x : Names × ℕ). x.1 ≤ length text) m.2 (tag_within text flow place less m.0 m.1))
    (λ _. some_inside text names i within))

pub names_within : (text : List ℕ) (flow : Bool) (i : ℕ) → i ≤ length text → Inside text (names_at text flow i)
names_within text flow i within r h =
    let t = then_some (one_name text flow (unnamed, i)) (one_name text flow) r h in
    one_within text flow t.0.0 t.0.1 (one_within text flow unnamed i within t.0 t.1) r t.2
