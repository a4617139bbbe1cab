-- Names stand in a line, and what may part documents does not stand behind them.
use Rattle.std.proofs.Common.{ℕ, zero, suc, ◌+◌, ◌-◌, ◌<◌, ◌≤◌, ◌≡◌, ◌≢◌, ◌⊎◌, ◌==◌, ◌&&◌, ◌||◌, not, Bool, true, false}
use Rattle.std.proofs.Common.{List, [], ◌∷◌, Option, Some, None, refl, sym, subst, ap, ◌∙◌, arith, inl, inr, codes, drop, nat_eq}
use Rattle.std.proofs.lemmas.Bool.{and_parts, cases_eq, eqb-true, false≢true, ne_eqb, or_cases}
use Rattle.std.proofs.lemmas.List.{get_or-drop}
use Rattle.std.specs.Option.{is_none, option_map}
use Rattle.std.specs.Prelude.{if◌then◌else◌, nat_lt, slice_range}
use Rattle.yaml_direct.specs.Gaps.{InLine}
use Rattle.yaml_direct.proofs.LeafLines.{name_line}
use Rattle.yaml_direct.proofs.LineLaws.{line_none, line_on}
use Rattle.yaml_direct.proofs.NextLaws.{bytes_are}
use Rattle.yaml_grammar.specs.Bytes.{at, is_gap, is_mark, is_one_of}
use Rattle.yaml_grammar.specs.Names.{Handle, Names, core, count_while, ends_name, ends_tag, handle_of, is_local}
use Rattle.yaml_grammar.specs.Names.{is_name_byte, is_tag_byte, is_whole, local, name_end, names_at, one_name}
use Rattle.yaml_grammar.specs.Names.{opening_size, prefix_of, tag_at, tag_end, tag_of, unnamed, verbatim}
use Rattle.yaml_reading.proofs.Options.{map_some, no_some, same_some, then_some}

-- `-` or `.`
abbrev pub may_part : ℕ → Bool
may_part c = c == 45 || c == 46

-- names between two places
pub record InOneLine (text : List ℕ) (i j : ℕ) : Type 0 where
  pub some : i < j
  pub line : InLine text i j
  pub whole : may_part (at text j) ≡ false

byte_line : (text : List ℕ) (i : ℕ) → at text i ≢ 10 → InLine text i (suc i)
byte_line text i other k low high e =
    let same : k ≡ i = omega (arith, low, high) in
    other (ap (at text) (sym same) ∙ e)

passed_by : (test : ℕ → Bool) (x : ℕ) (xs : List ℕ) (b : Bool) → test x ≡ b
    → ((j : ℕ) → j < count_while test xs → test (at xs j) ≡ true) → (k : ℕ)
    → k < (let more = suc (count_while test xs) in if b then more else 0) → test (at (x ∷ xs) k) ≡ true
passed_by test x xs true e rest zero less = e
passed_by test x xs true e rest (suc k) less = rest k (omega (arith, less))
passed_by test x xs false e rest k less = absurd (omega (arith, less))

passed : (test : ℕ → Bool) (xs : List ℕ) (k : ℕ) → k < count_while test xs → test (at xs k) ≡ true
passed test [] k less = absurd (omega (arith, less))
passed test (x ∷ xs) k less = passed_by test x xs (test x) refl (λ j l. passed test xs j l) k less

-- bytes that pass a test that a line feed does not
counted_line : (test : ℕ → Bool) (text : List ℕ) (i : ℕ) → test 10 ≡ false
    → InLine text i (i + count_while test (drop i text))
counted_line test text i other k low high feed =
    let there : i + (k - i) ≡ k = omega (arith, low) in
    let pass = passed test (drop i text) (k - i) (omega (arith, low, high)) in
    let byte : at (drop i text) (k - i) ≡ 10 = get_or-drop i text (k - i) 0 ∙ ap (at text) there ∙ feed in
    false≢true (sym other ∙ (ap test (sym byte) ∙ pass))

gap_whole : (c : ℕ) → is_gap c ≡ true → may_part c ≡ false
gap_whole c h = grind (arith, h)

bracket_whole : (c : ℕ) → is_one_of (codes ",]}") c ≡ true → may_part c ≡ false
bracket_whole c h = grind (arith, h)

comma_whole : (c : ℕ) → (c == 44) ≡ true → may_part c ≡ false
comma_whole c h = ap may_part (eqb-true c 44 h)

colon_whole : (c : ℕ) → (c == 58) ≡ true → may_part c ≡ false
colon_whole c h = ap may_part (eqb-true c 58 h)

name_whole : (flow : Bool) (c : ℕ) → ends_name flow c ≡ true → may_part c ≡ false
name_whole flow c h = elim (or_cases (is_gap c) (flow && is_one_of (codes ",]}") c) h) [
  | inl e ↦ gap_whole c e
  | inr e ↦ bracket_whole c (and_parts flow _ e).1
]

tag_whole : (flow : Bool) (c : ℕ) → ends_tag flow c ≡ true → may_part c ≡ false
tag_whole flow c h = elim (or_cases (is_gap c) (flow && c == 44) h) [
  | inl e ↦ gap_whole c e
  | inr e ↦ comma_whole c (and_parts flow _ e).1
]

-- an anchor
name_some : (b : Bool) (n e : ℕ) → (if b then Some n else None) ≡ Some e → n ≡ e
name_some true n e h = same_some n e h
name_some false n e h = absurd (no_some e h)

name_test : (b : Bool) (n e : ℕ) → (if b then Some n else None) ≡ Some e → b ≡ true
name_test true n e h = refl
name_test false n e h = absurd (no_some e h)

anchor_line : (text : List ℕ) (flow : Bool) (i e : ℕ) → at text i ≡ 38 → name_end text flow (suc i) ≡ Some e
    → InOneLine text i e
anchor_line text flow i e byte h =
    let size = count_while is_name_byte (drop (suc i) text) in
    let ends = ends_name flow (at text (suc i + size)) || is_mark text 58 (suc i + size) in
    let there = name_some (nat_lt 0 size && ends) (suc i + size) e h in
    let both = and_parts (nat_lt 0 size) ends (name_test (nat_lt 0 size && ends) (suc i + size) e h) in
    record {
      some = omega (arith, there);
      line = line_on text i (suc i) e (byte_line text i (λ f. omega (arith, f, byte))) (name_line text flow (suc i) e h);
      whole = subst (λ k. may_part (at text k) ≡ false) there
          (elim (or_cases (ends_name flow (at text (suc i + size))) (is_mark text 58 (suc i + size)) both.1) [
            | inl n ↦ name_whole flow (at text (suc i + size)) n
            | inr m ↦ colon_whole (at text (suc i + size)) (and_parts (at text (suc i + size) == 58) _ m).0
          ]);
    }

-- a tag
tag_some : (b : Bool) (o : Option (List ℕ)) (end : ℕ) (r : List ℕ × ℕ)
    → ◌≡◌ {A = Option (List ℕ × ℕ)} (if b then option_map (λ t. (t, end)) o else None) (Some r) → (b ≡ true) × (end ≡ r.1)
tag_some true o end r h =
    let m = map_some o (λ t. (t, end)) r h in
    (refl, ap (λ (x : List ℕ × ℕ). x.1) m.2)
tag_some false o end r h = absurd (no_some r h)

opening_few : (h : Handle) → opening_size h ≤ 2
opening_few verbatim = omega arith
opening_few core = omega arith
opening_few local = omega arith

opening_line : (text : List ℕ) (i : ℕ) → at text i ≡ 33
    → InLine text i (i + opening_size (handle_of (at text (suc i))))
opening_line text i byte k low high feed =
    elim (cases_eq k i) [
      | inl same ↦
          let here : at text i ≡ 10 = ap (at text) (sym same) ∙ feed in
          omega (arith, here, byte)
      | inr other ↦
          let few = opening_few (handle_of (at text (suc i))) in
          let next : k ≡ suc i = omega (arith, few, high, low, other) in
          let c : at text (suc i) ≡ 10 = ap (at text) (sym next) ∙ feed in
          let one : opening_size (handle_of (at text (suc i))) ≡ 1 = ap (λ x. opening_size (handle_of x)) c in
          omega (arith, one, high, next)
    ]

no_feed_in_tag : (whole : Bool) → is_tag_byte whole 10 ≡ false
no_feed_in_tag true = refl
no_feed_in_tag false = refl

closing_line : (text : List ℕ) (h : Handle) (stop : ℕ) → (not (is_whole h) || at text stop == 62) ≡ true
    → InLine text stop (tag_end h stop)
closing_line text verbatim stop t =
    byte_line text stop (λ e. no_feed (at text stop) e (eqb-true (at text stop) 62 t))
  where
    no_feed : (c : ℕ) → c ≡ 10 → c ≡ 62 → ⊥
    no_feed c e f = omega (arith, e, f)
closing_line text core stop t = line_none text stop
closing_line text local stop t = line_none text stop

end_far : (h : Handle) (stop : ℕ) → stop ≤ tag_end h stop
end_far verbatim stop = omega arith
end_far core stop = omega arith
end_far local stop = omega arith

opening_some : (h : Handle) → 0 < opening_size h
opening_some verbatim = omega arith
opening_some core = omega arith
opening_some local = omega arith

tag_line : (text : List ℕ) (flow : Bool) (i : ℕ) (t : List ℕ × ℕ) → at text i ≡ 33 → tag_at text flow i ≡ Some t
    → InOneLine text i t.1
tag_line text flow i t byte h =
    let handle = handle_of (at text (suc i)) in
    let start = i + opening_size handle in
    let stop = start + count_while (is_tag_byte (is_whole handle)) (drop start text) in
    let end = tag_end handle stop in
    let closes = not (is_whole handle) || at text stop == 62 in
    let told = is_local handle || nat_lt start stop in
    let s = tag_some (told && (closes && ends_tag flow (at text end))) (tag_of (prefix_of handle) (slice_range text start stop))
    end t h in
    let both = and_parts closes (ends_tag flow (at text end)) (and_parts told _ s.0).1 in
    subst (λ k. InOneLine text i k) s.1 (record {
      some = omega (arith, opening_some handle, end_far handle stop);
      line = line_on text i start end (opening_line text i byte)
          (line_on text start stop end (counted_line (is_tag_byte (is_whole handle)) text start (no_feed_in_tag (is_whole handle)))
          (closing_line text handle stop both.0));
      whole = tag_whole flow (at text end) both.1;
    })

-- one of them, or none
abbrev stands_here : List ℕ → (byte : ℕ) → Option (List ℕ) → (i : ℕ) → Bool
stands_here text c had i = at text (i + count_while (nat_eq 32) (drop i text)) == c && is_none had

abbrev Either : List ℕ → Names → (i j : ℕ) → Type 0
Either text names i j =
    InOneLine text i j ⊎ ((i ≡ j) × ((stands_here text 38 names.anchor i ≡ false) × (stands_here text 33 names.tag i ≡ false)))

behind_spaces : (text : List ℕ) (i j : ℕ) → InOneLine text (i + count_while (nat_eq 32) (drop i text)) j → InOneLine text i j
behind_spaces text i j x = record {
  some = omega (arith, x.some);
  line = line_on text i (i + count_while (nat_eq 32) (drop i text)) j (counted_line (nat_eq 32) text i refl) x.line;
  whole = x.whole;
}

by_test : {A : Type 0} (P : A → Type 0) (b : Bool) (x y : A) → (b ≡ true → P x) → (b ≡ false → P y)
    → P (if b then x else y)
by_test P true x y f g = f refl
by_test P false x y f g = g refl

one_line : (text : List ℕ) (flow : Bool) (names : Names) (i : ℕ) (r : Names × ℕ) → one_name text flow (names, i) ≡ Some r
    → Either text names i r.1
one_line text flow names i =
    let place = i + count_while (nat_eq 32) (drop i text) in
    let anchored : Option (Names × ℕ) = option_map
    (λ end. (record { anchor = Some (slice_range text (suc place) end); tag = names.tag }, end))
    (name_end text flow (suc place)) in
    let tagged : Option (Names × ℕ) = option_map
    (λ (t : List ℕ × ℕ). (record { anchor = names.anchor; tag = Some t.0 }, t.1)) (tag_at text flow place) in
    by_test Read (stands_here text 38 names.anchor i) anchored
    (if stands_here text 33 names.tag i then tagged else Some (names, i))
    (λ here r h.
    let m = map_some (name_end text flow (suc place)) _ r h in
    let byte = eqb-true (at text place) 38 (and_parts (at text place == 38) _ here).0 in
    inl (subst (λ (x : Names × ℕ). InOneLine text i x.1) m.2
    (behind_spaces text i m.0 (anchor_line text flow place m.0 byte m.1))))
    (λ no_anchor. by_test Read (stands_here text 33 names.tag i) tagged (Some (names, i))
    (λ here r h.
    let m = map_some (tag_at text flow place) _ r h in
    let byte = eqb-true (at text place) 33 (and_parts (at text place == 33) _ here).0 in
    inl (subst (λ (x : Names × ℕ). InOneLine text i x.1) m.2
    (behind_spaces text i m.0.1 (tag_line text flow place m.0 byte m.1))))
    (λ no_tag r h. inr (ap (λ (x : Names × ℕ). x.1) (same_some (names, i) r h), (no_anchor, no_tag))))
  where
    Read : Option (Names × ℕ) → Type 0
    Read o = (r : Names × ℕ) → o ≡ Some r → Either text names i r.1

both_lines : (text : List ℕ) (i j k : ℕ) → InOneLine text i j → (j ≡ k) ⊎ InOneLine text j k → InOneLine text i k
both_lines text i j k x (inl same) = subst (λ n. InOneLine text i n) same x
both_lines text i j k x (inr y) = record {
  some = omega (arith, x.some, y.some);
  line = line_on text i j k x.line y.line;
  whole = y.whole;
}

-- the names that stand in a place, where any do
pub names_line : (text : List ℕ) (flow : Bool) (i : ℕ) (r : Names × ℕ) → names_at text flow i ≡ Some r
    → (i ≡ r.1) ⊎ InOneLine text i r.1
names_line text flow i r h =
    let t = then_some (one_name text flow (unnamed, i)) (one_name text flow) r h in
    elim (one_line text flow unnamed i t.0 t.1) [
      | inl x ↦ elim (one_line text flow t.0.0 t.0.1 r t.2) [
        | inl y ↦ inr (both_lines text i t.0.1 r.1 x (inr y))
        | inr same ↦ inr (both_lines text i t.0.1 r.1 x (inl same.0))
      ]
      | inr none ↦ elim (one_line text flow t.0.0 t.0.1 r t.2) [
        | inl y ↦ inr (subst (λ n. InOneLine text n r.1) (sym none.0) y)
        | inr same ↦ inl (none.0 ∙ same.0)
      ]
    ]

no_space : (text : List ℕ) (i c : ℕ) → at text i ≡ suc c → suc c ≢ 32 → i + count_while (nat_eq 32) (drop i text) ≡ i
no_space text i c byte other =
    let none : count_while (nat_eq 32) (drop i text) ≡ 0 =
    ap (count_while (nat_eq 32)) (bytes_are text i c byte) ∙ rw (ne_eqb 32 (suc c) (λ e. other (sym e))) refl in
    omega (arith, none)

here_is : (text : List ℕ) (i c : ℕ) → at text i ≡ suc c → suc c ≢ 32 → stands_here text (suc c) None i ≡ false → ⊥
here_is text i c byte other none =
    false≢true (sym none ∙ ap (λ k. at text k == suc c && true) (no_space text i c byte other)
    ∙ ap (λ x. x == suc c && true) byte ∙ same (suc c))
  where
    same : (n : ℕ) → (n == n && true) ≡ true
    same n = grind arith

first_some : (text : List ℕ) (i j : ℕ) → (at text i ≡ 38) ⊎ (at text i ≡ 33) → Either text unnamed i j → i < j
first_some text i j byte (inl x) = x.some
first_some text i j (inl byte) (inr none) = absurd (here_is text i 37 byte (λ e. omega (arith, e)) none.1.0)
first_some text i j (inr byte) (inr none) = absurd (here_is text i 32 byte (λ e. omega (arith, e)) none.1.1)

then_far : (text : List ℕ) (names : Names) (i j : ℕ) → Either text names i j → i ≤ j
then_far text names i j (inl x) = omega (arith, x.some)
then_far text names i j (inr same) = omega (arith, same.0)

-- they begin with this byte
abbrev pub begins_names : ℕ → Bool
begins_names c = c == 38 || c == 33

pub first_byte : (c : ℕ) → begins_names c ≡ true → (c ≡ 38) ⊎ (c ≡ 33)
first_byte c h = elim (or_cases (c == 38) (c == 33) h) [
  | inl e ↦ inl (eqb-true c 38 e)
  | inr e ↦ inr (eqb-true c 33 e)
]

-- where `&` or `!` begins them, some stand there
pub names_some : (text : List ℕ) (flow : Bool) (i : ℕ) (r : Names × ℕ) → (at text i ≡ 38) ⊎ (at text i ≡ 33)
    → names_at text flow i ≡ Some r → i < r.1
names_some text flow i r byte h =
    let t = then_some (one_name text flow (unnamed, i)) (one_name text flow) r h in
    let first = first_some text i t.0.1 byte (one_line text flow unnamed i t.0 t.1) in
    let second = then_far text t.0.0 t.0.1 r.1 (one_line text flow t.0.0 t.0.1 r t.2) in
    omega (arith, first, second)
