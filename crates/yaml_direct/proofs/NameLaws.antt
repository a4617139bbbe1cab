-- Names before a node, byte by byte.
use Rattle.std.proofs.Common.{ℕ, zero, suc, ◌+◌, ◌-◌, ◌<◌, ◌≤◌, ◌≡◌, ◌≢◌, ◌==◌, ◌&&◌, Bool, true, false}
use Rattle.std.proofs.Common.{List, [], ◌∷◌, Option, Some, None, refl, sym, ap, ◌∙◌, arith, drop, get_or}
use Rattle.std.proofs.Common.{length, take, nat_eq}
use Rattle.std.proofs.lemmas.Bool.{ne_eqb}
use Rattle.std.proofs.lemmas.List.{get_or-drop, get_or-take, length-drop}
use Rattle.std.specs.Option.{is_none, option_and_then, option_map}
use Rattle.std.specs.Prelude.{if◌then◌else◌, slice_range}
use Rattle.yaml_direct.specs.Bytes.{AreBlanks, at}
use Rattle.yaml_grammar.specs.Names.{Names, count_while, name_end, names_at, one_name, tag_at}
use Rattle.yaml_grammar.specs.Names.{unnamed}

-- a part of a text, byte by byte
pub item_at : (text : List ℕ) (from n : ℕ) → from + n < length text
    → at (take (length text - from) (drop from text)) n ≡ at text (from + n)
item_at text from n inside =
    get_or-take (length text - from) (drop from text) n 0 (omega (arith, inside)) ∙ get_or-drop from text n 0

-- so many bytes pass a test
pub count_is : (test : ℕ → Bool) (xs : List ℕ) (n : ℕ) → n ≤ length xs
    → ((k : ℕ) → k < n → test (get_or xs k 0) ≡ true) → (n < length xs → test (get_or xs n 0) ≡ false)
    → count_while test xs ≡ n
count_is test [] zero le all stop = refl
count_is test [] (suc n) le all stop = absurd (omega (arith, le))
count_is test (x ∷ xs) zero le all stop = rw (stop (omega arith)) refl
count_is test (x ∷ xs) (suc n) le all stop =
    rw (all 0 (omega arith))
    (ap suc (count_is test xs n (omega (arith, le)) (λ k h. all (suc k) (omega (arith, h)))
    (λ h. stop (omega (arith, h)))))

-- and in a text from a place on
pub count_here : (test : ℕ → Bool) (text : List ℕ) (from n : ℕ) → from + n ≤ length text
    → ((k : ℕ) → from ≤ k → k < from + n → test (at text k) ≡ true)
    → (from + n < length text → test (at text (from + n)) ≡ false)
    → from + n ≡ from + count_while test (drop from text)
count_here test text from n within all stop =
    let size = length-drop from text in
    ap (λ m. from + m) (sym (count_is test (drop from text) n (omega (arith, size, within))
    (λ k h. ap test (get_or-drop from text k 0) ∙ all (from + k) (omega arith) (omega (arith, h)))
    (λ h. ap test (get_or-drop from text n 0) ∙ stop (omega (arith, h, size)))))

pub spaces_are : (text : List ℕ) (from place : ℕ) → from ≤ place → place ≤ length text → AreBlanks text from place
    → at text place ≢ 32 → place ≡ from + count_while (nat_eq 32) (drop from text)
spaces_are text from place low within blank over =
    let there : from + (place - from) ≡ place = omega (arith, low) in
    sym there
    ∙ count_here (nat_eq 32) text from (place - from) (omega (arith, there, within))
    (λ k a b. ap (nat_eq 32) (blank k a (omega (arith, b, there))))
    (λ _. ap (λ k. nat_eq 32 (at text k)) there ∙ other (at text place) over)
  where
    other : (c : ℕ) → c ≢ 32 → nat_eq 32 c ≡ false
    other c e = ne_eqb 32 c (λ f. e (sym f))

-- names with an anchor, or with a tag
abbrev pub anchored : List ℕ → Option (List ℕ) → (start end : ℕ) → Names × ℕ
anchored text tag start end = (record { anchor = Some (slice_range text start end); tag = tag }, end)

abbrev pub tagged : Option (List ℕ) → List ℕ × ℕ → Names × ℕ
tagged anchor t = (record { anchor = anchor; tag = Some t.0 }, t.1)

-- an anchor, a tag, or neither
pub an_anchor : (text : List ℕ) (flow : Bool) (from place : ℕ) (anchor tag : Option (List ℕ))
    → place ≡ from + count_while (nat_eq 32) (drop from text) → (at text place == 38 && is_none anchor) ≡ true
    → one_name text flow (record { anchor = anchor; tag = tag }, from)
    ≡ option_map (anchored text tag (place + 1))
    (name_end text flow (place + 1))
an_anchor text flow from place anchor tag there is =
    let one : place + 1 ≡ suc place = omega arith in
    by_place (from + count_while (nat_eq 32) (drop from text)) (sym there)
    ∙ ap (λ k. option_map (anchored text tag k)
    (name_end text flow k)) (sym one)
  where
    by_place : (k : ℕ) → k ≡ place
        → (if at text k == 38 && is_none anchor then
        option_map (anchored text tag (suc k))
        (name_end text flow (suc k))
        else if at text k == 33 && is_none tag then
        option_map (tagged anchor) (tag_at text flow k)
        else Some (record { anchor = anchor; tag = tag }, from))
        ≡ option_map (anchored text tag (suc place))
        (name_end text flow (suc place))
    by_place k same = rw (same, is) refl

pub a_tag : (text : List ℕ) (flow : Bool) (from place : ℕ) (anchor tag : Option (List ℕ))
    → place ≡ from + count_while (nat_eq 32) (drop from text) → (at text place == 38 && is_none anchor) ≡ false
    → (at text place == 33 && is_none tag) ≡ true
    → one_name text flow (record { anchor = anchor; tag = tag }, from)
    ≡ option_map (tagged anchor) (tag_at text flow place)
a_tag text flow from place anchor tag there other is =
    by_place (from + count_while (nat_eq 32) (drop from text)) (sym there)
  where
    by_place : (k : ℕ) → k ≡ place
        → (if at text k == 38 && is_none anchor then
        option_map (anchored text tag (suc k))
        (name_end text flow (suc k))
        else if at text k == 33 && is_none tag then
        option_map (tagged anchor) (tag_at text flow k)
        else Some (record { anchor = anchor; tag = tag }, from))
        ≡ option_map (tagged anchor) (tag_at text flow place)
    by_place k same = rw (same, other, is) refl

pub neither : (text : List ℕ) (flow : Bool) (from place : ℕ) (anchor tag : Option (List ℕ))
    → place ≡ from + count_while (nat_eq 32) (drop from text) → (at text place == 38 && is_none anchor) ≡ false
    → (at text place == 33 && is_none tag) ≡ false
    → one_name text flow (record { anchor = anchor; tag = tag }, from)
    ≡ Some (record { anchor = anchor; tag = tag }, from)
neither text flow from place anchor tag there other none =
    by_place (from + count_while (nat_eq 32) (drop from text)) (sym there)
  where
    by_place : (k : ℕ) → k ≡ place
        → (if at text k == 38 && is_none anchor then
        option_map (anchored text tag (suc k))
        (name_end text flow (suc k))
        else if at text k == 33 && is_none tag then
        option_map (tagged anchor) (tag_at text flow k)
        else Some (record { anchor = anchor; tag = tag }, from))
        ≡ Some (record { anchor = anchor; tag = tag }, from)
    by_place k same = rw (same, other, none) refl

-- one name behind another
pub both_names : (text : List ℕ) (flow : Bool) (from end : ℕ) (none mid : Names) (last : Option (Names × ℕ))
    → none ≡ unnamed → one_name text flow (none, from) ≡ Some (mid, end) → one_name text flow (mid, end) ≡ last
    → names_at text flow from ≡ last
both_names text flow from end none mid last e first second =
    ap (λ n. option_and_then (one_name text flow) (one_name text flow (n, from))) (sym e)
    ∙ ap (option_and_then (one_name text flow)) first
    ∙ second

pub no_first_name : (text : List ℕ) (flow : Bool) (from : ℕ) (none : Names) → none ≡ unnamed
    → one_name text flow (none, from) ≡ None → names_at text flow from ≡ None
no_first_name text flow from none e first =
    ap (λ n. option_and_then (one_name text flow) (one_name text flow (n, from))) (sym e)
    ∙ ap (option_and_then (one_name text flow)) first

-- what a reader holds behind an anchor, and behind a tag
pub anchor_held : (text : List ℕ) (flow : Bool) (from place end : ℕ) (anchor tag : Option (List ℕ)) (now : Names)
    → place ≡ from + count_while (nat_eq 32) (drop from text) → (at text place == 38 && is_none anchor) ≡ true
    → name_end text flow (place + 1) ≡ Some end
    → now ≡ record { anchor = Some (slice_range text (place + 1) end); tag = tag }
    → one_name text flow (record { anchor = anchor; tag = tag }, from) ≡ Some (now, end)
anchor_held text flow from place end anchor tag now there is name held =
    an_anchor text flow from place anchor tag there is
    ∙ ap (option_map (anchored text tag (place + 1))) name
    ∙ ap (λ n. Some (n, end)) (sym held)

pub tag_held : (text : List ℕ) (flow : Bool) (from place end : ℕ) (anchor tag : Option (List ℕ)) (said : List ℕ)
    (now : Names) → place ≡ from + count_while (nat_eq 32) (drop from text)
    → (at text place == 38 && is_none anchor) ≡ false → (at text place == 33 && is_none tag) ≡ true
    → tag_at text flow place ≡ Some (said, end) → now ≡ record { anchor = anchor; tag = Some said }
    → one_name text flow (record { anchor = anchor; tag = tag }, from) ≡ Some (now, end)
tag_held text flow from place end anchor tag said now there other is read held =
    a_tag text flow from place anchor tag there other is
    ∙ ap (option_map (tagged anchor)) read
    ∙ ap (λ n. Some (n, end)) (sym held)
