-- Scalars that stand in a text.
use Rattle.std.proofs.Common.{◌≡◌, ◌≢◌, ℕ, suc, ◌+◌, ◌-◌, ◌<◌, ◌≤◌, ◌==◌, ◌&&◌, Bool, true, List, [], Option, Some}
use Rattle.std.proofs.Common.{None, arith, ap, subst, sym, refl, ◌∙◌, drop, length, take, eq-eqb}
use Rattle.std.specs.Prelude.{if◌then◌else◌, nat_eq, option_map, slice_range, nat_le, nat_lt, not}
use Rattle.std.specs.Option.{is_none}
use Rattle.std.proofs.lemmas.Bool.{false≢true, ltb-true, or_parts}
use Rattle.std.proofs.lemmas.List.{drop_all, drop-drop, drop-take, get_or-drop, get_or-take}
use Rattle.yaml_base.specs.LineBreaks.{IsOneLine}
use Rattle.yaml_base.specs.Places.{place_of}
use Rattle.yaml_base.specs.Position.{Position}
use Rattle.yaml_base.specs.declared.event.ScalarStyle.{ScalarStyle}
use Rattle.yaml_base.specs.declared.event.ScalarStyle.TheVariants as style
use Rattle.yaml_grammar.specs.Bytes.{at}
use Rattle.yaml_grammar.specs.Gaps.{next}
use Rattle.yaml_grammar.specs.Leaves.{Leaf, in_style, leaf_at, leaf_node, to_anchor}
use Rattle.yaml_grammar.specs.Names.{Names, count_while, is_unnamed, name_end, names_at, one_name, tag_at, unnamed}
use Rattle.yaml_grammar.specs.Nodes.{Node, alias, end_mark, mark, no_content, node_events, scalar_at}
use Rattle.yaml_grammar.specs.Plain.{Context}
use Rattle.yaml_reading.proofs.BracketForward.{names_forward, next_ahead}
use Rattle.yaml_reading.proofs.Forward.{leaf_ahead}
use Rattle.yaml_reading.proofs.Options.{either, map_some, no_some, same_some, then_some}
use Rattle.yaml_parse.specs.Places.{IsInPlace}
use Rattle.yaml_checked.proofs.LeavesWithin.{leaf_within}
use Rattle.yaml_checked.proofs.PlainSources.{leaf_says}
use Rattle.yaml_checked.proofs.StandingTapes.{range_long, range_stands}
use Rattle.yaml_checked.proofs.StandingEvents.{StandBetween, placed}
use Rattle.yaml_checked.proofs.TokenPlaces.{IsPlace}
use Rattle.yaml_checked.proofs.WithinText.{names_within, next_within}

-- names that are none take no place
abbrev TakesNone : Names → (i : ℕ) → Option (Names × ℕ) → Type 0
TakesNone names i o =
    (r : Names × ℕ) → o ≡ Some r → r.0.anchor ≡ None → r.0.tag ≡ None
    → (names.anchor ≡ None) × (names.tag ≡ None) × (r.1 ≡ i)

one_takes_none : (text : List ℕ) (flow : Bool) (names : Names) (i : ℕ)
    → TakesNone names i (one_name text flow (names, i))
one_takes_none text flow names i =
    let place = i + count_while (nat_eq 32) (drop i text) in
    let anchored : Option (Names × ℕ) = option_map
    (λ end. (record { anchor = Some (slice_range text (suc place) end); tag = names.tag }, end))
    (name_end text flow (suc place)) in
    let tagged : Option (Names × ℕ) = option_map
    (λ (t : List ℕ × ℕ). (record { anchor = names.anchor; tag = Some t.0 }, t.1)) (tag_at text flow place) in
    either (TakesNone names i) (at text place == 38 && is_none names.anchor) anchored
    (if at text place == 33 && is_none names.tag then tagged else Some (names, i))
    (λ r h anchor tag.
    let m = map_some (name_end text flow (suc place)) _ r h in
    absurd (no_some _ (sym anchor ∙ sym (ap (λ (x : Names × ℕ). x.0.anchor) m.2))))
    (either (TakesNone names i) (at text place == 33 && is_none names.tag) tagged (Some (names, i))
    (λ r h anchor tag.
    let m = map_some (tag_at text flow place) _ r h in
    absurd (no_some _ (sym tag ∙ sym (ap (λ (x : Names × ℕ). x.0.tag) m.2))))
    (λ r h anchor tag.
    let same : (names, i) ≡ r = same_some {A = Names × ℕ} (names, i) r h in (
      ap (λ (x : Names × ℕ). x.0.anchor) same ∙ anchor,
      ap (λ (x : Names × ℕ). x.0.tag) same ∙ tag,
      sym (ap (λ (x : Names × ℕ). x.1) same),
    )))

none_take_none : (text : List ℕ) (flow : Bool) (i p : ℕ) (names : Names) → names_at text flow i ≡ Some (names, p)
    → names.anchor ≡ None → names.tag ≡ None → p ≡ i
none_take_none text flow i p names h anchor tag =
    let t = then_some (one_name text flow (unnamed, i)) (one_name text flow) (names, p) h in
    let second = one_takes_none text flow t.0.0 t.0.1 (names, p) t.2 anchor tag in
    let first = one_takes_none text flow unnamed i t.0 t.1 second.0 second.1 in
    second.2 ∙ first.2

-- no line feed stands in a text of one line
no_feed : (text : List ℕ) (i e k : ℕ) → e ≤ length text → IsOneLine (slice_range text i e) → i ≤ k → k < e
    → at text k ≢ 10
no_feed text i e k within one low less feed =
    let source = slice_range text i e in
    let long = range_long text i e within in
    let there : i + (k - i) ≡ k = omega (arith, low) in
    let first : at (drop (k - i) source) 0 ≡ at text k =
    get_or-drop (k - i) source 0 0 ∙ ap (at source) (omega arith)
    ∙ get_or-take (e - i) (drop i text) (k - i) 0 (omega (arith, low, less)) ∙ get_or-drop i text (k - i) 0
    ∙ ap (at text) there in
    let none = or_parts (at (drop (k - i) source) 0 == 10) _ (one (k - i) (omega (arith, long, low, less))) in
    absurd (false≢true (sym none.0 ∙ eq-eqb (at (drop (k - i) source) 0) 10 (first ∙ feed)))

-- the last part of a range
rest_of_range : (text : List ℕ) (i q e : ℕ) → i ≤ q → q ≤ e → e ≤ length text
    → slice_range text q e
    ≡ drop (length (slice_range text i e) - length (slice_range text q e)) (slice_range text i e)
rest_of_range text i q e low high within =
    let source = slice_range text i e in
    let size : length source - length (slice_range text q e) ≡ q - i =
    omega (arith, range_long text i e within, range_long text q e within, low, high) in
    let parts : e - i ≡ q - i + (e - q) = omega (arith, low, high) in
    let there : i + (q - i) ≡ q = omega (arith, low) in
    sym (ap (λ n. drop n source) size ∙ ap (λ n. drop (q - i) (take n (drop i text))) parts
    ∙ drop-take (q - i) (e - q) (drop i text) ∙ ap (take (e - q)) (drop-drop (q - i) i text)
    ∙ ap (λ n. take (e - q) (drop n text)) there)

scalar_stands : (text : List ℕ) (i q e : ℕ) (names : Names) (how : ScalarStyle) (said : List ℕ) → i ≤ q → q ≤ e
    → e ≤ length text
    → (how ≡ style.Plain → ((k : ℕ) → q ≤ k → k < e → at text k ≢ 10) → said ≡ slice_range text q e)
    → (names.anchor ≡ None → names.tag ≡ None → q ≡ i)
    → StandBetween text i e (node_events (scalar_at text i names how said e))
scalar_stands text i q e names how said low high within says bare =
    let source = slice_range text i e in
    let is : how ≡ style.Plain → IsOneLine source → said ≡ slice_range text q e =
    λ plain one. says plain (λ k from to. no_feed text i e k within one (omega (arith, low, from)) to) in
    let rest : how ≡ style.Plain → IsOneLine source → said ≡ drop (length source - length said) source =
    λ plain one. subst (λ l. l ≡ drop (length source - length l) source) (sym (is plain one))
    (rest_of_range text i q e low high within) in
    let whole : how ≡ style.Plain → IsOneLine source → names.anchor ≡ None → names.tag ≡ None → said ≡ source =
    λ plain one anchor tag. is plain one ∙ ap (λ k. slice_range text k e) (bare anchor tag) in
    let low_high : i ≤ e = omega (arith, low, high) in (
      omega arith,
      record {
        placed = placed text i;
        shown = range_stands text i e low_high within;
        says = λ plain one. (rest plain one, whole plain one);
      },
      low_high,
    )

-- a leaf behind its names, from a token on
pub leaf_stands : (text : List ℕ) (flow : Bool) (context : Context) (i p e : ℕ) (names : Names) (x : Leaf) (n : Node)
    → IsPlace text i → names_at text flow i ≡ Some (names, p) → leaf_at text context (next text p) ≡ Some (x, e)
    → leaf_node text i names x e ≡ Some n → StandBetween text i e (node_events n) × (e ≤ length text)
leaf_stands text flow context i p e names (to_anchor anchor) n place named leaf is =
    let q = next text p in
    let inside = next_within text p (names_within text flow i place.within (names, p) named) in
    let within = leaf_within text context q inside (to_anchor anchor, e) leaf in
    let low : i ≤ e = omega (
      arith,
      names_forward text flow named,
      next_ahead text p,
      leaf_ahead text context q (to_anchor anchor, e) leaf,
    ) in (
      either (λ o. o ≡ Some n → StandBetween text i e (node_events n)) (is_unnamed names)
          (Some (alias (mark text i) anchor)) None
          (λ h. subst (λ m. StandBetween text i e (node_events m)) (same_some _ n h)
          (omega arith, record { placed = placed text i; shown = tt; says = tt }, low))
          (λ h. absurd (no_some n h)) is,
      within,
    )
leaf_stands text flow context i p e names (in_style how said) n place named leaf is =
    let q = next text p in
    let inside = next_within text p (names_within text flow i place.within (names, p) named) in
    let within = leaf_within text context q inside (in_style how said, e) leaf in
    let low : i ≤ q = omega (arith, names_forward text flow named, next_ahead text p) in (
      subst (λ m. StandBetween text i e (node_events m)) (same_some _ n is)
          (scalar_stands text i q e names how said low (leaf_ahead text context q (in_style how said, e) leaf) within
          (leaf_says text context q (in_style how said, e) leaf)
          (λ anchor tag. ap (next text) (none_take_none text flow i p names named anchor tag) ∙ place.here)),
      within,
    )

-- names alone
pub names_stand : (text : List ℕ) (flow : Bool) (i p : ℕ) (names : Names) → i ≤ length text
    → names_at text flow i ≡ Some (names, p) → nat_lt i p ≡ true
    → StandBetween text i p (node_events (no_content (mark text i) names (slice_range text i p))) × (p ≤ length text)
names_stand text flow i p names within named some =
    let less = ltb-true i p some in
    let source = slice_range text i p in
    let inside = names_within text flow i within (names, p) named in
    let low : i ≤ p = omega (arith, less) in
    let none : List ℕ = [] in
    let rest : none ≡ drop (length source - length none) source =
    sym (drop_all (length source - length none) source (omega arith)) in (
      (
        omega arith,
        record {
          placed = placed text i;
          shown = range_stands text i p low inside;
          says = λ plain one. (
            rest,
            λ anchor tag.
                absurd (omega (arith, less, none_take_none text flow i p names named anchor tag)),
          );
        },
        low,
      ),
      inside,
    )

-- nothing, at a mark
pub nothing_stands : (text : List ℕ) (start : Position) → IsInPlace text start → start.index ≤ length text
    → StandBetween text start.index start.index (node_events (no_content start unnamed []))
nothing_stands text start there within =
    let none : List ℕ = [] in
    let i = start.index in
    let size : 0 ≡ i + length none - i = omega arith in (
      omega arith,
      record {
        placed = there;
        shown = (omega (arith, within), ap (λ n. take n (drop i text)) size);
        says = λ plain one. (refl, λ anchor tag. refl);
      },
      omega arith,
    )

-- a scalar that is not plain
pub other_stands : (text : List ℕ) (i e : ℕ) (names : Names) (how : ScalarStyle) (said : List ℕ) → i ≤ e
    → e ≤ length text → (how ≡ style.Plain → ⊥)
    → StandBetween text i e (node_events (scalar_at text i names how said e))
other_stands text i e names how said low within other =
    scalar_stands text i i e names how said (omega arith) low within (λ plain. absurd (other plain))
    (λ anchor tag. refl)

-- where what stands in a column ends
pub end_index : (text : List ℕ) (c j : ℕ) → (end_mark text c j).index ≡ j
end_index text c j =
    let place = place_of text j in
    either (λ (m : Position). m.index ≡ j) (j == length text && (not (place.1 == 0) && nat_le c place.1))
    (record { index = j; line = place.0 + 1; column = 0 }) (mark text j) refl refl
