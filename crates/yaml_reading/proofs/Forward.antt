-- Each leaf ends where it begins or further on.
use Rattle.yaml_grammar.specs.Bytes.{is_mark}
use Rattle.std.proofs.Common.{◌≡◌, ℕ, suc, ◌+◌, ◌≤◌, ◌==◌, ◌&&◌, ◌||◌, not, Bool, false, List, [], ◌∷◌, length}
use Rattle.std.proofs.Common.{Option, Some, None, arith, subst, drop}
use Rattle.std.specs.Prelude.{if◌then◌else◌, nat_eq, nat_lt, option_map, slice_range}
use Rattle.std.specs.Option.{is_none}
use Rattle.yaml_base.specs.QuotedLines.{none}
use Rattle.yaml_base.specs.declared.event.ScalarStyle.{ScalarStyle}
use Rattle.yaml_base.specs.declared.event.ScalarStyle.TheVariants as style
use Rattle.yaml_grammar.specs.BlockTexts.{Header, block_at, block_lines, behind, indent_of, is_remark, no_row, rows}
use Rattle.yaml_grammar.specs.BlockTexts.{header_of, lines_of}
use Rattle.yaml_grammar.specs.Bytes.{at}
use Rattle.yaml_grammar.specs.Folding.{Rest, nothing_passed}
use Rattle.yaml_grammar.specs.Leaves.{Leaf, alias_at, leaf_at, styled}
use Rattle.yaml_grammar.specs.Names.{Handle, Names, core, count_while, ends_name, ends_tag, handle_of, is_name_byte}
use Rattle.yaml_grammar.specs.Names.{is_local, is_tag_byte, is_whole, local, name_end, names_at, one_name, opening_size}
use Rattle.yaml_grammar.specs.Names.{prefix_of, tag_at, tag_end, tag_of, unnamed, verbatim}
use Rattle.yaml_grammar.specs.Plain.{Context, is_flow, plain_at}
use Rattle.yaml_grammar.specs.Quotes.{double_rest, single_rest}
use Rattle.yaml_reading.proofs.Options.{either, map_some, no_some, same_some, then_some}

-- what is answered ends in a place or further on
abbrev Ahead : {A : Type 0} → (i : ℕ) → Option (A × ℕ) → Type 0
Ahead i o = (r : _) → o ≡ Some r → i ≤ r.1

abbrev PlaceAhead : (i : ℕ) → Option ℕ → Type 0
PlaceAhead i o = (e : ℕ) → o ≡ Some e → i ≤ e

none_ahead : {A : Type 0} (i : ℕ) → Ahead {A = A} i None
none_ahead i r h = absurd (no_some r h)

some_ahead : {A : Type 0} (i j : ℕ) (a : A) → i ≤ j → Ahead i (Some (a, j))
some_ahead {A} i j a le r h = subst (λ (x : A × ℕ). i ≤ x.1) (same_some {A = A × ℕ} (a, j) r h) le

name_ahead : (text : List ℕ) (flow : Bool) (i : ℕ) → PlaceAhead i (name_end text flow i)
name_ahead text flow i =
    let size = count_while is_name_byte (drop i text) in
    either (PlaceAhead i) (nat_lt 0 size && (ends_name flow (at text (i + size)) || is_mark text 58 (i + size)))
    (Some (i + size)) None
    (λ e h. subst (λ x. i ≤ x) (same_some _ _ h) (omega arith))
    (λ e h. absurd (no_some e h))

alias_ahead : (text : List ℕ) (flow : Bool) (i : ℕ) → Ahead (suc i) (alias_at text flow (suc i))
alias_ahead text flow i r h =
    let m = map_some (name_end text flow (suc i)) _ r h in
    subst (λ (x : Leaf × ℕ). suc i ≤ x.1) m.2 (name_ahead text flow (suc i) m.0 m.1)

styled_ahead : (how : ScalarStyle) (i : ℕ) (rest : Rest) → Ahead i (styled how i rest)
styled_ahead how i rest r h =
    let m = map_some rest _ r h in
    subst (λ (x : Leaf × ℕ). i ≤ x.1) m.2 (omega arith)

less_ahead : {A : Type 0} (i : ℕ) (o : Option (A × ℕ)) → Ahead (suc i) o → Ahead i o
less_ahead i o f r h = omega (arith, f r h)

pub leaf_ahead : (text : List ℕ) (context : Context) (i : ℕ) → Ahead i (leaf_at text context i)
leaf_ahead text context i =
    let flow = is_flow context in
    let single = single_rest false false nothing_passed (drop (suc i) text) in
    let double = double_rest none false nothing_passed (drop (suc i) text) in
    let first = alias_at text flow (suc i) in
    let second = styled style.SingleQuoted (suc i) single in
    let third = styled style.DoubleQuoted (suc i) double in
    let fourth = styled style.Plain i (plain_at text context i) in
    either (Ahead i) (at text i == 42) first
    (if at text i == 39 then second else if at text i == 34 then third else fourth)
    (less_ahead i first (alias_ahead text flow i))
    (either (Ahead i) (at text i == 39) second (if at text i == 34 then third else fourth)
    (less_ahead i second (styled_ahead style.SingleQuoted (suc i) single))
    (either (Ahead i) (at text i == 34) third fourth
    (less_ahead i third (styled_ahead style.DoubleQuoted (suc i) double))
    (styled_ahead style.Plain i (plain_at text context i))))

end_ahead : (handle : Handle) (i n : ℕ) → i ≤ tag_end handle (i + opening_size handle + n)
end_ahead verbatim i n = omega arith
end_ahead core i n = omega arith
end_ahead local i n = omega arith

tag_ahead : (text : List ℕ) (flow : Bool) (i : ℕ) → Ahead i (tag_at text flow i)
tag_ahead text flow i =
    let handle = handle_of (at text (suc i)) in
    let start = i + opening_size handle in
    let size = count_while (is_tag_byte (is_whole handle)) (drop start text) in
    let stop = start + size in
    let end = tag_end handle stop in
    either (Ahead i)
    ((is_local handle || nat_lt start stop) && ((not (is_whole handle) || at text stop == 62)
    && ends_tag flow (at text end)))
    (option_map (λ t. (t, end)) (tag_of (prefix_of handle) (slice_range text start stop))) None
    (λ r h.
    let m = map_some (tag_of (prefix_of handle) (slice_range text start stop)) (λ t. (t, end)) r h in
    subst (λ (x : List ℕ × ℕ). i ≤ x.1) m.2 (end_ahead handle i size))
    (none_ahead i)

one_ahead : (text : List ℕ) (flow : Bool) (names : Names) (i : ℕ) → Ahead i (one_name text flow (names, i))
one_ahead text flow names i =
    let place = i + count_while (nat_eq 32) (drop i text) in
    let anchored : Option (Names × ℕ) = option_map
    (λ end. (record { anchor = Some (slice_range text (suc place) end); tag = names.tag }, end))
    (name_end text flow (suc place)) in
    let tagged : Option (Names × ℕ) = option_map
    (λ (t : List ℕ × ℕ). (record { anchor = names.anchor; tag = Some t.0 }, t.1)) (tag_at text flow place) in
    either (Ahead i) (at text place == 38 && is_none names.anchor) anchored
    (if at text place == 33 && is_none names.tag then tagged else Some (names, i))
    (λ r h.
    let m = map_some (name_end text flow (suc place)) _ r h in
    subst (λ (x : Names × ℕ). i ≤ x.1) m.2 (omega (arith, name_ahead text flow (suc place) m.0 m.1)))
    (either (Ahead i) (at text place == 33 && is_none names.tag) tagged (Some (names, i))
    (λ r h.
    let m = map_some (tag_at text flow place) _ r h in
    subst (λ (x : Names × ℕ). i ≤ x.1) m.2 (omega (arith, tag_ahead text flow place m.0 m.1)))
    (some_ahead i i names (omega arith)))

pub names_ahead : (text : List ℕ) (flow : Bool) (i : ℕ) → Ahead i (names_at text flow i)
names_ahead text flow i r h =
    let t = then_some (one_name text flow (unnamed, i)) (one_name text flow) r h in
    omega (arith, one_ahead text flow unnamed i t.0 t.1, one_ahead text flow t.0.0 t.0.1 r t.2)

-- a block's first place comes first
abbrev BlockAhead : (i : ℕ) → Option (ℕ × List ℕ) → Type 0
BlockAhead i o = (r : ℕ × List ℕ) → o ≡ Some r → i ≤ r.0

lines_ahead : (folds : Bool) (header : Header) (least place : ℕ) (lines : List (List ℕ))
    → BlockAhead place (block_lines folds header least place lines)
lines_ahead folds header least place [] r h = absurd (no_some r h)
lines_ahead folds header least place (line ∷ []) r h =
    either (BlockAhead place) (is_remark line) (Some (place + length line, [])) None
    (λ r h. subst (λ (x : ℕ × List ℕ). place ≤ x.0) (same_some (place + length line, []) r h) (omega arith))
    (λ r h. absurd (no_some r h)) r h
lines_ahead folds header least place (line ∷ (first ∷ lines)) r h =
    either (BlockAhead place) (is_remark line)
    (option_map
    (λ indent. behind (place + length line + 1) (rows folds header.chomping indent no_row 0 (first ∷ lines)))
    (indent_of header least (first ∷ lines))) None
    (λ r h.
    let m = map_some (indent_of header least (first ∷ lines)) _ r h in
    subst (λ (x : ℕ × List ℕ). place ≤ x.0) m.2 (omega arith))
    (λ r h. absurd (no_some r h)) r h

pub block_ahead : (text : List ℕ) (least i : ℕ) (r : ℕ × List ℕ) → block_at text least i ≡ Some r → i ≤ r.0
block_ahead text least i =
    let header = header_of (drop (suc i) text) in
    let place = suc i + header.size in
    let lines = lines_of (drop place text) in
    either (BlockAhead i) (at text i == 124 || at text i == 62) (block_lines (at text i == 62) header least place lines)
    None
    (λ r h. omega (arith, lines_ahead (at text i == 62) header least place lines r h))
    (λ r h. absurd (no_some r h))
