-- What is left of items and pairs.
use Rattle.std.proofs.Common.{◌≡◌, ℕ, zero, suc, ◌+◌, ◌<◌, ◌≤◌, List, [], ◌∷◌, ap, ◌∙◌, arith, drop, get_or, length}
use Rattle.std.proofs.Common.{refl, sym, subst}
use Rattle.std.proofs.lemmas.List.{at_drop_more, at_drop_all}
use Rattle.yaml_value.specs.PlainValue.{no_items, item, PlainPairs, no_pairs, pair}
use Rattle.yaml_value.specs.View.{entry_pairs, plain, plain_entry, plain_items}
use Rattle.yaml_value.specs.declared.mapping.Entry.{Entry}
use Rattle.yaml_value.specs.declared.value.Value.{Value}

pub items_turn : (xs : List Value) (i : ℕ) (d : Value) → i < length xs → d ≡ get_or xs i d
    → plain_items (drop i xs) ≡ item (plain d) (plain_items (drop (i + 1) xs))
items_turn xs i d lt is =
    at_drop_more plain_items xs i d lt ∙ ap (λ x. item (plain x) (plain_items (drop (i + 1) xs))) (sym is)

pub items_end : (xs : List Value) (i : ℕ) → length xs ≤ i → plain_items (drop i xs) ≡ no_items
items_end xs i le = at_drop_all plain_items xs i le

-- the pairs without the first ones
abbrev pub pairs_behind : ℕ → PlainPairs → PlainPairs
pairs_behind zero ps = ps
pairs_behind (suc n) no_pairs = no_pairs
pairs_behind (suc n) (pair k v ps) = pairs_behind n ps

pub pairs_turn : (es : List Entry) (n : ℕ) (d : Entry) → n < length es → d ≡ get_or es n d
    → pairs_behind n (entry_pairs es) ≡ pair (plain_entry d).0 (plain_entry d).1 (pairs_behind (n + 1) (entry_pairs es))
pairs_turn [] n d lt is = absurd (omega (arith, lt))
pairs_turn (x ∷ es) zero d lt is = λ j. pair (plain_entry (sym is j)).0 (plain_entry (sym is j)).1 (entry_pairs es)
pairs_turn (x ∷ es) (suc n) d lt is =
    let e : suc (n + 1) ≡ suc n + 1 = omega arith in
    pairs_turn es n d (omega (arith, lt)) is
    ∙ ap (λ m. pair (plain_entry d).0 (plain_entry d).1 (pairs_behind m (entry_pairs (x ∷ es)))) e

pub pairs_end : (es : List Entry) (n : ℕ) → length es ≤ n → pairs_behind n (entry_pairs es) ≡ no_pairs
pairs_end [] zero le = refl
pairs_end [] (suc n) le = refl
pairs_end (x ∷ es) zero le = absurd (omega (arith, le))
pairs_end (x ∷ es) (suc n) le = pairs_end es n (omega (arith, le))

-- the same of pairs that are those of a list of entries
pub turn_of : (es : List Entry) (ps : PlainPairs) (n : ℕ) (d : Entry) → entry_pairs es ≡ ps
    → (n < length es) × (d ≡ get_or es n d)
    → pairs_behind n ps ≡ pair (plain_entry d).0 (plain_entry d).1 (pairs_behind (n + 1) ps)
turn_of es ps n d e h =
    subst (λ qs. pairs_behind n qs ≡ pair (plain_entry d).0 (plain_entry d).1 (pairs_behind (n + 1) qs)) e
    (pairs_turn es n d h.0 h.1)

pub end_of : (es : List Entry) (ps : PlainPairs) (n : ℕ) → entry_pairs es ≡ ps → length es ≤ n
    → pairs_behind n ps ≡ no_pairs
end_of es ps n e le = subst (λ qs. pairs_behind n qs ≡ no_pairs) e (pairs_end es n le)
