-- What the readers of brackets do where tests are known.
use Rattle.std.proofs.Common.{◌≡◌, ℕ, zero, suc, ◌==◌, Bool, true, List, [], ◌∷◌, ◌++◌, Option}
use Rattle.std.proofs.Common.{None, refl, sym, ap, ap₂, ◌∙◌, codes, append_assoc, append-nil}
use Rattle.std.specs.Prelude.{option_and_then}
use Rattle.yaml_grammar.specs.Brackets.{has_colon}
use Rattle.yaml_grammar.specs.Bytes.{at, is_one_of}
use Rattle.yaml_grammar.specs.Gaps.{breaks, next}
use Rattle.yaml_grammar.specs.Names.{Names, names_at}
use Rattle.yaml_grammar.specs.Nodes.{Marked}
use Rattle.yaml_reading.specs.BracketReader.{brackets_at, brackets_step, entry_at, entry_step, flow_at, flow_behind}
use Rattle.yaml_reading.specs.BracketReader.{flow_step, is_pair, item_at, item_step, pair_at, pair_begun, pair_ended}
use Rattle.yaml_reading.specs.BracketReader.{pair_item_at, pair_step, parts_at, parts_step, value_at, value_step}
use Rattle.yaml_reading.specs.Readers.{Collections, Read, Reader, and_then, no_more, opens}

pub flow_behind_is : (text : List ℕ) (brackets : Collections) (es : List Marked) (i : ℕ) (names : Names) (p : ℕ)
    (x y z : Bool) → breaks text p ≡ x → opens (at text (next text p)) ≡ y
    → is_one_of (codes ",]}:") (at text (next text p)) ≡ z
    → flow_behind text brackets es i names p ≡ flow_step text brackets es i names p x y z
unfolding flow_behind
flow_behind_is text brackets es i names p x y z e f g =
    ap (λ b. flow_step text brackets es i names p b (opens (at text (next text p)))
    (is_one_of (codes ",]}:") (at text (next text p)))) e
    ∙ ap₂ (flow_step text brackets es i names p x) f g

pub flow_is : (text : List ℕ) (brackets : Collections) (es : List Marked) (i : ℕ) (r : Option (Names × ℕ))
    → names_at text true i ≡ r
    → flow_at text brackets es i ≡ option_and_then (λ x. flow_behind text brackets es i x.0 x.1) r
unfolding flow_at
flow_is text brackets es i r h = ap (option_and_then (λ x. flow_behind text brackets es i x.0 x.1)) h

pub value_is : (text : List ℕ) (flow : Reader) (es : List Marked) (i : ℕ) (x : Bool)
    → is_one_of (codes ",]}") (at text i) ≡ x → value_at text flow es i ≡ value_step text flow es i x
unfolding value_at
value_is text flow es i x e = ap (value_step text flow es i) e

pub pair_at_is : (text : List ℕ) (flow : Reader) (es : List Marked) (i : ℕ) (r : Read) → flow es i ≡ r
    → pair_at text flow es i ≡ and_then r (λ ks k. pair_step text flow ks k (has_colon text i k))
unfolding pair_at
pair_at_is text flow es i r h = ap (λ r. and_then r (λ ks k. pair_step text flow ks k (has_colon text i k))) h

pub entry_is : (text : List ℕ) (flow : Reader) (es : List Marked) (i : ℕ) (r : Read) → flow es i ≡ r
    → entry_at text flow es i ≡ and_then r (λ ks k. entry_step text flow ks k (has_colon text i k))
unfolding entry_at
entry_is text flow es i r h = ap (λ r. and_then r (λ ks k. entry_step text flow ks k (has_colon text i k))) h

pub item_is : (text : List ℕ) (flow pair : Reader) (es : List Marked) (i : ℕ) (r : Read) → flow es i ≡ r
    → item_at text flow pair es i ≡ and_then r (λ ks k. item_step pair es i ks k (is_pair text i k))
unfolding item_at
item_is text flow pair es i r h = ap (λ r. and_then r (λ ks k. item_step pair es i ks k (is_pair text i k))) h

-- the parts behind the next one
abbrev pub more_parts : List ℕ → (close : ℕ) → (part : Reader) → (turns : ℕ) → Reader
more_parts text close part zero = no_more
more_parts text close part (suc n) = parts_at text close part n

pub parts_are : (text : List ℕ) (close : ℕ) (part : Reader) (n : ℕ) (es : List Marked) (i : ℕ) (x : Bool)
    → (at text i == close) ≡ x
    → parts_at text close part n es i ≡ parts_step text close part (more_parts text close part n) es i x
unfolding parts_at
parts_are text close part zero es i x e = ap (parts_step text close part no_more es i) e
parts_are text close part (suc n) es i x e = ap (parts_step text close part (parts_at text close part n) es i) e

-- the readers of items and entries within so many nestings
abbrev pub items_within : List ℕ → (nestings : ℕ) → Reader
items_within text d = item_at text (flow_at text (brackets_at text d)) (pair_item_at text d)

abbrev pub entries_within : List ℕ → (nestings : ℕ) → Reader
entries_within text d = entry_at text (flow_at text (brackets_at text d))

pub brackets_are : (text : List ℕ) (d : ℕ) (names : Names) (i : ℕ) (es : List Marked) (k : ℕ) (x y : Bool)
    → (at text k == 91) ≡ x → (at text k == 123) ≡ y
    → brackets_at text (suc d) names i es k
    ≡ brackets_step text (items_within text d) (entries_within text d) names i es k x y
unfolding brackets_at
brackets_are text d names i es k x y e f =
    ap₂ (brackets_step text (items_within text d) (entries_within text d) names i es k) e f

pub no_brackets : (text : List ℕ) (names : Names) (i : ℕ) (es : List Marked) (k : ℕ)
    → ◌≡◌ {A = Read} (brackets_at text zero names i es k) None
unfolding brackets_at
no_brackets text names i es k = refl

pub pair_item_is : (text : List ℕ) (d : ℕ) (es : List Marked) (i : ℕ) → pair_item_at text (suc d) es i
    ≡ pair_ended text (pair_at text (flow_at text (brackets_at text d)) (pair_begun text es i) i)
unfolding brackets_at
pair_item_is text d es i = refl

pub no_pair_item : (text : List ℕ) (es : List Marked) (i : ℕ) → ◌≡◌ {A = Read} (pair_item_at text zero es i) None
unfolding brackets_at
no_pair_item text es i = refl

-- the events of a collection between those that begin and end it
pub between : (es xs : List Marked) (a b : Marked)
    → ((es ++ a ∷ []) ++ xs) ++ b ∷ [] ≡ es ++ (a ∷ (xs ++ b ∷ []))
between es xs a b = ap (λ l. l ++ b ∷ []) (append_assoc es (a ∷ []) xs) ∙ append_assoc es (a ∷ xs) (b ∷ [])

-- the events of a mapping that is one pair
pub one_pair : (es ys xs : List Marked) (a b : Marked)
    → (((es ++ a ∷ []) ++ ys) ++ xs) ++ b ∷ [] ≡ es ++ (a ∷ ((ys ++ (xs ++ [])) ++ b ∷ []))
one_pair es ys xs a b =
    ap (λ l. l ++ b ∷ [])
    (append_assoc (es ++ a ∷ []) ys xs ∙ ap (λ l. (es ++ a ∷ []) ++ (ys ++ l)) (sym (append-nil xs)))
    ∙ between es (ys ++ (xs ++ [])) a b
