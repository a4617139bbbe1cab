-- Entries that stand for the same: they stay so with one more at the end of each, and copies are sound.
use Rattle.std.specs.Prelude.{◌≡◌, ℕ, ◌+◌, ◌<◌, ◌≤◌, List, [], ◌∷◌, ◌++◌, length, map}
use Rattle.std.proofs.Common.{ap, sym, ◌∙◌, subst, get_or, take}
use Rattle.std.proofs.lemmas.List.{map_push, take_all, take_more}
use Rattle.yaml_value.specs.Entries.{SameEntry}
use Rattle.yaml_value.specs.Index.{IsSound, earliers_of, lasts_of}
use Rattle.yaml_value.specs.PlainValue.{with_last}
use Rattle.yaml_value.specs.View.{entry_pairs, plain_entry}
use Rattle.yaml_value.specs.declared.mapping.Entry.{Entry}
use Rattle.yaml_value.proofs.Indexed.{SameEntries, sound-copies}
use Rattle.yaml_value.proofs.Views.{entry_pairs-push}

-- so are entries that are equal to copies
pub same-is : (xs ys zs : List Entry) → xs ≡ ys → SameEntries ys zs → SameEntries xs zs
same-is xs ys zs is same = subst (λ es. SameEntries es zs) (sym is) same

numbers-alike : (f : Entry → ℕ) (vs ws : List Entry) (v w : Entry) → map f vs ≡ map f ws → f v ≡ f w
    → map f (vs ++ v ∷ []) ≡ map f (ws ++ w ∷ [])
numbers-alike f vs ws v w e g = map_push f vs v ∙ ((λ i. e i ++ g i ∷ []) ∙ sym (map_push f ws w))

pairs-alike : (vs ws : List Entry) (v w : Entry) → entry_pairs vs ≡ entry_pairs ws → plain_entry v ≡ plain_entry w
    → entry_pairs (vs ++ v ∷ []) ≡ entry_pairs (ws ++ w ∷ [])
pairs-alike vs ws v w e f =
    entry_pairs-push vs v ∙ ((λ i. with_last (e i) (f i).0 (f i).1) ∙ sym (entry_pairs-push ws w))

-- copies of the first entries, with a copy of the next one
pub entries-more : (copies es : List Entry) (i : ℕ) (v w : Entry) → SameEntries copies (take i es)
    → i < length es → w ≡ get_or es i w → SameEntry v w
    → SameEntries (copies ++ v ∷ []) (take (i + 1) es)
entries-more copies es i v w e lt is f =
    let more : take i es ++ w ∷ [] ≡ take (i + 1) es =
    ap (λ x. take i es ++ x ∷ []) is ∙ sym (take_more es i w lt) in (
      pairs-alike copies (take i es) v w e.0 f.0 ∙ ap entry_pairs more,
      numbers-alike (λ x. x.last) copies (take i es) v w e.1 f.1 ∙ ap lasts_of more,
      numbers-alike (λ x. x.earlier) copies (take i es) v w e.2 f.2 ∙ ap earliers_of more,
    )

-- copies of all entries have their pairs, and are sound as they are
pub copied-all : (copies xs es : List Entry) (i : ℕ) → xs ≡ es → length xs ≤ i → SameEntries copies (take i xs)
    → IsSound es → (entry_pairs copies ≡ entry_pairs es) × IsSound copies
copied-all copies xs es i is end same sound =
    let whole : SameEntries copies es = subst (SameEntries copies) (take_all i xs end ∙ is) same in
    (whole.0, sound-copies es copies whole sound)
