-- Data is equal to itself, and a stronger test of values makes a stronger equality.
use Rattle.std.proofs.Common.{◌≡◌, Bool, true, ◌&&◌, refl}
use Rattle.std.specs.Prelude.{nat_eq}
use Rattle.std.specs.Cmp.{bool_eq_equiv, nat_eq_equiv, int_eq_equiv}
use Rattle.std.specs.Cmp.Lexicographic.{nat_list_eq_equiv}
use Rattle.yaml_tree.specs.EqualLaws.{tree_equiv}
use Rattle.yaml_tree.specs.TakeOut.{and_left, and_right}
use Rattle.yaml_tree.specs.Tree.{Tree}
use Rattle.yaml_shape.specs.EqualData.{data_eq, items_eq, entries_eq, data_eq_by, items_eq_by, entries_eq_by}
use Rattle.yaml_shape.specs.PlainData.{PlainData, PlainItems, PlainEntries, any_data, bool_data, char_data, signed_data}
use Rattle.yaml_shape.specs.PlainData.{unsigned_data, text_data, bytes_data, none_data, some_data, unit_data}
use Rattle.yaml_shape.specs.PlainData.{newtype_data, seq_data, tuple_data, map_data, struct_data, variant_data}
use Rattle.yaml_shape.specs.PlainData.{ignored_data, no_items, item, no_entries, entry}

mutual
  -- data is equal to itself
  pub data_eq-refl : (a : PlainData) → data_eq a a ≡ true
  data_eq-refl (any_data a) = tree_equiv.refl a
  data_eq-refl (bool_data a) = bool_eq_equiv.refl a
  data_eq-refl (char_data a) = nat_eq_equiv.refl a
  data_eq-refl (signed_data a) = int_eq_equiv.refl a
  data_eq-refl (unsigned_data a) = nat_eq_equiv.refl a
  data_eq-refl (text_data lent a) = nat_list_eq_equiv.refl a
  data_eq-refl (bytes_data a) = nat_list_eq_equiv.refl a
  data_eq-refl none_data = refl
  data_eq-refl (some_data a) = data_eq-refl a
  data_eq-refl unit_data = refl
  data_eq-refl (newtype_data a) = data_eq-refl a
  data_eq-refl (seq_data a) = items_eq-refl a
  data_eq-refl (tuple_data a) = items_eq-refl a
  data_eq-refl (map_data a) = entries_eq-refl a
  data_eq-refl (struct_data a) = items_eq-refl a
  data_eq-refl (variant_data i a) = λ t. nat_eq_equiv.refl i t && data_eq-refl a t
  data_eq-refl ignored_data = refl

  -- so are lists of data
  pub items_eq-refl : (xs : PlainItems) → items_eq xs xs ≡ true
  items_eq-refl no_items = refl
  items_eq-refl (item a xs) = λ t. data_eq-refl a t && items_eq-refl xs t

  -- so are lists of keys with values
  pub entries_eq-refl : (xs : PlainEntries) → entries_eq xs xs ≡ true
  entries_eq-refl no_entries = refl
  entries_eq-refl (entry k v xs) = λ t. data_eq-refl k t && (data_eq-refl v t && entries_eq-refl xs t)

module _ (strong weak : Tree → Tree → Bool) (weaker : (a b : Tree) → strong a b ≡ true → weak a b ≡ true) where
  mutual
    -- a stronger test of values makes a stronger equality
    pub data_eq-stronger : (a b : PlainData) → data_eq_by strong a b ≡ true → data_eq_by weak a b ≡ true
    data_eq-stronger (any_data a) (any_data b) h = weaker a b h
    data_eq-stronger (bool_data a) (bool_data b) h = h
    data_eq-stronger (char_data a) (char_data b) h = h
    data_eq-stronger (signed_data a) (signed_data b) h = h
    data_eq-stronger (unsigned_data a) (unsigned_data b) h = h
    data_eq-stronger (text_data lent a) (text_data other b) h = h
    data_eq-stronger (bytes_data a) (bytes_data b) h = h
    data_eq-stronger none_data none_data h = refl
    data_eq-stronger (some_data a) (some_data b) h = data_eq-stronger a b h
    data_eq-stronger unit_data unit_data h = refl
    data_eq-stronger (newtype_data a) (newtype_data b) h = data_eq-stronger a b h
    data_eq-stronger (seq_data xs) (seq_data ys) h = items_eq-stronger xs ys h
    data_eq-stronger (tuple_data xs) (tuple_data ys) h = items_eq-stronger xs ys h
    data_eq-stronger (map_data xs) (map_data ys) h = entries_eq-stronger xs ys h
    data_eq-stronger (struct_data xs) (struct_data ys) h = items_eq-stronger xs ys h
    data_eq-stronger (variant_data i a) (variant_data j b) h =
        λ t. and_left (nat_eq i j) _ h t && data_eq-stronger a b (and_right (nat_eq i j) _ h) t
    data_eq-stronger ignored_data ignored_data h = refl
    data_eq-stronger _ _ h = absurd cc

    items_eq-stronger : (xs ys : PlainItems) → items_eq_by strong xs ys ≡ true → items_eq_by weak xs ys ≡ true
    items_eq-stronger no_items no_items h = refl
    items_eq-stronger (item a xs) (item b ys) h =
        λ t. data_eq-stronger a b (and_left (data_eq_by strong a b) _ h) t
        && items_eq-stronger xs ys (and_right (data_eq_by strong a b) _ h) t
    items_eq-stronger _ _ h = absurd cc

    entries_eq-stronger : (xs ys : PlainEntries) → entries_eq_by strong xs ys ≡ true → entries_eq_by weak xs ys ≡ true
    entries_eq-stronger no_entries no_entries h = refl
    entries_eq-stronger (entry k v xs) (entry l w ys) h =
        let more = and_right (data_eq_by strong k l) _ h in
        λ t. data_eq-stronger k l (and_left (data_eq_by strong k l) _ h) t
        && (data_eq-stronger v w (and_left (data_eq_by strong v w) _ more) t
        && entries_eq-stronger xs ys (and_right (data_eq_by strong v w) _ more) t)
    entries_eq-stronger _ _ h = absurd cc
