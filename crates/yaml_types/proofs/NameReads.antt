-- Names on a tape: words, and the variants without a content that they name.
use Rattle.std.proofs.Common.{◌≡◌, ℕ, zero, suc, ◌+◌, ◌<◌, List, [], ◌∷◌, map, Bool, true, false, refl, sym, ◌∙◌, ap}
use Rattle.std.proofs.Common.{subst, arith, length, get_or, string_bytes, String}
use Rattle.std.specs.Prelude.{Option, None, Some, Result, Ok, Err, IfOk, bytes_eq, drop, slice_get, if◌then◌else◌}
use Rattle.std.specs.Prelude.{Vec}
use Rattle.std.specs.Result.{result_ok}
use Rattle.std.specs.Option.{option_map}
use Rattle.std.specs.Str.{IsUtf8}
use Rattle.std.specs.declared.alloc.Global.{Global}
use Rattle.std.proofs.lemmas.List.{drop_more}
use Rattle.yaml_base.specs.DocTree.{word}
use Rattle.yaml_base.specs.PlainDocEvent.{a_scalar}
use Rattle.yaml_shape.specs.Join.{joined_all, raised_variants}
use Rattle.yaml_shape.specs.PlainData.{PlainData, unit_data, variant_data}
use Rattle.yaml_shape.specs.PlainShape.{unit_variant, enum_shape}
use Rattle.yaml_meaning.specs.Meaning.{Means, means_node, means_scalar}
use Rattle.yaml_meaning.specs.Variants.{variant_named}
use Rattle.yaml_scalar.proofs.TextLaws.{bytes-there}
use Rattle.yaml_tape.specs.OnDocs.{bare, docs_from}
use Rattle.yaml_tape.specs.declared.tape.Tape.{Tape}
use Rattle.yaml_tape.specs.declared.entry.Entry.{Entry}
use Rattle.yaml_types.specs.Choices.{Content, no_content, types_in, all_types, VariantNames}
use Rattle.yaml_types.specs.Choices.{variants_behind, enum_start, variant_names}
use Rattle.yaml_types.specs.NodeMeans.{NodeMeans}
use Rattle.yaml_types.specs.Rows.{total}
use Rattle.yaml_types.specs.Tables.{IsShapeIn}
use Rattle.yaml_types.specs.TapeNames.{IsWord, place_in, IsBareValue}
use Rattle.yaml_types.proofs.LeafReads.{Stands}
use Rattle.yaml_types.proofs.TableLaws.{last_shape}

-- the word of the entry in a place
pub word_there : (t : Tape) (place : ℕ) (e : Entry) (text : List ℕ) → Stands t place e → IsUtf8 (bare t e).text
    → text ≡ (bare t e).text → IsWord t place text
word_there t place e text there utf8 same = record {
  scalar = bare t e;
  there = there;
  untagged = refl;
  says = sym (bytes-there (bare t e).text utf8) ∙ ap Some (sym same);
}

-- ---- the place of a name, as the code goes over names
abbrev pub place_behind : ℕ → Option ℕ → Option ℕ
place_behind n = option_map (λ i. n + i)

behind_next : (n : ℕ) (o : Option ℕ) → place_behind n (option_map suc o) ≡ place_behind (n + 1) o
behind_next n None = refl
behind_next n (Some i) = let same : n + suc i ≡ (n + 1) + i = omega arith in ap Some same

pub none_before : (o : Option ℕ) → o ≡ place_behind 0 o
none_before None = refl
none_before (Some i) = let same : i ≡ 0 + i = omega arith in ap Some same

module _ {A : Type 0} (name : A → List ℕ) (names : List A) (text : List ℕ) (place : ℕ) (d : A)
    (within : place < length names)
    (before : place_in (map name names) text ≡ place_behind place (place_in (map name (drop place names)) text)) where
  -- another name is passed
  pub name_passed : bytes_eq (name (get_or names place d)) text ≡ false
      → place_in (map name names) text ≡ place_behind (place + 1) (place_in (map name (drop (place + 1) names)) text)
  name_passed other =
      before ∙ rw (drop_more names place d within, other)
      (behind_next place (place_in (map name (drop (place + 1) names)) text))

  -- the name is found
  pub name_found : bytes_eq (name (get_or names place d)) text ≡ true → Some place ≡ place_in (map name names) text
  name_found same =
      rw (before, drop_more names place d within, same)
      (let here : place ≡ place + 0 = omega arith in ap Some here)

-- what an answer holds that is there, what is taken of it holds
pub ok_there : {A E : Type 0} (r : Result A E) (P : A → Type 0) (x : A) → IfOk r P → Some x ≡ result_ok r → P x
ok_there (Ok y) P x h e = let same : y ≡ x = cc in subst P same h
ok_there (Err f) P x h e = absurd cc

-- ---- variants
first_names : (names : List (String Global × Vec (String Global) Global))
    → map (λ n. n.0) (variant_names names) ≡ map (λ n. string_bytes n.0) names
first_names [] = refl
first_names (n ∷ names) = ap (λ l. string_bytes n.0 ∷ l) (first_names names)

chosen : (b : Bool) (o : Option ℕ) (i : ℕ) → (if b then Some zero else option_map suc o) ≡ Some (suc i)
    → (b ≡ false) × (o ≡ Some i)
chosen true o i h = absurd cc
chosen false None i h = absurd cc
chosen false (Some j) i h = (refl, let same : Some (suc j) ≡ Some (suc i) = h in cc)

first_chosen : (b : Bool) (o : Option ℕ) → (if b then Some zero else option_map suc o) ≡ Some zero → b ≡ true
first_chosen true o h = refl
first_chosen false None h = absurd cc
first_chosen false (Some j) h = absurd cc

-- a name finds the variant in its place, which holds nothing
bare_named : (by size : ℕ) (names : List VariantNames) (cs : List Content) (text : List ℕ) (i : ℕ)
    → place_in (map (λ n. n.0) names) text ≡ Some i → slice_get cs i ≡ Some no_content
    → variant_named (raised_variants by (variants_behind size names cs)) text ≡ Some (i, unit_variant)
bare_named by size [] cs text i h k = absurd cc
bare_named by size (n ∷ ns) [] text i h k = absurd cc
bare_named by size (n ∷ ns) (c ∷ cs) text zero h k =
    let same : bytes_eq n.0 text ≡ true =
    first_chosen (bytes_eq n.0 text) (place_in (map (λ n. n.0) ns) text) h in
    let none : c ≡ no_content = cc in
    rw (same, none) refl
bare_named by size (n ∷ ns) (c ∷ cs) text (suc i) h k =
    let (other, rest) = chosen (bytes_eq n.0 text) (place_in (map (λ n. n.0) ns) text) i h in
    let found : variant_named (raised_variants by (variants_behind (size + total (types_in c)) ns cs)) text
    ≡ Some (i, unit_variant) = bare_named by (size + total (types_in c)) ns cs text i rest k in
    rw (other, found) refl

-- an enum, of a scalar that names a variant without a content
pub bare_means : {C Z : Type 0} (name : List ℕ) (names : List VariantNames) (contents : List Content)
    (built : ℕ → PlainData → C → Type 0) (other : PlainData → Z → Type 0) (t : Tape) (place next depth i : ℕ)
    (text : List ℕ) (declared : List (String Global × Vec (String Global) Global)) (x : C) (z : Z)
    → IsWord t place text → variant_names declared ≡ names
    → Some i ≡ place_in (map (λ n. string_bytes n.0) declared) text
    → IsBareValue contents built i x → next ≡ place + 1
    → (built i unit_data x → other (variant_data i unit_data) z)
    → NodeMeans (IsShapeIn (enum_start name names contents)) other t place next depth z
bare_means name names contents built other t place next depth i text declared x z w same at b n f =
    let found : place_in (map (λ n. n.0) names) text ≡ Some i =
    ap (λ l. place_in (map (λ n. n.0) l) text) (sym same)
    ∙ (ap (λ l. place_in l text) (first_names declared) ∙ sym at) in
    record {
      node = word w.scalar;
      found = variant_data i unit_data;
      nestings = 0;
      events = w.there ∙ ap (λ p. Some (a_scalar w.scalar) ∷ docs_from t p) (sym n);
      means = λ table s root k.
          let l = last_shape (joined_all [] (all_types contents))
          (enum_shape name (variants_behind 0 names contents)) table s k in
          subst (λ y. Means table root y (word w.scalar) false (variant_data i unit_data) 0 0) (sym l.is)
          (means_node refl (rw w.untagged refl)
          (means_scalar (rw (w.says, bare_named l.by 0 names contents text i found b.bare) refl)));
      within = omega arith;
      value = f b.value;
    }
