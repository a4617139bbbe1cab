-- How the text of a node begins and ends: behind an indicator with a space or a line feed, and with a line feed.
use Rattle.std.proofs.Common.{◌≡◌, ℕ, suc, ◌+◌, ◌%◌, Bool, true, false, not, ◌==◌, ◌&&◌, refl, sym, subst}
use Rattle.std.proofs.Common.{ap, ◌∙◌, arith, List, [], ◌∷◌, ◌++◌, length, codes, inl, inr, max}
use Rattle.std.specs.Prelude.{if◌then◌else◌, encode_utf8}
use Rattle.std.specs.Str.{chars}
use Rattle.std.proofs.lemmas.Bool.{cases_lt, eqb-true, false≢true, ne_eqb, lt-ltb, le-ltb}
use lib.Utf8.{encode}
use Rattle.yaml_base.specs.EmitTree.{EmitNode, emit_scalar_node, emit_sequence_node, emit_mapping_node}
use Rattle.yaml_base.specs.EmitTree.{EmitNodes, no_emit_nodes, emit_node, EmitPairs, no_emit_pairs, emit_pair}
use Rattle.yaml_emit.specs.Places.{blank, in_line, tag_in_line, behind_tag, margin, item_place, far_place, key_place}
use Rattle.yaml_emit.specs.Places.{value_place}
use Rattle.yaml_emit.specs.PrintedTexts.{block_piece, block_rest, blanks_if, chomping_hint, indentation_hint}
use Rattle.yaml_emit.specs.PrintedTexts.{literal}
use Rattle.yaml_emit.specs.Scalars.{in_style}
use Rattle.yaml_emit.specs.StreamTexts.{tag_or_empty, is_literal, is_simple_key, leaf_text, items_column}
use Rattle.yaml_emit.specs.StreamTexts.{node_text, items_text, pairs_text}
use Rattle.yaml_emit.specs.Styles.{chosen_style}
use Rattle.yaml_emit.specs.declared.open.Lead.{Lead}
use Rattle.yaml_emit.specs.declared.open.Lead.TheVariants.{Fresh, Indicator, Text}
use Rattle.yaml_emit.specs.declared.open.Place.{Place}
use Rattle.yaml_emit.specs.declared.style.Style.{Style}
use Rattle.yaml_emit.specs.declared.style.Style.TheVariants.{Plain, SingleQuoted, DoubleQuoted, Literal}
use Rattle.yaml_grammar.specs.Bytes.{at, column, is_gap}
use Rattle.yaml_grammar.proofs.LineLaws.{behind_feed}
use Rattle.yaml_printed.proofs.Rests.{Rest, rest_at, rest_on}

-- ---- beginnings

-- something stands before the node in its line
pub data IsBehind : Lead → Type 0 where
  behind_indicator : IsBehind Indicator
  behind_text : IsBehind Text

abbrev pub begins_gap : List ℕ → Bool
begins_gap [] = false
begins_gap (c ∷ cs) = is_gap c

pub more_gap : (xs ys : List ℕ) → begins_gap xs ≡ true → begins_gap (xs ++ ys) ≡ true
more_gap [] ys h = absurd (false≢true h)
more_gap (c ∷ cs) ys h = h

pub rest_gap : {text : List ℕ} {i : ℕ} (xs ys : List ℕ) → begins_gap xs ≡ true → Rest text i (xs ++ ys)
    → is_gap (at text i) ≡ true
rest_gap [] ys h r = absurd (false≢true h)
rest_gap (c ∷ cs) ys h r = ap is_gap (rest_at r) ∙ h

margin_gap : (lead : Lead) (q : ℕ) (xs : List ℕ) → IsBehind lead → begins_gap (margin lead q ++ xs) ≡ true
margin_gap _ q xs behind_indicator = refl
margin_gap _ q xs behind_text = refl

tag_gap : (lead : Lead) (c : ℕ) (cs xs : List ℕ) → IsBehind lead → begins_gap (tag_in_line lead (c ∷ cs) ++ xs) ≡ true
tag_gap _ c cs xs behind_indicator = refl
tag_gap _ c cs xs behind_text = refl

content_gap : (lead : Lead) (c : ℕ) (cs xs : List ℕ) → IsBehind lead → begins_gap (in_line lead (c ∷ cs) ++ xs) ≡ true
content_gap _ c cs xs behind_indicator = refl
content_gap _ c cs xs behind_text = refl

-- a leaf, which is a literal block only where it has a content
leaf_gap : (lead : Lead) (column' level : ℕ) (tag content : List ℕ) (is_block : Bool) → IsBehind lead
    → (content ≡ [] → is_block ≡ false)
    → begins_gap (leaf_text (record { lead = lead; key = false; column = column'; level = level }) tag content is_block)
    ≡ true
leaf_gap lead q l (t ∷ ts) content b h e = tag_gap lead t ts _ h
leaf_gap lead q l [] (c ∷ cs) b h e = content_gap lead c cs _ h
leaf_gap lead q l [] [] b h e = rw (e refl) refl

scalar_gap : (lead : Lead) (q l indent : ℕ) (tag text : List ℕ) (s : Style) → IsBehind lead
    → begins_gap (leaf_text (record { lead = lead; key = false; column = q; level = l }) tag
    (in_style indent s text) (is_literal s)) ≡ true
scalar_gap lead q l indent tag text Plain h = leaf_gap lead q l tag _ false h (λ e. refl)
scalar_gap lead q l indent tag text SingleQuoted h =
    leaf_gap lead q l tag (in_style indent SingleQuoted text) false h (λ e. refl)
scalar_gap lead q l indent tag text DoubleQuoted h =
    leaf_gap lead q l tag (in_style indent DoubleQuoted text) false h (λ e. refl)
scalar_gap lead q l indent tag text Literal h = leaf_gap lead q l tag (literal indent text) true h (λ e. absurd (cc))

tagged_gap : (lead : Lead) (tag xs : List ℕ) → IsBehind lead
    → ((lead' : Lead) → IsBehind lead' → begins_gap (xs) ≡ true) → begins_gap (tag_in_line lead tag ++ xs) ≡ true
tagged_gap lead [] xs h f = f lead h
tagged_gap lead (t ∷ ts) xs h f = tag_gap lead t ts xs h

behind_more : (lead : Lead) (tag : List ℕ) → IsBehind lead → IsBehind (behind_tag lead tag)
behind_more lead [] h = h
behind_more lead (t ∷ ts) h = behind_text

-- a node behind something
pub node_gap : (lead : Lead) (q l : ℕ) (n : EmitNode) → IsBehind lead
    → begins_gap (node_text (record { lead = lead; key = false; column = q; level = l }) n) ≡ true
node_gap lead q l (emit_scalar_node tag text style) h =
    scalar_gap lead q l (max q 2) (tag_or_empty tag) text (chosen_style text style false) h
node_gap lead q l (emit_sequence_node tag no_emit_nodes) h =
    leaf_gap lead q l (tag_or_empty tag) (codes "[]") false h (λ e. refl)
node_gap lead q l (emit_sequence_node tag (emit_node n ns)) h =
    tagged_gap lead (tag_or_empty tag) _ h (λ l' h'. margin_gap _ _ _ (behind_more lead (tag_or_empty tag) h))
node_gap lead q l (emit_mapping_node tag no_emit_pairs) h =
    leaf_gap lead q l (tag_or_empty tag) (codes "{}") false h (λ e. refl)
node_gap lead q l (emit_mapping_node tag (emit_pair k v ps)) h =
    tagged_gap lead (tag_or_empty tag) _ h (λ l' h'. margin_gap _ _ _ (behind_more lead (tag_or_empty tag) h))

-- ---- ends

-- the bytes end with a line feed, or are none and one stands before them
abbrev pub ends_feed : (before : Bool) → List ℕ → Bool
ends_feed b [] = b
ends_feed b (c ∷ cs) = ends_feed (c == 10) cs

pub ends_append : (b : Bool) (xs ys : List ℕ) → ends_feed b (xs ++ ys) ≡ ends_feed (ends_feed b xs) ys
ends_append b [] ys = refl
ends_append b (c ∷ cs) ys = ends_append (c == 10) cs ys

-- a line begins in this place
pub record Line (text : List ℕ) (k : ℕ) : Type 0 where
  pub back : ℕ
  pub same : suc back ≡ k
  pub feed : at text back ≡ 10

pub line_column : {text : List ℕ} {k : ℕ} → Line text k → column text k ≡ 0
line_column {text = text} l = ap (column text) (sym l.same) ∙ behind_feed text l.back l.feed

pub line_on : {text : List ℕ} {k m : ℕ} → k ≡ m → Line text k → Line text m
line_on {text = text} e l = subst (Line text) e l

line_from : {text : List ℕ} (b : Bool) (xs ys : List ℕ) (i : ℕ) → Rest text i (xs ++ ys) → (b ≡ true → Line text i)
    → ends_feed b xs ≡ true → Line text (i + length xs)
line_from b [] ys i r l h = line_on (omega arith) (l h)
line_from b (c ∷ cs) ys i r l h =
    line_on (omega arith) (line_from (c == 10) cs ys (suc i) (rest_on r)
    (λ e. record { back = i; same = refl; feed = rest_at r ∙ eqb-true c 10 e }) h)

-- behind bytes that end with a line feed
pub line_behind : {text : List ℕ} (xs ys : List ℕ) (i : ℕ) → Rest text i (xs ++ ys) → ends_feed false xs ≡ true
    → Line text (i + length xs)
line_behind xs ys i r h = line_from false xs ys i r (λ e. absurd (false≢true e)) h

-- no character but a line feed ends with one
encode_feed : (b : Bool) (c : ℕ) → ends_feed b (encode c) ≡ (c == 10)
unfolding encode
encode_feed b c = elim (cases_lt c 0x80) [
  | inl one ↦ rw (lt-ltb c 0x80 one) refl
  | inr more ↦ elim (cases_lt c 0x800) [
    | inl two ↦ rw (le-ltb c 0x80 more, lt-ltb c 0x800 two)
        (ne_eqb (128 + c % 64) 10 (λ e. omega arith) ∙ sym (ne_eqb c 10 (λ e. omega arith)))
    | inr most ↦ elim (cases_lt c 0x10000) [
      | inl three ↦ rw (le-ltb c 0x80 more, le-ltb c 0x800 most, lt-ltb c 0x10000 three)
          (ne_eqb (128 + c % 64) 10 (λ e. omega arith) ∙ sym (ne_eqb c 10 (λ e. omega arith)))
      | inr four ↦ rw (le-ltb c 0x80 more, le-ltb c 0x800 most, le-ltb c 0x10000 four)
          (ne_eqb (128 + c % 64) 10 (λ e. omega arith) ∙ sym (ne_eqb c 10 (λ e. omega arith)))
    ]
  ]
]

block_feed : (indent : ℕ) (b : Bool) (cs : List ℕ) → ends_feed b (block_rest indent b cs) ≡ true
block_feed indent true [] = refl
block_feed indent false [] = refl
block_feed indent b (c ∷ cs) =
    ends_append b (block_piece indent b c) (block_rest indent (c == 10) cs)
    ∙ (ap (λ x. ends_feed x (block_rest indent (c == 10) cs))
    (ends_append b (blanks_if (b && not (c == 10)) indent) (encode_utf8 c)
    ∙ encode_feed (ends_feed b (blanks_if (b && not (c == 10)) indent)) c)
    ∙ block_feed indent (c == 10) cs)

literal_feed : (indent : ℕ) (b : Bool) (text : List ℕ) → ends_feed b (literal indent text) ≡ true
literal_feed indent b text =
    ends_append false (indentation_hint text) _
    ∙ (ends_append (ends_feed false (indentation_hint text)) (chomping_hint text) _
    ∙ block_feed indent true (chars text))

leaf_feed : (place : Place) (tag content : List ℕ) (is_block : Bool) → place.key ≡ false
    → (is_block ≡ true → (b : Bool) → ends_feed b (in_line (behind_tag place.lead tag) content) ≡ true) → (b : Bool)
    → ends_feed b (leaf_text place tag content is_block) ≡ true
leaf_feed place tag content true key h b =
    rw key (ends_append b (tag_in_line place.lead tag) _
    ∙ (ends_append (ends_feed b (tag_in_line place.lead tag)) (in_line (behind_tag place.lead tag) content) []
    ∙ h refl _))
leaf_feed place tag content false key h b =
    rw key (ends_append b (tag_in_line place.lead tag) _
    ∙ ends_append (ends_feed b (tag_in_line place.lead tag)) (in_line (behind_tag place.lead tag) content) (10 ∷ []))

in_line_feed : (lead : Lead) (c : ℕ) (cs : List ℕ) → ((b : Bool) → ends_feed b (c ∷ cs) ≡ true) → (b : Bool)
    → ends_feed b (in_line lead (c ∷ cs)) ≡ true
in_line_feed lead c cs h b = ends_append b (blank lead) (c ∷ cs) ∙ h (ends_feed b (blank lead))

scalar_feed : (place : Place) (indent : ℕ) (tag text : List ℕ) (s : Style) → place.key ≡ false → (b : Bool)
    → ends_feed b (leaf_text place tag (in_style indent s text) (is_literal s)) ≡ true
scalar_feed place indent tag text Plain key b = leaf_feed place tag _ false key (λ e. absurd (false≢true e)) b
scalar_feed place indent tag text SingleQuoted key b =
    leaf_feed place tag (in_style indent SingleQuoted text) false key (λ e. absurd (false≢true e)) b
scalar_feed place indent tag text DoubleQuoted key b =
    leaf_feed place tag (in_style indent DoubleQuoted text) false key (λ e. absurd (false≢true e)) b
scalar_feed place indent tag text Literal key b =
    leaf_feed place tag (literal indent text) true key
    (λ e b'. in_line_feed (behind_tag place.lead tag) 124 _ (λ b''. literal_feed indent b'' text) b') b

-- the parts of a collection from the first on, and a pair
items_feed : (lead : Lead) (c : ℕ) (n : EmitNode) (ns : EmitNodes)
    → ((b : Bool) → ends_feed b (node_text (item_place c) n) ≡ true) → ends_feed true (items_text Fresh c ns) ≡ true
    → (b : Bool) → ends_feed b (items_text lead c (emit_node n ns)) ≡ true
items_feed lead c n ns one more b =
    ends_append b (margin lead c) _
    ∙ (ends_append false (node_text (item_place c) n) (items_text Fresh c ns)
    ∙ (ap (λ x. ends_feed x (items_text Fresh c ns)) (one false) ∙ more))

abbrev pub pair_text : (c : ℕ) → (k v : EmitNode) → (simple : Bool) → List ℕ
pair_text c k v simple =
    if simple then node_text (key_place c) k ++ node_text (value_place c) v
    else codes "?" ++ (node_text (far_place c) k ++ (margin Fresh c ++ (codes ":" ++ node_text (far_place c) v)))

pub pair_feed : (c : ℕ) (k v : EmitNode) (simple : Bool)
    → ((place : Place) → place.key ≡ false → (b : Bool) → ends_feed b (node_text place v) ≡ true) → (b : Bool)
    → ends_feed b (pair_text c k v simple) ≡ true
pair_feed c k v true one b =
    ends_append b (node_text (key_place c) k) (node_text (value_place c) v) ∙ one (value_place c) refl _
pair_feed c k v false one b =
    ends_append false (node_text (far_place c) k) _
    ∙ (ends_append (ends_feed false (node_text (far_place c) k)) (margin Fresh c) _ ∙ one (far_place c) refl false)

pairs_feed : (lead : Lead) (c : ℕ) (k v : EmitNode) (ps : EmitPairs)
    → ((place : Place) → place.key ≡ false → (b : Bool) → ends_feed b (node_text place v) ≡ true)
    → ends_feed true (pairs_text Fresh c ps) ≡ true
    → (b : Bool) → ends_feed b (pairs_text lead c (emit_pair k v ps)) ≡ true
pairs_feed lead c k v ps one more b =
    ends_append b (margin lead c) _
    ∙ (ends_append (ends_feed b (margin lead c)) (pair_text c k v (is_simple_key k)) (pairs_text Fresh c ps)
    ∙ (ap (λ x. ends_feed x (pairs_text Fresh c ps))
    (pair_feed c k v (is_simple_key k) one (ends_feed b (margin lead c))) ∙ more))

mutual
  pub node_feed : (n : EmitNode) (place : Place) → place.key ≡ false → (b : Bool)
      → ends_feed b (node_text place n) ≡ true
  node_feed (emit_scalar_node tag text style) place key b =
      scalar_feed place (max place.column 2) (tag_or_empty tag) text (chosen_style text style place.key) key b
  node_feed (emit_sequence_node tag no_emit_nodes) place key b =
      leaf_feed place (tag_or_empty tag) (codes "[]") false key (λ e. absurd (false≢true e)) b
  node_feed (emit_sequence_node tag (emit_node n ns)) place key b =
      let q = items_column place (behind_tag place.lead (tag_or_empty tag)) in
      ends_append b (tag_in_line place.lead (tag_or_empty tag)) _
      ∙ items_feed (behind_tag place.lead (tag_or_empty tag)) q n ns (node_feed n (item_place q) refl)
      (more_items_feed ns q) _
  node_feed (emit_mapping_node tag no_emit_pairs) place key b =
      leaf_feed place (tag_or_empty tag) (codes "{}") false key (λ e. absurd (false≢true e)) b
  node_feed (emit_mapping_node tag (emit_pair k v ps)) place key b =
      ends_append b (tag_in_line place.lead (tag_or_empty tag)) _
      ∙ pairs_feed (behind_tag place.lead (tag_or_empty tag)) place.column k v ps (node_feed v)
      (more_pairs_feed ps place.column) _

  pub more_items_feed : (ns : EmitNodes) (c : ℕ) → ends_feed true (items_text Fresh c ns) ≡ true
  more_items_feed no_emit_nodes c = refl
  more_items_feed (emit_node n ns) c =
      items_feed Fresh c n ns (node_feed n (item_place c) refl) (more_items_feed ns c) true

  pub more_pairs_feed : (ps : EmitPairs) (c : ℕ) → ends_feed true (pairs_text Fresh c ps) ≡ true
  more_pairs_feed no_emit_pairs c = refl
  more_pairs_feed (emit_pair k v ps) c = pairs_feed Fresh c k v ps (node_feed v) (more_pairs_feed ps c) true
