-- A leaf that is written may be printed.
use Rattle.std.proofs.Common.{◌≡◌, ℕ, zero, suc, ◌≤◌, ◌==◌, ◌&&◌, not, Bool, true, false, if◌then◌else◌, refl, sym}
use Rattle.std.proofs.Common.{ap, ◌∙◌}
use Rattle.std.proofs.Common.{subst, arith, List, [], ◌∷◌, ◌++◌, codes, length, Option, Result, Ok}
use Rattle.std.proofs.lemmas.Bool.{and_from, and_parts, ne_eqb}
use Rattle.std.proofs.lemmas.List.Folds.{list_all-append}
use Rattle.std.proofs.lemmas.Str.{IsUtf8-encode}
use Rattle.std.specs.Char.{IsScalar, encode_utf8}
use Rattle.std.specs.Str.{IsUtf8}
use Rattle.yaml_base.specs.AskedStyles.{asked_style}
use Rattle.yaml_base.specs.EmitEvents.{PlainEmit, emit_sequence_end, emit_mapping_end}
use Rattle.yaml_base.specs.EmitTree.{EmitNode, emit_scalar_node, emit_sequence_node, emit_mapping_node}
use Rattle.yaml_base.specs.EmitTree.{EmitNodes, EmitPairs, emit_node_events, emit_nodes_events, emit_pairs_events}
use Rattle.yaml_base.specs.declared.emitter.AskedStyle.TheVariants as asked
use Rattle.yaml_base.specs.declared.error.Cause.{Cause}
use Rattle.yaml_emit.specs.Styles.{fits_plain}
use Rattle.yaml_write.specs.Outcomes.{plain_node, string_node}
use Rattle.yaml_write.specs.WrittenValue.{truth_text}
use Rattle.yaml_printed.specs.Printable.{IsPrintable, ArePrintable, PairsPrintable, a_scalar, a_sequence, a_mapping}
use Rattle.yaml_printed.specs.Printable.{may_ask}
use Rattle.yaml_printed.specs.Simple.{is_simple}
use Rattle.yaml_printed.specs.WholeTags.{have_whole_tags, has_whole_tag, is_whole_tag}
use Rattle.yaml_printed.proofs.Digits.{IsWord}
use Rattle.yaml_printed.proofs.FirstRoots.{IsSomething, filled_something, quoted_something, sequence_something}
use Rattle.yaml_printed.proofs.FirstRoots.{mapping_something}
use Rattle.yaml_printed.proofs.Outcomes.{same_answer}
use Rattle.yaml_printed.proofs.SimpleFits.{simple_fits, simple_utf8}
use Rattle.yaml_printed.proofs.Words.{and_no}
use Rattle.yaml_printed.proofs.WrittenTags.{IsText, tag_of_text}

-- it may be printed, as a key in a line or not, and as the first root
pub record Shown (n : ℕ) (e : EmitNode) : Type 0 where
  pub prints : (key : Bool) → IsPrintable n key e
  pub something : IsSomething e

-- no tag in it has a character 0
abbrev pub Whole : EmitNode → Type 0
Whole e = have_whole_tags (emit_node_events e) ≡ true

abbrev pub WholeItems : EmitNodes → Type 0
WholeItems es = have_whole_tags (emit_nodes_events es) ≡ true

abbrev pub WholePairs : EmitPairs → Type 0
WholePairs es = have_whole_tags (emit_pairs_events es) ≡ true

pub whole_parts : (xs ys : List PlainEmit) → have_whole_tags (xs ++ ys) ≡ true
    → (have_whole_tags xs ≡ true) × (have_whole_tags ys ≡ true)
whole_parts xs ys h =
    and_parts (have_whole_tags xs) (have_whole_tags ys) (sym (list_all-append has_whole_tag xs ys) ∙ h)

-- what is written is a leaf
pub leaf_shown : {n : ℕ} {e : EmitNode} (a : EmitNode) → (Whole a → Shown n a)
    → ◌≡◌ {A = Result EmitNode Cause} (Ok a) (Ok e) → Whole e → Shown n e
leaf_shown {n = n} {e = e} a shown h w =
    let s = same_answer a e h in
    subst (Shown n) s (shown (subst Whole (sym s) w))

-- ---- words and decimals

plain_may : (key : Bool) (c : ℕ) (cs : List ℕ) → is_simple (c ∷ cs) ≡ true
    → may_ask asked.Plain key (c ∷ cs) ≡ true
plain_may key c cs h =
    let some : (suc (length cs) == 0) ≡ false = ne_eqb (suc (length cs)) 0 (λ e. absurd (omega (arith, e))) in
    and_from (fits_plain (c ∷ cs)) (not (key && suc (length cs) == 0)) (simple_fits (c ∷ cs) h)
    (ap (λ b. not (key && b)) some ∙ ap not (and_no key))

filled_word : (n : ℕ) {tag : Option (List ℕ)} → IsText tag → (c : ℕ) (cs : List ℕ) → is_simple (c ∷ cs) ≡ true
    → Whole (plain_node tag (c ∷ cs)) → Shown n (plain_node tag (c ∷ cs))
filled_word n {tag = tag} f c cs h w =
    record {
      prints = λ key. a_scalar (tag_of_text f (and_parts (is_whole_tag tag) true w).0) (simple_utf8 (c ∷ cs) h)
          (plain_may key c cs h);
      something = filled_something f c cs asked.Plain;
    }

pub word_shown : (n : ℕ) {tag : Option (List ℕ)} → IsText tag → {t : List ℕ} → IsWord t → Whole (plain_node tag t)
    → Shown n (plain_node tag t)
word_shown n {tag = tag} f {t = t} word w =
    let same = word.same in
    subst (λ l. Shown n (plain_node tag l)) (sym same)
    (filled_word n f word.first word.rest (ap is_simple (sym same) ∙ word.simple) w)

pub null_word : IsWord (codes "null")
null_word = record { first = 110; rest = codes "ull"; same = refl; simple = refl }

pub truth_word : (b : Bool) → IsWord (truth_text b)
truth_word true = record { first = 116; rest = codes "rue"; same = refl; simple = refl }
truth_word false = record { first = 102; rest = codes "alse"; same = refl; simple = refl }

-- ---- strings

string_may : (key : Bool) (t : List ℕ) (b c : Bool)
    → may_ask (if b then asked.Literal else (if c then asked.Any else asked.SingleQuoted)) key t ≡ true
string_may key t true c = refl
string_may key t false true = refl
string_may key t false false = refl

asked_nothing : asked_style [] ≡ asked.SingleQuoted
asked_nothing = refl

string_something : {tag : Option (List ℕ)} → IsText tag → (t : List ℕ) → IsSomething (string_node tag t)
string_something {tag = tag} f [] =
    subst (λ ask. IsSomething (emit_scalar_node tag [] ask)) (sym asked_nothing) (quoted_something f [])
string_something f (c ∷ cs) = filled_something f c cs (asked_style (c ∷ cs))

pub string_shown : (n : ℕ) {tag : Option (List ℕ)} → IsText tag → (t : List ℕ) → IsUtf8 t → Whole (string_node tag t)
    → Shown n (string_node tag t)
string_shown n {tag = tag} f t u w =
    record {
      prints = λ key. a_scalar (tag_of_text f (and_parts (is_whole_tag tag) true w).0) u (string_may key t _ _);
      something = string_something f t;
    }

pub character_shown : (n : ℕ) {tag : Option (List ℕ)} → IsText tag → (c : ℕ) → IsScalar c
    → Whole (emit_scalar_node tag (encode_utf8 c) asked.SingleQuoted)
    → Shown n (emit_scalar_node tag (encode_utf8 c) asked.SingleQuoted)
character_shown n {tag = tag} f c is w =
    record {
      prints = λ key. a_scalar (tag_of_text f (and_parts (is_whole_tag tag) true w).0) (IsUtf8-encode c is) refl;
      something = quoted_something f (encode_utf8 c);
    }

-- ---- collections

pub sequence_shown : (n k : ℕ) {tag : Option (List ℕ)} → IsText tag → (es : EmitNodes) (e : EmitNode)
    → e ≡ emit_sequence_node tag es → Whole e → suc k ≤ n
    → ((m : ℕ) → k ≤ m → WholeItems es → ArePrintable m es) → Shown n e
sequence_shown n k {tag = tag} f es e is w deep items = by n deep
  where
    parts : (is_whole_tag tag ≡ true) × (have_whole_tags (emit_nodes_events es ++ emit_sequence_end ∷ []) ≡ true)
    parts = and_parts (is_whole_tag tag) (have_whole_tags (emit_nodes_events es ++ emit_sequence_end ∷ []))
        (subst Whole is w)

    by : (n : ℕ) → suc k ≤ n → Shown n e
    by zero deep = absurd (omega (arith, deep))
    by (suc m) deep =
        subst (Shown (suc m)) (sym is)
        (record {
          prints = λ key. a_sequence (tag_of_text f parts.0)
              (items m (omega (arith, deep)) (whole_parts (emit_nodes_events es) (emit_sequence_end ∷ []) parts.1).0);
          something = sequence_something f es;
        })

pub mapping_shown : (n k : ℕ) {tag : Option (List ℕ)} → IsText tag → (es : EmitPairs) (e : EmitNode)
    → e ≡ emit_mapping_node tag es → Whole e → suc k ≤ n
    → ((m : ℕ) → k ≤ m → WholePairs es → PairsPrintable m es) → Shown n e
mapping_shown n k {tag = tag} f es e is w deep pairs = by n deep
  where
    parts : (is_whole_tag tag ≡ true) × (have_whole_tags (emit_pairs_events es ++ emit_mapping_end ∷ []) ≡ true)
    parts = and_parts (is_whole_tag tag) (have_whole_tags (emit_pairs_events es ++ emit_mapping_end ∷ []))
        (subst Whole is w)

    by : (n : ℕ) → suc k ≤ n → Shown n e
    by zero deep = absurd (omega (arith, deep))
    by (suc m) deep =
        subst (Shown (suc m)) (sym is)
        (record {
          prints = λ key. a_mapping (tag_of_text f parts.0)
              (pairs m (omega (arith, deep)) (whole_parts (emit_pairs_events es) (emit_mapping_end ∷ []) parts.1).0);
          something = mapping_something f es;
        })
