-- A scalar that is no key where it is printed.
use Rattle.std.proofs.Common.{◌≡◌, ℕ, ◌+◌, ◌-◌, Bool, true, false, refl, sym}
use Rattle.std.proofs.Common.{arith, List, [], ◌∷◌, ◌++◌, length, Option, None, Some}
use Rattle.std.proofs.lemmas.Bool.{false≢true}
use Rattle.std.specs.List.{flat_map}
use Rattle.std.specs.Str.{IsUtf8, chars}
use Rattle.yaml_base.specs.EmitTree.{emit_scalar_node}
use Rattle.yaml_base.specs.declared.emitter.AskedStyle.{AskedStyle}
use Rattle.yaml_base.specs.declared.event.ScalarStyle.TheVariants as style
use Rattle.yaml_emit.specs.PrintedTexts.{block_rest, chomping_hint, double_quoted, escaped_character}
use Rattle.yaml_emit.specs.PrintedTexts.{indentation_hint, single_quoted, single_rest}
use Rattle.yaml_emit.specs.Scalars.{in_style}
use Rattle.yaml_emit.specs.StreamTexts.{is_literal}
use Rattle.yaml_emit.specs.declared.style.Style.{Style}
use Rattle.yaml_emit.specs.declared.style.Style.TheVariants.{Plain, SingleQuoted, DoubleQuoted, Literal}
use Rattle.yaml_grammar.specs.Blocks.{Room, is_own}
use Rattle.yaml_grammar.specs.Leaves.{leaf_at}
use Rattle.yaml_grammar.specs.Leaves as leaf
use Rattle.yaml_grammar.specs.Plain.{by_columns}
use Rattle.yaml_printed.specs.Printable.{IsTag, no_tag, a_tag}
use Rattle.yaml_printed.proofs.Aheads.{Ahead, plain_ends}
use Rattle.yaml_printed.proofs.BlockReads.{block_next, block_reads}
use Rattle.yaml_printed.proofs.PlainFits.{PlainText, plain_leaf, plain_text, plain_word, quote_word}
use Rattle.yaml_printed.proofs.ChosenStyles.{Chosen, is_plain, is_single, is_double, is_block}
use Rattle.yaml_printed.proofs.Contents.{block_completes, leaf_completes}
use Rattle.yaml_printed.proofs.Inline.{HereAt, content_here, fresh_text, tag_here}
use Rattle.yaml_printed.proofs.Rests.{Rest, rest_at, rest_skip}
use Rattle.yaml_printed.proofs.QuotedLeaves.{double_at, single_at}

-- a plain text in its line
plain_here : {text : List ℕ} {least e j : ℕ} {after : List ℕ} (c : ℕ) (cs : List ℕ) (k : ℕ) → PlainText c cs
    → Rest text k ((c ∷ cs) ++ (10 ∷ after)) → Ahead text least e j after
    → leaf_at text (by_columns least) k ≡ Some (leaf.in_style style.Plain (c ∷ cs), k + length (c ∷ cs))
plain_here {least = least} {after = after} c cs k x r a =
    plain_leaf 10 after (by_columns least) x refl refl refl r (plain_ends a)

-- nothing is printed of the scalar but the end of its line
abbrev pub is_bare : Option (List ℕ) → Style → List ℕ → Bool
is_bare (Some t) s text = false
is_bare None Plain [] = true
is_bare None Plain (c ∷ cs) = false
is_bare None SingleQuoted text = false
is_bare None DoubleQuoted text = false
is_bare None Literal text = false

pub scalar_here : {text : List ℕ} {d least e j : ℕ} {ask : AskedStyle} (indent : ℕ) (tag : Option (List ℕ))
    → IsTag tag → (t : List ℕ) → IsUtf8 t
    → (s : Style) → Chosen ask false t s → is_bare tag s t ≡ false → indent ≡ least - 1 + 2
    → (room : Room) (i : ℕ) (after : List ℕ)
    → Rest text i (fresh_text tag (in_style indent s t) (is_literal s) ++ after) → Ahead text least e j after
    → is_own text room least j ≡ false
    → HereAt text d least room i j (emit_scalar_node tag t ask) (fresh_text tag (in_style indent s t) (is_literal s)
    ++ after)
scalar_here indent _ no_tag [] u _ (is_plain fits key allowed) some deep room i after r a own =
    absurd (false≢true (sym some))
scalar_here indent _ (a_tag {c = t} {cs = ts} v z) [] u _ (is_plain fits key allowed) some deep room i after r a own =
    tag_here t ts (a_tag v z) _ allowed room i after r a own
scalar_here indent tag f (c ∷ cs) u _ (is_plain fits key allowed) some deep room i after r a own =
    let x = plain_text c cs u fits in
    content_here tag f c cs false room i after r (plain_word x) (λ ys. x.whole 10 ys refl refl)
    (λ k q. leaf_completes a style.Plain (plain_here c cs k x q a) (rest_skip (c ∷ cs) q) allowed)
scalar_here indent tag f t u _ (is_single fits allowed) some deep room i after r a own =
    content_here tag f 39 (single_rest indent false (chars t) ++ 39 ∷ []) false room i after r (quote_word 39 refl)
    (λ ys. refl)
    (λ k q. leaf_completes a style.SingleQuoted (single_at (by_columns _) 10 after indent t k u fits
    (omega (arith, deep)) refl q)
    (rest_skip (single_quoted indent t) q) allowed)
scalar_here indent tag f t u _ (is_double allowed) some deep room i after r a own =
    content_here tag f 34 (flat_map escaped_character (chars t) ++ 34 ∷ []) false room i after r (quote_word 34 refl)
    (λ ys. refl)
    (λ k q. leaf_completes a style.DoubleQuoted (double_at (by_columns _) (10 ∷ after) t k u q)
    (rest_skip (double_quoted t) q) allowed)
scalar_here indent tag f t u _ (is_block key fits allowed) some deep room i after r a own =
    content_here tag f 124 (block_lines indent t) true room i after r (quote_word 124 refl) (λ ys. refl)
    (λ k q. block_completes (rest_at q) (block_reads indent t k u fits deep q a) (block_next a) allowed)
  where
    block_lines : ℕ → List ℕ → List ℕ
    block_lines indent t = indentation_hint t ++ (chomping_hint t ++ (10 ∷ block_rest indent true (chars t)))
