-- Of what more is printed than the end of a line, where it is the first root.
use Rattle.std.proofs.Common.{◌≡◌, ◌≢◌, ℕ, max, Bool, true, false, ◌==◌, refl, sym, ap, ◌∙◌, subst, List, [], ◌∷◌}
use Rattle.std.proofs.Common.{◌++◌, append_assoc, Option, None, Some, if◌then◌else◌}
use Rattle.std.proofs.lemmas.Bool.{false≢true}
use Rattle.yaml_base.specs.EmitTree.{EmitNode, emit_scalar_node, emit_sequence_node, emit_mapping_node}
use Rattle.yaml_base.specs.EmitTree.{EmitNodes, no_emit_nodes, emit_node, EmitPairs, no_emit_pairs, emit_pair}
use Rattle.yaml_base.specs.declared.emitter.AskedStyle.{AskedStyle}
use Rattle.yaml_base.specs.declared.emitter.AskedStyle.TheVariants as asked
use Rattle.yaml_emit.specs.Places.{behind_tag, in_line, key_place, root_place, tag_in_line}
use Rattle.yaml_emit.specs.Scalars.{in_style, styled_scalar}
use Rattle.yaml_emit.specs.StreamTexts.{is_literal, is_simple_key, node_text, tag_or_empty}
use Rattle.yaml_emit.specs.Styles.{chosen_style, fits_single_quotes}
use Rattle.yaml_emit.specs.declared.open.Lead.TheVariants.{Fresh}
use Rattle.yaml_emit.specs.declared.style.Style.{Style}
use Rattle.yaml_emit.specs.declared.style.Style.TheVariants.{Plain, SingleQuoted, DoubleQuoted, Literal}
use Rattle.yaml_grammar.specs.Bytes.{at}
use Rattle.yaml_printed.proofs.Inline.{fresh_text}
use Rattle.yaml_printed.proofs.ScalarLines.{is_bare}
use Rattle.yaml_printed.proofs.TagBytes.{tag_begins}
use Rattle.yaml_printed.proofs.WrittenTags.{IsText, no_text, a_text}

-- more is printed of it
abbrev pub IsSomething : EmitNode → Type 0
IsSomething root = node_text (root_place Fresh) root ≢ 10 ∷ []

-- a text that begins with another byte, has two, or has a colon, is no line feed
other_first : (c : ℕ) (cs : List ℕ) → (c == 10) ≡ false → c ∷ cs ≢ 10 ∷ []
other_first c cs h e = false≢true (sym h ∙ ap (λ l. at l 0 == 10) e)

two_bytes : (c : ℕ) (cs : List ℕ) → c ∷ (cs ++ 10 ∷ []) ≢ 10 ∷ []
two_bytes c [] e = absurd cc
two_bytes c (d ∷ ds) e = absurd cc

colon_inside : (before after : List ℕ) → (before ++ 58 ∷ []) ++ after ≢ 10 ∷ []
colon_inside [] after e = other_first 58 after refl e
colon_inside (c ∷ []) after e = absurd cc
colon_inside (c ∷ d ∷ ds) after e = absurd cc

behind_mark : (c : ℕ) (cs after : List ℕ) → tag_in_line Fresh (c ∷ cs) ++ after ≢ 10 ∷ []
behind_mark c cs after e =
    let t = tag_begins (c ∷ cs) in
    other_first 33 (t.0 ++ after) refl (subst (λ l. l ++ after ≡ 10 ∷ []) t.1 e)

-- ---- a scalar

scalar_text : (indent : ℕ) {tag : Option (List ℕ)} → IsText tag → (s : Style) (t : List ℕ) → is_bare tag s t ≡ false
    → fresh_text tag (in_style indent s t) (is_literal s) ≢ 10 ∷ []
scalar_text indent (a_text {c = c} {cs = cs} u) s t some = behind_mark c cs _
scalar_text indent no_text Plain [] some = absurd (false≢true (sym some))
scalar_text indent no_text Plain (c ∷ cs) some = two_bytes c cs
scalar_text indent no_text SingleQuoted t some = other_first 39 _ refl
scalar_text indent no_text DoubleQuoted t some = other_first 34 _ refl
scalar_text indent no_text Literal t some = other_first 124 _ refl

tagged_some : (t : List ℕ) (s : Style) (text : List ℕ) → is_bare (Some t) s text ≡ false
tagged_some t s text = refl

filled_some : (tag : Option (List ℕ)) (s : Style) (c : ℕ) (cs : List ℕ) → is_bare tag s (c ∷ cs) ≡ false
filled_some (Some t) s c cs = refl
filled_some None Plain c cs = refl
filled_some None SingleQuoted c cs = refl
filled_some None DoubleQuoted c cs = refl
filled_some None Literal c cs = refl

quoted_some : (tag : Option (List ℕ)) (t : List ℕ) (b : Bool)
    → is_bare tag (if b then SingleQuoted else DoubleQuoted) t ≡ false
quoted_some (Some x) t b = refl
quoted_some None t true = refl
quoted_some None t false = refl

-- a text that is not empty, or that is asked in single quotes
pub filled_something : {tag : Option (List ℕ)} → IsText tag → (c : ℕ) (cs : List ℕ) (ask : AskedStyle)
    → IsSomething (emit_scalar_node tag (c ∷ cs) ask)
filled_something {tag = tag} f c cs ask =
    scalar_text (max 0 2) f (chosen_style (c ∷ cs) ask false) (c ∷ cs)
    (filled_some tag (chosen_style (c ∷ cs) ask false) c cs)

pub quoted_something : {tag : Option (List ℕ)} → IsText tag → (t : List ℕ)
    → IsSomething (emit_scalar_node tag t asked.SingleQuoted)
quoted_something {tag = tag} f t =
    scalar_text (max 0 2) f (chosen_style t asked.SingleQuoted false) t (quoted_some tag t (fits_single_quotes t))

-- ---- a collection

pub sequence_something : {tag : Option (List ℕ)} → IsText tag → (ns : EmitNodes)
    → IsSomething (emit_sequence_node tag ns)
sequence_something (a_text {c = c} {cs = cs} u) no_emit_nodes = behind_mark c cs _
sequence_something (a_text {c = c} {cs = cs} u) (emit_node n ns) = behind_mark c cs _
sequence_something no_text no_emit_nodes = other_first 91 _ refl
sequence_something no_text (emit_node n ns) = other_first 45 _ refl

-- a key in a line ends with a colon
colon_behind : (tag content : List ℕ) → (before : List ℕ) × (tag ++ (content ++ 58 ∷ []) ≡ before ++ 58 ∷ [])
colon_behind tag content = (tag ++ content, sym (append_assoc tag content (58 ∷ [])))

key_ends : (k : EmitNode) → is_simple_key k ≡ true
    → (before : List ℕ) × (node_text (key_place 0) k ≡ before ++ 58 ∷ [])
key_ends (emit_scalar_node tag t ask) h =
    colon_behind (tag_in_line Fresh (tag_or_empty tag))
    (in_line (behind_tag Fresh (tag_or_empty tag)) (styled_scalar (max (key_place 0).column 2) ask true t))
key_ends (emit_sequence_node tag no_emit_nodes) h =
    colon_behind (tag_in_line Fresh (tag_or_empty tag)) (in_line (behind_tag Fresh (tag_or_empty tag)) (91 ∷ 93 ∷ []))
key_ends (emit_sequence_node tag (emit_node n ns)) h = absurd (false≢true h)
key_ends (emit_mapping_node tag no_emit_pairs) h =
    colon_behind (tag_in_line Fresh (tag_or_empty tag)) (in_line (behind_tag Fresh (tag_or_empty tag)) (123 ∷ 125 ∷ []))
key_ends (emit_mapping_node tag (emit_pair k v ps)) h = absurd (false≢true h)

first_pair : (k : EmitNode) (value far more : List ℕ) (b : Bool) → is_simple_key k ≡ b
    → (if b then node_text (key_place 0) k ++ value else 63 ∷ far) ++ more ≢ 10 ∷ []
first_pair k value far more true h e =
    let x = key_ends k h in
    colon_inside x.0 (value ++ more)
    (subst (λ l. l ++ (value ++ more) ≡ 10 ∷ []) x.1 (sym (append_assoc (node_text (key_place 0) k) value more) ∙ e))
first_pair k value far more false h e = other_first 63 (far ++ more) refl e

pub mapping_something : {tag : Option (List ℕ)} → IsText tag → (ps : EmitPairs) → IsSomething (emit_mapping_node tag ps)
mapping_something (a_text {c = c} {cs = cs} u) no_emit_pairs = behind_mark c cs _
mapping_something (a_text {c = c} {cs = cs} u) (emit_pair k v ps) = behind_mark c cs _
mapping_something no_text no_emit_pairs = other_first 123 _ refl
mapping_something no_text (emit_pair k v ps) = first_pair k _ _ _ (is_simple_key k) refl
