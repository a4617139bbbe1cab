-- What the grammar's characters are to a reader of tokens.
use Rattle.std.proofs.Common.{◌≡◌, ◌∷◌, ◌==◌, [], inl, inr, Bool, List, arith, length, refl, subst, sym, true, ℕ}
use Rattle.std.proofs.lemmas.Bool.{and_from, and_parts, eqb-true, or_cases}
use Rattle.std.proofs.lemmas.List.{take_all}
use Rattle.std.proofs.lemmas.Str.{IsUtf8-from_is_utf8}
use Rattle.std.specs.Int.{is_in_range}
use Rattle.std.specs.List.{list_all}
use Rattle.std.specs.Str.{chars, is_utf8}
use Rattle.yaml_base.specs.declared.fault.FaultKind.{FaultKind}
use Rattle.yaml_grammar.specs.Bytes.{is_character, is_text}
use Rattle.yaml_grammar.specs.Documents.{Stands}
use Rattle.yaml_grammar.specs.Nodes.{Document}
use Rattle.yaml_scan.specs.AllowedText.{IsAllowed, IsOfReader, is_allowed}

-- each range of these characters is allowed
printed : (c : ℕ) → is_in_range 0x20 0x7E c ≡ true → is_allowed c ≡ true
printed c h = grind (arith, h)

latin : (c : ℕ) → is_in_range 0xA0 0x2027 c ≡ true → is_allowed c ≡ true
latin c h = grind (arith, h)

behind_ends : (c : ℕ) → is_in_range 0x202A 0xD7FF c ≡ true → is_allowed c ≡ true
behind_ends c h = grind (arith, h)

private_use : (c : ℕ) → is_in_range 0xE000 0xFEFE c ≡ true → is_allowed c ≡ true
private_use c h = grind (arith, h)

wide : (c : ℕ) → is_in_range 0xFF00 0xFFFD c ≡ true → is_allowed c ≡ true
wide c h = grind (arith, h)

further : (c : ℕ) → is_in_range 0x10000 0x10FFFF c ≡ true → is_allowed c ≡ true
further c h = grind (arith, h)

this_one : (k c : ℕ) → is_allowed k ≡ true → (c == k) ≡ true → is_allowed c ≡ true
this_one k c is h = subst (λ x. is_allowed x ≡ true) (sym (eqb-true c k h)) is

character_allowed : (c : ℕ) → is_character c ≡ true → is_allowed c ≡ true
character_allowed c is =
    elim (or_cases (c == 9) _ is) [
      | inl h ↦ this_one 9 c refl h
      | inr more ↦ elim (or_cases (c == 10) _ more) [
        | inl h ↦ this_one 10 c refl h
        | inr more ↦ elim (or_cases (is_in_range 0x20 0x7E c) _ more) [
          | inl h ↦ printed c h
          | inr more ↦ elim (or_cases (is_in_range 0xA0 0x2027 c) _ more) [
            | inl h ↦ latin c h
            | inr more ↦ elim (or_cases (is_in_range 0x202A 0xD7FF c) _ more) [
              | inl h ↦ behind_ends c h
              | inr more ↦ elim (or_cases (is_in_range 0xE000 0xFEFE c) _ more) [
                | inl h ↦ private_use c h
                | inr more ↦ elim (or_cases (is_in_range 0xFF00 0xFFFD c) _ more) [
                  | inl h ↦ wide c h
                  | inr h ↦ further c h
                ]
              ]
            ]
          ]
        ]
      ]
    ]

all_weaker : (p q : ℕ → Bool) → ((c : ℕ) → p c ≡ true → q c ≡ true) → (cs : List ℕ) → list_all p cs ≡ true
    → list_all q cs ≡ true
all_weaker p q wider [] all = refl
all_weaker p q wider (c ∷ cs) all =
    let both = and_parts (p c) (list_all p cs) all in
    and_from (q c) (list_all q cs) (wider c both.0) (all_weaker p q wider cs both.1)

-- a text of the grammar's characters is allowed
pub text_allowed : (text : List ℕ) → is_text text ≡ true → IsAllowed text
text_allowed text is =
    let parts = and_parts (is_utf8 text) (list_all is_character (chars text)) is in
    (IsUtf8-from_is_utf8 text parts.0, all_weaker is_character is_allowed character_allowed (chars text) parts.1)

-- where a text is not allowed, no documents stand in it
pub none_where_refused : (text : List ℕ) → (IsAllowed text → ⊥) → (documents : List Document) → Stands text documents → ⊥
none_where_refused text refused documents stands = refused (text_allowed text stands.characters)

-- a text of which the reader finds a fault is not allowed
pub never_allowed : (text : List ℕ) (kind : FaultKind) (offset : ℕ) → IsOfReader text kind offset → IsAllowed text → ⊥
never_allowed text kind offset fault allowed =
    let up = fault.1.1 in
    up.longest (length text) up.short (subst IsAllowed (sym (take_all (length text) text (omega arith))) allowed)
