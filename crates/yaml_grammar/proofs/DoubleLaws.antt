-- What stands between double quotes in one line, by the definition of yaml_base, is read so here.
use Rattle.std.proofs.Common.{◌≡◌, ℕ, ◌+◌, ◌-◌, ◌*◌, ◌==◌, ◌||◌, Bool, true, false, List, [], ◌∷◌, ◌++◌, length}
use Rattle.std.proofs.Common.{Option, Some, None}
use Rattle.std.proofs.Common.{refl, sym, ap, ◌∙◌, append_assoc, append-nil, arith, subst, nat_lt, encode_utf8, eqb-true}
use Rattle.std.proofs.lemmas.Bool.{or_parts}
use Rattle.std.proofs.lemmas.Option.{same_Some, none-some}
use Rattle.std.specs.Char.{digit_value}
use Rattle.yaml_base.specs.LineBreaks.{begins_with_break}
use Rattle.yaml_base.specs.QuotedLines.{Escape, none, backslash, digits, before, character_before, character_code}
use Rattle.yaml_base.specs.QuotedLines.{letter_code}
use Rattle.yaml_base.specs.QuotedLines.{unescaped_behind}
use Rattle.yaml_grammar.specs.Bytes.{is_blank}
use Rattle.yaml_grammar.specs.Folding.{Rest, blanks, with_bytes}
use Rattle.yaml_grammar.specs.Quotes.{double_rest, with_character}
use Rattle.yaml_grammar.proofs.RestLaws.{before_is, no_feed, some_rest}

-- so many bytes are read here, up to the quote that closes, and say this text
abbrev ReadsDouble : (r cs : List ℕ) → Escape → (bs t : List ℕ) → Type 0
ReadsDouble r cs escape bs t =
    ◌≡◌ {A = Rest} (double_rest escape false (blanks bs) (cs ++ 34 ∷ r)) (Some (length cs + 1, bs ++ t))

abbrev Double : (r cs : List ℕ) → Type 0
Double r cs = (escape : Escape) (bs t : List ℕ) → unescaped_behind escape cs ≡ Some t → ReadsDouble r cs escape bs t

-- one more byte that says nothing yet
one_more : (r cs : List ℕ) (escape : Escape) (bs t : List ℕ) → ReadsDouble r cs escape bs t
    → ◌≡◌ {A = Rest} (with_bytes 1 [] (double_rest escape false (blanks bs) (cs ++ 34 ∷ r)))
    (Some (length cs + 1 + 1, bs ++ t))
one_more r cs escape bs t h = ap (with_bytes 1 []) h ∙ some_rest (omega arith) refl

-- a byte that stands for itself, a blank or not
double_byte : (r : List ℕ) (c : ℕ) (cs bs t : List ℕ) (blank : Bool) → (c == 34) ≡ false → (c == 92) ≡ false
    → (c == 10) ≡ false → is_blank c ≡ blank → Double r cs → unescaped_behind none cs ≡ Some t
    → ReadsDouble r (c ∷ cs) none bs (c ∷ t)
double_byte r c cs bs t true quote escape feed e ih u =
    rw (quote, escape, feed, e) (ap (with_bytes 1 []) (ih none (bs ++ c ∷ []) t u)
    ∙ some_rest (omega arith) (append_assoc bs (c ∷ []) t))
double_byte r c cs bs t false quote escape feed e ih u =
    rw (quote, escape, feed, e) (ap (with_bytes 1 (bs ++ c ∷ [])) (ih none [] t u)
    ∙ some_rest (omega arith) (append_assoc bs (c ∷ []) t))

no_quote : (c : ℕ) → (c == 92) ≡ true → (c == 34) ≡ false
no_quote c e = grind (arith, e)

-- a byte in no escape
double_plain : (r : List ℕ) (c : ℕ) (cs bs t : List ℕ) (escape other : Bool) → (c == 92) ≡ escape
    → (c == 34 || begins_with_break (c ∷ cs)) ≡ other → Double r cs → unescaped_behind none (c ∷ cs) ≡ Some t
    → ReadsDouble r (c ∷ cs) none bs t
double_plain r c cs bs t true other e f ih u =
    let v : unescaped_behind backslash cs ≡ Some t = rw e at u in
    rw (no_quote c e, e) (one_more r cs backslash bs t (ih backslash bs t v) ∙ some_rest (omega arith) refl)
double_plain r c cs bs t false true e f ih u =
    let v : None ≡ Some t = rw (e, f) at u in
    absurd (none-some t v)
double_plain r c cs bs t false false e f ih u =
    let v : before (c ∷ []) (unescaped_behind none cs) ≡ Some t = rw (e, f) at u in
    let b = before_is (c ∷ []) _ t v in
    let parts = or_parts _ _ f in
    subst (ReadsDouble r (c ∷ cs) none bs) b.all
    (double_byte r c cs bs b.later (is_blank c) parts.0 e (no_feed c cs parts.1) refl ih b.is)

-- the character of a code
coded : (r : List ℕ) (c : ℕ) (cs bs t : List ℕ) (code : Option ℕ) → Double r cs
    → character_before code (unescaped_behind none cs) ≡ Some t
    → ◌≡◌ {A = Rest} (with_character code (blanks bs) (double_rest none false (blanks []) (cs ++ 34 ∷ r)))
    (Some (length (c ∷ cs) + 1, bs ++ t))
coded r c cs bs t None ih u = absurd (none-some t u)
coded r c cs bs t (Some code) ih u =
    let b = before_is (encode_utf8 code) _ t u in
    ap (with_bytes 1 (bs ++ encode_utf8 code)) (ih none [] b.later b.is)
    ∙ some_rest (omega arith) (append_assoc bs (encode_utf8 code) b.later ∙ ap (λ x. bs ++ x) b.all)

-- no letter is a line feed
feed_is_none : (c : ℕ) (cs : List ℕ) → (c == 10) ≡ true → unescaped_behind backslash (c ∷ cs) ≡ None
feed_is_none c cs e = subst (λ x. unescaped_behind backslash (x ∷ cs) ≡ None) (sym (eqb-true c 10 e)) refl

-- the byte behind a backslash
double_letter : (r : List ℕ) (c : ℕ) (cs bs t : List ℕ) (feed two four eight : Bool) → (c == 10) ≡ feed
    → (c == 120) ≡ two → (c == 117) ≡ four → (c == 85) ≡ eight → Double r cs
    → unescaped_behind backslash (c ∷ cs) ≡ Some t → ReadsDouble r (c ∷ cs) backslash bs t
double_letter r c cs bs t true two four eight e x u' U ih u =
    absurd (none-some t (sym (feed_is_none c cs e) ∙ u))
double_letter r c cs bs t false true four eight e x u' U ih u =
    let v : unescaped_behind (digits 2 0) cs ≡ Some t = rw x at u in
    rw (e, x) (one_more r cs (digits 2 0) bs t (ih (digits 2 0) bs t v) ∙ some_rest (omega arith) refl)
double_letter r c cs bs t false false true eight e x u' U ih u =
    let v : unescaped_behind (digits 4 0) cs ≡ Some t = rw (x, u') at u in
    rw (e, x, u') (one_more r cs (digits 4 0) bs t (ih (digits 4 0) bs t v) ∙ some_rest (omega arith) refl)
double_letter r c cs bs t false false false true e x u' U ih u =
    let v : unescaped_behind (digits 8 0) cs ≡ Some t = rw (x, u', U) at u in
    rw (e, x, u', U) (one_more r cs (digits 8 0) bs t (ih (digits 8 0) bs t v) ∙ some_rest (omega arith) refl)
double_letter r c cs bs t false false false false e x u' U ih u =
    let v : character_before (letter_code c) (unescaped_behind none cs) ≡ Some t = rw (x, u', U) at u in
    rw (e, x, u', U) (coded r c cs bs t (letter_code c) ih v)

-- a digit
double_digit : (r : List ℕ) (left code c : ℕ) (cs bs t : List ℕ) (digit last : Bool)
    → nat_lt (digit_value c) 16 ≡ digit → (left == 1) ≡ last → Double r cs
    → unescaped_behind (digits left code) (c ∷ cs) ≡ Some t → ReadsDouble r (c ∷ cs) (digits left code) bs t
double_digit r left code c cs bs t false last e f ih u =
    let v : None ≡ Some t = rw e at u in
    absurd (none-some t v)
double_digit r left code c cs bs t true true e f ih u =
    let now = 16 * code + digit_value c in
    let v : character_before (character_code now) (unescaped_behind none cs) ≡ Some t = rw (e, f) at u in
    rw (e, f) (coded r c cs bs t (character_code now) ih v)
double_digit r left code c cs bs t true false e f ih u =
    let next = digits (left - 1) (16 * code + digit_value c) in
    let v : unescaped_behind next cs ≡ Some t = rw (e, f) at u in
    rw (e, f) (one_more r cs next bs t (ih next bs t v) ∙ some_rest (omega arith) refl)

pub double_all : (r cs : List ℕ) → Double r cs
double_all r [] none bs t u =
    subst (ReadsDouble r [] none bs) (same_Some _ _ u) (some_rest refl (sym (append-nil bs)))
double_all r [] backslash bs t u = absurd (none-some t u)
double_all r [] (digits left code) bs t u = absurd (none-some t u)
double_all r (c ∷ cs) none bs t u =
    double_plain r c cs bs t (c == 92) (c == 34 || begins_with_break (c ∷ cs)) refl refl (double_all r cs) u
double_all r (c ∷ cs) backslash bs t u =
    double_letter r c cs bs t (c == 10) (c == 120) (c == 117) (c == 85) refl refl refl refl (double_all r cs) u
double_all r (c ∷ cs) (digits left code) bs t u =
    double_digit r left code c cs bs t (nat_lt (digit_value c) 16) (left == 1) refl refl (double_all r cs) u
