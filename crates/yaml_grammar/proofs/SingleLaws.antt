-- What stands between single quotes in one line, by the definition of yaml_base, is read so here.
use Rattle.std.proofs.Common.{◌≡◌, ℕ, ◌+◌, ◌==◌, Bool, true, false, List, [], ◌∷◌, ◌++◌, length, Some, None, refl, sym}
use Rattle.std.proofs.Common.{ap, ◌∙◌, append_assoc, append-nil, arith, subst}
use Rattle.std.proofs.lemmas.Option.{same_Some, none-some}
use Rattle.yaml_base.specs.LineBreaks.{begins_with_break}
use Rattle.yaml_base.specs.QuotedLines.{before, undoubled_behind}
use Rattle.yaml_grammar.specs.Bytes.{at, is_blank}
use Rattle.yaml_grammar.specs.Folding.{Rest, blanks, with_bytes}
use Rattle.yaml_grammar.specs.Quotes.{single_rest}
use Rattle.yaml_grammar.proofs.RestLaws.{before_is, no_feed, some_rest}

-- so many bytes are read here, up to the quote that closes, and say this text
abbrev ReadsSingle : (r cs : List ℕ) → (q : Bool) → (bs t : List ℕ) → Type 0
ReadsSingle r cs q bs t =
    ◌≡◌ {A = Rest} (single_rest q false (blanks bs) (cs ++ 39 ∷ r)) (Some (length cs + 1, bs ++ t))

abbrev Single : (r cs : List ℕ) → Type 0
Single r cs = (q : Bool) (bs t : List ℕ) → undoubled_behind q cs ≡ Some t → ReadsSingle r cs q bs t

-- a byte that is no quote, a blank or not
single_byte : (r : List ℕ) (c : ℕ) (cs bs t : List ℕ) (blank : Bool) → (c == 39) ≡ false → (c == 10) ≡ false
    → is_blank c ≡ blank → Single r cs → undoubled_behind false cs ≡ Some t → ReadsSingle r (c ∷ cs) false bs (c ∷ t)
single_byte r c cs bs t true quote feed e ih u =
    rw (quote, feed, e) (ap (with_bytes 1 []) (ih false (bs ++ c ∷ []) t u)
    ∙ some_rest (omega arith) (append_assoc bs (c ∷ []) t))
single_byte r c cs bs t false quote feed e ih u =
    rw (quote, feed, e) (ap (with_bytes 1 (bs ++ c ∷ [])) (ih false [] t u)
    ∙ some_rest (omega arith) (append_assoc bs (c ∷ []) t))

-- a byte behind no quote
single_step : (r : List ℕ) (c : ℕ) (cs bs t : List ℕ) (quote brk : Bool) → (c == 39) ≡ quote
    → begins_with_break (c ∷ cs) ≡ brk → Single r cs → undoubled_behind false (c ∷ cs) ≡ Some t
    → ReadsSingle r (c ∷ cs) false bs t
single_step r c cs bs t true brk e f ih u =
    let v : undoubled_behind true cs ≡ Some t = rw e at u in
    rw e (ap (with_bytes 1 []) (ih true bs t v) ∙ some_rest (omega arith) refl)
single_step r c cs bs t false true e f ih u =
    let v : None ≡ Some t = rw (e, f) at u in
    absurd (none-some t v)
single_step r c cs bs t false false e f ih u =
    let v : before (c ∷ []) (undoubled_behind false cs) ≡ Some t = rw (e, f) at u in
    let b = before_is (c ∷ []) _ t v in
    subst (ReadsSingle r (c ∷ cs) false bs) b.all
    (single_byte r c cs bs b.later (is_blank c) e (no_feed c cs f) refl ih b.is)

-- a byte behind a quote
single_behind : (r : List ℕ) (c : ℕ) (cs bs t : List ℕ) (quote : Bool) → (c == 39) ≡ quote → Single r cs
    → undoubled_behind true (c ∷ cs) ≡ Some t → ReadsSingle r (c ∷ cs) true bs t
single_behind r c cs bs t true e ih u =
    let v : before (39 ∷ []) (undoubled_behind false cs) ≡ Some t = rw e at u in
    let b = before_is (39 ∷ []) _ t v in
    subst (ReadsSingle r (c ∷ cs) true bs) b.all
    (rw e (ap (with_bytes 1 (bs ++ 39 ∷ [])) (ih false [] b.later b.is)
    ∙ some_rest (omega arith) (append_assoc bs (39 ∷ []) b.later)))
single_behind r c cs bs t false e ih u =
    let v : None ≡ Some t = rw e at u in
    absurd (none-some t v)

-- the quote that closes
single_closes : (r bs : List ℕ) → (at r 0 == 39) ≡ false → ReadsSingle r [] false bs []
single_closes [] bs e = some_rest refl (sym (append-nil bs))
single_closes (d ∷ r) bs e = rw e (some_rest refl (sym (append-nil bs)))

pub single_all : (r cs : List ℕ) → (at r 0 == 39) ≡ false → Single r cs
single_all r [] ends true bs t u = absurd (none-some t u)
single_all r [] ends false bs t u = subst (ReadsSingle r [] false bs) (same_Some _ _ u) (single_closes r bs ends)
single_all r (c ∷ cs) ends true bs t u = single_behind r c cs bs t (c == 39) refl (single_all r cs ends) u
single_all r (c ∷ cs) ends false bs t u =
    single_step r c cs bs t (c == 39) (begins_with_break (c ∷ cs)) refl refl (single_all r cs ends) u
