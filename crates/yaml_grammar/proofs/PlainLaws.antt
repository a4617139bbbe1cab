-- A plain text in one line is read whole.
use Rattle.std.proofs.Common.{◌≡◌, ℕ, suc, ◌+◌, ◌==◌, ◌&&◌, ◌||◌, not, Bool, true, false, List, [], ◌∷◌, ◌++◌, length}
use Rattle.std.proofs.Common.{Some, refl, sym, ap, ◌∙◌}
use Rattle.std.proofs.Common.{append_assoc, arith, nat_le, nat_lt, subst, true≢false}
use Rattle.std.proofs.lemmas.Bool.{and_parts, or_parts}
use Rattle.yaml_grammar.specs.Bytes.{at, is_gap}
use Rattle.yaml_grammar.specs.Folding.{Rest, blanks, feeds, is_some_passed, nothing_passed, with_bytes}
use Rattle.yaml_grammar.specs.Plain.{Context, by_columns, column_behind, is_flow, plain_rest, stops_plain}
use Rattle.yaml_grammar.specs.PlainLines.{fits_line, is_less_in}
use Rattle.yaml_grammar.proofs.RestLaws.{some_rest}

-- here a plain text ends
abbrev pub Ends : Context → (after : List ℕ) → Type 0
Ends context after =
    (column' skipped : ℕ) → ◌≡◌ {A = Rest} (plain_rest context column' skipped nothing_passed after) (Some (0, []))

-- so many bytes of it are read from here on, and say this
abbrev ReadsPlain : Context → (after t bs : List ℕ) → (skipped column' : ℕ) → Type 0
ReadsPlain context after t bs skipped column' =
    ◌≡◌ {A = Rest} (plain_rest context column' skipped (blanks bs) (t ++ after)) (Some (skipped + length t, bs ++ t))

pub not_true : (b : Bool) → not b ≡ true → b ≡ false
not_true true e = absurd (true≢false (sym e))
not_true false e = refl

-- a `:` before a byte that is no gap
colon_goes_on : (c : ℕ) (cs after : List ℕ) → not (c == 58 && is_gap (at cs 0)) ≡ true
    → (c == 58 && is_gap (at (cs ++ after) 0)) ≡ false
colon_goes_on c [] after e = both (c == 58) (is_gap (at after 0)) (not_true _ e)
  where
    both : (x y : Bool) → (x && true) ≡ false → (x && y) ≡ false
    both true y e = absurd (true≢false e)
    both false y e = refl
colon_goes_on c (d ∷ cs) after e = not_true _ e

or_right : (x y : Bool) → (x || y) ≡ true → x ≡ false → y ≡ true
or_right true y h e = absurd (true≢false e)
or_right false y h e = h

behind_space : (bs : List ℕ) (c : ℕ) → is_some_passed (blanks (bs ++ c ∷ [])) ≡ true
behind_space [] c = refl
behind_space (b ∷ bs) c = refl

-- what is known of a byte that is no space
record GoesOn (context : Context) (c : ℕ) (cs after bs : List ℕ) : Type 0 where
  no_feed : (c == 10) ≡ false
  no_stop : (column' : ℕ) → stops_plain context column' (blanks bs) c (cs ++ after) ≡ false

goes_on : (context : Context) (c : ℕ) (cs after bs : List ℕ) → is_flow context ≡ false
    → (not (is_gap c) && (not (c == 58 && is_gap (at cs 0)) && not (c == 35 && is_some_passed (blanks bs)))) ≡ true
    → GoesOn context c cs after bs
goes_on context c cs after bs flow e =
    let gap : is_gap c ≡ false = not_true _ (and_parts _ _ e).0 in
    let rest = and_parts _ _ (and_parts _ _ e).1 in
    let colon : (c == 58 && is_gap (at (cs ++ after) 0)) ≡ false = colon_goes_on c cs after rest.0 in
    let hash : (c == 35 && is_some_passed (blanks bs)) ≡ false = not_true _ rest.1 in
    record {
      no_feed = (or_parts _ _ (or_parts _ _ gap).1).0;
      no_stop = λ column'. rw (gap, colon, hash, flow) refl;
    }

-- the rest of it
abbrev Later : Context → (after cs : List ℕ) → Type 0
Later context after cs =
    (column' : ℕ) → ◌≡◌ {A = Rest} (plain_rest context column' 0 nothing_passed (cs ++ after)) (Some (length cs, cs))

-- a byte that is no space
plain_byte : (context : Context) (after : List ℕ) (c : ℕ) (cs bs : List ℕ) (skipped column' : ℕ)
    → is_flow context ≡ false → (c == 32) ≡ false → GoesOn context c cs after bs → Later context after cs
    → ReadsPlain context after (c ∷ cs) bs skipped column'
plain_byte context after c cs bs skipped column' flow space on later =
    rw (on.no_stop column', space, on.no_feed, flow)
    (ap (with_bytes (suc skipped) (bs ++ c ∷ [])) (later (column_behind column' c))
    ∙ some_rest (omega arith) (append_assoc bs (c ∷ []) cs))

-- the last byte
plain_last : (context : Context) (after : List ℕ) → is_flow context ≡ false → Ends context after → (c : ℕ) (bs : List ℕ)
    (skipped column' : ℕ) (space : Bool) → (c == 32) ≡ space → fits_line (is_some_passed (blanks bs)) (c ∷ []) ≡ true
    → ReadsPlain context after (c ∷ []) bs skipped column'
plain_last context after flow ends c bs skipped column' true e fits =
    let lost : false ≡ true = rw e at fits in
    absurd (true≢false (sym lost))
plain_last context after flow ends c bs skipped column' false e fits =
    let first : (c == 32 || (not (is_gap c) && (not (c == 58 && true)
    && not (c == 35 && is_some_passed (blanks bs))))) ≡ true
    = (and_parts _ _ fits).0 in
    let here : (not (is_gap c) && (not (c == 58 && true) && not (c == 35 && is_some_passed (blanks bs)))) ≡ true
    = or_right (c == 32) _ first e in
    plain_byte context after c [] bs skipped column' flow e (goes_on context c [] after bs flow here) (λ k. ends k 0)

-- another byte
plain_more : (context : Context) (after : List ℕ) → is_flow context ≡ false → (c d : ℕ) (cs bs : List ℕ)
    (skipped column' : ℕ) (space : Bool) → (c == 32) ≡ space
    → fits_line (is_some_passed (blanks bs)) (c ∷ d ∷ cs) ≡ true
    → ((bs : List ℕ) (skipped column' : ℕ) → fits_line (is_some_passed (blanks bs)) (d ∷ cs) ≡ true
    → ReadsPlain context after (d ∷ cs) bs skipped column')
    → ReadsPlain context after (c ∷ d ∷ cs) bs skipped column'
plain_more context after flow c d cs bs skipped column' true e fits ih =
    let more : fits_line true (d ∷ cs) ≡ true = rw e at fits in
    let there = subst (λ b. fits_line b (d ∷ cs) ≡ true) (sym (behind_space bs c)) more in
    rw e (ih (bs ++ c ∷ []) (suc skipped) (suc column') there
    ∙ some_rest (omega arith) (append_assoc bs (c ∷ []) (d ∷ cs)))
plain_more context after flow c d cs bs skipped column' false e fits ih =
    let first : (c == 32 || (not (is_gap c) && (not (c == 58 && is_gap d)
    && not (c == 35 && is_some_passed (blanks bs))))) ≡ true
    = (and_parts _ _ fits).0 in
    let second : fits_line (c == 32) (d ∷ cs) ≡ true = (and_parts _ _ fits).1 in
    let here : (not (is_gap c) && (not (c == 58 && is_gap d) && not (c == 35 && is_some_passed (blanks bs)))) ≡ true
    = or_right (c == 32) _ first e in
    let more : fits_line false (d ∷ cs) ≡ true = rw e at second in
    plain_byte context after c (d ∷ cs) bs skipped column' flow e (goes_on context c (d ∷ cs) after bs flow here)
    (λ k. ih [] 0 k more ∙ some_rest (omega arith) refl)

pub plain_some : (context : Context) (after : List ℕ) → is_flow context ≡ false → Ends context after
    → (c : ℕ) (cs bs : List ℕ) (skipped column' : ℕ) → fits_line (is_some_passed (blanks bs)) (c ∷ cs) ≡ true
    → ReadsPlain context after (c ∷ cs) bs skipped column'
plain_some context after flow ends c [] bs skipped column' fits =
    plain_last context after flow ends c bs skipped column' (c == 32) refl fits
plain_some context after flow ends c (d ∷ cs) bs skipped column' fits =
    plain_more context after flow c d cs bs skipped column' (c == 32) refl fits
    (plain_some context after flow ends d cs)

-- it ends at the `:` of a key
pub ends_at_colon : (context : Context) (d : ℕ) (after : List ℕ) → is_gap d ≡ true → Ends context (58 ∷ d ∷ after)
ends_at_colon context d after gap column' skipped = rw gap refl

or_last : (x y z : Bool) → (x || (y || (z || true))) ≡ true
or_last true y z = refl
or_last false true z = refl
or_last false false true = refl
or_last false false false = refl

less_stops : (least column' c : ℕ) (cs : List ℕ) (count : ℕ) → nat_le least column' ≡ false
    → stops_plain (by_columns least) column' (feeds count) c cs ≡ true
less_stops least column' c cs count far =
    rw far (or_last (is_gap c) (c == 58 && is_gap (at cs 0)) (c == 35 && true))

-- it ends before what stands less far in
less_step : (least c : ℕ) (cs : List ℕ) (column' skipped count : ℕ) (space feed : Bool) → (c == 32) ≡ space
    → (c == 10) ≡ feed → is_less_in least column' (c ∷ cs) ≡ true
    → ((column' skipped count : ℕ) → is_less_in least column' cs ≡ true
    → ◌≡◌ {A = Rest} (plain_rest (by_columns least) column' skipped (feeds count) cs) (Some (0, [])))
    → ◌≡◌ {A = Rest} (plain_rest (by_columns least) column' skipped (feeds count) (c ∷ cs)) (Some (0, []))
less_step least c cs column' skipped count true feed e f less ih =
    let more : is_less_in least (suc column') cs ≡ true = rw e at less in
    rw e (ih (suc column') (suc skipped) count more)
less_step least c cs column' skipped count false true e f less ih =
    let more : is_less_in least 0 cs ≡ true = rw (e, f) at less in
    rw (e, f) (ih 0 (suc skipped) (suc count) more)
less_step least c cs column' skipped count false false e f less ih =
    let more : nat_lt column' least ≡ true = rw (e, f) at less in
    let far : nat_le least column' ≡ false = grind (arith, more) in
    rw (less_stops least column' c cs count far, e, f) refl

ends_less_in : (least : ℕ) (after : List ℕ) (column' skipped count : ℕ) → is_less_in least column' after ≡ true
    → ◌≡◌ {A = Rest} (plain_rest (by_columns least) column' skipped (feeds count) after) (Some (0, []))
ends_less_in least [] column' skipped count less = refl
ends_less_in least (c ∷ cs) column' skipped count less =
    less_step least c cs column' skipped count (c == 32) (c == 10) refl refl less (ends_less_in least cs)

pub ends_at_line : (least : ℕ) (after : List ℕ) → is_less_in least 0 after ≡ true → Ends (by_columns least) (10 ∷ after)
ends_at_line least after less column' skipped = ends_less_in least after 0 (suc skipped) 1 less
