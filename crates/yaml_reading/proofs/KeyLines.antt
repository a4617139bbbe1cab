-- A key ends where it would as a leaf that may go on in later lines, and its line goes on there.
use Rattle.std.proofs.Common.{◌≡◌, ℕ, zero, suc, ◌+◌, ◌-◌, ◌≤◌, ◌==◌, ◌&&◌, ◌||◌, Bool, true, false, List, []}
use Rattle.std.proofs.Common.{◌∷◌, ◌++◌, length, Option, Some, None, refl, sym, ap, ◌∙◌, arith, subst, drop, take}
use Rattle.std.proofs.Common.{replicate}
use Rattle.std.specs.Prelude.{if◌then◌else◌, nat_eq, nat_le, slice_range}
use Rattle.std.specs.List.{list_any}
use Rattle.std.proofs.lemmas.Bool.{false≢true, and_parts, eqb-true, leb-true, or_right, not-true}
use Rattle.std.proofs.lemmas.List.{drop-drop, drop_at}
use Rattle.yaml_base.specs.QuotedLines.{none}
use Rattle.yaml_base.specs.declared.event.ScalarStyle.TheVariants as style
use Rattle.yaml_grammar.specs.Blocks.{ends_key}
use Rattle.yaml_grammar.specs.Brackets.{has_colon}
use Rattle.yaml_grammar.specs.Bytes.{at, column, is_gap, is_one_line}
use Rattle.yaml_grammar.specs.Folding.{Passed, Rest, and_blank, and_feed, blanks, escaped, feeds, has_feed}
use Rattle.yaml_grammar.specs.Folding.{is_some_passed, nothing_passed}
use Rattle.yaml_grammar.specs.Folding.{said_by, with_bytes}
use Rattle.yaml_grammar.specs.Gaps.{Before, apart, before, breaks, comment, ends_its_line, gap, next, one_feed_more}
use Rattle.yaml_grammar.specs.Gaps.{one_more, token}
use Rattle.yaml_grammar.specs.Leaves.{Leaf, alias_at, leaf_at, styled}
use Rattle.yaml_grammar.specs.Plain.{as_key, begins_plain, by_columns, column_behind, is_refused, plain_at}
use Rattle.yaml_grammar.specs.Plain.{plain_rest, stops_plain}
use Rattle.yaml_grammar.specs.Quotes.{double_rest, single_rest}
use Rattle.yaml_reading.proofs.Begins.{byte_behind}
use Rattle.yaml_reading.proofs.Options.{map_some, same_some}

-- what holds of both ways, each where it is taken
either_by : {A : Type 0} (P : A → Type 0) (b : Bool) (x y : A) → (b ≡ true → P x) → (b ≡ false → P y)
    → P (if b then x else y)
either_by P true x y p q = p refl
either_by P false x y p q = q refl

-- a line feed stands among the bytes of a gap that a line ends in
abbrev HasFeed : List ℕ → ℕ × Bool → Type 0
HasFeed cs g = g.1 ≡ true → list_any (nat_eq 10) (take g.0 cs) ≡ true

no_gap_feed : (cs : List ℕ) → HasFeed cs (0, false)
no_gap_feed cs h = absurd (false≢true h)

feed_here : (c : ℕ) (cs : List ℕ) (g : ℕ × Bool) → (c == 10) ≡ true → HasFeed (c ∷ cs) (one_feed_more g)
feed_here c cs g e h = rw (eqb-true c 10 e) refl

feed_behind : (c : ℕ) (cs : List ℕ) (g : ℕ × Bool) → HasFeed cs g → HasFeed (c ∷ cs) (one_more g)
feed_behind c cs g f h = or_right (nat_eq 10 c) _ (f h)

gap_feeds : (b : Before) (cs : List ℕ) → HasFeed cs (gap b cs)
gap_feeds b [] = no_gap_feed []
gap_feeds comment (c ∷ cs) =
    either_by (HasFeed (c ∷ cs)) (c == 10) (one_feed_more (gap apart cs)) (one_more (gap comment cs))
    (feed_here c cs (gap apart cs)) (λ e. feed_behind c cs (gap comment cs) (gap_feeds comment cs))
gap_feeds token (c ∷ cs) =
    either_by (HasFeed (c ∷ cs)) (c == 10) (one_feed_more (gap apart cs))
    (if c == 32 then one_more (gap apart cs) else (0, false)) (feed_here c cs (gap apart cs))
    (λ e. either_by (HasFeed (c ∷ cs)) (c == 32) (one_more (gap apart cs)) (0, false)
    (λ e. feed_behind c cs (gap apart cs) (gap_feeds apart cs)) (λ e. no_gap_feed (c ∷ cs)))
gap_feeds apart (c ∷ cs) =
    either_by (HasFeed (c ∷ cs)) (c == 10) (one_feed_more (gap apart cs))
    (if c == 32 then one_more (gap apart cs) else if c == 35 then one_more (gap comment cs) else (0, false))
    (feed_here c cs (gap apart cs))
    (λ e. either_by (HasFeed (c ∷ cs)) (c == 32) (one_more (gap apart cs))
    (if c == 35 then one_more (gap comment cs) else (0, false))
    (λ e. feed_behind c cs (gap apart cs) (gap_feeds apart cs))
    (λ e. either_by (HasFeed (c ∷ cs)) (c == 35) (one_more (gap comment cs)) (0, false)
    (λ e. feed_behind c cs (gap comment cs) (gap_feeds comment cs)) (λ e. no_gap_feed (c ∷ cs))))

-- so it does among more bytes before
any_later : (test : ℕ → Bool) (d m k : ℕ) (xs : List ℕ) → k ≡ d + m → list_any test (take m (drop d xs)) ≡ true
    → list_any test (take k xs) ≡ true
any_later test zero m k xs same h = subst (λ n. list_any test (take n xs) ≡ true) (omega (arith, same)) h
any_later test (suc d) zero k xs same h = absurd (false≢true h)
any_later test (suc d) (suc m) k [] same h = absurd (false≢true h)
any_later test (suc d) (suc m) zero (x ∷ xs) same h = absurd (omega (arith, same))
any_later test (suc d) (suc m) (suc k) (x ∷ xs) same h =
    or_right (test x) _ (any_later test d (suc m) k xs (omega (arith, same)) h)

module _ (text : List ℕ) where
  line_feeds : (i e : ℕ) → i ≤ e → breaks text e ≡ true
      → list_any (nat_eq 10) (slice_range text i (next text e)) ≡ true
  line_feeds i e le h =
      let size = (gap (before text e) (drop e text)).0 in
      let there : drop e text ≡ drop (e - i) (drop i text) =
      ap (λ k. drop k text) (omega (arith, le)) ∙ sym (drop-drop (e - i) i text) in
      any_later (nat_eq 10) (e - i) size ((e + size) - i) (drop i text) (omega (arith, le))
      (ap (λ l. list_any (nat_eq 10) (take size l)) (sym there) ∙ gap_feeds (before text e) (drop e text) h)

  -- the line goes on behind a key
  pub key_goes_on : (i e : ℕ) → i ≤ e → has_colon text i e ≡ true → breaks text e ≡ false
  key_goes_on i e le h = by_break (breaks text e) refl
    where
      by_break : (b : Bool) → breaks text e ≡ b → b ≡ false
      by_break true f =
          let rest = and_parts (at text (next text e) == 58) _ h in
          let line = and_parts (is_one_line text i (next text e)) _ rest.1 in
          absurd (false≢true (sym (not-true _ line.0) ∙ line_feeds i e le f))
      by_break false f = refl

  pub key_ends_no_line : (i e : ℕ) → i ≤ e → ends_key text i e ≡ true → ends_its_line text e ≡ false
  key_ends_no_line i e le h =
      let colon = (and_parts (has_colon text i e) _ h).0 in
      let byte = eqb-true (at text (next text e)) 58 (and_parts (at text (next text e) == 58) _ colon).0 in
      or_false (breaks text e) (nat_le (length text) (next text e)) (key_goes_on i e le colon)
      (inside (nat_le (length text) (next text e)) refl byte)
    where
      or_false : (x y : Bool) → x ≡ false → y ≡ false → (x || y) ≡ false
      or_false x y p q = rw (p, q) refl

      inside : (b : Bool) → nat_le (length text) (next text e) ≡ b → at text (next text e) ≡ 58 → b ≡ false
      inside true f byte =
          absurd (omega (arith, byte, byte_behind text (next text e) (leb-true (length text) (next text e) f)))
      inside false f byte = refl

-- behind a line feed a key ends
still_blank : (c : ℕ) (p : Passed) → has_feed p ≡ true → has_feed (and_blank p c) ≡ true
still_blank c (blanks bs) h = absurd (false≢true h)
still_blank c (feeds n) h = refl
still_blank c (escaped n) h = refl

still_feed : (p : Passed) → has_feed (and_feed p) ≡ true
still_feed (blanks bs) = refl
still_feed (feeds n) = refl
still_feed (escaped n) = refl

no_bytes : (r : ℕ × List ℕ) → ◌≡◌ {A = Rest} (Some (0, [])) (Some r) → r.0 ≡ 0
no_bytes r e = ap (λ (x : ℕ × List ℕ). x.0) (sym (same_some (0, []) r e))

stopped : (x y z : Bool) (space feed rest : Rest) (r : ℕ × List ℕ) → (space ≡ Some r → r.0 ≡ 0)
    → (feed ≡ Some r → r.0 ≡ 0) → z ≡ true
    → (if x then space else if y then feed else if z then Some (0, []) else rest) ≡ Some r → r.0 ≡ 0
stopped true y z space feed rest r f g s h = f h
stopped false true z space feed rest r f g s h = g h
stopped false false true space feed rest r f g s h = no_bytes r h
stopped false false false space feed rest r f g s h = absurd (false≢true s)

feed_ends : (column' skipped : ℕ) (passed : Passed) (cs : List ℕ) (r : ℕ × List ℕ) → has_feed passed ≡ true
    → ◌≡◌ {A = Rest} (plain_rest as_key column' skipped passed cs) (Some r) → r.0 ≡ 0
feed_ends column' skipped passed [] r h e = no_bytes r e
feed_ends column' skipped passed (c ∷ cs) r h e =
    stopped (c == 32) (c == 10) (stops_plain as_key column' passed c cs)
    (plain_rest as_key (suc column') (suc skipped) (and_blank passed c) cs)
    (plain_rest as_key 0 (suc skipped) (and_feed passed) cs)
    (if is_refused as_key c cs then None
    else with_bytes (suc skipped) (said_by passed ++ c ∷ [])
    (plain_rest as_key (column_behind column' c) 0 nothing_passed cs)) r
    (feed_ends (suc column') (suc skipped) (and_blank passed c) cs r (still_blank c passed h))
    (feed_ends 0 (suc skipped) (and_feed passed) cs r (still_feed passed))
    (or_right (is_gap c) _ (or_right (c == 58 && is_gap (at cs 0)) _
    (or_right (c == 35 && is_some_passed passed) _ (ap (λ b. b && true) h)))) e

-- spaces and then a line feed
gap_spaces : (b : Bool) (n : ℕ) (cs : List ℕ) → (gap (if b then apart else token) (replicate n 32 ++ 10 ∷ cs)).1 ≡ true
gap_spaces true zero cs = refl
gap_spaces false zero cs = refl
gap_spaces true (suc n) cs = gap_spaces true n cs
gap_spaces false (suc n) cs = gap_spaces true n cs

more_spaces : (n : ℕ) (cs : List ℕ) → replicate n 32 ++ 32 ∷ cs ≡ replicate (suc n) 32 ++ cs
more_spaces zero cs = refl
more_spaces (suc n) cs = ap (λ l. 32 ∷ l) (more_spaces n cs)

spaces_size : (n : ℕ) → length {A = ℕ} (replicate n 32) ≡ n
spaces_size zero = refl
spaces_size (suc n) = ap suc (spaces_size n)

behind_spaces : (text : List ℕ) (start n c : ℕ) (cs : List ℕ) → drop start text ≡ replicate n 32 ++ c ∷ cs
    → drop (start + n + 1) text ≡ cs
behind_spaces text start n c cs e =
    let count : start + n + 1 ≡ start + (n + 1) = omega arith in
    ap (λ k. drop k text) count ∙ sym (drop-drop (n + 1) start text) ∙ ap (drop (n + 1)) e ∙ passed n
  where
    passed : (n : ℕ) → drop (n + 1) (replicate n 32 ++ c ∷ cs) ≡ cs
    passed n = ap (λ k. drop k (replicate n 32 ++ c ∷ cs)) (omega arith)
        ∙ sym (drop-drop 1 n (replicate n 32 ++ c ∷ cs))
        ∙ ap (drop 1) (drop_at (replicate n 32) (c ∷ cs) n (spaces_size n))

chosen : (x y z u : Bool) (a b f g k l : Rest) (r : ℕ × List ℕ) → (x ≡ true → a ≡ Some r → b ≡ Some r)
    → (y ≡ true → f ≡ Some r → g ≡ Some r) → (k ≡ Some r → l ≡ Some r)
    → (if x then a else if y then f else if z then Some (0, []) else if u then None else k) ≡ Some r
    → (if x then b else if y then g else if z then Some (0, []) else if u then None else l) ≡ Some r
chosen true y z u a b f g k l r p q s h = p refl h
chosen false true z u a b f g k l r p q s h = q refl h
chosen false false true u a b f g k l r p q s h = h
chosen false false false true a b f g k l r p q s h = h
chosen false false false false a b f g k l r p q s h = s h

module _ (text : List ℕ) (least e : ℕ) (in_line : breaks text e ≡ false) where
  no_feed : (start skipped : ℕ) (cs : List ℕ) → drop start text ≡ replicate skipped 32 ++ 10 ∷ cs → start ≡ e → ⊥
  no_feed start skipped cs there same =
      let first = e == 0 || (at text (e - 1) == 32 || at text (e - 1) == 10) in
      let here : drop e text ≡ replicate skipped 32 ++ 10 ∷ cs = ap (λ k. drop k text) (sym same) ∙ there in
      false≢true (sym in_line ∙ ap (λ l. (gap (if first then apart else token) l).1) here ∙ gap_spaces first skipped cs)

  -- both ways to go on read the same, up to a place behind which the line goes on
  both_same : (start column' skipped : ℕ) (bs cs : List ℕ) (r : ℕ × List ℕ)
      → drop start text ≡ replicate skipped 32 ++ cs → start + r.0 ≡ e
      → ◌≡◌ {A = Rest} (plain_rest as_key column' skipped (blanks bs) cs) (Some r)
      → ◌≡◌ {A = Rest} (plain_rest (by_columns least) column' skipped (blanks bs) cs) (Some r)
  both_same start column' skipped bs [] r there ends h = h
  both_same start column' skipped bs (c ∷ cs) r there ends h =
      let key = plain_rest as_key (column_behind column' c) 0 nothing_passed cs in
      let lines = plain_rest (by_columns least) (column_behind column' c) 0 nothing_passed cs in
      chosen (c == 32) (c == 10) (stops_plain as_key column' (blanks bs) c cs) (is_refused as_key c cs)
      (plain_rest as_key (suc column') (suc skipped) (blanks (bs ++ c ∷ [])) cs)
      (plain_rest (by_columns least) (suc column') (suc skipped) (blanks (bs ++ c ∷ [])) cs)
      (plain_rest as_key 0 (suc skipped) (feeds 1) cs) (plain_rest (by_columns least) 0 (suc skipped) (feeds 1) cs)
      (with_bytes (suc skipped) (bs ++ c ∷ []) key) (with_bytes (suc skipped) (bs ++ c ∷ []) lines) r
      (λ x h. both_same start (suc column') (suc skipped) (bs ++ c ∷ []) cs r
      (there ∙ ap (λ b. replicate skipped 32 ++ b ∷ cs) (eqb-true c 32 x) ∙ more_spaces skipped cs) ends h)
      (λ x h. absurd (no_feed start skipped cs (there ∙ ap (λ b. replicate skipped 32 ++ b ∷ cs) (eqb-true c 10 x))
      (omega (arith, ends, feed_ends 0 (suc skipped) (feeds 1) cs r refl h))))
      (λ h.
      let m = map_some key _ r h in
      let size : suc skipped + m.0.0 ≡ r.0 = ap (λ (x : ℕ × List ℕ). x.0) m.2 in
      ap (with_bytes (suc skipped) (bs ++ c ∷ []))
      (both_same (start + skipped + 1) (column_behind column' c) 0 [] cs m.0
      (behind_spaces text start skipped c cs there)
      (omega (arith, ends, size)) m.1) ∙ ap Some m.2) h

plain_found : (text : List ℕ) (least q e : ℕ) (x : Leaf) → breaks text e ≡ false
    → styled style.Plain q (plain_at text as_key q) ≡ Some (x, e)
    → styled style.Plain q (plain_at text (by_columns least) q) ≡ Some (x, e)
plain_found text least q e x in_line h = by_begin (begins_plain text false q) h
  where
    by_begin : (b : Bool)
        → styled style.Plain q (if b then plain_rest as_key (column text q) 0 nothing_passed (drop q text) else None)
        ≡ Some (x, e)
        → styled style.Plain q
        (if b then plain_rest (by_columns least) (column text q) 0 nothing_passed (drop q text) else None) ≡ Some (x, e)
    by_begin false h = h
    by_begin true h =
        let m = map_some (plain_rest as_key (column text q) 0 nothing_passed (drop q text)) _ (x, e) h in
        ap (styled style.Plain q)
        (both_same text least e in_line q (column text q) 0 [] (drop q text) m.0 refl (ap (λ (x : Leaf × ℕ). x.1) m.2)
        m.1)
        ∙ ap Some m.2

-- a key is the same as a leaf that may go on in later lines
pub key_as_leaf : (text : List ℕ) (least q e : ℕ) (x : Leaf) → breaks text e ≡ false
    → leaf_at text as_key q ≡ Some (x, e) → leaf_at text (by_columns least) q ≡ Some (x, e)
key_as_leaf text least q e x in_line h =
    by_byte (at text q == 42) (at text q == 39) (at text q == 34) (alias_at text false (suc q))
    (styled style.SingleQuoted (suc q) (single_rest false false nothing_passed (drop (suc q) text)))
    (styled style.DoubleQuoted (suc q) (double_rest none false nothing_passed (drop (suc q) text)))
    (styled style.Plain q (plain_at text as_key q)) (styled style.Plain q (plain_at text (by_columns least) q))
    (plain_found text least q e x in_line) h
  where
    by_byte : (a s d : Bool) (r t u v w : Option (Leaf × ℕ)) → (v ≡ Some (x, e) → w ≡ Some (x, e))
        → (if a then r else if s then t else if d then u else v) ≡ Some (x, e)
        → (if a then r else if s then t else if d then u else w) ≡ Some (x, e)
    by_byte true s d r t u v w f h = h
    by_byte false true d r t u v w f h = h
    by_byte false false true r t u v w f h = h
    by_byte false false false r t u v w f h = f h
