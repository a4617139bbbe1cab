-- What is printed between single quotes is read, piece by piece.
use Rattle.std.proofs.Common.{◌≡◌, ℕ, zero, suc, ◌+◌, ◌<◌, ◌≤◌, Bool, true, false, not, ◌==◌, ◌&&◌, ◌||◌, refl, sym}
use Rattle.std.proofs.Common.{ap, ap₂, ◌∙◌, arith, List, [], ◌∷◌, ◌++◌, length, replicate, None, Some, append_assoc}
use Rattle.std.proofs.Common.{append-nil}
use Rattle.std.proofs.lemmas.Bool.{and_parts, or_parts, false≢true, ne_eqb, eqb-true}
use Rattle.std.proofs.lemmas.List.{length-append, length-replicate}
use Rattle.std.proofs.lemmas.Str.{encode_ascii}
use Rattle.std.specs.List.{list_all}
use Rattle.std.specs.Prelude.{if◌then◌else◌}
use lib.Utf8.{encode, encodes, scalar, scalars}
use Rattle.yaml_emit.specs.Characters.{is_line_text, is_printable}
use Rattle.yaml_emit.specs.PrintedTexts.{quote_doubled, single_quoted, single_piece}
use Rattle.yaml_emit.specs.PrintedTexts as emit
use Rattle.yaml_emit.specs.Styles.{has_behind}
use Rattle.yaml_emit.proofs.ByItself.{top_of}
use Rattle.yaml_grammar.specs.Bytes.{at}
use Rattle.yaml_grammar.specs.Folding.{Passed, Rest as Said, blanks, feeds, is_some_passed, nothing_passed, said_by}
use Rattle.yaml_grammar.specs.Folding.{with_bytes}
use Rattle.yaml_grammar.specs.Quotes.{single_rest}
use Rattle.yaml_grammar.proofs.PlainLaws.{not_true}
use Rattle.yaml_grammar.proofs.RestLaws.{some_rest}
use Rattle.yaml_printed.proofs.ByteLaws.{encode_all}
use Rattle.yaml_printed.proofs.Escapes.{len_one}
use Rattle.yaml_printed.proofs.Words.{one_further}

-- two parts that are read
with_with : (m n : ℕ) (xs ys : List ℕ) (r : Said) → ◌≡◌ {A = Said} (with_bytes m xs (with_bytes n ys r))
    (with_bytes (m + n) (xs ++ ys) r)
with_with m n xs ys None = refl
with_with m n xs ys (Some p) = some_rest (omega arith) (sym (append_assoc xs ys p.1))

-- ---- bytes that stand for themselves

abbrev is_calm : ℕ → Bool
is_calm b = not (b == 39 || (b == 10 || (b == 32 || b == 9)))

record Calm (b : ℕ) : Type 0 where
  quote : (b == 39) ≡ false
  feed : (b == 10) ≡ false
  space : (b == 32) ≡ false
  tab : (b == 9) ≡ false

calm : (b : ℕ) → is_calm b ≡ true → Calm b
calm b h =
    let p = or_parts (b == 39) (b == 10 || (b == 32 || b == 9)) (not_true
    (b == 39 || (b == 10 || (b == 32 || b == 9))) h) in
    let q = or_parts (b == 10) (b == 32 || b == 9) p.1 in
    let r = or_parts (b == 32) (b == 9) q.1 in
    record { quote = p.0; feed = q.0; space = r.0; tab = r.1 }

beyond_calm : (b : ℕ) → 128 ≤ b → b < 256 → is_calm b ≡ true
beyond_calm b h top =
    rw (
      ne_eqb b 39 (λ e. absurd (omega arith)),
      ne_eqb b 10 (λ e. absurd (omega arith)),
      ne_eqb b 32 (λ e. absurd (omega arith)),
      ne_eqb b 9 (λ e. absurd (omega arith)),
    ) refl

not_both : (c : ℕ) → (c == 10) ≡ true → (c == 32) ≡ false
not_both c e = ap (λ k. k == 32) (eqb-true c 10 e)

some_more : (bs : List ℕ) → is_some_passed (blanks (bs ++ 32 ∷ [])) ≡ true
some_more [] = refl
some_more (b ∷ bs) = refl

line_shown : (c : ℕ) → is_line_text c ≡ true → (c == 10) ≡ false → is_printable c ≡ true
line_shown c l e = either (c == 10) (is_printable c) l e
  where
    either : (x y : Bool) → (x || y) ≡ true → x ≡ false → y ≡ true
    either true y h e = absurd (false≢true (sym e))
    either false y h e = h

-- what closes the quotes is behind them
module _ (rest : List ℕ) (closes : (at rest 0 == 39) ≡ false) where
  calm_run : (x : ℕ) (xs : List ℕ) (passed : Passed) (ys : List ℕ) → list_all is_calm (x ∷ xs) ≡ true
      → ◌≡◌ {A = Said} (single_rest false false passed ((x ∷ xs) ++ ys))
      (with_bytes (suc (length xs)) (said_by passed ++ (x ∷ xs)) (single_rest false false nothing_passed ys))
  calm_run x [] passed ys h =
      let c = calm x (and_parts (is_calm x) true h).0 in
      rw (c.quote, c.feed, c.space, c.tab) refl
  calm_run x (y ∷ xs) passed ys h =
      let p = and_parts (is_calm x) (list_all is_calm (y ∷ xs)) h in
      let c = calm x p.0 in
      rw (c.quote, c.feed, c.space, c.tab)
      (ap (with_bytes 1 (said_by passed ++ x ∷ [])) (calm_run y xs nothing_passed ys p.1)
      ∙ (with_with 1 (suc (length xs)) (said_by passed ++ x ∷ []) (y ∷ xs) (single_rest false false nothing_passed ys)
      ∙ ap₂ (λ n l. with_bytes n l (single_rest false false nothing_passed ys)) (omega arith)
      (append_assoc (said_by passed) (x ∷ []) (y ∷ xs))))

  calm_bytes : (xs : List ℕ) (passed : Passed) (ys : List ℕ) → (xs ≡ [] → ⊥) → list_all is_calm xs ≡ true
      → ◌≡◌ {A = Said} (single_rest false false passed (xs ++ ys))
      (with_bytes (length xs) (said_by passed ++ xs) (single_rest false false nothing_passed ys))
  calm_bytes [] passed ys some h = absurd (some refl)
  calm_bytes (x ∷ xs) passed ys some h = calm_run x xs passed ys h

  -- a character of the text, but a space or a line feed
  piece : (c : ℕ) (passed : Passed) (ys : List ℕ) → scalar c ≡ true → is_printable c ≡ true → (c == 32) ≡ false
      → ◌≡◌ {A = Said} (single_rest false false passed (quote_doubled c ++ ys))
      (with_bytes (length (quote_doubled c)) (said_by passed ++ encode c) (single_rest false false nothing_passed ys))
  piece c passed ys s h space = either (c == 39) refl
    where
      some : encode c ≡ [] → ⊥
      some e = absurd (omega (arith, len_one c, ap length e))

      no : (k : ℕ) → is_printable k ≡ false → (c == k) ≡ false
      no k none = ne_eqb c k (λ e. absurd (false≢true (sym none ∙ (ap is_printable (sym e) ∙ h))))

      either : (b : Bool) → (c == 39) ≡ b
          → ◌≡◌ {A = Said} (single_rest false false passed ((if b then 39 ∷ 39 ∷ [] else encode c) ++ ys))
          (with_bytes (length (if b then 39 ∷ 39 ∷ [] else encode c)) (said_by passed ++ encode c)
          (single_rest false false nothing_passed ys))
      either true e =
          with_with 1 1 [] (said_by passed ++ 39 ∷ []) (single_rest false false nothing_passed ys)
          ∙ ap (λ l. with_bytes 2 (said_by passed ++ l) (single_rest false false nothing_passed ys))
          (sym (ap encode (eqb-true c 39 e) ∙ encode_ascii 39 (omega arith)))
      either false e =
          calm_bytes (encode c) passed ys some
          (encode_all is_calm beyond_calm c (omega (arith, top_of c s))
          (λ low. rw (e, no 10 refl, space, no 9 refl) refl))

  -- the quote that closes
  closed : (passed : Passed) (begins : Bool) → ◌≡◌ {A = Said} (single_rest true begins passed rest)
      (Some (0, said_by passed))
  closed passed begins = go rest closes
    where
      go : (rest : List ℕ) → (at rest 0 == 39) ≡ false
          → ◌≡◌ {A = Said} (single_rest true begins passed rest) (Some (0, said_by passed))
      go [] e = refl
      go (c ∷ cs) e = rw e refl

  -- the indentation of a later line
  indent_run : (begins : Bool) (k n : ℕ) (ys : List ℕ)
      → ◌≡◌ {A = Said} (single_rest false begins (feeds n) (replicate (suc k) 32 ++ ys))
      (with_bytes (suc k) [] (single_rest false false (feeds n) ys))
  indent_run true zero n ys = refl
  indent_run false zero n ys = refl
  indent_run true (suc k) n ys =
      ap (with_bytes 1 []) (indent_run false k n ys)
      ∙ (with_with 1 (suc k) [] [] (single_rest false false (feeds n) ys)
      ∙ ap (λ m. with_bytes m [] (single_rest false false (feeds n) ys)) (omega arith))
  indent_run false (suc k) n ys =
      ap (with_bytes 1 []) (indent_run false k n ys)
      ∙ (with_with 1 (suc k) [] [] (single_rest false false (feeds n) ys)
      ∙ ap (λ m. with_bytes m [] (single_rest false false (feeds n) ys)) (omega arith))

  module _ (k : ℕ) where
    abbrev printed : Bool → List ℕ → List ℕ
    printed b cs = emit.single_rest (suc k) b cs

    -- behind blanks, and behind so many line feeds of the text and one more
    abbrev InLine : List ℕ → List ℕ → Type 0
    InLine bs cs = has_behind 32 10 (is_some_passed (blanks bs)) cs ≡ false → has_behind 10 32 false cs ≡ false
        → ◌≡◌ {A = Said} (single_rest false false (blanks bs) (printed false cs ++ (39 ∷ rest)))
        (Some (length (printed false cs) + 1, bs ++ encodes cs))

    abbrev InFeeds : ℕ → List ℕ → Type 0
    InFeeds m cs = has_behind 32 10 false cs ≡ false → has_behind 10 32 true cs ≡ false
        → ◌≡◌ {A = Said} (single_rest false true (feeds (suc (suc m))) (printed true cs ++ (39 ∷ rest)))
        (Some (length (printed true cs) + 1, replicate (suc m) 10 ++ encodes cs))

    -- a character that is no space and no line feed, and what is behind it
    shown_on : (c : ℕ) (cs : List ℕ) (passed : Passed) → scalar c ≡ true → is_printable c ≡ true → (c == 32) ≡ false
        → InLine [] cs
        → has_behind 32 10 false cs ≡ false → has_behind 10 32 false cs ≡ false
        → ◌≡◌ {A = Said} (single_rest false false passed ((quote_doubled c ++ printed false cs) ++ (39 ∷ rest)))
        (Some (length (quote_doubled c ++ printed false cs) + 1, said_by passed ++ encodes (c ∷ cs)))
    shown_on c cs passed s h space one g1 g2 =
        ap (single_rest false false passed) (append_assoc (quote_doubled c) (printed false cs) (39 ∷ rest))
        ∙ (piece c passed (printed false cs ++ (39 ∷ rest)) s h space
        ∙ (ap (with_bytes (length (quote_doubled c)) (said_by passed ++ encode c)) (one g1 g2)
        ∙ some_rest (omega (arith, length-append (quote_doubled c) (printed false cs)))
        (append_assoc (said_by passed) (encode c) (encodes cs))))

    line_step : (c : ℕ) (cs bs : List ℕ) (feed space : Bool) → (c == 10) ≡ feed → (c == 32) ≡ space → scalar c ≡ true
        → is_line_text c ≡ true → ((bs : List ℕ) → InLine bs cs) → InFeeds 0 cs → InLine bs (c ∷ cs)
    line_step c cs [] true space e f s l one two h1 h2 =
        let g1 : has_behind 32 10 false cs ≡ false
        = ap (λ b. has_behind 32 10 b cs) (sym (not_both c e)) ∙ (or_parts (false && c == 10)
        (has_behind 32 10 (c == 32) cs) h1).1 in
        let g2 : has_behind 10 32 true cs ≡ false
        = ap (λ b. has_behind 10 32 b cs) (sym e) ∙ (or_parts (false && c == 32) (has_behind 10 32 (c == 10) cs)
        h2).1 in
        rw e (ap (λ r. with_bytes 1 [] (with_bytes 1 [] r)) (two g1 g2)
        ∙ some_rest (omega arith) (ap (λ l. l ++ encodes cs)
        (sym (ap encode (eqb-true c 10 e) ∙ encode_ascii 10 (omega arith)))))
    line_step c cs (b ∷ bs) true space e f s l one two h1 h2 =
        absurd (false≢true (sym (or_parts (true && c == 10) (has_behind 32 10 (c == 32) cs) h1).0 ∙ e))
    line_step c cs bs false true e f s l one two h1 h2 =
        let g1 : has_behind 32 10 true cs ≡ false
        = ap (λ b. has_behind 32 10 b cs) (sym f)
        ∙ (or_parts (is_some_passed (blanks bs) && c == 10) (has_behind 32 10 (c == 32) cs) h1).1 in
        let g1' : has_behind 32 10 (is_some_passed (blanks (bs ++ 32 ∷ []))) cs ≡ false
        = ap (λ b. has_behind 32 10 b cs) (some_more bs) ∙ g1 in
        let g2 : has_behind 10 32 false cs ≡ false
        = ap (λ b. has_behind 10 32 b cs) (sym e) ∙ (or_parts (false && c == 32) (has_behind 10 32 (c == 10) cs)
        h2).1 in
        let is : c ≡ 32 = eqb-true c 32 f in
        let own : quote_doubled c ≡ 32 ∷ [] = ap quote_doubled is ∙ encode_ascii 32 (omega arith) in
        let bytes : encode c ≡ 32 ∷ [] = ap encode is ∙ encode_ascii 32 (omega arith) in
        rw (e, own) (ap (with_bytes 1 []) (one (bs ++ 32 ∷ []) g1' g2)
        ∙ some_rest (omega arith) (append_assoc bs (32 ∷ []) (encodes cs)
        ∙ ap (λ l. bs ++ (l ++ encodes cs)) (sym bytes)))
    line_step c cs bs false false e f s l one two h1 h2 =
        let g1 : has_behind 32 10 false cs ≡ false
        = ap (λ b. has_behind 32 10 b cs) (sym f)
        ∙ (or_parts (is_some_passed (blanks bs) && c == 10) (has_behind 32 10 (c == 32) cs) h1).1 in
        let g2 : has_behind 10 32 false cs ≡ false
        = ap (λ b. has_behind 10 32 b cs) (sym e) ∙ (or_parts (false && c == 32) (has_behind 10 32 (c == 10) cs)
        h2).1 in
        rw e (shown_on c cs (blanks bs) s (line_shown c l e) f (one []) g1 g2)

    feeds_step : (m c : ℕ) (cs : List ℕ) (feed : Bool) → (c == 10) ≡ feed → scalar c ≡ true → is_line_text c ≡ true
        → InLine [] cs → InFeeds (suc m) cs → InFeeds m (c ∷ cs)
    feeds_step m c cs true e s l one two h1 h2 =
        let g1 : has_behind 32 10 false cs ≡ false
        = ap (λ b. has_behind 32 10 b cs) (sym (not_both c e)) ∙ (or_parts (false && c == 10)
        (has_behind 32 10 (c == 32) cs) h1).1 in
        let g2 : has_behind 10 32 true cs ≡ false
        = ap (λ b. has_behind 10 32 b cs) (sym e) ∙ (or_parts (true && c == 32) (has_behind 10 32 (c == 10) cs) h2).1 in
        let bytes : encode c ≡ 10 ∷ [] = ap encode (eqb-true c 10 e) ∙ encode_ascii 10 (omega arith) in
        rw e (ap (with_bytes 1 []) (two g1 g2)
        ∙ some_rest (omega arith) (one_further (suc m) (encodes cs) ∙ ap
        (λ l. replicate (suc m) 10 ++ (l ++ encodes cs)) (sym bytes)))
    feeds_step m c cs false e s l one two h1 h2 =
        let p = or_parts (true && c == 32) (has_behind 10 32 (c == 10) cs) h2 in
        let g1 : has_behind 32 10 false cs ≡ false
        = ap (λ b. has_behind 32 10 b cs) (sym p.0) ∙ (or_parts (false && c == 10) (has_behind 32 10 (c == 32) cs)
        h1).1 in
        let g2 : has_behind 10 32 false cs ≡ false = ap (λ b. has_behind 10 32 b cs) (sym e) ∙ p.1 in
        let spaces : List ℕ = replicate (suc k) 32 in
        let own : List ℕ = quote_doubled c ++ printed false cs in
        rw e (ap (single_rest false true (feeds (suc (suc m))))
        (ap (λ l. l ++ (39 ∷ rest)) (append_assoc spaces (quote_doubled c) (printed false cs))
        ∙ append_assoc spaces own (39 ∷ rest))
        ∙ (indent_run true k (suc (suc m)) (own ++ (39 ∷ rest))
        ∙ (ap (with_bytes (suc k) []) (shown_on c cs (feeds (suc (suc m))) s (line_shown c l e) p.0 one g1 g2)
        ∙ some_rest (omega (
          arith,
          ap length (append_assoc spaces (quote_doubled c) (printed false cs)),
          length-append spaces own,
          length-replicate {A = ℕ} (suc k) 32,
        )) refl)))

    mutual
      pub in_line : (cs : List ℕ) → scalars cs ≡ true → list_all is_line_text cs ≡ true → (bs : List ℕ) → InLine bs cs
      in_line [] s l bs h1 h2 =
          ap (with_bytes 1 []) (closed (blanks bs) false) ∙ some_rest (omega arith) (sym (append-nil bs))
      in_line (c ∷ cs) s l bs h1 h2 =
          let p = and_parts (scalar c) (scalars cs) s in
          let q = and_parts (is_line_text c) (list_all is_line_text cs) l in
          line_step c cs bs (c == 10) (c == 32) refl refl p.0 q.0 (λ bs'. in_line cs p.1 q.1 bs')
          (in_feeds cs p.1 q.1 0) h1 h2

      in_feeds : (cs : List ℕ) → scalars cs ≡ true → list_all is_line_text cs ≡ true → (m : ℕ) → InFeeds m cs
      in_feeds [] s l m h1 h2 =
          indent_run true k (suc (suc m)) (39 ∷ rest)
          ∙ (ap (λ r. with_bytes (suc k) [] (with_bytes 1 [] r)) (closed (feeds (suc (suc m))) false)
          ∙ some_rest (omega (arith, length-replicate {A = ℕ} (suc k) 32)) (sym (append-nil (replicate (suc m) 10))))
      in_feeds (c ∷ cs) s l m h1 h2 =
          let p = and_parts (scalar c) (scalars cs) s in
          let q = and_parts (is_line_text c) (list_all is_line_text cs) l in
          feeds_step m c cs (c == 10) refl p.0 q.0 (in_line cs p.1 q.1 []) (in_feeds cs p.1 q.1 (suc m)) h1 h2
