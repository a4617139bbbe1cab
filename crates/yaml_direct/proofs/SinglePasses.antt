-- What is read between single quotes, and where quotes end.
use Rattle.std.proofs.Common.{ℕ, zero, suc, ◌+◌, ◌<◌, ◌≤◌, ◌≡◌, ◌≢◌, ◌==◌, ◌&&◌, ◌||◌, Bool, true, false}
use Rattle.std.proofs.Common.{List, [], ◌∷◌, ◌++◌, Some, None, length, refl, sym, subst, ap, ◌∙◌, arith, inl, inr, drop}
use Rattle.std.proofs.lemmas.Bool.{and_parts, and_cases, cases_Bool, cases_lt, eq-eqb, eqb-true, false≢true}
use Rattle.std.proofs.lemmas.Bool.{ne_eqb, not-false, or_cases, or_parts}
use Rattle.std.proofs.lemmas.List.{drop_all, get_or_past}
use Rattle.yaml_base.specs.QuotedLines.{backslash, none}
use Rattle.yaml_direct.specs.LeftInBrackets.{IsLeftOpen, Passes, other, passed}
use Rattle.yaml_direct.specs.Quoted.{Closes, ClosesInLine, EndsRun, IsRun, closed, is_other, is_stop, later, quote_of}
use Rattle.yaml_direct.specs.Quoted.{quoted_from, quoted_rest}
use Rattle.yaml_direct.specs.declared.quote.Quote.{Quote}
use Rattle.yaml_direct.specs.declared.quote.Quote.TheVariants.{Double, Single}
use Rattle.yaml_direct.proofs.NextLaws.{bytes_at}
use Rattle.yaml_direct.proofs.QuotePasses.{ReadsOn, double_on, one_on}
use Rattle.yaml_grammar.specs.Bytes.{at, is_blank, parts}
use Rattle.yaml_grammar.specs.Folding.{Passed, Rest, and_blank, and_feed, escaped, nothing_passed, said_by, with_bytes}
use Rattle.yaml_grammar.specs.Quotes.{double_rest, single_rest}
use Rattle.yaml_reading.proofs.Options.{map_some, no_some, pair_is}

single_self : (c : ℕ) (begins : Bool) (p : Passed) (cs : List ℕ) (n : ℕ) (said : List ℕ) → is_stop Single c ≡ false
    → ◌≡◌ {A = Rest} (single_rest false begins p (c ∷ cs)) (Some (n, said))
    → (s : List ℕ) × (q : Passed) × (◌≡◌ {A = Rest} (with_bytes 1 s (single_rest false false q cs)) (Some (n, said)))
single_self c begins p cs n said stop h =
    let both = or_parts (c == 39) (c == 10) stop in
    elim (cases_Bool (begins && parts (c ∷ cs))) [
      | inl parted ↦ absurd (no_some (n, said) (rw parted at h))
      | inr whole ↦ elim (cases_Bool (is_blank c)) [
        | inl blank ↦ ([], and_blank p c, rw (whole, both.0, both.1, blank) at h)
        | inr dark ↦ (said_by p ++ c ∷ [], nothing_passed, rw (whole, both.0, both.1, dark) at h)
      ]
    ]

quote_rest : (begins : Bool) (p : Passed) (cs : List ℕ) (n : ℕ) (said : List ℕ)
    → ◌≡◌ {A = Rest} (single_rest false begins p (39 ∷ cs)) (Some (n, said))
    → ◌≡◌ {A = Rest} (with_bytes 1 [] (single_rest true false p cs)) (Some (n, said))
quote_rest begins p cs n said h = elim (cases_Bool (begins && parts (39 ∷ cs))) [
  | inl parted ↦ absurd (no_some (n, said) (rw parted at h))
  | inr whole ↦ rw whole at h
]

-- the same from every place that is so far from the end of the text
abbrev ReadsFrom : List ℕ → (j m : ℕ) → Type 0
ReadsFrom text j m =
    (begins : Bool) (p : Passed) (i first n : ℕ) (said : List ℕ) → length text ≤ m + i → i ≤ first
    → IsRun text Single i first → Passes text Single first j
    → ◌≡◌ {A = Rest} (single_rest false begins p (drop i text)) (Some (n, said)) → ReadsOn text Single i n j

over_none : (text : List ℕ) (begins : Bool) (p : Passed) (i : ℕ) → length text ≤ i
    → ◌≡◌ {A = Rest} (single_rest false begins p (drop i text)) None
over_none text begins p i over = ap (single_rest false begins p) (drop_all i text over)

stop_here : (text : List ℕ) (j m : ℕ) → ReadsFrom text j m → (begins : Bool) (p : Passed) (i n : ℕ) (said : List ℕ)
    → length text ≤ suc m + i → Passes text Single i j → i < length text
    → ◌≡◌ {A = Rest} (single_rest false begins p (drop i text)) (Some (n, said)) → ReadsOn text Single i n j
stop_here text j m recur begins p i n said le passed inside h = record {
  size = n;
  said = said;
  begins = begins;
  before = p;
  rest = h;
  there = refl;
}
stop_here text j m recur begins p i n said le (other k is low run rest) inside h =
    let both = and_parts (at text i == 39) _ is in
    let first : at text i ≡ 39 = eqb-true (at text i) 39 both.0 in
    let one : i + 1 ≡ suc i = omega arith in
    let second : at text (suc i) ≡ 39 = ap (at text) (sym one) ∙ eqb-true (at text (i + 1)) 39 both.1 in
    let cs = drop (suc i) text in
    let ds = drop (suc (suc i)) text in
    let turn = quote_rest begins p cs n said
    (ap (λ c. single_rest false begins p (c ∷ cs)) (sym first)
    ∙ (ap (single_rest false begins p) (sym (bytes_at text i inside)) ∙ h)) in
    one_on text Single i n j [] said (single_rest true false p cs) turn
    (λ q t r. elim (cases_lt (suc i) (length text)) [
      | inl inner ↦
          one_on text Single (suc i) q j (said_by p ++ 39 ∷ []) t (single_rest false false nothing_passed ds)
          (ap (λ c. single_rest true false p (c ∷ ds)) (sym second)
          ∙ (ap (single_rest true false p) (sym (bytes_at text (suc i) inner)) ∙ r))
          (λ x u s. recur false nothing_passed (suc (suc i)) k x u (omega (arith, le)) (omega (arith, low))
          (λ y a b. run y (omega (arith, a)) b) rest s)
      | inr over ↦ absurd (omega (arith, second, get_or_past text (suc i) 0 over))
    ])

turn : (text : List ℕ) (j m : ℕ) → ReadsFrom text j m → ReadsFrom text j (suc m)
turn text j m recur begins p i first n said le low run way h = elim (cases_lt i (length text)) [
  | inr over ↦ absurd (no_some (n, said) (sym (over_none text begins p i over) ∙ h))
  | inl inside ↦ elim (cases_lt i first) [
    | inl less ↦
        let cs = drop (suc i) text in
        let s = single_self (at text i) begins p cs n said (run i (omega arith) less)
        (ap (single_rest false begins p) (sym (bytes_at text i inside)) ∙ h) in
        one_on text Single i n j s.0 said (single_rest false false s.1 cs) s.2
        (λ q t r. recur false s.1 (suc i) first q t (omega (arith, le)) (omega (arith, less))
        (λ k a b. run k (omega (arith, a)) b) way r)
    | inr past ↦
        let same : first ≡ i = omega (arith, past, low) in
        stop_here text j m recur begins p i n said le (subst (λ k. Passes text Single k j) same way) inside h
  ]
]

single_on : (text : List ℕ) (j m : ℕ) → ReadsFrom text j m
single_on text j zero begins p i first n said le low run way h =
    absurd (no_some (n, said) (sym (over_none text begins p i (omega (arith, le))) ∙ h))
single_on text j (suc m) begins p i first n said le low run way h =
    turn text j m (single_on text j m) begins p i first n said le low run way h

-- between either quotes
reads_on : (text : List ℕ) (quote : Quote) (i first j n : ℕ) (said : List ℕ) → i ≤ first → IsRun text quote i first
    → Passes text quote first j → EndsRun text quote j → ◌≡◌ {A = Rest} (quoted_from text quote i) (Some (n, said))
    → ReadsOn text quote i n j
reads_on text Single i first j n said low run way ends h =
    single_on text j (length text) false nothing_passed i first n said (omega arith) low run way h
reads_on text Double i first j n said low run way ends h =
    double_on text j (length text) ends none false nothing_passed i first n said (omega arith) (low, run) way h

closes_passes : (text : List ℕ) (quote : Quote) (i j : ℕ) → Closes text quote i j → Passes text quote i j
closes_passes text quote i j (closed byte whole) = passed
closes_passes text quote i j (later k is low run rest) = other k is low run (closes_passes text quote k j rest)

-- the quote that closes a scalar
pub record ClosedBy (text : List ℕ) (quote : Quote) (j : ℕ) : Type 0 where
  pub byte : at text j ≡ quote_of quote
  pub alone : is_other text quote j ≡ false

closes_by : (text : List ℕ) (quote : Quote) (i j : ℕ) → Closes text quote i j → ClosedBy text quote j
closes_by text quote i j (closed byte whole) = record { byte = byte; alone = whole }
closes_by text quote i j (later k is low run rest) = closes_by text quote k j rest

stop_of : (quote : Quote) (c : ℕ) → c ≡ quote_of quote → is_stop quote c ≡ true
stop_of Single c e = rw e refl
stop_of Double c e = rw e refl

inside_of : (text : List ℕ) (j c : ℕ) → at text j ≡ suc c → j < length text
inside_of text j c e = elim (cases_lt j (length text)) [
  | inl less ↦ less
  | inr over ↦ absurd (omega (arith, e, get_or_past text j 0 over))
]

-- behind it nothing is read
lone_quote : (text : List ℕ) (j : ℕ) (p : Passed) (q : ℕ) (t : List ℕ) → at text (suc j) ≢ 39
    → ◌≡◌ {A = Rest} (single_rest true false p (drop (suc j) text)) (Some (q, t)) → q ≡ 0
lone_quote text j p q t apart h = elim (cases_lt (suc j) (length text)) [
  | inl inner ↦
      let same : ◌≡◌ {A = Rest} (Some (0, said_by p)) (Some (q, t)) =
      rw (ne_eqb (at text (suc j)) 39 apart) at
      (ap (single_rest true false p) (sym (bytes_at text (suc j) inner)) ∙ h) in
      sym (pair_is 0 q (said_by p) t same).0
  | inr over ↦
      let same : ◌≡◌ {A = Rest} (Some (0, said_by p)) (Some (q, t)) =
      ap (single_rest true false p) (sym (drop_all (suc j) text over)) ∙ h in
      sym (pair_is 0 q (said_by p) t same).0
]

one_byte : (text : List ℕ) (quote : Quote) (j : ℕ) (begins : Bool) (p : Passed) (n : ℕ) (said : List ℕ)
    → ClosedBy text quote j → ◌≡◌ {A = Rest} (quoted_rest quote begins p (drop j text)) (Some (n, said)) → n ≡ 1
one_byte text Single j begins p n said c h =
    let one : j + 1 ≡ suc j = omega arith in
    let cs = drop (suc j) text in
    let turn = quote_rest begins p cs n said
    (ap (λ x. single_rest false begins p (x ∷ cs)) (sym c.byte)
    ∙ (ap (single_rest false begins p) (sym (bytes_at text j (inside_of text j 38 c.byte))) ∙ h)) in
    let t = map_some (single_rest true false p cs) _ (n, said) turn in
    let size : 1 + t.0.0 ≡ n = (pair_is (1 + t.0.0) n ([] ++ t.0.1) said (ap Some t.2)).0 in
    let second : at text (suc j) ≢ 39 = λ e. elim (and_cases (at text j == 39) _ c.alone) [
      | inl x ↦ false≢true (sym x ∙ eq-eqb (at text j) 39 c.byte)
      | inr x ↦ false≢true (sym x ∙ eq-eqb (at text (j + 1)) 39 (ap (at text) one ∙ e))
    ] in
    let none : t.0.0 ≡ 0 = lone_quote text j p t.0.0 t.0.1 second t.1 in
    omega (arith, size, none)
one_byte text Double j begins p n said c h =
    let cs = drop (suc j) text in
    let turn = ap (λ x. double_rest none begins p (x ∷ cs)) (sym c.byte)
    ∙ (ap (double_rest none begins p) (sym (bytes_at text j (inside_of text j 33 c.byte))) ∙ h) in
    elim (cases_Bool (begins && parts (34 ∷ cs))) [
      | inl parted ↦ absurd (no_some (n, said) (rw parted at turn))
      | inr whole ↦ sym (pair_is 1 n (said_by p) said (rw whole at turn)).0
    ]

-- quotes that are closed in their line end there
pub quote_end : (text : List ℕ) (quote : Quote) (i j n : ℕ) (said : List ℕ) → ClosesInLine text quote i j
    → ◌≡◌ {A = Rest} (quoted_from text quote i) (Some (n, said)) → i + n ≡ j + 1
quote_end text quote i j n said c h =
    let by = closes_by text quote c.first j c.closes in
    let x = reads_on text quote i c.first j n said c.forward c.run (closes_passes text quote c.first j c.closes)
    (inl (stop_of quote (at text j) by.byte)) h in
    let one = one_byte text quote j x.begins x.before x.size x.said by x.rest in
    omega (arith, x.there, one)

-- a line feed between two places
pub record FeedBetween (text : List ℕ) (i j : ℕ) : Type 0 where
  pub place : ℕ
  pub low : i ≤ place
  pub high : place < j
  pub feed : at text place ≡ 10

some_byte : (text : List ℕ) (quote : Quote) (j : ℕ) (begins : Bool) (p : Passed) (n : ℕ) (said : List ℕ)
    → ◌≡◌ {A = Rest} (quoted_rest quote begins p (drop j text)) (Some (n, said)) → at text j ≡ 10 → 0 < n
some_byte text Single j begins p n said h feed =
    let cs = drop (suc j) text in
    let turn = ap (λ x. single_rest false begins p (x ∷ cs)) (sym feed)
    ∙ (ap (single_rest false begins p) (sym (bytes_at text j (inside_of text j 9 feed))) ∙ h) in
    elim (cases_Bool (begins && parts (10 ∷ cs))) [
      | inl parted ↦ absurd (no_some (n, said) (rw parted at turn))
      | inr whole ↦
          let t = map_some (single_rest false true (and_feed p) cs) _ (n, said) (rw whole at turn) in
          let size : 1 + t.0.0 ≡ n = (pair_is (1 + t.0.0) n ([] ++ t.0.1) said (ap Some t.2)).0 in
          omega (arith, size)
    ]
some_byte text Double j begins p n said h feed =
    let cs = drop (suc j) text in
    let turn = ap (λ x. double_rest none begins p (x ∷ cs)) (sym feed)
    ∙ (ap (double_rest none begins p) (sym (bytes_at text j (inside_of text j 9 feed))) ∙ h) in
    elim (cases_Bool (begins && parts (10 ∷ cs))) [
      | inl parted ↦ absurd (no_some (n, said) (rw parted at turn))
      | inr whole ↦
          let t = map_some (double_rest none true (and_feed p) cs) _ (n, said) (rw whole at turn) in
          let size : 1 + t.0.0 ≡ n = (pair_is (1 + t.0.0) n ([] ++ t.0.1) said (ap Some t.2)).0 in
          omega (arith, size)
    ]

-- a backslash where a line ends
slash_feed : (text : List ℕ) (j : ℕ) (begins : Bool) (p : Passed) (n : ℕ) (said : List ℕ)
    → ◌≡◌ {A = Rest} (double_rest none begins p (drop j text)) (Some (n, said)) → at text j ≡ 92
    → (at text (suc j) == 10 || (at text (suc j) == 13 || at text (suc j) == 0)) ≡ true
    → (at text (suc j) ≡ 10) × (1 < n)
slash_feed text j begins p n said h slash ends =
    let cs = drop (suc j) text in
    let ds = drop (suc (suc j)) text in
    let turn = ap (λ x. double_rest none begins p (x ∷ cs)) (sym slash)
    ∙ (ap (double_rest none begins p) (sym (bytes_at text j (inside_of text j 91 slash))) ∙ h) in
    elim (cases_Bool (begins && parts (92 ∷ cs))) [
      | inl parted ↦ absurd (no_some (n, said) (rw parted at turn))
      | inr whole ↦
          let t = map_some (double_rest backslash false p cs) _ (n, said) (rw whole at turn) in
          let size : 1 + t.0.0 ≡ n = (pair_is (1 + t.0.0) n ([] ++ t.0.1) said (ap Some t.2)).0 in
          let r = t.1 in
          elim (cases_lt (suc j) (length text)) [
            | inr over ↦ absurd (no_some t.0
                (sym (ap (double_rest backslash false p) (drop_all (suc j) text over)) ∙ r))
            | inl inner ↦
                let s = ap (double_rest backslash false p) (sym (bytes_at text (suc j) inner)) ∙ r in
                let no_letter : (c : ℕ) → at text (suc j) ≡ c
                → ◌≡◌ {A = Rest} (double_rest backslash false p (c ∷ ds)) None → ⊥ =
                λ c e f. no_some t.0 (sym f ∙ (ap (λ x. double_rest backslash false p (x ∷ ds)) (sym e) ∙ s)) in
                elim (or_cases (at text (suc j) == 10) _ ends) [
                  | inl feed ↦
                      let byte = eqb-true (at text (suc j)) 10 feed in
                      let u = map_some (double_rest none true (escaped 0) ds) _ t.0
                      (ap (λ x. double_rest backslash false p (x ∷ ds)) (sym byte) ∙ s) in
                      let more : 1 + u.0.0 ≡ t.0.0 = ap (λ x. x.0) u.2 in
                      (byte, omega (arith, size, more))
                  | inr h ↦ elim (or_cases (at text (suc j) == 13) (at text (suc j) == 0) h) [
                    | inl e ↦ absurd (no_letter 13 (eqb-true (at text (suc j)) 13 e) refl)
                    | inr e ↦ absurd (no_letter 0 (eqb-true (at text (suc j)) 0 e) refl)
                  ]
                ]
          ]
    ]

-- quotes that are not closed in their line go over lines
pub open_feed : (text : List ℕ) (quote : Quote) (i j n : ℕ) (said : List ℕ) → IsLeftOpen text quote i j → i ≤ j
    → ◌≡◌ {A = Rest} (quoted_from text quote i) (Some (n, said)) → FeedBetween text i (i + n)
open_feed text Single i j n said o low h =
    let x = reads_on text Single i o.first j n said o.forward o.run o.passes o.ends h in
    elim o.ends [
      | inr over ↦ absurd (no_some (x.size, x.said) (sym (over_none text x.begins x.before j over) ∙ x.rest))
      | inl stop ↦ elim (or_cases (at text j == 39) (at text j == 10) stop) [
        | inl quote ↦ elim o.byte [
          | inl apart ↦ absurd (apart (eqb-true (at text j) 39 quote))
          | inr over ↦ absurd (omega (arith, eqb-true (at text j) 39 quote, get_or_past text j 0 over))
        ]
        | inr feed ↦
            let byte = eqb-true (at text j) 10 feed in
            let some = some_byte text Single j x.begins x.before x.size x.said x.rest byte in
            record { place = j; low = low; high = omega (arith, x.there, some); feed = byte }
      ]
    ]
open_feed text Double i j n said o low h =
    let x = reads_on text Double i o.first j n said o.forward o.run o.passes o.ends h in
    elim o.ends [
      | inr over ↦ absurd (no_some (x.size, x.said)
          (sym (ap (double_rest none x.begins x.before) (drop_all j text over)) ∙ x.rest))
      | inl stop ↦ elim (or_cases (at text j == 34) _ stop) [
        | inl quote ↦ elim o.byte [
          | inl apart ↦ absurd (apart (eqb-true (at text j) 34 quote))
          | inr over ↦ absurd (omega (arith, eqb-true (at text j) 34 quote, get_or_past text j 0 over))
        ]
        | inr stop ↦ elim (or_cases (at text j == 92) (at text j == 10) stop) [
          | inr feed ↦
              let byte = eqb-true (at text j) 10 feed in
              let some = some_byte text Double j x.begins x.before x.size x.said x.rest byte in
              record { place = j; low = low; high = omega (arith, x.there, some); feed = byte }
          | inl slash ↦
              let one : j + 1 ≡ suc j = omega arith in
              let ends : (at text (j + 1) == 10 || (at text (j + 1) == 13 || at text (j + 1) == 0)) ≡ true =
              elim (and_cases (at text j == 92) _ o.alone) [
                | inl e ↦ absurd (false≢true (sym e ∙ slash))
                | inr e ↦ not-false _ e
              ] in
              let s = slash_feed text j x.begins x.before x.size x.said x.rest (eqb-true (at text j) 92 slash)
              (subst (λ k. (at text k == 10 || (at text k == 13 || at text k == 0)) ≡ true) one ends) in
              record { place = suc j; low = omega (arith, low); high = omega (arith, x.there, s.1); feed = s.0 }
        ]
      ]
    ]
