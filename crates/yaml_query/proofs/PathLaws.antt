-- The text of steps is read as these steps.
use Rattle.std.proofs.Common.{◌≡◌, ℕ, ◌+◌, ◌-◌, ◌*◌, ◌/◌, ◌%◌, ◌^◌, ◌<◌, ◌==◌, Bool, false, true, not, ◌&&◌, ◌||◌}
use Rattle.std.proofs.Common.{List, [], ◌∷◌, ◌++◌, length, option_map, nat_lt, Some, Ok, if◌then◌else◌, decimal}
use Rattle.std.proofs.Common.{refl, sym, ap, subst, ◌∙◌, append_assoc, arith}
use Rattle.std.specs.Char.{encode_utf8, IsScalar}
use Rattle.std.specs.List.{All, flat_map, list_all}
use Rattle.std.specs.Str.{chars, encode_utf8_all, IsUtf8}
use Rattle.std.proofs.Math.Utf8.{scalars, low_scalar}
use Rattle.std.proofs.lemmas.Bool.{and_from, and_parts, eqb-true, lt-ltb, le-leb, or_parts}
use Rattle.std.proofs.lemmas.Fmt.{decimal_by_steps}
use Rattle.std.proofs.lemmas.List.{append-nil}
use Rattle.std.proofs.lemmas.List.Elements.{All-head, All-tail}
use Rattle.std.proofs.lemmas.Str.{chars-append, chars-encodes, chars-nil, encode_ascii, encodes-chars, IsUtf8-append}
use Rattle.std.proofs.lemmas.Str.{IsUtf8-encode, IsUtf8-nil, scalars-chars}
use Rattle.yaml_query.specs.PathText.{digit_behind, is_digit, is_quote, key_begins, next, nothing_read, or_fault}
use Rattle.yaml_query.specs.PathText.{path_steps, perform, PlainReading, read_from, steps_at_end, taken, then_read, with_number}
use Rattle.yaml_query.specs.Steps.{IsStep, PlainStep, index, key}
use Rattle.yaml_query.specs.StepsText.{is_plain, is_plain_key, key_text, quoted_character, quoted_key, step_text}
use Rattle.yaml_query.specs.StepsText.{steps_from, steps_text}
use Rattle.yaml_query.specs.declared.reading.Act.{Act}
use Rattle.yaml_query.specs.declared.reading.Act.TheVariants as act
use Rattle.yaml_query.specs.declared.reading.Place.{Place}
use Rattle.yaml_query.specs.declared.reading.Place.TheVariants as place

-- from one place and reading the characters lead to another, whatever stands behind them
abbrev Leads : Place → PlainReading → List ℕ → Place → PlainReading → Type 0
Leads p r cs q s = (column : ℕ) (rest : List ℕ) → (n : ℕ) × (read_from column p r (cs ++ rest) ≡ read_from n q s rest)

-- the same of a text
record Reads (p : Place) (r : PlainReading) (text : List ℕ) (q : Place) (s : PlainReading) : Type 0 where
  valid : IsUtf8 text
  leads : Leads p r (chars text) q s

reads_nothing : (p : Place) (r : PlainReading) → Reads p r [] p r
reads_nothing p r = record {
  valid = IsUtf8-nil;
  leads = λ column rest. (column, ap (λ cs. read_from column p r (cs ++ rest)) chars-nil);
}

reads_both : {p q t : Place} {r s u : PlainReading} {xs ys : List ℕ} → Reads p r xs q s → Reads q s ys t u
    → Reads p r (xs ++ ys) t u
reads_both {p} {q} {t} {r} {s} {u} {xs} {ys} one other = record {
  valid = IsUtf8-append xs ys one.valid other.valid;
  leads = λ column rest.
      let first = one.leads column (chars ys ++ rest) in
      let second = other.leads first.0 rest in (
        second.0,
        ap (λ cs. read_from column p r (cs ++ rest)) (chars-append xs ys one.valid)
            ∙ (ap (read_from column p r) (append_assoc (chars xs) (chars ys) rest) ∙ (first.1 ∙ second.1)),
      );
}

reads_char : {p q : Place} {r s : PlainReading} {a : Act} (c : ℕ) → IsScalar c → next p c ≡ Some (q, a)
    → perform a c r ≡ Some s → Reads p r (encode_utf8 c) q s
reads_char {p} {q} {r} {s} {a} c is to done = record {
  valid = IsUtf8-encode c is;
  leads = λ column rest. (
    column + 1,
    ap (λ cs. read_from column p r (cs ++ rest))
        (ap chars (sym (append-nil (encode_utf8 c))) ∙ chars-encodes (c ∷ []) (ap (λ b. b && true) is))
        ∙ (ap (λ o. then_read column o
        (λ m. then_read column (perform m.1 c r) (λ t. read_from (column + 1) m.0 t rest))) to
        ∙ ap (λ o. then_read column o (λ t. read_from (column + 1) q t rest)) done),
  );
}

reads_byte : {p q : Place} {r s : PlainReading} {a : Act} (c : ℕ) → c < 128 → next p c ≡ Some (q, a)
    → perform a c r ≡ Some s → Reads p r (c ∷ []) q s
reads_byte {p} {q} {r} {s} c low to done =
    subst (λ text. Reads p r text q s) (encode_ascii c low) (reads_char c (low_scalar c (omega arith)) to done)

-- with this name
abbrev named : List ℕ → PlainReading → PlainReading
named name r = record { steps = r.steps; name = name; number = r.number }

plain_parts : (a b c d rest : Bool) → (not (a || (b || (c || d))) && rest) ≡ true
    → ((a || (b || c)) ≡ false) × (d ≡ false)
plain_parts true b c d rest h = absurd (cc)
plain_parts false true c d rest h = absurd (cc)
plain_parts false false true d rest h = absurd (cc)
plain_parts false false false true rest h = absurd (cc)
plain_parts false false false false rest h = (refl, refl)

-- a character that stands for itself is one of the key
in_name : (c : ℕ) → is_plain c ≡ true → next place.Name c ≡ Some (place.Name, act.Take)
in_name c h =
    let parts = plain_parts (c == 46) (c == 91) (c == 93) (is_quote c || (c == 96)) _ h in
    rw parts.0 refl

reads_plain : (cs : List ℕ) (r : PlainReading) → scalars cs ≡ true → list_all is_plain cs ≡ true
    → Reads place.Name r (encode_utf8_all cs) place.Name (named (r.name ++ encode_utf8_all cs) r)
reads_plain [] r are plain =
    subst (λ name. Reads place.Name r [] place.Name (named name r)) (sym (append-nil r.name))
    (reads_nothing place.Name r)
reads_plain (c ∷ cs) r are plain =
    let scalar = and_parts _ _ are in
    let itself = and_parts _ _ plain in
    reads_both (reads_char c scalar.0 (in_name c itself.0) refl)
    (subst (λ name. Reads place.Name (taken c r) (encode_utf8_all cs) place.Name (named name r))
    (append_assoc r.name (encode_utf8 c) (encode_utf8_all cs))
    (reads_plain cs (taken c r) scalar.1 itself.1))

-- a key begins, where no dot or bracket begins otherwise
opens_plain : (c : ℕ) → is_plain c ≡ true → (next place.Start c ≡ Some (place.Name, act.Take))
    × (next place.Key c ≡ Some (place.Name, act.Take))
opens_plain c h =
    let parts = plain_parts (c == 46) (c == 91) (c == 93) (is_quote c || (c == 96)) _ h in
    let quote : is_quote c ≡ false = (or_parts (is_quote c) (c == 96) parts.1).0 in
    let own : ((c == 46) || ((c == 91) || (c == 93))) ≡ false = parts.0 in
    let dot : (c == 46) ≡ false = (or_parts (c == 46) ((c == 91) || (c == 93)) own).0 in
    let others : ((c == 91) || (c == 93)) ≡ false = (or_parts (c == 46) ((c == 91) || (c == 93)) own).1 in
    let opening : (c == 91) ≡ false = (or_parts (c == 91) (c == 93) others).0 in
    let key : key_begins c ≡ Some (place.Name, act.Take) = rw quote (rw own refl) in
    let closing : (c == 93) ≡ false = (or_parts (c == 91) (c == 93) others).1 in
    (rw dot (rw opening (rw quote (rw closing refl))), key)

quoted_one : (c : ℕ) (r : PlainReading) → IsScalar c
    → Reads (place.Quoted 34) r (quoted_character c) (place.Quoted 34) (taken c r)
quoted_one c r are = go (c == 34) refl where
  go : (b : Bool) → (c == 34) ≡ b
      → Reads (place.Quoted 34) r (if b then 34 ∷ 34 ∷ [] else encode_utf8 c) (place.Quoted 34) (taken c r)
  go true e =
      subst (λ n. Reads (place.Quoted 34) r (34 ∷ 34 ∷ []) (place.Quoted 34) (taken n r)) (sym (eqb-true c 34 e))
      (reads_both {xs = 34 ∷ []} {ys = 34 ∷ []} (reads_byte 34 (omega arith) refl refl)
      (reads_byte 34 (omega arith) refl refl))
  go false e =
      let to : next (place.Quoted 34) c ≡ Some (place.Quoted 34, act.Take) = rw e refl in
      reads_char c are to refl

reads_quoted : (cs : List ℕ) (r : PlainReading) → scalars cs ≡ true
    → Reads (place.Quoted 34) r (flat_map quoted_character cs) (place.Quoted 34)
    (named (r.name ++ encode_utf8_all cs) r)
reads_quoted [] r are =
    subst (λ name. Reads (place.Quoted 34) r [] (place.Quoted 34) (named name r)) (sym (append-nil r.name))
    (reads_nothing (place.Quoted 34) r)
reads_quoted (c ∷ cs) r are =
    let scalar = and_parts _ _ are in
    reads_both (quoted_one c r scalar.0)
    (subst (λ name. Reads (place.Quoted 34) (taken c r) (flat_map quoted_character cs) (place.Quoted 34) (named name r))
    (append_assoc r.name (encode_utf8 c) (encode_utf8_all cs))
    (reads_quoted cs (taken c r) scalar.1))

-- a reading whose steps are all whole
abbrev whole : List PlainStep → PlainReading
whole ss = record { steps = ss; name = []; number = 0 }

-- steps end here: the text may end, and a dot or a bracket leads to the next one
record Ended (p : Place) (r : PlainReading) (ss : List PlainStep) : Type 0 where
  done : Act
  dot : next p 46 ≡ Some (place.Key, done)
  opening : next p 91 ≡ Some (place.Bracket, done)
  dot_done : perform done 46 r ≡ Some (whole ss)
  opening_done : perform done 91 r ≡ Some (whole ss)
  at_end : steps_at_end p r ≡ Some ss

ended_name : (ss : List PlainStep) (name : List ℕ) → Ended place.Name (named name (whole ss)) (ss ++ key name ∷ [])
ended_name ss name = record {
  done = act.EndKey;
  dot = refl;
  opening = refl;
  dot_done = refl;
  opening_done = refl;
  at_end = refl;
}

ended_quote : (ss : List PlainStep) (name : List ℕ)
    → Ended (place.Quote 34) (named name (whole ss)) (ss ++ key name ∷ [])
ended_quote ss name = record {
  done = act.EndKey;
  dot = refl;
  opening = refl;
  dot_done = refl;
  opening_done = refl;
  at_end = refl;
}

ended_index : (ss : List PlainStep) → Ended place.Behind (whole ss) ss
ended_index ss = record {
  done = act.Skip;
  dot = refl;
  opening = refl;
  dot_done = refl;
  opening_done = refl;
  at_end = refl;
}

-- a key is read from where it begins
record Opens (p : Place) : Type 0 where
  plain : (c : ℕ) → is_plain c ≡ true → next p c ≡ Some (place.Name, act.Take)
  quote : next p 34 ≡ Some (place.Quoted 34, act.Skip)

opens_start : Opens place.Start
opens_start = record { plain = λ c h. (opens_plain c h).0; quote = refl }

opens_key : Opens place.Key
opens_key = record { plain = λ c h. (opens_plain c h).1; quote = refl }

-- where a text leads: to steps that end there
record Steps (p : Place) (r : PlainReading) (text : List ℕ) (ss : List PlainStep) : Type 0 where
  behind : Place
  reading : PlainReading
  reads : Reads p r text behind reading
  ended : Ended behind reading ss

plain_key : (p : Place) (ss : List PlainStep) (cs name : List ℕ) → Opens p → encode_utf8_all cs ≡ name
    → scalars cs ≡ true → (not (length name == 0) && list_all is_plain cs) ≡ true
    → Reads p (whole ss) name place.Name (named name (whole ss))
plain_key p ss [] name opens is are plain =
    let some : not (length name == 0) ≡ true = (and_parts (not (length name == 0)) true plain).0 in
    let none : not (length name == 0) ≡ false = ap (λ n. not (length n == 0)) (sym is) in
    absurd (cc)
plain_key p ss (c ∷ cs) name opens is are plain =
    let scalar = and_parts _ _ are in
    let all : (is_plain c && list_all is_plain cs) ≡ true =
    (and_parts (not (length name == 0)) (is_plain c && list_all is_plain cs) plain).1 in
    let itself = and_parts (is_plain c) (list_all is_plain cs) all in
    subst (λ n. Reads p (whole ss) n place.Name (named n (whole ss))) is
    (reads_both (reads_char c scalar.0 (opens.plain c itself.0) refl)
    (reads_plain cs (taken c (whole ss)) scalar.1 itself.1))

reads_key : (p : Place) (ss : List PlainStep) (name : List ℕ) → Opens p → IsUtf8 name
    → Steps p (whole ss) (key_text name) (ss ++ key name ∷ [])
reads_key p ss name opens valid = go (is_plain_key name) refl where
  go : (b : Bool) → is_plain_key name ≡ b
      → Steps p (whole ss) (if b then name else quoted_key name) (ss ++ key name ∷ [])
  go true e = record {
    behind = place.Name;
    reading = named name (whole ss);
    reads = plain_key p ss (chars name) name opens (encodes-chars name valid) (scalars-chars name valid) e;
    ended = ended_name ss name;
  }
  go false e = record {
    behind = place.Quote 34;
    reading = named name (whole ss);
    reads = reads_both {xs = 34 ∷ []} {ys = flat_map quoted_character (chars name) ++ 34 ∷ []}
        (reads_byte 34 (omega arith) opens.quote refl)
        (reads_both {ys = 34 ∷ []}
        (subst (λ n. Reads (place.Quoted 34) (whole ss) (flat_map quoted_character (chars name)) (place.Quoted 34)
        (named n (whole ss))) (encodes-chars name valid)
        (reads_quoted (chars name) (whole ss) (scalars-chars name valid)))
        (reads_byte 34 (omega arith) refl refl));
    ended = ended_quote ss name;
  }

is_digit-of : (d : ℕ) → d < 10 → is_digit (48 + d) ≡ true
is_digit-of d h = and_from _ _ (le-leb 48 (48 + d) (omega arith)) (le-leb (48 + d) 57 (omega arith))

digit_behind-of : (m d : ℕ) → m * 10 + d < 2 ^ 64 → digit_behind m (48 + d) ≡ Some (m * 10 + d)
digit_behind-of m d h =
    let value : m * 10 + (48 + d - 48) ≡ m * 10 + d = omega arith in
    let fits : nat_lt (m * 10 + d) (2 ^ 64) ≡ true = lt-ltb (m * 10 + d) (2 ^ 64) h in
    rw value (rw fits refl)

reads_digit : (p : Place) (ss : List PlainStep) (m d n : ℕ) → next p (48 + d) ≡ Some (place.Digits, act.Digit)
    → d < 10 → m * 10 + d ≡ n → n < 2 ^ 64
    → Reads p (with_number (whole ss) m) ((48 + d) ∷ []) place.Digits (with_number (whole ss) n)
reads_digit p ss m d n to digit is fits =
    let value : digit_behind m (48 + d) ≡ Some (m * 10 + d) = digit_behind-of m d (omega arith) in
    let done : perform act.Digit (48 + d) (with_number (whole ss) m) ≡ Some (with_number (whole ss) n) =
    ap (option_map (with_number (whole ss))) (value ∙ ap Some is) in
    reads_byte (48 + d) (omega arith) to done

reads_place : (ss : List PlainStep) (n : ℕ) → n < 2 ^ 64
    → Reads place.Bracket (whole ss) (decimal n) place.Digits (with_number (whole ss) n)
reads_place ss n h =
    decimal_by_steps (λ m ds. m < 2 ^ 64 → Reads place.Bracket (whole ss) ds place.Digits (with_number (whole ss) m))
    (λ m lt fits.
    let to : next place.Bracket (48 + m) ≡ Some (place.Digits, act.Digit) = rw (is_digit-of m lt) refl in
    reads_digit place.Bracket ss 0 m m to lt (omega arith) fits)
    (λ m ds ge before fits.
    let to : next place.Digits (48 + m % 10) ≡ Some (place.Digits, act.Digit) =
    rw (is_digit-of (m % 10) (omega arith)) refl in
    reads_both (before (omega arith))
    (reads_digit place.Digits ss (m / 10) (m % 10) m to (omega arith) (omega arith) fits))
    n h h

-- a place, from behind its bracket on
reads_index : (ss : List PlainStep) (n : ℕ) → n < 2 ^ 64
    → Reads place.Bracket (whole ss) (decimal n ++ 93 ∷ []) place.Behind (whole (ss ++ index n ∷ []))
reads_index ss n h = reads_both {ys = 93 ∷ []} (reads_place ss n h) (reads_byte 93 (omega arith) refl refl)

read_index : {p : Place} {r : PlainReading} {text : List ℕ} (ss : List PlainStep) (n : ℕ) → n < 2 ^ 64
    → Reads p r text place.Bracket (whole ss) → Steps p r (text ++ (decimal n ++ 93 ∷ [])) (ss ++ index n ∷ [])
read_index ss n h before = record {
  behind = place.Behind;
  reading = whole (ss ++ index n ∷ []);
  reads = reads_both before (reads_index ss n h);
  ended = ended_index (ss ++ index n ∷ []);
}

-- the same steps, behind more
steps_behind : {p q : Place} {r s : PlainReading} {xs ys : List ℕ} {ss : List PlainStep} → Reads p r xs q s
    → Steps q s ys ss → Steps p r (xs ++ ys) ss
steps_behind before steps = record {
  behind = steps.behind;
  reading = steps.reading;
  reads = reads_both before steps.reads;
  ended = steps.ended;
}

next_step : {p : Place} {r : PlainReading} {ss : List PlainStep} → Ended p r ss → (s : PlainStep) → IsStep s
    → Steps p r (step_text false s) (ss ++ s ∷ [])
next_step {p} {r} {ss} ended (key name) is =
    steps_behind {xs = 46 ∷ []} (reads_byte 46 (omega arith) ended.dot ended.dot_done)
    (reads_key place.Key ss name opens_key is)
next_step {p} {r} {ss} ended (index n) is =
    read_index {text = 91 ∷ []} ss n is (reads_byte 91 (omega arith) ended.opening ended.opening_done)

first_step : (s : PlainStep) → IsStep s → Steps place.Start (whole []) (step_text true s) (s ∷ [])
first_step (key name) is = reads_key place.Start [] name opens_start is
first_step (index n) is =
    steps_behind {q = place.Root} {s = whole []} {xs = 46 ∷ []} (reads_byte 46 (omega arith) refl refl)
    (read_index {text = 91 ∷ []} [] n is (reads_byte 91 (omega arith) refl refl))

next_steps : (ss : List PlainStep) (p : Place) (r : PlainReading) (done : List PlainStep) → Ended p r done
    → All IsStep ss → (column : ℕ) → read_from column p r (chars (steps_from false ss)) ≡ Ok (done ++ ss)
next_steps [] p r done ended are column =
    ap (read_from column p r) chars-nil ∙ (ap (or_fault column) ended.at_end ∙ ap Ok (sym (append-nil done)))
next_steps (s ∷ ss) p r done ended are column =
    let step = next_step ended s (All-head IsStep s ss are) in
    let led = step.reads.leads column (chars (steps_from false ss)) in
    ap (read_from column p r) (chars-append (step_text false s) (steps_from false ss) step.reads.valid)
    ∙ (led.1 ∙ (next_steps ss step.behind step.reading (done ++ s ∷ []) step.ended (All-tail IsStep s ss are) led.0
    ∙ ap Ok (append_assoc done (s ∷ []) ss)))

no_steps : path_steps (steps_text []) ≡ Ok []
unfolding chars
no_steps = refl

pub printed_steps : (steps : List PlainStep) → All IsStep steps → path_steps (steps_text steps) ≡ Ok steps
printed_steps [] are = no_steps
printed_steps (s ∷ ss) are =
    let step = first_step s (All-head IsStep s ss are) in
    let led = step.reads.leads 1 (chars (steps_from false ss)) in
    ap (read_from 1 place.Start nothing_read)
    (chars-append (step_text true s) (steps_from false ss) step.reads.valid)
    ∙ (led.1 ∙ next_steps ss step.behind step.reading (s ∷ []) step.ended (All-tail IsStep s ss are) led.0)
