-- How a text with escapes begins, and that it does so in one way.
use Rattle.std.specs.Prelude.{codes}
use Rattle.std.specs.Char.{digit_value}
use Rattle.std.proofs.Common.{◌≡◌, ◌≢◌, ℕ, ◌+◌, ◌*◌, ◌<◌, ◌≤◌, List, [], ◌∷◌, ◌++◌, length, refl, sym, ap, ◌∙◌, subst}
use Rattle.std.proofs.Common.{append_assoc, arith}
use Rattle.std.specs.Prelude.{if◌then◌else◌, ◌==◌, Bool, true, false}
use Rattle.std.proofs.lemmas.Bool.{ne_eqb, eqb-false, false≢true}
use Rattle.std.proofs.lemmas.List.{append-nil}
use Rattle.yaml_lines.specs.Escape.{IsSpelling, BeginsWith, Spells}
use Rattle.yaml_lines.specs.Escape.IsSpelling.{itself, backslash, line_feed, tab, number}

-- an escape by number
pub begins_number : (text after rest : List ℕ) (high low : ℕ) → text ≡ high ∷ after → after ≡ low ∷ rest
    → digit_value high < 16 → digit_value low < 16
    → BeginsWith (92 ∷ 120 ∷ text) (16 * digit_value high + digit_value low) rest
begins_number text after rest high low e f h l = record {
  unit = codes "\\x" ++ (high ∷ low ∷ []);
  split = ap (λ t. 92 ∷ 120 ∷ t) (e ∙ ap (λ t. high ∷ t) f);
  spelling = number high low refl h l refl;
}

-- an escape of one letter
pub begins_backslash : (text rest : List ℕ) (letter : ℕ) → text ≡ letter ∷ rest → letter ≡ 92
    → BeginsWith (92 ∷ text) 92 rest
begins_backslash text rest letter e l = record {
  unit = codes "\\\\";
  split = ap (λ t. 92 ∷ t) (e ∙ ap (λ c. c ∷ rest) l);
  spelling = backslash refl refl;
}

pub begins_line_feed : (text rest : List ℕ) (letter : ℕ) → text ≡ letter ∷ rest → letter ≡ 110
    → BeginsWith (92 ∷ text) 10 rest
begins_line_feed text rest letter e l = record {
  unit = codes "\\n";
  split = ap (λ t. 92 ∷ t) (e ∙ ap (λ c. c ∷ rest) l);
  spelling = line_feed refl refl;
}

pub begins_tab : (text rest : List ℕ) (letter : ℕ) → text ≡ letter ∷ rest → letter ≡ 116 → BeginsWith (92 ∷ text) 9 rest
begins_tab text rest letter e l = record {
  unit = codes "\\t";
  split = ap (λ t. 92 ∷ t) (e ∙ ap (λ c. c ∷ rest) l);
  spelling = tab refl refl;
}

-- a byte that stands for itself
pub begins_itself : (text rest : List ℕ) (byte : ℕ) → text ≡ byte ∷ rest → 32 ≤ byte → byte ≤ 126 → byte ≢ 92
    → BeginsWith text byte rest
begins_itself text rest byte e low high not =
    record { unit = byte ∷ []; split = e; spelling = itself refl low high not }

-- a text's first byte, with what is left of the text
data First : Type 0 where
  first : ℕ → List ℕ → First

abbrev first_by_number : List ℕ → First
first_by_number (high ∷ low ∷ rest) = first (16 * digit_value high + digit_value low) rest
first_by_number text = first 0 text

abbrev first_escaped : List ℕ → First
first_escaped [] = first 0 []
first_escaped (letter ∷ rest) =
    if letter == 92 then first 92 rest
    else if letter == 110 then first 10 rest
    else if letter == 116 then first 9 rest
    else first_by_number rest

abbrev first_of : List ℕ → First
first_of [] = first 0 []
first_of (byte ∷ rest) = if byte == 92 then first_escaped rest else first byte rest

first_of-spelling : (unit rest : List ℕ) (byte : ℕ) → IsSpelling unit byte → first_of (unit ++ rest) ≡ first byte rest
first_of-spelling unit rest byte (itself e low high not) = rw (e, ne_eqb byte 92 not) refl
first_of-spelling unit rest byte (backslash e b) = rw (e, b) refl
first_of-spelling unit rest byte (line_feed e b) = rw (e, b) refl
first_of-spelling unit rest byte (tab e b) = rw (e, b) refl
first_of-spelling unit rest byte (number high low e h l b) = rw (e, b) refl

-- a text begins with one byte, in one way
pub BeginsWith-unique : (text : List ℕ) (a b : ℕ) (r s : List ℕ) → BeginsWith text a r → BeginsWith text b s → (a ≡ b)
    × (r ≡ s)
BeginsWith-unique text a b r s f g =
    let e : first a r ≡ first b s =
    sym (ap first_of f.split ∙ first_of-spelling f.unit r a f.spelling)
    ∙ (ap first_of g.split ∙ first_of-spelling g.unit s b g.spelling) in
    ((cc), (cc))

-- the empty text begins with no byte
begins_some : (text : List ℕ) (byte : ℕ) (rest : List ℕ) → text ≡ [] → BeginsWith text byte rest → ⊥
begins_some text byte rest e b =
    let l : 0 ≡ length (b.unit ++ rest) = ap length (sym e ∙ b.split) in nothing_spelled b.unit b.spelling l where
      nothing_spelled : (unit : List ℕ) → IsSpelling unit byte → 0 ≡ length (unit ++ rest) → ⊥
      nothing_spelled unit (itself e low high not) l =
          let m : 0 ≡ length (byte ∷ rest) = l ∙ ap (λ u. length (u ++ rest)) e in omega arith
      nothing_spelled unit (backslash e f) l =
          let m : 0 ≡ length (codes "\\\\" ++ rest) = l ∙ ap (λ u. length (u ++ rest)) e in omega arith
      nothing_spelled unit (line_feed e f) l =
          let m : 0 ≡ length (codes "\\n" ++ rest) = l ∙ ap (λ u. length (u ++ rest)) e in omega arith
      nothing_spelled unit (tab e f) l =
          let m : 0 ≡ length (codes "\\t" ++ rest) = l ∙ ap (λ u. length (u ++ rest)) e in omega arith
      nothing_spelled unit (number high low e h k f) l =
          let m : 0 ≡ length ((codes "\\x" ++ (high ∷ low ∷ [])) ++ rest) = l
          ∙ ap (λ u. length (u ++ rest)) e in omega arith

-- a text writes one list of bytes
pub Spells-unique : (text a b : List ℕ) → Spells text a → Spells text b → a ≡ b
Spells-unique text [] [] f g = refl
Spells-unique text [] (y ∷ b) f g = absurd (begins_some text y g.0 f g.1)
Spells-unique text (x ∷ a) [] f g = absurd (begins_some text x f.0 g f.1)
Spells-unique text (x ∷ a) (y ∷ b) f g =
    let u = BeginsWith-unique text x y f.0 g.0 f.1 g.1 in
    let v = Spells-unique f.0 a b f.2 (subst (λ t. Spells t b) (sym u.1) g.2) in
    let first : x ≡ y = u.0 in
    let others : a ≡ b = v in
    ap (λ c. c ∷ a) first ∙ ap (λ cs. y ∷ cs) others

-- the text writes the bytes and then what the rest writes, and nothing else
pub record WritesThen (text : List ℕ) (bytes rest : List ℕ) : Type 0 where
  pub sound : (more : List ℕ) → Spells rest more → Spells text (bytes ++ more)
  pub complete : (all : List ℕ) → Spells text all → (more : List ℕ) × Spells rest more × (all ≡ bytes ++ more)

-- one byte more
pub writes_more : (text bytes rest after : List ℕ) (byte : ℕ) → 0 < length rest → WritesThen text bytes rest
    → BeginsWith rest byte after
    → WritesThen text (bytes ++ byte ∷ []) after
writes_more text bytes rest after byte some w b = record {
  sound = λ more s. rw append_assoc (w.sound (byte ∷ more) (after, b, s));
  complete =
      λ all s. complete_more bytes rest after byte all (w.complete all s).0 some b (w.complete all s).1
      (w.complete all s).2;
} where
  complete_more : (bytes rest after : List ℕ) (byte : ℕ) (all more : List ℕ) → 0 < length rest
      → BeginsWith rest byte after → Spells rest more → all ≡ bytes ++ more
      → (left : List ℕ) × Spells after left × (all ≡ (bytes ++ byte ∷ []) ++ left)
  complete_more bytes rest after byte all [] some b s e = absurd (let l : length rest ≡ 0 = ap length s in omega arith)
  complete_more bytes rest after byte all (x ∷ xs) some b s e =
      let u = BeginsWith-unique rest x byte s.0 after s.1 b in
      (xs, subst (λ r. Spells r xs) u.1 s.2, rw append_assoc (e ∙ ap (λ c. bytes ++ c ∷ xs) u.0))

-- nothing is left
pub writes_all : (text bytes rest : List ℕ) → WritesThen text bytes rest → rest ≡ [] → Spells text bytes
writes_all text bytes rest w e =
    let s : Spells text (bytes ++ []) = w.sound [] e in subst (Spells text) (append-nil bytes) s

-- what is left begins with no byte
pub writes_no_more : (text bytes rest : List ℕ) → 0 < length rest → WritesThen text bytes rest
    → ((byte : ℕ) → (after : List ℕ) → ¬ (BeginsWith rest byte after))
    → (all : List ℕ) → ¬ (Spells text all)
writes_no_more text bytes rest some w none all s = stuck rest (w.complete all s).0 some none (w.complete all s).1 where
  stuck : (rest more : List ℕ) → 0 < length rest → ((byte : ℕ) → (after : List ℕ) → ¬ (BeginsWith rest byte after))
      → Spells rest more → ⊥
  stuck rest [] some none s = let l : length rest ≡ 0 = ap length s in omega arith
  stuck rest (x ∷ xs) some none s = none x s.0 s.1

-- what a test for the empty list says
pub test_some : (xs : List ℕ) (b : Bool) → b ≡ (length xs == 0) → b ≡ false → 0 < length xs
test_some xs b e f = let g : length xs ≢ 0 = eqb-false (length xs) 0 (sym e ∙ f) in omega arith

pub test_none : (xs : List ℕ) (b : Bool) → b ≡ (length xs == 0) → b ≡ true → xs ≡ []
test_none [] b e f = refl
test_none (x ∷ xs) b e f = absurd (false≢true (sym (ne_eqb (length (x ∷ xs)) 0 (omega arith)) ∙ (sym e ∙ f)))
