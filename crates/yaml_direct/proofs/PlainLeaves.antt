-- Plain text by columns as it was added, or left.
use Rattle.std.proofs.Common.{ℕ, ◌≡◌, ◌≤◌, not, ◌&&◌, Bool, true, false, List, length, refl, sym}
use Rattle.std.proofs.Common.{subst, ap, ◌∙◌, ◌+◌, ◌-◌, ◌<◌, ◌++◌, ◌∷◌, [], Option, Some, arith, inl, inr, slice_range}
use Rattle.std.proofs.lemmas.Bool.{false≢true}
use Rattle.yaml_base.specs.PlainEvent.{PlainEvent, scalar}
use Rattle.yaml_base.specs.Position.{Position}
use Rattle.yaml_base.specs.declared.event.ScalarStyle.{ScalarStyle}
use Rattle.yaml_base.specs.declared.event.ScalarStyle.TheVariants as style
use Rattle.yaml_direct.specs.Added.{AddsPlain, AddsScalar}
use Rattle.yaml_direct.specs.Places.{Keeps}
use Rattle.yaml_direct.specs.PlainTexts.{HasNoLine, IsFirstLine, IsFurtherLine, LeavesPlain, ends_plain}
use Rattle.yaml_direct.specs.Tokens.{IsAtNext, IsBehindLine, IsCounted}
use Rattle.yaml_direct.specs.declared.reader.Reader.{Reader}
use Rattle.yaml_direct.proofs.CountedLaws.{column_later}
use Rattle.yaml_direct.proofs.ColumnSays.{column_cut, column_further, says_all}
use Rattle.yaml_direct.proofs.PlainSays.{SaysSoFar, says_first}
use Rattle.yaml_grammar.specs.Bytes.{column, is_text}
use Rattle.yaml_grammar.specs.Gaps.{ends_its_line, is_within, next}
use Rattle.yaml_grammar.specs.Names as grammar
use Rattle.yaml_grammar.specs.Plain.{by_columns, plain_at}
use Rattle.yaml_tape.specs.OnTape.{position_at}
use Rattle.yaml_tape.specs.Pushes.{marked_on}
use Rattle.yaml_tape.specs.declared.entry.Names.{Names}
use Rattle.yaml_tape.specs.declared.entry.Spot.{Spot}

-- a reader behind a line of plain text
pub line_behind : (old new : Reader) (end to : ℕ) → IsAtNext old new end to → new.text.now ≡ old.text.now
    → ends_its_line old.text.now end ≡ true → to ≤ length old.text.now → IsBehindLine old.text.now new end to
line_behind old new end to n same ends within =
    record { there = n.there; ends = ends; counted = column_later old new end to n same ends within }

-- plain text that begins in a place, whose line that was read last ends in another, and a reader behind it
pub record PlainSoFar (text : List ℕ) (r : Reader) (least from end next' : ℕ) (said : List ℕ) : Type 0 where
  pub says : SaysSoFar (by_columns least) text from end said
  pub behind : IsBehindLine text r end next'

pub plain_first : (text : List ℕ) (r : Reader) (least from first second : ℕ) → is_text text ≡ true
    → IsFirstLine text false from first → IsBehindLine text r first second → from ≤ first → first ≤ length text
    → PlainSoFar text r least from first second (slice_range text from first)
plain_first text r least from first second h f b low within =
    record { says = says_first (by_columns least) text from first h f low within; behind = b }

ends_both : (a b : Bool) → a ≡ true → b ≡ false → (a && not b) ≡ true
ends_both true false e f = refl
ends_both true true e f = sym f
ends_both false b e f = e

within_goes_on : (a b : Bool) → b ≡ true → (a && not b) ≡ false
within_goes_on true true e = refl
within_goes_on false b e = refl
within_goes_on true false e = sym e

amid_goes_on : (a b : Bool) → a ≡ false → (a && not b) ≡ false
amid_goes_on false b e = refl
amid_goes_on true b e = absurd (false≢true (sym e))

-- what was added is the same for a reader with the same tape, text and start
pub adds_scalar_marked : (a b c : Reader) (said : List ℕ) (how : ScalarStyle) (end : ℕ)
    → marked_on b.tape ≡ marked_on a.tape → b.text.now ≡ a.text.now → b.start ≡ a.start → b.names ≡ a.names
    → AddsScalar b c said how end → AddsScalar a c said how end
adds_scalar_marked a b c said how end tape text start names h = record {
  added = h.added ∙ ap (λ x. adds x b.text.now b.start b.names) tape
      ∙ ap (λ x. adds (marked_on a.tape) x b.start b.names) text
      ∙ ap (λ x. adds (marked_on a.tape) a.text.now x b.names) start
      ∙ ap (λ x. adds (marked_on a.tape) a.text.now a.start x) names;
  unnamed = h.unnamed;
}
  where
    adds : List (PlainEvent × Position) → List ℕ → Spot → Names → List (PlainEvent × Position)
    adds t x s n = t ++ (
      scalar (record {
        anchor = n.anchor;
        tag = n.tag;
        text = said;
        style = how;
        source = Some (slice_range x s.index end);
      }),
      position_at x s.index s.late,
    ) ∷ []

pub adds_scalar_from : (a b c : Reader) (said : List ℕ) (how : ScalarStyle) (end : ℕ) → b.tape ≡ a.tape
    → b.text.now ≡ a.text.now → b.start ≡ a.start → b.names ≡ a.names → AddsScalar b c said how end
    → AddsScalar a c said how end
adds_scalar_from a b c said how end tape = adds_scalar_marked a b c said how end (ap marked_on tape)

-- and it stays where the tape does
pub adds_scalar_on : (a b c : Reader) (said : List ℕ) (how : ScalarStyle) (end : ℕ) → c.tape ≡ b.tape
    → c.names ≡ b.names → AddsScalar a b said how end → AddsScalar a c said how end
adds_scalar_on a b c said how end tape names h = record {
  added = ap marked_on tape ∙ h.added;
  unnamed = ap (λ n. both n.anchor n.tag) names ∙ h.unnamed;
}
  where
    both : Option (List ℕ) → Option (List ℕ) → grammar.Names
    both anchor tag = record { anchor = anchor; tag = tag }

-- columns are counted on
counted_kept : (a b : Reader) (place : ℕ) → b.text.now ≡ a.text.now → b.line_start ≡ a.line_start → IsCounted a place
    → IsCounted b place
counted_kept a b place text line c = record {
  within = subst (λ t. place ≤ length t) (sym text) c.within;
  column = subst (λ t. place < length t → column t place ≡ place - b.line_start) (sym text)
      (subst (λ n. place < length a.text.now → column a.text.now place ≡ place - n) (sym line) c.column);
}

pub behind_kept : (text : List ℕ) (a b : Reader) (end to : ℕ) → b.text.now ≡ a.text.now → b.line_start ≡ a.line_start
    → IsBehindLine text a end to → IsBehindLine text b end to
behind_kept text a b end to same line h =
    record { there = h.there; ends = h.ends; counted = counted_kept a b to same line h.counted }

-- the next token stands as far in as asked, or not
pub within_here : {x : Bool} (text : List ℕ) (r : Reader) (least place : ℕ) (b : Bool) → r.text.now ≡ text
    → b ≡ is_within r.text.now least place → b ≡ x → is_within text least place ≡ x
within_here text r least place b same test is = ap (λ t. is_within t least place) (sym same) ∙ (sym test ∙ is)

-- a further line
pub line_on : (text : List ℕ) (r : Reader) (least from end k stop : ℕ) (said more : List ℕ) → is_text text ≡ true
    → PlainSoFar text r least from end k said → r.text.now ≡ text → (b : Bool) → b ≡ is_within r.text.now least k
    → b ≡ true → IsFurtherLine r.text.now false end k stop said more → k + 1 ≤ stop → stop ≤ length r.text.now
    → SaysSoFar (by_columns least) text from stop more
line_on text r least from end k stop said more h s same b test is f low within =
    column_further text least from end k stop said more h s.says s.behind.there s.behind.ends
    (within_here text r least k b same test is) (subst (λ t. IsFurtherLine t false end k stop said more) same f)
    (omega (arith, low)) (subst (λ t. stop ≤ length t) same within)

-- the end, behind which the next token stands less far in
pub plain_added : (old mid new : Reader) (least from end k to : ℕ) (said : List ℕ) → is_text old.text.now ≡ true
    → PlainSoFar old.text.now mid least from end k said → is_within old.text.now least k ≡ false → mid.tape ≡ old.tape
    → mid.text.now ≡ old.text.now → mid.start ≡ old.start → mid.names ≡ old.names → Keeps mid new → to ≡ k
    → AddsScalar mid new said style.Plain end → AddsPlain old new least from to
plain_added old mid new least from end k to said h s less tape same start names kept there added =
    let text = old.text.now in
    let none = subst (λ j. is_within text least j ≡ false) s.behind.there less in
    record {
      end = end;
      said = said;
      low = s.says.low;
      read = says_all text least from end said h s.says (inr none);
      added = adds_scalar_from old mid new said style.Plain end tape same start names added;
      behind = subst (λ j. IsBehindLine text new end j) (sym there)
          (behind_kept text mid new end k kept.0 kept.1.0 s.behind);
      ends = ends_both (ends_its_line text end) (is_within text least (next text end)) s.behind.ends none;
    }

pub adds_plain_from : (a b c : Reader) (least from to : ℕ) → b.tape ≡ a.tape → b.text.now ≡ a.text.now
    → b.start ≡ a.start → b.names ≡ a.names → AddsPlain b c least from to → AddsPlain a c least from to
adds_plain_from a b c least from to tape text start names h = record {
  end = h.end;
  said = h.said;
  low = h.low;
  read = subst (λ t. plain_at t (by_columns least) from ≡ Some (h.end - from, h.said)) text h.read;
  added = adds_scalar_from a b c h.said style.Plain h.end tape text start names h.added;
  behind = subst (λ t. IsBehindLine t c h.end to) text h.behind;
  ends = subst (λ t. ends_plain t least h.end ≡ true) text h.ends;
}

-- something stands behind a line of it
pub line_left : (text : List ℕ) (least from end : ℕ) (said : List ℕ) → is_text text ≡ true
    → SaysSoFar (by_columns least) text from end said → ends_its_line text end ≡ false → LeavesPlain text least from
line_left text least from end said h s more = record {
  end = end;
  said = said;
  low = s.low;
  read = says_all text least from end said h s (inl more);
  left = amid_goes_on (ends_its_line text end) (is_within text least (next text end)) more;
}

-- or what stands as far in as its lines is none
pub cut_left : (text : List ℕ) (least from end to : ℕ) (said : List ℕ) → is_text text ≡ true
    → SaysSoFar (by_columns least) text from end said → to ≡ next text end → is_within text least to ≡ true
    → HasNoLine text false end to → LeavesPlain text least from
cut_left text least from end to said h s there within n = record {
  end = end;
  said = said;
  low = s.low;
  read = column_cut text least from end said h s (subst (λ k. HasNoLine text false end k) there n);
  left = within_goes_on (ends_its_line text end) (is_within text least (next text end))
      (subst (λ k. is_within text least k ≡ true) there within);
}
