-- What is read between quotes in one line, run by run.
use Rattle.std.proofs.Common.{ℕ, ◌+◌, ◌-◌, ◌<◌, ◌≤◌, ◌≡◌, ◌≢◌, inl, inr, List, [], ◌++◌, Some, None}
use Rattle.std.proofs.Common.{refl, sym, ◌∙◌, ap, ap₂, arith, subst, drop, length, slice_range, take, append-nil}
use Rattle.std.proofs.lemmas.Bool.{cases_lt, false≢true}
use Rattle.yaml_direct.specs.Places.{no_place}
use Rattle.yaml_direct.specs.Quoted.{Closes, ClosesInLine, EndsRun, IsRun, UnquotesIf}
use Rattle.yaml_direct.specs.Quoted.{HasKind, quoted_from}
use Rattle.yaml_direct.specs.declared.leaf.LeafKind.{LeafKind}
use Rattle.yaml_direct.specs.declared.leaf.LeafKind.TheVariants.{Escaped, Quoted}
use Rattle.yaml_direct.specs.declared.quote.Quote.{Quote}
use Rattle.yaml_direct.proofs.QuotePlaces.{Later, closed_at, closes_forward, closes_here, closes_no_feed, closes_now}
use Rattle.yaml_direct.proofs.QuotePlaces.{closes_stop, run_at, same_end}
use Rattle.yaml_direct.proofs.WithBytes.{no_bytes, some_rest, twice}
use Rattle.yaml_grammar.specs.Folding.{Rest, with_bytes}

-- up to a place this was read, and from there the scalar is closed in the same line
pub record ReadTo (text : List ℕ) (quote : Quote) (from end place : ℕ) (value : List ℕ) : Type 0 where
  pub forward : from ≤ place
  pub read : quoted_from text quote from ≡ with_bytes (place - from) value (quoted_from text quote place)
  pub closes : ClosesInLine text quote place end

abbrev pub Reading : List ℕ → Quote → (from end place : ℕ) → List ℕ → Type 0
Reading text quote from end place value =
    (place ≢ no_place → ReadTo text quote from end place value)
    × (place ≡ no_place → quoted_from text quote from ≡ None)

pub nothing_read : (text : List ℕ) (quote : Quote) (from end : ℕ) (value : List ℕ) → from < no_place → value ≡ []
    → ClosesInLine text quote from end → Reading text quote from end from value
nothing_read text quote from end value less none closes = (
  λ some. record {
    forward = omega arith;
    read = sym (no_bytes (quoted_from text quote from))
        ∙ ap₂ (λ n s. with_bytes n s (quoted_from text quote from)) (omega arith) (sym none);
    closes = closes;
  },
  λ same. absurd (omega (arith, same, less)),
)

-- the run up to the next stop
pub run_read : (text : List ℕ) (quote : Quote) (from end place stop : ℕ) (value more : List ℕ) → place ≤ stop
    → end ≤ length text → IsRun text quote place stop → EndsRun text quote stop
    → more ≡ value ++ take (stop - place) (drop place text)
    → ReadTo text quote from end place value
    → ReadTo text quote from end stop more × Closes text quote stop end
run_read text quote from end place stop value more forward within run ends added h =
    let first = h.closes.first in
    let stops = closes_stop text quote first end h.closes.closes in
    let here = closes_here text quote first stops in
    let same : stop ≡ first =
    same_end text quote place stop first forward h.closes.forward run ends here h.closes.run stops in
    let closes : Closes text quote stop end = subst (λ x. Closes text quote x end) (sym same) h.closes.closes in
    let part = take (stop - place) (drop place text) in (
      record {
        forward = omega (arith, h.forward, forward);
        read = h.read
            ∙ ap (with_bytes (place - from) value) (run_at text quote place stop forward (omega
            (arith, same, here)) run ends
            (closes_no_feed text quote stop end closes))
            ∙ twice (place - from) (stop - place) value part (quoted_from text quote stop)
            ∙ ap₂ (λ n s. with_bytes n s (quoted_from text quote stop)) (omega (arith, h.forward, forward)) (sym added);
        closes = record {
          first = stop;
          forward = omega arith;
          run = λ k low high. absurd (omega (arith, low, high));
          closes = closes;
        };
      },
      closes,
    )

-- and the byte behind it
pub other_read : (text : List ℕ) (quote : Quote) (from end stop place : ℕ) (value more : List ℕ)
    → ReadTo text quote from end stop value → Later text quote stop end
    → UnquotesIf text quote stop place value more
    → (place ≢ no_place → (stop + 2 ≤ place) × IsRun text quote (stop + 2) place)
    → Reading text quote from end place more
other_read text quote from end stop place value more h next other run = (
  λ some. (
      let u = other.0 some in
      let r = run some in
      record {
        forward = omega (arith, h.forward, r.0);
        read = h.read ∙ ap (with_bytes (stop - from) value) u.rest
            ∙ twice (stop - from) (place - stop) value u.said (quoted_from text quote place)
            ∙ ap₂ (λ n s. with_bytes n s (quoted_from text quote place)) (omega (arith, h.forward, r.0)) (sym u.added);
        closes = record {
          first = next.next;
          forward = elim (cases_lt next.next place) [
            | inl less ↦ absurd (false≢true (sym (r.1 next.next next.forward less)
                ∙ closes_stop text quote next.next end next.closes))
            | inr le ↦ le
          ];
          run = λ k low high. next.run k (omega (arith, r.0, low)) high;
          closes = next.closes;
        };
      }
      ),
  λ none. h.read ∙ ap (with_bytes (stop - from) value) (other.1 none),
)

-- and all of it
pub all_read : (text : List ℕ) (quote : Quote) (from end place : ℕ) (value : List ℕ) → end ≤ place
    → ReadTo text quote from end place value
    → ◌≡◌ {A = Rest} (quoted_from text quote from) (Some (end + 1 - from, value))
all_read text quote from end place value le h =
    let first = h.closes.first in
    let below = closes_forward text quote first end h.closes.closes in
    let same : place ≡ end = omega (arith, le, below, h.closes.forward) in
    let now = closes_now text quote first end (omega (arith, le, h.closes.forward)) h.closes.closes in
    let place_is : first ≡ place = omega (arith, le, below, h.closes.forward) in
    h.read ∙ ap (with_bytes (place - from) value)
    (ap (quoted_from text quote) (sym place_is) ∙ closed_at text quote first now.0 now.1)
    ∙ some_rest (omega (arith, same, h.forward)) (append-nil value)

-- a scalar of one run
pub whole_run : (text : List ℕ) (quote : Quote) (begin stop : ℕ) → begin ≤ stop → stop ≤ length text
    → IsRun text quote begin stop → EndsRun text quote stop → Closes text quote stop stop
    → ◌≡◌ {A = Rest} (quoted_from text quote begin) (Some (stop + 1 - begin, slice_range text begin stop))
whole_run text quote begin stop forward within run ends closes =
    let part = take (stop - begin) (drop begin text) in
    let h : ReadTo text quote begin stop begin [] = record {
      forward = omega arith;
      read = sym (no_bytes (quoted_from text quote begin))
          ∙ ap (λ n. with_bytes n [] (quoted_from text quote begin)) (omega arith);
      closes = record { first = stop; forward = forward; run = run; closes = closes };
    } in
    all_read text quote begin stop stop part (omega arith)
    (run_read text quote begin stop begin stop [] part forward within run ends refl h).0

-- and what kind of leaf it is
pub found_whole : (text : List ℕ) (quote : Quote) (begin first stop end : ℕ) (kind : LeafKind) → kind ≡ Quoted quote
    → end ≡ stop + 1 → stop ≡ first → begin ≤ first → first ≤ length text → IsRun text quote begin first
    → EndsRun text quote first → Closes text quote first stop → HasKind text quote begin stop end kind
found_whole text quote begin first stop end kind is ended same forward within run ends closes =
    subst (HasKind text quote begin stop end) (sym is) (
      refl,
      whole_run text quote begin stop (omega (arith, same, forward)) (omega (arith, same, within))
          (subst (λ x. IsRun text quote begin x) (sym same) run) (subst (EndsRun text quote) (sym same) ends)
          (subst (λ x. Closes text quote x stop) (sym same) closes)
          ∙ ap (λ n. Some (n - begin, slice_range text begin stop)) (sym ended),
    )

pub found_escaped : (text : List ℕ) (quote : Quote) (begin first stop end : ℕ) (kind : LeafKind) → kind ≡ Escaped quote
    → end ≡ stop + 1 → begin ≤ first → IsRun text quote begin first → Closes text quote first stop
    → HasKind text quote begin stop end kind
found_escaped text quote begin first stop end kind is ended forward run closes =
    subst (HasKind text quote begin stop end) (sym is)
    (refl, (ended, record { first = first; forward = forward; run = run; closes = closes }))
