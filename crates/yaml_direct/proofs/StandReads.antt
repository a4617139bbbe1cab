-- What was read of a document, put together.
use Rattle.std.proofs.Common.{ℕ, ◌+◌, ◌-◌, ◌<◌, ◌≡◌, ◌⊎◌, ◌++◌, ◌∷◌, ◌==◌, ◌&&◌, Bool, true, false}
use Rattle.std.proofs.Common.{List, [], Some, refl, sym, subst, ap, ap₂, ◌∙◌, arith, inl, inr, drop}
use Rattle.std.proofs.Common.{Option, length, take}
use Rattle.std.proofs.lemmas.List.{get_or-drop}
use Rattle.std.specs.Prelude.{slice_range}
use Rattle.yaml_base.specs.PlainEvent.{document_end, document_start, scalar}
use Rattle.yaml_base.specs.Position.{Position}
use Rattle.yaml_base.specs.declared.event.ScalarStyle.TheVariants as style
use Rattle.yaml_direct.specs.Added.{Adds, AddsScalar}
use Rattle.yaml_direct.specs.ByColumns.{IsBlockNode, Reads}
use Rattle.yaml_direct.specs.Held.{IsUnnamed}
use Rattle.yaml_direct.specs.InBrackets.{IsOf}
use Rattle.yaml_direct.specs.Standing.{HasRoot, IsContent, IsContentAt, IsDirective, IsDocument, IsRoot, bare_root}
use Rattle.yaml_direct.specs.Standing.{behind_dashes, document_at, marked_root, without_dashes}
use Rattle.yaml_direct.specs.Tokens.{IsCounted}
use Rattle.yaml_direct.specs.declared.reader.Reader.{Reader}
use Rattle.yaml_direct.proofs.BracketReads.{added_at, around, has_from, unnamed_kept}
use Rattle.yaml_direct.proofs.StandSteps.{goes_on_here}
use Rattle.yaml_grammar.specs.Blocks.{BlockNode, anything, value}
use Rattle.yaml_grammar.specs.Bytes.{at, column, is_over, is_triple}
use Rattle.yaml_grammar.specs.Documents.{Earlier, Root, begins_document, behind_directive}
use Rattle.yaml_grammar.specs.Documents.{directive_end, ends_document, marker_at, most_nestings, no_root, none}
use Rattle.yaml_grammar.specs.Documents.{root_in_a_later_line, root_in_its_line, takes_directive}
use Rattle.yaml_grammar.specs.Gaps.{ends_its_line, next}
use Rattle.yaml_grammar.specs.Names.{Names, unnamed}
use Rattle.yaml_grammar.specs.Nodes.{Marked, Node, documents_events, end_mark, mark, no_content, node_events}
use Rattle.yaml_tape.specs.OnTape.{position_at}
use Rattle.yaml_tape.specs.Pushes.{marked_on}
use Rattle.yaml_tape.specs.declared.entry.Spot.{Spot}

-- `%` begins no `---`
zero_more : (i : ℕ) → i + 0 ≡ i
zero_more i = omega arith

percent_begins : (text : List ℕ) (i : ℕ) → at text i ≡ 37 → begins_document text i ≡ false
percent_begins text i byte =
    let first : at (drop i text) 0 ≡ 37 = get_or-drop i text 0 0 ∙ ap (at text) (zero_more i) ∙ byte in
    no_triple (column text i == 0) (drop i text) first
  where
    no_triple : (a : Bool) (bytes : List ℕ) → at bytes 0 ≡ 37 → (a && is_triple 45 bytes) ≡ false
    no_triple false bytes e = refl
    no_triple true bytes e = rw e refl

-- the `---` of a document, behind a directive or not
marker_here : (text : List ℕ) (earlier : Earlier) (i : ℕ) → begins_document text i ≡ true
    → marker_at text earlier i ≡ Some i
marker_here text earlier i begins = rw begins refl

marker_behind : (text : List ℕ) (earlier : Earlier) (i end : ℕ) → at text i ≡ 37 → takes_directive earlier ≡ true
    → directive_end text i ≡ Some end → ends_its_line text end ≡ true → begins_document text (next text end) ≡ true
    → marker_at text earlier i ≡ Some (next text end)
marker_behind text earlier i end byte takes read ends begins =
    rw (percent_begins text i byte, takes)
    (ap (behind_directive text) read ∙ rw (ends, begins) refl)

-- what a document holds
reads_from : (text : List ℕ) (a b c : Reader) (j : ℕ) (What : List Marked → Type 0) → b.tape ≡ a.tape → Reads b c j What
    → Reads a c j What
reads_from text a b c j What tape x = record { has = has_from a b c What tape x.has; counted = x.counted }

content_read : (text : List ℕ) (earlier : Earlier) (old new : Reader) (i j : ℕ) (root : Node)
    → HasRoot text earlier i root j → (events : List Marked) → events ≡ node_events root → marked_on new.tape ≡ marked_on old.tape ++ events
    → IsUnnamed new → IsCounted new j → Reads old new j (IsContent text earlier i j)
content_read text earlier old new i j root stands events same added gone counted = record {
  has = record {
    events = events;
    what = record { root = root; stands = stands; events = same };
    added = added;
    unnamed = gone;
  };
  counted = counted;
}

content_here : (text : List ℕ) (earlier : Earlier) (old new : Reader) (bare : Bool) (i j : ℕ)
    → (bare ≡ true → earlier ≡ none) → i < length text → ends_document text i ≡ false → is_over text j ≡ true
    → IsContentAt text bare i old new i j → Reads old new j (IsContent text earlier i j)
content_here text earlier old new bare i j first inside content over (behind_dashes begins x) =
    let r = x.has.what in
    content_read text earlier old new i j r.root (marked_root i (marker_here text earlier i begins) r.stands over)
    x.has.events r.events x.has.added x.has.unnamed x.counted
content_here text earlier old new bare i j first inside content over (without_dashes is here other x) =
    let r = x.has.what in
    content_read text earlier old new i j r.node
    (bare_root (first is) (goes_on_here text i inside other content) r.stands over)
    x.has.events r.events x.has.added x.has.unnamed x.counted

content_directed : (text : List ℕ) (earlier : Earlier) (old m new : Reader) (bare : Bool) (i k j : ℕ)
    → old.text.now ≡ text → takes_directive earlier ≡ true → IsDirective old m i k
    → is_over text j ≡ true → IsContentAt text bare i m new k j → Reads old new j (IsContent text earlier i j)
content_directed text earlier old m new bare i k j same takes d over (behind_dashes begins x) =
    let r = x.has.what in
    let byte = ap (λ t. at t i) (sym same) ∙ d.sign in
    let read = ap (λ t. directive_end t i) (sym same) ∙ d.read in
    let ends = ap (λ t. ends_its_line t d.end) (sym same) ∙ d.ends in
    let there : k ≡ next text d.end = d.there ∙ ap (λ t. next t d.end) same in
    let at_k = marker_behind text earlier i d.end byte takes read ends
    (ap (begins_document text) (sym there) ∙ begins) ∙ ap (λ q. Some q) (sym there) in
    content_read text earlier old new i j r.root (marked_root k at_k r.stands over)
    x.has.events r.events (x.has.added ∙ ap (λ t. marked_on t ++ x.has.events) d.still) x.has.unnamed x.counted
content_directed text earlier old m new bare i k j same takes d over (without_dashes is here other x) =
    absurd (omega (arith, d.further, here))

-- nothing was stepped over, or a directive
abbrev pub Directed : (directed : Bool) → (old m : Reader) → (i k : ℕ) → Type 0
Directed directed old m i k = ((k ≡ i) × (m ≡ old)) ⊎ ((directed ≡ true) × IsDirective old m i k)

pub directed_unnamed : (directed : Bool) (old m : Reader) (i k : ℕ) → Directed directed old m i k → IsUnnamed old
    → IsUnnamed m
directed_unnamed directed old m i k (inl same) gone = subst IsUnnamed (sym same.1) gone
directed_unnamed directed old m i k (inr d) gone = unnamed_kept old m d.1.names gone

pub directed_counted : (directed : Bool) (old m : Reader) (i k : ℕ) → Directed directed old m i k → IsCounted old i
    → IsCounted m k
directed_counted directed old m i k (inl same) c =
    subst (λ r. IsCounted r k) (sym same.1) (subst (λ q. IsCounted old q) (sym same.0) c)
directed_counted directed old m i k (inr d) c = d.1.counted

pub directed_has : (text : List ℕ) (earlier : Earlier) (old m new : Reader) (bare directed : Bool) (i k j : ℕ)
    → old.text.now ≡ text → Directed directed old m i k → (bare ≡ true → earlier ≡ none)
    → (directed ≡ true → takes_directive earlier ≡ true) → i < length text → ends_document text i ≡ false
    → is_over text j ≡ true → IsContentAt text bare i m new k j → Reads old new j (IsContent text earlier i j)
directed_has text earlier old m new bare directed i k j same (inl here) first takes inside content over x =
    subst (λ r. Reads r new j (IsContent text earlier i j)) here.1
    (content_here text earlier m new bare i j first inside content over
    (subst (λ q. IsContentAt text bare i m new q j) here.0 x))
directed_has text earlier old m new bare directed i k j same (inr d) first takes inside content over x =
    content_directed text earlier old m new bare i k j same (takes d.0) d.1 over x

-- what stands behind `---`
pub root_here : (text : List ℕ) (old m new : Reader) (i j k : ℕ) → m.tape ≡ old.tape → k ≡ next text i
    → ends_its_line text i ≡ false → Reads m new j (IsBlockNode text most_nestings 0 value k j)
    → Reads old new j (IsRoot text i j)
root_here text old m new i j k tape there ends x =
    let r = x.has.what in
    record {
      has = record {
        events = x.has.events;
        what = record {
          root = r.node;
          stands = root_in_its_line ends
              (subst (λ q. BlockNode text most_nestings 0 value q j r.node) there r.stands);
          events = r.events;
        };
        added = x.has.added ∙ ap (λ t. marked_on t ++ x.has.events) tape;
        unnamed = x.has.unnamed;
      };
      counted = x.counted;
    }

pub root_later : (text : List ℕ) (old m new : Reader) (i j k : ℕ) → m.tape ≡ old.tape → k ≡ next text i
    → ends_its_line text i ≡ true → is_over text k ≡ false
    → Reads m new j (IsBlockNode text most_nestings 0 anything k j) → Reads old new j (IsRoot text i j)
root_later text old m new i j k tape there ends over x =
    let r = x.has.what in
    record {
      has = record {
        events = x.has.events;
        what = record {
          root = r.node;
          stands = root_in_a_later_line ends (subst (λ q. is_over text q ≡ false) there over)
              (subst (λ q. BlockNode text most_nestings 0 anything q j r.node) there r.stands);
          events = r.events;
        };
        added = x.has.added ∙ ap (λ t. marked_on t ++ x.has.events) tape;
        unnamed = x.has.unnamed;
      };
      counted = x.counted;
    }

-- no content, with a mark that ends what stands in a column
pub nothing_end : (text : List ℕ) (m new : Reader) (c k : ℕ) → m.text.now ≡ text → IsUnnamed m → m.start.index ≡ k
    → position_at m.text.now m.start.index m.start.late ≡ end_mark m.text.now c k → AddsScalar m new [] style.Plain k
    → marked_on new.tape ≡ marked_on m.tape ++ node_events (no_content (end_mark text c k) unnamed [])
nothing_end text m new c k same gone there place a =
    a.added
    ∙ ap₂ (λ (p : Position) (source : List ℕ). marked_on m.tape ++ event_of m.names.anchor m.names.tag source p ∷ [])
    (place ∙ ap (λ t. end_mark t c k) same)
    (ap (λ i. slice_range m.text.now i k) there ∙ no_bytes m.text.now k)
    ∙ ap (λ (n : Names). marked_on m.tape ++ event_of n.anchor n.tag [] (end_mark text c k) ∷ []) gone
  where
    event_of : Option (List ℕ) → Option (List ℕ) → List ℕ → Position → Marked
    event_of anchor tag source p = (
      scalar (record {
        anchor = anchor;
        tag = tag;
        text = [];
        style = style.Plain;
        source = Some source;
      }),
      p,
    )

    no_bytes : (text : List ℕ) (i : ℕ) → slice_range text i i ≡ []
    no_bytes text i =
        let none : i - i ≡ 0 = omega arith in
        ap (λ n. take n (drop i text)) none

pub root_none : (text : List ℕ) (old m new : Reader) (i j k : ℕ) → m.text.now ≡ text → m.tape ≡ old.tape → IsUnnamed m
    → k ≡ next text i → j ≡ k → ends_its_line text i ≡ true → is_over text k ≡ true → m.start.index ≡ k
    → position_at m.text.now m.start.index m.start.late ≡ end_mark m.text.now 0 k → AddsScalar m new [] style.Plain k
    → IsCounted new j → Reads old new j (IsRoot text i j)
root_none text old m new i j k same tape gone there end ends over begins place a counted =
    let n = no_content (end_mark text 0 k) unnamed [] in
    record {
      has = record {
        events = node_events n;
        what = record {
          root = n;
          stands = subst (λ q. Root text i q n) (sym (end ∙ there))
              (subst (λ q. Root text i (next text i) (no_content (end_mark text 0 q) unnamed [])) (sym there)
              (no_root ends (subst (λ q. is_over text q ≡ true) there over)));
          events = refl;
        };
        added = nothing_end text m new 0 k same gone begins place a ∙ ap (λ t. marked_on t ++ node_events n) tape;
        unnamed = a.unnamed;
      };
      counted = counted;
    }

-- a document between its start and its end
pub document_has : (text : List ℕ) (earlier : Earlier) (old a b new : Reader) (i j k : ℕ) (s t : Spot) → IsOf text old
    → s.index ≡ i → s.late ≡ false → Adds old a document_start s → Reads a b j (IsContent text earlier i j)
    → b.text.now ≡ text → position_at b.text.now t.index t.late ≡ end_mark b.text.now 0 j → Adds b new document_end t
    → new.names ≡ b.names → k ≡ j → IsCounted new k → Reads old new k (IsDocument text earlier i k)
document_has text earlier old a b new i j k s t of there early begun x same place ended names end counted =
    let r = x.has.what in
    let d = document_at text i r.root j in
    let final : (document_end, position_at b.text.now t.index t.late) ≡ (document_end, end_mark text 0 j)
    = ap (λ p. (document_end, p)) (place ∙ ap (λ t. end_mark t 0 j) same) in
    record {
      has = record {
        events = documents_events (d ∷ []);
        what = subst (λ q. IsDocument text earlier i q (documents_events (d ∷ []))) (sym end)
            (record { root = r.root; stands = r.stands; events = refl });
        added = around (marked_on old.tape) (marked_on a.tape) (marked_on b.tape) (marked_on new.tape) (node_events r.root)
            (document_start, mark text i) (document_end, end_mark text 0 j)
            (added_at text old a document_start s i of.same there early begun)
            (x.has.added ∙ ap (λ l. marked_on a.tape ++ l) r.events)
            (ended ∙ ap (λ e. marked_on b.tape ++ e ∷ []) final);
        unnamed = unnamed_kept b new names x.has.unnamed;
      };
      counted = counted;
    }

pub content_counted : (text : List ℕ) (bare : Bool) (place : ℕ) (old new : Reader) (i j : ℕ)
    → IsContentAt text bare place old new i j → IsCounted new j
content_counted text bare place old new i j (behind_dashes begins x) = x.counted
content_counted text bare place old new i j (without_dashes is here other x) = x.counted
