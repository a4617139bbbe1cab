-- Events are added and added.
use Rattle.std.proofs.Common.{ℕ, ◌-◌, List, ◌≡◌, ◌++◌, ◌∷◌, [], ap, length, refl, sym, ◌∙◌, subst, take}
use Rattle.std.proofs.lemmas.List.{append-nil, append_assoc, length-map, take-append-le, take_all}
use Rattle.std.proofs.Common.{arith}
use Rattle.std.proofs.lemmas.List.Edits.{insert-append_right}
use Rattle.std.specs.List.{insert}
use Rattle.yaml_base.specs.PlainEvent.{PlainEvent, document_end, document_start, stream_end, stream_start}
use Rattle.yaml_base.specs.Position.{Position}
use Rattle.yaml_direct.specs.Documents.{AddsDocument, AddsEnd, IsBegun, IsWholeStream}
use Rattle.yaml_direct.specs.Places.{Grows}
use Rattle.yaml_direct.specs.declared.reader.Reader.{Reader}
use Rattle.yaml_tape.specs.OnTape.{marked_by}
use Rattle.yaml_tape.specs.Pushes.{marked_on}
use Rattle.yaml_tape.specs.declared.tape.Tape.{Tape}

pub grows_on : (a b c : Reader) → Grows a b → Grows b c → Grows a c
grows_on a b c f g = record {
  more = f.more ++ g.more;
  added = g.added ∙ subst (λ x. marked_on b.tape ++ g.more ≡ x ++ g.more) f.added refl
      ∙ append_assoc (marked_on a.tape) f.more g.more;
}

pub grows_same : (a b : Reader) → marked_on b.tape ≡ marked_on a.tape → Grows a b
grows_same a b h = record { more = []; added = h ∙ sym (append-nil (marked_on a.tape)) }

pub grows_pushed : (a b : Reader) (e : PlainEvent × Position)
    → marked_on b.tape ≡ marked_on a.tape ++ e ∷ [] → Grows a b
grows_pushed a b e h = record { more = e ∷ []; added = h }

zero_less : (n : ℕ) → 0 ≡ n - n
zero_less n = omega arith

behind_first : (xs ys : List (PlainEvent × Position)) (n : ℕ) (e : PlainEvent × Position) → n ≡ length xs
    → insert (xs ++ ys) n e ≡ xs ++ e ∷ ys
behind_first xs ys n e h =
    insert-append_right xs ys n n e (sym h) (omega arith)
    ∙ subst (λ k. xs ++ insert ys k e ≡ xs ++ e ∷ ys) (zero_less n) refl

-- an event behind those that were there at first
pub grows_inserted : (a b c : Reader) (e : PlainEvent × Position) → Grows a b
    → marked_on c.tape ≡ insert (marked_on b.tape) (length a.tape.entries.items) e → Grows a c
grows_inserted a b c e g h = record {
  more = e ∷ g.more;
  added = h ∙ ap (λ xs. insert xs (length a.tape.entries.items) e) g.added
      ∙ behind_first (marked_on a.tape) g.more (length a.tape.entries.items) e
      (sym (length-map a.tape.entries.items (marked_by a.tape.text.now a.tape.arena.items a.tape.names.items)));
}

around : {A : Type 0} (xs more : List A) (x y : A)
    → ((xs ++ x ∷ []) ++ more) ++ y ∷ [] ≡ (xs ++ x ∷ more) ++ y ∷ []
around xs more x y = ap (λ z. z ++ y ∷ []) (append_assoc xs (x ∷ []) more)

-- a start, what it holds, and an end make a document
pub document_added : (a b c d : Reader) (start end : Position)
    → marked_on b.tape ≡ marked_on a.tape ++ (document_start, start) ∷ [] → Grows b c
    → marked_on d.tape ≡ marked_on c.tape ++ (document_end, end) ∷ []
    → AddsDocument (marked_on a.tape) (marked_on d.tape)
document_added a b c d start end f g h = record {
  start = start;
  nodes = g.more;
  end = end;
  added = h ∙ ap (λ x. x ++ (document_end, end) ∷ []) (g.added ∙ ap (λ x. x ++ g.more) f)
      ∙ around (marked_on a.tape) g.more (document_start, start) (document_end, end);
}

-- what was added is taken off again
first_of : (xs ys : List (PlainEvent × Position)) → take (length xs) (xs ++ ys) ≡ xs
first_of xs ys = take-append-le (length xs) xs ys (omega arith) ∙ take_all (length xs) xs (omega arith)

pub given_up : (a b : Reader) (t : Tape) → Grows a b
    → marked_on t ≡ take (length a.tape.entries.items) (marked_on b.tape) → marked_on t ≡ marked_on a.tape
given_up a b t g h =
    let count = length-map a.tape.entries.items (marked_by a.tape.text.now a.tape.arena.items a.tape.names.items) in
    h ∙ subst (λ n. take n (marked_on b.tape) ≡ take (length (marked_on a.tape)) (marked_on b.tape)) count refl
    ∙ ap (take (length (marked_on a.tape))) g.added ∙ first_of (marked_on a.tape) g.more

-- a stream begins, goes on, and ends
pub stream_begun : (a b : Reader) (start : Position) → marked_on a.tape ≡ []
    → marked_on b.tape ≡ marked_on a.tape ++ (stream_start, start) ∷ [] → IsBegun (marked_on b.tape)
stream_begun a b start none h = record {
  start = start;
  documents = [];
  all = h ∙ ap (λ x. x ++ (stream_start, start) ∷ []) none;
}

pub begun_document : (a b : List (PlainEvent × Position)) → IsBegun a → AddsDocument a b → IsBegun b
begun_document a b f g = record {
  start = f.start;
  documents = f.documents ++ (document_start, g.start) ∷ g.nodes ++ (document_end, g.end) ∷ [];
  all = g.added ∙ ap (λ x. x ++ (document_start, g.start) ∷ g.nodes ++ (document_end, g.end) ∷ []) f.all;
}

pub whole_stream : (a b : List (PlainEvent × Position)) → IsBegun a → AddsEnd a b → IsWholeStream b
whole_stream a b f g = record {
  start = f.start;
  documents = f.documents;
  end = g.end;
  all = g.added ∙ ap (λ x. x ++ (stream_end, g.end) ∷ []) f.all;
}
