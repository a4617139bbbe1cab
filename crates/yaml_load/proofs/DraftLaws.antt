-- What was seen of a document is what its draft holds.
use Rattle.std.specs.Prelude.{◌≡◌, ◌+◌, ◌<◌, ◌≤◌, ◌∷◌, ◌++◌}
use Rattle.yaml_load.proofs.Words.{Events, Marked, ℕ, suc, List, [], length, sym, ◌∙◌, ap, arith, append_assoc}
use Rattle.yaml_load.proofs.Words.{append-nil, length-append, All, IsTrue, true, Option, Some, None, option_map, inl}
use Rattle.yaml_load.proofs.Words.{inr, refl, le-ltb, length-map, map-append, All-cons, All-push, Position, PlainEvent}
use Rattle.yaml_load.proofs.Words.{alias, anchor_at, greater, greatest_below, number_below, doc_event_of}
use Rattle.yaml_load.proofs.Words.{marked_events_of, Find, Input, anchor_of, anchors_in, find_in, PlainDocEvent}
use Rattle.yaml_load.proofs.Words.{alias_to, DocEvent, Draft, AreTaken, IsDraft, IsTaken, Waiting, drafted, drafts_of}
use Rattle.yaml_load.proofs.Words.{is_of_node, HasNumbers}

-- the anchors of one event more
anchors_in-push : (place : ℕ) (seen : Input) (e : PlainEvent × Position)
    → anchors_in place (seen ++ e ∷ []) ≡ anchors_in place seen ++ anchor_at (anchor_of e.0) (place + length seen)
anchors_in-push place [] e =
    let n : place ≡ place + 0 = omega arith in
    append-nil (anchor_at (anchor_of e.0) place) ∙ ap (anchor_at (anchor_of e.0)) n
anchors_in-push place (x ∷ seen) e =
    let n : place + 1 + length seen ≡ place + suc (length seen) = omega arith in
    rw (append_assoc, anchors_in-push (place + 1) seen e, n)

-- an event that is taken is taken by each search that finds as much
taken_same : (find more : Find) (place : ℕ) (e : PlainEvent) (d : PlainDocEvent) (waiting : Waiting)
    → ((a : List ℕ) → more a place ≡ find a place) → IsTaken find place e d waiting → IsTaken more place e d waiting
taken_same find more place (alias a) d waiting h (inl w) = inl w
taken_same find more place (alias a) d waiting h (inr k) = inr (ap (option_map alias_to) (h a) ∙ k.0, k.1)
taken_same find more place _ d waiting h t = t

-- one event more is taken
taken_more : (find more : Find) (place : ℕ) (seen : Input) (events : Marked) (waiting here : Waiting)
    (e : PlainEvent × Position) (d : PlainDocEvent)
    → ((a : List ℕ) (p : ℕ) → p < place + length seen → more a p ≡ find a p)
    → AreTaken find place seen events waiting → IsTaken more (place + length seen) e.0 d here
    → AreTaken more place (seen ++ e ∷ []) (events ++ (d, e.1) ∷ []) (waiting ++ here)
taken_more find more place [] events waiting here e d h (none, empty) is =
    let n : place + 0 ≡ place = omega arith in
    (d, here, [], [], rw n at is, (refl, refl), rw none, rw (empty, append-nil))
taken_more find more place (x ∷ seen) events waiting here e d h (d', here', later, left, was, rest, es, ws) is =
    let n : place + suc (length seen) ≡ place + 1 + length seen = omega arith in
    let first = taken_same find more place x.0 d' here' (λ a. h a place (omega arith)) was in
    let others = taken_more find more (place + 1) seen later left here e d (λ a p l. h a p (omega arith)) rest
    (rw n at is) in
    (d', here', later ++ (d, e.1) ∷ [], left ++ here, first, others, rw es, rw (ws, append_assoc))

-- as many events stand for those that were seen
taken_long : (find : Find) (place : ℕ) (seen : Input) (events : Marked) (waiting : Waiting)
    → AreTaken find place seen events waiting → length events ≡ length seen
taken_long find place [] events waiting (none, empty) = ap length none
taken_long find place (e ∷ seen) events waiting (d, here, later, left, is, rest, es, ws) =
    ap length es ∙ ap suc (taken_long find (place + 1) seen later left rest)

-- the aliases that wait stand among the events
waits_within : (find : Find) (place : ℕ) (e : PlainEvent) (d : PlainDocEvent) (here left : Waiting) (end : ℕ)
    → place < end → IsTaken find place e d here → All (λ x. x.1 < end) left → All (λ x. x.1 < end) (here ++ left)
waits_within find place (alias a) d here left end l (inl w) h =
    rw w.1 (All-cons (λ (x : List ℕ × ℕ). x.1 < end) (a, place) left l h)
waits_within find place (alias a) d here left end l (inr k) h = rw k.1 h
waits_within find place _ d here left end l t h = rw t.1 h

taken_within : (find : Find) (place : ℕ) (seen : Input) (events : Marked) (waiting : Waiting)
    → AreTaken find place seen events waiting → All (λ x. x.1 < place + length seen) waiting
taken_within find place [] events waiting (none, empty) = rw empty (λ k d l. absurd (omega arith))
taken_within find place (e ∷ seen) events waiting (d, here, later, left, is, rest, es, ws) =
    rw ws (waits_within find place e.0 d here left (place + suc (length seen)) (omega arith) is
    (λ k d l. let h = taken_within find (place + 1) seen later left rest k d l in omega arith))

-- a place further on does not change what is found in front of it
number_behind : (p k : ℕ) (anchor : List ℕ) (x : List ℕ) → p ≤ k → number_below p anchor (x, k) ≡ None
number_behind p k anchor x l = grind (arith, le-ltb k p l)

found_before : (p k : ℕ) (anchor : List ℕ) (named : List (List ℕ × ℕ)) (o : Option (List ℕ)) → p ≤ k
    → greatest_below p anchor (named ++ anchor_at o k) ≡ greatest_below p anchor named
found_before p k anchor [] None l = refl
found_before p k anchor [] (Some x) l = ap (λ n. greater n None) (number_behind p k anchor x l)
found_before p k anchor (y ∷ named) o l = ap (greater (number_below p anchor y)) (found_before p k anchor named o l)

module _ {events : Events} {numbers : List ℕ} {seen : Input} {old : Draft} (h : IsDraft events numbers seen old) where
  now_long : length h.now ≡ length seen
  now_long = sym (length-map h.now _) ∙ taken_long (find_in (anchors_in 0 seen)) 0 seen _ _ h.taken

  pub drafts_long : length (drafts_of seen) ≡ length seen
  drafts_long = length-map seen (λ (e : PlainEvent × Position). drafted e.0)

  pub whole_long : length old.events.items ≡ old.from + length seen
  whole_long = omega (arith, ap length h.whole, length-append events h.now, now_long, h.from)

  from_none : length seen ≡ 0 + length seen
  from_none = omega arith

  -- what the draft asks of its calls
  pub begins_within : old.from ≤ length old.events.items
  begins_within = omega (arith, whole_long)

  pub as_many : length old.ends.numbers ≡ length old.events.items
  as_many = omega (arith, h.ends.long, drafts_long, whole_long, h.long, h.from)

  pub aliases_in_range : All (λ (x : List ℕ × ℕ). old.from + x.1 < length old.events.items) old.anchors.aliases.items
  aliases_in_range = λ k d l.
      let w = taken_within (find_in (anchors_in 0 seen)) 0 seen _ _ h.taken k d l in omega (arith, whole_long)

  -- one event more
  module _ (new : Draft) (e : PlainEvent) (mark : Position) (d : DocEvent) (here : Waiting)
      (node : is_of_node e ≡ true) where
    again : (a : List ℕ) (p : ℕ) → p ≤ length seen
        → find_in (anchors_in 0 (seen ++ (e, mark) ∷ [])) a p ≡ find_in (anchors_in 0 seen) a p
    again a p l =
        rw (anchors_in-push 0 seen (e, mark))
        (found_before p (0 + length seen) a (anchors_in 0 seen) (anchor_of e) (omega arith))

    pub draft_more : new.from ≡ old.from → new.events.items ≡ old.events.items ++ (d, mark) ∷ []
        → IsTaken (find_in (anchors_in 0 seen)) (length seen) e (doc_event_of d) here
        → new.anchors.named.items ≡ old.anchors.named.items ++ anchor_at (anchor_of e) (length seen)
        → new.anchors.aliases.items ≡ old.anchors.aliases.items ++ here
        → HasNumbers numbers (drafts_of seen ++ drafted e ∷ []) new.ends
        → IsDraft events numbers (seen ++ (e, mark) ∷ []) new
    draft_more from pushed is named aliases ends =
        let find = find_in (anchors_in 0 seen) in
        let more = find_in (anchors_in 0 (seen ++ (e, mark) ∷ [])) in
        let still = taken_same find more (length seen) e _ here (λ a. again a (length seen) (omega arith)) is in
        let taken =
        taken_more find more 0 seen (marked_events_of h.now) old.anchors.aliases.items here (e, mark) (doc_event_of d)
        (λ a p l. again a p (omega arith)) h.taken (rw from_none at still) in
        record {
          nodes = All-push (λ (x : PlainEvent × Position). IsTrue (is_of_node x.0)) seen (e, mark) h.nodes node;
          long = h.long;
          from = from ∙ h.from;
          now = h.now ++ (d, mark) ∷ [];
          whole = rw (pushed, h.whole, append_assoc);
          taken = rw (map-append, aliases) taken;
          ends = rw map-append ends;
          named = rw (anchors_in-push 0 seen (e, mark), named, h.named, ← from_none);
        }
