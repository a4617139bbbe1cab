-- Values that are put behind events, one after another.
use Rattle.std.proofs.Common.{◌≡◌, ◌⊎◌, ◌<◌, ◌+◌, ◌++◌, ◌∷◌, [], ℕ, List, length, get_or, drop, Result, Ok, Err}
use Rattle.std.proofs.Common.{refl, sym, ap, ◌∙◌, subst, add-one, drop-cons, append_assoc, inl, inr, map, All}
use Rattle.std.proofs.lemmas.List.{append-nil}
use Rattle.std.proofs.lemmas.List.Elements.{All-nil, All-push}
use Rattle.std.specs.Prelude.{None, IfErr, OnOk}
use Rattle.yaml_base.specs.EmitEvents.{PlainEmit, emit_sequence_start, emit_sequence_end, emit_mapping_start}
use Rattle.yaml_base.specs.EmitEvents.{emit_mapping_end}
use Rattle.yaml_base.specs.EmitTree.{EmitNode, EmitNodes, EmitPairs, emit_node_events, emit_nodes_events}
use Rattle.yaml_base.specs.EmitTree.{emit_pairs_events, emit_node, no_emit_nodes, no_emit_pairs}
use Rattle.yaml_base.specs.EmitTree.{emit_sequence_node, emit_mapping_node}
use Rattle.yaml_base.specs.declared.error.Cause.{Cause}
use Rattle.yaml_shape.specs.DataView.{items_of}
use Rattle.yaml_shape.specs.Held.{IsHeld, AreHeld, EntriesAreHeld}
use Rattle.yaml_shape.specs.PlainData.{PlainData, PlainItems, PlainEntries}
use Rattle.yaml_shape.specs.PlainShape.{PlainShape}
use Rattle.yaml_shape.specs.declared.shape.ShapeId.{ShapeId}
use Rattle.yaml_write.specs.Outcomes.{made, joined}
use Rattle.yaml_write.specs.Written.{written_elements, written_entries}
use Rattle.yaml_write.specs.WrittenEvents.{pair_events}
use Rattle.yaml_write.specs.WrittenValue.{pair_node, pair_before}
use Rattle.yaml_write.proofs.AddLaws.{InRow, adds-between, adds-joined, left-joined}
use Rattle.yaml_write.proofs.ValueLaws.{node-row, pair-row, pairs-row}
use Rattle.yaml_types.specs.NodeWrites.{written_node, IsPut, IsFaultOf}
use Rattle.yaml_types.specs.WriteRefusal.{IsWriteRefusal, SomeUnwritten}
use Rattle.yaml_types.specs.WrittenParts.{pairs_written, PairsKeep}
use Rattle.yaml_types.proofs.WriteRefusals.{refused_by, next_unwritten}

-- what is left behind the first of what is left, by its place
pub next_of : {X : Type 0} (xs : List X) (i : ℕ) (x : X) → i < length xs → x ≡ get_or xs i x
    → drop i xs ≡ x ∷ drop (i + 1) xs
next_of xs i x h is = rw (add-one, drop-cons xs i x, ← is)

-- a fault of the first part is one of both
pub first_fault : {A B C : Type 0} (f : A → B → C) (first : Result A Cause) (second : Result B Cause) (cause : Cause)
    → first ≡ Err cause → joined f first second ≡ Err cause
first_fault f first second cause e = ap (λ r. joined f r second) e

-- what is refused of a part is refused of what is made of it, and the other way round
part_fault : {A B : Type 0} (f : A → B) (given : Result A Cause) (cause : Cause) → made f given ≡ Err cause
    → given ≡ Err cause
part_fault f (Ok a) cause e = absurd (cc)
part_fault f (Err other) cause e = cc

module _ {X A B : Type 0} (f : A → B → B) (va : A → List PlainEmit) (vb : B → List PlainEmit) (row : InRow f va vb vb)
    (one : X → Result A Cause) (all : List X → Result B Cause)
    (kept : X → Type 0) (holds : X → Type 0) (held : List X → Type 0) where
  -- the parts of the whole that are not left are put, and keep what they do
  pub record AreFront (whole left : List X) (old now : List PlainEmit) : Type 0 where
    pub front : List X
    pub is : front ++ left ≡ whole
    pub put : made (λ part. old ++ vb part) (all whole) ≡ made (λ part. now ++ vb part) (all left)
    pub keep : All kept front
    pub hold : held left → held whole

  -- none is put
  pub none_put : (whole : List X) (old : List PlainEmit) → AreFront whole whole old old
  none_put whole old = record { front = []; is = refl; put = refl; keep = All-nil kept; hold = λ h. h }

  -- one more
  pub one_put : (step : (x : X) (xs : List X) → all (x ∷ xs) ≡ joined f (one x) (all xs))
      → (cons : (x : X) (xs : List X) → holds x → held xs → held (x ∷ xs))
      → (whole left rest : List X) (x : X) (old mid new : List PlainEmit) → left ≡ x ∷ rest
      → IsPut va (one x) mid new → kept x → holds x → AreFront whole left old mid → AreFront whole rest old new
  one_put step cons whole left rest x old mid new next put keeps hold are = record {
    front = are.front ++ x ∷ [];
    is = append_assoc are.front (x ∷ []) rest ∙ (ap (λ l. are.front ++ l) (sym next) ∙ are.is);
    put = are.put ∙ (ap (λ l. made (λ part. mid ++ vb part) (all l)) next
        ∙ (ap (made (λ part. mid ++ vb part)) (step x rest)
        ∙ left-joined f va vb vb row (one x) (all rest) mid new put));
    keep = All-push kept are.front x are.keep keeps;
    hold = λ h. are.hold (subst held (sym next) (cons x rest hold h));
  }

  -- all are put
  pub all_put : (nothing : B) → all [] ≡ Ok nothing → vb nothing ≡ [] → held []
      → (whole left : List X) (old now : List PlainEmit) → left ≡ [] → AreFront whole left old now
      → IsPut vb (all whole) old now × All kept whole × held whole
  all_put nothing done empty none whole left old now end are = (
    are.put ∙ (ap (λ l. made (λ part. now ++ vb part) (all l)) end ∙ (ap (made (λ part. now ++ vb part)) done
        ∙ ap Ok (ap (λ es. now ++ es) empty ∙ append-nil now))),
    subst (All kept) (sym (append-nil are.front) ∙ (ap (λ l. are.front ++ l) (sym end) ∙ are.is)) are.keep,
    are.hold (subst held (sym end) none),
  )

  fault_by : (step : (x : X) (xs : List X) → all (x ∷ xs) ≡ joined f (one x) (all xs))
      → (unwritten : X → List ℕ → Type 0) (whole left rest : List X) (x : X) (old mid : List PlainEmit) (cause : Cause)
      → left ≡ x ∷ rest → (one x ≡ Err cause) ⊎ IsWriteRefusal (unwritten x) cause → AreFront whole left old mid
      → (all whole ≡ Err cause) ⊎ IsWriteRefusal (SomeUnwritten unwritten whole) cause
  fault_by step unwritten whole left rest x old mid cause next (inl e) are =
      let here : all left ≡ Err cause = ap all next ∙ (step x rest ∙ first_fault f (one x) (all rest) cause e) in
      inl (part_fault (λ part. old ++ vb part) (all whole) cause
      (are.put ∙ ap (made (λ part. mid ++ vb part)) here))
  fault_by step unwritten whole left rest x old mid cause next (inr by) are =
      inr (refused_by (unwritten x) (SomeUnwritten unwritten whole) cause
      (λ message. next_unwritten unwritten whole are.front left rest x message are.is next) by)

  -- the next is refused, and so are all
  pub next_refused : (step : (x : X) (xs : List X) → all (x ∷ xs) ≡ joined f (one x) (all xs))
      → (unwritten : X → List ℕ → Type 0) (whole left rest : List X) (x : X) (old mid : List PlainEmit) (cause : Cause)
      → left ≡ x ∷ rest → IsFaultOf (one x) (unwritten x) cause → AreFront whole left old mid
      → IsFaultOf (all whole) (SomeUnwritten unwritten whole) cause
  next_refused step unwritten whole left rest x old mid cause next fault are m =
      fault_by step unwritten whole left rest x old mid cause next (fault m) are

-- Elements, each of one shape.
module _ {T : Type 0} (table : List PlainShape) (id : ℕ) (written : T → PlainData) (kept : T → Type 0) where
  -- what elements are written as
  abbrev pub elements_of : List T → Result EmitNodes Cause
  elements_of xs = written_elements table id (items_of (map written xs))

  -- the elements that are not left are put
  abbrev pub ElementsPut : (whole left : List T) (old now : List PlainEmit) → Type 0
  ElementsPut =
      AreFront emit_node emit_node_events emit_nodes_events node-row (λ x. written_node table id (written x))
      elements_of kept
      (λ x. IsHeld (written x)) (λ xs. AreHeld (items_of (map written xs)))

  pub no_element_put : (whole : List T) (old : List PlainEmit) → ElementsPut whole whole old old
  no_element_put =
      none_put emit_node emit_node_events emit_nodes_events node-row (λ x. written_node table id (written x))
      elements_of kept
      (λ x. IsHeld (written x)) (λ xs. AreHeld (items_of (map written xs)))

  pub element_put : (whole left rest : List T) (x : T) (old mid new : List PlainEmit) → left ≡ x ∷ rest
      → IsPut emit_node_events (written_node table id (written x)) mid new → kept x → IsHeld (written x)
      → ElementsPut whole left old mid → ElementsPut whole rest old new
  element_put =
      one_put emit_node emit_node_events emit_nodes_events node-row (λ x. written_node table id (written x)) elements_of
      kept
      (λ x. IsHeld (written x)) (λ xs. AreHeld (items_of (map written xs))) (λ x xs. refl) (λ x xs one all. (one, all))

  pub elements_put : (whole left : List T) (old now : List PlainEmit) → left ≡ [] → ElementsPut whole left old now
      → IsPut emit_nodes_events (elements_of whole) old now × All kept whole
      × AreHeld (items_of (map written whole))
  elements_put =
      all_put emit_node emit_node_events emit_nodes_events node-row (λ x. written_node table id (written x)) elements_of
      kept
      (λ x. IsHeld (written x)) (λ xs. AreHeld (items_of (map written xs))) no_emit_nodes refl refl tt

  pub element_refused : (unwritten : T → List ℕ → Type 0) (whole left rest : List T) (x : T) (old mid : List PlainEmit)
      (cause : Cause) → left ≡ x ∷ rest → IsFaultOf (written_node table id (written x)) (unwritten x) cause
      → ElementsPut whole left old mid → IsFaultOf (elements_of whole) (SomeUnwritten unwritten whole) cause
  element_refused =
      next_refused emit_node emit_node_events emit_nodes_events node-row (λ x. written_node table id (written x))
      elements_of
      kept (λ x. IsHeld (written x)) (λ xs. AreHeld (items_of (map written xs))) (λ x xs. refl)

-- Keys of one shape, each with its value of another.
module _ {K V : Type 0} (table : List PlainShape) (ids : ShapeId × ShapeId) (one : K → PlainData) (two : V → PlainData)
    (key : K → Type 0) (value : V → Type 0) where
  -- what a pair is written as
  abbrev pub pair_of : K × V → Result (EmitNode × EmitNode) Cause
  pair_of p = joined pair_node (written_node table ids.0.0 (one p.0)) (written_node table ids.1.0 (two p.1))

  -- what pairs are written as
  abbrev pub pairs_of : List (K × V) → Result EmitPairs Cause
  pairs_of ps = written_entries table ids.0.0 ids.1.0 (pairs_written one two ps)

  -- the data of both is held
  abbrev pub BothHeld : K × V → Type 0
  BothHeld p = IsHeld (one p.0) × IsHeld (two p.1)

  -- the pairs that are not left are put
  abbrev pub PairsPut : (whole left : List (K × V)) (old now : List PlainEmit) → Type 0
  PairsPut =
      AreFront pair_before pair_events emit_pairs_events pairs-row pair_of pairs_of (λ p. key p.0 × value p.1) BothHeld
      (λ ps. EntriesAreHeld (pairs_written one two ps))

  pub no_pair_put : (whole : List (K × V)) (old : List PlainEmit) → PairsPut whole whole old old
  no_pair_put =
      none_put pair_before pair_events emit_pairs_events pairs-row pair_of pairs_of (λ p. key p.0 × value p.1) BothHeld
      (λ ps. EntriesAreHeld (pairs_written one two ps))

  pub pair_put : (whole left rest : List (K × V)) (p : K × V) (old mid new : List PlainEmit) → left ≡ p ∷ rest
      → IsPut pair_events (pair_of p) mid new → key p.0 × value p.1 → BothHeld p → PairsPut whole left old mid
      → PairsPut whole rest old new
  pair_put =
      one_put pair_before pair_events emit_pairs_events pairs-row pair_of pairs_of (λ p. key p.0 × value p.1) BothHeld
      (λ ps. EntriesAreHeld (pairs_written one two ps)) (λ p ps. refl) (λ p ps both all. (both.0, both.1, all))

  pub pairs_put : (whole left : List (K × V)) (old now : List PlainEmit) → left ≡ [] → PairsPut whole left old now
      → IsPut emit_pairs_events (pairs_of whole) old now × PairsKeep key value whole
      × EntriesAreHeld (pairs_written one two whole)
  pairs_put =
      all_put pair_before pair_events emit_pairs_events pairs-row pair_of pairs_of (λ p. key p.0 × value p.1) BothHeld
      (λ ps. EntriesAreHeld (pairs_written one two ps)) no_emit_pairs refl refl tt

  pub pair_refused : (unwritten : K × V → List ℕ → Type 0) (whole left rest : List (K × V)) (p : K × V)
      (old mid : List PlainEmit) (cause : Cause) → left ≡ p ∷ rest → IsFaultOf (pair_of p) (unwritten p) cause
      → PairsPut whole left old mid → IsFaultOf (pairs_of whole) (SomeUnwritten unwritten whole) cause
  pair_refused =
      next_refused pair_before pair_events emit_pairs_events pairs-row pair_of pairs_of (λ p. key p.0 × value p.1)
      BothHeld (λ ps. EntriesAreHeld (pairs_written one two ps)) (λ p ps. refl)

-- a collection between its start and its end
pub between : {A : Type 0} (f : A → EmitNode) (va : A → List PlainEmit) (start end : PlainEmit)
    (row : (a : A) → emit_node_events (f a) ≡ start ∷ (va a ++ end ∷ [])) (parts : Result A Cause)
    (old begun mid new : List PlainEmit)
    → made (λ e. old ++ e ∷ []) (Ok start) ≡ Ok begun → IsPut va parts begun mid
    → made (λ e. mid ++ e ∷ []) (Ok end) ≡ Ok new → IsPut emit_node_events (made f parts) old new
between f va start end row parts old begun mid new s e h =
    adds-between f va emit_node_events start end row parts old begun mid new (Ok old) s e h

-- elements between the start of a sequence and its end, by a shape that is known by another name
pub sequence_put : (table : List PlainShape) (id id' : ℕ) (items : PlainItems) (old begun mid new : List PlainEmit)
    → id ≡ id' → made (λ e. old ++ e ∷ []) (Ok (emit_sequence_start None)) ≡ Ok begun
    → IsPut emit_nodes_events (written_elements table id items) begun mid
    → made (λ e. mid ++ e ∷ []) (Ok emit_sequence_end) ≡ Ok new
    → IsPut emit_node_events (made (emit_sequence_node None) (written_elements table id' items)) old new
sequence_put table id id' items old begun mid new same s e h =
    subst (λ i. IsPut emit_node_events (made (emit_sequence_node None) (written_elements table i items)) old new) same
    (between (emit_sequence_node None) emit_nodes_events (emit_sequence_start None) emit_sequence_end (λ ns. refl)
    (written_elements table id items) old begun mid new s e h)

-- pairs between the start of a mapping and its end, by shapes that are known by other names
pub mapping_put : (table : List PlainShape) (key key' value value' : ℕ) (entries : PlainEntries)
    (old begun mid new : List PlainEmit) → key ≡ key' → value ≡ value'
    → made (λ e. old ++ e ∷ []) (Ok (emit_mapping_start None)) ≡ Ok begun
    → IsPut emit_pairs_events (written_entries table key value entries) begun mid
    → made (λ e. mid ++ e ∷ []) (Ok emit_mapping_end) ≡ Ok new
    → IsPut emit_node_events (made (emit_mapping_node None) (written_entries table key' value' entries)) old new
mapping_put table key key' value value' entries old begun mid new same same' s e h =
    subst (λ k. IsPut emit_node_events (made (emit_mapping_node None) (written_entries table k value' entries)) old new)
    same
    (subst (λ v. IsPut emit_node_events (made (emit_mapping_node None) (written_entries table key v entries)) old new)
    same'
    (between (emit_mapping_node None) emit_pairs_events (emit_mapping_start None) emit_mapping_end (λ ps. refl)
    (written_entries table key value entries) old begun mid new s e h))

-- a key was put, and its value is
pub both_put : {X : Type 0} (key value : Result EmitNode Cause) (old mid new : List PlainEmit) (r : Result X Cause)
    → IsPut emit_node_events key old mid → OnOk r (IsPut emit_node_events value mid new)
    → OnOk r (IsPut pair_events (joined pair_node key value) old new)
both_put key value old mid new (Err cause) k v = tt
both_put key value old mid new (Ok x) k v =
    adds-joined pair_node emit_node_events emit_node_events pair_events pair-row key value old mid new (Ok x) k v

value_fault : (key value : Result EmitNode Cause) (old mid : List PlainEmit) (first second : List ℕ → Type 0)
    (cause : Cause) → IsPut emit_node_events key old mid
    → (value ≡ Err cause) ⊎ IsWriteRefusal second cause
    → (joined pair_node key value ≡ Err cause) ⊎ IsWriteRefusal (λ m. first m ⊎ second m) cause
value_fault (Err other) value old mid first second cause k v = absurd (cc)
value_fault (Ok node) value old mid first second cause k (inl e) = inl (ap (made (pair_node node)) e)
value_fault (Ok node) value old mid first second cause k (inr by) =
    inr (refused_by second (λ m. first m ⊎ second m) cause (λ m. inr) by)

-- a key was put, and what its value is refused for, both are
pub both_refused : {X : Type 0} (key value : Result EmitNode Cause) (old mid : List PlainEmit)
    (first second : List ℕ → Type 0) (r : Result X Cause) → IsPut emit_node_events key old mid
    → IfErr r (IsFaultOf value second)
    → IfErr r (IsFaultOf (joined pair_node key value) (λ m. first m ⊎ second m))
both_refused key value old mid first second (Ok x) k v = tt
both_refused key value old mid first second (Err cause) k v =
    λ m. value_fault key value old mid first second cause k (v m)
