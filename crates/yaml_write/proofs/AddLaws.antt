-- Calls that add events, one after another.
use Rattle.std.proofs.Common.{◌≡◌, ◌++◌, ◌∷◌, [], List, Result, Ok, Err, refl, sym, ap, ◌∙◌, append_assoc}
use Rattle.std.proofs.lemmas.List.{append-nil}
use Rattle.yaml_base.specs.Answer.{Fails}
use Rattle.yaml_base.specs.EmitEvents.{PlainEmit}
use Rattle.yaml_base.specs.declared.error.Cause.{Cause}
use Rattle.yaml_write.specs.Adds.{Adds, KeepsEvents}
use Rattle.yaml_write.specs.Outcomes.{made, joined}

-- a part is made of others, and its events are theirs in a row
abbrev pub InRow : {A B C : Type 0} → (A → B → C) → (A → List PlainEmit) → (B → List PlainEmit) → (C → List PlainEmit)
    → Type 0
InRow f va vb vc = (a : _) (b : _) → vc (f a b) ≡ va a ++ vb b

-- what is refused is refused where it is a part
pub fails-made : {A B : Type 0} (f : A → B) (given : Result A Cause) (cause : Cause) → Fails cause given
    → Fails cause (made f given)
fails-made f (Ok a) cause h m = absurd (let e = h m in cc)
fails-made f (Err other) cause h m = let e = h m in cc

-- and the other way round
pub fails-part : {A B : Type 0} (f : A → B) (given : Result A Cause) (cause : Cause) → Fails cause (made f given)
    → Fails cause given
fails-part f (Ok a) cause h m = absurd (let e = h m in cc)
fails-part f (Err other) cause h m = let e = h m in cc

-- a refusal of the first part is one of both
pub fails-first : {A B C : Type 0} (f : A → B → C) (first : Result A Cause) (second : Result B Cause) (cause : Cause)
    → Fails cause first → Fails cause (joined f first second)
fails-first f (Ok a) second cause h m = absurd (let e = h m in cc)
fails-first f (Err other) second cause h m = let e = h m in cc

-- what was there is kept
pub keeps-all : (events : List PlainEmit) → KeepsEvents events events
keeps-all events = ([], sym (append-nil events))

-- what was there is kept where it is kept with more behind it
pub keeps-through : (old mid new : List PlainEmit) → KeepsEvents old mid → KeepsEvents mid new → KeepsEvents old new
keeps-through old mid new first second =
    (first.0 ++ second.0, second.1 ∙ (ap (λ es. es ++ second.0) first.1 ∙ append_assoc old first.0 second.0))

-- what was there is kept where a part was added
pub keeps-added : {B : Type 0} (view : B → List PlainEmit) (given : Result B Cause) (old new : List PlainEmit)
    → made (λ part. old ++ view part) given ≡ Ok new → KeepsEvents old new
keeps-added view (Err cause) old new e = absurd (cc)
keeps-added view (Ok part) old new e = (view part, let there : old ++ view part ≡ new = cc in sym there)

-- a part was added, and all is kept since
pub kept-more : {B : Type 0} (view : B → List PlainEmit) (given : Result B Cause) (old mid new : List PlainEmit)
    → made (λ part. old ++ view part) given ≡ Ok mid → KeepsEvents mid new → KeepsEvents old new
kept-more view given old mid new e h = keeps-through old mid new (keeps-added view given old mid e) h

-- all is kept, and a part was added since
pub kept-then : {B : Type 0} (view : B → List PlainEmit) (given : Result B Cause) (old mid new : List PlainEmit)
    → KeepsEvents old mid → made (λ part. mid ++ view part) given ≡ Ok new → KeepsEvents old new
kept-then view given old mid new h e = keeps-through old mid new h (keeps-added view given mid new e)

-- the first part was added, and the second is
pub adds-joined : {A B C X : Type 0} (f : A → B → C) (va : A → List PlainEmit) (vb : B → List PlainEmit)
    (vc : C → List PlainEmit)
    (row : InRow f va vb vc) (first : Result A Cause) (second : Result B Cause) (old mid new : List PlainEmit)
    (r : Result X Cause)
    → made (λ part. old ++ va part) first ≡ Ok mid → Adds vb second mid new r
    → Adds vc (joined f first second) old new r
adds-joined f va vb vc row (Err c) second old mid new r e h = absurd (cc)
adds-joined f va vb vc row (Ok a) second old mid new (Err cause) e h =
    (fails-made (f a) second cause h.0, kept-more va (Ok a) old mid new e h.1)
adds-joined f va vb vc row (Ok a) (Err c) old mid new (Ok x) e h = absurd (cc)
adds-joined f va vb vc row (Ok a) (Ok b) old mid new (Ok x) e h =
    let there : old ++ va a ≡ mid = cc in
    let all : mid ++ vb b ≡ new = cc in
    ap Ok (ap (λ es. old ++ es) (row a b) ∙ (sym (append_assoc old (va a) (vb b))
    ∙ (ap (λ es. es ++ vb b) there ∙ all)))

-- two parts are left to be added of which the first was
pub left-joined : {A B C : Type 0} (f : A → B → C) (va : A → List PlainEmit) (vb : B → List PlainEmit)
    (vc : C → List PlainEmit)
    (row : InRow f va vb vc) (first : Result A Cause) (second : Result B Cause) (old mid : List PlainEmit)
    → made (λ part. old ++ va part) first ≡ Ok mid
    → made (λ part. old ++ vc part) (joined f first second) ≡ made (λ part. mid ++ vb part) second
left-joined f va vb vc row (Err c) second old mid e = absurd (cc)
left-joined f va vb vc row (Ok a) (Err c) old mid e = refl
left-joined f va vb vc row (Ok a) (Ok b) old mid e =
    let there : old ++ va a ≡ mid = cc in
    ap Ok (ap (λ es. old ++ es) (row a b) ∙ (sym (append_assoc old (va a) (vb b)) ∙ ap (λ es. es ++ vb b) there))

-- a start, then parts, then an end
pub adds-between : {A B X : Type 0} (f : A → B) (va : A → List PlainEmit) (vb : B → List PlainEmit)
    (start end : PlainEmit)
    (row : (a : A) → vb (f a) ≡ start ∷ (va a ++ end ∷ [])) (parts : Result A Cause)
    (old begun mid new : List PlainEmit) (r : Result X Cause)
    → made (λ e. old ++ e ∷ []) (Ok start) ≡ Ok begun → made (λ part. begun ++ va part) parts ≡ Ok mid
    → Adds (λ e. e ∷ []) (Ok end) mid new r → Adds vb (made f parts) old new r
adds-between f va vb start end row (Err c) old begun mid new r s e h = absurd (cc)
adds-between f va vb start end row (Ok a) old begun mid new (Err cause) s e h = (
  λ m. absurd (let x = h.0 m in cc),
  kept-more (λ (event : PlainEmit). event ∷ []) (Ok start) old begun new s
      (kept-more va (Ok a) begun mid new e h.1),
)
adds-between f va vb start end row (Ok a) old begun mid new (Ok x) s e h =
    let first : old ++ start ∷ [] ≡ begun = cc in
    let middle : begun ++ va a ≡ mid = cc in
    let last : mid ++ end ∷ [] ≡ new = cc in
    ap Ok (ap (λ es. old ++ es) (row a) ∙ (sym (append_assoc old (start ∷ []) (va a ++ end ∷ []))
    ∙ (ap (λ es. es ++ (va a ++ end ∷ [])) first
    ∙ (sym (append_assoc begun (va a) (end ∷ [])) ∙ (ap (λ es. es ++ end ∷ []) middle ∙ last)))))

-- the rest of the parts is as before but for what was added, and the next is refused
pub fails-left : {A B C D : Type 0} (f : A → B → C) (g : D → List PlainEmit) (h : C → List PlainEmit)
    (all : Result D Cause) (first : Result A Cause) (second : Result B Cause) (cause : Cause)
    → made g all ≡ made h (joined f first second) → Fails cause first → Fails cause all
fails-left f g h all first second cause e r =
    fails-part g all cause (λ m. e ∙ fails-made h (joined f first second) cause (fails-first f first second cause r) m)
