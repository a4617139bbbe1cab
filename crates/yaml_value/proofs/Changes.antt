-- Values that are changed under a tag.
use Rattle.std.proofs.Common.{◌≡◌, ◌∙◌, ℕ, suc, List, IfOk, OnErr, Option, Result, Ok, Err, ap, subst, sym}
use Rattle.yaml_value.specs.Change.{Inserts, Removes}
use Rattle.yaml_value.specs.Find.{IsPut, IsTakenOut, get, value_at}
use Rattle.yaml_value.specs.PlainValue.{PlainPairs, PlainValue, mapping, tagged, text}

-- what is put under a tag is so with it
pub inserts_under : {X E : Type 0} (r : Result X E) (k part : PlainValue) (see : X → Option PlainValue)
    (old new : PlainValue) (t : List ℕ) (v w : PlainValue) → old ≡ tagged t v → new ≡ tagged t w
    → IfOk r (λ x. Inserts k part v w (see x)) → IfOk r (λ x. Inserts k part old new (see x))
inserts_under (Ok x) k part see old new t v w is put h =
    subst (λ o. Inserts k part o new (see x)) (sym is) (w, h, put)
inserts_under (Err e) k part see old new t v w is put h = tt

-- what stays under a tag stays
pub stays_under : {X E : Type 0} (r : Result X E) (old new : PlainValue) (t : List ℕ) (v w : PlainValue)
    → old ≡ tagged t v → new ≡ tagged t w → OnErr r (w ≡ v) → OnErr r (new ≡ old)
stays_under (Ok x) old new t v w is put h = tt
stays_under (Err e) old new t v w is put h = put ∙ (ap (tagged t) h ∙ sym is)

-- what is taken out under a tag is so with it
pub removes_under : (k : PlainValue) (answer : Option PlainValue) (old new : PlainValue) (t : List ℕ) (v w : PlainValue)
    → old ≡ tagged t v → new ≡ tagged t w → Removes k v w answer → Removes k old new answer
removes_under k answer old new t v w is put h = subst (λ o. Removes k o new answer) (sym is) (w, h, put)

-- and answered so
pub answers_under : (key : List ℕ) (answer : Option PlainValue) (old : PlainValue) (t : List ℕ) (v : PlainValue)
    → old ≡ tagged t v → answer ≡ get key v → answer ≡ get key old
answers_under key answer old t v is h =
    h ∙ ap (get key) (sym is)

-- how many tags are around a value
abbrev pub tags : PlainValue → ℕ
tags (tagged t v) = suc (tags v)
tags _ = 0

-- ---- what is put into a mapping, and taken out of one
pub inserts_in : {X E : Type 0} (r : Result X E) (k part : PlainValue) (see : X → Option PlainValue)
    (old new : PlainValue) (ps qs : PlainPairs) → old ≡ mapping ps → new ≡ mapping qs
    → IfOk r (λ x. IsPut k part ps qs (see x)) → IfOk r (λ x. Inserts k part old new (see x))
inserts_in (Ok x) k part see old new ps qs is put h =
    subst (λ o. Inserts k part o new (see x)) (sym is) (qs, h, put)
inserts_in (Err e) k part see old new ps qs is put h = tt

pub stays_in : {X E : Type 0} (r : Result X E) (old new : PlainValue) (ps qs : PlainPairs) → old ≡ mapping ps
    → new ≡ mapping qs → OnErr r (qs ≡ ps) → OnErr r (new ≡ old)
stays_in (Ok x) old new ps qs is put h = tt
stays_in (Err e) old new ps qs is put h = put ∙ (ap mapping h ∙ sym is)

pub removes_in : (k : PlainValue) (answer : Option PlainValue) (old new : PlainValue) (ps qs : PlainPairs)
    → old ≡ mapping ps → new ≡ mapping qs → IsTakenOut k ps qs answer → Removes k old new answer
removes_in k answer old new ps qs is put h = subst (λ o. Removes k o new answer) (sym is) (qs, h, put)

pub answers_in : (key : List ℕ) (answer : Option PlainValue) (old : PlainValue) (ps : PlainPairs) → old ≡ mapping ps
    → answer ≡ value_at (text key) ps → answer ≡ get key old
answers_in key answer old ps is h =
    h ∙ ap (get key) (sym is)
