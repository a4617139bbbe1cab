-- What a stream gives, from what its first document gives.
use Rattle.std.proofs.Common.{◌≡◌, List, [], ◌∷◌, ◌++◌, subst, sym, ◌∙◌, ap, Bool, true, false, refl}
use Rattle.std.proofs.Common.{Option, Some, None, is_some, option_to_list, IfNone, Result, Ok, Err}
use Rattle.yaml_base.specs.Answer.{Answers}
use Rattle.yaml_base.specs.PlainDocument.{PlainDocument}
use Rattle.yaml_base.specs.declared.error.Cause.{Cause}
use Rattle.yaml_base.specs.declared.error.Cause.TheVariants.{MoreThanOneDocument}
use Rattle.yaml_shape.specs.PlainData.{PlainData}
use Rattle.yaml_shape.specs.PlainShape.{PlainShape}
use Rattle.yaml_read.specs.Reads.{DocumentGives}
use Rattle.yaml_read.specs.TreeReader.{PlainLimits}
use Rattle.serde_yaml.specs.PlainStream.{PlainStream}
use Rattle.serde_yaml.specs.StreamReads.{IsFirst, RefusesAll, StreamGives, some_follow, unless_more}

pub same_head : {A : Type 0} {x y : A} {xs ys : List A} → x ∷ xs ≡ y ∷ ys → x ≡ y
same_head h = cc

pub same_tail : {A : Type 0} {x y : A} {xs ys : List A} → x ∷ xs ≡ y ∷ ys → xs ≡ ys
same_tail h = cc

-- a statement that follows from another holds of an answer where that one does
pub answers_weaker : {X Y : Type 0} (view : X → Y) (P Q : Result Y Cause → Type 0)
    → ((given : Result Y Cause) → P given → Q given)
    → (result : Result X Cause) → Answers view result P → Answers view result Q
answers_weaker view P Q weaker (Ok x) h = weaker (Ok (view x)) h
answers_weaker view P Q weaker (Err e) h = λ m. weaker (Err e) (h m)

-- one document alone
pub first_alone : {stream view : PlainStream} {document : PlainDocument} → view ≡ stream → view.iterated ≡ false
    → view.documents ≡ document ∷ [] → IsFirst stream document false
first_alone is fresh documents = (
  [],
  record {
    fresh = ap (λ (s : PlainStream). s.iterated) (sym is) ∙ fresh;
    documents = ap (λ (s : PlainStream). s.documents) (sym is) ∙ documents;
  },
  refl,
)

-- others follow where a second document is there
pub follows_second : (second : Option PlainDocument) (left rest : List PlainDocument) → rest ≡ option_to_list second ++ left
    → IfNone second (rest ≡ [])
    → is_some second ≡ some_follow rest
follows_second None left rest items none = sym (ap some_follow none)
follows_second (Some d) left rest items none = sym (ap some_follow items)

-- a stream whose second document was asked for
pub first_of : {stream view : PlainStream} {document : PlainDocument} {rest : List PlainDocument} {others : Bool}
    (second : Option PlainDocument) (left : List PlainDocument) → view ≡ stream → view.iterated ≡ false
    → view.documents ≡ document ∷ rest → rest ≡ option_to_list second ++ left → IfNone second (rest ≡ [])
    → others ≡ is_some second → IsFirst stream document others
first_of {rest} second left is fresh documents items none told = (
  rest,
  record {
    fresh = ap (λ (s : PlainStream). s.iterated) (sym is) ∙ fresh;
    documents = ap (λ (s : PlainStream). s.documents) (sym is) ∙ documents;
  },
  told ∙ follows_second second left rest items none,
)

both : (b : Bool) → b ≡ false → b ≡ true → ⊥
both b e f = let bad = sym e ∙ f in absurd cc

-- what a stream gives that begins so
pub stream_gives : {limits : PlainLimits} {table : List PlainShape} {s : PlainShape} {stream : PlainStream}
    {document : PlainDocument} {more : Bool} → IsFirst stream document more → (given : Result PlainData Cause)
    → (found : Result PlainData Cause) × DocumentGives limits table s document found × (given ≡ unless_more more found)
    → StreamGives limits table s stream given
stream_gives {limits} {table} {s} {stream} {document} {more} first given h =
    let others = first.0 in
    let begins = first.1 in record {
      first = λ other left now.
          let same : document ≡ other = same_head (sym begins.documents ∙ now.documents) in
          let same' : others ≡ left = same_tail (sym begins.documents ∙ now.documents) in (
            h.0,
            subst (λ d. DocumentGives limits table s d h.0) same h.1,
            h.2
                ∙ ap (λ b. unless_more b h.0) (first.2 ∙ ap some_follow same'),
          );
      iterated = λ e. absurd (both stream.iterated begins.fresh e);
    }

-- a stream without documents gives nothing but the fault that it is given
pub none_left : {stream view : PlainStream} (cause : Cause) → view ≡ stream → view.iterated ≡ false
    → view.documents ≡ [] → RefusesAll stream cause
none_left {stream} cause is fresh documents = λ limits table s. record {
  first = λ document others begins.
      let none : [] ≡ document ∷ others = sym documents
      ∙ (ap (λ (s : PlainStream). s.documents) is ∙ begins.documents) in
      absurd (cc);
  iterated = λ e. absurd (both stream.iterated (ap (λ (s : PlainStream). s.iterated) (sym is) ∙ fresh) e);
}

-- a stream that was gone through gives nothing
pub gone_through : {stream : PlainStream} → stream.iterated ≡ true → RefusesAll stream MoreThanOneDocument
gone_through {stream} e = λ limits table s. record {
  first = λ document left begins. absurd (both stream.iterated begins.fresh e);
  iterated = λ h. refl;
}

-- a fault of the first document stays
pub fault_stays : (others : Bool) (fault : Cause) → ◌≡◌ {A = Result PlainData Cause} (Err fault)
    (unless_more others (Err fault))
fault_stays true fault = refl
fault_stays false fault = refl
