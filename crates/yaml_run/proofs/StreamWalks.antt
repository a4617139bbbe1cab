-- Going through the documents of a stream.
use Rattle.std.specs.Prelude.{if◌then◌else◌}
use Rattle.std.proofs.Common.{◌≡◌, Bool, false, List, [], ◌∷◌, map, sym, ap, ◌∙◌}
use Rattle.yaml_base.specs.PlainDocument.{PlainDocument}
use Rattle.serde_yaml.specs.PlainStream.{PlainStream, document_alone, items_left}

-- a stream has these documents left, of which this holds
pub record Leaves (P : List PlainDocument → Type 0) (stream : PlainStream) : Type 0 where
  pub left : List PlainDocument
  pub items : items_left stream ≡ map document_alone left
  pub holds : P left

-- at first all of them are left
pub leaves-all : (P : List PlainDocument → Type 0) (stream : PlainStream) → stream.is_document ≡ false
    → P stream.documents → Leaves P stream
leaves-all P stream many p = record {
  left = stream.documents;
  items = ap (λ (alone : Bool). if alone then [] else map document_alone stream.documents) many;
  holds = p;
}

-- the first of two lists that are equal is the same, and so are the others
first_same : (a b : PlainStream) (xs ys : List PlainStream) → a ∷ xs ≡ b ∷ ys → a ≡ b
first_same a b xs ys e = ap (λ (l : List PlainStream). first_or a l) e
  where
    first_or : PlainStream → List PlainStream → PlainStream
    first_or d [] = d
    first_or d (x ∷ others) = x

others_same : (a b : PlainStream) (xs ys : List PlainStream) → a ∷ xs ≡ b ∷ ys → xs ≡ ys
others_same a b xs ys e = ap (λ (l : List PlainStream). others_of l) e
  where
    others_of : List PlainStream → List PlainStream
    others_of [] = []
    others_of (x ∷ others) = others

leaves-next-of : (P Q : List PlainDocument → Type 0) (given : PlainStream) (items : List PlainStream)
    (new : PlainStream) (left : List PlainDocument) → items ≡ map document_alone left → items ≡ given ∷ items_left new
    → ((d : PlainDocument) (ds : List PlainDocument) → given ≡ document_alone d → P (d ∷ ds) → Q ds) → P left
    → Leaves Q new
leaves-next-of P Q given items new [] are steps f p = let none = sym are ∙ steps in absurd cc
leaves-next-of P Q given items new (d ∷ ds) are steps f p =
    let same = sym steps ∙ are in
    record {
      left = ds;
      items = others_same given (document_alone d) (items_left new) (map document_alone ds) same;
      holds = f d ds (first_same given (document_alone d) (items_left new) (map document_alone ds) same) p;
    }

-- a step takes the first of them
pub leaves-next : (P Q : List PlainDocument → Type 0) (given old new : PlainStream)
    → items_left old ≡ given ∷ items_left new
    → ((d : PlainDocument) (ds : List PlainDocument) → given ≡ document_alone d → P (d ∷ ds) → Q ds) → Leaves P old
    → Leaves Q new
leaves-next P Q given old new steps f l = leaves-next-of P Q given (items_left old) new l.left l.items steps f l.holds

none_left : (P : List PlainDocument → Type 0) (left : List PlainDocument) → [] ≡ map document_alone left → P left → P []
none_left P [] e p = p
none_left P (d ∷ ds) e p = absurd cc

-- where nothing is left, it holds of no documents
pub leaves-none : (P : List PlainDocument → Type 0) (stream : PlainStream) → items_left stream ≡ [] → Leaves P stream
    → P []
leaves-none P stream none l = none_left P l.left (sym none ∙ l.items) l.holds
