-- A line says one thing: no text is read in two ways.
use Rattle.std.specs.Prelude.{Option, None, Some, ◌==◌, if◌then◌else◌}
use Rattle.std.proofs.Common.{◌≡◌, ℕ, List, [], ◌∷◌, ◌++◌, sym, ap, ◌∙◌, subst, get_or, drop, refl, lit≤}
use Rattle.yaml_base.specs.Position.{Position}
use Rattle.yaml_base.specs.PlainEvent.{PlainScalar, PlainEvent, stream_start, stream_end, document_start}
use Rattle.yaml_base.specs.PlainEvent.{document_end, alias, scalar, sequence_start, sequence_end, mapping_start}
use Rattle.yaml_base.specs.PlainEvent.{mapping_end}
use Rattle.yaml_base.specs.PlainFault.{PlainFault}
use Rattle.yaml_base.specs.declared.event.ScalarStyle.{ScalarStyle}
use Rattle.yaml_base.specs.declared.event.ScalarStyle.TheVariants.{Plain, SingleQuoted, DoubleQuoted, Literal, Folded}
use Rattle.yaml_base.specs.declared.fault.FaultKind.{FaultKind}
use Rattle.yaml_base.specs.declared.fault.FaultKind.TheVariants.{Memory, Reader, Scanner, Parser, Composer, Writer}
use Rattle.yaml_base.specs.declared.fault.FaultKind.TheVariants.{Emitter, Other}
use Rattle.yaml_lines.specs.Escape.{Spells}
use Rattle.yaml_lines.specs.EventText.{IsAnchorName, HasAnchor, HasTag, HasProperties, style_byte, IsStyledText}
use Rattle.yaml_lines.specs.EventText.{IsScalarText, IsEventText}
use Rattle.yaml_lines.specs.SpelledFault.{kind_name, IsSpelledFault}
use Rattle.yaml_lines.specs.LineText.{Said, says_event, says_fault, IsSaid, IsLine}
use Rattle.yaml_lines.specs.Place.{HasNumber}
use Rattle.yaml_lines.proofs.CutLaws.{cut-unique, break-unique}
use Rattle.yaml_lines.proofs.EscapeLaws.{Spells-unique}
use Rattle.yaml_lines.proofs.EventLaws.{behind_anchor-unique, behind-unique}
use Rattle.yaml_lines.proofs.FaultLaws.{kind_and_rest, kind_spaceless}
use Rattle.yaml_lines.proofs.PlaceLaws.{HasNumber-unique, IsMarked-unique}
use Rattle.yaml_lines.proofs.WordLaws.{unlike, no_event_at_fault}

-- the same name is the same anchor
anchor_name-unique : (name other a b : List ℕ) → name ≡ other → IsAnchorName name a → IsAnchorName other b → a ≡ b
anchor_name-unique name other a b e f g = Spells-unique name a b f.spelled (subst (λ n. Spells n b) (sym e) g.spelled)

anchor-unique : (text : List ℕ) (a b : Option (List ℕ)) (r s : List ℕ) → HasAnchor text a r → HasAnchor text b s → a ≡ b
anchor-unique text None None r s f g = refl
anchor-unique text None (Some b) r s f g = absurd (f.1 (g.0 ++ s) g.1)
anchor-unique text (Some a) None r s f g = absurd (g.1 (f.0 ++ r) f.1)
anchor-unique text (Some a) (Some b) r s f g =
    let u = break-unique f.0 g.0 r s f.2.unspaced g.2.unspaced f.3 g.3
    (ap (λ (t : List ℕ). drop 2 t) (sym f.1 ∙ g.1)) in
    ap Some (anchor_name-unique f.0 g.0 a b u.0 f.2 g.2)

tag-unique : (text : List ℕ) (a b : Option (List ℕ)) (r s : List ℕ) → HasTag text a r → HasTag text b s → a ≡ b
tag-unique text None None r s f g = refl
tag-unique text None (Some b) r s f g = absurd (f.1 (g.0 ++ 62 ∷ s) g.1)
tag-unique text (Some a) None r s f g = absurd (g.1 (f.0 ++ 62 ∷ r) f.1)
tag-unique text (Some a) (Some b) r s f g =
    let u = cut-unique 62 f.0 g.0 r s f.2.closed g.2.closed (ap (λ (t : List ℕ). drop 2 t) (sym f.1 ∙ g.1)) in
    ap Some (Spells-unique f.0 a b f.2.spelled (subst (λ n. Spells n b) (sym u.0) g.2.spelled))

HasProperties-unique : (text : List ℕ) (a b t u : Option (List ℕ)) (r s : List ℕ) → HasProperties text a t r
    → HasProperties text b u s → (a ≡ b) × (t ≡ u)
HasProperties-unique text a b t u r s f g =
    let e = behind_anchor-unique text a b f.behind_anchor g.behind_anchor f.has_anchor g.has_anchor in (
      anchor-unique text a b f.behind_anchor g.behind_anchor f.has_anchor g.has_anchor,
      tag-unique f.behind_anchor t u r s f.has_tag (subst (λ x. HasTag x u s) (sym e) g.has_tag),
    )

-- a style by its byte
abbrev style_at : ℕ → ScalarStyle
style_at byte =
    if byte == 58 then Plain else if byte == 39 then SingleQuoted else if byte == 34 then DoubleQuoted else if byte ==
    124 then Literal else Folded

style_at-byte : (style : ScalarStyle) → style_at (style_byte style) ≡ style
style_at-byte Plain = refl
style_at-byte SingleQuoted = refl
style_at-byte DoubleQuoted = refl
style_at-byte Literal = refl
style_at-byte Folded = refl

content-unique : (text : List ℕ) (a b : ScalarStyle) (v w : List ℕ) → IsStyledText text a v → IsStyledText text b w
    → (a ≡ b)
    × (v ≡ w)
content-unique text a b v w f g =
    let e = sym f.1 ∙ g.1 in
    let same : style_byte a ≡ style_byte b = ap (λ (l : List ℕ). get_or l 1 0) e in (
      sym (style_at-byte a) ∙ (ap style_at same ∙ style_at-byte b),
      Spells-unique f.0 v w f.2 (subst (λ t. Spells t w) (ap (λ (l : List ℕ). drop 2 l) (sym e)) g.2),
    )

IsScalarText-unique : (text : List ℕ) (a b : PlainScalar) → IsScalarText text a → IsScalarText text b → a ≡ b
IsScalarText-unique text a b f g =
    let p = HasProperties-unique text a.anchor b.anchor a.tag b.tag f.behind_tag g.behind_tag f.has_properties
    g.has_properties in
    let rest = behind-unique text a.anchor b.anchor a.tag b.tag f.behind_tag g.behind_tag f.has_properties
    g.has_properties in
    let c = content-unique f.behind_tag a.style b.style a.text b.text f.is_content
    (subst (λ t. IsStyledText t b.style b.text) (sym rest) g.is_content) in
    same_scalar a b p.0 p.1 c.1 c.0 (f.no_source ∙ sym g.no_source) where
      same_scalar : (p q : PlainScalar) → p.anchor ≡ q.anchor → p.tag ≡ q.tag → p.text ≡ q.text → p.style ≡ q.style
          → p.source ≡ q.source → p ≡ q
      same_scalar p q a t x s r =
          let make : Option (List ℕ) → Option (List ℕ) → List ℕ → ScalarStyle → Option (List ℕ) → PlainScalar =
          λ anchor tag text style source. record {
            anchor = anchor;
            tag = tag;
            text = text;
            style = style;
            source = source;
          } in
          ap (λ y. make y p.tag p.text p.style p.source) a
          ∙ (ap (λ y. make q.anchor y p.text p.style p.source) t ∙ (ap (λ y. make q.anchor q.tag y p.style p.source) x
          ∙ (ap (λ y. make q.anchor q.tag q.text y p.source) s ∙ ap (λ y. make q.anchor q.tag q.text q.style y) r)))

-- an event
IsEventText-unique : (text : List ℕ) (a b : PlainEvent) → IsEventText text a → IsEventText text b → a ≡ b
IsEventText-unique text stream_start stream_start f g = refl
IsEventText-unique text stream_start stream_end f g = absurd (unlike 0 (sym f ∙ g) refl)
IsEventText-unique text stream_start document_start f g = absurd (unlike 1 (sym f ∙ g) refl)
IsEventText-unique text stream_start document_end f g = absurd (unlike 0 (sym f ∙ g) refl)
IsEventText-unique text stream_start (alias b) f g = absurd (unlike 0 (sym f ∙ g.1) refl)
IsEventText-unique text stream_start (scalar b) f g = absurd (unlike 0 (sym f ∙ g.1) refl)
IsEventText-unique text stream_start (sequence_start b u) f g = absurd (unlike 2 (sym f ∙ g.1) refl)
IsEventText-unique text stream_start sequence_end f g = absurd (unlike 0 (sym f ∙ g) refl)
IsEventText-unique text stream_start (mapping_start b u) f g = absurd (unlike 1 (sym f ∙ g.1) refl)
IsEventText-unique text stream_start mapping_end f g = absurd (unlike 0 (sym f ∙ g) refl)
IsEventText-unique text stream_end stream_start f g = absurd (unlike 0 (sym f ∙ g) refl)
IsEventText-unique text stream_end stream_end f g = refl
IsEventText-unique text stream_end document_start f g = absurd (unlike 0 (sym f ∙ g) refl)
IsEventText-unique text stream_end document_end f g = absurd (unlike 1 (sym f ∙ g) refl)
IsEventText-unique text stream_end (alias b) f g = absurd (unlike 0 (sym f ∙ g.1) refl)
IsEventText-unique text stream_end (scalar b) f g = absurd (unlike 0 (sym f ∙ g.1) refl)
IsEventText-unique text stream_end (sequence_start b u) f g = absurd (unlike 0 (sym f ∙ g.1) refl)
IsEventText-unique text stream_end sequence_end f g = absurd (unlike 2 (sym f ∙ g) refl)
IsEventText-unique text stream_end (mapping_start b u) f g = absurd (unlike 0 (sym f ∙ g.1) refl)
IsEventText-unique text stream_end mapping_end f g = absurd (unlike 1 (sym f ∙ g) refl)
IsEventText-unique text document_start stream_start f g = absurd (unlike 1 (sym f ∙ g) refl)
IsEventText-unique text document_start stream_end f g = absurd (unlike 0 (sym f ∙ g) refl)
IsEventText-unique text document_start document_start f g = refl
IsEventText-unique text document_start document_end f g = absurd (unlike 0 (sym f ∙ g) refl)
IsEventText-unique text document_start (alias b) f g = absurd (unlike 0 (sym f ∙ g.1) refl)
IsEventText-unique text document_start (scalar b) f g = absurd (unlike 0 (sym f ∙ g.1) refl)
IsEventText-unique text document_start (sequence_start b u) f g = absurd (unlike 1 (sym f ∙ g.1) refl)
IsEventText-unique text document_start sequence_end f g = absurd (unlike 0 (sym f ∙ g) refl)
IsEventText-unique text document_start (mapping_start b u) f g = absurd (unlike 1 (sym f ∙ g.1) refl)
IsEventText-unique text document_start mapping_end f g = absurd (unlike 0 (sym f ∙ g) refl)
IsEventText-unique text document_end stream_start f g = absurd (unlike 0 (sym f ∙ g) refl)
IsEventText-unique text document_end stream_end f g = absurd (unlike 1 (sym f ∙ g) refl)
IsEventText-unique text document_end document_start f g = absurd (unlike 0 (sym f ∙ g) refl)
IsEventText-unique text document_end document_end f g = refl
IsEventText-unique text document_end (alias b) f g = absurd (unlike 0 (sym f ∙ g.1) refl)
IsEventText-unique text document_end (scalar b) f g = absurd (unlike 0 (sym f ∙ g.1) refl)
IsEventText-unique text document_end (sequence_start b u) f g = absurd (unlike 0 (sym f ∙ g.1) refl)
IsEventText-unique text document_end sequence_end f g = absurd (unlike 1 (sym f ∙ g) refl)
IsEventText-unique text document_end (mapping_start b u) f g = absurd (unlike 0 (sym f ∙ g.1) refl)
IsEventText-unique text document_end mapping_end f g = absurd (unlike 1 (sym f ∙ g) refl)
IsEventText-unique text (alias a) stream_start f g = absurd (unlike 0 (sym f.1 ∙ g) refl)
IsEventText-unique text (alias a) stream_end f g = absurd (unlike 0 (sym f.1 ∙ g) refl)
IsEventText-unique text (alias a) document_start f g = absurd (unlike 0 (sym f.1 ∙ g) refl)
IsEventText-unique text (alias a) document_end f g = absurd (unlike 0 (sym f.1 ∙ g) refl)
IsEventText-unique text (alias a) (alias b) f g =
    ap alias (anchor_name-unique f.0 g.0 a b (ap (λ (l : List ℕ). drop 6 l) (sym f.1 ∙ g.1)) f.2 g.2)
IsEventText-unique text (alias a) (scalar b) f g = absurd (unlike 1 (sym f.1 ∙ g.1) refl)
IsEventText-unique text (alias a) (sequence_start b u) f g = absurd (unlike 0 (sym f.1 ∙ g.1) refl)
IsEventText-unique text (alias a) sequence_end f g = absurd (unlike 0 (sym f.1 ∙ g) refl)
IsEventText-unique text (alias a) (mapping_start b u) f g = absurd (unlike 0 (sym f.1 ∙ g.1) refl)
IsEventText-unique text (alias a) mapping_end f g = absurd (unlike 0 (sym f.1 ∙ g) refl)
IsEventText-unique text (scalar a) stream_start f g = absurd (unlike 0 (sym f.1 ∙ g) refl)
IsEventText-unique text (scalar a) stream_end f g = absurd (unlike 0 (sym f.1 ∙ g) refl)
IsEventText-unique text (scalar a) document_start f g = absurd (unlike 0 (sym f.1 ∙ g) refl)
IsEventText-unique text (scalar a) document_end f g = absurd (unlike 0 (sym f.1 ∙ g) refl)
IsEventText-unique text (scalar a) (alias b) f g = absurd (unlike 1 (sym f.1 ∙ g.1) refl)
IsEventText-unique text (scalar a) (scalar b) f g =
    ap scalar (IsScalarText-unique f.0 a b f.2 (subst (λ t. IsScalarText t b)
    (ap (λ (l : List ℕ). drop 4 l) (sym g.1 ∙ f.1)) g.2))
IsEventText-unique text (scalar a) (sequence_start b u) f g = absurd (unlike 0 (sym f.1 ∙ g.1) refl)
IsEventText-unique text (scalar a) sequence_end f g = absurd (unlike 0 (sym f.1 ∙ g) refl)
IsEventText-unique text (scalar a) (mapping_start b u) f g = absurd (unlike 0 (sym f.1 ∙ g.1) refl)
IsEventText-unique text (scalar a) mapping_end f g = absurd (unlike 0 (sym f.1 ∙ g) refl)
IsEventText-unique text (sequence_start a t) stream_start f g = absurd (unlike 2 (sym f.1 ∙ g) refl)
IsEventText-unique text (sequence_start a t) stream_end f g = absurd (unlike 0 (sym f.1 ∙ g) refl)
IsEventText-unique text (sequence_start a t) document_start f g = absurd (unlike 1 (sym f.1 ∙ g) refl)
IsEventText-unique text (sequence_start a t) document_end f g = absurd (unlike 0 (sym f.1 ∙ g) refl)
IsEventText-unique text (sequence_start a t) (alias b) f g = absurd (unlike 0 (sym f.1 ∙ g.1) refl)
IsEventText-unique text (sequence_start a t) (scalar b) f g = absurd (unlike 0 (sym f.1 ∙ g.1) refl)
IsEventText-unique text (sequence_start a t) (sequence_start b u) f g =
    let p = HasProperties-unique f.0 a b t u [] [] f.2
    (subst (λ s. HasProperties s b u []) (ap (λ (l : List ℕ). drop 4 l) (sym g.1 ∙ f.1)) g.2) in
    ap (λ x. sequence_start x t) p.0 ∙ ap (λ x. sequence_start b x) p.1
IsEventText-unique text (sequence_start a t) sequence_end f g = absurd (unlike 0 (sym f.1 ∙ g) refl)
IsEventText-unique text (sequence_start a t) (mapping_start b u) f g = absurd (unlike 1 (sym f.1 ∙ g.1) refl)
IsEventText-unique text (sequence_start a t) mapping_end f g = absurd (unlike 0 (sym f.1 ∙ g) refl)
IsEventText-unique text sequence_end stream_start f g = absurd (unlike 0 (sym f ∙ g) refl)
IsEventText-unique text sequence_end stream_end f g = absurd (unlike 2 (sym f ∙ g) refl)
IsEventText-unique text sequence_end document_start f g = absurd (unlike 0 (sym f ∙ g) refl)
IsEventText-unique text sequence_end document_end f g = absurd (unlike 1 (sym f ∙ g) refl)
IsEventText-unique text sequence_end (alias b) f g = absurd (unlike 0 (sym f ∙ g.1) refl)
IsEventText-unique text sequence_end (scalar b) f g = absurd (unlike 0 (sym f ∙ g.1) refl)
IsEventText-unique text sequence_end (sequence_start b u) f g = absurd (unlike 0 (sym f ∙ g.1) refl)
IsEventText-unique text sequence_end sequence_end f g = refl
IsEventText-unique text sequence_end (mapping_start b u) f g = absurd (unlike 0 (sym f ∙ g.1) refl)
IsEventText-unique text sequence_end mapping_end f g = absurd (unlike 1 (sym f ∙ g) refl)
IsEventText-unique text (mapping_start a t) stream_start f g = absurd (unlike 1 (sym f.1 ∙ g) refl)
IsEventText-unique text (mapping_start a t) stream_end f g = absurd (unlike 0 (sym f.1 ∙ g) refl)
IsEventText-unique text (mapping_start a t) document_start f g = absurd (unlike 1 (sym f.1 ∙ g) refl)
IsEventText-unique text (mapping_start a t) document_end f g = absurd (unlike 0 (sym f.1 ∙ g) refl)
IsEventText-unique text (mapping_start a t) (alias b) f g = absurd (unlike 0 (sym f.1 ∙ g.1) refl)
IsEventText-unique text (mapping_start a t) (scalar b) f g = absurd (unlike 0 (sym f.1 ∙ g.1) refl)
IsEventText-unique text (mapping_start a t) (sequence_start b u) f g = absurd (unlike 1 (sym f.1 ∙ g.1) refl)
IsEventText-unique text (mapping_start a t) sequence_end f g = absurd (unlike 0 (sym f.1 ∙ g) refl)
IsEventText-unique text (mapping_start a t) (mapping_start b u) f g =
    let p = HasProperties-unique f.0 a b t u [] [] f.2
    (subst (λ s. HasProperties s b u []) (ap (λ (l : List ℕ). drop 4 l) (sym g.1 ∙ f.1)) g.2) in
    ap (λ x. mapping_start x t) p.0 ∙ ap (λ x. mapping_start b x) p.1
IsEventText-unique text (mapping_start a t) mapping_end f g = absurd (unlike 0 (sym f.1 ∙ g) refl)
IsEventText-unique text mapping_end stream_start f g = absurd (unlike 0 (sym f ∙ g) refl)
IsEventText-unique text mapping_end stream_end f g = absurd (unlike 1 (sym f ∙ g) refl)
IsEventText-unique text mapping_end document_start f g = absurd (unlike 0 (sym f ∙ g) refl)
IsEventText-unique text mapping_end document_end f g = absurd (unlike 1 (sym f ∙ g) refl)
IsEventText-unique text mapping_end (alias b) f g = absurd (unlike 0 (sym f ∙ g.1) refl)
IsEventText-unique text mapping_end (scalar b) f g = absurd (unlike 0 (sym f ∙ g.1) refl)
IsEventText-unique text mapping_end (sequence_start b u) f g = absurd (unlike 0 (sym f ∙ g.1) refl)
IsEventText-unique text mapping_end sequence_end f g = absurd (unlike 1 (sym f ∙ g) refl)
IsEventText-unique text mapping_end (mapping_start b u) f g = absurd (unlike 0 (sym f ∙ g.1) refl)
IsEventText-unique text mapping_end mapping_end f g = refl

-- a kind by its first letter
abbrev kind_at : ℕ → FaultKind
kind_at byte =
    if byte == 77 then Memory else if byte == 82 then Reader else if byte == 83 then Scanner else if byte == 80 then
    Parser
    else if byte == 67 then Composer else if byte == 87 then Writer else if byte == 69 then Emitter else Other

kind_at-name : (kind : FaultKind) → kind_at (get_or (kind_name kind) 0 0) ≡ kind
kind_at-name Memory = refl
kind_at-name Reader = refl
kind_at-name Scanner = refl
kind_at-name Parser = refl
kind_at-name Composer = refl
kind_at-name Writer = refl
kind_at-name Emitter = refl
kind_at-name Other = refl

-- a fault, at its mark
IsSpelledFault-unique : (text : List ℕ) (a b : PlainFault) → a.mark ≡ b.mark → IsSpelledFault text a
    → IsSpelledFault text b
    → a ≡ b
IsSpelledFault-unique text a b m f g =
    let u = kind_and_rest text (kind_name b.kind) g.behind_kind g.split (kind_spaceless b.kind) a f in
    let kind : a.kind ≡ b.kind = sym (kind_at-name a.kind)
    ∙ (ap (λ (n : List ℕ). kind_at (get_or n 0 0)) u.0 ∙ kind_at-name b.kind) in
    let offset = HasNumber-unique f.behind_kind 32 a.offset b.offset f.behind_offset g.behind_offset
    (lit≤ tt) f.has_offset
    (subst (λ t. HasNumber t 32 b.offset g.behind_offset) (sym u.1) g.has_offset) in
    let problem = Spells-unique f.behind_offset a.problem b.problem f.spelled
    (subst (λ t. Spells t b.problem) (sym offset.1) g.spelled) in
    same_fault a b kind problem offset.0 m (f.no_context ∙ sym g.no_context) (f.same_mark ∙ (m ∙ sym g.same_mark)) where
      same_fault : (p q : PlainFault) → p.kind ≡ q.kind → p.problem ≡ q.problem → p.offset ≡ q.offset → p.mark ≡ q.mark
          → p.context ≡ q.context → p.context_mark ≡ q.context_mark → p ≡ q
      same_fault p q k x o m c n =
          let make : FaultKind → List ℕ → ℕ → Position → Option (List ℕ) → Position → PlainFault =
          λ kind problem offset mark context context_mark.
          record {
            kind = kind;
            problem = problem;
            offset = offset;
            mark = mark;
            context = context;
            context_mark = context_mark;
          } in
          ap (λ y. make y p.problem p.offset p.mark p.context p.context_mark) k
          ∙ (ap (λ y. make q.kind y p.offset p.mark p.context p.context_mark) x
          ∙ (ap (λ y. make q.kind q.problem y p.mark p.context p.context_mark) o
          ∙ (ap (λ y. make q.kind q.problem q.offset y p.context p.context_mark) m
          ∙ (ap (λ y. make q.kind q.problem q.offset q.mark y p.context_mark) c
          ∙ ap (λ y. make q.kind q.problem q.offset q.mark q.context y) n))))

-- what stands behind a mark
IsSaid-unique : (text : List ℕ) (mark : Position) (a b : Said) → IsSaid text mark a → IsSaid text mark b → a ≡ b
IsSaid-unique text mark (says_event e p) (says_event f q) x y =
    ap (λ z. says_event z p) (IsEventText-unique text e f x.1 y.1) ∙ ap (λ z. says_event f z) (x.0 ∙ sym y.0)
IsSaid-unique text mark (says_event e p) (says_fault f) x y = absurd (no_event_at_fault text y.1 y.2 e x.1)
IsSaid-unique text mark (says_fault f) (says_event e p) x y = absurd (no_event_at_fault text x.1 x.2 e y.1)
IsSaid-unique text mark (says_fault f) (says_fault g) x y =
    ap says_fault (IsSpelledFault-unique x.1 f g (x.0 ∙ sym y.0) x.3
    (subst (λ t. IsSpelledFault t g) (ap (λ (l : List ℕ). drop 5 l) (sym y.2 ∙ x.2)) y.3))

-- a line says one thing
pub IsLine-unique : (line : List ℕ) (a b : Said) → IsLine line a → IsLine line b → a ≡ b
IsLine-unique line a b f g =
    let u = IsMarked-unique line g.mark f.mark g.text f.text g.is_marked f.is_marked in
    IsSaid-unique f.text f.mark a b f.is_said (subst (λ t. IsSaid t f.mark b) u.1
    (subst (λ p. IsSaid g.text p b) u.0 g.is_said))
