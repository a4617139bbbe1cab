-- A block's first line that says nothing.
use Rattle.std.proofs.Common.{ℕ, suc, ◌+◌, ◌<◌, ◌≤◌, ◌≡◌, ◌∙◌, ◌∷◌, List, ap, arith, drop, inl, length, refl, subst}
use Rattle.std.proofs.Common.{sym}
use Rattle.yaml_direct.specs.BlockHeads.{IsRemark, ReadsHeader}
use Rattle.yaml_direct.specs.Bytes.{at}
use Rattle.yaml_direct.specs.Places.{no_place}
use Rattle.yaml_direct.specs.declared.header.Chomping.TheVariants.{Clip}
use Rattle.yaml_direct.proofs.HeaderLaws.{spaces_remark}
use Rattle.yaml_direct.proofs.NextLaws.{bytes_are}
use Rattle.yaml_grammar.specs.BlockTexts.{Header, clip, header_of}

says_nothing : (cs : List ℕ) → header_of (10 ∷ cs) ≡ record { chomping = clip; step = 0; size = 0 }
says_nothing cs = refl

pub bare_header : (text : List ℕ) (from : ℕ) → from ≤ length text → length text < no_place → at text from ≡ 10
    → ReadsHeader text from (record { chomping = Clip; step = 0; end = from })
bare_header text from within short feed =
    let none : header_of (drop from text) ≡ record { chomping = clip; step = 0; size = 0 } =
    ap header_of (bytes_are text from 9 feed) ∙ says_nothing (drop (suc from) text) in
    let there : from ≡ from + (header_of (drop from text)).size =
    (let same : from ≡ from + 0 = omega arith in same ∙ ap (λ (h : Header). from + h.size) (sym none)) in
    record {
      chomping = ap (λ (h : Header). h.chomping) (sym none);
      step = ap (λ (h : Header). h.step) (sym none);
      found = λ some. subst (λ k. IsRemark text k from) there
          (spaces_remark text from from (omega arith) within (λ k low high. absurd (omega (arith, low, high)))
          (inl feed));
      missed = λ past. absurd (omega (arith, past, within, short));
    }
