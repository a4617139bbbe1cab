-- Places amid a line, and parts up to a place where one may begin.
use Rattle.std.proofs.Common.{ℕ, ◌+◌, ◌<◌, ◌≤◌, ◌≡◌, ◌≢◌, ◌⊎◌, true, false, List, Some}
use Rattle.std.proofs.Common.{sym, subst, ◌∙◌, arith, inl, inr, refl}
use Rattle.yaml_direct.specs.Gaps.{begins_token}
use Rattle.yaml_direct.specs.InBrackets.{IsFlowElement, closing_of}
use Rattle.yaml_direct.specs.LeftInBrackets.{LeavesParts}
use Rattle.yaml_direct.specs.Tokens.{IsAmidLine}
use Rattle.yaml_direct.specs.declared.flow.Slot.{Slot}
use Rattle.yaml_direct.specs.declared.flow.Slot.TheVariants.{Entry, Item, Value}
use Rattle.yaml_direct.specs.declared.reader.Reader.{Reader}
use Rattle.yaml_direct.proofs.BracketLeft.{parts_on}
use Rattle.yaml_direct.proofs.CountedLaws.{amid_here}
use Rattle.yaml_grammar.specs.Brackets.{part_after}
use Rattle.yaml_grammar.specs.Bytes.{at, is_over}
use Rattle.yaml_grammar.specs.Nodes.{Marked}
use Rattle.yaml_reading.proofs.Options.{same_some}

-- behind a byte of ASCII that ends no line
pub byte_amid : (r : Reader) (i c : ℕ) → r.line_start ≤ i → at r.text.now i ≡ c → c < 128 → c ≢ 10 → c ≢ 13
    → IsAmidLine r (i + 1)
byte_amid r i c low e few feed return =
    amid_here r i low (omega (arith, e, few)) (λ f. feed (sym e ∙ f)) (λ f. return (sym e ∙ f))

pub colon_amid : (r : Reader) (i : ℕ) → r.line_start ≤ i → at r.text.now i ≡ 58 → IsAmidLine r (i + 1)
colon_amid r i low e = byte_amid r i 58 low e (omega arith) (λ f. omega (arith, f)) (λ f. omega (arith, f))

-- where the parts stand up to a place, and one may begin there
pub record PartsStand (text : List ℕ) (slot : Slot) (d from i : ℕ) : Type 0 where
  pub token : begins_token text i ≡ true
  pub over : is_over text i ≡ false
  pub left : LeavesParts text slot d i → LeavesParts text slot d from

pub parts_begin : (text : List ℕ) (slot : Slot) (d i j : ℕ) → j ≡ i → begins_token text j ≡ true
    → is_over text j ≡ false → PartsStand text slot d i j
parts_begin text slot d i j there token over = record {
  token = token;
  over = over;
  left = λ l. subst (λ k. LeavesParts text slot d k) there l;
}

pub parts_next : (text : List ℕ) (slot : Slot) (d from i k j : ℕ) (es : List Marked) → at text i ≢ closing_of slot
    → IsFlowElement text slot d i k es → PartsStand text slot d from i
    → part_after text (closing_of slot) k ≡ Some j → begins_token text j ≡ true → is_over text j ≡ false
    → PartsStand text slot d from j
parts_next text slot d from i k j es other x s after token over = record {
  token = token;
  over = over;
  left = λ l. s.left (parts_on text slot d i k es other x
      (λ q h. subst (λ p. LeavesParts text slot d p) (same_some j q (sym after ∙ h)) l));
}

pub closing_byte : (slot : Slot) (c : ℕ) → slot ≢ Value → c ≡ closing_of slot → (c ≡ 93) ⊎ (c ≡ 125)
closing_byte Item c some e = inl e
closing_byte Entry c some e = inr e
closing_byte Value c some e = absurd (some refl)
