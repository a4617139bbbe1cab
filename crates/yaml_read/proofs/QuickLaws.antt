-- Where a tree is known to mean data, its document gives the data.
use Rattle.std.specs.Prelude.{◌≡◌, ◌≤◌}
use Rattle.yaml_read.proofs.Words.{DocNode, Err, IsTreeOf, List, Ok, PlainData, PlainDocument, PlainLimits, PlainShape}
use Rattle.yaml_read.proofs.Words.{Reading, answer_of, arith, reach, refl, sym, ◌∙◌}
use Rattle.yaml_read.proofs.reading.Reaches as reaches
use Rattle.yaml_read.proofs.reading.Whole.{answered, fault_answered, gives_of_exact, read_answer, whole_reading}
use Rattle.yaml_read.specs.QuickReads.{QuickGives}

-- what one tree of a document answers, each does
same_answer : (limits : PlainLimits) (table : List PlainShape) (s : PlainShape) (document : PlainDocument)
    (root : DocNode) (v : PlainData) → IsTreeOf document root → answer_of limits table s document root ≡ Ok v
    → (other : DocNode) → IsTreeOf document other → Ok v ≡ answer_of limits table s document other
same_answer limits table s document root v is h other tree = by (whole_reading limits table document s) refl
  where
    by : (r : Reading PlainData) → whole_reading limits table document s ≡ r
        → Ok v ≡ answer_of limits table s document other
    by (Ok (w, next)) e =
        sym h ∙ (sym (answered limits table s document w next e root is)
        ∙ answered limits table s document w next e other tree)
    by (Err y) e = let bad = fault_answered limits table s document y e root is ∙ h in absurd cc

pub quick_gives : QuickGives
quick_gives limits table id s document root v d ends at is means within =
    let low : reach table s ≤ 4096 = reaches.low table ends.small ends.falls id s at in
    let there : answer_of limits table s document root ≡ Ok v =
    read_answer limits table s document ends.small ends.falls low root v (record {
      nestings = d;
      followed = 0;
      means = means;
      nests_within = within;
      follows_within = omega arith;
    }) in
    gives_of_exact limits table s document ends.small ends.falls low (Ok v) is.whole (λ fault e. absurd cc)
    (same_answer limits table s document root v is there)
