-- What a document gives whose tree is known to mean data.
use Rattle.std.specs.Prelude.{◌≡◌, ◌≤◌, ◌<◌, ℕ, List, Some, Ok, false}
use Rattle.yaml_base.specs.DocTree.{DocNode}
use Rattle.yaml_base.specs.PlainDocument.{PlainDocument}
use Rattle.yaml_meaning.specs.Meaning.{Means}
use Rattle.yaml_read.specs.Reads.{DocumentGives, IsTreeOf}
use Rattle.yaml_read.specs.TreeReader.{PlainLimits}
use Rattle.yaml_shape.specs.PlainData.{PlainData}
use Rattle.yaml_shape.specs.PlainShape.{PlainShape, option_shape, shape_at}
use Rattle.yaml_shape.specs.Walks.{rank}

-- walks through the optionals of a table end, as `Schema::optionals_end` has it
pub record OptionalsEnd (table : List PlainShape) : Type 0 where
  pub small : (id : ℕ) → rank table id ≤ 4096
  pub falls : (id content : ℕ) → shape_at table id ≡ Some (option_shape content)
      → rank table content < rank table id

-- a document of which one tree means data within the limits, with no follow, gives it
abbrev pub QuickGives : Type 0
QuickGives = (limits : PlainLimits) (table : List PlainShape) (id : ℕ) (s : PlainShape) (document : PlainDocument)
    (root : DocNode) (v : PlainData) (d : ℕ) → OptionalsEnd table → shape_at table id ≡ Some s → IsTreeOf document root
    → Means table root s root false v d 0 → d ≤ limits.nesting → DocumentGives limits table s document (Ok v)
