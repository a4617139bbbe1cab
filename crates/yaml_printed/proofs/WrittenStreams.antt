-- A stream of documents that data is written as may be printed.
use Rattle.std.proofs.Common.{suc, false, arith, List, [], ◌∷◌, refl}
use Rattle.std.specs.List.{All}
use Rattle.yaml_base.specs.EmitTree.{EmitNode}
use Rattle.yaml_emit.specs.StreamTexts.{emit_stream_events}
use Rattle.yaml_grammar.specs.Documents.{most_nestings}
use Rattle.yaml_printed.specs.Printable.{FirstIsSomething, MayBePrinted, RootsPrintable, no_roots, a_root}
use Rattle.yaml_printed.specs.WrittenRoots.{IsWrittenRoot}
use Rattle.yaml_printed.proofs.WrittenData.{data_shown}
use Rattle.yaml_printed.proofs.WrittenLeaves.{Shown}
use Rattle.yaml_printed.proofs.WrittenTags.{no_text}

root_shown : (root : EmitNode) → IsWrittenRoot root → Shown most_nestings root
root_shown root w =
    data_shown w.table w.named w.content w.id most_nestings root no_text w.held w.fits.nests_within w.is_written
    (w.fits.whole_tags root w.is_written)

each_shown : (roots : List EmitNode) → All IsWrittenRoot roots → RootsPrintable roots
each_shown [] all = no_roots
each_shown (root ∷ roots) all =
    a_root ((root_shown root (all 0 root (omega arith))).prints false)
    (each_shown roots (λ k d h. all (suc k) d (omega (arith, h))))

first_shown : (roots : List EmitNode) → All IsWrittenRoot roots → FirstIsSomething roots
first_shown [] all = tt
first_shown (root ∷ roots) all = (root_shown root (all 0 root (omega arith))).something

pub may_be_printed : (roots : List EmitNode) → All IsWrittenRoot roots → MayBePrinted (emit_stream_events roots)
may_be_printed roots all =
    record { roots = roots; stream = refl; each = each_shown roots all; first = first_shown roots all }
