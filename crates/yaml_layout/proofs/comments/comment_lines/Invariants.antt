-- The comments so far, and those of the bytes that are left.
use Rattle.std.proofs.Common.{◌≡◌, ◌++◌, [], drop}
use Rattle.yaml_layout.specs.Comments.{comments_from}
use Rattle.yaml_layout.specs.declared.comments.Place.TheVariants.{Gap}
use Rattle.yaml_layout.proofs.comments.comment_lines.Given as goal

abbrev pub invariant-loop-byte : goal.invariant-loop-byte
invariant-loop-byte l =
    l.lines.items ++ comments_from l.place l.blanks.items (drop l.byte-index l.bytes) ≡ comments_from Gap [] l.bytes
