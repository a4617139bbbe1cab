-- A node, in a document of its own or in an open collection.
use Rattle.std.proofs.Common.{arith}
use Rattle.yaml_write.specs.CollectionView.{open_collections}
use Rattle.yaml_write.specs.Content.{content_written}
use Rattle.yaml_write.proofs.PlaceLaws.{adds-alone, adds-inside, length-open_collections}
use Rattle.yaml_write.proofs.all_or_none.write_part.Goals as goal

pub returns-then-not-is_empty : goal.returns-then-not-is_empty
returns-then-not-is_empty c =
    adds-inside (open_collections c.args.opened.now) (content_written c.args.content) c.args.out.now
    c.write_content.new.out c.write_content.result
    (grind (arith, length-open_collections c.args.opened.now)) c.write_content.ensures

pub returns : goal.returns
returns c =
    adds-alone (open_collections c.args.opened.now) (content_written c.args.content) c.args.out.now c.push.new.self
    c.write_content-2.new.out c.push-2.new.self c.push-2.result
    (grind (arith, length-open_collections c.args.opened.now)) c.in_ok-push.ensures.added c.in_ok-write_content.ensures
    c.push-2.ensures.added
