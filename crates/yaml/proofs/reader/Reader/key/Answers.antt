-- Where nothing but the tag is asked for, it is taken.
use Rattle.yaml.specs.Around.{standing}
use Rattle.yaml.proofs.NameLaws.{picked_mark}
use Rattle.yaml.proofs.reader.Reader.key.Goals as goal

pub returns-then-asks_for_tag : goal.returns-then-asks_for_tag
returns-then-asks_for_tag c =
    picked_mark (standing c.args.self.now) _ c.args.names.now (c.asks_for_tag.ensures c.if-asks_for_tag.true)
    c.in_ok-enter_tag.ensures
