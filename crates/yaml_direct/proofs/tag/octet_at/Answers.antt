-- Two digits.
use Rattle.std.proofs.Common.{◌∙◌, ap}
use Rattle.std.specs.Char.{digit_value}
use Rattle.yaml_direct.proofs.TagLaws.{octet_read}
use Rattle.yaml_direct.proofs.tag.octet_at.Goals as goal

pub returns-clause-read : goal.returns-clause-read
returns-clause-read c =
    octet_read c.args.text.now c.args.place c.in_ok-first.first c.in_ok-second.second
    (c.in_ok-first.ensures.0 ∙ ap digit_value c.at.ensures.value) c.in_ok-first.ensures.1
    (c.in_ok-second.ensures.0 ∙ ap digit_value c.at-2.ensures.value) c.in_ok-second.ensures.1
