-- All bytes stand for themselves.
use Rattle.std.proofs.Common.{Some, ap, sym, ◌++◌, ◌∙◌}
use Rattle.yaml_direct.proofs.TagLaws.{tag_plain}
use Rattle.yaml_direct.proofs.tag.joined.Goals as goal

pub returns-in_ok-extend_from_slice-in-None : goal.returns-in_ok-extend_from_slice-in-None
returns-in_ok-extend_from_slice-in-None c =
    ap (λ x. Some x) (c.new.ensures ∙ (c.in_ok-extend_from_slice-in-None.ensures.items
    ∙ ap (λ x. x ++ c.args.suffix.now) c.in_ok-text.ensures.items))
    ∙ sym (tag_plain c.args.prefix.now c.args.suffix.now c.in-None.ensures c.requires)
