-- A tag that ends, and one that does not.
use Rattle.std.proofs.Common.{◌≡◌, ◌+◌, ◌∙◌, ap, drop, false, subst, sym, true}
use Rattle.yaml_direct.specs.Tags.{handle_as}
use Rattle.yaml_direct.proofs.TagBytes.{simple_part}
use Rattle.yaml_direct.proofs.TagLaws.{closed_is, ended_tag, tag_is}
use Rattle.yaml_direct.proofs.tag.tag_at.Goals as goal
use Rattle.yaml_direct.proofs.tag.tag_at.Goals.{else-stop-start-via-then-stop-start+else-not-is_local}
use Rattle.yaml_direct.proofs.tag.tag_at.Goals.{else-stop-start-via-else-stop-start}
use Rattle.yaml_grammar.specs.Names.{count_while, handle_of, is_local, is_tag_byte}

pub returns-then-not-ends_tag-clause-missed : goal.returns-then-not-ends_tag-clause-missed
returns-then-not-ends_tag-clause-missed c =
    let text = c.args.text.now in
    let from = c.args.from in
    let handle = handle_as c.handle_of-handle.result in
    let start = from + c.opening_size.result in
    let stop = c.tag_text_end-stop.result in
    let some : stop ≡ start → is_local handle ≡ true = λ e. elim c.else-stop-start.branch [
      | else-stop-start-via-then-stop-start+else-not-is_local w ↦ sym w.is_local.ensures ∙ w.if-not-is_local.false
      | else-stop-start-via-else-stop-start w ↦ absurd (w.if-stop-start.false e)
    ] in
    λ h none.
    tag_is text c.args.flow from start stop handle (c.handle_of-handle.ensures ∙ ap handle_of c.at.ensures.value)
    (ap (λ n. from + n) c.opening_size.ensures)
    (subst (λ w. stop ≡ start + count_while (is_tag_byte w) (drop start text)) c.is_whole.ensures
    c.tag_text_end-stop.ensures.read)
    ∙ ended_tag text c.args.flow handle start stop c.in_ok-end.end false some c.tag_text_end-stop.ensures.forward
    (closed_is text handle stop c.in_ok-end.end (sym c.in_ok-end.ensures.read))
    (sym (c.ends_tag.ensures h) ∙ c.if-not-ends_tag.true)

pub returns-clause-found : goal.returns-clause-found
returns-clause-found c =
    let text = c.args.text.now in
    let from = c.args.from in
    let handle = handle_as c.handle_of-handle.result in
    let start = from + c.opening_size.result in
    let stop = c.tag_text_end-stop.result in
    let some : stop ≡ start → is_local handle ≡ true = λ e. elim c.else-stop-start.branch [
      | else-stop-start-via-then-stop-start+else-not-is_local w ↦ sym w.is_local.ensures ∙ w.if-not-is_local.false
      | else-stop-start-via-else-stop-start w ↦ absurd (w.if-stop-start.false e)
    ] in
    λ h.
    tag_is text c.args.flow from start stop handle (c.handle_of-handle.ensures ∙ ap handle_of c.at.ensures.value)
    (ap (λ n. from + n) c.opening_size.ensures)
    (subst (λ w. stop ≡ start + count_while (is_tag_byte w) (drop start text)) c.is_whole.ensures
    c.tag_text_end-stop.ensures.read)
    ∙ ended_tag text c.args.flow handle start stop c.in_ok-end.end true some c.tag_text_end-stop.ensures.forward
    (closed_is text handle stop c.in_ok-end.end (sym c.in_ok-end.ensures.read))
    (sym (c.ends_tag.ensures h) ∙ c.if-not-ends_tag.false)

pub returns-clause-simple : goal.returns-clause-simple
returns-clause-simple c =
    simple_part c.args.text.now c.is_whole.result (c.args.from + c.opening_size.result) c.tag_text_end-stop.result
    c.tag_text_end-stop.ensures.read
