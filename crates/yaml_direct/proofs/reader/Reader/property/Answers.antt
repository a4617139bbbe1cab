-- An anchor, a tag, or neither.
use Rattle.std.proofs.Common.{ap, sym, ◌+◌, ◌∙◌}
use Rattle.std.specs.Option.{option_map}
use Rattle.yaml_direct.proofs.NameLaws.{a_tag, an_anchor, anchor_held, anchored, neither, spaces_are, tag_held, tagged}
use Rattle.yaml_direct.proofs.ReaderLaws.{no_such_place}
use Rattle.yaml_direct.proofs.reader.Reader.property.Goals as goal

pub returns-then-begins_anchor-clause-found : goal.returns-then-begins_anchor-clause-found
returns-then-begins_anchor-clause-found c =
    let text = c.args.self.now.text.now in
    let names = c.args.self.now.names in
    let spaces = c.spaces_end-place.ensures in
    let place = c.spaces_end-place.result in
    λ h some.
    let found = c.anchor.ensures.found h some in
    anchor_held text c.args.flow c.args.from place c.anchor.result names.anchor names.tag _
    (spaces_are text c.args.from place spaces.forward spaces.within spaces.blanks spaces.over)
    (sym c.begins_anchor.ensures.read ∙ c.if-begins_anchor.true) found.0 found.1

pub returns-then-begins_anchor-clause-missed : goal.returns-then-begins_anchor-clause-missed
returns-then-begins_anchor-clause-missed c =
    let text = c.args.self.now.text.now in
    let names = c.args.self.now.names in
    let spaces = c.spaces_end-place.ensures in
    let place = c.spaces_end-place.result in
    λ h none fed.
    an_anchor text c.args.flow c.args.from place names.anchor names.tag
    (spaces_are text c.args.from place spaces.forward spaces.within spaces.blanks spaces.over)
    (sym c.begins_anchor.ensures.read ∙ c.if-begins_anchor.true)
    ∙ ap (option_map (anchored text names.tag (place + 1))) (c.anchor.ensures.missed h none fed)

pub returns-then-begins_tag-clause-found : goal.returns-then-begins_tag-clause-found
returns-then-begins_tag-clause-found c =
    let text = c.args.self.now.text.now in
    let names = c.args.self.now.names in
    let spaces = c.spaces_end-place.ensures in
    let place = c.spaces_end-place.result in
    λ h some.
    let found = c.tag.ensures.found h some in
    tag_held text c.args.flow c.args.from place c.tag.result names.anchor names.tag found.tag _
    (spaces_are text c.args.from place spaces.forward spaces.within spaces.blanks spaces.over)
    (sym c.begins_anchor.ensures.read ∙ c.if-begins_anchor.false)
    (sym c.begins_tag.ensures.read ∙ c.if-begins_tag.true) found.read found.held

pub returns-then-begins_tag-clause-missed : goal.returns-then-begins_tag-clause-missed
returns-then-begins_tag-clause-missed c =
    let text = c.args.self.now.text.now in
    let names = c.args.self.now.names in
    let spaces = c.spaces_end-place.ensures in
    let place = c.spaces_end-place.result in
    λ h none fed.
    a_tag text c.args.flow c.args.from place names.anchor names.tag
    (spaces_are text c.args.from place spaces.forward spaces.within spaces.blanks spaces.over)
    (sym c.begins_anchor.ensures.read ∙ c.if-begins_anchor.false)
    (sym c.begins_tag.ensures.read ∙ c.if-begins_tag.true)
    ∙ ap (option_map (tagged names.anchor)) (c.tag.ensures.missed h none fed)

pub returns-clause-found : goal.returns-clause-found
returns-clause-found c =
    let text = c.args.self.now.text.now in
    let names = c.args.self.now.names in
    let spaces = c.spaces_end-place.ensures in
    let place = c.spaces_end-place.result in
    λ h some.
    neither text c.args.flow c.args.from place names.anchor names.tag
    (spaces_are text c.args.from place spaces.forward spaces.within spaces.blanks spaces.over)
    (sym c.begins_anchor.ensures.read ∙ c.if-begins_anchor.false)
    (sym c.begins_tag.ensures.read ∙ c.if-begins_tag.false)

pub returns-clause-missed : goal.returns-clause-missed
returns-clause-missed c =
    λ h none fed. absurd (no_such_place c.args.self.now c.args.from c.requires none)
